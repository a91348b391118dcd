-- How a list of tokens is cut, and how its parts make one phrase.
use Rattle.std.proofs.Common.{◌≡◌, ℕ, List, [], ◌∷◌, ◌++◌, refl, ap, sym, ◌∙◌, subst, append_assoc, append-nil}
use Rattle.fd_words.specs.declared.source.SourcePlace.{SourcePlace}
use Rattle.fd_lexer.specs.declared.token.Token.{Token}
use Rattle.fd_syntax.specs.declared.scalar.Scalar.{Scalar}
use Rattle.fd_syntax.specs.declared.declaration.Listed.{Listed}
use Rattle.fd_grammar.specs.declared.sort.Sort.TheVariants as sort
use Rattle.fd_grammar.specs.Grammar.{Is, IsScalar}

-- a phrase of this kind stands at the front, and the rest means what follows
pub record Front {A : Type 0} (phrase : List Token → A → Type 0) (rest : A → List Token → Type 0) (ts : List Token) : Type 0 where
  pub front : List Token
  pub back : List Token
  pub value : A
  pub split : ts ≡ front ++ back
  pub is : phrase front value
  pub goes_on : rest value back

-- one token stands at the front
pub record First (test : Token → Type 0) (rest : List Token → Type 0) (ts : List Token) : Type 0 where
  pub token : Token
  pub back : List Token
  pub split : ts ≡ token ∷ back
  pub is : test token
  pub goes_on : rest back

-- a name stands at the front
pub record FirstName (rest : Listed → List Token → Type 0) (ts : List Token) : Type 0 where
  pub token : Token
  pub name : List ℕ
  pub back : List Token
  pub split : ts ≡ token ∷ back
  pub is : Is (sort.Named name) token
  pub goes_on : rest (record { name = name; at = token.at }) back

-- a scalar stands at the front, and the rest depends on its place too
pub record FrontPlaced (rest : SourcePlace → Scalar → List Token → Type 0) (ts : List Token) : Type 0 where
  pub token : Token
  pub front : List Token
  pub back : List Token
  pub value : Scalar
  pub split : ts ≡ token ∷ (front ++ back)
  pub is : IsScalar (token ∷ front) value
  pub goes_on : rest token.at value back

-- a phrase and a line end stand at the front
abbrev pub Line : {A : Type 0} → (List Token → A → Type 0) → (A → List Token → Type 0) → List Token → Type 0
Line phrase rest = Front phrase (λ x. First (Is sort.LineEnd) (rest x))

-- tokens that go on from one phrase to another
abbrev pub Extends : {A : Type 0} → (List Token → A → Type 0) → A → List Token → A → Type 0
Extends phrase x ts y = (before : List Token) → phrase before x → phrase (before ++ ts) y

-- nothing, and the same
pub stays : {A : Type 0} (phrase : List Token → A → Type 0) (x : A) → Extends phrase x [] x
stays phrase x before h = subst (λ l. phrase l x) (sym (append-nil before)) h

-- two parts, one behind the other, behind these tokens
pub joined : (ps ts f b f' b' : List Token) → ts ≡ f ++ b → b ≡ f' ++ b' → ps ++ ts ≡ (ps ++ (f ++ f')) ++ b'
joined ps ts f b f' b' e g =
    ap (λ l. ps ++ l) (e ∙ ap (λ l. f ++ l) g ∙ sym (append_assoc f f' b')) ∙ sym (append_assoc ps (f ++ f') b')

-- ---- what stands at the front

pub no_token : {A : Type 0} {all : List Token → A → Type 0} {rest : A → List Token → Type 0} (x : A) (ts : List Token) → all [] x
    → rest x ts → Front all rest ts
no_token x ts i m = record { front = []; back = ts; value = x; split = refl; is = i; goes_on = m }

pub one_token : {A : Type 0} {all : List Token → A → Type 0} {rest : A → List Token → Type 0} (x : A) (t : Token) (ts : List Token)
    → all (t ∷ []) x → rest x ts → Front all rest (t ∷ ts)
one_token x t ts i m = record { front = t ∷ []; back = ts; value = x; split = refl; is = i; goes_on = m }

pub two_tokens : {A : Type 0} {all : List Token → A → Type 0} {rest : A → List Token → Type 0} {test : Token → Type 0} {ts : List Token}
    (x : A) (t : Token) → First test (rest x) ts → ((c : Token) → test c → all (t ∷ c ∷ []) x) → Front all rest (t ∷ ts)
two_tokens x t m make = record {
  front = t ∷ m.token ∷ [];
  back = m.back;
  value = x;
  split = ap (λ l. t ∷ l) m.split;
  is = make m.token m.is;
  goes_on = m.goes_on;
}

-- these tokens, and a phrase that makes another with them
pub behind_tokens : {A B : Type 0} {one : List Token → A → Type 0} {all : List Token → B → Type 0} {rest : B → List Token → Type 0}
    {ts : List Token} (f : A → B) (ps : List Token) → Front one (λ x. rest (f x)) ts
    → ((us : List Token) (x : A) → one us x → all (ps ++ us) (f x)) → Front all rest (ps ++ ts)
behind_tokens f ps m make = record {
  front = ps ++ m.front;
  back = m.back;
  value = f m.value;
  split = ap (λ l. ps ++ l) m.split ∙ sym (append_assoc ps m.front m.back);
  is = make m.front m.value m.is;
  goes_on = m.goes_on;
}

-- these tokens, a phrase, and a token that closes it
pub closed_by : {A B : Type 0} {one : List Token → A → Type 0} {test : Token → Type 0} {all : List Token → B → Type 0}
    {rest : B → List Token → Type 0} {ts : List Token} (f : A → B) (ps : List Token) → Front one (λ x. First test (rest (f x))) ts
    → ((us : List Token) (x : A) (c : Token) → one us x → test c → all (ps ++ (us ++ c ∷ [])) (f x)) → Front all rest (ps ++ ts)
closed_by f ps m make =
    let w = m.goes_on in
    record {
      front = ps ++ (m.front ++ w.token ∷ []);
      back = w.back;
      value = f m.value;
      split = joined ps _ m.front m.back (w.token ∷ []) w.back m.split w.split;
      is = make m.front m.value w.token m.is w.is;
      goes_on = w.goes_on;
    }

-- these tokens, and two phrases that make one with them
pub two_phrases : {A B C : Type 0} {one : List Token → A → Type 0} {two : A → List Token → B → Type 0} {all : List Token → C → Type 0}
    {rest : C → List Token → Type 0} {ts : List Token} (f : B → C) (ps : List Token)
    → Front one (λ x. Front (two x) (λ y. rest (f y))) ts
    → ((us vs : List Token) (x : A) (y : B) → one us x → two x vs y → all (ps ++ (us ++ vs)) (f y)) → Front all rest (ps ++ ts)
two_phrases f ps m make =
    let w = m.goes_on in
    record {
      front = ps ++ (m.front ++ w.front);
      back = w.back;
      value = f w.value;
      split = joined ps _ m.front m.back w.front w.back m.split w.split;
      is = make m.front w.front m.value w.value m.is w.is;
      goes_on = w.goes_on;
    }

-- a phrase behind these tokens begins another, which goes on
pub begun_with : {A B : Type 0} {one : List Token → A → Type 0} {rest : B → List Token → Type 0} {ts : List Token}
    (all : List Token → B → Type 0) (f : A → B) (ps : List Token) → Front one (λ x. Front (Extends all (f x)) rest) ts
    → ((us : List Token) (x : A) → one us x → all (ps ++ us) (f x)) → Front all rest (ps ++ ts)
begun_with all f ps m make = two_phrases (λ y. y) ps m
    λ us vs x y i j. subst (λ l. all l y) (append_assoc ps us vs) (j (ps ++ us) (make us x i))

-- a phrase behind this token is added to what came before, and that goes on
pub goes_on_with : {A B : Type 0} {one : List Token → A → Type 0} {rest : B → List Token → Type 0} {ts : List Token}
    (all : List Token → B → Type 0) (f : A → B) (x : B) (t : Token) → Front one (λ y. Front (Extends all (f y)) rest) ts
    → ((before us : List Token) (y : A) → all before x → one us y → all (before ++ t ∷ us) (f y)) → Front (Extends all x) rest (t ∷ ts)
goes_on_with all f x t m add = two_phrases (λ z. z) (t ∷ []) m
    λ us vs y z i j before h. subst (λ l. all l z) (append_assoc before (t ∷ us) vs) (j (before ++ t ∷ us) (add before us y h i))

-- two phrases with a token between them; what follows them may be said in another way
pub around : {A B C : Type 0} {one : List Token → A → Type 0} {test : Token → Type 0} {more : A → List Token → B → Type 0}
    {after : A → B → List Token → Type 0} {all : List Token → C → Type 0} {rest : C → List Token → Type 0} {ts : List Token}
    (f : A → B → C) → ((x : A) (y : B) (us : List Token) → after x y us → rest (f x y) us)
    → Front one (λ x. First test (Front (more x) (after x))) ts
    → ((us vs : List Token) (x : A) (y : B) (c : Token) → one us x → test c → more x vs y → all (us ++ c ∷ vs) (f x y))
    → Front all rest ts
around f same m make =
    let c = m.goes_on in
    let w = c.goes_on in
    record {
      front = m.front ++ c.token ∷ w.front;
      back = w.back;
      value = f m.value w.value;
      split = m.split ∙ ap (λ l. m.front ++ l) (c.split ∙ ap (λ l. c.token ∷ l) w.split)
          ∙ sym (append_assoc m.front (c.token ∷ w.front) w.back);
      is = make m.front w.front m.value w.value c.token m.is c.is w.is;
      goes_on = same m.value w.value w.back w.goes_on;
    }
