-- The machine's answer is the answer.
use Rattle.std.proofs.Common.{◌≡◌, ℕ, ◌+◌, take, length-append, List, [], ◌∷◌, ◌++◌, ◌<◌, ◌≤◌, length, get_or, arith, Result, Ok, Err, refl}
use Rattle.std.proofs.Common.{ap, sym, ◌∙◌, subst, append_assoc, append-nil}
use Rattle.std.proofs.Math.Seq.{take-append_seam, get_or-append_seam}
use Rattle.fd_words.specs.declared.source.SourcePlace.{SourcePlace}
use Rattle.fd_lexer.specs.declared.token.Token.{Token}
use Rattle.fd_syntax.specs.declared.program.Program.{Program}
use Rattle.fd_grammar.specs.Machine.{State, after, run, start}
use Rattle.fd_grammar.specs.Grammar.{IsWrittenAs, CanBegin}
use Rattle.fd_grammar.specs.Complete.{reads_program}
use Rattle.fd_grammar.specs.Sound.{spelled}
use Rattle.fd_grammar.specs.Viable.{cut_of, ends}
use Rattle.fd_parser.specs.Depth.{Shallow, no_depth, IsDeep, IsDeepAt}
use Rattle.fd_parser.proofs.Depths.{shallow_front}
use Rattle.fd_parser.specs.Answer.{IsTheProgram, EndsEarly, IsUnexpected, IsFirstUnexpected, IsFirstTooDeep, IsAnyAnswer, IsAnswer}
use Rattle.fd_parser.specs.Answer.{answer_to, deep_stop}
use Rattle.fd_parser.specs.declared.answer.Trouble.{Trouble}
use Rattle.fd_parser.specs.declared.answer.Trouble.TheVariants.{Memory, NoEnd, Unexpected}

pub the_program : (ts : List Token) (p : Program) → run ts start ≡ Ok p → IsTheProgram ts p
the_program ts p e = record { has = spelled ts p e; only = λ q h. let f = reads_program h in cc }

-- what leads to a state can begin a program
can_begin : (before : List Token) (s : State) → ((more : List Token) → run (before ++ more) start ≡ run more s) → CanBegin before
can_begin before s leads =
    let r = ends s in
    (r.0, r.1, spelled (before ++ r.0) r.1 (leads r.0 ∙ r.2))

pub ends_early : (ts : List Token) → run ts start ≡ Err [] → EndsEarly ts
ends_early ts e =
    let c = cut_of ts start [] e in
    let same : ts ≡ c.before = c.split ∙ append-nil c.before in
    record {
      begins = subst CanBegin (sym same) (can_begin c.before c.state c.leads);
      no_program = λ p h. let f = reads_program h in cc;
    }

pub unexpected : (ts : List Token) (t : Token) (us : List Token) → run ts start ≡ Err (t ∷ us) → IsUnexpected ts t
unexpected ts t us e =
    let c = cut_of ts start (t ∷ us) e in
    record {
      before = c.before;
      after = us;
      split = c.split;
      begins = can_begin c.before c.state c.leads;
      stops = λ (more, p, h).
          let f = reads_program h in
          let g = ap (λ l. run l start) (append_assoc c.before (t ∷ []) more) ∙ c.leads (t ∷ more) ∙ ap (after t more (run more)) c.stuck in
          cc;
    }

pub ends_here : (ts rest : List Token) → run ts start ≡ Err rest → length rest < 1 → EndsEarly ts
ends_here ts [] e h = ends_early ts e
ends_here ts (t ∷ us) e h = absurd (omega arith)

pub stops_here : (ts rest : List Token) (d : Token) → run ts start ≡ Err rest → 1 ≤ length rest → IsUnexpected ts (get_or rest 0 d)
stops_here ts [] d e h = absurd (omega arith)
stops_here ts (t ∷ us) d e h = unexpected ts t us e

-- what ends before the last token of a list lies in its front
front_of : (b : List Token) (t : Token) (c : List Token) (u : Token) (a : List Token) → b ++ t ∷ [] ≡ c ++ u ∷ a → (d : List Token)
    × (b ≡ c ++ d)
front_of b t [] u a e = (b, refl)
front_of [] t (x ∷ []) u a e = cc
front_of [] t (x ∷ y ∷ c) u a e = cc
front_of (x ∷ b) t (y ∷ c) u a e =
    let r = front_of b t c u a cc in
    let same : x ≡ y = cc in
    (r.0, ap (λ l. x ∷ l) r.1 ∙ ap (λ z. z ∷ (c ++ r.0)) same)

pub all_shallow : (ts : List Token) (t : Token) → Shallow no_depth ts → IsUnexpected ts t → IsFirstUnexpected ts t
all_shallow ts t s u =
    record { is = u; shallow = shallow_front no_depth u.before (t ∷ u.after) (subst (λ l. Shallow no_depth l) u.split s) }

part_of : (ts : List Token) (i : ℕ) (d : IsDeepAt ts i) → take (i + 1) ts ≡ d.before ++ d.token ∷ []
part_of ts i d =
    let again : ts ≡ (d.before ++ d.token ∷ []) ++ d.after = d.split ∙ sym (append_assoc d.before (d.token ∷ []) d.after) in
    let len : i + 1 ≡ length (d.before ++ d.token ∷ []) = omega (arith, d.place, length-append d.before (d.token ∷ [])) in
    ap (λ l. take (i + 1) l) again ∙ ap (λ n. take n ((d.before ++ d.token ∷ []) ++ d.after)) len
    ∙ take-append_seam (d.before ++ d.token ∷ []) d.after

pub unexpected_first : (ts : List Token) (i : ℕ) (t : Token) → IsDeepAt ts i → IsUnexpected (take (i + 1) ts) t → IsFirstUnexpected ts t
unexpected_first ts i t d u =
    let r = front_of d.before d.token u.before t u.after (sym (part_of ts i d) ∙ u.split) in
    let split : ts ≡ u.before ++ t ∷ (u.after ++ d.after) =
    d.split ∙ sym (append_assoc d.before (d.token ∷ []) d.after) ∙ ap (λ l. l ++ d.after) (sym (part_of ts i d) ∙ u.split)
    ∙ append_assoc u.before (t ∷ u.after) d.after in
    record {
      is = record { before = u.before; after = u.after ++ d.after; split = split; begins = u.begins; stops = u.stops };
      shallow = shallow_front no_depth u.before r.0 (subst (λ l. Shallow no_depth l) r.1 d.is.shallow);
    }

-- a part that can begin a program, up to what is too deep
pub deep_first : (ts : List Token) (i : ℕ) (t x : Token) → IsDeepAt ts i → get_or ts i x ≡ t → CanBegin (take (i + 1) ts)
    → IsFirstTooDeep ts t
deep_first ts i t x d e b =
    let same : d.token ≡ t = sym (ap (λ l. get_or l i x) d.split ∙ ap (λ n. get_or (d.before ++ d.token ∷ d.after) n x) (sym d.place)
    ∙ get_or-append_seam d.before d.token d.after x) ∙ e in
    record {
      before = d.before;
      after = d.after;
      split = d.split ∙ ap (λ u. d.before ++ u ∷ d.after) same;
      begins = subst CanBegin (part_of ts i d ∙ ap (λ u. d.before ++ u ∷ []) same) b;
      is = subst (λ u. IsDeep d.before u) same d.is;
    }

pub program_begins : (ts : List Token) (p : Program) → IsTheProgram ts p → CanBegin ts
program_begins ts p h = ([], p, subst (λ l. IsWrittenAs p l) (sym (append-nil ts)) h.has)

pub answer_shallow : (ts : List Token) (end : SourcePlace) (r : Result Program Trouble) → Shallow no_depth ts → IsAnyAnswer ts r
    → IsAnswer ts end (answer_to r end)
answer_shallow ts end (Ok p) s a = (a, s)
answer_shallow ts end (Err Memory) s a = a
answer_shallow ts end (Err NoEnd) s a = (a, s, refl)
answer_shallow ts end (Err (Unexpected t)) s a = (t, all_shallow ts t s a, refl)

pub answer_deep : (ts : List Token) (end : SourcePlace) (i : ℕ) (t x : Token) (r : Result Program Trouble) → IsDeepAt ts i
    → get_or ts i x ≡ t → IsAnyAnswer (take (i + 1) ts) r → IsAnswer ts end (Err (deep_stop r t))
answer_deep ts end i t x (Ok p) d e a = (t, deep_first ts i t x d e (program_begins (take (i + 1) ts) p a), refl)
answer_deep ts end i t x (Err Memory) d e a = a
answer_deep ts end i t x (Err NoEnd) d e a = (t, deep_first ts i t x d e a.begins, refl)
answer_deep ts end i t x (Err (Unexpected u)) d e a = (u, unexpected_first ts i u d a, refl)
