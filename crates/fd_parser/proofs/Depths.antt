-- Depths along a list.
use Rattle.std.proofs.Common.{◌≡◌, ℕ, ◌+◌, ◌<◌, suc, true, false, List, [], ◌∷◌, ◌++◌, length, take, drop, get_or, refl, ap, sym, ◌∙◌}
use Rattle.std.proofs.Common.{subst, arith, length-take, drop-cons, add-one}
use Rattle.std.proofs.Math.Seq.{take-suc}
use Rattle.std.proofs.lemmas.List.{take-append-drop}
use Rattle.fd_lexer.specs.declared.token.Token.{Token}
use Rattle.fd_parser.specs.declared.depth.Depth.{Depth}
use Rattle.fd_grammar.specs.Sorts.{sort_of}
use Rattle.fd_parser.specs.Depth.{Shallow, depth_after, too_deep, next_depth, no_depth, IsDeepAt}

pub shallow_more : (d : Depth) (ts : List Token) (t : Token) → Shallow d ts → too_deep (depth_after d ts) (sort_of t.kind) ≡ false
    → Shallow d (ts ++ t ∷ [])
unfolding Shallow depth_after
shallow_more d [] t s h = (h, tt)
shallow_more d (u ∷ us) t s h = (s.0, shallow_more (next_depth d (sort_of u.kind)) us t s.1 h)

pub depth_more : (d : Depth) (ts : List Token) (t : Token) → depth_after d (ts ++ t ∷ []) ≡ next_depth (depth_after d ts) (sort_of t.kind)
unfolding depth_after
depth_more d [] t = refl
depth_more d (u ∷ us) t = depth_more (next_depth d (sort_of u.kind)) us t

pub shallow_front : (d : Depth) (ts us : List Token) → Shallow d (ts ++ us) → Shallow d ts
unfolding Shallow
shallow_front d [] us s = tt
shallow_front d (t ∷ ts) us s = (s.0, shallow_front (next_depth d (sort_of t.kind)) ts us s.1)

pub nothing_deep : Shallow no_depth []
unfolding Shallow
nothing_deep = tt

pub no_tokens : no_depth ≡ depth_after no_depth []
unfolding depth_after
no_tokens = refl

pub deep_at : (ts : List Token) (i : ℕ) (d : Token) (now : Depth) → i < length ts → Shallow no_depth (take i ts)
    → now ≡ depth_after no_depth (take i ts) → too_deep now (sort_of (get_or ts i d).kind) ≡ true → IsDeepAt ts i
deep_at ts i d now h s e g = record {
  before = take i ts;
  token = get_or ts i d;
  after = drop (suc i) ts;
  split = sym (take-append-drop i ts) ∙ ap (λ r. take i ts ++ r) (drop-cons ts i d h);
  place = omega (arith, length-take i ts);
  is = record { shallow = s; deep = subst (λ n. too_deep n (sort_of (get_or ts i d).kind) ≡ true) e g };
}

pub still_shallow : (ts : List Token) (i : ℕ) (d : Token) (now : Depth) → i < length ts → Shallow no_depth (take i ts)
    → now ≡ depth_after no_depth (take i ts) → too_deep now (sort_of (get_or ts i d).kind) ≡ false → Shallow no_depth (take (i + 1) ts)
still_shallow ts i d now h s e g = rw (add-one, take-suc ts i d h) (shallow_more no_depth (take i ts) (get_or ts i d) s
    (subst (λ n. too_deep n (sort_of (get_or ts i d).kind) ≡ false) e g))

pub next_known : (ts : List Token) (i : ℕ) (d : Token) (now : Depth) → i < length ts → now ≡ depth_after no_depth (take i ts)
    → next_depth now (sort_of (get_or ts i d).kind) ≡ depth_after no_depth (take (i + 1) ts)
next_known ts i d now h e = rw (add-one, take-suc ts i d h) (ap (λ n. next_depth n (sort_of (get_or ts i d).kind)) e
    ∙ sym (depth_more no_depth (take i ts) (get_or ts i d)))

-- the same, for an element that a loop has read

pub deep_here : (ts : List Token) (i : ℕ) (u : Token) (now : Depth) → i < length ts → u ≡ get_or ts i u → Shallow no_depth (take i ts)
    → now ≡ depth_after no_depth (take i ts) → too_deep now (sort_of u.kind) ≡ true → IsDeepAt ts i
deep_here ts i u now h q s e g = deep_at ts i u now h s e (subst (λ v. too_deep now (sort_of v.kind) ≡ true) q g)

pub still_here : (ts : List Token) (i : ℕ) (u : Token) (now : Depth) → i < length ts → u ≡ get_or ts i u → Shallow no_depth (take i ts)
    → now ≡ depth_after no_depth (take i ts) → too_deep now (sort_of u.kind) ≡ false → Shallow no_depth (take (i + 1) ts)
still_here ts i u now h q s e g = still_shallow ts i u now h s e (subst (λ v. too_deep now (sort_of v.kind) ≡ false) q g)

pub next_here : (ts : List Token) (i : ℕ) (u : Token) (now : Depth) → i < length ts → u ≡ get_or ts i u
    → now ≡ depth_after no_depth (take i ts) → next_depth now (sort_of u.kind) ≡ depth_after no_depth (take (i + 1) ts)
next_here ts i u now h q e = ap (λ v. next_depth now (sort_of v.kind)) q ∙ next_known ts i u now h e
