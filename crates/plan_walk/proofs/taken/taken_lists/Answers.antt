use Rattle.std.proofs.Common.{◌≡◌, refl, ap, ◌∙◌, ◌++◌, map, ℕ, suc, zero, ◌-◌, ◌≤◌, length, take, drop, List, [], ◌∷◌, arith, append_assoc}
use Rattle.std.proofs.Common.{length-drop}
use Rattle.std.specs.Prelude.{ℤ, min}
use Rattle.chaos_letter.specs.declared.letter.Letter.{Letter}
use Rattle.plan_walk.specs.Letters.{put_in, numbers_of}
use Rattle.plan_walk.proofs.taken.taken_lists.Goals as goal

take_all : {A : Type 0} (n : ℕ) (xs : List A) → length xs ≤ n → take n xs ≡ xs
take_all zero [] h = refl
take_all zero (x ∷ xs) h = absurd (omega arith)
take_all (suc n) [] h = refl
take_all {A} (suc n) (x ∷ xs) h = ap (λ (l : List A). x ∷ l) (take_all n xs (omega (arith, h)))

put_at : (me at : ℕ) (own : List ℤ) (got : List Letter) → at ≡ min me (length got)
    → map numbers_of (take at got) ++ own ∷ map numbers_of (drop at got) ≡ put_in me own (map numbers_of got)
put_at zero zero own got e = refl
put_at zero (suc at) own got e = absurd (omega (arith, e))
put_at (suc me) zero own [] e = refl
put_at (suc me) zero own (x ∷ got) e = absurd (omega (arith, e))
put_at (suc me) (suc at) own [] e = absurd (omega (arith, e))
put_at (suc me) (suc at) own (x ∷ got) e = ap (λ (l : List (List ℤ)). x.numbers ∷ l) (put_at me at own got (omega (arith, e)))

pub returns : goal.returns
returns c =
    let at = c.min-at.result in
    let got = c.args.got.now in
    let own : c.in_ok-copy.field-0 ≡ c.args.own.now = c.in_ok-copy.ensures in
    let first : c.push_numbers.new.lists ≡ map numbers_of (take at got)
    = c.in_ok-push_numbers.ensures ∙ ap (λ (l : List (List ℤ)). l ++ map numbers_of (take at got)) c.new-lists.ensures in
    let rest : take (length got - at) (drop at got) ≡ drop at got = take_all (length got - at) (drop at got)
    (omega (arith, length-drop at got)) in
    c.in_ok-push_numbers-2.ensures
    ∙ ap (λ (l : List Letter). c.push.new.self ++ map numbers_of l) rest
    ∙ ap (λ (l : List (List ℤ)). l ++ map numbers_of (drop at got)) c.in_ok-push.ensures.ok
    ∙ append_assoc c.push_numbers.new.lists (c.in_ok-copy.field-0 ∷ []) (map numbers_of (drop at got))
    ∙ ap (λ (l : List (List ℤ)). l ++ c.in_ok-copy.field-0 ∷ map numbers_of (drop at got)) first
    ∙ ap (λ (l : List ℤ). map numbers_of (take at got) ++ l ∷ map numbers_of (drop at got)) own
    ∙ put_at c.args.me at c.args.own.now got c.min-at.ensures
