-- What a test of a token says of it.
use Rattle.std.proofs.Common.{◌≡◌, ℕ, pos, true, List, Some, refl, ap}
use Rattle.std.proofs.lemmas.Bool.Decides.{Decides-int_eq}
use Rattle.fd_words.specs.declared.arith.Arith.{Arith}
use Rattle.fd_words.specs.declared.arith.Arith.TheVariants.{Plus, Minus, Times}
use Rattle.fd_grammar.specs.declared.sort.Sort.{Sort}
use Rattle.fd_grammar.specs.declared.sort.Sort.TheVariants as sort
use Rattle.fd_grammar.specs.declared.mark.Mark.{Mark}
use Rattle.fd_grammar.specs.declared.mark.Mark.TheVariants as mark
use Rattle.fd_grammar.specs.declared.mark.Fixed.{Fixed}
use Rattle.fd_grammar.specs.declared.mark.Fixed.TheVariants as fixed
use Rattle.fd_grammar.specs.Sorts.{name_of, sign_by, times_of, opens}
use Rattle.fd_grammar.specs.Machine.{is_mark, is_fixed}

abbrev pub mark_sort : Mark → Sort
mark_sort mark.Close = sort.Close
mark_sort mark.Comma = sort.Comma
mark_sort mark.Equals = sort.Equals
mark_sort mark.Line = sort.LineEnd
mark_sort mark.With = sort.WithWord

pub mark_is : (m : Mark) (c : Sort) → is_mark m c ≡ true → c ≡ mark_sort m
mark_is mark.Close sort.Close h = refl
mark_is mark.Comma sort.Comma h = refl
mark_is mark.Equals sort.Equals h = refl
mark_is mark.Line sort.LineEnd h = refl
mark_is mark.With sort.WithWord h = refl
mark_is _ _ h = cc

abbrev pub fixed_sort : Fixed → Sort
fixed_sort fixed.Open = sort.Open
fixed_sort fixed.Star = sort.Star
fixed_sort fixed.Eight = sort.Numbered (pos 8)
fixed_sort fixed.Do = sort.DoWord
fixed_sort fixed.Forall = sort.ForallWord

pub fixed_is : (f : Fixed) (c : Sort) → is_fixed f c ≡ true → c ≡ fixed_sort f
fixed_is fixed.Open sort.Open h = refl
fixed_is fixed.Star sort.Star h = refl
fixed_is fixed.Eight (sort.Numbered value) h = ap sort.Numbered ((Decides-int_eq value (pos 8)).0 h)
fixed_is fixed.Do sort.DoWord h = refl
fixed_is fixed.Forall sort.ForallWord h = refl
fixed_is _ _ h = cc

pub opens_is : (c : Sort) → opens c ≡ true → c ≡ sort.Open
opens_is sort.Open h = refl
opens_is _ h = cc

pub name_is : (c : Sort) (name : List ℕ) → name_of c ≡ Some name → c ≡ sort.Named name
name_is (sort.Named n) name h = let e : n ≡ name = cc in ap sort.Named e
name_is _ name h = cc

abbrev pub op_sort : Arith → Sort
op_sort Plus = sort.Plus
op_sort Minus = sort.Minus
op_sort Times = sort.Star

pub sign_is : (c : Sort) (op : Arith) → sign_by c ≡ Some op → c ≡ op_sort op
sign_is sort.Plus op h = let e : Plus ≡ op = cc in ap op_sort e
sign_is sort.Minus op h = let e : Minus ≡ op = cc in ap op_sort e
sign_is _ op h = cc

pub no_times_sign : (c : Sort) → sign_by c ≡ Some Times → ⊥
no_times_sign c h = let e = ap sign_by (sign_is c Times h) in cc

pub times_is : (c : Sort) (op : Arith) → times_of c ≡ Some op → (c ≡ sort.Star) × (Times ≡ op)
times_is sort.Star op h = (refl, cc)
times_is _ op h = cc
