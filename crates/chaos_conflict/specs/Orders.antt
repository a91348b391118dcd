-- A test that tells where a total order answers `Less`.
use Rattle.std.specs.Prelude.{◌≡◌, refl, ℕ, nat_lt, ℤ, int_lt, Bool, true, false, cond, ◌&&◌, ◌||◌, ◌==◌}
use Rattle.std.specs.Ordering.{nat_cmp, int_cmp, int_eq, is_lt, is_gt, is_eq, ordering_then, ordering_reverse}
use Rattle.std.specs.Cmp.{IsTotalOrder, upto, tied_itself}
use Rattle.std.proofs.Common.{Ordering, Less, Equal, Greater, ap, sym, ◌∙◌, true≢false}

-- ---- such a test by two keys

nat_key : (p : Bool) (o : Ordering) → p ≡ is_lt o → (b c : Bool)
    → (b || (c && p)) ≡ is_lt (ordering_then (cond b Less (cond c Equal Greater)) o)
nat_key p o e true c = refl
nat_key p o e false true = e
nat_key p o e false false = refl

int_key : (p : Bool) (o : Ordering) → p ≡ is_lt o → (b c : Bool)
    → (b || (is_eq (cond b Less (cond c Greater Equal)) && p)) ≡ is_lt (ordering_then (cond b Less (cond c Greater Equal)) o)
int_key p o e true c = refl
int_key p o e false true = refl
int_key p o e false false = e

pub by_number : (x y : ℕ) (p : Bool) (o : Ordering) → p ≡ is_lt o
    → (nat_lt x y || (x == y && p)) ≡ is_lt (ordering_then (nat_cmp x y) o)
by_number x y p o e = nat_key p o e (nat_lt x y) (x == y)

pub by_integer : (x y : ℤ) (p : Bool) (o : Ordering) → p ≡ is_lt o
    → (int_lt x y || (int_eq x y && p)) ≡ is_lt (ordering_then (int_cmp x y) o)
by_integer x y p o e = int_key p o e (int_lt x y) (int_lt y x)

pub last_number : (x y : ℕ) → nat_lt x y ≡ is_lt (nat_cmp x y)
last_number x y = by (nat_lt x y) (x == y)
  where
    by : (b c : Bool) → b ≡ is_lt (cond b Less (cond c Equal Greater))
    by true c = refl
    by false true = refl
    by false false = refl

pub last_integer : (x y : ℤ) → int_lt x y ≡ is_lt (int_cmp x y)
last_integer x y = by (int_lt x y) (int_lt y x)
  where
    by : (b c : Bool) → b ≡ is_lt (cond b Less (cond c Greater Equal))
    by true c = refl
    by false true = refl
    by false false = refl

-- ---- what an answer tells

less_when : (r : Ordering) → is_lt r ≡ true → r ≡ Less
less_when Less e = refl
less_when Equal e = absurd (true≢false (sym e))
less_when Greater e = absurd (true≢false (sym e))

turned : (r : Ordering) → is_gt (ordering_reverse r) ≡ is_lt r
turned Less = refl
turned Equal = refl
turned Greater = refl

turned_back : (r : Ordering) → is_lt (ordering_reverse r) ≡ is_gt r
turned_back Less = refl
turned_back Equal = refl
turned_back Greater = refl

not_both : (r : Ordering) → is_lt r ≡ true → is_gt r ≡ false
not_both Less e = refl
not_both Equal e = refl
not_both Greater e = absurd (true≢false (sym e))

equal_when : (r : Ordering) → is_lt r ≡ false → is_gt r ≡ false → r ≡ Equal
equal_when Less e f = absurd (true≢false e)
equal_when Equal e f = refl
equal_when Greater e f = absurd (true≢false f)

module _ {K : Type 0} (R : K → K → Ordering) (o : IsTotalOrder R) (less : K → K → Bool) (tells : (a b : K) → less a b ≡ is_lt (R a b)) where
  pub less_is : (a b : K) → less a b ≡ true → R a b ≡ Less
  less_is a b e = less_when (R a b) (sym (tells a b) ∙ e)

  pub is_so : (a b : K) → R a b ≡ Less → less a b ≡ true
  is_so a b e = tells a b ∙ ap is_lt e

  -- less the other way round
  more_is : (a b : K) → less a b ≡ is_gt (R b a)
  more_is a b = tells a b ∙ ap is_lt (o.antisymm a b) ∙ turned_back (R b a)

  pub less_trans : (a b c : K) → less a b ≡ true → less b c ≡ true → less a c ≡ true
  less_trans a b c e f = is_so a c (o.trans a b c (less_is a b e) (less_is b c f))

  pub not_less_trans : (a b c : K) → less a b ≡ false → less b c ≡ false → less a c ≡ false
  not_less_trans a b c e f = more_is a c ∙ upto o c b a (sym (more_is b c) ∙ f) (sym (more_is a b) ∙ e)

  pub not_less_itself : (a : K) → less a a ≡ false
  not_less_itself a = tells a a ∙ ap is_lt (tied_itself o a)

  pub not_less_back : (a b : K) → less a b ≡ true → less b a ≡ false
  not_less_back a b e = more_is b a ∙ not_both (R a b) (sym (tells a b) ∙ e)

  pub never_both : (a b : K) → less a b ≡ true → less b a ≡ true → ⊥
  never_both a b e f = true≢false (sym f ∙ not_less_back a b e)

  pub same_if_neither : ((a b : K) → R a b ≡ Equal → a ≡ b) → (a b : K) → less a b ≡ false → less b a ≡ false → a ≡ b
  same_if_neither exact a b e f = exact a b (equal_when (R a b) (sym (tells a b) ∙ e) (sym (more_is b a) ∙ f))
