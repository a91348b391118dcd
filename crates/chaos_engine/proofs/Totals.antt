-- The counts of all nodes together.
use Rattle.std.specs.Prelude.{◌≡◌, refl, ℕ, zero, suc, ◌+◌, ◌<◌, List, [], ◌∷◌, length, map, fold, slice_get, ◌++◌, take, sum_by, ◌≤◌, Some}
use Rattle.std.specs.List.{range_with_len}
use Rattle.std.proofs.lemmas.List.Sums.{sum_by-cons}
use Rattle.std.proofs.Common.{ap, sym, subst, ◌∙◌, arith}
use Rattle.chaos_dist.specs.Counting.{below, map-below-one}
use Rattle.plan_run.specs.Rows.{RunPlan, run_in, scene_in}
use Rattle.fd_program.specs.Reports.{completed_of, count_at, counts_of, total_count}
use Rattle.fd_program.specs.declared.count.SiteCount.{SiteCount}
use Rattle.std.proofs.lemmas.List.{length-map, length_push}
use Rattle.bsp_core.specs.Turns.{AreDone}
use Rattle.bsp_core.specs.Views.{View}
use Rattle.chaos_entering.specs.State.{NodeState}
use Rattle.chaos_engine.specs.Counts.{first_count, more_count, total_among, total_counts}
use Rattle.plan_run.specs.StandLaws.{counted_at}

-- a node's counts at the end
abbrev pub node_counts : RunPlan → ℕ → List SiteCount
node_counts plan p = map (count_at (scene_in plan) (completed_of (run_in plan)) p) (below (length plan.checked.sites))

pub get_within : {A : Type 0} (xs : List A) (k : ℕ) (x : A) → slice_get xs k ≡ Some x → k < length xs
get_within [] k x e = cc
get_within (y ∷ ys) zero x e = omega arith
get_within (y ∷ ys) (suc k) x e = more (get_within ys k x e)
  where
    more : {k n : ℕ} → k < n → suc k < suc n
    more h = omega arith

-- ---- one FORALL

abbrev more_of : SiteCount → ℕ → ℕ → SiteCount
more_of c gathered scattered = record {
  executed = c.executed;
  inspected = c.inspected;
  gathered = c.gathered + gathered;
  scattered = c.scattered + scattered;
}

fold_more : (c : SiteCount) (counts : List SiteCount)
    → fold more_count c counts ≡ more_of c (sum_by (λ (x : SiteCount). x.gathered) counts) (sum_by (λ (x : SiteCount). x.scattered) counts)
fold_more c [] =
    ap (λ n. let x : SiteCount = record { executed = c.executed; inspected = c.inspected; gathered = n; scattered = c.scattered } in x)
    (let e : c.gathered ≡ c.gathered + 0 = omega arith in e)
    ∙ ap (λ n. let x : SiteCount = record { executed = c.executed; inspected = c.inspected; gathered = c.gathered + 0; scattered = n } in
    x) (let e : c.scattered ≡ c.scattered + 0 = omega arith in e)
fold_more c (one ∷ counts) =
    let g = sum_by (λ (x : SiteCount). x.gathered) counts in
    let h = sum_by (λ (x : SiteCount). x.scattered) counts in
    let gs : c.gathered + one.gathered + g ≡ c.gathered + sum_by (λ (x : SiteCount). x.gathered) (one ∷ counts) =
    (let e : c.gathered + one.gathered + g ≡ c.gathered + (one.gathered + g) = omega arith in e)
    ∙ ap (λ n. c.gathered + n) (sym (sum_by-cons (λ (x : SiteCount). x.gathered) one counts)) in
    let hs : c.scattered + one.scattered + h ≡ c.scattered + sum_by (λ (x : SiteCount). x.scattered) (one ∷ counts) =
    (let e : c.scattered + one.scattered + h ≡ c.scattered + (one.scattered + h) = omega arith in e)
    ∙ ap (λ n. c.scattered + n) (sym (sum_by-cons (λ (x : SiteCount). x.scattered) one counts)) in
    fold_more (more_count c one) counts
    ∙ ap (λ n. let x : SiteCount = record {
      executed = c.executed;
      inspected = c.inspected;
      gathered = n;
      scattered = c.scattered
          + one.scattered + h;
    } in x) gs
    ∙ ap (λ n. let x : SiteCount = record {
      executed = c.executed;
      inspected = c.inspected;
      gathered = c.gathered
          + sum_by (λ (y : SiteCount). y.gathered) (one ∷ counts);
      scattered = n;
    } in x) hs

sum_map : (f : SiteCount → ℕ) (g : ℕ → SiteCount) (ks : List ℕ) → sum_by f (map g ks) ≡ sum_by (λ k. f (g k)) ks
sum_map f g [] = refl
sum_map f g (k ∷ ks) = sum_by-cons f (g k) (map g ks) ∙ ap (λ n. f (g k) + n) (sum_map f g ks) ∙ sym (sum_by-cons (λ j. f (g j)) k ks)

among_all : (count : ℕ → SiteCount) (n : ℕ) → 0 < n → total_among (map count (below n)) ≡ total_count n count
among_all count zero some = absurd (omega arith)
among_all count (suc n) some =
    let all = map count (below (suc n)) in
    fold_more (first_count all) all
    ∙ ap (λ m. let x : SiteCount = record {
      executed = (count 0).executed;
      inspected = (count 0).inspected;
      gathered = m;
      scattered = 0 + sum_by (λ (c : SiteCount). c.scattered) all;
    } in x)
    ((let e : 0 + sum_by (λ (c : SiteCount). c.gathered) all ≡ sum_by (λ (c : SiteCount). c.gathered) all = omega arith in e)
    ∙ sum_map (λ (c : SiteCount). c.gathered) count (below (suc n)))
    ∙ ap (λ m. let x : SiteCount = record {
      executed = (count 0).executed;
      inspected = (count 0).inspected;
      gathered = sum_by (λ k. (count k).gathered) (below (suc n));
      scattered = m;
    } in x)
    ((let e : 0 + sum_by (λ (c : SiteCount). c.scattered) all ≡ sum_by (λ (c : SiteCount). c.scattered) all = omega arith in e)
    ∙ sum_map (λ (c : SiteCount). c.scattered) count (below (suc n)))

-- ---- all of them

map_same : {A : Type 0} (f g : ℕ → A) (low n : ℕ) → ((k : ℕ) → low ≤ k → k < low + n → f k ≡ g k) → map f (range_with_len low n)
    ≡ map g (range_with_len low n)
map_same f g low zero h = refl
map_same {A} f g low (suc n) h =
    ap (λ (x : A). x ∷ map f (range_with_len (low + 1) n)) (h low (omega arith) (omega arith))
    ∙ ap (λ (l : List A). g low ∷ l) (map_same f g (low + 1) n (λ k l m. h k (omega arith) (omega arith)))

map_map : {A B C : Type 0} (f : B → C) (g : A → B) (xs : List A) → map f (map g xs) ≡ map (λ x. f (g x)) xs
map_map f g [] = refl
map_map {A} {B} {C} f g (x ∷ xs) = ap (λ (l : List C). f (g x) ∷ l) (map_map f g xs)

count_among : (f : ℕ → SiteCount) (low n k : ℕ) → k < n → counted_at (map f (range_with_len low n)) k ≡ f (low + k)
count_among f low zero k h = absurd (omega arith)
count_among f low (suc n) zero h = ap f (let e : low ≡ low + 0 = omega arith in e)
count_among f low (suc n) (suc k) h = count_among f (low + 1) n k (less h) ∙ ap f (let e : low + 1 + k ≡ low + suc k = omega arith in e)
  where
    less : {k n : ℕ} → suc k < suc n → k < n
    less h = omega arith

pub totals_are : (plan : RunPlan) → 0 < plan.nodes → total_counts (length plan.checked.sites) (map (node_counts plan) (below plan.nodes))
    ≡ counts_of (scene_in plan) (run_in plan)
totals_are plan some =
    let s = scene_in plan in
    let past = completed_of (run_in plan) in
    let sites = length plan.checked.sites in
    map_same (λ k. total_among (map (λ cs. counted_at cs k) (map (node_counts plan) (below plan.nodes))))
    (λ k. total_count s.nodes (λ node. count_at s past node k)) 0 sites
    (λ k l m.
    ap total_among (map_map (λ cs. counted_at cs k) (node_counts plan) (below plan.nodes)
    ∙ map_same (λ p. counted_at (node_counts plan p) k) (λ p. count_at s past p k) 0 plan.nodes
    (λ p lp mp. count_among (count_at s past p) 0 sites k (let e : k < sites = omega (arith, m) in e)
    ∙ ap (count_at s past p) (let e : 0 + k ≡ k = omega arith in e)))
    ∙ among_all (λ node. count_at s past node k) plan.nodes some)

-- ---- one node after another

-- what a FORALL counts on each of these nodes
abbrev pub counts_for : ℕ → List (View NodeState) → List SiteCount
counts_for site nodes = map (λ (v : View NodeState). counted_at v.state.end.counts site) nodes

take_next : (xs : List SiteCount) (k : ℕ) (x : SiteCount) → slice_get xs k ≡ Some x → take (k + 1) xs ≡ take k xs ++ x ∷ []
take_next [] k x e = cc
take_next (y ∷ ys) zero x e = let same : y ≡ x = cc in ap (λ (z : SiteCount). z ∷ []) same
take_next (y ∷ ys) (suc k) x e = ap (λ n. take n (y ∷ ys)) (let h : suc k + 1 ≡ suc (k + 1) = omega arith in h)
    ∙ ap (λ (l : List SiteCount). y ∷ l) (take_next ys k x e)

get_map : (site : ℕ) (nodes : List (View NodeState)) (k : ℕ) (v : View NodeState) → slice_get nodes k ≡ Some v
    → slice_get (counts_for site nodes) k ≡ Some (counted_at v.state.end.counts site)
get_map site [] k v e = cc
get_map site (w ∷ nodes) zero v e = let same : w ≡ v = cc in ap (λ (x : View NodeState). Some (counted_at x.state.end.counts site)) same
get_map site (w ∷ nodes) (suc k) v e = get_map site nodes k v e

fold_push : (c : SiteCount) (xs : List SiteCount) (x : SiteCount) → fold more_count c (xs ++ x ∷ []) ≡ more_count (fold more_count c xs) x
fold_push c [] x = refl
fold_push c (y ∷ ys) x = fold_push (more_count c y) ys x

pub total_more : (site : ℕ) (nodes : List (View NodeState)) (k : ℕ) (v : View NodeState) (c one next : SiteCount)
    → slice_get nodes k ≡ Some v
    → c ≡ fold more_count (first_count (counts_for site nodes)) (take k (counts_for site nodes)) → one ≡ counted_at v.state.end.counts site
    → next ≡ more_count c one
    → next ≡ fold more_count (first_count (counts_for site nodes)) (take (k + 1) (counts_for site nodes))
total_more site nodes k v c one next here before is more =
    let cs = counts_for site nodes in
    let start = first_count cs in
    more ∙ ap (λ (x : SiteCount). more_count x one) before ∙ ap (more_count (fold more_count start (take k cs))) is
    ∙ sym (fold_push start (take k cs) (counted_at v.state.end.counts site))
    ∙ sym (ap (fold more_count start) (take_next cs k (counted_at v.state.end.counts site) (get_map site nodes k v here)))

take_all : (xs : List SiteCount) (k : ℕ) → length xs ≤ k → take k xs ≡ xs
take_all [] zero h = refl
take_all [] (suc k) h = refl
take_all (x ∷ xs) zero h = absurd (none h)
  where
    none : {n : ℕ} → suc n ≤ 0 → ⊥
    none h = omega arith
take_all (x ∷ xs) (suc k) h = ap (λ (l : List SiteCount). x ∷ l) (take_all xs k (less h))
  where
    less : {n k : ℕ} → suc n ≤ suc k → n ≤ k
    less h = omega arith

pub total_whole : (site : ℕ) (nodes : List (View NodeState)) (k : ℕ) (c : SiteCount) → length nodes ≤ k
    → c ≡ fold more_count (first_count (counts_for site nodes)) (take k (counts_for site nodes)) → c ≡ total_among (counts_for site nodes)
total_whole site nodes k c h e =
    e ∙ ap (fold more_count (first_count (counts_for site nodes)))
    (take_all (counts_for site nodes) k (let n : length (counts_for site nodes) ≡ length nodes = length-map nodes
    (λ (v : View NodeState). counted_at v.state.end.counts site) in omega (arith, n, h)))

pub get_some : (xs : List (View NodeState)) (k : ℕ) → k < length xs → (v : View NodeState) × (slice_get xs k ≡ Some v)
get_some [] k h = absurd (omega arith)
get_some (x ∷ xs) zero h = (x, refl)
get_some (x ∷ xs) (suc k) h = get_some xs k (less h)
  where
    less : {k n : ℕ} → suc k < suc n → k < n
    less h = omega arith

pub ends_at : (k n : ℕ) → n ≤ k → k ≤ n → k ≡ n
ends_at k n a b = omega (arith, a, b)

-- one FORALL more
pub totals_more : (nodes all : List (View NodeState)) (k : ℕ) (counts new : List SiteCount) (one : SiteCount) → all ≡ nodes
    → length counts ≡ k
    → (AreDone (λ (s : View NodeState). s) nodes → counts ≡ total_counts k (map (λ (v : View NodeState). v.state.end.counts) nodes))
    → (AreDone (λ (s : View NodeState). s) all → one ≡ total_among (counts_for k all)) → new ≡ counts ++ one ∷ []
    → (length new ≡ k + 1) × (AreDone (λ (s : View NodeState). s) nodes
    → new ≡ total_counts (k + 1) (map (λ (v : View NodeState). v.state.end.counts) nodes))
totals_more nodes all k counts new one same size before told more = (
  ap length more ∙ length_push counts one ∙ ap (λ n. n + 1) size,
  λ done.
      let cs = map (λ (v : View NodeState). v.state.end.counts) nodes in
      let f = λ (j : ℕ). total_among (map (λ (c : List SiteCount). counted_at c j) cs) in
      let here : one ≡ f k =
      told (subst (λ (l : List (View NodeState)). AreDone (λ (s : View NodeState). s) l) (sym same) done)
      ∙ ap (λ (l : List (View NodeState)). total_among (counts_for k l)) same
      ∙ ap total_among (sym (map_map (λ (c : List SiteCount). counted_at c k) (λ (v : View NodeState). v.state.end.counts) nodes)) in
      map-below-one f k counts new one (before done) here more,
)
