-- The plan of a job can be.
use Rattle.std.specs.Prelude.{◌≡◌, refl, ℕ, zero, suc, ◌+◌, ◌-◌, ◌<◌, ℤ, pos, negsuc, ◌≤ℤ◌, List, [], ◌∷◌, length}
use Rattle.std.proofs.Common.{ap, sym, ◌∙◌, arith, add-one, get_or}
use Rattle.std.proofs.lemmas.Int.{ints}
use Rattle.chaos_bins.specs.Bins.{Particles}
use Rattle.chaos_bins.specs.Moving.{AreInBins}
use Rattle.chaos_bins.specs.Plan.{IsAppendPlan}
use Rattle.chaos_bins.specs.Rows.{number_at}
use Rattle.append_node.specs.Node.{plan_of}
use Rattle.append_node.specs.declared.job.AppendJob.{AppendJob}

pub number_from : (xs : List ℤ) (k : ℕ) → number_at xs k ≡ get_or xs k (pos 0)
number_from [] zero = refl
number_from [] (suc k) = refl
number_from (x ∷ xs) zero = refl
number_from (x ∷ xs) (suc k) = number_from xs k

-- numbers from 1 to the bins are bins
one_of : (z : ℤ) (bins : ℕ) → pos 1 ≤ℤ z → z ≤ℤ pos bins → (a : ℕ) × (a < bins) × (z ≡ pos (a + 1))
one_of (pos zero) bins low high = absurd (omega (arith, ints, low))
one_of (pos (suc a)) bins low high = (a, omega (arith, ints, high), ap pos (sym (add-one a)))
one_of (negsuc a) bins low high = absurd (omega (arith, ints, low))

pub first_bins : (job_bins : ℕ) (particles : Particles) → length particles.bins ≡ particles.count
    → ((k : ℕ) (d : ℤ) → k < length particles.bins → (pos 1 ≤ℤ get_or particles.bins k d) × (get_or particles.bins k d ≤ℤ pos job_bins))
    → AreInBins job_bins particles
first_bins job_bins particles long all i low high =
    let here = all (i - 1) (pos 0) (omega (arith, low, high, long)) in
    let same = number_from particles.bins (i - 1) in
    let is = one_of (get_or particles.bins (i - 1) (pos 0)) job_bins here.0 here.1 in
    (is.0, is.1, same ∙ is.2)

-- where each first bin is one of the bins
pub is_plan : (job : AppendJob) (firsts amounts : List ℤ) → length firsts ≡ job.count
    → ((k : ℕ) (d : ℤ) → k < length firsts → (pos 1 ≤ℤ get_or firsts k d) × (get_or firsts k d ≤ℤ pos job.bins))
    → IsAppendPlan (plan_of job firsts amounts)
is_plan job firsts amounts long all = record {
  some_bins = job.some_bins;
  few_bins = job.few_bins;
  few_steps = job.few_steps;
  some_nodes = job.some_nodes;
  few_nodes = job.few_nodes;
  some_particles = job.some_particles;
  few_particles = job.few_particles;
  in_bins = first_bins job.bins (plan_of job firsts amounts).particles long all;
}
