-- A program that is checked: what is known of checked programs can be met.
use Rattle.std.specs.Prelude.{◌≡◌, ◌≢◌, refl, zero, suc, ◌<◌, ℤ, pos, [], ◌∷◌, slice_get, AllPairs, Some, codes}
use Rattle.std.proofs.Common.{arith, sym}
use Rattle.std.proofs.lemmas.Int.{ints}
use Rattle.std.proofs.lemmas.List.Elements.{All-from_recursion}
use Rattle.fd_words.specs.declared.place.Role.TheVariants.{Index, Read, Target}
use Rattle.fd_program.specs.Checks.{IsExtent, IsAligned, IsRead, IsReference, IsStatement, IsSite, IsStatementOf, IsChecked, Agree}
use Rattle.fd_program.specs.Checks.{HaveOwnStamps, AreWritten}
use Rattle.fd_program.specs.declared.array.LayoutName.{LayoutName}
use Rattle.fd_program.specs.declared.array.OutputName.{OutputName}
use Rattle.plan_examples.specs.Programs.{scattering, scattering_at, xyi_arrays, xyi_layouts}

extent_of_four : IsExtent 4
extent_of_four = record { some = omega arith; most = omega arith }

-- all three arrays have four elements and a decomposition of their own
first_aligned : IsAligned xyi_layouts (record { name = codes "X"; extent = 4; decomposition = 0; offset = pos 0 })
first_aligned = record { extent = extent_of_four; decomposition = omega arith; first = omega (arith, ints); last = omega (arith, ints) }

second_aligned : IsAligned xyi_layouts (record { name = codes "Y"; extent = 4; decomposition = 1; offset = pos 0 })
second_aligned = record { extent = extent_of_four; decomposition = omega arith; first = omega (arith, ints); last = omega (arith, ints) }

third_aligned : IsAligned xyi_layouts (record { name = codes "IA"; extent = 4; decomposition = 2; offset = pos 0 })
third_aligned = record { extent = extent_of_four; decomposition = omega arith; first = omega (arith, ints); last = omega (arith, ints) }

no_pairs : {A : Type 0} (R : A → A → Type 0) (x : A) → AllPairs R (x ∷ [])
no_pairs R x i j d less small = absurd (omega arith)

two_apart : AllPairs (λ (a : ℤ) (b : ℤ). a ≢ b) (pos 0 ∷ pos 2 ∷ [])
two_apart zero zero d less small = absurd (omega arith)
two_apart zero (suc zero) d less small = λ (e : pos 0 ≡ pos 2). absurd (omega (arith, ints, e))
two_apart zero (suc (suc j)) d less small = absurd (omega arith)
two_apart (suc i) j d less small = absurd (omega arith)

is_written : AreWritten (scattering_at 5)
is_written zero r e role = let it : Some r ≡ slice_get (scattering_at 5).references 0 = sym e in let wrong : Index ≡ Target = cc in cc
is_written (suc zero) r e role = (0, _, omega arith, refl, refl)
is_written (suc (suc zero)) r e role = let wrong : Read ≡ Target = cc in cc
is_written (suc (suc (suc k))) r e role = cc

is_site : IsSite xyi_arrays (scattering_at 5)
is_site = record {
  few = omega arith;
  references = All-from_recursion (IsReference xyi_arrays) (scattering_at 5).references (
    record { array = omega arith; stamp = omega arith; index = λ e. tt },
    (
      record { array = omega arith; stamp = omega arith; index = λ (e : Target ≡ Index). cc },
      (record { array = omega arith; stamp = omega arith; index = λ e. tt }, tt),
    ),
  );
  served = (tt, (record { role = refl; array = refl; subscript = refl }, (tt, tt)));
  some = omega arith;
  body = All-from_recursion (IsStatement (scattering_at 5)) (scattering_at 5).body
      (record { target = (omega arith, refl); plain = λ e. cc; value = (omega arith, refl) }, tt);
  agreed = no_pairs (Agree (scattering_at 5)) _;
  written = is_written;
}

pub scattering_is_checked : IsChecked scattering
scattering_is_checked = record {
  few_arrays = omega arith;
  few_layouts = omega arith;
  few_sites = omega arith;
  layouts = All-from_recursion (λ (l : LayoutName). IsExtent l.extent) xyi_layouts (extent_of_four, (extent_of_four, (extent_of_four, tt)));
  arrays = All-from_recursion (IsAligned xyi_layouts) xyi_arrays (first_aligned, (second_aligned, (third_aligned, tt)));
  reads = All-from_recursion (IsRead xyi_arrays) (pos 0 ∷ pos 2 ∷ [])
      (record { least = omega (arith, ints); within = omega arith }, (record { least = omega (arith, ints); within = omega arith }, tt));
  reads_apart = two_apart;
  outputs = All-from_recursion (λ (o : OutputName). o.array < 3) scattering.outputs (omega arith, tt);
  sites = All-from_recursion (IsSite xyi_arrays) scattering.sites (is_site, tt);
  stamps = no_pairs (HaveOwnStamps xyi_arrays) (scattering_at 5);
  statements = All-from_recursion (IsStatementOf scattering) scattering.statements (omega arith, tt);
}
