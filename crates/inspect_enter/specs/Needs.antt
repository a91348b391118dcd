-- The needs of references that have a slot.
use Rattle.std.specs.Prelude.{ℕ, List, [], ◌∷◌, ◌++◌}
use Rattle.chaos_dist.specs.Homes.{natural}
use Rattle.inspect_enter.specs.declared.placed.Placed.{Placed}
use Rattle.chaos_sched.specs.declared.local_ref.LocalRef.{LocalRef}
use Rattle.chaos_sched.specs.declared.local_ref.LocalRef.TheVariants.{Here, Ghost}
use Rattle.chaos_sched.specs.declared.need.Need.{Need}

abbrev pub need_in : Placed → ℕ → Need
need_in x slot = record { role = x.used.role; array = x.used.array; element = natural x.used.subscript; place = x.place; slot = slot }

abbrev pub need_of : Placed → LocalRef → List Need
need_of x (Here local) = []
need_of x (Ghost slot) = need_in x slot ∷ []

abbrev pub needs_of : List Placed → List LocalRef → List Need
needs_of (x ∷ placed) (r ∷ references) = need_of x r ++ needs_of placed references
needs_of _ _ = []
