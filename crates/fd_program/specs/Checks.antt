-- What is known of a checked program: numbers are in range, extents within their limits, each reference through an index array stands
-- directly behind its index reference, and the statements of a loop don't disagree about an array.
use Rattle.std.specs.Prelude.{◌≡◌, ◌≢◌, ◌<◌, ◌≤◌, ◌+◌, ◌-◌, ℕ, ℤ, pos, ◌+ℤ◌, ◌≤ℤ◌, List, [], ◌∷◌, length, slice_get, All, AllPairs, Any}
use Rattle.std.specs.Prelude.{Option, Some, None, IsSome, IsSomeAnd}
use Rattle.std.specs.Option.{option_map_or}
use Rattle.chaos_dist.specs.Homes.{natural}
use Rattle.chaos_dist.specs.Layout.{given_size}
use Rattle.chaos_dist.specs.declared.step_form.StepForm.{StepForm}
use Rattle.chaos_dist.specs.declared.step_form.StepForm.TheVariants.{Regular, Map}
use Rattle.fd_words.specs.declared.place.Role.{Role}
use Rattle.fd_words.specs.declared.place.Role.TheVariants.{Index, Read, Target}
use Rattle.fd_program.specs.Loops.{target_of, operator_of, expr_of}
use Rattle.fd_program.specs.Places.{decomposition_of}
use Rattle.fd_program.specs.Stores.{array_at}
use Rattle.fd_program.specs.Texts.{array_of}
use Rattle.fd_program.specs.declared.array.ArrayFacts.{ArrayFacts}
use Rattle.fd_program.specs.declared.array.LayoutName.{LayoutName}
use Rattle.fd_program.specs.declared.array.OutputName.{OutputName}
use Rattle.fd_program.specs.declared.body.CheckedBody.{CheckedBody}
use Rattle.fd_program.specs.declared.body.CheckedExpr.{CheckedExpr}
use Rattle.fd_program.specs.declared.body.CheckedExpr as expr
use Rattle.fd_program.specs.declared.checked.Checked.{Checked}
use Rattle.fd_program.specs.declared.checked.CheckedStatement.{CheckedStatement}
use Rattle.fd_program.specs.declared.checked.CheckedStatement.TheVariants.{Distribute, Print, Do, Forall}
use Rattle.fd_program.specs.declared.reference.CheckedSubscript.{CheckedSubscript}
use Rattle.fd_program.specs.declared.reference.CheckedSubscript.TheVariants.{Plain, Through, Twice, Scalar}
use Rattle.fd_program.specs.declared.reference.Reference.{Reference}
use Rattle.fd_program.specs.declared.site.Site.{Site}

-- ---- arrays and decompositions

-- an extent, and the b of CYCLIC(b)
pub record IsExtent (n : ℕ) : Type 0 where
  pub some : 1 ≤ n
  pub most : n ≤ 1048576

abbrev pub layout_extent : List LayoutName → ℕ → ℕ
layout_extent layouts d = option_map_or (λ (l : LayoutName). l.extent) (slice_get layouts d) 0

-- the array's elements, 1 to its extent, stand within its decomposition
pub record IsAligned (layouts : List LayoutName) (a : ArrayFacts) : Type 0 where
  pub extent : IsExtent a.extent
  pub decomposition : a.decomposition < length layouts
  pub first : pos 0 ≤ℤ a.offset
  pub last : (pos a.extent +ℤ a.offset) ≤ℤ pos (layout_extent layouts a.decomposition)

-- what a DISTRIBUTE may give a decomposition: a map array has its extent
abbrev pub IsFormOf : List ArrayFacts → List LayoutName → ℕ → StepForm → Type 0
IsFormOf arrays layouts d (Regular shape) = IsExtent (given_size shape)
IsFormOf arrays layouts d (Map array) = (array < length arrays) × ((array_at arrays array).extent ≡ layout_extent layouts d)

-- ---- references

abbrev pub IsPlain : CheckedSubscript → Type 0
IsPlain (Plain add) = Unit {0}
IsPlain (Through index_array at inner_add add) = ⊥
IsPlain (Twice outer at inner inner_at first_add second_add add) = ⊥
IsPlain (Scalar scalar) = ⊥

-- what an index reference may have
abbrev pub IsIndexing : CheckedSubscript → Type 0
IsIndexing (Plain add) = Unit {0}
IsIndexing (Through index_array at inner_add add) = Unit {0}
IsIndexing (Twice outer at inner inner_at first_add second_add add) = ⊥
IsIndexing (Scalar scalar) = ⊥

-- a reference: an index reference has a plain subscript, or one through an index array
pub record IsReference (arrays : List ArrayFacts) (r : Reference) : Type 0 where
  pub array : r.array < length arrays
  pub stamp : r.stamp < 128
  pub index : r.role ≡ Index → IsIndexing r.subscript

-- the index reference that gives a reference its subscript
pub record IsIndexFor (index_array : ℕ) (inner : CheckedSubscript) (r : Reference) : Type 0 where
  pub role : r.role ≡ Index
  pub array : r.array ≡ index_array
  pub subscript : r.subscript ≡ inner

-- with this reference directly before it, a reference through index arrays has its index reference there
abbrev pub IsServed : Option Reference → CheckedSubscript → Type 0
IsServed before (Plain add) = Unit {0}
IsServed before (Through index_array at inner_add add) = IsSomeAnd before (IsIndexFor index_array (Plain inner_add))
IsServed before (Twice outer at inner inner_at first_add second_add add) =
    IsSomeAnd before (IsIndexFor outer (Through inner inner_at first_add second_add))
IsServed before (Scalar scalar) = Unit {0}

abbrev pub AreServed : Option Reference → List Reference → Type 0
AreServed before [] = Unit {0}
AreServed before (r ∷ rs) = IsServed before r.subscript × AreServed (Some r) rs

-- ---- statements of a loop

-- the reference with this number, from 1, is there and has this role
abbrev pub HasRole : List Reference → Role → ℕ → Type 0
HasRole references role number = (1 ≤ number) × IsSomeAnd (slice_get references (number - 1)) (λ r. r.role ≡ role)

-- an expression reads references and scalar names that are there
abbrev pub IsExpr : List Reference → ℕ → CheckedExpr → Type 0
IsExpr references terms (expr.Number value) = Unit {0}
IsExpr references terms expr.Index = Unit {0}
IsExpr references terms (expr.Term place) = place < terms
IsExpr references terms (expr.Read number) = HasRole references Read number
IsExpr references terms (expr.Negate' s (expr.more_of-CheckedExpr inner expr.end_of-CheckedExpr)) = IsExpr references terms inner
IsExpr references terms (expr.Binary' op s (expr.more_of-CheckedExpr left expr.end_of-CheckedExpr) t
    (expr.more_of-CheckedExpr right expr.end_of-CheckedExpr)) =
    IsExpr references terms left × IsExpr references terms right

abbrev pub IsPlainAt : List Reference → ℕ → Type 0
IsPlainAt references number = IsSomeAnd (slice_get references (number - 1)) (λ r. IsPlain r.subscript)

-- a statement's target is one of the loop's, with a plain subscript where it is assigned
pub record IsStatement (site : Site) (s : CheckedBody) : Type 0 where
  pub target : HasRole site.references Target (target_of s)
  pub plain : operator_of s ≡ None → IsPlainAt site.references (target_of s)
  pub value : IsExpr site.references (length site.terms) (expr_of s)

abbrev pub target_array : Site → CheckedBody → ℕ
target_array site s = array_of site.references (target_of s)

-- two statements with one target array reduce into it with one operator
abbrev pub Agree : Site → CheckedBody → CheckedBody → Type 0
Agree site s t = target_array site s ≡ target_array site t → IsSome (operator_of s) × (operator_of s ≡ operator_of t)

-- each target is that of a statement
abbrev pub AreWritten : Site → Type 0
AreWritten site =
    (place : ℕ) (r : Reference) → slice_get site.references place ≡ Some r → r.role ≡ Target
    → Any (λ s. target_of s ≡ place + 1) site.body

pub record IsSite (arrays : List ArrayFacts) (site : Site) : Type 0 where
  pub few : length site.references ≤ 64
  pub references : All (IsReference arrays) site.references
  pub served : AreServed None site.references
  pub some : 1 ≤ length site.body
  pub body : All (IsStatement site) site.body
  pub agreed : AllPairs (Agree site) site.body
  pub written : AreWritten site

-- ---- stamps

-- two references of different loops have different stamps, unless one is an index reference or they are of different decompositions
abbrev pub AreApart : List ArrayFacts → Reference → Reference → Type 0
AreApart arrays r s =
    r.role ≢ Index → s.role ≢ Index → decomposition_of arrays r.array ≡ decomposition_of arrays s.array → r.stamp ≢ s.stamp

abbrev pub HaveOwnStamps : List ArrayFacts → Site → Site → Type 0
HaveOwnStamps arrays one other = All (λ r. All (AreApart arrays r) other.references) one.references

-- ---- the program

abbrev pub IsStatementOf : Checked → CheckedStatement → Type 0
IsStatementOf c (Distribute at decomposition form) =
    (decomposition < length c.layouts) × IsFormOf c.arrays c.layouts decomposition form
IsStatementOf c (Print at array) = array < length c.arrays
IsStatementOf c (Do at low high inside) = Unit {0}
IsStatementOf c (Forall site) = site < length c.sites

-- the number of an array that is read before the run
pub record IsRead (arrays : List ArrayFacts) (number : ℤ) : Type 0 where
  pub least : pos 0 ≤ℤ number
  pub within : natural number < length arrays

pub record IsChecked (c : Checked) : Type 0 where
  pub few_arrays : length c.arrays ≤ 64
  pub few_layouts : length c.layouts ≤ 128
  pub few_sites : length c.sites ≤ 128
  pub layouts : All (λ (l : LayoutName). IsExtent l.extent) c.layouts
  pub arrays : All (IsAligned c.layouts) c.arrays
  pub reads : All (IsRead c.arrays) c.reads
  pub reads_apart : AllPairs (λ a b. a ≢ b) c.reads
  pub outputs : All (λ (o : OutputName). o.array < length c.arrays) c.outputs
  pub sites : All (IsSite c.arrays) c.sites
  pub stamps : AllPairs (HaveOwnStamps c.arrays) c.sites
  pub statements : All (IsStatementOf c) c.statements
