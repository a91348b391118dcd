-- Uses that ask for nothing.
use Rattle.std.proofs.Common.{◌≡◌, ◌∙◌, ◌&&◌, ◌||◌, ◌++◌, ◌==◌, inl, inr, ℕ, Bool, true, false, not, List, [], ◌∷◌, Option, Some, None}
use Rattle.std.proofs.Common.{if◌then◌else◌, codes, refl, ap, sym, ◌-◌, ◌^◌, eqb-true}
use Rattle.std.specs.Str.{bytes_eq}
use Rattle.fd_command.specs.Options.{Text, value_options, source_name}
use Rattle.fd_command.specs.Uses.{Use, has, no_repeats, value_of}
use Rattle.fd_command.specs.Asked.{AskedOrigin, asked_once, both, iterations_of, manner_by, manner_in, mesh_of, nodes_of, origin_in}
use Rattle.fd_command.specs.Asked.{origin_of, report_of, turns_of}
use Rattle.fd_spell.specs.Spelled.{number_in, is_name}
use Rattle.fd_command.specs.declared.request.Iterations.{Iterations}
use Rattle.fd_command.specs.declared.request.Turns.{Turns}
use Rattle.fd_command.proofs.Rules.{same_text, self_text}
use Rattle.fd_command.proofs.Verdict.{IsKnown}

-- ---- a name that is used twice

has_there : (us more : List Use) (u : Use) (name : Text) → bytes_eq u.0 name ≡ true → has name (us ++ u ∷ more) ≡ true
has_there [] more u name e = rw e refl
has_there (v ∷ us) more u name e = by (bytes_eq v.0 name) (has_there us more u name e)
  where
    by : (b : Bool) → has name (us ++ u ∷ more) ≡ true → b || has name (us ++ u ∷ more) ≡ true
    by true h = refl
    by false h = h

repeats : (us more : List Use) (u : Use) → has u.0 us ≡ true → no_repeats (us ++ u ∷ more) ≡ false
repeats [] more u old = cc
repeats (v ∷ us) more u old = by (bytes_eq v.0 u.0) refl (repeats us more u)
  where
    last : (b : Bool) → b && false ≡ false
    last true = refl
    last false = refl

    by : (b : Bool) → bytes_eq v.0 u.0 ≡ b → (has u.0 us ≡ true → no_repeats (us ++ u ∷ more) ≡ false)
        → not (has v.0 (us ++ u ∷ more)) && no_repeats (us ++ u ∷ more) ≡ false
    by true e rest =
        let same : bytes_eq u.0 v.0 ≡ true = ap (λ (n : Text). bytes_eq n v.0) (sym (same_text v.0 u.0 e)) ∙ self_text v.0 in
        rw (has_there us more u v.0 same) refl
    by false e rest = let there : has u.0 us ≡ true = rw e at old in rw (rest there) (last (not (has v.0 (us ++ u ∷ more))))

pub twice_asks_none : (us more : List Use) (u : Use) → has u.0 us ≡ true → asked_once (us ++ u ∷ more) ≡ None
twice_asks_none us more u old = rw (repeats us more u old) refl

-- ---- a value that begins with a dash

abbrev pub is_dashed : Text → Bool
is_dashed [] = false
is_dashed (c ∷ rest) = c == 45

value_there : (us more : List Use) (name value : Text) → has name us ≡ false → value_of name (us ++ (name, Some value) ∷ more) ≡ Some value
value_there [] more name value new = rw (self_text name) refl
value_there (v ∷ us) more name value new = by (bytes_eq v.0 name) refl (value_there us more name value)
  where
    by : (b : Bool) → bytes_eq v.0 name ≡ b → (has name us ≡ false → value_of name (us ++ (name, Some value) ∷ more) ≡ Some value)
        → value_of name ((v ∷ us) ++ (name, Some value) ∷ more) ≡ Some value
    by true e rest = let bad : true ≡ false = rw e at new in cc
    by false e rest = let none : has name us ≡ false = rw e at new in rw e (rest none)

dash_no_number : (low high : ℕ) (value : Text) → is_dashed value ≡ true → number_in low high value ≡ None
dash_no_number low high [] e = cc
dash_no_number low high (c ∷ []) e = let dash : c ≡ 45 = eqb-true c 45 e in rw dash refl
dash_no_number low high (c ∷ d ∷ rest) e = let dash : c ≡ 45 = eqb-true c 45 e in rw dash refl

dash_no_source : (value : Text) → is_dashed value ≡ true → is_name value ≡ false
dash_no_source [] e = refl
dash_no_source (c ∷ rest) e = rw e refl

dash_no_iterations : (value : Text) → is_dashed value ≡ true → iterations_of (Some value) ≡ None
dash_no_iterations [] e = cc
dash_no_iterations (c ∷ rest) e = let dash : c ≡ 45 = eqb-true c 45 e in rw dash refl

no_turns : (nodes : Option ℕ) (iterations : Option Iterations) (report : Option Bool) (plain : Bool)
    → manner_by nodes None iterations report plain ≡ None
no_turns None iterations report plain = refl
no_turns (Some nodes) iterations report plain = refl

no_iterations : (nodes : Option ℕ) (turns : Option Turns) (report : Option Bool) (plain : Bool) → manner_by nodes turns None report plain
    ≡ None
no_iterations None turns report plain = refl
no_iterations (Some nodes) None report plain = refl
no_iterations (Some nodes) (Some turns) report plain = refl

pub no_manner : (origin : Option AskedOrigin) → both origin None ≡ None
no_manner None = refl
no_manner (Some origin) = refl

no_seeded : (value : Text) (plain : Bool) → number_in 0 (2 ^ 32 - 1) value ≡ None → turns_of (Some value) plain ≡ None
no_seeded value true e = refl
no_seeded value false e = rw e refl

no_file : (value : Text) (seed size : Option Text) → is_name value ≡ false → origin_of (Some value) seed size ≡ None
no_file value None None e = rw e refl
no_file value None (Some size) e = refl
no_file value (Some seed) size e = refl

no_seed : (source size : Option Text) (value : Text) → number_in 0 (2 ^ 32 - 1) value ≡ None → origin_of source (Some value) size ≡ None
no_seed (Some source) size value e = refl
no_seed None None value e = refl
no_seed None (Some size) value e = rw e refl

no_mesh : (seed : Option ℕ) → mesh_of seed None ≡ None
no_mesh None = refl
no_mesh (Some seed) = refl

no_size : (source seed : Option Text) (value : Text) → number_in 8 100000 value ≡ None → origin_of source seed (Some value) ≡ None
no_size (Some source) None value e = refl
no_size (Some source) (Some seed) value e = refl
no_size None None value e = refl
no_size None (Some seed) value e = rw e (no_mesh (number_in 0 (2 ^ 32 - 1) seed))

-- the names that have a value: each refuses one with a dash before it
module _ (us : List Use) (value : Text) (dash : is_dashed value ≡ true) where
  by_manner : manner_in us ≡ None → asked_once us ≡ None
  by_manner e = by (no_repeats us)
    where
      by : (b : Bool) → (if b then both (origin_in us) (manner_in us) else None) ≡ None
      by true = ap (both (origin_in us)) e ∙ no_manner (origin_in us)
      by false = refl

  abbrev plain : Bool
  plain = has (codes "plain") us

  abbrev nodes : Option ℕ
  nodes = nodes_of (value_of (codes "nodes") us)

  abbrev turns : Option Turns
  turns = turns_of (value_of (codes "turns") us) plain

  abbrev iterations : Option Iterations
  iterations = iterations_of (value_of (codes "iterations") us)

  abbrev report : Option Bool
  report = report_of (has (codes "report") us) plain

  dash_nodes : value_of (codes "nodes") us ≡ Some value → asked_once us ≡ None
  dash_nodes e = by_manner (ap (λ (n : Option ℕ). manner_by n turns iterations report plain) none)
    where
      none : nodes_of (value_of (codes "nodes") us) ≡ None
      none = ap nodes_of e ∙ dash_no_number 1 16 value dash

  dash_turns : value_of (codes "turns") us ≡ Some value → asked_once us ≡ None
  dash_turns e = by_manner (ap (λ (t : Option Turns). manner_by nodes t iterations report plain) none
      ∙ no_turns nodes iterations report plain)
    where
      none : turns_of (value_of (codes "turns") us) plain ≡ None
      none = ap (λ (o : Option Text). turns_of o plain) e ∙ no_seeded value plain (dash_no_number 0 (2 ^ 32 - 1) value dash)

  dash_iterations : value_of (codes "iterations") us ≡ Some value → asked_once us ≡ None
  dash_iterations e = by_manner (ap (λ (i : Option Iterations). manner_by nodes turns i report plain) (ap iterations_of e
      ∙ dash_no_iterations value dash)
      ∙ no_iterations nodes turns report plain)

  by_origin : origin_in us ≡ None → asked_once us ≡ None
  by_origin e = by (no_repeats us)
    where
      by : (b : Bool) → (if b then both (origin_in us) (manner_in us) else None) ≡ None
      by true = ap (λ (o : Option AskedOrigin). both o (manner_in us)) e
      by false = refl

  dash_source : value_of source_name us ≡ Some value → asked_once us ≡ None
  dash_source e = by_origin (ap (λ (o : Option Text). origin_of o (value_of (codes "mesh") us) (value_of (codes "size") us)) e
      ∙ no_file value (value_of (codes "mesh") us) (value_of (codes "size") us) (dash_no_source value dash))

  dash_mesh : value_of (codes "mesh") us ≡ Some value → asked_once us ≡ None
  dash_mesh e = by_origin (ap (λ (o : Option Text). origin_of (value_of source_name us) o (value_of (codes "size") us)) e
      ∙ no_seed (value_of source_name us) (value_of (codes "size") us) value (dash_no_number 0 (2 ^ 32 - 1) value dash))

  dash_size : value_of (codes "size") us ≡ Some value → asked_once us ≡ None
  dash_size e = by_origin (ap (λ (o : Option Text). origin_of (value_of source_name us) (value_of (codes "mesh") us) o) e
      ∙ no_size (value_of source_name us) (value_of (codes "mesh") us) value (dash_no_number 8 100000 value dash))

  dash_value : (name : Text) → IsKnown value_options name → value_of name us ≡ Some value → asked_once us ≡ None
  dash_value name (inr e) v = dash_source (ap (λ (n : Text). value_of n us) (sym e) ∙ v)
  dash_value name (inl known) v = by (bytes_eq (codes "nodes") name) refl (bytes_eq (codes "iterations") name) refl
      (bytes_eq (codes "mesh") name) refl
      (bytes_eq (codes "size") name) refl (bytes_eq (codes "turns") name) refl
    where
      is : (n : Text) → bytes_eq n name ≡ true → value_of n us ≡ Some value
      is n e = ap (λ (x : Text). value_of x us) (same_text n name e) ∙ v

      by : (a : Bool) → bytes_eq (codes "nodes") name ≡ a → (i : Bool) → bytes_eq (codes "iterations") name ≡ i → (b : Bool)
          → bytes_eq (codes "mesh") name ≡ b
          → (d : Bool) → bytes_eq (codes "size") name ≡ d → (t : Bool) → bytes_eq (codes "turns") name ≡ t → asked_once us ≡ None
      by true e i k b f d g t h = dash_nodes (is (codes "nodes") e)
      by false e true k b f d g t h = dash_iterations (is (codes "iterations") k)
      by false e false k true f d g t h = dash_mesh (is (codes "mesh") f)
      by false e false k false f true g t h = dash_size (is (codes "size") g)
      by false e false k false f false g true h = dash_turns (is (codes "turns") h)
      by false e false k false f false g false h = let bad : false ≡ true = rw (e, k, f, g, h) at known in cc

pub dash_asks_none : (us more : List Use) (name value : Text) → IsKnown value_options name → is_dashed value ≡ true
    → asked_once (us ++ (name, Some value) ∷ more) ≡ None
dash_asks_none us more name value known dash = by (has name us) refl
  where
    by : (b : Bool) → has name us ≡ b → asked_once (us ++ (name, Some value) ∷ more) ≡ None
    by true e = twice_asks_none us more (name, Some value) e
    by false e = dash_value (us ++ (name, Some value) ∷ more) value dash name known (value_there us more name value e)
