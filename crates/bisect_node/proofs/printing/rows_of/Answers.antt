use Rattle.std.proofs.Common.{◌≡◌, ◌++◌, ◌∷◌, [], ap, sym, ◌∙◌, ℕ, ℤ, List, pos, arith, add-one, rules, of_z, to_z}
use Rattle.std.specs.Prelude.{FitsSigned}
use Rattle.std.specs.Int.{w64}
use Rattle.std.specs.List.{flat_map}
use Rattle.std.proofs.lemmas.Int.{to_z-of_z, to_z_pos}
use Rattle.std.proofs.lemmas.List.{append_assoc, append-nil}
use Rattle.std.proofs.lemmas.List.Concat.{flat_map-append}
use Rattle.chaos_dist.specs.Counting.{below, below-last}
use Rattle.chaos_dist.specs.Layout.{element_of, length_of}
use Rattle.chaos_dist.specs.declared.shape.Shape.{Shape}
use Rattle.chaos_dist.specs.declared.shape.Shape.TheVariants.{Block}
use Rattle.bisect_node.specs.Printing.{parts_on}
use Rattle.bisect_node.specs.Steps.{number_at}
use Rattle.bisect_node.proofs.printing.rows_of.Goals as goal

pub loop-k-preserved : goal.loop-k-preserved
loop-k-preserved c =
    let k = c.loop-k.k in
    let layout = c.args.layout in
    let parts = c.parts.inside.items.items in
    let rows = c.loop-k.rows in
    let of = λ (k : ℕ). pos (element_of Block layout.extent layout.nodes c.args.me k) ∷ number_at parts k ∷ [] in
    let first : to_z w64 c.global_of.result ≡ pos (element_of Block layout.extent layout.nodes c.args.me k) =
    to_z_pos w64 c.global_of.result (omega (arith, c.global_of.ensures.within, c.requires.few))
    ∙ ap pos (c.global_of.ensures.element ∙ ap (λ (s : Shape). element_of s layout.extent layout.nodes c.args.me k) c.requires.shape) in
    let fits : FitsSigned w64 c.number_at.result = search rules in
    let told : c.number_at.result ≡ number_at parts k = search rules in
    let second : to_z w64 (of_z w64 c.number_at.result) ≡ number_at parts k = to_z-of_z w64 c.number_at.result fits ∙ told in
    let more : c.push-in-loop-k.new.self ≡ rows ++ of k =
    c.in_ok-push-2.ensures.ok
    ∙ ap (λ (l : List ℤ). l ++ to_z w64 (of_z w64 c.number_at.result) ∷ []) c.in_ok-push.ensures.ok
    ∙ append_assoc rows (to_z w64 c.global_of.result ∷ []) (to_z w64 (of_z w64 c.number_at.result) ∷ [])
    ∙ ap (λ (z : ℤ). rows ++ (z ∷ to_z w64 (of_z w64 c.number_at.result) ∷ [])) first
    ∙ ap (λ (z : ℤ). rows ++ (pos (element_of Block layout.extent layout.nodes c.args.me k) ∷ z ∷ [])) second in
    more
    ∙ ap (λ (l : List ℤ). l ++ of k) c.loop-k.invariant
    ∙ ap (λ (l : List ℤ). flat_map of (below k) ++ l) (sym (append-nil (of k)))
    ∙ sym (ap (λ n. flat_map of (below n)) (add-one k) ∙ ap (flat_map of) (below-last k) ∙ flat_map-append of (below k) (k ∷ []))

pub returns : goal.returns
returns c =
    let layout = c.args.layout in
    let of = λ (parts : List ℤ) (k : ℕ). pos (element_of Block layout.extent layout.nodes c.args.me k) ∷ number_at parts k ∷ [] in
    let parts : c.parts.inside.items.items ≡ parts_on layout.extent layout.nodes c.args.me c.args.pieces.now = c.parts.view_is
    ∙ c.in_ok-parts.ensures in
    let all : c.loop-k.k ≡ length_of Block layout.extent layout.nodes c.args.me =
    omega (arith, c.loop-k-test.false, c.loop-k.auto.k-end)
    ∙ c.length_on-k-end.ensures.length
    ∙ ap (λ (s : Shape). length_of s layout.extent layout.nodes c.args.me) c.requires.shape in
    c.loop-k.invariant
    ∙ ap (λ n. flat_map (of c.parts.inside.items.items) (below n)) all
    ∙ ap (λ (l : List ℤ). flat_map (of l) (below (length_of Block layout.extent layout.nodes c.args.me))) parts
