use Rattle.std.proofs.Common.{◌≡◌, ℕ, ◌<◌, ◌∷◌, ◌++◌, [], List, map, pos, ap, sym, ◌∙◌, subst, rules}
use Rattle.chaos_dist.specs.Counting.{below}
use Rattle.chaos_dist.specs.Layout.{element_of, length_of}
use Rattle.chaos_dist.specs.declared.shape.Shape.TheVariants.{Block}
use Rattle.bisect_node.specs.Ends.{IsPhaseFor, told_begun}
use Rattle.bisect_node.specs.Plans.{bisect_rows}
use Rattle.bisect_node.specs.Stages.{phases_of}
use Rattle.bisect_node.specs.States.{Holds, pieces_of}
use Rattle.bisect_node.specs.Working.{begins, whole-is}
use Rattle.bisect_node.specs.declared.cuts.Cut.{Cut}
use Rattle.bisect_node.specs.declared.pieces.Piece.{Piece}
use Rattle.bisect_node.proofs.node.BisectNode.start.Goals as goal

pub returns : goal.returns
returns c plan h of own =
    let job = c.args.job.now in
    let id = c.args.id in
    let less : id < plan.nodes = subst (λ n. id < n) of.nodes c.requires in
    let elements = c.in_ok-elements_of.field-0 in
    let listed : elements ≡ map (λ k. pos (element_of Block job.count job.nodes id k)) (below (length_of Block job.count job.nodes id)) =
    c.in_ok-elements_of.ensures
    ∙ ap (λ n. map (λ k. pos (element_of Block n c.blocks-2.result.nodes id k)) (below (length_of Block n c.blocks-2.result.nodes id)))
    c.blocks-2.ensures.extent
    ∙ ap (λ n. map (λ k. pos (element_of Block job.count n id k)) (below (length_of Block job.count n id))) c.blocks-2.ensures.nodes in
    let one : List Piece = record { first = 0; parts = job.parts; size = job.count; elements = elements; coordinates = c.args.own } ∷ [] in
    let all : c.push.new.self ≡ pieces_of plan 0 id =
    c.in_ok-push.ensures.ok ∙ ap (λ (l : List Piece). l ++ one) c.new-pieces.ensures
    ∙ whole-is plan h job of id less elements c.args.own listed own in
    let told : c.in_ok-told.told ≡ told_begun job 0 id c.push.new.self = search rules in
    let made : IsPhaseFor job 0 (phases_of job.parts) id c.in_ok-told.told c.in_ok-phase.phase = search rules in
    let Begins = λ (cuts : List Cut) (found text : List ℕ).
    (c.new.result ≡ bisect_rows plan 0 id)
    × Holds plan 0 id (record {
      job = job;
      work = record {
        pieces = c.push.new.self;
        cuts = cuts;
        found = found;
        told = c.in_ok-told.told;
        text = text;
      };
    }) in
    subst (λ (x : List Cut). Begins x c.new-3.result c.new-4.result) (sym c.new-2.ensures)
    (subst (λ (x : List ℕ). Begins [] x c.new-4.result) (sym c.new-3.ensures)
    (subst (λ (x : List ℕ). Begins [] [] x) (sym c.new-4.ensures)
    (begins plan h job of id less c.push.new.self c.in_ok-told.told c.in_ok-phase.phase c.new.result all told made c.new.ensures)))
