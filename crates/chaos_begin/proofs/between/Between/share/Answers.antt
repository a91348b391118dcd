use Rattle.std.proofs.Common.{rules, ◌≡◌, ◌==◌, length, ap, arith}
use Rattle.fd_words.specs.Lists.{list_at}
use Rattle.fd_program.specs.Places.{decomposition_of}
use Rattle.chaos_begin.specs.Begins.{lists_in}
use Rattle.chaos_begin.proofs.Pieces.{all_within, picked_few}
use Rattle.chaos_begin.proofs.between.Between.share.Goals as goal

pub invariant_of-result : goal.invariant_of-result
invariant_of-result c =
    let b = c.args.self.now in
    let arrays = b.checked.now.arrays in
    let few = picked_few (λ array. decomposition_of arrays array == c.args.d) (λ array. list_at b.parts.now array) 0 (length arrays) in
    let is : c.in_ok-pieces.pieces ≡ lists_in b.checked.now b.parts.now c.args.d = search rules in
    record {
      some_elements = c.requires.some;
      few_elements = c.requires.few;
      some_nodes = c.requires.sound.some_nodes;
      few_nodes = c.requires.sound.few_nodes;
      node = c.requires.sound.node;
      within = all_within c.args.extent c.args.elements c.requires.within;
      few_arrays = omega (arith, c.requires.sound.checked.few_arrays, few, ap length is);
    }
