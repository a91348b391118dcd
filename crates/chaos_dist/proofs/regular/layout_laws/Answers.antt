use Rattle.chaos_dist.specs.LayoutLaws.{width_of-some, element_of-place, place-element_of}
use Rattle.chaos_dist.proofs.regular.layout_laws.Goals as goal

pub returns-clause-elements : goal.returns-clause-elements
returns-clause-elements c g from_one within =
    let s = c.args.layout in
    element_of-place s.shape s.extent s.nodes g from_one within

pub returns-clause-owners : goal.returns-clause-owners
returns-clause-owners c node local is_node place =
    let s = c.args.layout in
    let width = width_of-some s.shape s.extent s.nodes s.some_elements s.some_nodes s.some_size in
    (place-element_of s.shape s.extent s.nodes node local s.some_nodes width is_node place).0

pub returns-clause-locals : goal.returns-clause-locals
returns-clause-locals c node local is_node place =
    let s = c.args.layout in
    let width = width_of-some s.shape s.extent s.nodes s.some_elements s.some_nodes s.some_size in
    (place-element_of s.shape s.extent s.nodes node local s.some_nodes width is_node place).1
