use Rattle.std.proofs.Common.{ℕ, Option, Some, ap, sym, ◌∙◌}
use Rattle.chaos_dist.specs.OwnersLaws.{owner_in-regular, local_in-regular}
use Rattle.fd_words.specs.declared.place.Place.{Place}
use Rattle.inspect_uses.proofs.places.place_in.Goals as goal

abbrev at : ℕ → ℕ → Option Place
at owner local = Some (record { owner = owner; local = local })

pub returns : goal.returns
returns c =
    ap (λ n. at n c.local.result)
    (c.owner.ensures.owner ∙ sym (owner_in-regular c.args.shape c.args.extent c.args.nodes c.args.element c.requires.from_one
    c.requires.within))
    ∙ ap (at _) (c.local.ensures.local ∙ sym (local_in-regular c.args.shape c.args.extent c.args.nodes c.args.element c.requires.from_one
    c.requires.within))
