use Rattle.std.proofs.Common.{◌+◌, refl, length, arith, ap, sym, ◌∙◌, get_or, None}
use Rattle.std.specs.Option.{option_map}
use Rattle.std.proofs.lemmas.Option.{slice_get_read, slice_get-get_or}
use Rattle.plan_run.specs.TableLaws.{without_inspection}
use Rattle.chaos_holdings.proofs.KeptLists.{given_to, given_named, given_other, given_all}
use Rattle.chaos_holdings.proofs.kept_list.give_up_in.Goals as goal
use Rattle.chaos_holdings.proofs.kept_list.give_up_in.Goals.{then-is_named, else-is_named}

pub loop-site-preserved : goal.loop-site-preserved
loop-site-preserved c = (
  c.if-is_named.auto.items ∙ c.loop-site.invariant.0,
  elim c.if-is_named.branch [
    | then-is_named w ↦
        let x = w.index-items-site in
        given_named c.args.checked.now c.args.decomposition c.loop-site.site c.loop-site.items c.if-is_named.items x.result
        w.give_up_one.new.kept
        (slice_get_read c.loop-site.items (length c.loop-site.items) c.loop-site.site x.result refl (omega arith) x.is)
        (sym c.is_named.ensures ∙ w.if-is_named.true) (w.give_up_one.ensures ∙ ap (option_map without_inspection) (sym x.is)) w.items-is
        ∙ c.loop-site.invariant.1
    | else-is_named w ↦
        ap (given_to c.args.checked.now c.args.decomposition (c.loop-site.site + 1)) w.items-is
        ∙ given_other c.args.checked.now c.args.decomposition c.loop-site.site c.loop-site.items
        (get_or c.loop-site.items c.loop-site.site None)
        (slice_get-get_or c.loop-site.items c.loop-site.site None (omega arith)) (sym c.is_named.ensures ∙ w.if-is_named.false)
        ∙ c.loop-site.invariant.1
  ],
)

pub returns : goal.returns
returns c = sym (given_all c.args.checked.now c.args.decomposition c.loop-site.site c.loop-site.items (omega arith))
    ∙ c.loop-site.invariant.1
