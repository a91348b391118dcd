use denote.Param.Send.{sendable}
use Rattle.std.proofs.Common.{refl, map, sym, subst, ◌≡◌, ◌∙◌, length}
use Rattle.std.specs.Prelude.{is_some, slice_get, Some}
use Rattle.std.proofs.lemmas.List.{length-map}
use Rattle.std.proofs.lemmas.Result.{IfOk-weaker}
use Rattle.bsp_core.specs.Turns.{AreDone}
use Rattle.bsp_core.specs.Views.{View, next_of}
use Rattle.bsp_core.specs.declared.phased.Want.TheVariants.{Done}
use Rattle.bsp_threads.specs.Alls.{AreEmptyFrom}
use Rattle.chaos_entering.specs.State.{NodeState}
use Rattle.fd_program.specs.Reports.{report_of, report_of_program}
use Rattle.fd_program.specs.Runs.{run_of}
use Rattle.fd_program.specs.Texts.{text_of}
use Rattle.chaos_engine.specs.Counts.{total_counts}
use Rattle.chaos_engine.specs.Runs.{plan_of}
use Rattle.chaos_engine.specs.Threads.{HasDueLists}
use Rattle.chaos_engine.proofs.Begun.{admitted, session_is}
use Rattle.chaos_engine.proofs.Crossing.{Node-send}
use Rattle.chaos_engine.proofs.Mailed.{due_lists, fresh_within, on_ok, within_due}
use Rattle.chaos_engine.proofs.Over.{AreOver, driven_over, refused_over, report_over, text_over}
use Rattle.chaos_engine.proofs.threads.run_threads.Goals as goal

pub returns-in_err-nodes-clause-within : goal.returns-in_err-nodes-clause-within
returns-in_err-nodes-clause-within g c =
    fresh_within c.args.mail.now.queues c.args.mail.now.seats.items c.requires.fresh c.args.session.now c.args.store.now c.requires.admitted

pub drive_all-requires-send-N : goal.drive_all-requires-send-N
drive_all-requires-send-N g c κs within = search (sendable, Node-send) depth 20

pub drive_all-requires-clause-together : goal.drive_all-requires-clause-together
drive_all-requires-clause-together g c κs within =
    let s = c.args.session.now in
    let store = c.args.store.now in
    let is = admitted s store c.requires.admitted in
    (plan_of s store, is, c.in_ok-nodes.ensures (plan_of s store) is (session_is s store c.requires.admitted) refl)

pub returns-in_err-drive_all-clause-within : goal.returns-in_err-drive_all-clause-within
returns-in_err-drive_all-clause-within g c =
    let s = c.args.session.now in
    let store = c.args.store.now in
    let is = admitted s store c.requires.admitted in
    let begin = c.in_ok-nodes.ensures (plan_of s store) is (session_is s store c.requires.admitted) refl in
    within_due s store c.drive_all.new.mail.seats.items (c.drive_all.ensures.within (plan_of s store) is begin)

pub returns-in_err-drive_all-clause-empty : goal.returns-in_err-drive_all-clause-empty
returns-in_err-drive_all-clause-empty g c =
    let s = c.args.session.now in
    let store = c.args.store.now in
    let begin = c.in_ok-nodes.ensures (plan_of s store) (admitted s store c.requires.admitted) (session_is s store c.requires.admitted)
    refl in
    subst (λ n. AreEmptyFrom n c.drive_all.new.mail.seats.items) (sym (length-map c.in_ok-nodes.nodes (λ (v : View NodeState). v))
    ∙ begin.0) c.drive_all.ensures.empty

pub returns : goal.returns
returns g c =
    let s = c.args.session.now in
    let store = c.args.store.now in
    let is = admitted s store c.requires.admitted in
    let begin = c.in_ok-nodes.ensures (plan_of s store) is (session_is s store c.requires.admitted) refl in
    let nodes = c.drive_all.new.nodes in
    let mails = c.drive_all.new.mail.seats.items in
    let end = c.in_ok-drive_all.ensures.ended (plan_of s store) is begin in
    let over : AreOver s store nodes = driven_over s store nodes mails c.in_ok-drive_all.ensures.done end in
    record {
      text = IfOk-weaker c.end_of.result (λ e. (v : View NodeState) → slice_get nodes 0 ≡ Some v → e.text ≡ v.state.text)
          (λ e. e.text ≡ text_of s.checked store)
          (λ e told. text_over s store nodes c.requires.admitted over c.nodes_end_with_the_run.ensures e.text told) c.end_of.ensures.text;
      refused = IfOk-weaker c.end_of.result (λ e. (v : View NodeState) → slice_get nodes 0 ≡ Some v → next_of v.face ≡ Done
          → e.refused ≡ is_some v.state.end.refused) (λ e. e.refused ≡ is_some (run_of s.checked store).refused)
          (λ e told. refused_over s store nodes c.requires.admitted over c.nodes_end_with_the_run.ensures e.refused told)
          c.end_of.ensures.refused;
      report = IfOk-weaker c.end_of.result
          (λ e. AreDone (λ (v : View NodeState). v) nodes
          → e.report ≡ report_of s.checked.sites
          (total_counts (length s.checked.sites) (map (λ (v : View NodeState). v.state.end.counts) nodes)))
          (λ e. e.report ≡ report_of_program s.checked s.nodes s.rule store)
          (λ e told. report_over s store nodes c.requires.admitted over c.nodes_end_with_the_run.ensures e.report told)
          c.end_of.ensures.report;
      lists = on_ok c.end_of.result (HasDueLists s store mails) (due_lists s store (map (λ (v : View NodeState). v) nodes) mails end);
      within = within_due s store mails (c.drive_all.ensures.within (plan_of s store) is begin);
      prefixes = c.drive_all.ensures.prefixes;
      empty = subst (λ n. AreEmptyFrom n mails) (sym (length-map c.in_ok-nodes.nodes (λ (v : View NodeState). v)) ∙ begin.0)
          c.drive_all.ensures.empty;
      queues = c.drive_all.ensures.queues;
    }
