-- Nodes at a plan's end, and a World of them.
use Rattle.std.specs.Prelude.{◌≡◌, refl, ℕ, ◌+◌, ◌<◌, ℤ, map, List, [], ◌∷◌, length, slice_get, Option, Some, is_some, Bool}
use Rattle.std.specs.List.{range_with_len}
use Rattle.std.proofs.Common.{ap, sym, ◌∙◌, subst, arith, add-one}
use Rattle.std.proofs.lemmas.List.{map-id}
use Rattle.bsp_core.specs.Lockstep.{IsEnd}
use Rattle.bsp_core.specs.Turns.{AreDone, HasEnded, WorldState, sent_of}
use Rattle.bsp_core.specs.Views.{View, next_of}
use Rattle.bsp_core.specs.declared.phased.Want.TheVariants.{Done}
use Rattle.bsp_mail.specs.declared.seat.MailSeat.{MailSeat}
use Rattle.bsp_threads.specs.Alls.{AreAtEnd}
use Rattle.chaos_letter.specs.declared.letter.Letter.{Letter}
use Rattle.chaos_node.specs.EndLaws.{KnowsRun, NodesEndWithRun}
use Rattle.chaos_entering.specs.Standing.{node_holds}
use Rattle.chaos_entering.specs.State.{NodeState}
use Rattle.chaos_holdings.specs.declared.session.Session.{Session}
use Rattle.plan_run.specs.DueLaws.{rows_have_due_lists, rows_have_moves}
use Rattle.plan_run.specs.Phases.{due_list, run_moves}
use Rattle.plan_run.specs.Rows.{RunPlan, node_row}
use Rattle.fd_program.specs.Runs.{run_of}
use Rattle.fd_program.specs.Texts.{text_of}
use Rattle.fd_program.specs.declared.refused.Refused.{Refused}
use Rattle.fd_program.specs.Reports.{report_of, report_of_program}
use Rattle.fd_program.specs.declared.count.SiteCount.{SiteCount}
use Rattle.chaos_engine.specs.Counts.{total_counts}
use Rattle.chaos_engine.specs.Runs.{IsAdmitted, plan_of}
use Rattle.chaos_engine.proofs.Totals.{get_within, node_counts, totals_are}
use Rattle.chaos_engine.proofs.Begun.{admitted}

-- ---- nodes

-- all nodes of the plan are at its end
pub record AreOver (s : Session) (store : List (List ℤ)) (nodes : List (View NodeState)) : Type 0 where
  pub phase : ℕ
  pub end : IsEnd (node_row (plan_of s store)) phase
  pub count : length nodes ≡ s.nodes
  pub done : AreDone (λ (v : View NodeState). v) nodes
  pub known : (p : ℕ) (v : View NodeState) → slice_get nodes p ≡ Some v → node_holds (plan_of s store) phase p v.state

first_in : (nodes : List (View NodeState)) → 0 < length nodes → (v : View NodeState) × (slice_get nodes 0 ≡ Some v)
first_in [] h = absurd (omega arith)
first_in (v ∷ nodes) h = (v, refl)

-- the counts of all nodes are those of the run
counts_from : (plan : RunPlan) (low : ℕ) (vs : List (View NodeState)) → ((k : ℕ) (v : View NodeState) → slice_get vs k ≡ Some v
    → v.state.end.counts ≡ node_counts plan (low + k))
    → map (λ (v : View NodeState). v.state.end.counts) vs ≡ map (node_counts plan) (range_with_len low (length vs))
counts_from plan low [] h = refl
counts_from plan low (v ∷ vs) h =
    let first : v.state.end.counts ≡ node_counts plan low = h 0 v refl ∙ ap (node_counts plan) (let e : low + 0 ≡ low = omega arith in e) in
    ap (λ (c : List SiteCount). c ∷ map (λ (x : View NodeState). x.state.end.counts) vs) first
    ∙ ap (λ (l : List (List SiteCount)). node_counts plan low ∷ l)
    (counts_from plan (low + 1) vs (λ k x e. h (k + 1) x (let more : slice_get (v ∷ vs) (k + 1) ≡ Some x = ap (slice_get (v ∷ vs))
    (add-one k) ∙ e in more) ∙ ap (node_counts plan) (let e : low + (k + 1) ≡ low + 1 + k = omega arith in e)))

module _ (s : Session) (store : List (List ℤ)) (nodes : List (View NodeState)) (h : IsAdmitted s store) (over : AreOver s store nodes)
    (ends : NodesEndWithRun) where
  first_node : (v : View NodeState) × (slice_get nodes 0 ≡ Some v)
  first_node = first_in nodes (subst (λ n. 0 < n) (sym over.count) h.some)

  -- each node knows the run
  known_at : (p : ℕ) (v : View NodeState) → slice_get nodes p ≡ Some v → KnowsRun (plan_of s store) p v.state
  known_at p v here =
      ends (plan_of s store) over.phase p v.state (admitted s store h) over.end
      (subst (λ n. p < n) over.count (get_within nodes p v here)) (over.known p v here)

  pub text_over : (text : List ℕ) → ((v : View NodeState) → slice_get nodes 0 ≡ Some v → text ≡ v.state.text)
      → text ≡ text_of s.checked store
  text_over text told = told first_node.0 first_node.1 ∙ (known_at 0 first_node.0 first_node.1).text

  pub refused_over : (refused : Bool) → ((v : View NodeState) → slice_get nodes 0 ≡ Some v → next_of v.face ≡ Done
      → refused ≡ is_some v.state.end.refused)
      → refused ≡ is_some (run_of s.checked store).refused
  refused_over refused told =
      told first_node.0 first_node.1 (over.done 0 first_node.0 first_node.1)
      ∙ ap (λ (o : Option Refused). is_some o) (known_at 0 first_node.0 first_node.1).refused

  pub report_over : (report : List ℕ)
      → (AreDone (λ (v : View NodeState). v) nodes
      → report ≡ report_of s.checked.sites
      (total_counts (length s.checked.sites) (map (λ (v : View NodeState). v.state.end.counts) nodes)))
      → report ≡ report_of_program s.checked s.nodes s.rule store
  report_over report told =
      told over.done
      ∙ ap (λ (cs : List (List SiteCount)). report_of s.checked.sites (total_counts (length s.checked.sites) cs))
      (counts_from (plan_of s store) 0 nodes (λ k v e. (known_at k v e).counts
      ∙ ap (node_counts (plan_of s store)) (let z : k ≡ 0 + k = omega arith in z))
      ∙ ap (λ n. map (node_counts (plan_of s store)) (range_with_len 0 n)) over.count)
      ∙ ap (report_of s.checked.sites) (totals_are (plan_of s store) h.some)

-- nodes that were driven to the plan's end
pub driven_over : (s : Session) (store : List (List ℤ)) (nodes : List (View NodeState)) (mails : List MailSeat)
    → AreDone (λ (v : View NodeState). v) nodes
    → AreAtEnd (node_row (plan_of s store)) (node_holds (plan_of s store)) s.nodes (map (λ (v : View NodeState). v) nodes) mails
    → AreOver s store nodes
driven_over s store nodes mails done at =
    let same : map (λ (v : View NodeState). v) nodes ≡ nodes = map-id nodes in
    record {
      phase = at.phase;
      end = at.end;
      count = ap length (sym same) ∙ at.count;
      done = done;
      known = λ p v e. (at.nodes p v (subst (λ (l : List (View NodeState)). slice_get l p ≡ Some v) (sym same) e)).1;
    }

-- ---- a World

abbrev pub Over : Session → List (List ℤ) → WorldState (View NodeState) → Type 0
Over s store w = HasEnded (λ (v : View NodeState). v) (node_row (plan_of s store)) (node_holds (plan_of s store)) s.nodes w

-- the nodes of a World at its end
pub world_over : (s : Session) (store : List (List ℤ)) (w : WorldState (View NodeState)) (nodes : List (View NodeState))
    → length w.nodes ≡ s.nodes → Over s store w
    → AreDone (λ (v : View NodeState). v) w.nodes → nodes ≡ w.nodes → AreOver s store nodes
world_over s store w nodes size over done same = subst (AreOver s store) (sym same) all
  where
    all : AreOver s store w.nodes
    all = record {
      phase = over.phases;
      end = over.is.end;
      count = size;
      done = done;
      known = λ p v e. over.is.known p (subst (λ n. p < n) size (get_within w.nodes p v e)) v
          (subst (λ (l : List (View NodeState)). slice_get l p ≡ Some v) (sym (map-id w.nodes)) e);
    }

pub sent_over : (s : Session) (store : List (List ℤ)) (w : WorldState (View NodeState)) (sent : List (List Letter)) → Over s store w
    → sent ≡ w.sent
    → (p q : ℕ) → p < s.nodes → q < s.nodes → sent_of s.nodes sent p q ≡ due_list s.checked s.nodes s.rule store p q
sent_over s store w sent over same p q lp lq =
    ap (λ (l : List (List Letter)). sent_of s.nodes l p q) same ∙ over.is.sent_is p q lp lq
    ∙ rows_have_due_lists (plan_of s store) p q over.phases lq over.is.end

pub moves_over : (s : Session) (store : List (List ℤ)) (w : WorldState (View NodeState)) (moved : List ℕ) → IsAdmitted s store
    → Over s store w → moved ≡ w.moved
    → length moved ≡ run_moves s.checked s.nodes s.rule store
moves_over s store w moved h over same =
    ap length same ∙ over.moves ∙ over.is.all_moves ∙ rows_have_moves (plan_of s store) over.phases h.some over.is.end
