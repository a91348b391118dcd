use Rattle.std.proofs.Common.{◌≡◌, ◌==◌, ◌∷◌, ◌∙◌, ℕ, ap, arith, length, not, refl, sym}
use Rattle.append_node.proofs.Handing.{all_handed, none_handed, one_handed, one_kept}
use Rattle.append_node.proofs.begin.hand_on.Goals as goal

pub loop-list-init : goal.loop-list-init
loop-list-init c =
    none_handed c.args.lists c.args.me c.args.round c.into_vec-rest.result.items c.new-own.result c.new-next.result.items
    c.into_vec-rest.ensures
    c.requires.me c.new-next.ensures.items

pub loop-list-preserved : goal.loop-list-preserved
loop-list-preserved c =
    let last : c.len-q.result ≡ length c.pop.new.self.items = omega (arith, c.len-q.ensures, c.pop.new.self.ok.0) in
    one_kept c.args.lists c.args.me c.args.round c.loop-list.rest.items c.pop.new.self.items c.in-Some.list c.loop-list.own
    c.loop-list.next.items
    c.in-Some.ensures.items c.loop-list.invariant c.in-Some.list (ap (λ n. not (c.args.me == n)) (sym last) ∙ sym c.if-sends.ensures) refl

pub loop-list-preserved-in-Continue-1 : goal.loop-list-preserved-in-Continue-1
loop-list-preserved-in-Continue-1 c =
    let last : c.len-q.result ≡ length c.pop.new.self.items = omega (arith, c.len-q.ensures, c.pop.new.self.ok.0) in
    one_handed c.args.lists c.args.me c.args.round c.loop-list.rest.items c.pop.new.self.items c.in-Some.list c.loop-list.own
    c.loop-list.next.items
    c.in-Some.ensures.items c.loop-list.invariant c.new.result c.push_front.new.self.items
    (ap (λ n. not (c.args.me == n)) (sym last) ∙ sym c.if-sends.ensures) c.new.ensures
    (c.in_ok-push_front.ensures.items ∙ ap (λ (n : ℕ). (n, c.new.result) ∷ c.loop-list.next.items) last)

pub returns : goal.returns
returns c =
    let none : length c.loop-list.rest.items ≡ 0 = omega (arith, c.in_default.ensures.cases.0, c.loop-list.rest.ok.0) in
    let all = all_handed c.args.lists c.args.me c.args.round c.loop-list.rest.items c.loop-list.own c.loop-list.next.items none
    c.loop-list.invariant in
    record { own = all.0; next = all.1 }
