use Rattle.std.proofs.Common.{rules, ◌≡◌, ◌*◌, ◌∷◌, [], ◌++◌, length, pos, take, ap, ◌∙◌, FitsSigned, w64, to_z, of_z, append_assoc}
use Rattle.std.specs.Prelude.{◌/◌}
use Rattle.std.proofs.lemmas.Int.{to_z-of_z}
use Rattle.chaos_execute.proofs.Numbering.{grown_numbered, taken_numbered, odd_numbered, added_numbered, row_added}
use Rattle.chaos_execute.proofs.numbered_rows.add.Goals as goal

pub returns-in_err-grow-clause-numbered : goal.returns-in_err-grow-clause-numbered
returns-in_err-grow-clause-numbered c =
    grown_numbered c.args.table.now.items c.grow.new.table.items c.args.rows.now.items c.requires.numbered c.in_err-grow.ensures.grown

pub returns-in_err-push-clause-numbered : goal.returns-in_err-push-clause-numbered
returns-in_err-push-clause-numbered c =
    let a = c.args in
    let rows = a.rows.now.items in
    let len : c.len-number.result ≡ length rows = search rules in
    taken_numbered rows (c.len-number.result / 2) (ap (λ n. n / 2) len) c.grow.new.table.items c.push.new.self.items
    (grown_numbered a.table.now.items c.grow.new.table.items rows c.requires.numbered c.in_ok-grow.ensures.grown)
    (c.in_err-push.ensures.items ∙ c.truncate.ensures.items)

pub returns-in_err-push-2-clause-numbered : goal.returns-in_err-push-2-clause-numbered
returns-in_err-push-2-clause-numbered c =
    let a = c.args in
    let rows = a.rows.now.items in
    let len : c.len-number.result ≡ length rows = search rules in
    odd_numbered rows (c.len-number.result / 2) (ap (λ n. n / 2) len) c.grow.new.table.items c.push-2.new.self.items (to_z w64 a.place)
    (grown_numbered a.table.now.items c.grow.new.table.items rows c.requires.numbered c.in_ok-grow.ensures.grown)
    (c.in_err-push-2.ensures.items ∙ c.in_ok-push.ensures.items ∙ ap (λ ns. ns ++ to_z w64 a.place ∷ []) c.truncate.ensures.items)

-- what stands then: whole rows as before, and the new one
row_behind : (c : goal.After-table-1) → c.push-2.new.self.items
    ≡ take (2 * (c.len-number.result / 2)) c.args.rows.now.items ++ pos c.args.place ∷ to_z w64 (of_z w64 c.args.value) ∷ []
row_behind c =
    let a = c.args in
    let place : to_z w64 a.place ≡ pos a.place = search rules in
    let front = take (2 * (c.len-number.result / 2)) a.rows.now.items in
    let value = to_z w64 (of_z w64 a.value) in
    c.in_ok-push-2.ensures.items
    ∙ ap (λ ns. ns ++ value ∷ []) (c.in_ok-push.ensures.items ∙ ap (λ ns. ns ++ to_z w64 a.place ∷ []) c.truncate.ensures.items
    ∙ ap (λ p. front ++ p ∷ []) place)
    ∙ append_assoc front (pos a.place ∷ []) (value ∷ [])

pub returns-clause-numbered : goal.returns-clause-numbered
returns-clause-numbered c =
    let a = c.args in
    let rows = a.rows.now.items in
    let len : c.len-number.result ≡ length rows = search rules in
    added_numbered rows (c.len-number.result / 2) (ap (λ n. n / 2) len) c.grow.new.table.items c.push-2.new.self.items a.place
    (to_z w64 (of_z w64 a.value))
    (grown_numbered a.table.now.items c.grow.new.table.items rows c.requires.numbered c.in_ok-grow.ensures.grown)
    c.requires.is_new c.in_ok-grow.ensures.long c.if-number.false (row_behind c)

pub returns-clause-joined : goal.returns-clause-joined
returns-clause-joined c operator =
    let a = c.args in
    let rows = a.rows.now.items in
    let len : c.len-number.result ≡ length rows = search rules in
    let fits : FitsSigned w64 a.value = search rules in
    let front = take (2 * (c.len-number.result / 2)) rows in
    row_added rows (c.len-number.result / 2) (ap (λ n. n / 2) len) operator c.push-2.new.self.items a.place a.value c.requires.is_new
    (row_behind c ∙ ap (λ v. front ++ pos a.place ∷ v ∷ []) (to_z-of_z w64 a.value fits))
