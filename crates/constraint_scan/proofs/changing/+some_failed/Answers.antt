use Rattle.std.proofs.Common.{◌≡◌, ◌-◌, ◌∙◌, sym, drop, length, take}
use Rattle.std.proofs.lemmas.Result.{IfOk-weaker}
use Rattle.plain_writes.specs.CheckTexts.{checks}
use Rattle.constraint_scan.specs.Changed.{is_failed}
use Rattle.constraint_scan.specs.Pairs.{some_come}
use Rattle.constraint_scan.proofs.PairLemmas.{first_not, first_so, none_below, none_come, pair_parts, failed_come}
use Rattle.constraint_scan.proofs.changing.+some_failed.Goals as goal

pub returns-in_default : goal.returns-in_default
returns-in_default t c = λ address chunks old new own. sym (none_come address chunks (is_failed checks) c.args.tables.now old new own (none_below c.args.tables.now c.in_default.len_below))

pub returns-then-found : goal.returns-then-found
returns-then-found t c = λ address chunks old new own.
    let parts = pair_parts address chunks c.args.tables.now old new c.first-item.result own c.first-item.is c.in-len1-up.len_at_least in
    sym (first_so address chunks (is_failed checks) old new c.first-item.result (take (length c.args.tables.now - 1) (drop 1 c.args.tables.now)) parts
    (sym (failed_come address chunks c.first-item.result parts.old parts.new parts.is c.as_slice-2.result.now c.as_slice-2.ensures checks c.as_slice.result.now c.as_slice.ensures) ∙ sym (c.in_ok-found.ensures) ∙ c.if-found.true))

pub returns : goal.returns
returns t c = λ address chunks old new own.
    let parts = pair_parts address chunks c.args.tables.now old new c.first-item.result own c.first-item.is c.in-len1-up.len_at_least in
    IfOk-weaker c.some_failed.result (λ rest. rest ≡ some_come (is_failed checks) parts.olds parts.news) (λ rest. rest ≡ some_come (is_failed checks) old new)
    (λ rest later. later ∙ sym (first_not address chunks (is_failed checks) old new c.first-item.result (take (length c.args.tables.now - 1) (drop 1 c.args.tables.now)) parts
    (sym (failed_come address chunks c.first-item.result parts.old parts.new parts.is c.as_slice-2.result.now c.as_slice-2.ensures checks c.as_slice.result.now c.as_slice.ensures) ∙ sym (c.in_ok-found.ensures) ∙ c.if-found.false)))
    (c.some_failed.ensures address chunks parts.olds parts.news parts.are)
