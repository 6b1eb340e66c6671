use Rattle.std.proofs.Common.{ap}
use Rattle.std.specs.Option.{option_map}
use Rattle.table_merge.proofs.DecideLemmas.{none_read, row_for, row_read}
use Rattle.table_merge.proofs.changing.row_at.Goals as goal

pub row_of-requires-clause-row : goal.row_of-requires-clause-row
row_of-requires-clause-row c =
    let there = row_for c.args.schema.now c.requires.row.0 c.requires.row.1 c.args.key.now c.in-Some.value.now (option_map (λ bytes. bytes.now) c.args.value)
    (ap (λ o. option_map (λ bytes. bytes.now) o) c.in-Some.is) c.requires.row.2 c.requires.row.3 in
    (there.row, there.is)

pub returns-in-None : goal.returns-in-None
returns-in-None c rows cells is at = none_read c.args.schema.now rows cells _ (ap (λ o. option_map (λ bytes. bytes.now) o) c.in-None.is) at

pub returns-in_ok-row_of-in-Some : goal.returns-in_ok-row_of-in-Some
returns-in_ok-row_of-in-Some c rows cells is at =
    row_read c.args.schema.now rows cells c.args.key.now c.in-Some.value.now _ (ap (λ o. option_map (λ bytes. bytes.now) o) c.in-Some.is)
    c.in_ok-row_of-in-Some.field-0 (λ row one. c.in_ok-row_of-in-Some.ensures row one) is at
