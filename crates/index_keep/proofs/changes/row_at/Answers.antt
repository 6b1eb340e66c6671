use Rattle.std.proofs.Common.{ap}
use Rattle.std.specs.Option.{option_map}
use Rattle.index_keep.proofs.ReadLemmas.{none_read, row_for, row_read}
use Rattle.index_keep.proofs.changes.row_at.Goals as goal

pub row_of-requires-clause-row : goal.row_of-requires-clause-row
row_of-requires-clause-row c =
    let there = row_for c.args.schema.now c.requires.row.0 c.args.key.now c.in-Some.value.now (option_map (λ bytes. bytes.now) c.args.value)
    (ap (λ o. option_map (λ bytes. bytes.now) o) c.in-Some.is) c.requires.row.1 in
    (there.row, there.is)

pub returns-in-None : goal.returns-in-None
returns-in-None c rows at = none_read c.args.schema.now rows c.args.key.now _ (ap (λ o. option_map (λ bytes. bytes.now) o) c.in-None.is) at

pub returns-in_ok-row_of-in-Some : goal.returns-in_ok-row_of-in-Some
returns-in_ok-row_of-in-Some c rows at =
    row_read c.args.schema.now rows c.args.key.now c.in-Some.value.now _ (ap (λ o. option_map (λ bytes. bytes.now) o) c.in-Some.is)
    c.in_ok-row_of-in-Some.field-0 (λ row is. c.in_ok-row_of-in-Some.ensures row is) at
