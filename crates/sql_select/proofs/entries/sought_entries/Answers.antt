use Rattle.std.proofs.Common.{◌≡◌, [], Some}
use Rattle.std.proofs.lemmas.Result.{IfOk-weaker}
use Rattle.sql_select.specs.Entries.{AreEntriesOf, is_entered}
use Rattle.sql_select.specs.Parts.{AreEntriesIn}
use Rattle.sql_select.specs.Seeking.{Seeks}
use Rattle.sql_select.proofs.KeyLemmas.{entries_and, entries_fit, entries_one}
use Rattle.sql_select.proofs.entries.sought_entries.Goals as goal

pub returns-in-And-clause-seeks : goal.returns-in-And-clause-seeks
returns-in-And-clause-seeks c = λ entries.
    IfOk-weaker c.entries_in.result (λ found. found ≡ Some entries → AreEntriesIn c.args.schema.now c.get.result.now c.as_slice.result.now entries)
    (λ found. found ≡ Some entries → Seeks c.args.schema.now c.args.test.now (is_entered c.args.schema.now entries))
    (λ found f e. entries_and c.args.schema.now c.args.test.now c.in-And.first c.get.result.now c.in-And.rest c.as_slice.result.now entries c.in-And.is c.get.ensures c.as_slice.ensures (f e))
    (c.entries_in.ensures entries)

pub returns-in-And-clause-fits : goal.returns-in-And-clause-fits
returns-in-And-clause-fits c = λ entries.
    IfOk-weaker c.entries_in.result (λ found. found ≡ Some entries → AreEntriesIn c.args.schema.now c.get.result.now c.as_slice.result.now entries)
    (λ found. found ≡ Some entries → AreEntriesOf c.args.schema.now entries)
    (λ found f e. entries_fit c.args.schema.now c.get.result.now c.as_slice.result.now entries (f e))
    (c.entries_in.ensures entries)

pub returns-in_default : goal.returns-in_default
returns-in_default c = record {
  seeks = λ entries.
      IfOk-weaker c.entries_in-in_default.result (λ found. found ≡ Some entries → AreEntriesIn c.args.schema.now c.args.test.now.node [] entries)
      (λ found. found ≡ Some entries → Seeks c.args.schema.now c.args.test.now (is_entered c.args.schema.now entries))
      (λ found f e. entries_one c.args.schema.now c.args.test.now entries (f e)) (c.entries_in-in_default.ensures entries);
  fits = λ entries.
      IfOk-weaker c.entries_in-in_default.result (λ found. found ≡ Some entries → AreEntriesIn c.args.schema.now c.args.test.now.node [] entries)
      (λ found. found ≡ Some entries → AreEntriesOf c.args.schema.now entries)
      (λ found f e. entries_fit c.args.schema.now c.args.test.now.node [] entries (f e)) (c.entries_in-in_default.ensures entries);
}
