use Rattle.std.proofs.Common.{◌≡◌, filter, map}
use Rattle.std.proofs.lemmas.Result.{IfOk-weaker}
use Rattle.chunk_store.specs.Drafts.{chunks_of}
use Rattle.plain_sql.specs.Plans.{meaning}
use Rattle.sql_select.specs.Choosing.{is_wanted}
use Rattle.sql_write.specs.Passing.{AreRead}
use Rattle.sql_write.proofs.PlaceLemmas.{schema_same}
use Rattle.sql_write.proofs.ReadingLemmas.{wanted_read, whole_read}
use Rattle.sql_write.proofs.reading.rows_to_test.Goals as goal

pub rows_sought-requires-clause-seek : goal.rows_sought-requires-clause-seek
rows_sought-requires-clause-seek g c κs within = c.in_ok-seek.ensures.fits c.in-Some.seek c.in-Some.is

pub returns-in-Some : goal.returns-in-Some
returns-in-Some g c = λ contents of.
    let schema = c.args.found.now.table.schema in
    let wanted = is_wanted schema c.in-Some.seek in
    let tests = map meaning c.args.tests.now in
    let same = schema_same g.D.Digester.address (chunks_of c.args.draft.now.chunks) c.args.found.now.table contents of in
    IfOk-weaker c.rows_sought.result (λ rows. rows ≡ filter wanted contents.rows) (λ rows. AreRead tests contents.rows rows)
    (λ rows is. wanted_read tests schema wanted contents rows same (c.in_ok-seek.ensures.leaves c.in-Some.seek c.in-Some.is) of.is_table.rows is) (c.rows_sought.ensures contents of)

pub returns-in-None : goal.returns-in-None
returns-in-None g c = λ contents of.
    let tests = map meaning c.args.tests.now in
    IfOk-weaker c.rows_of.result (λ rows. rows ≡ contents.rows) (λ rows. AreRead tests contents.rows rows) (λ rows is. whole_read tests contents.rows rows is) (c.rows_of.ensures contents of)
