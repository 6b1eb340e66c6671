use Rattle.std.proofs.Common.{◌≡◌, inl, inr, filter}
use Rattle.std.proofs.lemmas.Result.{IfOk-weaker}
use Rattle.chunk_store.specs.Drafts.{chunks_of}
use Rattle.sql_select.proofs.TableLemmas.{has_rows}
use Rattle.sql_select.specs.Choosing.{is_wanted}
use Rattle.sql_select.specs.Seeks.{AreNeeded}
use Rattle.sql_select.proofs.seeking.rows_needed.Goals as goal

pub rows_sought-requires-clause-seek : goal.rows_sought-requires-clause-seek
rows_sought-requires-clause-seek g c κs within = (c.in_ok-seek.ensures c.in-Some.seek c.in-Some.is).1

pub returns-in-Some : goal.returns-in-Some
returns-in-Some g c = λ contents of.
    IfOk-weaker c.rows_sought.result (λ read. read ≡ filter (is_wanted c.args.table.now.schema c.in-Some.seek) contents.rows) (λ read. AreNeeded c.args.query.now c.args.table.now.schema contents.rows read)
    (λ read e. inr (is_wanted c.args.table.now.schema c.in-Some.seek, (c.in_ok-seek.ensures c.in-Some.seek c.in-Some.is).0, e)) (c.rows_sought.ensures contents of)

pub read_rows-requires-clause-schema : goal.read_rows-requires-clause-schema
read_rows-requires-clause-schema g c κs within =
    let has = has_rows g.D.Digester.address (chunks_of c.args.draft.now.chunks) c.args.table.now c.requires.0 c.requires.1 in
    has.valid

pub read_rows-requires-clause-tree : goal.read_rows-requires-clause-tree
read_rows-requires-clause-tree g c κs within =
    let has = has_rows g.D.Digester.address (chunks_of c.args.draft.now.chunks) c.args.table.now c.requires.0 c.requires.1 in
    let rows = c.requires.0.rows in
    (rows, record { fit = has.fit; tree = has.tree })

pub returns-in-None : goal.returns-in-None
returns-in-None g c = λ contents of.
    let has = has_rows g.D.Digester.address (chunks_of c.args.draft.now.chunks) c.args.table.now contents of in
    IfOk-weaker c.read_rows.result (λ read. read ≡ contents.rows) (λ read. AreNeeded c.args.query.now c.args.table.now.schema contents.rows read) (λ read e. inl e)
    (c.read_rows.ensures contents.rows (record { fit = has.fit; tree = has.tree }))
