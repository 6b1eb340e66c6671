use Rattle.std.proofs.Common.{◌≡◌, ◌∙◌, IfOk, List, sym, subst}
use Rattle.std.specs.List.{list_any}
use Rattle.chunk_store.specs.Drafts.{chunks_of}
use Rattle.tuple_codec.specs.Rows.{Cells}
use Rattle.constraint_scan.specs.Changed.{is_missed_row}
use Rattle.constraint_scan.proofs.PairLemmas.{old_rows_at, rows_at, schema_at, valid_at}
use Rattle.constraint_scan.proofs.changing.deserts.Goals as goal

pub rows_that_came-requires-clause-schema : goal.rows_that_came-requires-clause-schema
rows_that_came-requires-clause-schema g c κs within = let a = c.requires.parent.1 in let is = c.requires.parent.2 in valid_at g.D.Digester.address (chunks_of c.args.draft.now.chunks) c.args.parent.now.new a.table is.new

pub rows_that_came-requires-clause-old : goal.rows_that_came-requires-clause-old
rows_that_came-requires-clause-old g c κs within = let a = c.requires.parent.1 in let is = c.requires.parent.2 in (a.table.rows, rows_at g.D.Digester.address (chunks_of c.args.draft.now.chunks) c.args.parent.now.new a.table is.new)

pub rows_that_came-requires-clause-new : goal.rows_that_came-requires-clause-new
rows_that_came-requires-clause-new g c κs within =
    let b = c.requires.parent.0 in (b.table.rows, old_rows_at g.D.Digester.address (chunks_of c.args.draft.now.chunks) c.args.parent.now b c.requires.parent.1 c.requires.parent.2)

pub returns : goal.returns
returns g c = λ before after contents b a are child is.
    let rows = c.in_ok-rows.ensures a.table.rows b.table.rows (rows_at g.D.Digester.address (chunks_of c.args.draft.now.chunks) c.args.parent.now.new a.table is.new) (old_rows_at g.D.Digester.address (chunks_of c.args.draft.now.chunks) c.args.parent.now b a is) in
    subst (λ (l : List Cells). IfOk c.has_missed.result (λ found. found ≡ list_any (is_missed_row after contents c.args.foreign.now a.table) l)) (c.as_slice.ensures ∙ rows)
    (c.has_missed.ensures before after contents a.table are child (sym (schema_at g.D.Digester.address (chunks_of c.args.draft.now.chunks) c.args.parent.now.new a.table is.new)))
