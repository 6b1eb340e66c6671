use Rattle.std.proofs.Common.{◌≡◌, ◌+◌, ◌++◌, ℕ, List, length, true, false, sym, ◌∙◌, subst, arith}
use Rattle.tuple_codec.specs.declared.edits.Edit.{Edit}
use Rattle.chunk_store.specs.Drafts.{chunks_of}
use Rattle.schema_model.specs.PlainTables.{row_items}
use Rattle.expr_eval.specs.Binding.{Outcome}
use Rattle.plain_sql.specs.Lists.{in_order, repeats}
use Rattle.plain_writes.specs.CheckTexts.{checks}
use Rattle.plain_writes.specs.Writes.{Effect, filled, keyed_cmp}
use Rattle.sql_write.specs.Making.{Makes}
use Rattle.sql_write.proofs.PlaceLemmas.{by_key_filled, by_key_refused, can_fill, count_edits, repeats_are, rows_tree}
use Rattle.sql_write.proofs.inserting.insert_sorted.Goals as goal

pub returns-then-repeats_key-clause-done : goal.returns-then-repeats_key-clause-done
returns-then-repeats_key-clause-done g c = λ before contents rows may.
    let address = g.D.Digester.address in
    let chunks = chunks_of c.args.draft.now.chunks in
    let tree = rows_tree address chunks c.args.found.table contents may.may.found_is.stands in
    let e : repeats (keyed_cmp contents.schema) (contents.rows ++ rows) ≡ true =
    sym (repeats_are c.law_of_row_items.ensures address chunks c.args.database.now.0 c.args.name.now c.args.found may.edits c.args.edits.now before contents rows may.may may.are_sorted)
    ∙ sym (c.repeats_key.ensures (row_items contents) tree) ∙ c.if-repeats_key.true in
    by_key_refused checks before c.args.name.now contents (contents.rows ++ rows) (length rows) e

pub fill_table-requires-after_bounds : goal.fill_table-requires-after_bounds
fill_table-requires-after_bounds g c κs within =
    let address = g.D.Digester.address in
    let chunks = chunks_of c.args.draft.now.chunks in
    let before = c.requires.0 in
    let contents = c.requires.1 in
    let rows = c.requires.2 in
    let may = c.requires.3 in
    let tree = rows_tree address chunks c.args.found.table contents may.may.found_is.stands in
    let once : repeats (keyed_cmp contents.schema) (contents.rows ++ rows) ≡ false =
    sym (repeats_are c.law_of_row_items.ensures address chunks c.args.database.now.0 c.args.name.now c.args.found may.edits c.args.edits.now before contents rows may.may may.are_sorted)
    ∙ sym (c.repeats_key.ensures (row_items contents) tree) ∙ c.if-repeats_key.false in
    let after = c.in_ok-rows.ensures (row_items contents) tree in
    let counted : c.in_ok-rows.rows ≡ length (row_items contents) + length may.edits = omega (arith, after.0, may.count) in (
      before,
      contents,
      in_order (keyed_cmp contents.schema) (contents.rows ++ rows),
      can_fill c.law_of_row_items.ensures address chunks c.args.database.now.0 c.args.name.now c.args.found may.edits c.args.edits.now before contents rows may.may may.are_sorted c.in_ok-rows.rows counted after.1 once,
    )

pub returns-clause-done : goal.returns-clause-done
returns-clause-done g c = λ before contents rows may.
    let address = g.D.Digester.address in
    let chunks = chunks_of c.args.draft.now.chunks in
    let tree = rows_tree address chunks c.args.found.table contents may.may.found_is.stands in
    let once : repeats (keyed_cmp contents.schema) (contents.rows ++ rows) ≡ false =
    sym (repeats_are c.law_of_row_items.ensures address chunks c.args.database.now.0 c.args.name.now c.args.found may.edits c.args.edits.now before contents rows may.may may.are_sorted)
    ∙ sym (c.repeats_key.ensures (row_items contents) tree) ∙ c.if-repeats_key.false in
    let after = c.in_ok-rows.ensures (row_items contents) tree in
    let counted : c.in_ok-rows.rows ≡ length (row_items contents) + length may.edits = omega (arith, after.0, may.count) in
    let all = in_order (keyed_cmp contents.schema) (contents.rows ++ rows) in
    let can = can_fill c.law_of_row_items.ensures address chunks c.args.database.now.0 c.args.name.now c.args.found may.edits c.args.edits.now before contents rows may.may may.are_sorted c.in_ok-rows.rows counted after.1 once in
    let new = chunks_of c.fill_table.new.draft.chunks in
    subst (λ (o : Outcome Effect). Makes address new c.fill_table.result o) (sym (by_key_filled checks before c.args.name.now contents (contents.rows ++ rows) (length rows) once))
    (subst (λ (n : ℕ). Makes address new c.fill_table.result (filled checks before c.args.name.now contents n all)) (may.count ∙ count_edits contents.schema may.edits rows may.may.edits_are)
    (c.fill_table.ensures.done before contents all can))
