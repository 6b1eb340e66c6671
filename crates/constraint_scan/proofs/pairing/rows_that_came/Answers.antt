use Rattle.std.proofs.Common.{◌≡◌, ◌∙◌, List, ap, map}
use Rattle.std.specs.List.{list_all}
use Rattle.chunk_store.specs.Drafts.{chunks_of}
use Rattle.tuple_codec.specs.Rows.{Cells}
use Rattle.schema_model.specs.PlainTables.{is_row, row_item}
use Rattle.constraint_scan.specs.Pairs.{come_of, come_pairs}
use Rattle.constraint_scan.proofs.ComeLemmas.{come_fit, rows_come}
use Rattle.constraint_scan.proofs.pairing.rows_that_came.Goals as goal

pub changes-requires-clause-old_tree : goal.changes-requires-clause-old_tree
changes-requires-clause-old_tree g c κs within = let at = c.requires.old.1 in (map (row_item c.args.schema.now) c.requires.old.0, at.tree)

pub changes-requires-clause-new_tree : goal.changes-requires-clause-new_tree
changes-requires-clause-new_tree g c κs within = let at = c.requires.new.1 in (map (row_item c.args.schema.now) c.requires.new.0, at.tree)

pub rows_of_changes-requires-clause-rows : goal.rows_of_changes-requires-clause-rows
rows_of_changes-requires-clause-rows g c =
    let schema = c.args.schema.now in
    let before = c.requires.old.1 in
    let after = c.requires.new.1 in (
      come_of c.requires.old.0 c.requires.new.0,
      come_fit (is_row schema) c.requires.old.0 c.requires.new.0 after.fit,
      ap come_pairs (c.as_slice.ensures.value ∙ c.in_ok-list.ensures.changes (map (row_item schema) c.requires.old.0) (map (row_item schema) c.requires.new.0) before.tree after.tree)
          ∙ rows_come c.law_of_row_items.ensures schema c.requires.schema c.requires.old.0 c.requires.new.0 before.fit after.fit before.tree.are_rows.rise after.tree.are_rows.rise,
    )

pub returns : goal.returns
returns g c = λ rows others before after.
    let schema = c.args.schema.now in
    c.rows_of_changes.ensures (come_of rows others) (come_fit (is_row schema) rows others after.fit)
    (ap come_pairs (c.as_slice.ensures.value ∙ c.in_ok-list.ensures.changes (map (row_item schema) rows) (map (row_item schema) others) before.tree after.tree)
    ∙ rows_come c.law_of_row_items.ensures schema c.requires.schema rows others before.fit after.fit before.tree.are_rows.rise after.tree.are_rows.rise)
