use Rattle.std.proofs.Common.{ℕ, Some, nat_lt, subst, ap, ◌∙◌}
use Rattle.chunk_store.specs.Chunks.{Extends}
use Rattle.chunk_store.specs.Drafts.{chunks_of}
use Rattle.chunk_store.specs.Kinds.{is_data}
use Rattle.schema_model.specs.Limits.{most_rows}
use Rattle.plain_writes.specs.Violations.{first_violation}
use Rattle.plain_writes.specs.Writes.{effect_if, replaced, with_rows}
use Rattle.plain_writes.specs.CheckTexts.{checks}
use Rattle.table_root.specs.declared.records.StoredTable.{StoredTable}
use Rattle.violation_lists.specs.Scanning.{has_constraints_beside}
use Rattle.sql_write.specs.Making.{Makes}
use Rattle.sql_write.proofs.TableLemmas.{constrained_replaced, listed_there, read_later}
use Rattle.sql_write.proofs.putting.fill_table.Goals as goal

pub is_constrained_beside-requires-after_bounds : goal.is_constrained_beside-requires-after_bounds
is_constrained_beside-requires-after_bounds g c κs within =
    let can = c.requires.3 in
    (c.requires.0, listed_there g.D.Digester.address (chunks_of c.args.draft.now.chunks) c.args.tables.items c.as_slice.result.now c.requires.0 can.put.listed c.as_slice.ensures.value)

pub judged-requires-clause-old : goal.judged-requires-clause-old
judged-requires-clause-old g c κs within =
    let old = c.args.draft.now.chunks in
    let new = c.put_rows.new.draft.chunks in
    let laws = c.laws_of_growth.ensures in
    let more : Extends (chunks_of old) (chunks_of new) = laws.drafts.longer_extends old new (laws.growth.is_longer is_data c.args.draft.now c.put_rows.new.draft c.put_rows.ensures.grows) in
    let can = c.requires.3 in
    (c.requires.0, read_later g.D.Digester.address (chunks_of old) (chunks_of new) more laws.databases c.args.database.now.0 c.requires.0 can.at)

pub judged-requires-clause-new : goal.judged-requires-clause-new
judged-requires-clause-new g c κs within =
    let can = c.requires.3 in
    let address = g.D.Digester.address in
    let put = can.put in
    let edit = put.edit in
    let made = with_rows c.requires.1 c.requires.2 in (
      replaced c.args.name.now made c.requires.0,
      c.in_ok-new.ensures.stands c.requires.0 c.requires.1 c.requires.2 put,
      c.in_ok-constrained.ensures c.requires.0 (listed_there address (chunks_of c.args.draft.now.chunks) c.args.tables.items c.as_slice.result.now c.requires.0 put.listed c.as_slice.ensures.value)
          ∙ ap (λ (t : StoredTable). has_constraints_beside c.args.name.now t.schema c.requires.0) edit.stands.value
          ∙ constrained_replaced c.args.name.now made c.requires.0,
    )

pub returns-clause-done : goal.returns-clause-done
returns-clause-done g c = λ before contents after can.
    let address = g.D.Digester.address in
    let old = c.args.draft.now.chunks in
    let new = c.put_rows.new.draft.chunks in
    let laws = c.laws_of_growth.ensures in
    let more : Extends (chunks_of old) (chunks_of new) = laws.drafts.longer_extends old new (laws.growth.is_longer is_data c.args.draft.now c.put_rows.new.draft c.put_rows.ensures.grows) in
    let made = replaced c.args.name.now (with_rows contents after) before in
    subst (λ (n : ℕ). Makes address (chunks_of new) c.judged.result (effect_if (first_violation checks before made) (nat_lt most_rows n) (record { database = made; count = Some c.args.count })))
    can.counted
    (c.judged.ensures before made (read_later address (chunks_of old) (chunks_of new) more laws.databases c.args.database.now.0 before can.at)
    (c.in_ok-new.ensures.stands before contents after can.put))
