use Rattle.std.proofs.Common.{List, [], sym, subst}
use Rattle.chunk_store.specs.Chunks.{Extends}
use Rattle.chunk_store.specs.Drafts.{chunks_of}
use Rattle.chunk_store.specs.Kinds.{is_data, is_database, is_either, is_node, is_table}
use Rattle.table_root.specs.declared.records.TableEntry.{TableEntry}
use Rattle.plain_schemas.specs.Effects.{empty_table, with_table}
use Rattle.index_keep.specs.Keeping.{table_of_rows}
use Rattle.sql_write.specs.Putting.{AreListed}
use Rattle.sql_write.proofs.MakingLemmas.{added_listed, can_build_empty}
use Rattle.sql_write.proofs.SchemaLemmas.{new_kept}
use Rattle.plain_writes.proofs.DatabaseLemmas.{limits_so}
use Rattle.sql_write.proofs.creating.add_table.Goals as goal

pub new_table-requires-after_bounds : goal.new_table-requires-after_bounds
new_table-requires-after_bounds g c κs within =
    let can = c.requires.1 in
    can_build_empty c.args.schema (new_kept c.requires.0 c.args.name.now c.args.schema can.absent can.kept)

pub keep_table-requires-after_bounds : goal.keep_table-requires-after_bounds
keep_table-requires-after_bounds g c κs within =
    let can = c.requires.1 in
    let kept = new_kept c.requires.0 c.args.name.now c.args.schema can.absent can.kept in
    (table_of_rows c.args.schema [], record { stands = c.in_ok-table.ensures.stands; limits = (limits_so (empty_table c.args.schema) kept.within).0 })

pub put_database-requires-after_bounds : goal.put_database-requires-after_bounds
put_database-requires-after_bounds g c κs within =
    let address = g.D.Digester.address in
    let old = c.args.draft.now in
    let one = c.new_table.new.draft in
    let two = c.keep_table.new.draft in
    let laws = c.laws_of_growth.ensures in
    let more : Extends (chunks_of old.chunks) (chunks_of two.chunks) = laws.drafts.longer_extends old.chunks two.chunks
    (laws.drafts.in_steps old.chunks one.chunks two.chunks (laws.growth.is_longer is_node old one c.new_table.ensures.grows) (laws.growth.is_longer is_data one two c.keep_table.ensures.grows)) in
    let database = c.requires.0 in
    let can = c.requires.1 in
    let kept = new_kept database c.args.name.now c.args.schema can.absent can.kept in
    let at = c.in_ok-address.ensures.stands (table_of_rows c.args.schema []) (record { stands = c.in_ok-table.ensures.stands; limits = (limits_so (empty_table c.args.schema) kept.within).0 }) in (
      with_table database c.args.name.now c.args.schema,
      subst (λ (l : List TableEntry). AreListed address (chunks_of two.chunks) l (with_table database c.args.name.now c.args.schema)) (sym c.as_slice.ensures.value)
          (added_listed address (chunks_of old.chunks) (chunks_of two.chunks) more laws.tables c.args.tables.items c.in_ok-made.made.items c.args.name.now c.in_ok-from_slice.field-0 c.args.schema c.in_ok-address.address
          database can at c.in_ok-from_slice.ensures c.in_ok-made.ensures),
    )

pub returns-clause-stands : goal.returns-clause-stands
returns-clause-stands g c = λ database can.
    let address = g.D.Digester.address in
    let old = c.args.draft.now in
    let one = c.new_table.new.draft in
    let two = c.keep_table.new.draft in
    let laws = c.laws_of_growth.ensures in
    let more : Extends (chunks_of old.chunks) (chunks_of two.chunks) = laws.drafts.longer_extends old.chunks two.chunks
    (laws.drafts.in_steps old.chunks one.chunks two.chunks (laws.growth.is_longer is_node old one c.new_table.ensures.grows) (laws.growth.is_longer is_data one two c.keep_table.ensures.grows)) in
    let kept = new_kept database c.args.name.now c.args.schema can.absent can.kept in
    let at = c.in_ok-address.ensures.stands (table_of_rows c.args.schema []) (record { stands = c.in_ok-table.ensures.stands; limits = (limits_so (empty_table c.args.schema) kept.within).0 }) in
    c.put_database.ensures.stands (with_table database c.args.name.now c.args.schema)
    (subst (λ (l : List TableEntry). AreListed address (chunks_of two.chunks) l (with_table database c.args.name.now c.args.schema)) (sym c.as_slice.ensures.value)
    (added_listed address (chunks_of old.chunks) (chunks_of two.chunks) more laws.tables c.args.tables.items c.in_ok-made.made.items c.args.name.now c.in_ok-from_slice.field-0 c.args.schema c.in_ok-address.address
    database can at c.in_ok-from_slice.ensures c.in_ok-made.ensures))

pub returns-in_err-address-clause-grows : goal.returns-in_err-address-clause-grows
returns-in_err-address-clause-grows g c =
    let old = c.args.draft.now in
    let one = c.new_table.new.draft in
    let two = c.keep_table.new.draft in
    let growth = c.laws_of_growth.ensures.growth in
    growth.in_steps is_data old one two (growth.either_left is_node (is_either is_table is_database) old one c.new_table.ensures.grows) c.keep_table.ensures.grows

pub returns-in_err-from_slice-clause-grows : goal.returns-in_err-from_slice-clause-grows
returns-in_err-from_slice-clause-grows g c =
    let old = c.args.draft.now in
    let one = c.new_table.new.draft in
    let two = c.keep_table.new.draft in
    let growth = c.laws_of_growth.ensures.growth in
    growth.in_steps is_data old one two (growth.either_left is_node (is_either is_table is_database) old one c.new_table.ensures.grows) c.keep_table.ensures.grows

pub returns-in_err-made-clause-grows : goal.returns-in_err-made-clause-grows
returns-in_err-made-clause-grows g c =
    let old = c.args.draft.now in
    let one = c.new_table.new.draft in
    let two = c.keep_table.new.draft in
    let growth = c.laws_of_growth.ensures.growth in
    growth.in_steps is_data old one two (growth.either_left is_node (is_either is_table is_database) old one c.new_table.ensures.grows) c.keep_table.ensures.grows

pub returns-clause-grows : goal.returns-clause-grows
returns-clause-grows g c =
    let old = c.args.draft.now in
    let one = c.new_table.new.draft in
    let two = c.keep_table.new.draft in
    let growth = c.laws_of_growth.ensures.growth in
    growth.in_steps is_data old two c.put_database.new.draft (growth.in_steps is_data old one two (growth.either_left is_node (is_either is_table is_database) old one c.new_table.ensures.grows) c.keep_table.ensures.grows) c.put_database.ensures.grows
