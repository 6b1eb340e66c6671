use Rattle.chunk_store.specs.Kinds.{is_data}
use Rattle.root_merge.proofs.TableLemmas.{node_data, table_data}
use Rattle.root_merge.proofs.tables.keep_merged.Goals as goal

pub returns-clause-made : goal.returns-clause-made
returns-clause-made g c = λ contents may. record {
  table = c.in_ok-at.ensures.stands contents (record { stands = c.in_ok-table.ensures.stands contents may; within = may.within });
  conflicts = c.conflicts_in-conflicts.ensures contents may.stands;
}

pub returns-clause-grows : goal.returns-clause-grows
returns-clause-grows g c =
    let old = c.args.draft.now in
    let mid = c.with_indexes.new.draft in
    let new = c.keep_table.new.draft in
    let laws = c.laws_of_growth.ensures.growth in
    laws.in_steps is_data old mid new (node_data laws old mid c.with_indexes.ensures.grows) (table_data laws mid new c.keep_table.ensures.grows)

pub returns-in_err-at-clause-grows : goal.returns-in_err-at-clause-grows
returns-in_err-at-clause-grows g c =
    let old = c.args.draft.now in
    let mid = c.with_indexes.new.draft in
    let new = c.keep_table.new.draft in
    let laws = c.laws_of_growth.ensures.growth in
    laws.in_steps is_data old mid new (node_data laws old mid c.with_indexes.ensures.grows) (table_data laws mid new c.keep_table.ensures.grows)
