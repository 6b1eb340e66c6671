use Rattle.chunk_store.specs.Kinds.{is_data}
use Rattle.root_merge.proofs.TableLemmas.{node_data, table_data}
use Rattle.root_merge.proofs.changing.keep_edits.Goals as goal

pub keep_table-requires-after_bounds : goal.keep_table-requires-after_bounds
keep_table-requires-after_bounds g c κs within =
    let has = c.requires.2 in
    (c.requires.1, record { stands = c.in_ok-table.ensures.stands c.requires.0 c.requires.1 has; within = has.within })

pub returns-clause-made : goal.returns-clause-made
returns-clause-made g c = λ before contents has. record {
  table = c.in_ok-at.ensures.stands contents (record { stands = c.in_ok-table.ensures.stands before contents has; within = has.within });
  conflicts = c.conflicts_in-conflicts.ensures contents has.can.made.stands;
}

pub returns-clause-grows : goal.returns-clause-grows
returns-clause-grows g c =
    let old = c.args.draft.now in
    let mid = c.with_edits.new.draft in
    let new = c.keep_table.new.draft in
    let laws = c.laws_of_growth.ensures.growth in
    laws.in_steps is_data old mid new (node_data laws old mid c.with_edits.ensures.grows) (table_data laws mid new c.keep_table.ensures.grows)

pub returns-in_err-at-clause-grows : goal.returns-in_err-at-clause-grows
returns-in_err-at-clause-grows g c =
    let old = c.args.draft.now in
    let mid = c.with_edits.new.draft in
    let new = c.keep_table.new.draft in
    let laws = c.laws_of_growth.ensures.growth in
    laws.in_steps is_data old mid new (node_data laws old mid c.with_edits.ensures.grows) (table_data laws mid new c.keep_table.ensures.grows)
