use Rattle.std.proofs.Common.{◌∙◌, List, [], sym, subst}
use Rattle.chunk_store.specs.Drafts.{chunks_of}
use Rattle.table_root.specs.Standing.{named_tables}
use Rattle.table_root.specs.declared.records.TableEntry.{TableEntry}
use Rattle.violation_lists.specs.Recording.{MayBeWritten, recorded_as}
use Rattle.violation_lists.proofs.RecordLemmas.{can_each, may_write}
use Rattle.violation_lists.proofs.recording.record_violations.Goals as goal
use Rattle.schema_model.proofs.SizeLemmas.{few_tables}

pub read_database-requires-after_bounds : goal.read_database-requires-after_bounds
read_database-requires-after_bounds g c κs within =
    let address = g.D.Digester.address in
    let can = c.requires.2 in
    let kept = can.kept in (
      named_tables address c.requires.0,
      c.laws_of_growth.ensures.databases.found address (chunks_of c.args.draft.now.chunks) c.args.database.now.0 c.requires.0 kept.stands (few_tables c.requires.0 kept.within),
    )

pub record_each-requires-after_bounds : goal.record_each-requires-after_bounds
record_each-requires-after_bounds g c κs within =
    let address = g.D.Digester.address in
    let chunks = chunks_of c.args.draft.now.chunks in
    let can = c.requires.2 in
    let kept = can.kept in
    let same = c.laws_of_growth.ensures.databases.same address chunks c.args.database.now.0 c.requires.0 c.in_ok-entries.entries.items kept.stands (few_tables c.requires.0 kept.within) c.in_ok-entries.ensures in
    (c.requires.0, c.requires.1, can_each address chunks c.args.database.now.0 c.args.list.now c.requires.0 c.requires.1 can c.as_slice.result.now (c.as_slice.ensures.value ∙ same))

pub keep_database-requires-after_bounds : goal.keep_database-requires-after_bounds
keep_database-requires-after_bounds g c κs within =
    let address = g.D.Digester.address in
    let old = chunks_of c.args.draft.now.chunks in
    let now = chunks_of c.record_each.new.draft.chunks in
    let can = c.requires.2 in
    let kept = can.kept in
    let same = c.laws_of_growth.ensures.databases.same address old c.args.database.now.0 c.requires.0 c.in_ok-entries.entries.items kept.stands (few_tables c.requires.0 kept.within) c.in_ok-entries.ensures in
    let there = c.in_ok-record_each.ensures.stands c.requires.0 c.requires.1
    (can_each address old c.args.database.now.0 c.args.list.now c.requires.0 c.requires.1 can c.as_slice.result.now (c.as_slice.ensures.value ∙ same)) [] (record { stand = tt; listed = c.new-made.ensures }) in (
      recorded_as c.requires.1 c.requires.0,
      subst (λ (l : List TableEntry). MayBeWritten address now l (recorded_as c.requires.1 c.requires.0)) (sym c.as_slice-2.ensures)
          (may_write address old now c.args.database.now.0 c.args.list.now c.requires.0 c.requires.1 c.record_each.new.made can there),
    )

pub returns-clause-stands : goal.returns-clause-stands
returns-clause-stands g c = λ contents found can.
    let address = g.D.Digester.address in
    let old = chunks_of c.args.draft.now.chunks in
    let now = chunks_of c.record_each.new.draft.chunks in
    let kept = can.kept in
    let same = c.laws_of_growth.ensures.databases.same address old c.args.database.now.0 contents c.in_ok-entries.entries.items kept.stands (few_tables contents kept.within) c.in_ok-entries.ensures in
    let there = c.in_ok-record_each.ensures.stands contents found
    (can_each address old c.args.database.now.0 c.args.list.now contents found can c.as_slice.result.now (c.as_slice.ensures.value ∙ same)) [] (record { stand = tt; listed = c.new-made.ensures }) in
    c.keep_database.ensures.stands (recorded_as found contents)
    (subst (λ (l : List TableEntry). MayBeWritten address now l (recorded_as found contents)) (sym c.as_slice-2.ensures)
    (may_write address old now c.args.database.now.0 c.args.list.now contents found c.record_each.new.made can there))
