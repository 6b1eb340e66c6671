use Rattle.std.proofs.Common.{◌≤◌, ◌<◌, [], List, length, subst, sym, arith}
use Rattle.schema_model.specs.Limits.{is_database_within_limits}
use Rattle.chunk_store.specs.Drafts.{chunks_of}
use Rattle.chunk_store.specs.Kinds.{is_data}
use Rattle.table_root.specs.declared.records.TableEntry.{TableEntry}
use Rattle.root_merge.specs.Kept.{AreKept}
use Rattle.root_merge.specs.Merging.{AreMade, IsLimitFault}
use Rattle.root_merge.proofs.RootLemmas.{nothing_made, tables_pass, whole_kept, whole_passes}
use Rattle.root_merge.proofs.TableLemmas.{database_data, same_fault}
use Rattle.root_merge.proofs.merging.merge_chosen.Goals as goal

pub returns-in_err-conflicts-clause-fault : goal.returns-in_err-conflicts-clause-fault
returns-in_err-conflicts-clause-fault g c = λ wanted merged can.
    same_fault (IsLimitFault (is_database_within_limits merged.database)) c.from_residual.result c.in_err-conflicts.field-0.0
    (tables_pass merged c.in_err-conflicts.field-0.0 (c.in_err-conflicts.ensures.fault wanted merged can.lead can.comes)) c.from_residual.ensures

pub returns-then-len-gt-MOST_TABLES-clause-fault : goal.returns-then-len-gt-MOST_TABLES-clause-fault
returns-then-len-gt-MOST_TABLES-clause-fault g c = λ wanted merged can.
    let address = g.D.Digester.address in
    let old = chunks_of c.args.draft.now.chunks in
    let now = chunks_of c.merge_each.new.draft.chunks in
    let start = subst (λ (list : List TableEntry). AreMade address old list []) (sym c.new-tables.ensures.items) (nothing_made address old) in
    let many : 256 < length c.merge_each.new.made.items = omega (arith, c.if-len-gt-MOST_TABLES.true, c.len.ensures, c.merge_each.new.made.ok.0) in
    whole_passes address now c.merge_each.new.made.items merged (c.in_ok-conflicts.ensures.made wanted merged [] can.lead can.comes start) many

pub put_database-requires-after_bounds : goal.put_database-requires-after_bounds
put_database-requires-after_bounds g c κs within =
    let address = g.D.Digester.address in
    let old = chunks_of c.args.draft.now.chunks in
    let now = chunks_of c.merge_each.new.draft.chunks in
    let wanted = c.requires.lead.0 in
    let merged = c.requires.lead.1 in
    let can = c.requires.lead.2 in
    let start = subst (λ (list : List TableEntry). AreMade address old list []) (sym c.new-tables.ensures.items) (nothing_made address old) in
    let few : length c.merge_each.new.made.items ≤ 256 = omega (arith, c.if-len-gt-MOST_TABLES.false, c.len.ensures, c.merge_each.new.made.ok.0) in (
      merged.database,
      subst (λ (list : List TableEntry). AreKept address now list merged.database) (sym c.as_slice.ensures.value)
          (whole_kept address now c.merge_each.new.made.items merged (c.in_ok-conflicts.ensures.made wanted merged [] can.lead can.comes start) can.named few),
    )

pub returns-in_err-root-clause-grows : goal.returns-in_err-root-clause-grows
returns-in_err-root-clause-grows g c =
    let old = c.args.draft.now in
    let mid = c.merge_each.new.draft in
    let new = c.put_database.new.draft in
    let laws = c.laws_of_growth.ensures.growth in
    laws.in_steps is_data old mid new c.merge_each.ensures.grows (database_data laws mid new c.put_database.ensures.grows)

pub returns-clause-merged : goal.returns-clause-merged
returns-clause-merged g c = λ wanted merged can.
    let address = g.D.Digester.address in
    let old = chunks_of c.args.draft.now.chunks in
    let now = chunks_of c.merge_each.new.draft.chunks in
    let start = subst (λ (list : List TableEntry). AreMade address old list []) (sym c.new-tables.ensures.items) (nothing_made address old) in
    let few : length c.merge_each.new.made.items ≤ 256 = omega (arith, c.if-len-gt-MOST_TABLES.false, c.len.ensures, c.merge_each.new.made.ok.0) in
    let kept = subst (λ (list : List TableEntry). AreKept address now list merged.database) (sym c.as_slice.ensures.value)
    (whole_kept address now c.merge_each.new.made.items merged (c.in_ok-conflicts.ensures.made wanted merged [] can.lead can.comes start) can.named few) in
    record { root = c.in_ok-root.ensures.stands merged.database kept; conflicts = c.in_ok-conflicts.ensures.conflicts wanted merged can.lead can.comes }

pub returns-clause-grows : goal.returns-clause-grows
returns-clause-grows g c =
    let old = c.args.draft.now in
    let mid = c.merge_each.new.draft in
    let new = c.put_database.new.draft in
    let laws = c.laws_of_growth.ensures.growth in
    laws.in_steps is_data old mid new c.merge_each.ensures.grows (database_data laws mid new c.put_database.ensures.grows)
