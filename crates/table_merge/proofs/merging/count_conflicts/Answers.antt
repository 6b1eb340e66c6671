use Rattle.std.proofs.Common.{◌≡◌, ◌∙◌, length, IfOk, sym, subst}
use Rattle.std.specs.Option.{option_copied}
use Rattle.schema_model.specs.PlainTables.{PlainTable}
use Rattle.chunk_store.specs.Drafts.{chunks_of}
use Rattle.schema_merge.specs.TableMerge.{table_of}
use Rattle.table_merge.proofs.SideLemmas.{known, side_within, three_of}
use Rattle.table_merge.proofs.TableLemmas.{table_is}
use Rattle.table_merge.proofs.merging.count_conflicts.Goals as goal

pub merged_schema-requires-clause-ours : goal.merged_schema-requires-clause-ours
merged_schema-requires-clause-ours g c =
    let contents = c.requires.0 in
    let are = c.requires.1 in
    side_within g.D.Digester.address (chunks_of c.args.draft.now.chunks) c.args.ours.now contents.ours are.our_side

pub merged_schema-requires-clause-theirs : goal.merged_schema-requires-clause-theirs
merged_schema-requires-clause-theirs g c =
    let contents = c.requires.0 in
    let are = c.requires.1 in
    side_within g.D.Digester.address (chunks_of c.args.draft.now.chunks) c.args.theirs.now contents.theirs are.their_side

pub count_on-requires-after_bounds : goal.count_on-requires-after_bounds
count_on-requires-after_bounds g c κs within = (c.requires.0, c.requires.1, c.in-Ok.ensures)

pub returns-in-Ok : goal.returns-in-Ok
returns-in-Ok g c = λ contents are table is.
    let k = known g.D.Digester.address (chunks_of c.args.draft.now.chunks) (option_copied c.args.base) c.args.ours.now c.args.theirs.now contents are c.law_of_sameness.ensures c.in-Ok.schema c.in-Ok.ensures in
    let same = table_is (table_of c.in-Ok.schema (three_of c.in-Ok.schema contents)) table (sym k.is ∙ is) in
    subst (λ (t : PlainTable). IfOk c.count_on.result (λ count. count ≡ length t.conflicts)) same (c.count_on.ensures contents are)
