use Rattle.std.proofs.Common.{◌∙◌, sym}
use Rattle.std.specs.Option.{option_copied}
use Rattle.chunk_store.specs.Drafts.{chunks_of}
use Rattle.table_merge.proofs.KeepLemmas.{lists_few, lists_stop, passes_schema}
use Rattle.table_merge.proofs.SideLemmas.{known}
use Rattle.table_merge.proofs.merging.lists_within.Goals as goal

pub is_within_limits-requires : goal.is_within_limits-requires
is_within_limits-requires g c =
    let k = known g.D.Digester.address (chunks_of c.args.draft.now.chunks) (option_copied c.args.base) c.args.ours.now c.args.theirs.now c.requires.0 c.requires.1 c.law_of_sameness.ensures c.args.schema.now c.requires.2 in
    let table = k.is_table in
    table.schema

pub lists_on-requires-after_bounds : goal.lists_on-requires-after_bounds
lists_on-requires-after_bounds g c κs within = c.requires

pub returns-in-Ok : goal.returns-in-Ok
returns-in-Ok g c = λ contents are.
    let k = known g.D.Digester.address (chunks_of c.args.draft.now.chunks) (option_copied c.args.base) c.args.ours.now c.args.theirs.now contents are c.law_of_sameness.ensures c.args.schema.now c.requires.2 in
    lists_few c.args.schema.now contents k c.in-Ok.lists c.few.result (sym c.is_within_limits.ensures ∙ c.if-is_within_limits.true) (c.in-Ok.ensures contents are) c.few.ensures

pub returns-in-Err : goal.returns-in-Err
returns-in-Err g c = λ contents are.
    let k = known g.D.Digester.address (chunks_of c.args.draft.now.chunks) (option_copied c.args.base) c.args.ours.now c.args.theirs.now contents are c.law_of_sameness.ensures c.args.schema.now c.requires.2 in
    lists_stop c.args.schema.now contents k c.in-Err.stop (c.in-Err.ensures contents are)

pub returns-else-is_within_limits : goal.returns-else-is_within_limits
returns-else-is_within_limits g c = λ contents are.
    let k = known g.D.Digester.address (chunks_of c.args.draft.now.chunks) (option_copied c.args.base) c.args.ours.now c.args.theirs.now contents are c.law_of_sameness.ensures c.args.schema.now c.requires.2 in
    passes_schema c.args.schema.now contents k (sym c.is_within_limits.ensures ∙ c.if-is_within_limits.false)
