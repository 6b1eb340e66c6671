use Rattle.std.proofs.Common.{subst}
use Rattle.chunk_store.specs.Drafts.{chunks_of}
use Rattle.schema_merge.specs.TableMerge.{Three, table_of}
use Rattle.std.specs.Option.{option_copied}
use Rattle.table_merge.specs.Walking.{AreListsOf}
use Rattle.table_merge.proofs.ReadLemmas.{base_keyed, known_schema, ours_keyed, theirs_keyed, three_is}
use Rattle.table_merge.proofs.SideLemmas.{known}
use Rattle.table_merge.proofs.merging.lists_on.Goals as goal

pub read_sides-requires-after_bounds : goal.read_sides-requires-after_bounds
read_sides-requires-after_bounds g c κs within = (c.requires.0, c.requires.1)

pub merge_lists-requires-clause-schema : goal.merge_lists-requires-clause-schema
merge_lists-requires-clause-schema g c =
    let k = known g.D.Digester.address (chunks_of c.args.draft.now.chunks) (option_copied c.args.base) c.args.ours.now c.args.theirs.now c.requires.0 c.requires.1 c.law_of_sameness.ensures c.args.schema.now c.requires.2 in
    known_schema c.args.schema.now c.requires.0 k c.in_ok-sides.sides (c.in_ok-sides.ensures c.requires.0 c.requires.1)

pub merge_lists-requires-clause-base : goal.merge_lists-requires-clause-base
merge_lists-requires-clause-base g c =
    let k = known g.D.Digester.address (chunks_of c.args.draft.now.chunks) (option_copied c.args.base) c.args.ours.now c.args.theirs.now c.requires.0 c.requires.1 c.law_of_sameness.ensures c.args.schema.now c.requires.2 in
    base_keyed c.args.schema.now c.requires.0 k c.in_ok-sides.sides (c.in_ok-sides.ensures c.requires.0 c.requires.1) c.as_slice.result.now c.as_slice.ensures.value

pub merge_lists-requires-clause-ours : goal.merge_lists-requires-clause-ours
merge_lists-requires-clause-ours g c =
    let k = known g.D.Digester.address (chunks_of c.args.draft.now.chunks) (option_copied c.args.base) c.args.ours.now c.args.theirs.now c.requires.0 c.requires.1 c.law_of_sameness.ensures c.args.schema.now c.requires.2 in
    ours_keyed c.args.schema.now c.requires.0 k c.in_ok-sides.sides (c.in_ok-sides.ensures c.requires.0 c.requires.1) c.as_slice-2.result.now c.as_slice-2.ensures.value

pub merge_lists-requires-clause-theirs : goal.merge_lists-requires-clause-theirs
merge_lists-requires-clause-theirs g c =
    let k = known g.D.Digester.address (chunks_of c.args.draft.now.chunks) (option_copied c.args.base) c.args.ours.now c.args.theirs.now c.requires.0 c.requires.1 c.law_of_sameness.ensures c.args.schema.now c.requires.2 in
    theirs_keyed c.args.schema.now c.requires.0 k c.in_ok-sides.sides (c.in_ok-sides.ensures c.requires.0 c.requires.1) c.as_slice-3.result.now c.as_slice-3.ensures.value

pub returns : goal.returns
returns g c = λ contents are.
    let k = known g.D.Digester.address (chunks_of c.args.draft.now.chunks) (option_copied c.args.base) c.args.ours.now c.args.theirs.now contents are c.law_of_sameness.ensures c.args.schema.now c.requires.2 in
    let same = three_is c.args.schema.now contents k c.in_ok-sides.sides (c.in_ok-sides.ensures contents are) c.as_slice.result.now c.as_slice-2.result.now c.as_slice-3.result.now c.as_slice.ensures.value c.as_slice-2.ensures.value c.as_slice-3.ensures.value in
    subst (λ (three : Three). AreListsOf c.merge_lists.result (table_of c.args.schema.now three)) same c.merge_lists.ensures
