use Rattle.std.proofs.Common.{◌≡◌, ◌∙◌}
use Rattle.std.proofs.lemmas.Result.{IfOk-weaker}
use Rattle.chunk_store.specs.Drafts.{chunks_of}
use Rattle.table_merge.specs.Merging.{merged_contents}
use Rattle.root_merge.specs.Merging.{part_in, schemas_merged}
use Rattle.root_merge.proofs.TableLemmas.{limits_told, part_told}
use Rattle.root_merge.proofs.judging.part_of_rows.Goals as goal

pub part_of_sides-requires-clause-ours : goal.part_of_sides-requires-clause-ours
part_of_sides-requires-clause-ours g c =
    limits_told g.D.Digester.address (chunks_of c.args.draft.now.chunks) c.in_ok-sides.sides.ours c.requires.0.ours (c.in_ok-sides.ensures c.requires.0 c.requires.1).our_side

pub part_of_sides-requires-clause-theirs : goal.part_of_sides-requires-clause-theirs
part_of_sides-requires-clause-theirs g c =
    limits_told g.D.Digester.address (chunks_of c.args.draft.now.chunks) c.in_ok-sides.sides.theirs c.requires.0.theirs (c.in_ok-sides.ensures c.requires.0 c.requires.1).their_side

pub returns : goal.returns
returns g c = λ contents kept.
    let address = g.D.Digester.address in
    let chunks = chunks_of c.args.draft.now.chunks in
    let sides = c.in_ok-sides.sides in
    IfOk-weaker c.part_of_sides.result (λ part. part ≡ part_in (schemas_merged sides.base sides.ours sides.theirs)) (λ part. part ≡ part_in (merged_contents contents))
    (λ part is. is ∙ part_told address chunks sides.base sides.ours sides.theirs contents (c.in_ok-sides.ensures contents kept))
    c.part_of_sides.ensures
