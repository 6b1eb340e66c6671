use Rattle.std.proofs.Common.{Some}
use Rattle.chunk_store.specs.Drafts.{chunks_of}
use Rattle.table_merge.proofs.SideLemmas.{known, side_is_schema, side_within, there}
use Rattle.table_merge.proofs.skipping.merge_from.Goals as goal

pub have_schema-requires-clause-schema : goal.have_schema-requires-clause-schema
have_schema-requires-clause-schema g c =
    let are = c.requires.1 in
    let k = known g.D.Digester.address (chunks_of c.args.draft.now.chunks) (Some c.args.base.now) c.args.ours.now c.args.theirs.now c.requires.0 are.sides c.law_of_sameness.ensures c.args.schema c.requires.2 in
    let table = k.is_table in
    table.schema

pub have_schema-requires-clause-base : goal.have_schema-requires-clause-base
have_schema-requires-clause-base g c =
    let address = g.D.Digester.address in
    let chunks = chunks_of c.args.draft.now.chunks in
    let are = c.requires.1 in
    let sides = are.sides in
    let contents = c.requires.0 in
    let one = there address chunks c.args.base.now contents.base sides.base_side in
    (side_is_schema address chunks c.args.base.now one.0 one.1, side_within address chunks c.args.base.now one.0 one.1)

pub have_schema-requires-clause-ours : goal.have_schema-requires-clause-ours
have_schema-requires-clause-ours g c =
    let address = g.D.Digester.address in
    let chunks = chunks_of c.args.draft.now.chunks in
    let are = c.requires.1 in
    let sides = are.sides in
    let contents = c.requires.0 in
    (side_is_schema address chunks c.args.ours.now contents.ours sides.our_side, side_within address chunks c.args.ours.now contents.ours sides.our_side)

pub have_schema-requires-clause-theirs : goal.have_schema-requires-clause-theirs
have_schema-requires-clause-theirs g c =
    let address = g.D.Digester.address in
    let chunks = chunks_of c.args.draft.now.chunks in
    let are = c.requires.1 in
    let sides = are.sides in
    let contents = c.requires.0 in
    (side_is_schema address chunks c.args.theirs.now contents.theirs sides.their_side, side_within address chunks c.args.theirs.now contents.theirs sides.their_side)
