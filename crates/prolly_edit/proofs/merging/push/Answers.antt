use Rattle.std.proofs.Common.{◌++◌, ◌∷◌, []}
use Rattle.std.proofs.lemmas.Result.{IfOk-weaker}
use Rattle.tuple_codec.specs.Nodes.{leaf_item}
use Rattle.chunk_store.specs.Drafts.{chunks_of}
use Rattle.node_chunker.specs.Growth.{IsTower}
use Rattle.prolly_edit.specs.Stages.{Awaits}
use Rattle.prolly_edit.proofs.StageLemmas.{awaits_next, next_rows}
use Rattle.prolly_edit.proofs.merging.push.Goals as goal

pub push_kept_row-requires-clause-can : goal.push_kept_row-requires-clause-can
push_kept_row-requires-clause-can g c κs within =
    let awaits = c.requires.awaits.2 in
    let row = leaf_item c.args.key.now c.args.value.now in
    (awaits.pushed, awaits.tower, next_rows g.D.Digester.address (chunks_of c.args.draft.now.chunks) c.args.tower.now (row ∷ []) c.requires.awaits.0 c.requires.awaits.1 awaits)

pub returns-clause-ok : goal.returns-clause-ok
returns-clause-ok g c later whole awaits =
    let a = g.D.Digester.address in
    let row = leaf_item c.args.key.now c.args.value.now in
    let old = chunks_of c.args.draft.now.chunks in
    let new = chunks_of c.push_kept_row.new.draft.chunks in
    let now = c.push_kept_row.new.self in
    IfOk-weaker c.push_kept_row.result (λ _. IsTower a new now (awaits.pushed ++ row ∷ [])) (λ _. Awaits a new now later whole)
    (λ _ tower. awaits_next a old new c.args.tower.now now (row ∷ []) later whole awaits tower) (c.push_kept_row.ensures.ok awaits.pushed awaits.tower)
