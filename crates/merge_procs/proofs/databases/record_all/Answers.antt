use Rattle.std.proofs.Common.{subst}
use Rattle.std.proofs.lemmas.Result.{IfOk-weaker}
use Rattle.schema_model.specs.PlainTables.{PlainDatabase}
use Rattle.chunk_store.specs.Drafts.{chunks_of}
use Rattle.violation_lists.specs.Recording.{recorded_as}
use Rattle.table_root.specs.Kept.{IsKeptAt}
use Rattle.plain_writes.specs.CheckTexts.{checks}
use Rattle.plain_sessions.specs.CommitRule.{recorded}
use Rattle.plain_writes.specs.Violations.{violations}
use Rattle.merge_procs.proofs.DatabasesLemmas.{can_record}
use Rattle.merge_procs.proofs.databases.record_all.Goals as goal
use Rattle.root_merge.proofs.DecideLemmas.{all_recorded}

pub record_violations-requires-after_bounds : goal.record_violations-requires-after_bounds
record_violations-requires-after_bounds g c κs within =
    let (contents, all) = c.requires in
    (contents, violations checks contents, can_record g.D.Digester.address (chunks_of c.args.draft.now.chunks) c.args.database.now.0 c.args.list.now contents c.law_of_recording.ensures all)

pub returns-clause-stands : goal.returns-clause-stands
returns-clause-stands g c = λ contents all.
    let address = g.D.Digester.address in
    let chunks = chunks_of c.args.draft.now.chunks in
    let now = chunks_of c.record_violations.new.draft.chunks in
    let laws = c.law_of_recording.ensures in
    IfOk-weaker c.record_violations.result (λ at. IsKeptAt address now at.0 (recorded_as (violations checks contents) contents)) (λ at. IsKeptAt address now at.0 (recorded contents))
    (λ at is. subst (λ (database : PlainDatabase). IsKeptAt address now at.0 database) (all_recorded laws contents all.kept.stands.is_database) is)
    (c.record_violations.ensures.stands contents (violations checks contents) (can_record address chunks c.args.database.now.0 c.args.list.now contents laws all))
