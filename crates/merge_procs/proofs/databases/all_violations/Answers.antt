use Rattle.std.proofs.Common.{◌≡◌}
use Rattle.chunk_store.specs.Drafts.{chunks_of}
use Rattle.std.proofs.lemmas.Result.{IfOk-weaker}
use Rattle.std.specs.List.{flat_map}
use Rattle.violation_lists.specs.Written.{written_in}
use Rattle.plain_writes.specs.CheckTexts.{checks}
use Rattle.plain_sessions.specs.CommitRule.{is_none}
use Rattle.plain_writes.specs.Violations.{violations}
use Rattle.merge_procs.specs.Databases.{AreAllIn}
use Rattle.merge_procs.proofs.DatabasesLemmas.{none_listed, read_kept}
use Rattle.merge_procs.proofs.databases.all_violations.Goals as goal

pub violations-requires-after_bounds : goal.violations-requires-after_bounds
violations-requires-after_bounds g c κs within =
    (c.requires.0, read_kept g.D.Digester.address (chunks_of c.args.draft.now.chunks) c.args.database.now.0 c.requires.0 c.requires.1)

pub returns-clause-all : goal.returns-clause-all
returns-clause-all g c = λ contents kept.
    let address = g.D.Digester.address in
    let chunks = chunks_of c.args.draft.now.chunks in
    let k = c.args.database.now.0 in
    IfOk-weaker c.violations.result (λ list. list.items ≡ flat_map (written_in contents) (violations checks contents)) (λ list. AreAllIn address chunks k list.items contents)
    (λ list is. record { kept = kept; all = is })
    (c.violations.ensures contents (read_kept address chunks k contents kept))

pub returns-clause-none : goal.returns-clause-none
returns-clause-none g c = λ contents kept.
    let address = g.D.Digester.address in
    let chunks = chunks_of c.args.draft.now.chunks in
    let k = c.args.database.now.0 in
    IfOk-weaker c.violations.result (λ list. list.items ≡ flat_map (written_in contents) (violations checks contents)) (λ list. is_none list.items ≡ is_none (violations checks contents))
    (λ list is. none_listed address chunks k list.items contents c.law_of_recording.ensures kept is)
    (c.violations.ensures contents (read_kept address chunks k contents kept))
