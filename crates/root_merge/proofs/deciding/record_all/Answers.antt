use Rattle.std.proofs.Common.{ap, not, subst, sym, ◌∙◌}
use Rattle.std.proofs.lemmas.Bool.{and_parts}
use Rattle.std.proofs.lemmas.Result.{IfOk-weaker}
use Rattle.schema_model.specs.PlainTables.{PlainDatabase}
use Rattle.chunk_store.specs.Chunks.{Extends}
use Rattle.chunk_store.specs.Drafts.{chunks_of}
use Rattle.plain_writes.specs.Violations.{violations}
use Rattle.plain_writes.specs.CheckTexts.{checks}
use Rattle.violation_lists.specs.Recording.{recorded_as}
use Rattle.table_root.specs.Kept.{IsKeptAt}
use Rattle.plain_sessions.specs.CommitRule.{is_none, recorded}
use Rattle.root_merge.specs.declared.settling.Left.{Left}
use Rattle.root_merge.proofs.DecideLemmas.{all_recorded, can_record, read_kept, stays_recorded}
use Rattle.tuple_codec.proofs.Truths.{not_true as bool_false}
use Rattle.chunk_store.specs.Kinds.{is_data}
use Rattle.root_merge.proofs.SettlingLemmas.{settled_later}
use Rattle.root_merge.proofs.deciding.record_all.Goals as goal

pub violations-requires-after_bounds : goal.violations-requires-after_bounds
violations-requires-after_bounds g c κs within =
    (c.requires.database.0, read_kept g.D.Digester.address (chunks_of c.args.draft.now.chunks) c.args.database.now.0 c.requires.database.0 c.requires.database.1)

pub returns-then-has_none-clause-stands : goal.returns-then-has_none-clause-stands
returns-then-has_none-clause-stands g c = λ contents kept.
    let address = g.D.Digester.address in
    let chunks = chunks_of c.args.draft.now.chunks in
    let k = c.args.database.now.0 in
    let listed = c.as_slice.ensures.value ∙ c.in_ok-list.ensures contents (read_kept address chunks k contents kept) in
    let none = and_parts (is_none c.as_slice.result.now) (not c.in_ok-left.left.violations) (sym c.has_none.ensures ∙ c.if-has_none.true) in
    let bare = sym (ap (λ (l : Left). l.violations) (c.in_ok-left.ensures.is contents kept)) ∙ bool_false c.in_ok-left.left.violations none.1 in
    subst (λ (database : PlainDatabase). IsKeptAt address chunks k database)
    (sym (stays_recorded address chunks k c.as_slice.result.now contents c.laws_of_states.ensures.recording kept listed none.0 bare)) kept

pub returns-clause-settled : goal.returns-clause-settled
returns-clause-settled g c =
    let old = c.args.draft.now in
    let new = c.record_violations.new.draft in
    let laws = c.laws_of_growth.ensures in
    let more : Extends (chunks_of old.chunks) (chunks_of new.chunks) = laws.drafts.longer_extends old.chunks new.chunks (laws.growth.is_longer is_data old new c.record_violations.ensures.grows) in
    settled_later g.D.Digester.address (chunks_of old.chunks) (chunks_of new.chunks) more laws.tables laws.databases c.left_in_database.new.settled c.left_in_database.ensures.settled

pub record_violations-requires-after_bounds : goal.record_violations-requires-after_bounds
record_violations-requires-after_bounds g c κs within =
    let address = g.D.Digester.address in
    let chunks = chunks_of c.args.draft.now.chunks in
    let k = c.args.database.now.0 in
    let contents = c.requires.database.0 in
    let kept = c.requires.database.1 in (
      contents,
      violations checks contents,
      can_record address chunks k c.as_slice-2.result.now contents c.laws_of_states.ensures.recording kept
          (c.as_slice-2.ensures.value ∙ c.in_ok-list.ensures contents (read_kept address chunks k contents kept)),
    )

pub returns-clause-stands : goal.returns-clause-stands
returns-clause-stands g c = λ contents kept.
    let address = g.D.Digester.address in
    let chunks = chunks_of c.args.draft.now.chunks in
    let now = chunks_of c.record_violations.new.draft.chunks in
    let k = c.args.database.now.0 in
    let laws = c.laws_of_states.ensures.recording in
    IfOk-weaker c.record_violations.result (λ at. IsKeptAt address now at.0 (recorded_as (violations checks contents) contents)) (λ at. IsKeptAt address now at.0 (recorded contents))
    (λ at is. subst (λ (database : PlainDatabase). IsKeptAt address now at.0 database) (all_recorded laws contents kept.stands.is_database) is)
    (c.record_violations.ensures.stands contents (violations checks contents)
    (can_record address chunks k c.as_slice-2.result.now contents laws kept (c.as_slice-2.ensures.value ∙ c.in_ok-list.ensures contents (read_kept address chunks k contents kept))))
