use Rattle.std.proofs.Common.{ℤ, ◌∷◌, [], ◌∙◌, ap, subst, w64, List, ℕ}
use Rattle.std.specs.Prelude.{IfOk}
use Rattle.std.proofs.lemmas.Int.{to_z-of_z}
use Rattle.plain_sessions.specs.Merging.{base_root, merge_message}
use Rattle.plain_sessions.specs.Moments.{merged_as}
use Rattle.plain_sessions.specs.Records.{commit_on, root_of}
use Rattle.plain_sessions.specs.Sessions.{own_root}
use Rattle.merge_procs.specs.Planning.{IsMergeCommitted, message_on}
use Rattle.merge_procs.proofs.PlanningLemmas.{fit_parts, refuses, start_of}
use Rattle.merge_procs.proofs.DecidingLemmas.{can_merge, plans_joined}
use Rattle.merge_procs.proofs.planning.plan_join.Goals as goal

pub returns-then-is_moved-clause-planned : goal.returns-then-is_moved-clause-planned
returns-then-is_moved-clause-planned g c = λ p t shared present merged d is merges.
    let address = g.D.Digester.address in
    let commit = commit_on shared.commits c.args.epoch p.name merged.database (t.own.head ∷ c.args.three.now.other.0 ∷ []) (merge_message p c.args.merge.now) in
    refuses address c.args.look.now t shared present c.is_moved.result (c.is_moved.ensures p t shared present d) (merged_as address commit) c.refused.result c.if-is_moved.true
    c.refused.ensures

pub merged-requires-clause-message : goal.merged-requires-clause-message
merged-requires-clause-message g c κs within =
    let parts = fit_parts c.args.merge.now c.requires.fit in c.in_ok-message.ensures.few parts.0 parts.1

pub merged-requires-clause-can : goal.merged-requires-clause-can
merged-requires-clause-can g c κs within =
    let (p, t, shared, present, d, is) = c.requires.decides in
    let address = g.D.Digester.address in
    let laws = c.laws.ensures in
    let (start, started) = start_of address c.args.session.now c.args.look.now p t shared present d in (
      shared.commits,
      base_root t c.args.three.now.other.0,
      own_root t,
      root_of t.commits c.args.three.now.other.0,
      can_merge address laws.chunks laws.records laws.commits c.args.session.now c.args.look.now start started c.in_ok-work.work c.in_ok-work.ensures.work p t shared present d
          laws.databases c.args.merge.now c.args.three.now is,
    )

pub returns-clause-planned : goal.returns-clause-planned
returns-clause-planned g c = λ p t shared present merged d is merges.
    let address = g.D.Digester.address in
    let laws = c.laws.ensures in
    let (start, started) = start_of address c.args.session.now c.args.look.now p t shared present d in
    let can = can_merge address laws.chunks laws.records laws.commits c.args.session.now c.args.look.now start started c.in_ok-work.work c.in_ok-work.ensures.work p t shared present d
    laws.databases c.args.merge.now c.args.three.now is in
    let own = d.session_stands in
    let made = subst (λ (e : ℤ). IfOk c.merged.result (λ plan. IsMergeCommitted address c.in_ok-work.work
    (commit_on shared.commits e c.args.session.now.name merged.database (c.args.session.now.own.head.0 ∷ c.args.three.now.other.0 ∷ []) c.in_ok-message.message) plan))
    (to_z-of_z w64 c.args.epoch c.ranges.epoch)
    (c.merged.ensures.planned shared.commits (base_root t c.args.three.now.other.0) (own_root t) (root_of t.commits c.args.three.now.other.0) merged can merges) in
    plans_joined address laws.chunks laws.records laws.commits c.args.session.now c.args.look.now start started c.in_ok-work.work c.in_ok-work.ensures.work p t shared present d
    laws.drafts laws.databases c.args.three.now.other is.other_known c.args.epoch c.in_ok-message.message (merge_message p c.args.merge.now) merged.database
    (c.in_ok-message.ensures.message ∙ ap (λ (branch : List ℕ). message_on branch c.args.merge.now) own.branch) c.is_moved.result (c.is_moved.ensures p t shared present d)
    c.if-is_moved.false c.merged.result made
