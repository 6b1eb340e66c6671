use Rattle.std.proofs.Common.{ℤ, subst, w64}
use Rattle.std.proofs.lemmas.Int.{to_z-of_z}
use Rattle.serving.specs.Deciding.{DecidesFree, HasDecided, PlansDecision, starts_next}
use Rattle.serving.specs.declared.trying.Made.{Made}
use Rattle.serving.proofs.DecidedLemmas.{decided_once, decided_plainly, tried_none, tried_some}
use Rattle.serving.proofs.FoundLemmas.{ok_each}
use Rattle.serving.proofs.TryingLemmas.{decided_on, lost_keeps}
use Rattle.serving.proofs.deciding.decide_on.Goals as goal

pub returns-in-Some-clause-decided : goal.returns-in-Some-clause-decided
returns-in-Some-clause-decided g c =
    let a = g.T.Meeting.tells c.args.meeting.now in
    let b = g.T.Meeting.tells c.try_free.new.meeting in
    let made = c.in-Some.made in
    let free = tried_some g.D.Digester.address _ c.args.session.now.branch (starts_next c.args.decision) a b c.in_ok-made.field-0 c.in_ok-made.ensures.tried made c.in-Some.is in
    let has = subst (λ (e : ℤ). HasDecided g.D.Digester.address (PlansDecision g.D.Digester.address e c.args.session.now c.args.decision) c.args.session.now.branch (starts_next c.args.decision) made a b)
    (to_z-of_z w64 c.args.epoch c.ranges.epoch) free.decided in
    decided_once (record { chunks = c.law_of_chunks.ensures; records = c.law_of_records.ensures; commits = c.law_of_standing_commits.ensures; states = c.law_of_states.ensures }) g.D.Digester.address c.args.epoch c.args.session.now c.args.decision made a b has

pub returns-in-Some-clause-short : goal.returns-in-Some-clause-short
returns-in-Some-clause-short g c =
    let a = g.T.Meeting.tells c.args.meeting.now in
    let b = g.T.Meeting.tells c.try_free.new.meeting in
    let made = c.in-Some.made in
    let free = tried_some g.D.Digester.address _ c.args.session.now.branch (starts_next c.args.decision) a b c.in_ok-made.field-0 c.in_ok-made.ensures.tried made c.in-Some.is in
    let has = subst (λ (e : ℤ). HasDecided g.D.Digester.address (PlansDecision g.D.Digester.address e c.args.session.now c.args.decision) c.args.session.now.branch (starts_next c.args.decision) made a b)
    (to_z-of_z w64 c.args.epoch c.ranges.epoch) free.decided in
    let asks = c.requires.asks in
    (decided_plainly (record { chunks = c.law_of_chunks.ensures; records = c.law_of_records.ensures; commits = c.law_of_standing_commits.ensures; states = c.law_of_states.ensures }) g.D.Digester.address c.args.epoch c.args.session.now c.args.decision made a b has asks.0 asks.1 asks.2 asks.4).short

pub returns-in-Some-clause-sound : goal.returns-in-Some-clause-sound
returns-in-Some-clause-sound g c =
    let a = g.T.Meeting.tells c.args.meeting.now in
    let b = g.T.Meeting.tells c.try_free.new.meeting in
    let made = c.in-Some.made in
    let free = tried_some g.D.Digester.address _ c.args.session.now.branch (starts_next c.args.decision) a b c.in_ok-made.field-0 c.in_ok-made.ensures.tried made c.in-Some.is in
    let has = subst (λ (e : ℤ). HasDecided g.D.Digester.address (PlansDecision g.D.Digester.address e c.args.session.now c.args.decision) c.args.session.now.branch (starts_next c.args.decision) made a b)
    (to_z-of_z w64 c.args.epoch c.ranges.epoch) free.decided in
    let asks = c.requires.asks in
    (decided_plainly (record { chunks = c.law_of_chunks.ensures; records = c.law_of_records.ensures; commits = c.law_of_standing_commits.ensures; states = c.law_of_states.ensures }) g.D.Digester.address c.args.epoch c.args.session.now c.args.decision made a b has asks.0 asks.1 asks.2 asks.4).sound

pub returns-in-Some-clause-truly : goal.returns-in-Some-clause-truly
returns-in-Some-clause-truly g c =
    let a = g.T.Meeting.tells c.args.meeting.now in
    let b = g.T.Meeting.tells c.try_free.new.meeting in
    let made = c.in-Some.made in
    let free = tried_some g.D.Digester.address _ c.args.session.now.branch (starts_next c.args.decision) a b c.in_ok-made.field-0 c.in_ok-made.ensures.tried made c.in-Some.is in
    let has = subst (λ (e : ℤ). HasDecided g.D.Digester.address (PlansDecision g.D.Digester.address e c.args.session.now c.args.decision) c.args.session.now.branch (starts_next c.args.decision) made a b)
    (to_z-of_z w64 c.args.epoch c.ranges.epoch) free.decided in
    let asks = c.requires.asks in
    (decided_plainly (record { chunks = c.law_of_chunks.ensures; records = c.law_of_records.ensures; commits = c.law_of_standing_commits.ensures; states = c.law_of_states.ensures }) g.D.Digester.address c.args.epoch c.args.session.now c.args.decision made a b has asks.0 asks.1 asks.2 asks.4).truly

pub returns-in-None-clause-decided : goal.returns-in-None-clause-decided
returns-in-None-clause-decided g c =
    let a = g.T.Meeting.tells c.args.meeting.now in
    let b = g.T.Meeting.tells c.try_free.new.meeting in
    let d = g.T.Meeting.tells c.try_held.new.meeting in
    let lost = tried_none g.D.Digester.address _ c.args.session.now.branch (starts_next c.args.decision) a b c.in_ok-made.field-0 c.in_ok-made.ensures.tried c.in-None.is in
    ok_each _ _ (λ (made : Made) held.
    let has = decided_on g.D.Digester.address (PlansDecision g.D.Digester.address c.args.epoch c.args.session.now c.args.decision) c.args.session.now.branch (starts_next c.args.decision) made a b d (lost_keeps 3 a b lost) lost.waits
    (subst (λ (e : ℤ). HasDecided g.D.Digester.address (PlansDecision g.D.Digester.address e c.args.session.now c.args.decision) c.args.session.now.branch (starts_next c.args.decision) made b d)
    (to_z-of_z w64 c.args.epoch c.ranges.epoch) held) in
    decided_once (record { chunks = c.law_of_chunks.ensures; records = c.law_of_records.ensures; commits = c.law_of_standing_commits.ensures; states = c.law_of_states.ensures }) g.D.Digester.address c.args.epoch c.args.session.now c.args.decision made a d has) c.try_held.result c.try_held.ensures.decided

pub returns-in-None-clause-short : goal.returns-in-None-clause-short
returns-in-None-clause-short g c =
    let asks = c.requires.asks in
    let a = g.T.Meeting.tells c.args.meeting.now in
    let b = g.T.Meeting.tells c.try_free.new.meeting in
    let d = g.T.Meeting.tells c.try_held.new.meeting in
    let lost = tried_none g.D.Digester.address _ c.args.session.now.branch (starts_next c.args.decision) a b c.in_ok-made.field-0 c.in_ok-made.ensures.tried c.in-None.is in
    ok_each _ _ (λ (made : Made) held.
    let has = decided_on g.D.Digester.address (PlansDecision g.D.Digester.address c.args.epoch c.args.session.now c.args.decision) c.args.session.now.branch (starts_next c.args.decision) made a b d (lost_keeps 3 a b lost) lost.waits
    (subst (λ (e : ℤ). HasDecided g.D.Digester.address (PlansDecision g.D.Digester.address e c.args.session.now c.args.decision) c.args.session.now.branch (starts_next c.args.decision) made b d)
    (to_z-of_z w64 c.args.epoch c.ranges.epoch) held) in
    (decided_plainly (record { chunks = c.law_of_chunks.ensures; records = c.law_of_records.ensures; commits = c.law_of_standing_commits.ensures; states = c.law_of_states.ensures }) g.D.Digester.address c.args.epoch c.args.session.now c.args.decision made a d has asks.0 asks.1 asks.2 asks.4).short) c.try_held.result c.try_held.ensures.decided

pub returns-in-None-clause-sound : goal.returns-in-None-clause-sound
returns-in-None-clause-sound g c =
    let asks = c.requires.asks in
    let a = g.T.Meeting.tells c.args.meeting.now in
    let b = g.T.Meeting.tells c.try_free.new.meeting in
    let d = g.T.Meeting.tells c.try_held.new.meeting in
    let lost = tried_none g.D.Digester.address _ c.args.session.now.branch (starts_next c.args.decision) a b c.in_ok-made.field-0 c.in_ok-made.ensures.tried c.in-None.is in
    ok_each _ _ (λ (made : Made) held.
    let has = decided_on g.D.Digester.address (PlansDecision g.D.Digester.address c.args.epoch c.args.session.now c.args.decision) c.args.session.now.branch (starts_next c.args.decision) made a b d (lost_keeps 3 a b lost) lost.waits
    (subst (λ (e : ℤ). HasDecided g.D.Digester.address (PlansDecision g.D.Digester.address e c.args.session.now c.args.decision) c.args.session.now.branch (starts_next c.args.decision) made b d)
    (to_z-of_z w64 c.args.epoch c.ranges.epoch) held) in
    (decided_plainly (record { chunks = c.law_of_chunks.ensures; records = c.law_of_records.ensures; commits = c.law_of_standing_commits.ensures; states = c.law_of_states.ensures }) g.D.Digester.address c.args.epoch c.args.session.now c.args.decision made a d has asks.0 asks.1 asks.2 asks.4).sound) c.try_held.result c.try_held.ensures.decided

pub returns-in-None-clause-truly : goal.returns-in-None-clause-truly
returns-in-None-clause-truly g c =
    let asks = c.requires.asks in
    let a = g.T.Meeting.tells c.args.meeting.now in
    let b = g.T.Meeting.tells c.try_free.new.meeting in
    let d = g.T.Meeting.tells c.try_held.new.meeting in
    let lost = tried_none g.D.Digester.address _ c.args.session.now.branch (starts_next c.args.decision) a b c.in_ok-made.field-0 c.in_ok-made.ensures.tried c.in-None.is in
    ok_each _ _ (λ (made : Made) held.
    let has = decided_on g.D.Digester.address (PlansDecision g.D.Digester.address c.args.epoch c.args.session.now c.args.decision) c.args.session.now.branch (starts_next c.args.decision) made a b d (lost_keeps 3 a b lost) lost.waits
    (subst (λ (e : ℤ). HasDecided g.D.Digester.address (PlansDecision g.D.Digester.address e c.args.session.now c.args.decision) c.args.session.now.branch (starts_next c.args.decision) made b d)
    (to_z-of_z w64 c.args.epoch c.ranges.epoch) held) in
    (decided_plainly (record { chunks = c.law_of_chunks.ensures; records = c.law_of_records.ensures; commits = c.law_of_standing_commits.ensures; states = c.law_of_states.ensures }) g.D.Digester.address c.args.epoch c.args.session.now c.args.decision made a d has asks.0 asks.1 asks.2 asks.4).truly) c.try_held.result c.try_held.ensures.decided
