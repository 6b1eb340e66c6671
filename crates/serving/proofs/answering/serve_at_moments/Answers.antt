use Rattle.std.proofs.Common.{◌∙◌, ◌≡◌, ℤ, ℕ, ◌+◌, ◌^◌, ◌<◌, ◌⊎◌, ap, subst, sym, w64}
use Rattle.std.proofs.lemmas.Int.{to_z-of_z}
use Rattle.session_state.specs.Standing.{SessionStands}
use Rattle.session_state.specs.declared.sessions.Session.{Session}
use Rattle.serving.specs.Steps.{number_at}
use Rattle.serving.proofs.BehindLemmas.{holds_join}
use Rattle.serving.proofs.ServeLemmas.{ConcludesAt, DropsAt, between_then, once_of, place_then, q, room_then, serves_alone, serves_behind, serves_once, starts_of}
use Rattle.serving.proofs.answering.serve_at_moments.Goals as goal

pub finish-requires-clause-between : goal.finish-requires-clause-between
finish-requires-clause-between g c κs within =
    let held = c.requires.before in
    let old = g.T.Meeting.tells c.args.meeting.now in
    let mid = g.T.Meeting.tells c.meet.new.meeting in
    let first = starts_of g.D.Digester.address c.args.epoch _ (to_z-of_z w64 c.args.epoch c.ranges.epoch) held.0 c.args.asked.now c.meet.new.session c.in-Ok-Pending.field-0 old mid
    (c.in-Ok-Pending.ensures.met held.0 held.1 held.2) c.in-Ok-Pending.wanted c.in-Ok-Pending.field-0-is in (
      q g.D.Digester.address c.args.epoch held.0 c.args.asked.now c.args.session.now old held.1 mid c.meet.new.session c.in-Ok-Pending.wanted first,
      between_then g.D.Digester.address c.args.epoch held.0 c.args.asked.now c.args.session.now old held.1 mid c.meet.new.session c.in-Ok-Pending.wanted first,
    )

pub finish-requires-clause-place : goal.finish-requires-clause-place
finish-requires-clause-place g c κs within =
    let held = c.requires.before in
    let old = g.T.Meeting.tells c.args.meeting.now in
    let mid = g.T.Meeting.tells c.meet.new.meeting in
    let first = starts_of g.D.Digester.address c.args.epoch _ (to_z-of_z w64 c.args.epoch c.ranges.epoch) held.0 c.args.asked.now c.meet.new.session c.in-Ok-Pending.field-0 old mid
    (c.in-Ok-Pending.ensures.met held.0 held.1 held.2) c.in-Ok-Pending.wanted c.in-Ok-Pending.field-0-is in
    subst (λ (n : ℕ). n + 1 < 2 ^ 32) (sym (place_then g.D.Digester.address c.args.epoch held.0 c.args.asked.now c.args.session.now old held.1 mid c.meet.new.session c.in-Ok-Pending.wanted first))
    c.requires.place

pub finish-requires-clause-room : goal.finish-requires-clause-room
finish-requires-clause-room g c κs within =
    let held = c.requires.before in
    let old = g.T.Meeting.tells c.args.meeting.now in
    let mid = g.T.Meeting.tells c.meet.new.meeting in
    let first = starts_of g.D.Digester.address c.args.epoch _ (to_z-of_z w64 c.args.epoch c.ranges.epoch) held.0 c.args.asked.now c.meet.new.session c.in-Ok-Pending.field-0 old mid
    (c.in-Ok-Pending.ensures.met held.0 held.1 held.2) c.in-Ok-Pending.wanted c.in-Ok-Pending.field-0-is in
    room_then g.D.Digester.address c.args.epoch held.0 c.args.asked.now c.args.session.now old held.1 mid c.meet.new.session c.in-Ok-Pending.wanted first c.requires.room

pub answer_fault-requires-clause-before : goal.answer_fault-requires-clause-before
answer_fault-requires-clause-before g c κs within =
    let held = c.requires.before in
    (held.0, subst (λ (s : Session _). SessionStands g.D.Digester.address s held.0) (sym c.in-Err.ensures.kept) held.1.at.stands, held.1.before)

pub answer_fault-requires-clause-place : goal.answer_fault-requires-clause-place
answer_fault-requires-clause-place g c κs within =
    subst (λ (s : Session _). number_at s.position + 1 < 2 ^ 32) (sym c.in-Err.ensures.kept) c.requires.place

pub returns-in-Ok-Answered-clause-served : goal.returns-in-Ok-Answered-clause-served
returns-in-Ok-Answered-clause-served g c = λ p before waits.
    let old = g.T.Meeting.tells c.args.meeting.now in
    let new = g.T.Meeting.tells c.meet.new.meeting in
    serves_once g.D.Digester.address c.args.epoch p c.args.asked.now c.args.session.now old before new c.meet.new.session c.in-Ok-Answered.reply
    (once_of g.D.Digester.address c.args.epoch _ (to_z-of_z w64 c.args.epoch c.ranges.epoch) p c.args.asked.now c.meet.new.session c.in-Ok-Answered.field-0 old new
    (c.in-Ok-Answered.ensures.met p before waits) c.in-Ok-Answered.reply c.in-Ok-Answered.field-0-is)

pub returns-in-Ok-Pending-clause-served : goal.returns-in-Ok-Pending-clause-served
returns-in-Ok-Pending-clause-served g c = λ p before waits.
    let address = g.D.Digester.address in
    let old = g.T.Meeting.tells c.args.meeting.now in
    let mid = g.T.Meeting.tells c.meet.new.meeting in
    let new = g.T.Meeting.tells c.finish.new.meeting in
    let first = starts_of address c.args.epoch _ (to_z-of_z w64 c.args.epoch c.ranges.epoch) p c.args.asked.now c.meet.new.session c.in-Ok-Pending.field-0 old mid
    (c.in-Ok-Pending.ensures.met p before waits) c.in-Ok-Pending.wanted c.in-Ok-Pending.field-0-is in
    let then = q address c.args.epoch p c.args.asked.now c.args.session.now old before mid c.meet.new.session c.in-Ok-Pending.wanted first in
    serves_behind address c.args.epoch p c.args.asked.now c.args.session.now old before mid c.meet.new.session c.in-Ok-Pending.wanted first new c.finish.new.session c.finish.result waits
    (subst (λ (e : ℤ). ConcludesAt address e then c.args.asked.now c.finish.new.session c.finish.result mid new ⊎ DropsAt address then c.meet.new.session c.finish.new.session c.finish.result mid new)
    (to_z-of_z w64 c.args.epoch c.ranges.epoch)
    (c.finish.ensures.finished then (between_then address c.args.epoch p c.args.asked.now c.args.session.now old before mid c.meet.new.session c.in-Ok-Pending.wanted first)))

pub returns-in-Ok-Pending-clause-holds : goal.returns-in-Ok-Pending-clause-holds
returns-in-Ok-Pending-clause-holds g c =
    holds_join (g.T.Meeting.tells c.args.meeting.now) (g.T.Meeting.tells c.meet.new.meeting) (g.T.Meeting.tells c.finish.new.meeting) c.meet.ensures.holds c.finish.ensures.holds

pub returns-in-Err-clause-served : goal.returns-in-Err-clause-served
returns-in-Err-clause-served g c = λ p before waits.
    serves_alone g.D.Digester.address c.args.epoch p c.args.asked.now c.args.session.now (g.T.Meeting.tells c.args.meeting.now) before (g.T.Meeting.tells c.meet.new.meeting)
    c.answer_fault.new.session c.answer_fault.result
    (c.answer_fault.ensures.alone p c.args.asked.now (subst (λ (s : Session _). SessionStands g.D.Digester.address s p) (sym c.in-Err.ensures.kept) before.at.stands) before.before
    (c.in-Err.ensures.fails p before waits))
    (ap (λ (s : Session _). s.draft.chunks.base) c.answer_fault.ensures.same ∙ ap (λ (s : Session _). s.draft.chunks.base) c.in-Err.ensures.kept) c.in-Err.ensures.waits
