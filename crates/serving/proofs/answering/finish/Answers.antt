use Rattle.std.proofs.Common.{ℤ, ◌+◌, ◌^◌, ◌<◌, ◌∙◌, ap, inl, inr, subst, sym, w64}
use Rattle.std.proofs.lemmas.Int.{to_z-of_z}
use Rattle.chunk_store.specs.Drafts.{chunks_of}
use Rattle.session_state.specs.Standing.{SessionStands}
use Rattle.session_state.specs.declared.sessions.Session.{Session}
use Rattle.serving.specs.Steps.{number_at}
use Rattle.serving.proofs.BehindLemmas.{rests_between}
use Rattle.serving.proofs.ServeLemmas.{ConcludesAt}
use Rattle.serving.proofs.answering.finish.Goals as goal

pub drop_started-requires-clause-between : goal.drop_started-requires-clause-between
drop_started-requires-clause-between g c κs within =
    let held = c.requires.between in (
      held.0,
      held.1.transaction,
      subst (λ (s : Session _). SessionStands g.D.Digester.address s held.0) (sym c.in-Err.ensures.kept) held.1.at.stands,
      held.1.has,
      rests_between g.D.Digester.address (chunks_of c.args.session.now.draft.chunks) c.args.wanted held.0 held.1.transaction held.1.work held.1.awaits,
    )

pub drop_started-requires-clause-place : goal.drop_started-requires-clause-place
drop_started-requires-clause-place g c κs within =
    subst (λ (s : Session _). number_at s.position + 1 < 2 ^ 32) (sym c.in-Err.ensures.kept) c.requires.place

pub returns-in-Ok-clause-finished : goal.returns-in-Ok-clause-finished
returns-in-Ok-clause-finished g c = λ q between.
    inl (subst (λ (e : ℤ). ConcludesAt g.D.Digester.address e q c.args.asked.now c.conclude.new.session c.in-Ok.reply (g.T.Meeting.tells c.args.meeting.now) (g.T.Meeting.tells c.conclude.new.meeting))
    (to_z-of_z w64 c.args.epoch c.ranges.epoch) (c.in-Ok.ensures.concluded q between))

pub returns-in-Err-clause-finished : goal.returns-in-Err-clause-finished
returns-in-Err-clause-finished g c = λ q between.
    inr (
      c.in-Err.ensures.waits,
      c.drop_started.ensures.drops q (subst (λ (s : Session _). SessionStands g.D.Digester.address s q) (sym c.in-Err.ensures.kept) between.at.stands)
          (rests_between g.D.Digester.address (chunks_of c.args.session.now.draft.chunks) c.args.wanted q between.transaction between.work between.awaits),
      ap (λ (s : Session _). s.draft) c.drop_started.ensures.same ∙ ap (λ (s : Session _). s.draft) c.in-Err.ensures.kept,
      ap (λ (s : Session _). s.branch) c.drop_started.ensures.same ∙ ap (λ (s : Session _). s.branch) c.in-Err.ensures.kept,
    )
