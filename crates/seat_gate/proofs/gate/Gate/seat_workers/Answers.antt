use Rattle.std.proofs.Common.{◌≡◌, ◌+◌, length, ◌++◌, ◌∷◌, [], refl, sym, ap, ◌∙◌, subst, length-append}
use Rattle.seat_gate.specs.History.{parted, newcomer}
use Rattle.seat_gate.specs.Words.{gate_id, seat_view}
use Rattle.seat_gate.specs.Working.{AreNewcomers, giving_out}
use Rattle.seat_gate.proofs.WorkerLemmas.{newcomers_more, giving_more}
use Rattle.seat_gate.proofs.gate.Gate.seat_workers.Goals as goal

pub loop-work-preserved : goal.loop-work-preserved
loop-work-preserved g c =
    let before = c.loop-work.invariant in
    let first = seat_view c.args.first.now in
    let works = c.loop-work.yielded in
    let long : length (works ++ c.in-Some.work ∷ []) ≡ length works + 1 = length-append works (c.in-Some.work ∷ []) in (
      c.split.ensures.same,
      c.in_ok-seat.ensures.ok ∙ (ap parted before.1 ∙ (giving_more (length works) first ∙ ap (λ n. giving_out n first) (sym long))),
      subst (AreNewcomers (gate_id c.args.self.now) first (works ++ c.in-Some.work ∷ [])) (sym c.in_ok-push.ensures.items)
          (newcomers_more (gate_id c.args.self.now) first works c.loop-work.workers.items c.in-Some.work _ before.2
          record { seated = c.in_ok-seat.ensures.new.0; view = c.in_ok-seat.ensures.new.1 ∙ ap newcomer before.1; work = refl }),
    )
