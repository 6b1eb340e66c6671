use Rattle.std.proofs.Common.{◌≡◌, ◌<◌, ◌≤◌, length, ◌∙◌, arith}
use Rattle.std.proofs.lemmas.List.{get_or-set_other}
use Rattle.std.proofs.Math.Seq.{map-set_same}
use Rattle.seat_gate.specs.History.{joined_with}
use Rattle.seat_gate.specs.Working.{view_in}
use Rattle.seat_gate.specs.declared.workers.Worker.{Worker}
use Rattle.seat_gate.proofs.WorkerLemmas.{same_many, gathered_more}
use Rattle.seat_gate.proofs.gate.Gate.gather.Goals as goal

pub loop-worker-preserved : goal.loop-worker-preserved
loop-worker-preserved g c =
    let before = c.loop-worker.invariant in
    let now = c.loop-worker.workers in
    let item = c.worker-item.result in
    let lt = c.loop-worker-test.true in
    let many : length now ≡ length c.args.workers.now = same_many now c.args.workers.now before.2 in
    let inside : c.loop-worker.worker-index < length c.args.workers.now = omega (arith, lt, many) in
    let le : c.loop-worker.worker-index ≤ c.loop-worker.worker-index = omega arith in (
      c.take_in-last.ensures.gate,
      c.take_in-last.ensures.view
          ∙ ((λ j. joined_with (before.1 j) (view_in (before.3 c.loop-worker.worker-index item le j).seat))
          ∙ gathered_more _ c.args.workers.now c.loop-worker.worker-index item inside),
      map-set_same (λ (w : Worker g.row.W.Denot). w.work) now c.loop-worker.worker-index c.take_in-last.new.worker item c.take_in-last.ensures.work ∙ before.2,
      λ k d past. get_or-set_other now c.loop-worker.worker-index k c.take_in-last.new.worker d (λ is. absurd (omega (arith, is))) ∙ before.3 k d (omega arith),
    )
