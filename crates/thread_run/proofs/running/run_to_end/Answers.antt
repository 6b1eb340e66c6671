use Rattle.std.proofs.Common.{◌∙◌, ℤ, List, ap, length, of_z, subst, sym, to_z, w64}
use Rattle.std.proofs.lemmas.Int.{to_z-of_z}
use Rattle.std.proofs.lemmas.List.{take_at}
use Rattle.seat_gate.specs.History.{gathered}
use Rattle.seat_gate.specs.Words.{IsWhole, gate_id, seat_view}
use Rattle.seat_gate.specs.Working.{AreAllGivenOut, views_of, works_of}
use Rattle.seat_gate.specs.declared.workers.Worker.{Worker}
use Rattle.seat_gate.proofs.WorkerLemmas.{same_many}
use Rattle.shared_history.specs.Fitting.{Fits}
use Rattle.shared_history.specs.declared.gated.GatedDb.{GatedDb}
use Rattle.script_run.specs.declared.players.Player.{Player}
use Rattle.thread_run.specs.Ending.{HasEnded}
use Rattle.thread_run.proofs.EndingLemmas.{all_at_work, all_back, has_ended}
use Rattle.thread_run.proofs.running.run_to_end.Goals as goal

pub run_all-workers-requires-clause-ready : goal.run_all-workers-requires-clause-ready
run_all-workers-requires-clause-ready g c κs within = all_at_work g.D.Digester.address (to_z w64 (of_z w64 c.args.epoch)) c.args.script.now c.in_ok-gate.field-0 c.in_ok-gate.ensures.opened

pub close_all-gated-requires-clause-all : goal.close_all-gated-requires-clause-all
close_all-gated-requires-clause-all g c =
    let begun = c.in_ok-gate.ensures.opened in
    subst (λ (workers : List (Worker (Player g.row.D.Denot))). AreAllGivenOut (seat_view c.in_ok-gate.field-0.first) (views_of workers)) (sym c.as_mut_slice.ensures.value)
    (all_back g.D.Digester.address (to_z w64 (of_z w64 c.args.epoch)) c.args.script.now c.law_of_states.ensures begun.parts begun.stands begun.players (gate_id c.in_ok-gate.field-0.gate) (seat_view c.in_ok-gate.field-0.first) c.in_ok-gate.field-0.workers.items c.run_all-workers.result.items
    begun.many begun.view begun.seated begun.going c.run_all-workers.ensures)

pub returns-clause-ended : goal.returns-clause-ended
returns-clause-ended g c =
    let begun = c.in_ok-gate.ensures.opened in
    let log = c.close_all-gated.ensures.whole.0 in
    let whole = subst (λ (workers : List (Worker (Player g.row.D.Denot))).
    IsWhole (λ (gated : GatedDb g.row.D.Denot) opened entries. Fits g.D.Digester.address gated.db opened entries) c.close_all-gated.result (gathered (seat_view c.in_ok-gate.field-0.first) (views_of workers)) log)
    c.as_mut_slice.ensures.value c.close_all-gated.ensures.whole.1 in
    let full = same_many c.close_all-gated.new.workers c.as_mut_slice.result.now c.close_all-gated.ensures.works ∙ (ap length c.as_mut_slice.ensures.value ∙ sym c.run_all-workers.result.ok.0) in
    let ended = subst (λ (e : ℤ). HasEnded g.D.Digester.address e c.args.script.now c.close_all-gated.result.db.parts (works_of c.run_all-workers.result.items)) (to_z-of_z w64 c.args.epoch c.ranges.epoch)
    (has_ended g.D.Digester.address (to_z w64 (of_z w64 c.args.epoch)) c.args.script.now c.law_of_states.ensures begun.parts begun.stands begun.players (gate_id c.in_ok-gate.field-0.gate) (seat_view c.in_ok-gate.field-0.first) c.in_ok-gate.field-0.workers.items c.run_all-workers.result.items
    begun.many begun.view begun.seated begun.going c.run_all-workers.ensures c.close_all-gated.result log whole) in
    subst (λ (players : List (Player g.row.D.Denot)). HasEnded g.D.Digester.address c.args.epoch c.args.script.now c.close_all-gated.result.db.parts players)
    (sym (ap works_of (take_at c.close_all-gated.new.workers _ c.run_all-workers.result.len full) ∙ (c.close_all-gated.ensures.works ∙ ap works_of c.as_mut_slice.ensures.value)))
    ended
