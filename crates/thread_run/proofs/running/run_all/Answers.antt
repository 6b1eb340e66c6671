use Rattle.std.proofs.Common.{◌∙◌, ℤ, List, subst, sym, w64}
use Rattle.std.proofs.lemmas.Int.{to_z-of_z}
use Rattle.std.proofs.lemmas.List.{take_at}
use Rattle.seat_gate.specs.Words.{gate_id}
use Rattle.seat_gate.specs.declared.workers.Worker.{Worker}
use Rattle.script_run.specs.declared.players.Player.{Player}
use Rattle.thread_run.specs.Ending.{HaveWorked}
use Rattle.thread_run.proofs.running.run_all.Goals as goal

pub returns : goal.returns
returns g c =
    let worked = subst (λ (old : List (Worker (Player g.row.D.Denot))). HaveWorked g.D.Digester.address c.args.epoch (gate_id c.args.gate.now) old c.run_each.new.workers) c.as_mut_slice.ensures.value
    (subst (λ (e : ℤ). HaveWorked g.D.Digester.address e (gate_id c.args.gate.now) c.as_mut_slice.result.now c.run_each.new.workers) (to_z-of_z w64 c.args.epoch c.ranges.epoch) c.run_each.ensures) in
    let full = worked.many ∙ sym c.args.workers.ok.0 in
    subst (λ (new : List (Worker (Player g.row.D.Denot))). HaveWorked g.D.Digester.address c.args.epoch (gate_id c.args.gate.now) c.args.workers.items new)
    (sym (take_at c.run_each.new.workers _ c.args.workers.len full)) worked
