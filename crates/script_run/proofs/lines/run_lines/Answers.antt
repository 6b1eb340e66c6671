use Rattle.script_run.proofs.lines.run_lines.Goals as goal

pub run_line-requires-clause-before : goal.run_line-requires-clause-before
run_line-requires-clause-before g c κs within = c.loop-at.invariant
