use Rattle.std.proofs.Common.{ℤ, of_z, subst, to_z, w64}
use Rattle.std.proofs.lemmas.Int.{to_z-of_z}
use Rattle.seat_gate.specs.Working.{works_of}
use Rattle.program_run.specs.Loading.{IsLoaded}
use Rattle.program_run.proofs.LoadLemmas.{loaded, sound_script}
use Rattle.program_run.proofs.loading.run_load.Goals as goal

pub run_to_end-requires-clause-sound : goal.run_to_end-requires-clause-sound
run_to_end-requires-clause-sound g c κs within = sound_script c.args.seed c.in_ok-script.script c.in_ok-script.ensures

pub count_rows-requires-after_bounds : goal.count_rows-requires-after_bounds
count_rows-requires-after_bounds g c κs within =
    let over = c.in_ok-ended.ensures.ended in
    let along = over.along in
    (along.shared, along.stands)

pub run_text-requires-clause-sound : goal.run_text-requires-clause-sound
run_text-requires-clause-sound g c κs within = sound_script c.args.seed c.in_ok-script.script c.in_ok-script.ensures

pub returns-clause-loaded : goal.returns-clause-loaded
returns-clause-loaded g c =
    let over = c.in_ok-ended.ensures.ended in
    let along = over.along in
    subst (λ (date : ℤ). IsLoaded g.D.Digester.address c.args.seed date c.in_ok-run.run' c.in_ok-rows.rows) (to_z-of_z w64 c.args.epoch c.ranges.epoch)
    (loaded g.D.Digester.address (to_z w64 (of_z w64 c.args.epoch)) c.args.seed c.in_ok-script.script c.in_ok-script.ensures c.in_ok-ended.ended.db.parts (works_of c.in_ok-ended.ended.workers.items) over
    c.in_ok-run.run' (c.in_ok-run.ensures.along over) c.in_ok-rows.rows (c.in_ok-rows.ensures along.shared along.stands) c.law_of_load.ensures.ends c.law_of_load.ensures.full)
