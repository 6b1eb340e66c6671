use Rattle.std.proofs.Common.{ℤ, refl, subst, w64}
use Rattle.std.proofs.lemmas.Int.{to_z-of_z}
use Rattle.chunk_store.specs.declared.faults.PutFault.{PutFault}
use Rattle.plain_sessions.specs.Opening.{IsOpeningClash}
use Rattle.shared_db.specs.Opening.{IsOpeningFault}
use Rattle.program_run.specs.Loading.{load_text}
use Rattle.script_text.specs.Lines.{collision_line}
use Rattle.program_run.specs.Loads.{Clashes, Tells}
use Rattle.program_run.proofs.EpochLemmas.{date_fits}
use Rattle.program_run.proofs.LoadLineLemmas.{load_answer}
use Rattle.program_run.proofs.load.run_workload.Goals as goal

pub returns-in-Err-Collision-clause-part : goal.returns-in-Err-Collision-clause-part
returns-in-Err-Collision-clause-part g c = λ is.
    let fault = subst (λ (date : ℤ). IsOpeningFault g.D.Digester.address date c.in-Err-Collision.field-0) (to_z-of_z w64 c.args.asked.epoch (date_fits c.args.asked.epoch c.requires)) c.in-Err-Collision.ensures.fault in
    let opens : IsOpeningClash g.D.Digester.address c.args.asked.epoch c.in-Err-Collision.clash
    = subst (λ (f : PutFault). IsOpeningFault g.D.Digester.address c.args.asked.epoch f) c.in-Err-Collision.field-0-is fault in
    record {
      written = collision_line c.in-Err-Collision.clash;
      wanted = Clashes c.in-Err-Collision.clash opens refl;
      wider = c.write_clash.ensures.wider is;
      writes = c.write_clash.ensures.part is;
    }

pub returns-in-Ok-clause-done : goal.returns-in-Ok-clause-done
returns-in-Ok-clause-done g c = λ is. record {
  written = load_text c.in-Ok.load.seed c.in-Ok.load.run c.in-Ok.load.rows;
  answers =
      load_answer g.D.Digester.address c.args.asked c.in-Ok.load.seed c.in-Ok.load.run c.in-Ok.load.rows c.one_reading.ensures c.one_stop.ensures c.requires c.in-Ok.ensures.seed
      c.in-Ok.ensures.loaded c.in-Ok.ensures.truly c.in-Ok.ensures.shown;
  writes = c.write_load.ensures.done is;
}

pub returns-in-Ok-clause-part : goal.returns-in-Ok-clause-part
returns-in-Ok-clause-part g c = λ is. record {
  written = load_text c.in-Ok.load.seed c.in-Ok.load.run c.in-Ok.load.rows;
  wanted = Tells
      (load_answer g.D.Digester.address c.args.asked c.in-Ok.load.seed c.in-Ok.load.run c.in-Ok.load.rows c.one_reading.ensures c.one_stop.ensures c.requires c.in-Ok.ensures.seed
      c.in-Ok.ensures.loaded c.in-Ok.ensures.truly c.in-Ok.ensures.shown);
  wider = c.write_load.ensures.wider is;
  writes = c.write_load.ensures.part is;
}
