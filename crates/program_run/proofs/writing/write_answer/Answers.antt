use Rattle.std.proofs.Common.{◌≡◌, ◌∙◌, Err, refl, subst, sym}
use Rattle.script_text.specs.Lines.{collision_line, fault_line}
use Rattle.program_run.specs.Stops.{Collision, Comes, Fault}
use Rattle.program_run.specs.declared.answering.NoAnswer.{NoAnswer}
use Rattle.program_run.specs.declared.answering.NoAnswer.TheVariants as fault
use Rattle.script_text.specs.declared.status.Status.TheVariants as status
use Rattle.program_run.proofs.AnswerLemmas.{stop_part, stop_written}
use Rattle.program_run.proofs.writing.write_answer.Goals as goal

pub returns-in-Err-Bad-clause-part : goal.returns-in-Err-Bad-clause-part
returns-in-Err-Bad-clause-part g c = λ is.
    let came : Comes g.D.Digester.address c.args.asked c.args.bytes.now (Err (fault.Bad c.in-Err-Bad.bad))
    = subst (λ (f : NoAnswer). Comes g.D.Digester.address c.args.asked c.args.bytes.now (Err f)) c.in-Err-Bad.field-0-is c.in-Err-Bad.ensures in
    record {
      written = fault_line c.in-Err-Bad.bad;
      wanted = Fault c.in-Err-Bad.bad came refl;
      wider = c.write_fault.ensures.wider is;
      writes = c.write_fault.ensures.part is;
    }

pub returns-in-Err-Collision-clause-part : goal.returns-in-Err-Collision-clause-part
returns-in-Err-Collision-clause-part g c = λ is.
    let came : Comes g.D.Digester.address c.args.asked c.args.bytes.now (Err (fault.Collision c.in-Err-Collision.clash))
    = subst (λ (f : NoAnswer). Comes g.D.Digester.address c.args.asked c.args.bytes.now (Err f)) c.in-Err-Collision.field-0-is c.in-Err-Collision.ensures in
    record {
      written = collision_line c.in-Err-Collision.clash;
      wanted = Collision came.0.0 c.in-Err-Collision.clash came.0.1 came.1 refl;
      wider = c.write_clash.ensures.wider is;
      writes = c.write_clash.ensures.part is;
    }

pub returns-in-Err-Stopped-clause-order : goal.returns-in-Err-Stopped-clause-order
returns-in-Err-Stopped-clause-order g c = λ is.
    stop_written g.D.Digester.address c.args.asked c.args.bytes.now c.in-Err-Stopped.field-0 c.in-Err-Stopped.text _ _ _ c.in-Err-Stopped.field-0-is c.in-Err-Stopped.ensures
    c.as_slice-in-Err-Stopped.ensures (c.write_last-in-Err-Stopped.ensures.whole (λ failed. let differ : status.Order ≡ status.Write = sym is ∙ failed in absurd (cc)))

pub returns-in-Err-Stopped-clause-part : goal.returns-in-Err-Stopped-clause-part
returns-in-Err-Stopped-clause-part g c = λ is.
    stop_part g.D.Digester.address c.args.asked c.args.bytes.now c.in-Err-Stopped.field-0 c.in-Err-Stopped.text _ _ _ _ c.in-Err-Stopped.field-0-is c.in-Err-Stopped.ensures
    c.as_slice-in-Err-Stopped.ensures (c.write_last-in-Err-Stopped.ensures.wider is) (c.write_last-in-Err-Stopped.ensures.part is)
