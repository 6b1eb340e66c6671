use Rattle.std.proofs.Common.{◌≡◌, ◌∙◌, Err, Some, ℕ, List, length, arith, ap, subst}
use Rattle.std.specs.Io.KnownBytes.{Appends}
use Rattle.script_text.specs.Input.{script}
use Rattle.script_text.specs.declared.faults.BadScript.{BadScript}
use Rattle.script_text.specs.Lines.{fault_line}
use Rattle.program_run.specs.Stops.{AnswersAll, AnswersPart, WritesCollision, WritesStop}
use Rattle.program_run.specs.Words.{is_given}
use Rattle.program_run.proofs.TopLemmas.{IsRead, answers_whole, collides_whole, falls_whole, faults_whole, stops_told, stops_whole}
use Rattle.program_run.proofs.top.run_input.Goals as goal

pub returns-in-Ok : goal.returns-in-Ok
returns-in-Ok g c =
    let asked = c.args.asked in
    let told = g.S.Source.left c.args.input.now in
    let left = g.S.Source.left c.read_up_to.new.source in
    let old = g.K.Sink.held c.args.output.now in
    let new = g.K.Sink.held c.write_answer.new.output in
    let bytes = c.in-Ok.bytes.items in
    let address = g.D.Digester.address in
    let len : c.in-Ok.bytes.len ≡ length bytes = c.in-Ok.bytes.ok.0 in
    let read : IsRead told left bytes = record { consumed = c.in-Ok.ensures.bytes; ended = λ short. c.in-Ok.ensures.end (omega arith) } in
    let wrote = c.write_answer.ensures in
    record {
      done = λ is. answers_whole address asked told left old new bytes read (subst (λ (bytes : List ℕ). AnswersAll address asked bytes old new) c.as_slice.ensures.value (wrote.done is));
      usage = wrote.words;
      script = λ is. faults_whole asked told left old new bytes read
          (subst (λ (bytes : List ℕ). (fault : BadScript) × (script bytes (is_given asked.order) ≡ Err fault) × Appends old new (fault_line fault)) c.as_slice.ensures.value (wrote.script is));
      faulty = λ fault is. stops_told (is_given asked.order) told left bytes c.write_answer.result read
          (λ other told. wrote.faulty other (ap (λ (bytes : List ℕ). script bytes (is_given asked.order)) c.as_slice.ensures.value ∙ told)) wrote.words fault is;
      order = λ is. stops_whole address asked told left old new bytes read (subst (λ (bytes : List ℕ). WritesStop address asked (Some bytes) old new) c.as_slice.ensures.value (wrote.order is));
      collision = λ is. collides_whole address asked told left old new bytes read (subst (λ (bytes : List ℕ). WritesCollision address asked (Some bytes) old new) c.as_slice.ensures.value (wrote.collision is));
      failed = λ is. absurd (wrote.source is);
      steady = λ steady is. wrote.source is;
      write = wrote.rose;
      part = λ is. falls_whole address asked told left old new bytes (g.K.Sink.room c.args.output.now) read
          (subst (λ (bytes : List ℕ). AnswersPart address asked bytes old new (g.K.Sink.room c.args.output.now)) c.as_slice.ensures.value (wrote.part is));
      memory = wrote.memory;
      taken = c.in-Ok.ensures.taken;
      counts = (c.in-Ok.ensures.later, wrote.later);
    }
