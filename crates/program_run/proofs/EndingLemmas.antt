-- A call that had no memory to read its words.
use Rattle.std.proofs.Common.{refl, inr, ℕ, List, [], Option, Some, None, arith}
use Rattle.wire_io.specs.Moves.{LosesAtMost}
use Rattle.program_run.specs.Endings.{EndsBy, SinkTells, SourceTells}
use Rattle.program_run.specs.Headline.{most_taken}
use Rattle.program_run.specs.declared.words.Task.{Task}
use Rattle.program_run.specs.declared.words.Task.TheVariants as task
use Rattle.script_text.specs.declared.status.Status.TheVariants as status

nothing_taken : (told : Option (List ℕ)) → LosesAtMost most_taken told told
nothing_taken None = record { taken = []; bound = omega arith; consumes = tt }
nothing_taken (Some input) = record { taken = []; bound = omega arith; consumes = refl }

pub without_memory : {S K : Type 0} (asked : Option Task) (address : List ℕ → List ℕ) (source : SourceTells S) (sink : SinkTells K) (input : S) (output : K)
    → EndsBy asked address source sink input input output output status.Memory
without_memory None address source sink input output = record {
  ends = inr (inr refl);
  untouched = refl;
  usage = λ is. absurd (cc);
  write = λ is. absurd (cc);
  part = λ is. absurd (cc);
  wider = λ is. absurd (cc);
  memory = λ is. refl;
  counts = omega arith;
}
without_memory (Some (task.Script asked)) address source sink input output = record {
  done = λ is. absurd (cc);
  usage = λ is. absurd (cc);
  script = λ is. absurd (cc);
  faulty = λ bad told. inr (inr (inr refl));
  order = λ is. absurd (cc);
  collision = λ is. absurd (cc);
  failed = λ is. absurd (cc);
  steady = λ steady is. absurd (cc);
  write = λ is. absurd (cc);
  part = λ is. absurd (cc);
  memory = λ is. refl;
  taken = nothing_taken (source.left input);
  counts = (omega arith, omega arith);
}
without_memory (Some (task.Load asked)) address source sink input output = record {
  ends = inr (inr (inr refl));
  untouched = refl;
  done = λ is. absurd (cc);
  collision = λ is. absurd (cc);
  write = λ is. absurd (cc);
  part = λ is. absurd (cc);
  memory = λ is. refl;
  counts = omega arith;
}
