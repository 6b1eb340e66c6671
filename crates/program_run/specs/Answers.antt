-- Faults of the steps of an answer, as faults of the answer.
use Rattle.chunk_store.specs.declared.faults.PutFault.{PutFault}
use Rattle.chunk_store.specs.declared.faults.PutFault.TheVariants as put
use Rattle.script_text.specs.declared.faults.ScriptFault.{ScriptFault}
use Rattle.script_text.specs.declared.faults.ScriptFault.TheVariants as script
use Rattle.program_run.specs.declared.answering.NoAnswer.{NoAnswer}
use Rattle.program_run.specs.declared.answering.NoAnswer.TheVariants.{Memory, Bad, Collision}

abbrev pub of_script : ScriptFault → NoAnswer
of_script script.Memory = Memory
of_script (script.Bad bad) = Bad bad

abbrev pub of_put : PutFault → NoAnswer
of_put put.Memory = Memory
of_put (put.Collision clash) = Collision clash
