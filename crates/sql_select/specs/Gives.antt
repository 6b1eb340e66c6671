-- What a call answers: want of memory is the one answer that the definition doesn't give.
use Rattle.std.specs.Prelude.{◌≡◌, Result, Ok, Err}
use Rattle.expr_eval.specs.Binding.{Outcome}
use Rattle.plain_sql.specs.declared.faults.Refused.{Refused}
use Rattle.plain_sql.specs.declared.faults.Refused.TheVariants as plain
use Rattle.sql_select.specs.declared.faults.AskFault.{AskFault}
use Rattle.sql_select.specs.declared.faults.AskFault.TheVariants as fault

abbrev pub as_fault : Refused → AskFault
as_fault plain.Memory = fault.Memory
as_fault (plain.By number) = fault.Refused number

abbrev pub Answers : {A : Type 0} → Result A AskFault → Outcome A → Type 0
Answers (Ok x) outcome = outcome ≡ Ok x
Answers (Err fault.Memory) outcome = Unit {0}
Answers (Err (fault.Refused number)) outcome = outcome ≡ Err number
