-- What a reader's result says of what its definition gives: the same, or nothing where memory ran out.
use Rattle.std.specs.Prelude.{◌≡◌, Result, Ok, Err}
use Rattle.sql_ast.specs.declared.faults.ReadFault.{ReadFault}
use Rattle.sql_ast.specs.declared.faults.ReadFault.TheVariants.{Memory, Refused}
use Rattle.sql_ast.specs.declared.faults.Refusal.{Refusal}

abbrev pub LexingGives : {X : Type 0} → Result X Refusal → Result X ReadFault → Type 0
LexingGives read (Ok x) = read ≡ Ok x
LexingGives read (Err Memory) = Unit {0}
LexingGives read (Err (Refused refusal)) = read ≡ Err refusal

-- the same of a step that leaves its value behind a `&mut`
abbrev pub Goes : {X U : Type 0} → Result X Refusal → Result U ReadFault → X → Type 0
Goes step (Ok u) new = step ≡ Ok new
Goes step (Err Memory) new = Unit {0}
Goes step (Err (Refused refusal)) new = step ≡ Err refusal
