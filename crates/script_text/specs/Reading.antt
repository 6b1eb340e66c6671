-- What the calls that read a script give: what is defined, or want of memory.
use Rattle.std.specs.Prelude.{◌≡◌, Result, Ok, Err}
use Rattle.script_text.specs.declared.faults.BadScript.{BadScript}
use Rattle.script_text.specs.declared.faults.ScriptFault.{ScriptFault}
use Rattle.script_text.specs.declared.faults.ScriptFault.TheVariants.{Memory, Bad}

-- the result is the one defined, but where memory was wanting
abbrev pub Gives : {X : Type 0} → Result X ScriptFault → Result X BadScript → Type 0
Gives (Ok x) defined = defined ≡ Ok x
Gives (Err Memory) defined = Unit {0}
Gives (Err (Bad bad)) defined = defined ≡ Err bad
