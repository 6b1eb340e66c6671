-- What is true of every script that is read.
use Rattle.std.specs.Prelude.{◌≡◌, ◌≢◌, ℕ, Bool, true, List, None, Ok}
use Rattle.script_text.specs.Input.{script}
use Rattle.script_text.specs.declared.scripts.Script.{Script}
use Rattle.script_run.specs.Scripts.{IsSoundScript}

-- whatever script bytes hold, it is sound
abbrev pub ReadsSound : Type 0
ReadsSound = (bytes : List ℕ) (with_order : Bool) (read : Script) → script bytes with_order ≡ Ok read → IsSoundScript read

-- where an order is asked for, there is one
abbrev pub ReadsOrdered : Type 0
ReadsOrdered = (bytes : List ℕ) (with_order : Bool) (read : Script) → with_order ≡ true → script bytes with_order ≡ Ok read → read.order ≢ None
