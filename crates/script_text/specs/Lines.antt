-- The lines that tell why a run has no text.
use Rattle.std.specs.Prelude.{ℕ, List, ◌++◌, codes}
use Rattle.std.specs.Fmt.{decimal}
use Rattle.chunk_store.specs.declared.faults.Clash.{Clash}
use Rattle.script_text.specs.Output.{clash_text, newline}
use Rattle.script_text.specs.declared.faults.BadScript.{BadScript}

-- the line that a broken rule of scripts is told by
abbrev pub fault_line : BadScript → List ℕ
fault_line bad = codes "script line " ++ decimal bad.line ++ codes " rule " ++ decimal bad.rule ++ newline

-- the line that two byte strings of one address are told by
abbrev pub collision_line : Clash → List ℕ
collision_line clash = codes "collision" ++ clash_text clash ++ newline
