-- The parts of a line, as code borrows them.
use Rattle.std.specs.Prelude.{ℕ, ◌==◌, List, [], Option}
use Rattle.std.specs.Borrow.{Bor}
use Rattle.std.specs.List.{slice_split}
use Rattle.std.specs.Option.{option_map_or}
use Rattle.script_text.specs.Input.{SpokenLine}
use Rattle.script_text.specs.declared.parts.LineParts.{LineParts}

abbrev pub lent_parts : LineParts → SpokenLine
lent_parts parts = record { name = parts.name.now; statement = parts.statement.now }

-- the pieces between the spaces of what follows a space, if there was one
abbrev pub pieces_in : Option (Bor (List ℕ)) → List (List ℕ)
pieces_in rest = option_map_or (λ bytes. slice_split (λ byte. byte == 32) bytes.now) rest []
