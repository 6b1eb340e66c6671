use Rattle.std.proofs.Common.{◌≡◌, ◌++◌, ◌+◌, length}
use Rattle.std.specs.Option.{option_map, option_map_or}
use Rattle.script_text.specs.Input.{items_in}
use Rattle.script_text.specs.LineParts.{pieces_in}
use Rattle.script_text.proofs.ordering.read_pieces.Given as goal

abbrev pub invariant-pieces : goal.invariant-pieces
invariant-pieces l = option_map (λ more. l.items ++ more) (items_in (pieces_in l.rest)) ≡ items_in (pieces_in l.fn.pieces)

abbrev pub decreases-pieces : goal.decreases-pieces
decreases-pieces l = option_map_or (λ bytes. length bytes.now + 1) l.rest 0
