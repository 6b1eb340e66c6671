use Rattle.std.proofs.Common.{◌≡◌, ◌==◌, length}
use Rattle.schema_model.specs.Schemas.{are_distinct}
use Rattle.schema_model.proofs.names.are_positions_distinct.Given as goal

abbrev pub invariant-positions : goal.invariant-positions
invariant-positions l = are_distinct (λ a b. a == b) l.rest ≡ are_distinct (λ a b. a == b) l.positions

abbrev pub decreases-positions : goal.decreases-positions
decreases-positions l = length l.rest
