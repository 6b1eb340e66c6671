use Rattle.std.proofs.Common.{◌≡◌, length, bytes_eq}
use Rattle.schema_model.specs.Schemas.{are_distinct}
use Rattle.schema_model.proofs.names.are_names_distinct.Given as goal

abbrev pub invariant-items : goal.invariant-items
invariant-items g l =
    are_distinct (λ a b. bytes_eq (g.N.Named.name_of a) (g.N.Named.name_of b)) l.rest ≡ are_distinct (λ a b. bytes_eq (g.N.Named.name_of a) (g.N.Named.name_of b)) l.items

abbrev pub decreases-items : goal.decreases-items
decreases-items g l = length l.rest
