use Rattle.std.proofs.Common.{◌≡◌, ◌++◌, drop}
use Rattle.std.specs.Option.{option_map}
use Rattle.plain_writes.specs.Violations.{places_of}
use Rattle.constraint_scan.proofs.cells.places_of.Given as goal

abbrev pub invariant-loop-name : goal.invariant-loop-name
invariant-loop-name l = places_of l.schema l.names ≡ option_map (λ more. l.places ++ more) (places_of l.schema (drop l.name-index l.names))
