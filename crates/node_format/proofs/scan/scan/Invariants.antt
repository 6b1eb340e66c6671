use Rattle.std.specs.Option.{option_map}
use Rattle.node_format.proofs.ScanLemmas.{SoFar}
use Rattle.node_format.proofs.scan.scan.Given as goal

abbrev pub invariant-loop-number : goal.invariant-loop-number
invariant-loop-number l = SoFar l.level l.count l.items l.number (option_map (λ key. key.now) l.before) l.rest l.stride l.places
