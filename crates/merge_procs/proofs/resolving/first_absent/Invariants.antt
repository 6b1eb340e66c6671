use Rattle.std.proofs.Common.{◌≡◌, drop}
use Rattle.merge_procs.specs.Resolving.{first_absent}
use Rattle.merge_procs.proofs.resolving.first_absent.Given as goal

abbrev pub invariant-loop-name : goal.invariant-loop-name
invariant-loop-name l = first_absent l.tables (drop l.name-index l.names) ≡ first_absent l.tables l.names
