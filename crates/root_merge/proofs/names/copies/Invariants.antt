use Rattle.std.proofs.Common.{◌≡◌, ◌++◌, drop}
use Rattle.root_merge.specs.Names.{names_in}
use Rattle.root_merge.proofs.names.copies.Given as goal

abbrev pub invariant-loop-named : goal.invariant-loop-named
invariant-loop-named l = l.names.items ++ names_in (drop l.named-index l.tables) ≡ names_in l.tables
