use Rattle.std.proofs.Common.{◌≡◌, ◌++◌, [], drop}
use Rattle.schema_merge.specs.Names.{names_from}
use Rattle.schema_merge.proofs.names.names_from.Given as goal

abbrev pub invariant-loop-byte : goal.invariant-loop-byte
invariant-loop-byte l = l.names ++ names_from l.word (drop l.byte-index l.text) ≡ names_from [] l.text
