use Rattle.std.proofs.Common.{◌≡◌, ◌++◌, drop}
use Rattle.schema_merge.specs.Names.{unquoted}
use Rattle.schema_merge.specs.declared.names.QuoteState.TheVariants.{Outside}
use Rattle.schema_merge.proofs.names.unquoted.Given as goal

abbrev pub invariant-loop-byte : goal.invariant-loop-byte
invariant-loop-byte l = l.bytes.items ++ unquoted l.place (drop l.byte-index l.text) ≡ unquoted Outside l.text
