use Rattle.std.proofs.Common.{◌≡◌, drop}
use Rattle.schema_merge.specs.Parts.{find}
use Rattle.schema_merge.proofs.finding.find.Given as goal

abbrev pub invariant-loop-part : goal.invariant-loop-part
invariant-loop-part g l = find g.P.Named.called l.name (drop l.part-index l.parts) ≡ find g.P.Named.called l.name l.parts
