use Rattle.std.proofs.Common.{◌≡◌, ◌++◌, drop, take}
use Rattle.std.specs.Prelude.{map}
use Rattle.schema_merge.specs.Merging.{names3, others}
use Rattle.schema_merge.proofs.merging.names_of.Given as goal

abbrev pub invariant-loop-part : goal.invariant-loop-part
invariant-loop-part g l = l.names.items ≡ map g.P.Named.called (take l.part-index l.ours)

abbrev pub invariant-loop-other : goal.invariant-loop-other
invariant-loop-other g l = l.names.items ++ map g.P.Named.called (others g.P.Named.called l.ours (drop l.other-index l.theirs)) ≡ names3 g.P.Named.called l.ours l.theirs
