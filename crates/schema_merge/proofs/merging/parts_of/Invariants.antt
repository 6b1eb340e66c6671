use Rattle.std.proofs.Common.{◌≡◌, drop}
use Rattle.std.specs.Option.{option_copied}
use Rattle.schema_merge.specs.Parts.{sides}
use Rattle.schema_merge.specs.Merging.{merged_by, part3, parts3, with_parts}
use Rattle.schema_merge.proofs.merging.parts_of.Given as goal

abbrev pub invariant-loop-name : goal.invariant-loop-name
invariant-loop-name g l =
    with_parts l.parts (merged_by (part3 g.P.Named.called g.P.Part.kind (sides (option_copied l.base) l.ours l.theirs) l.columns) (drop l.name-index l.name-items))
    ≡ parts3 g.P.Named.called g.P.Part.kind (sides (option_copied l.base) l.ours l.theirs) l.columns
