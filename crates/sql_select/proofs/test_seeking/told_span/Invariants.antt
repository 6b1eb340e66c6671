use Rattle.std.proofs.Common.{◌++◌, drop}
use Rattle.tuple_codec.specs.Rows.{Cells}
use Rattle.sql_select.specs.Parts.{AreTold}
use Rattle.sql_select.specs.declared.spans.End.{End}
use Rattle.sql_select.proofs.test_seeking.told_span.Given as goal

abbrev pub invariant-loop-position : goal.invariant-loop-position
invariant-loop-position l = (more : Cells) (low high : End) → AreTold l.schema l.first l.rest (drop l.position-index l.position-items) more low high
    → AreTold l.schema l.first l.rest l.position-items (l.fixed ++ more) low high
