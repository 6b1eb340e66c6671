use Rattle.std.proofs.Common.{◌≡◌, drop}
use Rattle.std.specs.List.{list_all}
use Rattle.schema_model.specs.Limits.{is_short_in}
use Rattle.merge_procs.proofs.takings.are_short_in.Given as goal

abbrev pub invariant-loop-index : goal.invariant-loop-index
invariant-loop-index l = list_all (is_short_in l.row) l.indexes ≡ list_all (is_short_in l.row) (drop l.index-index l.indexes)
