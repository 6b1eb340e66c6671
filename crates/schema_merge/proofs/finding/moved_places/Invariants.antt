use Rattle.std.proofs.Common.{◌≡◌, ◌++◌, drop}
use Rattle.schema_merge.specs.Parts.{moved_places}
use Rattle.schema_merge.proofs.finding.moved_places.Given as goal

abbrev pub invariant-loop-place : goal.invariant-loop-place
invariant-loop-place l = l.moved ++ moved_places l.columns l.side (drop l.place-index l.places) ≡ moved_places l.columns l.side l.places
