use Rattle.std.proofs.Common.{◌≡◌, drop, map}
use Rattle.std.specs.List.{list_any, enumerate_from}
use Rattle.plain_writes.specs.Seen.{setting_seen}
use Rattle.plain_writes.specs.Writes.{keeps_null, keeps_null_at}
use Rattle.plain_writes.proofs.updating.keeps_null.Given as goal

abbrev pub invariant-loop-place : goal.invariant-loop-place
invariant-loop-place l =
    keeps_null l.schema (map setting_seen l.settings) l.row ≡ list_any (keeps_null_at (map setting_seen l.settings) l.row) (enumerate_from l.place (drop l.place l.columns))
