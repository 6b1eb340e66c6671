use Rattle.std.proofs.Common.{◌≡◌, drop, map}
use Rattle.std.specs.List.{list_any}
use Rattle.plain_writes.specs.Seen.{setting_seen}
use Rattle.plain_writes.specs.Writes.{assigns}
use Rattle.sql_write.specs.Passing.{sets_key}
use Rattle.sql_write.proofs.turning.sets_key.Given as goal

abbrev pub invariant-loop-position : goal.invariant-loop-position
invariant-loop-position l = sets_key l.schema (map setting_seen l.settings) ≡ list_any (assigns (map setting_seen l.settings)) (drop l.position-index l.schema.key)
