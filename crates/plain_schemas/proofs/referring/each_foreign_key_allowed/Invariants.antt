use Rattle.std.proofs.Common.{◌≡◌, drop, map}
use Rattle.plain_writes.specs.Seen.{named_seen}
use Rattle.plain_schemas.specs.Lists.{all_allowed}
use Rattle.plain_schemas.specs.Effects.{foreign_allowed}
use Rattle.plain_schemas.proofs.referring.each_foreign_key_allowed.Given as goal

abbrev pub invariant-loop-element : goal.invariant-loop-element
invariant-loop-element l =
    all_allowed (foreign_allowed (map named_seen l.database) l.name l.columns l.keys) l.elements
    ≡ all_allowed (foreign_allowed (map named_seen l.database) l.name l.columns l.keys) (drop l.element-index l.elements)
