use Rattle.std.proofs.Common.{◌≡◌, ◌++◌, true, take}
use Rattle.std.specs.List.{flat_map, list_all}
use Rattle.table_root.specs.Databases.{has_address, named_bytes}
use Rattle.table_root.proofs.parts.push_tables.Given as goal

abbrev pub invariant-loop-named : goal.invariant-loop-named
invariant-loop-named l =
    (l.out.items ≡ l.fn.out.items ++ flat_map named_bytes (take l.named-index l.tables))
    × (list_all has_address (take l.named-index l.tables) ≡ true)
