use Rattle.std.proofs.Common.{◌≡◌, ◌++◌, map, take, drop}
use Rattle.sql_write.specs.Putting.{readdress}
use Rattle.sql_write.proofs.tables.readdress_all.Given as goal

abbrev pub invariant-loop-named : goal.invariant-loop-named
invariant-loop-named l = l.tables ≡ map (readdress l.name l.table) (take l.named-index l.fn.tables) ++ drop l.named-index l.fn.tables
