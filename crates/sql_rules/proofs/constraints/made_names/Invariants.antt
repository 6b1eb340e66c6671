use Rattle.std.proofs.Common.{◌≡◌, ◌+◌, ◌-◌, ◌++◌, take}
use Rattle.std.specs.List.{filter}
use Rattle.sql_rules.specs.Constraints.{is_free, made_names, names_from}
use Rattle.sql_rules.proofs.constraints.made_names.Given as goal

-- as many of the names that are left as there are constraints left follow those that were made
abbrev pub invariant-loop-turn : goal.invariant-loop-turn
invariant-loop-turn l =
    l.names ++ take l.left (filter (is_free l.elements) (names_from l.table l.sort (l.turn + 1) (l.most - l.turn))) ≡ made_names l.table l.elements l.sort
