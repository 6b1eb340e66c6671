use Rattle.std.proofs.Common.{◌≡◌, ◌++◌, map, drop}
use Rattle.plain_writes.specs.Violations.{own_scope}
use Rattle.plain_writes.proofs.columns.own_scope.Given as goal

abbrev pub invariant-loop-column : goal.invariant-loop-column
invariant-loop-column l =
    own_scope l.name l.schema ≡ l.scope ++ map (λ column. record { source = l.name; name = column.name; kind = column.kind }) (drop l.column-index l.columns)
