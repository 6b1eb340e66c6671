use Rattle.std.proofs.Common.{◌≡◌, ◌++◌, map, drop, Ok, true}
use Rattle.std.specs.List.{list_all}
use Rattle.tuple_codec.specs.Limits.{is_type}
use Rattle.expr_eval.specs.Binding.{and_then}
use Rattle.plain_sql.specs.Lists.{each}
use Rattle.plain_writes.specs.Seen.{setting_seen}
use Rattle.plain_writes.specs.Writes.{bound_assignment}
use Rattle.plain_writes.proofs.binding.assignments.Given as goal

abbrev pub invariant-loop-one : goal.invariant-loop-one
invariant-loop-one l = record {
  typed : list_all (λ one. is_type one.column.kind) l.settings ≡ true;
  rest : each (bound_assignment l.schema l.scope) l.list ≡ and_then (each (bound_assignment l.schema l.scope) (drop l.one-index l.list)) (λ more. Ok (map setting_seen l.settings ++ more));
}
