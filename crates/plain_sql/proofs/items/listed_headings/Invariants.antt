use Rattle.std.proofs.Common.{◌≡◌, ◌++◌, map, drop, Ok}
use Rattle.expr_eval.specs.Binding.{and_then}
use Rattle.plain_sql.specs.Lists.{all_of}
use Rattle.plain_sql.specs.Plans.{item_headings}
use Rattle.plain_sql.specs.Seen.{heading_seen}
use Rattle.plain_sql.proofs.items.listed_headings.Given as goal

abbrev pub invariant-loop-item : goal.invariant-loop-item
invariant-loop-item l =
    all_of (item_headings l.scope) l.list ≡ and_then (all_of (item_headings l.scope) (drop l.item-index l.list)) (λ more. Ok (map heading_seen l.headings ++ more))
