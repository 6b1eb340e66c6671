use Rattle.std.proofs.Common.{◌≡◌, ◌∙◌, [], ap, rules, subst, List}
use Rattle.std.specs.Prelude.{IfOk}
use Rattle.tuple_codec.specs.Rows.{Cells}
use Rattle.plain_sql.specs.Lists.{in_order}
use Rattle.plain_sql.specs.Runs.{places_cmp, runs_from}
use Rattle.plain_sql.proofs.RunLemmas.{rows_grouped}
use Rattle.plain_sql.proofs.grouping.by_places.Goals as goal

pub returns : goal.returns
returns c =
    let are : c.in_ok-sorted.sorted.items ≡ in_order (places_cmp c.args.places.now) c.args.rows = search rules in
    subst (λ (l : List (List Cells)). IfOk c.runs.result (λ found. found ≡ l)) (ap (runs_from (places_cmp c.args.places.now) []) are ∙ rows_grouped c.args.places.now c.args.rows) c.runs.ensures
