use Rattle.std.proofs.Common.{◌≡◌, ◌∙◌, sym, ap, subst, ◌-◌, true, false, not, List, length, take, drop, rules}
use Rattle.std.specs.List.{list_any}
use Rattle.std.specs.List.Sorted.{IsPartitionPoint, IsPartitionedBy}
use Rattle.std.specs.Ordering.{is_lt}
use Rattle.std.proofs.lemmas.List.Sorted.{IsPartitionPoint-from_clause}
use Rattle.tuple_codec.specs.Rows.{Cells}
use Rattle.plain_sql.specs.Runs.{places_cmp}
use Rattle.plain_sql.proofs.NestedLemmas.{rest_is}
use Rattle.plain_writes.specs.Violations.{is_twin}
use Rattle.plain_writes.proofs.SearchLemmas.{any_run, no_twin, parted_below, parted_rest, places_total}
use Rattle.plain_writes.proofs.breaking.has_twin.Goals as goal

pub returns : goal.returns
returns c =
    let schema = c.args.schema.now in
    let places = c.args.places.now in
    let row = c.args.row.now in
    let rows = c.args.rows.now in
    let from = c.partition_point-from.result in
    let count = c.partition_point-count.result in
    let compare = places_cmp places in
    let total = places_total places in
    let first = IsPartitionPoint-from_clause (λ y. is_lt (places_cmp places y row)) rows from c.partition_point-from.ensures.partitioned
    (parted_below compare total row rows c.requires) (λ a r q k. search rules) in
    let last = IsPartitionPoint-from_clause (λ y. not (is_lt (places_cmp places row y))) (take (length rows - from) (drop from rows)) count c.partition_point-count.ensures.partitioned
    (subst (λ (l : List Cells). IsPartitionedBy (λ y. not (is_lt (places_cmp places row y))) l) (sym (rest_is from rows)) (parted_rest compare total row rows from c.requires)) (λ a r q k. search rules) in
    c.any_twin.ensures
    ∙ ap (λ (l : List Cells). list_any (is_twin schema places row) (take count l)) (rest_is from rows)
    ∙ any_run compare total (is_twin schema places row) row (no_twin schema places row) rows from count first
    (subst (λ (l : List Cells). IsPartitionPoint (λ y. not (is_lt (places_cmp places row y)) ≡ true) (λ y. not (is_lt (places_cmp places row y)) ≡ false) l count) (rest_is from rows) last)
