use Rattle.std.proofs.Common.{◌≡◌, ◌≤◌, ◌∙◌, sym, ap, subst, ◌-◌, true, false, List, length, take, drop, rules}
use Rattle.std.specs.List.Sorted.{IsPartitionPoint, IsPartitionedBy}
use Rattle.std.specs.Ordering.{is_le, is_lt}
use Rattle.std.proofs.lemmas.List.Sorted.{IsPartitionPoint-from_clause}
use Rattle.tuple_codec.specs.Rows.{Cells, cell_at, value_cmp}
use Rattle.plain_sql.proofs.LookupLemmas.{none_met, parted_first, parted_rest, rows_found}
use Rattle.plain_sql.proofs.NestedLemmas.{rest_is}
use Rattle.plain_sql.proofs.lookups.rows_with.Goals as goal

pub returns-then-is_null : goal.returns-then-is_null
returns-then-is_null c = λ all are. none_met c.args.place c.args.key.now all (sym c.is_null.ensures ∙ c.if-is_null.true)

pub returns : goal.returns
returns c = λ all are.
    let place = c.args.place in
    let key = c.args.key.now in
    let rows = c.args.rows.now in
    let from = c.partition_point-from.result in
    let count = c.partition_point-count.result in
    let first = IsPartitionPoint-from_clause (λ y. is_lt (value_cmp (cell_at y place) key)) rows from c.partition_point-from.ensures.partitioned
    (parted_first place key rows all are) (λ a r q k. search rules) in
    let last = IsPartitionPoint-from_clause (λ y. is_le (value_cmp (cell_at y place) key)) (take (length rows - from) (drop from rows)) count c.partition_point-count.ensures.partitioned
    (subst (λ (l : List Cells). IsPartitionedBy (λ y. is_le (value_cmp (cell_at y place) key)) l) (sym (rest_is from rows)) (parted_rest place key rows all from are)) (λ a r q k. search rules) in
    ap (take count) (rest_is from rows)
    ∙ rows_found place key rows all from count are (sym c.is_null.ensures ∙ c.if-is_null.false) c.partition_point-from.ensures.bound
    (subst (λ (l : List Cells). count ≤ length l) (rest_is from rows) c.partition_point-count.ensures.bound)
    (first, subst (λ (l : List Cells). IsPartitionPoint (λ y. is_le (value_cmp (cell_at y place) key) ≡ true) (λ y. is_le (value_cmp (cell_at y place) key) ≡ false) l count) (rest_is from rows) last)
