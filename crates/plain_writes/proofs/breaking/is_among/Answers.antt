use Rattle.std.proofs.Common.{◌∙◌, ap, sym, rules, length}
use Rattle.std.specs.Ordering.{is_lt}
use Rattle.std.proofs.lemmas.Bool.{ltb-false, ltb-true}
use Rattle.std.proofs.lemmas.List.Sorted.{IsPartitionPoint-from_clause}
use Rattle.tuple_codec.specs.Rows.{key_cmp, same_cells}
use Rattle.tuple_codec.proofs.Orders.{key_cmp_total}
use Rattle.plain_writes.proofs.SearchLemmas.{found_nowhere, found_there, parted_below}
use Rattle.plain_writes.proofs.breaking.is_among.Goals as goal

pub returns-in-Some : goal.returns-in-Some
returns-in-Some c =
    let key = c.args.key.now in
    let keys = c.args.keys.now in
    let from = c.partition_point-from.result in
    let first = IsPartitionPoint-from_clause (λ y. is_lt (key_cmp y key)) keys from c.partition_point-from.ensures.partitioned
    (parted_below key_cmp key_cmp_total key keys c.requires) (λ a r q k. search rules) in
    c.same_cells.ensures
    ∙ ap (same_cells key) c.as_slice.ensures
    ∙ found_there key_cmp key_cmp_total key keys from c.in-Some.other.now c.requires first (ltb-true from (length keys) (sym c.in-Some.ensures.lookup.0)) c.in-Some.ensures.lookup.1

pub returns-in-None : goal.returns-in-None
returns-in-None c =
    let key = c.args.key.now in
    let keys = c.args.keys.now in
    let from = c.partition_point-from.result in
    let first = IsPartitionPoint-from_clause (λ y. is_lt (key_cmp y key)) keys from c.partition_point-from.ensures.partitioned
    (parted_below key_cmp key_cmp_total key keys c.requires) (λ a r q k. search rules) in
    found_nowhere key_cmp key_cmp_total key keys from first (ltb-false from (length keys) (sym c.in-None.ensures.lookup.0))
