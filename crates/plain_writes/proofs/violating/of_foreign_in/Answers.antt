use Rattle.std.proofs.Common.{◌≡◌, ◌∙◌, ap, subst, List, map}
use Rattle.std.specs.Prelude.{IfOk}
use Rattle.tuple_codec.specs.Rows.{key_cmp}
use Rattle.tuple_codec.proofs.Orders.{key_cmp_total}
use Rattle.schema_model.specs.PlainTables.{Violation}
use Rattle.plain_sql.specs.Lists.{in_order}
use Rattle.plain_writes.specs.Seen.{broken_seen, named_seen}
use Rattle.plain_writes.specs.Violations.{parent_keys}
use Rattle.plain_writes.proofs.SearchLemmas.{again, foreign_alike}
use Rattle.plain_writes.proofs.violating.of_foreign_in.Goals as goal

pub of_foreign-requires : goal.of_foreign-requires
of_foreign-requires c =
    let keys = parent_keys (map named_seen c.args.database.now) c.args.schema.now c.args.foreign.now in
    again key_cmp key_cmp_total keys c.as_slice.result.now
    (c.as_slice.ensures.value ∙ c.in_ok-sorted.ensures ∙ ap (in_order key_cmp) (c.into_vec.ensures ∙ c.in_ok-keys.ensures))

pub returns : goal.returns
returns c =
    let foreign = c.args.foreign.now in
    let keys = parent_keys (map named_seen c.args.database.now) c.args.schema.now foreign in
    let alike = foreign_alike c.args.schema.now foreign.name foreign.columns c.args.rows.now keys c.as_slice.result.now
    (c.as_slice.ensures.value ∙ c.in_ok-sorted.ensures ∙ ap (in_order key_cmp) (c.into_vec.ensures ∙ c.in_ok-keys.ensures)) in
    subst (λ (found : List Violation). IfOk c.of_foreign.result (λ them. map broken_seen them ≡ found)) alike c.of_foreign.ensures
