use Rattle.std.proofs.Common.{◌≡◌, ◌∙◌, ap, cond, rules, sym, subst, ℕ, Bool, true, List, [], map}
use Rattle.std.specs.Prelude.{IfOk}
use Rattle.tuple_codec.specs.Rows.{Cells}
use Rattle.schema_model.specs.PlainTables.{Violation}
use Rattle.plain_sql.specs.Lists.{in_order}
use Rattle.plain_sql.specs.Runs.{places_cmp}
use Rattle.plain_writes.specs.Seen.{broken_seen}
use Rattle.plain_writes.specs.Violations.{breaks_unique, broken}
use Rattle.plain_writes.proofs.SearchLemmas.{again, places_total, unique_alike}
use Rattle.plain_writes.proofs.violating.of_index.Goals as goal

pub of_unique-requires : goal.of_unique-requires
of_unique-requires c =
    let places = c.args.index.now.columns in
    again (places_cmp places) (places_total places) c.args.rows.now c.as_slice-2.result.now
    (c.as_slice-2.ensures.value
    ∙ c.in_ok-sorted.ensures
    ∙ ap (λ (l : List Cells). in_order (places_cmp c.as_slice.result.now) l) (c.into_vec.ensures ∙ c.in_ok-copy.ensures)
    ∙ ap (λ (l : List ℕ). in_order (places_cmp l) c.args.rows.now) c.as_slice.ensures)

pub returns : goal.returns
returns c =
    let schema = c.args.schema.now in
    let rows = c.args.rows.now in
    let index = c.args.index.now in
    let unique : c.args.index.now.unique ≡ true = search rules in
    let alike = unique_alike schema index.name index.columns rows c.as_slice-2.result.now
    (c.as_slice-2.ensures.value
    ∙ c.in_ok-sorted.ensures
    ∙ ap (λ (l : List Cells). in_order (places_cmp c.as_slice.result.now) l) (c.into_vec.ensures ∙ c.in_ok-copy.ensures)
    ∙ ap (λ (l : List ℕ). in_order (places_cmp l) rows) c.as_slice.ensures) in
    subst (λ (found : List Violation). IfOk c.of_unique.result (λ them. map broken_seen them ≡ found))
    (alike ∙ sym (ap (λ (b : Bool). cond b (broken schema rows 2 index.name (breaks_unique schema rows index.columns)) []) unique)) c.of_unique.ensures
