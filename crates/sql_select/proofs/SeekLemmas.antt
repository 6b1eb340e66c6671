-- A SELECT of one source shows of the rows that its WHERE seeks what it shows of all rows.
use Rattle.std.proofs.Common.{◌≡◌, ◌⊎◌, inl, inr, refl, sym, ap, ◌∙◌, ℕ, suc, Bool, true, false, cond, filter, find, List, [], ◌∷◌, ◌++◌, append-nil, map, ◌==◌, length, Option, Some, Result, Ok, Err, IfOk, bytes_eq, arith}
use Rattle.std.specs.List.{AllZip, list_all, list_any}
use Rattle.std.specs.Option.{option_to_list}
use Rattle.std.proofs.lemmas.Bool.{and_parts, eqb-true}
use Rattle.tuple_codec.specs.Rows.{Cells}
use Rattle.tuple_codec.specs.declared.answers.Answer.{Answer}
use Rattle.schema_model.specs.PlainTables as plain
use Rattle.schema_model.specs.PlainTables.{PlainTable, is_row}
use Rattle.schema_model.specs.declared.schemas.Schema.{Schema}
use Rattle.sql_ast.specs.declared.expressions.Expr.{Expr}
use Rattle.sql_ast.specs.declared.selects.Join.{Join}
use Rattle.sql_ast.specs.declared.selects.Query.{Query}
use Rattle.sql_ast.specs.declared.selects.Select.TheVariants as select
use Rattle.expr_eval.specs.Binding.{Outcome, and_then}
use Rattle.expr_eval.specs.declared.bound.BoundExpr.{BoundExpr}
use Rattle.expr_eval.specs.declared.scopes.ScopeColumn.{ScopeColumn}
use Rattle.plain_sql.specs.Answers.{Heading, Meaning, Plan, SortKey, answered, answered_of, combinations, is_true, kept, kept_row, row_if}
use Rattle.plain_sql.specs.Lists.{each, or_refuse}
use Rattle.plain_sql.specs.Plans.{answer, calls_aggregate, condition, conditions, group_place, grouping_of, headings_of, is_known_as, meaning, query_on, read_as, sort_key, source_read}
use Rattle.sql_text.specs.SelectNames.{item_list, source_name}
use Rattle.plain_sql.specs.declared.sources.Known.{Known}
use Rattle.plain_sql.specs.declared.sources.Read.{Read}
use Rattle.plain_sql.specs.Passing.{IsPassedOver}
use Rattle.sql_select.specs.Seeking.{Seeks}
use Rattle.sql_select.specs.Seeks.{AddsServing, AreNeeded, ServesQuery, scope_in}
use Rattle.sql_select.specs.Sources.{known_table}

-- ---- rows that are passed over

not_true : (b : Bool) → b ≡ false → ◌≡◌ {A = Outcome Bool} (cond b (Ok true) (Ok false)) (Ok false)
not_true b e = ap (λ b. cond b (Ok true) (Ok false)) e

row_passed : (test : BoundExpr) (row : Cells) → IsPassedOver test row → kept_row (meaning test ∷ []) row ≡ Ok []
row_passed test row over =
    ap (λ o. and_then (and_then o (λ v. cond (is_true v) (Ok true) (Ok false))) (λ stays. Ok (row_if row stays))) over.1
    ∙ ap (λ o. and_then o (λ stays. Ok (row_if row stays))) (not_true (is_true over.0) over.2)

none_added : (o : Outcome (List Cells)) → and_then o (λ more. Ok ([] ++ more)) ≡ o
none_added (Ok rows) = refl
none_added (Err number) = refl

skipped : (test : BoundExpr) (row : Cells) (rows : List Cells) → IsPassedOver test row
    → kept (meaning test ∷ []) (combinations ((row ∷ rows) ∷ [])) ≡ kept (meaning test ∷ []) (combinations (rows ∷ []))
skipped test row rows over =
    ap (λ o. and_then o (λ ys. and_then (kept (meaning test ∷ []) (combinations (rows ∷ []))) (λ more. Ok (ys ++ more))))
    (ap (kept_row (meaning test ∷ [])) (append-nil row) ∙ row_passed test row over)
    ∙ none_added (kept (meaning test ∷ []) (combinations (rows ∷ [])))

-- the same behind the same row
behind : (tests : List Meaning) (row : Cells) (rows others : List Cells) → kept tests (combinations (rows ∷ [])) ≡ kept tests (combinations (others ∷ []))
    → kept tests (combinations ((row ∷ rows) ∷ [])) ≡ kept tests (combinations ((row ∷ others) ∷ []))
behind tests row rows others e = ap (λ o. and_then (kept_row tests (row ++ [])) (λ ys. and_then o (λ more. Ok (ys ++ more)))) e

-- ---- the rows that are kept

kept_alike : (schema : Schema) (test : BoundExpr) (wanted : Cells → Bool) → Seeks schema test wanted → (rows : List Cells) → list_all (is_row schema) rows ≡ true
    → kept (meaning test ∷ []) (combinations (rows ∷ [])) ≡ kept (meaning test ∷ []) (combinations (filter wanted rows ∷ []))
kept_alike schema test wanted passes [] fit = refl
kept_alike schema test wanted passes (row ∷ rows) fit =
    let fits = and_parts (is_row schema row) (list_all (is_row schema) rows) fit in
    let more = kept_alike schema test wanted passes rows fits.1 in
    elim (wanted row) as (λ b. wanted row ≡ b → kept (meaning test ∷ []) (combinations ((row ∷ rows) ∷ []))
    ≡ kept (meaning test ∷ []) (combinations (cond b (row ∷ filter wanted rows) (filter wanted rows) ∷ []))) [
      | true ↦ λ within. behind (meaning test ∷ []) row rows (filter wanted rows) more
      | false ↦ λ out. skipped test row rows (passes row fits.0 out) ∙ more
    ] refl

-- ---- the plan's only test is the WHERE

alike_after : {H P K R S : Type 0} (headings : Outcome H) (places : Outcome P) (keys : Outcome K) (make : H → P → K → R) (f g : R → Outcome S) → ((h : H) (p : P) (k : K) → f (make h p k) ≡ g (make h p k))
    → and_then (and_then headings (λ h. and_then places (λ p. and_then keys (λ k. Ok (make h p k))))) f
    ≡ and_then (and_then headings (λ h. and_then places (λ p. and_then keys (λ k. Ok (make h p k))))) g
alike_after (Err number) places keys make f g same = refl
alike_after (Ok h) (Err number) keys make f g same = refl
alike_after (Ok h) (Ok p) (Err number) make f g same = refl
alike_after (Ok h) (Ok p) (Ok k) make f g same = same h p k

-- what a query shows of one source of these columns and rows, by what its conditions come to
abbrev shown_by : Query → List ScopeColumn → Outcome (List Meaning) → (Plan → Outcome Answer) → Outcome Answer
shown_by query scope tests after = and_then
    (and_then (headings_of scope query.items) (λ headings. and_then tests (λ tests.
    and_then (each (group_place scope) query.clauses.groups) (λ places. and_then (each (sort_key scope (item_list query.items)) query.clauses.sorting.keys) (λ keys.
    Ok (record {
      tests = tests;
      grouping = grouping_of (list_any calls_aggregate (item_list query.items)) places;
      headings = headings;
      distinct = query.distinct;
      keys = keys;
      limit = query.clauses.sorting.limit;
    })))))) after

tests_are : (query : Query) (scope : List ScopeColumn) (filter : Expr) (test : Meaning) → query.from.joins ≡ [] → query.clauses.filter ≡ Some filter → condition scope filter ≡ Ok test
    → each (condition scope) (conditions query) ≡ Ok (test ∷ [])
tests_are query scope filter test alone is bound =
    ap (λ joins. each (condition scope) (map (λ (join : Join). join.on) joins ++ option_to_list query.clauses.filter)) alone
    ∙ ap (λ o. each (condition scope) (option_to_list o)) is
    ∙ ap (λ o. and_then o (λ y. Ok (y ∷ []))) bound

-- the plan with one test
abbrev plan_with : Query → Meaning → List Heading → List ℕ → List SortKey → Plan
plan_with query test headings places keys = record {
  tests = test ∷ [];
  grouping = grouping_of (list_any calls_aggregate (item_list query.items)) places;
  headings = headings;
  distinct = query.distinct;
  keys = keys;
  limit = query.clauses.sorting.limit;
}

rows_alike : (query : Query) (columns : List ScopeColumn) (rows others : List Cells) (filter : Expr) (test : Meaning) → query.from.joins ≡ [] → query.clauses.filter ≡ Some filter
    → condition columns filter ≡ Ok test → kept (test ∷ []) (combinations (rows ∷ [])) ≡ kept (test ∷ []) (combinations (others ∷ []))
    → query_on (record { columns = columns; rows = others } ∷ []) query ≡ query_on (record { columns = columns; rows = rows } ∷ []) query
rows_alike query columns rows others filter test alone is bound same =
    let scope = columns ++ [] in
    let tests : each (condition scope) (conditions query) ≡ Ok (test ∷ []) =
    tests_are query scope filter test alone is (ap (λ s. condition s filter) (append-nil columns) ∙ bound) in
    ap (λ o. shown_by query scope o (λ plan. answered plan (others ∷ []))) tests
    ∙ alike_after (headings_of scope query.items) (each (group_place scope) query.clauses.groups) (each (sort_key scope (item_list query.items)) query.clauses.sorting.keys)
    (plan_with query test) (λ plan. answered plan (others ∷ [])) (λ plan. answered plan (rows ∷ []))
    (λ headings places keys. ap (λ o. and_then o (answered_of (plan_with query test headings places keys))) (sym same))
    ∙ sym (ap (λ o. shown_by query scope o (λ plan. answered plan (rows ∷ []))) tests)

-- ---- a table of which the rows are read that are needed

pub serves : (query : Query) (name : List ℕ) (table : PlainTable) (part : Known) (read : List Cells) → plain.IsTable table → part.name ≡ name
    → part ≡ record { name = part.name; columns = (known_table (record { name = name; table = table })).columns; rows = read }
    → AreNeeded query table.schema table.rows read → ServesQuery query (known_table (record { name = name; table = table })) part
serves query name table part read is named made (inl all) =
    (named, inl (made ∙ (λ i. record { name = named i; columns = (known_table (record { name = name; table = table })).columns; rows = all i })))
serves query name table part read is named made (inr needed) =
    let wanted = needed.0 in
    let alone = needed.1.0 in
    let where_is = needed.1.1 in
    let filtered = needed.1.2 in
    let by = needed.1.3 in
    let columns = scope_in query.from.first table.schema in
    let same = kept_alike table.schema by.test wanted by.passes table.rows is.rows in (
      named,
      inr (
        alone,
        ap (λ (k : Known). query_on (read_as (source_name query.from.first) k ∷ []) query) made
            ∙ ap (λ rows. query_on (record { columns = columns; rows = rows } ∷ []) query) needed.2
            ∙ rows_alike query columns table.rows (filter wanted table.rows) where_is (meaning by.test) alone filtered by.bound same,
      ),
    )

-- ---- tables that serve give the same answer

pub serves_itself : (query : Query) (xs : List Known) → AllZip (ServesQuery query) xs xs
serves_itself query [] = tt
serves_itself query (x ∷ xs) = ((refl, inl refl), serves_itself query xs)

pub serve_both : (query : Query) (xs ys us vs : List Known) → AllZip (ServesQuery query) xs ys → AllZip (ServesQuery query) us vs → AllZip (ServesQuery query) (xs ++ us) (ys ++ vs)
serve_both query [] [] us vs front back = back
serve_both query [] (y ∷ ys) us vs front back = absurd (front)
serve_both query (x ∷ xs) [] us vs front back = absurd (front)
serve_both query (x ∷ xs) (y ∷ ys) us vs front back = (front.0, serve_both query xs ys us vs front.1 back)

-- with a join, all are as they were
joined_same : (query : Query) (join : Join) (joins : List Join) → query.from.joins ≡ join ∷ joins → (xs ys : List Known) → AllZip (ServesQuery query) xs ys → ys ≡ xs
joined_same query join joins more [] [] serve = refl
joined_same query join joins more [] (y ∷ ys) serve = absurd (serve)
joined_same query join joins more (x ∷ xs) [] serve = absurd (serve)
joined_same query join joins more (x ∷ xs) (y ∷ ys) serve =
    (λ i. first serve.0.1 i ∷ joined_same query join joins more xs ys serve.1 i)
  where
    clash : query.from.joins ≡ [] → ⊥
    clash none = none_one (sym none ∙ more)
      where
        none_one : ◌≡◌ {A = List Join} [] (join ∷ joins) → ⊥
        none_one e = absurd (cc)

    first : (y ≡ x) ⊎ ((query.from.joins ≡ []) × (query_on (read_as (source_name query.from.first) y ∷ []) query ≡ query_on (read_as (source_name query.from.first) x ∷ []) query)) → y ≡ x
    first (inl same) = same
    first (inr alone) = absurd (clash alone.0)

-- the answer of a query with one source, from the table that is found for it
abbrev shown_of : Query → Option Known → Outcome Answer
shown_of query found = and_then (each (λ (o : Outcome Read). o) (and_then (or_refuse 1146 found) (λ found. Ok (read_as (source_name query.from.first) found)) ∷ [])) (λ sources. query_on sources query)

one_found : (query : Query) (x y : Known) → (y ≡ x) ⊎ ((query.from.joins ≡ []) × (query_on (read_as (source_name query.from.first) y ∷ []) query ≡ query_on (read_as (source_name query.from.first) x ∷ []) query))
    → shown_of query (Some y) ≡ shown_of query (Some x)
one_found query x y (inl same) = ap (λ k. shown_of query (Some k)) same
one_found query x y (inr alike) = alike.1

found_same : (query : Query) (name : List ℕ) (xs ys : List Known) → AllZip (ServesQuery query) xs ys → shown_of query (find (is_known_as name) ys) ≡ shown_of query (find (is_known_as name) xs)
found_same query name [] [] serve = refl
found_same query name [] (y ∷ ys) serve = absurd (serve)
found_same query name (x ∷ xs) [] serve = absurd (serve)
found_same query name (x ∷ xs) (y ∷ ys) serve =
    ap (λ n. shown_of query (cond (bytes_eq n name) (Some y) (find (is_known_as name) ys))) serve.0.0
    ∙ either (bytes_eq x.name name) (found_same query name xs ys serve.1)
  where
    either : (b : Bool) → shown_of query (find (is_known_as name) ys) ≡ shown_of query (find (is_known_as name) xs)
        → shown_of query (cond b (Some y) (find (is_known_as name) ys)) ≡ shown_of query (cond b (Some x) (find (is_known_as name) xs))
    either true more = one_found query x y serve.0.1
    either false more = more

-- the answer by its sources
abbrev by_sources : List Known → Query → List Join → Outcome Answer
by_sources known query joins = and_then (each (source_read known) (query.from.first ∷ map (λ (join : Join). join.source) joins)) (λ sources. query_on sources query)

lone_alike : (query : Query) (xs ys : List Known) → AllZip (ServesQuery query) xs ys → by_sources ys query [] ≡ by_sources xs query []
unfolding source_read
lone_alike query xs ys serve = found_same query query.from.first.table xs ys serve

pub answers_alike : (query : Query) (xs ys : List Known) → AllZip (ServesQuery query) xs ys → answer ys (select.From query) ≡ answer xs (select.From query)
answers_alike query xs ys serve = by query.from.joins refl
  where
    by : (joins : List Join) → query.from.joins ≡ joins → answer ys (select.From query) ≡ answer xs (select.From query)
    by [] alone = ap (by_sources ys query) alone ∙ lone_alike query xs ys serve ∙ sym (ap (by_sources xs query) alone)
    by (join ∷ joins) more = ap (λ k. answer k (select.From query)) (joined_same query join joins more xs ys serve)

-- the tables that were read, and the system tables behind them
pub read_alike : (query : Query) (tables system before kept known : List Known) → before ≡ [] → AddsServing query before kept tables → known ≡ kept ++ system
    → answer known (select.From query) ≡ answer (tables ++ system) (select.From query)
read_alike query tables system before kept known none adds is =
    let whole : known ≡ adds.0 ++ system = is ∙ ap (λ l. l ++ system) (adds.1 ∙ ap (λ l. l ++ adds.0) none) in
    ap (λ k. answer k (select.From query)) whole ∙ answers_alike query (tables ++ system) (adds.0 ++ system) (serve_both query tables adds.0 system system adds.2 (serves_itself query system))

-- ---- steps of functions

pub no_items : {A : Type 0} (xs ys : List A) → xs ≡ ys → (length xs == 0) ≡ true → ys ≡ []
no_items [] ys same none = sym same
no_items (x ∷ xs) ys same none = let none_long : suc (length xs) ≡ 0 = eqb-true (suc (length xs)) 0 none in absurd (omega (arith, none_long))

pub both_ok : {A E : Type 0} (r : Result A E) (P Q R : A → Type 0) → ((x : A) → P x → Q x → R x) → IfOk r P → IfOk r Q → IfOk r R
both_ok (Ok x) P Q R f p q = f x p q
both_ok (Err e) P Q R f p q = p
