-- The columns that CREATE makes, and its primary key.
use Rattle.std.proofs.Common.{◌≡◌, ◌≤◌, refl, sym, ap, ◌∙◌, subst, ℕ, suc, ◌+◌, Bool, true, false, cond, not, ◌||◌, true≢false, eqb, List, [], ◌∷◌, ◌++◌, length, None, Ok, arith, bytes_eq}
use Rattle.std.specs.Cmp.Lexicographic.{bytes_decides}
use Rattle.std.specs.List.{AllByRecursion, flat_map, list_all, list_any, slice_get, sum_by}
use Rattle.std.specs.Option.{option_to_list}
use Rattle.std.proofs.lemmas.Bool.{and_parts, eqb-false, eqb-true, not-false, not_from_false, or_left, or_parts, or_right}
use Rattle.std.proofs.lemmas.List.{append-nil}
use Rattle.std.proofs.lemmas.List.Sums.{sum_by-cons}
use Rattle.tuple_codec.proofs.Lists.{have_at}
use Rattle.tuple_codec.proofs.ByteLemmas.{bytes_turned as eq_turned}
use Rattle.schema_model.specs.Schemas as schemas
use Rattle.schema_model.specs.Schemas.{are_distinct, are_positions, is_column, is_empty, is_name}
use Rattle.schema_model.specs.declared.schemas.Column.{Column}
use Rattle.sql_ast.specs.declared.tables.ColumnElement.{ColumnElement}
use Rattle.sql_ast.specs.declared.tables.Element.{Element}
use Rattle.sql_ast.specs.declared.tables.Element.TheVariants as element
use Rattle.sql_rules.specs.Defaults.{created_column, is_not_null, refuses_null_after}
use Rattle.sql_rules.specs.Names.{contains, in_given, repeats}
use Rattle.sql_rules.specs.Tables.{column_name, element_outside, has_named, is_key_mark, keys_column, keys_in, misnames, repeats_given}
use Rattle.sql_laws.specs.Sound.{is_element, is_names}
use Rattle.expr_eval.specs.Binding.{Outcome, and_then}
use Rattle.plain_sql.specs.Lists.{all_of}
use Rattle.plain_schemas.specs.Lists.{place_in, places}
use Rattle.plain_schemas.specs.Made.{column_made, defined, key_in}
use Rattle.sql_laws.specs.SoundLaws.{IsKeptElement}
use Rattle.plain_writes.proofs.RowOrderLemmas.{both_so, two}
use Rattle.plain_writes.proofs.OutcomeLemmas.{ok_same, then_so}
use Rattle.keep_laws.proofs.ColumnLemmas.{made_so, name_kept}
use Rattle.keep_laws.proofs.ListLemmas.{no_count, some_count}
use Rattle.keep_laws.proofs.ColumnPlaces.{are_there, is_column_named, places_are, places_pass, StandsAt}

-- ---- elements that the text doesn't refuse, of all that stand there

pub record IsGood (all : List Element) (e : Element) : Type 0 where
  pub inside : element_outside all e ≡ false
  pub sound : is_element e ≡ true
  pub kept : IsKeptElement e
  pub there : (test : Element → Bool) → test e ≡ true → list_any test all ≡ true

pub goods : (all es : List Element) → ((test : Element → Bool) → list_any test es ≡ true → list_any test all ≡ true) → list_any (element_outside all) es ≡ false → list_all is_element es ≡ true
    → AllByRecursion IsKeptElement es → AllByRecursion (IsGood all) es
goods all [] within inside sound kept = tt
goods all (e ∷ es) within inside sound kept =
    let inner = or_parts (element_outside all e) (list_any (element_outside all) es) inside in
    let good = and_parts (is_element e) (list_all is_element es) sound in (
      record { inside = inner.0; sound = good.0; kept = kept.0; there = λ test h. within test (or_left (test e) (list_any test es) h) },
      goods all es (λ test h. within test (or_right (test e) (list_any test es) h)) inner.1 good.1 kept.1,
    )

-- ---- columns

any_turned : (wanted : List ℕ) (columns : List Column) → list_any (λ (column : Column). bytes_eq wanted column.name) columns ≡ is_column_named columns wanted
any_turned wanted [] = refl
any_turned wanted (column ∷ columns) = λ i. eq_turned wanted column.name i || any_turned wanted columns i

none_made : (made : List Column) → (let none : Outcome (List Column) = Ok [] in none ≡ Ok made) → [] ≡ made
none_made made e = let none : Outcome (List Column) = Ok [] in ok_same none [] made refl e

-- elements that are no columns make none
by_shape : (P : Element → Type 0) → ((column : ColumnElement) → P (element.Column column))
    → ((e : Element) → ((all : List Element) (made : List Column) → column_made all e ≡ Ok made → [] ≡ made) → column_name e ≡ None → P e) → (e : Element) → P e
by_shape P f g (element.Column column) = f column
by_shape P f g (element.PrimaryKey names) = g (element.PrimaryKey names) (λ all made e. none_made made e) refl
by_shape P f g (element.Unique name names) = g (element.Unique name names) (λ all made e. none_made made e) refl
by_shape P f g (element.Index name names) = g (element.Index name names) (λ all made e. none_made made e) refl
by_shape P f g (element.Check name condition) = g (element.Check name condition) (λ all made e. none_made made e) refl
by_shape P f g (element.ForeignKey key) = g (element.ForeignKey key) (λ all made e. none_made made e) refl

pub record AreMade (all es : List Element) (columns : List Column) : Type 0 where
  pub columns_are : list_all is_column columns ≡ true
  pub names : (wanted : List ℕ) → is_column_named columns wanted ≡ has_named column_name es wanted
  pub apart : repeats_given column_name es ≡ false → are_distinct (λ (a b : Column). bytes_eq a.name b.name) columns ≡ true
  pub filled : AllByRecursion (λ (column : Column). list_any (keys_column column.name) all ≡ true → column.not_null ≡ true) columns

abbrev MakesMore : List Element → List Element → Element → Type 0
MakesMore all es e = (columns : List Column) → IsGood all e → ((more : List Column) → all_of (column_made all) es ≡ Ok more → AreMade all es more) → all_of (column_made all) (e ∷ es) ≡ Ok columns → AreMade all (e ∷ es) columns

makes_column : (all es : List Element) (column : ColumnElement) → MakesMore all es (element.Column column)
makes_column all es column columns good later e =
    let first = then_so (column_made all (element.Column column)) (λ ys. and_then (all_of (column_made all) es) (λ more. Ok (ys ++ more))) columns e in
    let rest = then_so (all_of (column_made all) es) (λ more. Ok (first.0 ++ more)) columns first.2 in
    let made = then_so (defined column.name (created_column all column)) (λ made. Ok (made ∷ [])) first.0 first.1 in
    let single : Outcome (List Column) = Ok (made.0 ∷ []) in
    let whole : Outcome (List Column) = Ok (first.0 ++ rest.0) in
    let one = made_so column.name (is_not_null all column) column made.0 made.1 in
    let more = later rest.0 rest.1 in
    subst (AreMade all (element.Column column ∷ es)) (ap (λ ys. ys ++ rest.0) (ok_same single (made.0 ∷ []) first.0 refl made.2) ∙ ok_same whole (first.0 ++ rest.0) columns refl rest.2) (record {
      columns_are = both_so (one.is_one (name_kept column.name good.kept)) more.columns_are;
      names = λ wanted. λ i. (ap (λ name. bytes_eq name wanted) one.name_is ∙ eq_turned column.name wanted) i || more.names wanted i;
      apart = λ once.
          let parts = or_parts (has_named column_name es column.name) (repeats_given column_name es) once in
          both_so (not_from_false _ (any_turned (made.0).name rest.0 ∙ ap (is_column_named rest.0) one.name_is ∙ more.names column.name ∙ parts.0)) (more.apart parts.1);
      filled = (λ keyed. one.not_null_is ∙ or_left (list_any (keys_column column.name) all) (refuses_null_after false column.attributes) (ap (λ name. list_any (keys_column name) all) (sym one.name_is) ∙ keyed), more.filled);
    })

makes_none : (all es : List Element) (e : Element) → ((all : List Element) (made : List Column) → column_made all e ≡ Ok made → [] ≡ made) → column_name e ≡ None → MakesMore all es e
makes_none all es e none nameless columns good later h =
    let first = then_so (column_made all e) (λ ys. and_then (all_of (column_made all) es) (λ more. Ok (ys ++ more))) columns h in
    let rest = then_so (all_of (column_made all) es) (λ more. Ok (first.0 ++ more)) columns first.2 in
    let whole : Outcome (List Column) = Ok (first.0 ++ rest.0) in
    let more = later rest.0 rest.1 in
    subst (AreMade all (e ∷ es)) (ap (λ ys. ys ++ rest.0) (none all first.0 first.1) ∙ ok_same whole (first.0 ++ rest.0) columns refl rest.2) (record {
      columns_are = more.columns_are;
      names = λ wanted. more.names wanted ∙ sym (ap (λ o. in_given (bytes_eq wanted) o || has_named column_name es wanted) nameless);
      apart = λ once. more.apart (or_parts (in_given (has_named column_name es) (column_name e)) (repeats_given column_name es) once).1;
      filled = more.filled;
    })

pub columns_are_made : (all es : List Element) (columns : List Column) → AllByRecursion (IsGood all) es → all_of (column_made all) es ≡ Ok columns → AreMade all es columns
columns_are_made all [] columns good e =
    let none : Outcome (List Column) = Ok [] in
    subst (AreMade all []) (ok_same none [] columns refl e) (record { columns_are = refl; names = λ wanted. refl; apart = λ once. refl; filled = tt })
columns_are_made all (first ∷ es) columns good e =
    by_shape (MakesMore all es) (makes_column all es) (makes_none all es) first columns good.0 (λ more made. columns_are_made all es more good.1 made) e

-- ---- lists of columns' names

module _ (all : List Element) (columns : List Column) (made : AreMade all all columns) where
  are_named : (names : List (List ℕ)) → list_any (λ name. not (has_named column_name all name)) names ≡ false → are_there columns names ≡ true
  are_named [] h = refl
  are_named (name ∷ names) h =
      let parts = or_parts (not (has_named column_name all name)) (list_any (λ name. not (has_named column_name all name)) names) h in
      both_so (made.names name ∙ not-false _ parts.0) (are_named names parts.1)

  pub names_there : (names : List (List ℕ)) → misnames all names ≡ false → are_there columns names ≡ true
  names_there names h = are_named names (or_parts (repeats names) (list_any (λ name. not (has_named column_name all name)) names) h).1

  some_names : (names : List (List ℕ)) → is_names names ≡ true → is_empty names ≡ false
  some_names [] h = absurd (true≢false (sym h))
  some_names (name ∷ names) h = two (is_empty (name ∷ names)) (λ t. absurd (let none : suc (length names) ≡ 0 = eqb-true (suc (length names)) 0 t in omega (arith, none))) (λ t. t)

  pub names_places : (names : List (List ℕ)) → length columns ≤ 64 → is_names names ≡ true → misnames all names ≡ false → are_positions (length columns) (places columns names) ≡ true
  names_places names few some h =
      places_are columns names few (some_names names some) (or_parts (repeats names) (list_any (λ name. not (has_named column_name all name)) names) h).0 (names_there names h)

  -- ---- the primary key

  abbrev pub IsKey : List ℕ → Type 0
  IsKey key = (are_positions (length columns) key ≡ true) × (list_all (λ place. schemas.is_not_null (slice_get columns place)) key ≡ true)

  -- a column that a key names is NOT NULL
  filled_at : (name : List ℕ) (place : ℕ) → list_any (keys_column name) all ≡ true → StandsAt columns name place → schemas.is_not_null (slice_get columns place) ≡ true
  filled_at name place keyed at =
      let column = at.1 in
      ap schemas.is_not_null column.1
      ∙ have_at (λ (column : Column). list_any (keys_column column.name) all ≡ true → column.not_null ≡ true) columns place (column.0) made.filled column.1 (ap (λ n. list_any (keys_column n) all) column.2 ∙ keyed)

  self : (name : List ℕ) → bytes_eq name name ≡ true
  self name = (bytes_decides name name).1 refl

  own_names : (names more : List (List ℕ)) → ((name : List ℕ) → contains more name ≡ true → contains names name ≡ true) → list_all (contains names) more ≡ true
  own_names names [] within = refl
  own_names names (name ∷ more) within =
      both_so (within name (or_left (bytes_eq name name) (contains more name) (self name))) (own_names names more (λ other h. within other (or_right (bytes_eq other name) (contains more other) h)))

  key_of_names : (names : List (List ℕ)) → length columns ≤ 64 → IsGood all (element.PrimaryKey names) → IsKey (places columns names)
  key_of_names names few good = (
    names_places names few good.sound good.inside,
    places_pass schemas.is_not_null (contains names) columns names (λ name place named at. filled_at name place (good.there (keys_column name) named) at) (own_names names names (λ name h. h)) (names_there names good.inside),
  )

  own_there : (column : ColumnElement) → IsGood all (element.Column column) → are_there columns (column.name ∷ []) ≡ true
  own_there column good = both_so (made.names column.name ∙ good.there (λ other. in_given (bytes_eq column.name) (column_name other)) (self column.name)) refl

  pub own_place : (column : ColumnElement) → length columns ≤ 64 → IsGood all (element.Column column) → are_positions (length columns) (places columns (column.name ∷ [])) ≡ true
  own_place column few good = places_are columns (column.name ∷ []) few refl refl (own_there column good)

  key_of_mark : (column : ColumnElement) → length columns ≤ 64 → IsGood all (element.Column column) → list_any is_key_mark column.attributes ≡ true → IsKey (option_to_list (place_in columns column.name))
  key_of_mark column few good marked =
      let name = column.name in
      let keyed = good.there (keys_column name) (both_so (self name) marked) in
      subst IsKey (append-nil (option_to_list (place_in columns name))) (
        own_place column few good,
        places_pass schemas.is_not_null (bytes_eq name) columns (name ∷ [])
            (λ other place same at. filled_at other place (subst (λ n. list_any (keys_column n) all ≡ true) ((bytes_decides name other).0 same) keyed) at) (both_so (self name) refl) (own_there column good),
      )

  -- an element with no key gives no positions, and one with one key gives the key's
  no_key : (e : Element) → keys_in e ≡ 0 → key_in columns e ≡ []
  no_key (element.Column column) h = two (list_any is_key_mark column.attributes)
      (λ t. absurd (let some = some_count is_key_mark column.attributes t in omega (arith, some, h)))
      (λ t. ap (λ b. cond b (option_to_list (place_in columns column.name)) []) t)
  no_key (element.PrimaryKey names) h = absurd (omega (arith, h))
  no_key (element.Unique name names) h = refl
  no_key (element.Index name names) h = refl
  no_key (element.Check name condition) h = refl
  no_key (element.ForeignKey key) h = refl

  one_key : (e : Element) → length columns ≤ 64 → IsGood all e → (keys_in e ≡ 0 → ⊥) → IsKey (key_in columns e)
  one_key (element.Column column) few good h = two (list_any is_key_mark column.attributes)
      (λ t. subst IsKey (sym (ap (λ b. cond b (option_to_list (place_in columns column.name)) []) t)) (key_of_mark column few good t))
      (λ t. absurd (h (no_count is_key_mark column.attributes t)))
  one_key (element.PrimaryKey names) few good h = key_of_names names few good
  one_key (element.Unique name names) few good h = absurd (h refl)
  one_key (element.Index name names) few good h = absurd (h refl)
  one_key (element.Check name condition) few good h = absurd (h refl)
  one_key (element.ForeignKey key) few good h = absurd (h refl)

  no_keys : (es : List Element) → sum_by keys_in es ≡ 0 → flat_map (key_in columns) es ≡ []
  no_keys [] h = refl
  no_keys (e ∷ es) h =
      let sum : sum_by keys_in (e ∷ es) ≡ keys_in e + sum_by keys_in es = sum_by-cons keys_in e es in
      λ i. no_key e (omega (arith, sum, h)) i ++ no_keys es (omega (arith, sum, h)) i

  pub key_is : (es : List Element) → length columns ≤ 64 → AllByRecursion (IsGood all) es → sum_by keys_in es ≡ 1 → IsKey (flat_map (key_in columns) es)
  key_is [] few good h = absurd (let none : sum_by keys_in [] ≡ 0 = refl in omega (arith, none, h))
  key_is (e ∷ es) few good h =
      let sum : sum_by keys_in (e ∷ es) ≡ keys_in e + sum_by keys_in es = sum_by-cons keys_in e es in
      two (eqb (keys_in e) 0)
      (λ t. let none : keys_in e ≡ 0 = eqb-true (keys_in e) 0 t in
      subst IsKey (sym (ap (λ l. l ++ flat_map (key_in columns) es) (no_key e none))) (key_is es few good.1 (omega (arith, sum, h, none))))
      (λ t. subst IsKey (sym (ap (λ l. key_in columns e ++ l) (no_keys es (rest_none (keys_in e) (sum_by keys_in es) (sum_by keys_in (e ∷ es)) sum h (eqb-false (keys_in e) 0 t))) ∙ append-nil (key_in columns e)))
      (one_key e few good.0 (eqb-false (keys_in e) 0 t)))
    where
      rest_none : (first rest whole : ℕ) → whole ≡ first + rest → whole ≡ 1 → (first ≡ 0 → ⊥) → rest ≡ 0
      rest_none first rest whole sum one apart = grind arith
