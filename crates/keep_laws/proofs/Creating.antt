-- What the elements of a CREATE leave: indexes, checks and foreign keys.
use Rattle.std.proofs.Common.{◌≡◌, ◌≤◌, refl, sym, ap, ◌∙◌, subst, ℕ, suc, ◌+◌, ◌/◌, ◌%◌, Bool, true, false, cond, not, ◌&&◌, eqb, ltb, List, [], ◌∷◌, ◌++◌, filter, map, length, Option, Some, Ok, arith, bytes_eq}
use Rattle.std.specs.List.{AllByRecursion, flat_map, list_all, list_any, sum_by}
use Rattle.std.specs.Option.{option_to_list}
use Rattle.std.proofs.lemmas.Bool.{and_parts, eq-eqb, eqb-true, lt-ltb, not-false}
use Rattle.std.proofs.lemmas.List.{length-append}
use Rattle.std.proofs.lemmas.List.Folds.{list_all-map}
use Rattle.std.proofs.lemmas.List.Sums.{sum_by-cons}
use Rattle.tuple_codec.specs.Fields.{short}
use Rattle.tuple_codec.specs.Texts.{is_utf8}
use Rattle.tuple_codec.specs.declared.values.SqlType.{SqlType}
use Rattle.schema_model.specs.PlainTables.{PlainDatabase}
use Rattle.schema_model.specs.SchemaBytes.{check_bytes}
use Rattle.schema_model.specs.Schemas.{are_checks, are_foreign, are_indexes, are_positions, is_check, is_foreign, is_index, is_name}
use Rattle.schema_model.specs.declared.schemas.CheckDef.{CheckDef}
use Rattle.schema_model.specs.declared.schemas.Column.{Column}
use Rattle.schema_model.specs.declared.schemas.ForeignKey.{ForeignKey}
use Rattle.schema_model.specs.declared.schemas.IndexDef.{IndexDef}
use Rattle.sql_ast.specs.declared.tables.Attribute.{Attribute}
use Rattle.sql_ast.specs.declared.tables.Element.{Element}
use Rattle.sql_ast.specs.declared.tables.Element.TheVariants as element
use Rattle.sql_ast.specs.declared.tables.ForeignKeyElement.{ForeignKeyElement}
use Rattle.sql_rules.specs.Constraints.{is_unique_mark}
use Rattle.sql_rules.specs.Defaults.{created_column}
use Rattle.sql_rules.specs.Tables.{keys_in}
use Rattle.sql_rules.specs.declared.constraints.Sort.TheVariants as sort
use Rattle.sql_laws.specs.Sound.{is_names, is_perhaps}
use Rattle.sql_laws.specs.Written as written
use Rattle.expr_eval.specs.Binding.{Outcome, and_then}
use Rattle.plain_sql.specs.Lists.{all_of, each, or_refuse}
use Rattle.plain_writes.specs.Violations.{same_type, same_types, table_in}
use Rattle.plain_schemas.specs.Effects.{fits_parent, foreign_allowed, key_allowed, key_lists, parent_place, refers_to_other, refers_well}
use Rattle.plain_schemas.specs.Lists.{all_allowed, kind_at, kinds_at, place_in, places}
use Rattle.plain_schemas.specs.Made.{checks_named, column_made, defined, foreign_named, index_on, indexes_in, indexes_named, name_for}
use Rattle.plain_schemas.specs.declared.naming.IndexPart.{IndexPart}
use Rattle.sql_laws.specs.SoundLaws.{IsKeptName}
use Rattle.plain_writes.proofs.RowOrderLemmas.{both_so, two}
use Rattle.plain_writes.proofs.OutcomeLemmas.{all_true, found_so, ok_same, then_so, unless_so}
use Rattle.keep_laws.proofs.ColumnLemmas.{distinct_named, name_kept}
use Rattle.keep_laws.proofs.ColumnPlaces.{are_there, places_pass, stands_at}
use Rattle.keep_laws.proofs.CreateColumns.{AreMade, IsGood, names_places, own_place, names_there}
use Rattle.keep_laws.proofs.CreateNames.{AreNames, picked, picks}
use Rattle.keep_laws.proofs.ListLemmas.{all_combined, have_append}
use Rattle.keep_laws.proofs.NameLists.{named}
use Rattle.keep_laws.proofs.SchemaParts.{few_so}

-- ---- how many elements there are

abbrev weight : Element → ℕ
weight e = keys_in e + (length (picked sort.Unique e) + (length (picked sort.Check e) + length (picked sort.ForeignKey e)))

weighs : (all : List Element) (e : Element) (made : List Column) → column_made all e ≡ Ok made → 1 ≤ length made + weight e
weighs all (element.Column column) made e =
    let one = then_so (defined column.name (created_column all column)) (λ made. Ok (made ∷ [])) made e in
    let single : Outcome (List Column) = Ok (one.0 ∷ []) in
    let size : 1 ≡ length made = ap length (ok_same single (one.0 ∷ []) made refl one.2) in
    omega (arith, size)
weighs all (element.PrimaryKey names) made e = omega arith
weighs all (element.Unique name names) made e = omega arith
weighs all (element.Index name names) made e = omega arith
weighs all (element.Check name condition) made e = omega arith
weighs all (element.ForeignKey key) made e = omega arith

abbrev total : List Element → ℕ
total es = sum_by keys_in es + (length (picks sort.Unique es) + (length (picks sort.Check es) + length (picks sort.ForeignKey es)))

total_more : (e : Element) (es : List Element) → total (e ∷ es) ≡ weight e + total es
total_more e es =
    let keys : sum_by keys_in (e ∷ es) ≡ keys_in e + sum_by keys_in es = sum_by-cons keys_in e es in
    let indexes : length (picks sort.Unique (e ∷ es)) ≡ length (picked sort.Unique e) + length (picks sort.Unique es) = length-append (picked sort.Unique e) (picks sort.Unique es) in
    let checks : length (picks sort.Check (e ∷ es)) ≡ length (picked sort.Check e) + length (picks sort.Check es) = length-append (picked sort.Check e) (picks sort.Check es) in
    let foreign : length (picks sort.ForeignKey (e ∷ es)) ≡ length (picked sort.ForeignKey e) + length (picks sort.ForeignKey es) = length-append (picked sort.ForeignKey e) (picks sort.ForeignKey es) in
    (λ i. keys i + (indexes i + (checks i + foreign i)))
    ∙ shuffled (keys_in e) (sum_by keys_in es) (length (picked sort.Unique e)) (length (picks sort.Unique es)) (length (picked sort.Check e)) (length (picks sort.Check es)) (length (picked sort.ForeignKey e)) (length (picks sort.ForeignKey es))
  where
    shuffled : (a b c d e f g h : ℕ) → (a + b) + ((c + d) + ((e + f) + (g + h))) ≡ (a + (c + (e + g))) + (b + (d + (f + h)))
    shuffled a b c d e f g h = omega arith

pub few_elements : (all es : List Element) (columns : List Column) → all_of (column_made all) es ≡ Ok columns → length es ≤ length columns + total es
few_elements all [] columns e = omega arith
few_elements all (first ∷ es) columns e =
    let head = then_so (column_made all first) (λ ys. and_then (all_of (column_made all) es) (λ more. Ok (ys ++ more))) columns e in
    let rest = then_so (all_of (column_made all) es) (λ more. Ok (head.0 ++ more)) columns head.2 in
    let whole : Outcome (List Column) = Ok (head.0 ++ rest.0) in
    added (length es) (length head.0) (length rest.0) (length columns) (weight first) (total es) (total (first ∷ es)) (weighs all first head.0 head.1) (few_elements all es rest.0 rest.1)
    (sym (ap length (ok_same whole (head.0 ++ rest.0) columns refl rest.2)) ∙ length-append head.0 rest.0) (total_more first es)
  where
    added : (n h r c w t s : ℕ) → 1 ≤ h + w → n ≤ r + t → c ≡ h + r → s ≡ w + t → suc n ≤ c + s
    added n h r c w t s p q u v = omega (arith, p, q, u, v)

-- ---- indexes

module _ (all : List Element) (columns : List Column) (made : AreMade all all columns) (few : length columns ≤ 64) where
  abbrev IsPlaced : IndexPart → Type 0
  IsPlaced part = are_positions (length columns) (places columns part.columns) ≡ true

  marks_placed : (name : List ℕ) (marks : List Attribute) → are_positions (length columns) (places columns (name ∷ [])) ≡ true → AllByRecursion IsPlaced (map (λ mark. index_on name) marks)
  marks_placed name [] at = tt
  marks_placed name (mark ∷ marks) at = (at, marks_placed name marks at)

  parts_placed : (e : Element) → IsGood all e → AllByRecursion IsPlaced (indexes_in e)
  parts_placed (element.Column column) good = marks_placed column.name (filter is_unique_mark column.attributes) (own_place all columns made column few good)
  parts_placed (element.PrimaryKey names) good = tt
  parts_placed (element.Unique name names) good = (names_places all columns made names few (and_parts (is_perhaps written.is_name name) (is_names names) good.sound).1 good.inside, tt)
  parts_placed (element.Index name names) good = (names_places all columns made names few (and_parts (written.is_name name) (is_names names) good.sound).1 good.inside, tt)
  parts_placed (element.Check name condition) good = tt
  parts_placed (element.ForeignKey key) good = tt

  pub all_placed : (es : List Element) → AllByRecursion (IsGood all) es → AllByRecursion IsPlaced (flat_map indexes_in es)
  all_placed [] good = tt
  all_placed (e ∷ es) good = have_append IsPlaced (indexes_in e) (flat_map indexes_in es) (parts_placed e good.0) (all_placed es good.1)

  indexes_placed : (names : List (List ℕ)) (parts : List IndexPart) → AllByRecursion IsPlaced parts → list_all (λ (index : IndexDef). are_positions (length columns) index.columns) (indexes_named columns names parts) ≡ true
  indexes_placed names [] placed = refl
  indexes_placed names (part ∷ parts) placed = both_so placed.0 (indexes_placed (name_for names part.name).1 parts placed.1)

  pub indexes_are : (names : List (List ℕ)) (parts : List IndexPart) → AllByRecursion IsPlaced parts → AreNames (map (λ (index : IndexDef). index.name) (indexes_named columns names parts))
      → length (indexes_named columns names parts) ≤ 64 → are_indexes (length columns) (indexes_named columns names parts) ≡ true
  indexes_are names parts placed named most =
      let indexes = indexes_named columns names parts in
      both_so (both_so (few_so indexes most)
      (all_combined (λ (index : IndexDef). is_name index.name) (λ (index : IndexDef). are_positions (length columns) index.columns) (is_index (length columns)) indexes (λ index a b. both_so a b)
      (sym (list_all-map is_name (λ (index : IndexDef). index.name) indexes) ∙ named.are) (indexes_placed names parts placed)))
      (distinct_named (λ (index : IndexDef). index.name) indexes ∙ named.apart)

-- ---- checks

abbrev is_text : CheckDef → Bool
is_text check = ltb (length check.text) 65536 && is_utf8 check.text

short_texts : (checks : List CheckDef) → length (flat_map check_bytes checks) ≤ 32768 → list_all (λ (check : CheckDef). ltb (length check.text) 65536) checks ≡ true
short_texts [] h = refl
short_texts (check ∷ checks) h =
    let sum : length (check_bytes check ++ flat_map check_bytes checks) ≡ length (check_bytes check) + length (flat_map check_bytes checks) = length-append (check_bytes check) (flat_map check_bytes checks) in
    let own : length (check_bytes check) ≡ length (short check.name) + suc (suc (length check.text)) = length-append (short check.name) (length check.text / 256 ∷ length check.text % 256 ∷ check.text) in
    both_so (lt-ltb (length check.text) 65536 (omega (arith, sum, own, h))) (short_texts checks (omega (arith, sum, h)))

pub utf8_texts : (all : List Element) (names : List (List ℕ)) (es : List Element) → AllByRecursion (IsGood all) es → list_all (λ (check : CheckDef). is_utf8 check.text) (checks_named names es) ≡ true
utf8_texts all names [] good = refl
utf8_texts all names (element.Column column ∷ es) good = utf8_texts all names es good.1
utf8_texts all names (element.PrimaryKey columns ∷ es) good = utf8_texts all names es good.1
utf8_texts all names (element.Unique name columns ∷ es) good = utf8_texts all names es good.1
utf8_texts all names (element.Index name columns ∷ es) good = utf8_texts all names es good.1
utf8_texts all names (element.Check name condition ∷ es) good = let first = good.0 in let kept = first.kept in both_so kept.2 (utf8_texts all (name_for names name).1 es good.1)
utf8_texts all names (element.ForeignKey key ∷ es) good = utf8_texts all names es good.1

pub checks_are : (checks : List CheckDef) → AreNames (map (λ (check : CheckDef). check.name) checks) → length checks ≤ 64 → length (flat_map check_bytes checks) ≤ 32768
    → list_all (λ (check : CheckDef). is_utf8 check.text) checks ≡ true → are_checks checks ≡ true
checks_are checks named most bytes texts =
    both_so (both_so (few_so checks most)
    (all_combined (λ (check : CheckDef). is_name check.name) is_text is_check checks (λ check a b. let parts = and_parts (ltb (length check.text) 65536) (is_utf8 check.text) b in both_so (both_so a parts.0) parts.1)
    (sym (list_all-map is_name (λ (check : CheckDef). check.name) checks) ∙ named.are)
    (all_combined (λ (check : CheckDef). ltb (length check.text) 65536) (λ (check : CheckDef). is_utf8 check.text) is_text checks (λ check a b. both_so a b) (short_texts checks bytes) texts)))
    (distinct_named (λ (check : CheckDef). check.name) checks ∙ named.apart)

-- ---- foreign keys

-- as many columns of the parent as columns
one_kind : (columns : List Column) (name : List ℕ) (place : ℕ) → place_in columns name ≡ Some place → length (kind_at columns place) ≡ 1
one_kind columns name place e =
    let at = stands_at columns name place e in
    let column = at.1 in
    ap (λ o. length (map (λ (column : Column). column.kind) (option_to_list o))) column.1

kinds_length : (columns : List Column) (found : List ℕ) → list_all (λ place. eqb (length (kind_at columns place)) 1) found ≡ true → length (kinds_at columns found) ≡ length found
kinds_length columns [] h = refl
kinds_length columns (place ∷ found) h =
    let parts = and_parts (eqb (length (kind_at columns place)) 1) (list_all (λ place. eqb (length (kind_at columns place)) 1) found) h in
    let one : length (kind_at columns place) ≡ 1 = eqb-true (length (kind_at columns place)) 1 parts.0 in
    let sum : length (kinds_at columns (place ∷ found)) ≡ length (kind_at columns place) + length (kinds_at columns found) = length-append (kind_at columns place) (kinds_at columns found) in
    let rest = kinds_length columns found parts.1 in
    let whole : length (kinds_at columns (place ∷ found)) ≡ suc (length found) = omega (arith, one, sum, rest) in whole

parent_kinds : (columns : List Column) (names : List (List ℕ)) (found : List ℕ) → each (parent_place columns) names ≡ Ok found
    → (list_all (λ place. eqb (length (kind_at columns place)) 1) found ≡ true) × (length found ≡ length names)
parent_kinds columns [] found e =
    let none : Outcome (List ℕ) = Ok [] in
    subst (λ (l : List ℕ). (list_all (λ place. eqb (length (kind_at columns place)) 1) l ≡ true) × (length l ≡ 0)) (ok_same none [] found refl e) (refl, refl)
parent_kinds columns (name ∷ names) found e =
    let first = then_so (parent_place columns name) (λ y. and_then (each (parent_place columns) names) (λ more. Ok (y ∷ more))) found e in
    let rest = then_so (each (parent_place columns) names) (λ more. Ok (first.0 ∷ more)) found first.2 in
    let whole : Outcome (List ℕ) = Ok (first.0 ∷ rest.0) in
    let later = parent_kinds columns names rest.0 rest.1 in
    let one = one_kind columns name first.0 (found_so 1054 (place_in columns name) first.0 first.1) in
    subst (λ (l : List ℕ). (list_all (λ place. eqb (length (kind_at columns place)) 1) l ≡ true) × (length l ≡ suc (length names))) (ok_same whole (first.0 ∷ rest.0) found refl rest.2)
    (both_so (eq-eqb (length (kind_at columns first.0)) 1 one) later.0, ap suc later.1)

own_kinds : (columns : List Column) (names : List (List ℕ)) → are_there columns names ≡ true → length (kinds_at columns (places columns names)) ≡ length (places columns names)
own_kinds columns names h =
    let test = λ (o : Option Column). eqb (length (map (λ (column : Column). column.kind) (option_to_list o))) 1 in
    kinds_length columns (places columns names) (places_pass test (λ name. true) columns names (λ name place among at. let column = at.1 in ap test column.1) (all_true names) h)

same_length : (a b : List SqlType) → same_types a b ≡ true → length a ≡ length b
same_length [] [] h = refl
same_length [] (y ∷ b) h = cc
same_length (x ∷ a) [] h = cc
same_length (x ∷ a) (y ∷ b) h = ap suc (same_length a b (and_parts (same_type x y) (same_types a b) h).1)

refers_length : (names : List (List ℕ)) (kinds : List SqlType) (columns : List Column) (keys : List (List ℕ)) (done : Unit {0}) → refers_well names kinds columns keys ≡ Ok done → length names ≡ length kinds
refers_length names kinds columns keys done e =
    let at = then_so (each (parent_place columns) names) (fits_parent kinds columns keys) done e in
    let next : Outcome Unit = Ok tt in
    let fit = unless_so (not (list_any (bytes_eq at.0) keys && same_types (kinds_at columns at.0) kinds)) 9013 next done at.2 in
    let same = and_parts (list_any (bytes_eq at.0) keys) (same_types (kinds_at columns at.0) kinds) (not-false _ fit.0) in
    let found = parent_kinds columns names at.0 at.1 in
    sym found.1 ∙ sym (kinds_length columns at.0 found.0) ∙ same_length (kinds_at columns at.0) kinds same.1

key_length : (database : PlainDatabase) (name : List ℕ) (columns : List Column) (keys : List (List ℕ)) (key : ForeignKeyElement) (done : Unit {0}) → key_allowed database name columns keys key ≡ Ok done
    → length key.parent_columns ≡ length (kinds_at columns (places columns key.columns))
key_length database name columns keys key done e =
    let kinds = kinds_at columns (places columns key.columns) in
    two (bytes_eq key.parent name)
    (λ t. refers_length key.parent_columns kinds columns keys done
    (sym (ap (λ b. cond b (refers_well key.parent_columns kinds columns keys) (and_then (or_refuse 1146 (table_in database key.parent)) (refers_to_other key.parent_columns kinds))) t) ∙ e))
    (λ t. let other = then_so (or_refuse 1146 (table_in database key.parent)) (refers_to_other key.parent_columns kinds) done
    (sym (ap (λ b. cond b (refers_well key.parent_columns kinds columns keys) (and_then (or_refuse 1146 (table_in database key.parent)) (refers_to_other key.parent_columns kinds))) t) ∙ e) in
    let table = other.0 in
    refers_length key.parent_columns kinds table.schema.columns (key_lists table.schema) done other.2)

names_all : (names : List (List ℕ)) → AllByRecursion IsKeptName names → list_all is_name names ≡ true
names_all [] h = refl
names_all (name ∷ names) h = both_so (name_kept name h.0) (names_all names h.1)

module _ (all : List Element) (columns : List Column) (made : AreMade all all columns) (few : length columns ≤ 64) (database : PlainDatabase) (table : List ℕ) (keys : List (List ℕ)) where
  abbrev is_rest : ForeignKey → Bool
  is_rest foreign = are_positions (length columns) foreign.columns && is_name foreign.parent && list_all is_name foreign.parent_columns && eqb (length foreign.columns) (length foreign.parent_columns)

  key_rest : (key : ForeignKeyElement) (name : List ℕ) (done : Unit {0}) → IsGood all (element.ForeignKey key) → key_allowed database table columns keys key ≡ Ok done
      → is_rest (record { name = name; columns = places columns key.columns; parent = key.parent; parent_columns = key.parent_columns }) ≡ true
  key_rest key name done good e =
      let kept = good.kept in
      let some = (and_parts (is_perhaps written.is_name key.name) (is_names key.columns) (and_parts (is_perhaps written.is_name key.name && is_names key.columns) (written.is_name key.parent && is_names key.parent_columns) good.sound).0).1 in
      both_so (both_so (both_so (names_places all columns made key.columns few some good.inside) (name_kept key.parent kept.1)) (names_all key.parent_columns kept.2))
      (eq-eqb (length (places columns key.columns)) (length key.parent_columns) (sym (own_kinds columns key.columns (names_there all columns made key.columns good.inside)) ∙ sym (key_length database table columns keys key done e)))

  foreign_rest : (names : List (List ℕ)) (es : List Element) (done : Unit {0}) → AllByRecursion (IsGood all) es → all_allowed (foreign_allowed database table columns keys) es ≡ Ok done
      → list_all is_rest (foreign_named columns names es) ≡ true
  foreign_rest names [] done good e = refl
  foreign_rest names (element.Column column ∷ es) done good e = foreign_rest names es done good.1 e
  foreign_rest names (element.PrimaryKey own ∷ es) done good e = foreign_rest names es done good.1 e
  foreign_rest names (element.Unique name own ∷ es) done good e = foreign_rest names es done good.1 e
  foreign_rest names (element.Index name own ∷ es) done good e = foreign_rest names es done good.1 e
  foreign_rest names (element.Check name condition ∷ es) done good e = foreign_rest names es done good.1 e
  foreign_rest names (element.ForeignKey key ∷ es) done good e =
      let first = then_so (key_allowed database table columns keys key) (λ done. all_allowed (foreign_allowed database table columns keys) es) done e in
      both_so (key_rest key (name_for names key.name).0 first.0 good.0 first.1) (foreign_rest (name_for names key.name).1 es done good.1 first.2)

  foreign_one : (foreign : ForeignKey) → is_name foreign.name ≡ true → is_rest foreign ≡ true → is_foreign (length columns) foreign ≡ true
  foreign_one foreign named rest =
      let p3 = and_parts (are_positions (length columns) foreign.columns && is_name foreign.parent && list_all is_name foreign.parent_columns) (eqb (length foreign.columns) (length foreign.parent_columns)) rest in
      let p2 = and_parts (are_positions (length columns) foreign.columns && is_name foreign.parent) (list_all is_name foreign.parent_columns) p3.0 in
      let p1 = and_parts (are_positions (length columns) foreign.columns) (is_name foreign.parent) p2.0 in
      both_so (both_so (both_so (both_so named p1.0) p1.1) p2.1) p3.1

  pub foreign_are : (names : List (List ℕ)) (es : List Element) (done : Unit {0}) → AllByRecursion (IsGood all) es → all_allowed (foreign_allowed database table columns keys) es ≡ Ok done
      → AreNames (map (λ (foreign : ForeignKey). foreign.name) (foreign_named columns names es)) → length (foreign_named columns names es) ≤ 64 → are_foreign (length columns) (foreign_named columns names es) ≡ true
  foreign_are names es done good e named most =
      let foreign = foreign_named columns names es in
      both_so (both_so (few_so foreign most)
      (all_combined (λ (one : ForeignKey). is_name one.name) is_rest (is_foreign (length columns)) foreign foreign_one
      (sym (list_all-map is_name (λ (one : ForeignKey). one.name) foreign) ∙ named.are) (foreign_rest names es done good e)))
      (distinct_named (λ (one : ForeignKey). one.name) foreign ∙ named.apart)
