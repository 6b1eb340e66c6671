-- What CREATE leaves of a database.
use Rattle.std.proofs.Common.{◌≡◌, ◌<◌, ◌≤◌, refl, sym, ap, ◌∙◌, subst, ℕ, ◌+◌, ◌^◌, true, false, cond, not, ◌&&◌, ◌||◌, eqb, leb, List, [], ◌∷◌, ◌++◌, map, length, Ok, arith}
use Rattle.std.specs.List.{AllByRecursion, flat_map, list_all, list_any, sum_by}
use Rattle.std.proofs.lemmas.Bool.{and_parts, eqb-true, le-leb, not-false, or_parts}
use Rattle.std.proofs.lemmas.List.{length-append, length-map}
use Rattle.std.proofs.lemmas.List.Folds.{list_all-map}
use Rattle.tuple_codec.specs.Fields.{short}
use Rattle.schema_model.specs.Limits.{has_short_names, is_short_name, is_within_limits, most_tables}
use Rattle.schema_model.specs.PlainTables.{NamedTable, PlainDatabase}
use Rattle.schema_model.specs.SchemaBytes.{check_bytes, column_bytes, foreign_bytes, index_bytes, listed, schema_bytes}
use Rattle.schema_model.specs.Schemas.{is_name, is_schema}
use Rattle.schema_model.specs.declared.schemas.CheckDef.{CheckDef}
use Rattle.schema_model.specs.declared.schemas.Column.{Column}
use Rattle.schema_model.specs.declared.schemas.ForeignKey.{ForeignKey}
use Rattle.schema_model.specs.declared.schemas.IndexDef.{IndexDef}
use Rattle.schema_model.specs.declared.schemas.Schema.{Schema}
use Rattle.sql_ast.specs.declared.tables.CreateTable.{CreateTable}
use Rattle.sql_rules.specs.Constraints.{made_names, unnamed}
use Rattle.sql_rules.specs.Tables.{column_name, element_outside, elements_outside, given_name, has_one_key, keys_in, repeats_given}
use Rattle.sql_rules.specs.declared.constraints.Sort.TheVariants as sort
use Rattle.sql_ast.specs.declared.statements.Statement.TheVariants as statement
use Rattle.sql_ast.specs.declared.statements.Write.TheVariants as write
use Rattle.sql_rules.specs.Defaults.{has_outside_default}
use Rattle.sql_rules.specs.Names.{is_long_worded, is_system_name}
use Rattle.sql_rules.specs.Outside.{makes_some_long, statement_outside}
use Rattle.sql_laws.specs.Fit.{IsFit}
use Rattle.sql_laws.proofs.Kept.{creates_kept}
use Rattle.sql_laws.proofs.Readers.{filled_all}
use Rattle.sql_laws.specs.Sound.{is_element, is_filled}
use Rattle.sql_laws.specs.Written as written
use Rattle.expr_eval.specs.Binding.{Outcome, and_then}
use Rattle.plain_writes.specs.Violations.{own_scope}
use Rattle.plain_writes.specs.Writes.{Effect}
use Rattle.plain_schemas.specs.Effects.{changed_to, check_allowed, create_effect, empty_table, foreign_allowed, if_within, is_there, judged, key_lists, with_table}
use Rattle.plain_schemas.specs.Lists.{all_allowed}
use Rattle.plain_schemas.specs.Made.{columns_made, indexes_in, schema_of}
use Rattle.sql_laws.specs.SoundLaws.{IsKeptName}
use Rattle.sql_laws.specs.SoundLaws as kept_laws
use Rattle.plain_writes.specs.WriteLaws.{IsKept}
use Rattle.plain_writes.proofs.RowOrderLemmas.{both_so, two}
use Rattle.plain_writes.proofs.OutcomeLemmas.{ok_same, then_so, unless_so}
use Rattle.keep_laws.proofs.ColumnLemmas.{name_kept}
use Rattle.keep_laws.proofs.CreateColumns.{columns_are_made, goods, key_is}
use Rattle.keep_laws.proofs.CreateNames.{AreNames, check_names, foreign_names, index_names, index_picks, named_length, names_are, names_of, picks, unnamed_few}
use Rattle.keep_laws.proofs.DatabaseParts.{left_if, left_kept, placed_kept}
use Rattle.keep_laws.proofs.NameLists.{named}
use Rattle.keep_laws.proofs.SchemaParts.{few_so, limits_so, schema_from}
use Rattle.keep_laws.proofs.Creating.{few_elements, all_placed, indexes_are, utf8_texts, checks_are, foreign_are}

-- ---- the schema

check_part : (a b c d e : List ℕ) → length d ≤ length (a ++ (b ++ (c ++ (d ++ e))))
check_part a b c d e =
    let p1 : length (a ++ (b ++ (c ++ (d ++ e)))) ≡ length a + length (b ++ (c ++ (d ++ e))) = length-append a (b ++ (c ++ (d ++ e))) in
    let p2 : length (b ++ (c ++ (d ++ e))) ≡ length b + length (c ++ (d ++ e)) = length-append b (c ++ (d ++ e)) in
    let p3 : length (c ++ (d ++ e)) ≡ length c + length (d ++ e) = length-append c (d ++ e) in
    let p4 : length (d ++ e) ≡ length d + length e = length-append d e in
    omega (arith, p1, p2, p3, p4)

check_bytes_few : (schema : Schema) → length (schema_bytes schema) ≤ 32768 → length (flat_map check_bytes schema.checks) ≤ 32768
check_bytes_few schema h =
    let part = check_part (listed column_bytes schema.columns) (short schema.key) (listed index_bytes schema.indexes) (listed check_bytes schema.checks) (listed foreign_bytes schema.foreign) in
    omega (arith, part, h)

first_names : (foreign : List ForeignKey) → list_all has_short_names foreign ≡ true → list_all (λ (one : ForeignKey). is_short_name one.name) foreign ≡ true
first_names [] h = refl
first_names (one ∷ foreign) h =
    let parts = and_parts (has_short_names one) (list_all has_short_names foreign) h in
    let p2 = and_parts (is_short_name one.name && is_short_name one.parent) (list_all is_short_name one.parent_columns) parts.0 in
    both_so (and_parts (is_short_name one.name) (is_short_name one.parent) p2.0).0 (first_names foreign parts.1)

-- the names of a sort, where the items have these and keep the limit
same_names : {A : Type 0} (name : A → List ℕ) (xs : List A) (names : List (List ℕ)) → map name xs ≡ names → (list_all is_short_name names ≡ true → AreNames names) → list_all (λ x. is_short_name (name x)) xs ≡ true
    → AreNames (map name xs)
same_names name xs names same are short = subst AreNames (sym same) (are (ap (list_all is_short_name) (sym same) ∙ list_all-map is_short_name name xs ∙ short))

record IsInside (create : CreateTable) : Type 0 where
  table : IsKeptName create.table
  kept : AllByRecursion kept_laws.IsKeptElement create.elements
  sound : list_all is_element create.elements ≡ true
  inside : elements_outside create.elements ≡ false

created_schema : (database : PlainDatabase) (create : CreateTable) (columns : List Column) (done : Unit {0}) → IsInside create → columns_made create.elements ≡ Ok columns
    → all_allowed (foreign_allowed database create.table columns (key_lists (schema_of create columns))) create.elements ≡ Ok done → is_within_limits (schema_of create columns) ≡ true
    → is_schema (schema_of create columns) ≡ true
created_schema database create columns done is e allowed within =
    let all = create.elements in
    let schema = schema_of create columns in
    let p4 = or_parts (not (has_one_key all) || repeats_given column_name all || repeats_given given_name all) (list_any (element_outside all) all) is.inside in
    let p3 = or_parts (not (has_one_key all) || repeats_given column_name all) (repeats_given given_name all) p4.0 in
    let p2 = or_parts (not (has_one_key all)) (repeats_given column_name all) p3.0 in
    let one_key : sum_by keys_in all ≡ 1 = eqb-true (sum_by keys_in all) 1 (not-false _ p2.0) in
    let good = goods all all (λ test h. h) p4.1 is.sound is.kept in
    let made = columns_are_made all all columns good e in
    let limits = limits_so schema within in
    let few = limits.columns in
    let key = key_is all columns made all few good one_key in
    let parts = flat_map indexes_in all in
    let own_indexes = made_names create.table all sort.Unique in
    let own_checks = made_names create.table all sort.Check in
    let own_foreign = made_names create.table all sort.ForeignKey in
    let of_indexes : map (λ (index : IndexDef). index.name) schema.indexes ≡ names_of create.table all sort.Unique = index_names columns own_indexes parts ∙ ap (named own_indexes) (index_picks all) in
    let of_checks : map (λ (check : CheckDef). check.name) schema.checks ≡ names_of create.table all sort.Check = check_names own_checks all in
    let of_foreign : map (λ (one : ForeignKey). one.name) schema.foreign ≡ names_of create.table all sort.ForeignKey = foreign_names columns own_foreign all in
    let index_count : length (picks sort.Unique all) ≡ length schema.indexes =
    sym (sym (length-map schema.indexes (λ (index : IndexDef). index.name)) ∙ ap length of_indexes ∙ named_length own_indexes (picks sort.Unique all)) in
    let check_count : length (picks sort.Check all) ≡ length schema.checks =
    sym (sym (length-map schema.checks (λ (check : CheckDef). check.name)) ∙ ap length of_checks ∙ named_length own_checks (picks sort.Check all)) in
    let foreign_count : length (picks sort.ForeignKey all) ≡ length schema.foreign =
    sym (sym (length-map schema.foreign (λ (one : ForeignKey). one.name)) ∙ ap length of_foreign ∙ named_length own_foreign (picks sort.ForeignKey all)) in
    let count = few_elements all all columns e in
    let most : length all ≤ 257 = bounded (length all) (length columns) (sum_by keys_in all) (length (picks sort.Unique all)) (length (picks sort.Check all)) (length (picks sort.ForeignKey all))
    (length schema.indexes) (length schema.checks) (length schema.foreign) count few one_key index_count check_count foreign_count limits.indexes limits.checks limits.foreign in
    let text = is.table in
    let index_names_are = same_names (λ (index : IndexDef). index.name) schema.indexes (names_of create.table all sort.Unique) of_indexes
    (names_are create.table all sort.Unique text.0 (low (unnamed sort.Unique all) (length (picks sort.Unique all)) (length schema.indexes) (length all) (unnamed_few sort.Unique all) index_count limits.indexes most) p3.1 good) limits.index_names in
    let check_names_are = same_names (λ (check : CheckDef). check.name) schema.checks (names_of create.table all sort.Check) of_checks
    (names_are create.table all sort.Check text.0 (low (unnamed sort.Check all) (length (picks sort.Check all)) (length schema.checks) (length all) (unnamed_few sort.Check all) check_count limits.checks most) p3.1 good) limits.check_names in
    let foreign_names_are = same_names (λ (one : ForeignKey). one.name) schema.foreign (names_of create.table all sort.ForeignKey) of_foreign
    (names_are create.table all sort.ForeignKey text.0 (low (unnamed sort.ForeignKey all) (length (picks sort.ForeignKey all)) (length schema.foreign) (length all) (unnamed_few sort.ForeignKey all) foreign_count limits.foreign most) p3.1 good)
    (first_names schema.foreign limits.foreign_names) in
    schema_from schema (record {
      few = few_so columns few;
      columns = made.columns_are;
      apart = made.apart p2.1;
      key = key.0;
      filled = key.1;
      indexes = indexes_are all columns made few own_indexes parts (all_placed all columns made few all good) index_names_are limits.indexes;
      checks = checks_are schema.checks check_names_are limits.checks (check_bytes_few schema limits.bytes) (utf8_texts all own_checks all good);
      foreign = foreign_are all columns made few database create.table (key_lists schema) own_foreign all done good allowed foreign_names_are limits.foreign;
    })
  where
    bounded : (n c k u h f i j l : ℕ) → n ≤ c + (k + (u + (h + f))) → c ≤ 64 → k ≡ 1 → u ≡ i → h ≡ j → f ≡ l → i ≤ 64 → j ≤ 64 → l ≤ 64 → n ≤ 257
    bounded n c k u h f i j l p q r s t v a b d = omega (arith, p, q, r, s, t, v, a, b, d)

    low : (u p i n : ℕ) → u ≤ p → p ≡ i → i ≤ 64 → n ≤ 257 → u + n < 2 ^ 32
    low u p i n a b c d = omega (arith, a, b, c, d)

-- ---- the whole

fit_inside : (create : CreateTable) → IsFit (write.Create create) → IsInside create
fit_inside create fit =
    let s = statement.Write (write.Create create) in
    let es = create.elements in
    let kept = creates_kept create fit.inside fit.sound in
    let p4 = or_parts (is_long_worded s) (statement_outside s) fit.inside in
    let p3 = or_parts (is_system_name create.table || elements_outside es || list_any (has_outside_default es) es) (makes_some_long create.table es) p4.1 in
    let p2 = or_parts (is_system_name create.table || elements_outside es) (list_any (has_outside_default es) es) p3.0 in
    let p1 = or_parts (is_system_name create.table) (elements_outside es) p2.0 in
    record {
      table = kept.0;
      kept = kept.1;
      sound = filled_all is_element es (and_parts (written.is_name create.table) (is_filled is_element es) fit.sound).1;
      inside = p1.1;
    }

-- a new table
judged_kept : (database : PlainDatabase) (create : CreateTable) (columns : List Column) (effect : Effect) → IsInside create → is_there database create.table ≡ false → IsKept database
    → columns_made create.elements ≡ Ok columns → judged database create (schema_of create columns) ≡ Ok effect → IsKept effect.database
judged_kept database create columns effect is absent kept made e =
    let schema = schema_of create columns in
    let checked = then_so (all_allowed (check_allowed (own_scope create.table schema)) create.elements) (λ checked.
    and_then (all_allowed (foreign_allowed database create.table schema.columns (key_lists schema)) create.elements) (λ referred. if_within database create.table schema)) effect e in
    let referred = then_so (all_allowed (foreign_allowed database create.table schema.columns (key_lists schema)) create.elements) (λ referred. if_within database create.table schema) effect checked.2 in
    let whole : Outcome Effect = Ok (changed_to (with_table database create.table schema)) in
    let limits = unless_so (not (is_within_limits schema) || leb most_tables (length database)) 9010 whole effect referred.2 in
    let parts = or_parts (not (is_within_limits schema)) (leb most_tables (length database)) limits.0 in
    let within = not-false (is_within_limits schema) parts.0 in
    let name = is.table in
    let new : NamedTable = record { name = create.table; table = empty_table schema } in
    subst (λ (made : Effect). IsKept made.database) (ok_same whole (changed_to (with_table database create.table schema)) effect refl limits.1)
    (placed_kept new database
    (record {
      schema = created_schema database create columns referred.0 is made referred.1 within;
      rows = refl;
      keys = refl;
      conflicts = refl;
      conflict_keys = refl;
      violations = refl;
      violation_keys = refl;
    })
    (name_kept create.table name)
    (both_so (both_so (le-leb 1 (length create.table) name.1) (le-leb (length create.table) 64 name.2)) (both_so (both_so (both_so (both_so within refl) refl) refl) refl))
    absent parts.1 kept)

pub creates_keep : (database : PlainDatabase) (create : CreateTable) (effect : Effect) → IsKept database → IsFit (write.Create create) → create_effect database create ≡ Ok effect → IsKept effect.database
creates_keep database create effect kept fit e =
    let there = left_if 1050 database create.if_not_exists in
    let new : Outcome Effect = and_then (columns_made create.elements) (λ columns. judged database create (schema_of create columns)) in
    two (is_there database create.table)
    (λ t. left_kept 1050 database create.if_not_exists effect kept (sym (ap (λ b. cond b there new) t) ∙ e))
    (λ t. let columns = then_so (columns_made create.elements) (λ columns. judged database create (schema_of create columns)) effect (sym (ap (λ b. cond b there new) t) ∙ e) in
    judged_kept database create columns.0 effect (fit_inside create fit) t kept columns.1 columns.2)
