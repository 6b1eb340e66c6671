-- What a merged database's tables are called, and how many conflicts they have.
use Rattle.std.proofs.Common.{◌≡◌, ◌≤◌, ◌<◌, ◌+◌, refl, sym, ap, ◌∙◌, subst, ℕ, true, false, Bool, cond, ◌&&◌, nat_le, List, [], ◌∷◌, ◌++◌, length, map, Option, Some, None, Result, Ok, Err, suc, arith, nat_cmp, is_lt}
use Rattle.std.specs.Option.{option_map, option_map_or}
use Rattle.std.specs.Ordering.{match_ordering}
use Rattle.std.specs.Cmp.Lexicographic.{slice_cmp}
use Rattle.std.specs.declared.cmp.Ordering.{Ordering}
use Rattle.std.specs.declared.cmp.Ordering.TheVariants.{Less, Equal, Greater}
use Rattle.std.specs.List.{list_all}
use Rattle.std.proofs.lemmas.Bool.{and_parts, and_from, le-leb, leb-true}
use Rattle.std.proofs.lemmas.List.{length-map}
use Rattle.tuple_codec.proofs.Orderings.{less_is}
use Rattle.tuple_codec.specs.Edits.{order}
use Rattle.tuple_codec.specs.Nodes.{is_after}
use Rattle.tuple_codec.specs.Rows.{key_cmp}
use Rattle.schema_model.specs.Limits.{is_database_within_limits, is_named_within_limits, is_row_within_limits, is_short_name, is_table_within_limits, is_within_limits, is_conflict_within_limits, is_violation_within_limits, most_rows, most_tables}
use Rattle.schema_model.specs.PlainTables as plain
use Rattle.schema_model.specs.PlainTables.{IsDatabase, PlainDatabase, PlainTable, Violation, primary_key, rises}
use Rattle.schema_model.specs.Schemas.{is_name}
use Rattle.schema_model.specs.declared.schemas.Schema.{Schema}
use Rattle.schema_model.proofs.SizeLemmas.{short_names}
use Rattle.schema_merge.specs.Merging.{and_then, schema3}
use Rattle.schema_merge.specs.Projecting.{projected}
use Rattle.schema_merge.specs.KeyByKey.{all_keys, before, gathered, key_among, keys_with}
use Rattle.schema_merge.specs.RootMerge.{MergedDatabase, MergedTable, SchemaConflict, names_of, step, with_table}
use Rattle.schema_merge.specs.TableMerge.{Three, conflict_at, keys_of, rows_on, rows_on_or_none, table3, table_of, three_on}
use Rattle.schema_merge.proofs.Keys.{KeysRise, with_rise}
use Rattle.tuple_codec.proofs.Rising.{after_less}
use Rattle.table_merge.specs.Merging.{PlainSides, is_short_merged, keeps_limits, merged_contents}
use Rattle.table_merge.proofs.KeptLemmas.{short_rows as rows_of_all}
use Rattle.root_merge.specs.Merging.{HaveTableNames, are_within}
use Rattle.root_merge.specs.Names.{Wanted, all_wanted, together, wanted_for}
use Rattle.root_merge.proofs.NameLemmas.{all_few}

-- ---- what all names come to

-- one name's table, and what the others come to
pub record AreParts (name : List ℕ) (table : Result MergedTable (List ℕ)) (more : Result MergedDatabase SchemaConflict) (merged : MergedDatabase) : Type 0 where
  pub one : MergedTable
  pub others : MergedDatabase
  pub table_is : table ≡ Ok one
  pub more_is : more ≡ Ok others
  pub merged_is : merged ≡ record { database = with_table name one.table others.database; conflicts = one.conflicts + others.conflicts }

pub step_parts : (name : List ℕ) (table : Result MergedTable (List ℕ)) (more : Result MergedDatabase SchemaConflict) (merged : MergedDatabase) → step name table more ≡ Ok merged
    → AreParts name table more merged
step_parts name (Ok one) (Ok others) merged e = record { one = one; others = others; table_is = refl; more_is = refl; merged_is = cc }
step_parts name (Ok one) (Err conflict) merged e = absurd cc
step_parts name (Err part) more merged e = absurd cc

-- ---- names

abbrev called : Wanted → List ℕ
called wanted = wanted.name

placed_all : (test : List ℕ → Bool) (name : List ℕ) (table : Option PlainTable) (database : PlainDatabase) → test name ≡ true
    → list_all (λ (named : plain.NamedTable). test named.name) database ≡ true → list_all (λ (named : plain.NamedTable). test named.name) (with_table name table database) ≡ true
placed_all test name None database one more = more
placed_all test name (Some table) database one more = and_from _ _ one more

names_all : (test : List ℕ → Bool) (wanted : List Wanted) (merged : MergedDatabase) → together wanted ≡ Ok merged → list_all (λ (w : Wanted). test w.name) wanted ≡ true
    → list_all (λ (named : plain.NamedTable). test named.name) merged.database ≡ true
names_all test [] merged e all = ap (λ (r : Result MergedDatabase SchemaConflict). list_all (λ (named : plain.NamedTable). test named.name) (database_of r)) (sym e) where
  database_of : Result MergedDatabase SchemaConflict → PlainDatabase
  database_of (Ok m) = m.database
  database_of (Err c) = []
names_all test (w ∷ wanted) merged e all =
    let parts = step_parts w.name w.table (together wanted) merged e in
    let both = and_parts (test w.name) (list_all (λ (w : Wanted). test w.name) wanted) all in
    subst (λ (m : MergedDatabase). list_all (λ (named : plain.NamedTable). test named.name) m.database ≡ true) (sym parts.merged_is)
    (placed_all test w.name parts.one.table parts.others.database both.0 (names_all test wanted parts.others parts.more_is both.1))

lower : (low : Option (List ℕ)) (key : List ℕ) (keys : List (List ℕ)) → is_after low key ≡ true → KeysRise (Some key) keys → KeysRise low keys
lower low key [] after rise = tt
lower low key (next ∷ keys) after rise = (after_less low key next after (less_is (order key next) rise.0), rise.1)

placed_rise : (low : Option (List ℕ)) (name : List ℕ) (table : Option PlainTable) (database : PlainDatabase) → is_after low name ≡ true → KeysRise (Some name) (names_of database)
    → KeysRise low (names_of (with_table name table database))
placed_rise low name None database after rise = lower low name (names_of database) after rise
placed_rise low name (Some table) database after rise = (after, rise)

names_rise : (wanted : List Wanted) (merged : MergedDatabase) (low : Option (List ℕ)) → together wanted ≡ Ok merged → KeysRise low (map called wanted) → KeysRise low (names_of merged.database)
names_rise [] merged low e rise = subst (λ (m : MergedDatabase). KeysRise low (names_of m.database)) (empty_is merged e) tt where
  empty_is : (merged : MergedDatabase) → ◌≡◌ {A = Result MergedDatabase SchemaConflict} (Ok (record { database = []; conflicts = 0 })) (Ok merged) → record { database = []; conflicts = 0 } ≡ merged
  empty_is merged e = cc
names_rise (w ∷ wanted) merged low e rise =
    let parts = step_parts w.name w.table (together wanted) merged e in
    subst (λ (m : MergedDatabase). KeysRise low (names_of m.database)) (sym parts.merged_is)
    (placed_rise low w.name parts.one.table parts.others.database rise.0 (names_rise wanted parts.others (Some w.name) parts.more_is rise.1))

-- ---- a database's own names

after_first : (next : List plain.NamedTable) (first : plain.NamedTable) → rises (λ (a b : plain.NamedTable). slice_cmp nat_cmp a.name b.name) (first ∷ next) ≡ true → KeysRise (Some first.name) (names_of next)
after_first [] first e = tt
after_first (second ∷ more) first e =
    let both = and_parts (is_lt (slice_cmp nat_cmp first.name second.name)) (rises (λ (a b : plain.NamedTable). slice_cmp nat_cmp a.name b.name) (second ∷ more)) e in
    (both.0, after_first more second both.1)

own_rise : (database : PlainDatabase) → rises (λ (a b : plain.NamedTable). slice_cmp nat_cmp a.name b.name) database ≡ true → KeysRise None (names_of database)
own_rise [] e = tt
own_rise (first ∷ more) e = (refl, after_first more first e)

rises_after : (database : PlainDatabase) (low : Option (List ℕ)) → KeysRise low (names_of database) → rises (λ (a b : plain.NamedTable). slice_cmp nat_cmp a.name b.name) database ≡ true
rises_after [] low rise = refl
rises_after (first ∷ []) low rise = refl
rises_after (first ∷ second ∷ more) low rise = and_from _ _ rise.1.0 (rises_after (second ∷ more) (Some first.name) rise.1)

own_all : (test : List ℕ → Bool) (database : PlainDatabase) → list_all (λ (named : plain.NamedTable). test named.name) database ≡ true → list_all test (names_of database) ≡ true
own_all test [] all = refl
own_all test (named ∷ database) all =
    let both = and_parts (test named.name) (list_all (λ (n : plain.NamedTable). test n.name) database) all in
    and_from (test named.name) (list_all test (names_of database)) both.0 (own_all test database both.1)

among_all : (test : List ℕ → Bool) (key : List ℕ) (rest : List (List ℕ) → List (List ℕ)) → test key ≡ true
    → ((others : List (List ℕ)) → list_all test others ≡ true → list_all test (rest others) ≡ true) → (others : List (List ℕ)) → list_all test others ≡ true
    → list_all test (key_among order key rest others) ≡ true
among_all test key rest one go [] all = and_from _ _ one (go [] refl)
among_all test key rest one go (other ∷ others) all =
    let both = and_parts (test other) (list_all test others) all in
    by (order other key) both.0 (among_all test key rest one go others both.1) (go others both.1) (go (other ∷ others) all) where
      by : (o : Ordering) → test other ≡ true → list_all test (key_among order key rest others) ≡ true → list_all test (rest others) ≡ true → list_all test (rest (other ∷ others)) ≡ true
          → list_all test (match_ordering o (other ∷ key_among order key rest others) (key ∷ rest others) (key ∷ rest (other ∷ others))) ≡ true
      by Less t a b c = and_from _ _ t a
      by Equal t a b c = and_from _ _ one b
      by Greater t a b c = and_from _ _ one c

with_all : (test : List ℕ → Bool) (keys others : List (List ℕ)) → list_all test keys ≡ true → list_all test others ≡ true → list_all test (keys_with order keys others) ≡ true
with_all test [] others one two = two
with_all test (key ∷ keys) others one two =
    let both = and_parts (test key) (list_all test keys) one in
    among_all test key (keys_with order keys) both.0 (λ more all. with_all test keys more both.1 all) others two

wanted_names : (b o t : PlainDatabase) (names : List (List ℕ)) → map called (map (wanted_for b o t) names) ≡ names
wanted_names b o t [] = refl
wanted_names b o t (name ∷ names) = ap (λ more. name ∷ more) (wanted_names b o t names)

wanted_all : (test : List ℕ → Bool) (b o t : PlainDatabase) (names : List (List ℕ)) → list_all test names ≡ true → list_all (λ (w : Wanted). test w.name) (map (wanted_for b o t) names) ≡ true
wanted_all test b o t [] all = refl
wanted_all test b o t (name ∷ names) all =
    let both = and_parts (test name) (list_all test names) all in
    and_from (test name) (list_all (λ (w : Wanted). test w.name) (map (wanted_for b o t) names)) both.0 (wanted_all test b o t names both.1)

named_by : (test : List ℕ → Bool) (b o t : PlainDatabase) (merged : MergedDatabase)
    → list_all (λ (named : plain.NamedTable). test named.name) b ≡ true → list_all (λ (named : plain.NamedTable). test named.name) o ≡ true
    → list_all (λ (named : plain.NamedTable). test named.name) t ≡ true → together (all_wanted b o t) ≡ Ok merged
    → list_all (λ (named : plain.NamedTable). test named.name) merged.database ≡ true
named_by test b o t merged nb nn nt e =
    let names = all_keys order (names_of b) (names_of o) (names_of t) in
    names_all test (all_wanted b o t) merged e
    (wanted_all test b o t names (with_all test (names_of b) (keys_with order (names_of o) (names_of t)) (own_all test b nb) (with_all test (names_of o) (names_of t) (own_all test o nn) (own_all test t nt))))

pub merged_named : (b o t : PlainDatabase) (merged : MergedDatabase) → IsDatabase b → IsDatabase o → IsDatabase t
    → list_all is_named_within_limits b ≡ true → list_all is_named_within_limits o ≡ true → list_all is_named_within_limits t ≡ true
    → together (all_wanted b o t) ≡ Ok merged → HaveTableNames merged.database
merged_named b o t merged ib io it wb wo wt e =
    let keys = all_keys order (names_of b) (names_of o) (names_of t) in
    let rise : KeysRise None keys = with_rise (names_of b) None (keys_with order (names_of o) (names_of t)) (own_rise b ib.rise) (with_rise (names_of o) None (names_of t) (own_rise o io.rise) (own_rise t it.rise)) in
    record {
      names = named_by is_name b o t merged ib.names io.names it.names e;
      short = named_by is_short_name b o t merged (short_names b wb) (short_names o wo) (short_names t wt) e;
      rise = rises_after merged.database None (names_rise (all_wanted b o t) merged None e (subst (λ (names : List (List ℕ)). KeysRise None names) (sym (wanted_names b o t keys)) rise));
    }

-- ---- limits

named_within : (database : PlainDatabase) → list_all (λ (named : plain.NamedTable). is_short_name named.name) database ≡ true → are_within database ≡ true → list_all is_named_within_limits database ≡ true
named_within [] short within = refl
named_within (named ∷ database) short within =
    let one = and_parts (is_short_name named.name) (list_all (λ (n : plain.NamedTable). is_short_name n.name) database) short in
    let two = and_parts (is_table_within_limits named.table) (are_within database) within in
    and_from (is_named_within_limits named) (list_all is_named_within_limits database) (and_from (is_short_name named.name) (is_table_within_limits named.table) one.0 two.0) (named_within database one.1 two.1)

pub within_named : (database : PlainDatabase) → list_all is_named_within_limits database ≡ true → are_within database ≡ true
within_named [] within = refl
within_named (named ∷ database) within =
    let both = and_parts (is_named_within_limits named) (list_all is_named_within_limits database) within in
    and_from (is_table_within_limits named.table) (are_within database) (and_parts (is_short_name named.name) (is_table_within_limits named.table) both.0).1 (within_named database both.1)

-- what would follow if it were true is false
not_so : (a b : Bool) → (a ≡ true → b ≡ true) → b ≡ false → a ≡ false
not_so true b so fails = absurd (clash b (so refl) fails) where
  clash : (b : Bool) → b ≡ true → b ≡ false → ⊥
  clash b holds fails = cc
not_so false b so fails = refl

pub database_passes : (database : PlainDatabase) → are_within database ≡ false → is_database_within_limits database ≡ false
database_passes database fails =
    not_so (is_database_within_limits database) (are_within database) (λ holds. within_named database (and_parts (nat_le (length database) most_tables) (list_all is_named_within_limits database) holds).1) fails

pub database_within : (database : PlainDatabase) → length database ≤ 256 → HaveTableNames database → are_within database ≡ true → is_database_within_limits database ≡ true
database_within database few named within =
    and_from (nat_le (length database) most_tables) (list_all is_named_within_limits database) (le-leb (length database) 256 few) (named_within database named.short within)

pub too_many : (database : PlainDatabase) → 256 < length database → is_database_within_limits database ≡ false
too_many database many = by (is_database_within_limits database) refl where
  by : (b : Bool) → is_database_within_limits database ≡ b → b ≡ false
  by true e = let few = leb-true (length database) most_tables (and_parts (nat_le (length database) most_tables) (list_all is_named_within_limits database) e).0 in absurd (omega (arith, few, many))
  by false e = refl

-- ---- conflicts

before_few : {A : Type 0} (o : Option A) (xs : List A) (n : ℕ) → length xs ≤ n → length (before o xs) ≤ suc n
before_few None xs n few = omega (arith, few)
before_few (Some x) xs n few = omega (arith, few)

gathered_few : {K A : Type 0} (find : K → Option A) (keys : List K) → length (gathered find keys) ≤ length keys
gathered_few find [] = omega arith
gathered_few find (key ∷ keys) = before_few (find key) (gathered find keys) (length keys) (gathered_few find keys)

keys_few : (schema : Schema) (three : Three) → length (keys_of schema three) ≤ length three.base + (length three.ours + length three.theirs)
keys_few schema three =
    let all = all_few key_cmp (map (primary_key schema) three.base) (map (primary_key schema) three.ours) (map (primary_key schema) three.theirs) in
    let b = length-map three.base (primary_key schema) in
    let o = length-map three.ours (primary_key schema) in
    let t = length-map three.theirs (primary_key schema) in
    omega (arith, all, b, o, t)

conflicts_few : (schema : Schema) (three : Three) → length (table_of schema three).conflicts ≤ length three.base + (length three.ours + length three.theirs)
conflicts_few schema three =
    let one = gathered_few (conflict_at schema three) (keys_of schema three) in
    let two = keys_few schema three in
    omega (arith, one, two)

abbrev pub rows_in : Option PlainTable → ℕ
rows_in None = 0
rows_in (Some table) = length table.rows

base_few : (schema : Schema) (base : Option PlainTable) → length (rows_on_or_none schema base) ≤ rows_in base
base_few schema None = omega arith
base_few schema (Some table) = let count = length-map table.rows (projected table.schema schema) in omega (arith, count)

sides_few : (schema : Schema) (base : Option PlainTable) (ours theirs : PlainTable)
    → length (table_of schema (three_on schema base ours theirs)).conflicts ≤ rows_in base + (length ours.rows + length theirs.rows)
sides_few schema base ours theirs =
    let all = conflicts_few schema (three_on schema base ours theirs) in
    let b = base_few schema base in
    let o = length-map ours.rows (projected ours.schema schema) in
    let t = length-map theirs.rows (projected theirs.schema schema) in
    omega (arith, all, b, o, t)

-- what holds of a merged table whatever its schema
abbrev pub IsNew : PlainSides → PlainTable → Type 0
IsNew contents table = (length table.conflicts ≤ rows_in contents.base + (length contents.ours.rows + length contents.theirs.rows)) × (table.violations ≡ [])

pub merged_new : (contents : PlainSides) (table : PlainTable) → merged_contents contents ≡ Ok table → IsNew contents table
unfolding table3
merged_new contents table e = by (schema3 (option_map (λ (t : PlainTable). t.schema) contents.base) contents.ours.schema contents.theirs.schema) e where
  by : (schema : Result Schema (List ℕ)) → and_then schema (λ s. Ok (table_of s (three_on s contents.base contents.ours contents.theirs))) ≡ Ok table → IsNew contents table
  by (Ok s) same =
      let is : table_of s (three_on s contents.base contents.ours contents.theirs) ≡ table = cc in
      subst (λ (t : PlainTable). IsNew contents t) is (sides_few s contents.base contents.ours contents.theirs, refl)
  by (Err part) same = absurd cc

-- ---- a merged table's limits

-- the limits of a table, one by one
abbrev one_limit : PlainTable → Bool
one_limit table = is_within_limits table.schema && nat_le (length table.rows) most_rows

abbrev row_limits : PlainTable → Bool
row_limits table = list_all (is_row_within_limits table.schema) table.rows

abbrev conflict_limits : PlainTable → Bool
conflict_limits table = list_all (is_conflict_within_limits table.schema) table.conflicts

abbrev violation_limits : PlainTable → Bool
violation_limits table = list_all (is_violation_within_limits table.schema) table.violations

table_parts : (table : PlainTable) → is_table_within_limits table ≡ true
    → (one_limit table ≡ true) × (row_limits table ≡ true) × (conflict_limits table ≡ true) × (violation_limits table ≡ true)
table_parts table within =
    let a = and_parts (one_limit table && row_limits table && conflict_limits table) (violation_limits table) within in
    let b = and_parts (one_limit table && row_limits table) (conflict_limits table) a.0 in
    let c = and_parts (one_limit table) (row_limits table) b.0 in
    (c.0, c.1, b.1, a.1)

keeps_table : (table : PlainTable) → is_table_within_limits table ≡ true → keeps_limits table ≡ true
keeps_table table within =
    let parts = table_parts table within in
    and_from (one_limit table && list_all (is_short_merged table.schema) table.rows) (conflict_limits table)
    (and_from (one_limit table) (list_all (is_short_merged table.schema) table.rows) parts.0 (rows_of_all table.schema table.rows parts.1)) parts.2

pub table_passes : (table : PlainTable) → keeps_limits table ≡ false → is_table_within_limits table ≡ false
table_passes table fails = not_so (is_table_within_limits table) (keeps_limits table) (keeps_table table) fails

pub rows_pass : (table : PlainTable) → list_all (is_row_within_limits table.schema) table.rows ≡ false → is_table_within_limits table ≡ false
rows_pass table fails = not_so (is_table_within_limits table) (row_limits table) (λ holds. (table_parts table holds).1) fails

pub table_within : (table : PlainTable) → keeps_limits table ≡ true → list_all (is_row_within_limits table.schema) table.rows ≡ true → table.violations ≡ [] → is_table_within_limits table ≡ true
table_within table keeps rows none =
    let a = and_parts (one_limit table && list_all (is_short_merged table.schema) table.rows) (conflict_limits table) keeps in
    let b = and_parts (one_limit table) (list_all (is_short_merged table.schema) table.rows) a.0 in
    and_from (one_limit table && row_limits table && conflict_limits table) (violation_limits table)
    (and_from (one_limit table && row_limits table) (conflict_limits table) (and_from (one_limit table) (row_limits table) b.0 rows) a.1)
    (ap (λ (vs : List Violation). list_all (is_violation_within_limits table.schema) vs) none)

pub few_rows : (table : PlainTable) → is_table_within_limits table ≡ true → length table.rows ≤ 10000000
few_rows table within = leb-true (length table.rows) most_rows (and_parts (is_within_limits table.schema) (nat_le (length table.rows) most_rows) (table_parts table within).0).1

pub row_limits_of : (table : PlainTable) → is_table_within_limits table ≡ true → list_all (is_row_within_limits table.schema) table.rows ≡ true
row_limits_of table within = (table_parts table within).1
