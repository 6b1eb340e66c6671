-- What databases merge to is a database, of tables of the sides' names.
use Rattle.std.proofs.Common.{◌≡◌, refl, ap, ℕ, Bool, true, false, cond, nat_cmp, is_lt, List, [], ◌∷◌, Option, None, Some, Result, Ok, Err, bytes_eq}
use Rattle.std.specs.Cmp.Lexicographic.{slice_cmp}
use Rattle.std.specs.List.{list_all, AllByRecursion}
use Rattle.std.specs.Ordering.{match_ordering}
use Rattle.std.specs.declared.cmp.Ordering.{Ordering}
use Rattle.std.specs.declared.cmp.Ordering.TheVariants.{Less, Equal, Greater}
use Rattle.std.proofs.lemmas.Bool.{and_parts}
use Rattle.std.proofs.lemmas.Cmp.{nat_list_cmp_total}
use Rattle.tuple_codec.proofs.Orderings.{less_is as less_so}
use Rattle.tuple_codec.specs.RowRule.{same_option, three_way}
use Rattle.schema_model.specs.PlainTables.{IsDatabase, IsTable, NamedTable, PlainDatabase, PlainTable, rises}
use Rattle.schema_model.specs.Sameness.{is_same_table}
use Rattle.schema_model.specs.Schemas.{is_name}
use Rattle.schema_merge.specs.KeyByKey.{all_keys, key_among, keys_with}
use Rattle.schema_merge.specs.RootMerge.{MergedDatabase, MergedTable, SchemaConflict, by_rows, either_table, merged, names_of, or_by_rows, over_names, root3, step, table_in, unmerged, with_table}
use Rattle.schema_merge.specs.TableMerge.{table3}
use Rattle.schema_merge.proofs.Keys.{KeysRise, with_rise}
use Rattle.table_merge.specs.Laws.{IsTablePerhaps, MergesAreTables}
use Rattle.plain_writes.specs.WriteLaws.{IsKept}
use Rattle.plain_writes.proofs.DatabaseLemmas.{IsKeptTable, limits_so}
use Rattle.plain_writes.proofs.RowOrderLemmas.{both_so, two}
use Rattle.keep_laws.proofs.KeptLemmas.{IsKeptNamed, are_kept, by_name}
use Rattle.keep_laws.proofs.TestLemmas.{ok_has, some_ok}

abbrev pub IsKeptPerhaps : Option PlainTable → Type 0
IsKeptPerhaps None = Unit {0}
IsKeptPerhaps (Some table) = IsKeptTable table

-- ---- the table of a name

found_kept : (name : List ℕ) (database : PlainDatabase) → AllByRecursion IsKeptNamed database → IsKeptPerhaps (table_in name database)
found_kept name [] h = tt
found_kept name (named ∷ database) h =
    let here = h.0 in
    let more = found_kept name database h.1 in
    elim (bytes_eq named.name name) as (λ b. IsKeptPerhaps (cond b (Some named.table) (table_in name database))) [
      | true ↦ here.table
      | false ↦ more
    ]

table_perhaps : (table : Option PlainTable) → IsKeptPerhaps table → IsTablePerhaps table
table_perhaps None h = tt
table_perhaps (Some table) h = h.is_table

-- ---- one table

rows_are : MergesAreTables → (base : Option PlainTable) (ours theirs : PlainTable) → IsKeptPerhaps base → IsKeptTable ours → IsKeptTable theirs
    → (r : Result PlainTable (List ℕ)) → table3 base ours theirs ≡ r → (one : MergedTable) → merged r ≡ Ok one → IsTablePerhaps one.table
rows_are law base ours theirs b o t (Ok table) at one e =
    ok_has (λ (m : MergedTable). IsTablePerhaps m.table) (record { table = Some table; conflicts = _ }) one
    (law base ours theirs table (table_perhaps base b) o.is_table t.is_table (limits_so ours o.within).0 (limits_so theirs t.within).0 at) e
rows_are law base ours theirs b o t (Err part) at one e = cc

by_rows_are : MergesAreTables → (base ours theirs : Option PlainTable) → IsKeptPerhaps base → IsKeptPerhaps ours → IsKeptPerhaps theirs → (one : MergedTable)
    → by_rows base ours theirs ≡ Ok one → IsTablePerhaps one.table
by_rows_are law base (Some ours) (Some theirs) b o t one e = rows_are law base ours theirs b o t (table3 base ours theirs) refl one e
by_rows_are law base None (Some theirs) b o t one e = cc
by_rows_are law base (Some ours) None b o t one e = cc
by_rows_are law base None None b o t one e = cc

or_by_rows_are : MergesAreTables → (base ours theirs : Option PlainTable) → IsKeptPerhaps base → IsKeptPerhaps ours → IsKeptPerhaps theirs → (whole : Option (Option PlainTable))
    → ((table : Option PlainTable) → whole ≡ Some table → IsTablePerhaps table) → (one : MergedTable) → or_by_rows whole base ours theirs ≡ Ok one → IsTablePerhaps one.table
or_by_rows_are law base ours theirs b o t (Some table) w one e = ok_has (λ (m : MergedTable). IsTablePerhaps m.table) (unmerged table) one (w table refl) e
or_by_rows_are law base ours theirs b o t None w one e = by_rows_are law base ours theirs b o t one e

-- what three have a property of, and one is chosen
chosen_has : {A : Type 0} (P : A → Type 0) (same : A → A → Bool) (base ours theirs : A) → P ours → P theirs → (one : A) → three_way same base ours theirs ≡ Some one → P one
chosen_has P same base ours theirs o t one = by (same theirs base) (same ours base) (same ours theirs) where
  by : (x y z : Bool) → cond x (Some ours) (cond y (Some theirs) (cond z (Some ours) None)) ≡ Some one → P one
  by true y z e = some_ok P ours one o e
  by false true z e = some_ok P theirs one t e
  by false false true e = some_ok P ours one o e
  by false false false e = cc

either_is : MergesAreTables → (base ours theirs : Option PlainTable) → IsKeptPerhaps base → IsKeptPerhaps ours → IsKeptPerhaps theirs → (one : MergedTable)
    → either_table base ours theirs ≡ Ok one → IsTablePerhaps one.table
either_is law base ours theirs b o t one e =
    or_by_rows_are law base ours theirs b o t (three_way (same_option is_same_table) base ours theirs)
    (chosen_has IsTablePerhaps (same_option is_same_table) base ours theirs (table_perhaps ours o) (table_perhaps theirs t)) one e

-- ---- over names that rise

-- names that are such, rising strictly, also from the one before them
abbrev pub is_past : Option (List ℕ) → List ℕ → Bool
is_past None name = true
is_past (Some low) name = is_lt (slice_cmp nat_cmp low name)

abbrev NamesRise : Option (List ℕ) → List (List ℕ) → Type 0
NamesRise low [] = Unit {0}
NamesRise low (name ∷ names) = (is_past low name ≡ true) × NamesRise (Some name) names

abbrev pub TablesRise : Option (List ℕ) → PlainDatabase → Type 0
TablesRise low [] = Unit {0}
TablesRise low (named ∷ database) = (is_past low named.name ≡ true) × TablesRise (Some named.name) database

past_through : (low : Option (List ℕ)) (a b : List ℕ) → is_past low a ≡ true → is_past (Some a) b ≡ true → is_past low b ≡ true
past_through None a b p q = refl
past_through (Some low) a b p q = let total = nat_list_cmp_total in ap is_lt (total.trans low a b (less_so _ p) (less_so _ q))

pub tables_lower : (low : Option (List ℕ)) (name : List ℕ) (database : PlainDatabase) → is_past low name ≡ true → TablesRise (Some name) database → TablesRise low database
tables_lower low name [] p r = tt
tables_lower low name (named ∷ database) p r = (past_through low name named.name p r.0, r.1)

pub rises_of : (low : Option (List ℕ)) (database : PlainDatabase) → TablesRise low database → rises by_name database ≡ true
rises_of low [] r = refl
rises_of low (named ∷ []) r = refl
rises_of low (named ∷ next ∷ database) r = both_so r.1.0 (rises_of (Some named.name) (next ∷ database) r.1)

pub rise_behind : (named : NamedTable) (database : PlainDatabase) → rises by_name (named ∷ database) ≡ true → TablesRise (Some named.name) database
rise_behind named [] h = tt
rise_behind named (next ∷ database) h =
    let parts = and_parts (is_lt (by_name named next)) (rises by_name (next ∷ database)) h in (parts.0, rise_behind next database parts.1)

names_behind : (low : Option (List ℕ)) (database : PlainDatabase) → TablesRise low database → NamesRise low (names_of database)
names_behind low [] r = tt
names_behind low (named ∷ database) r = (r.0, names_behind (Some named.name) database r.1)

names_rise : (database : PlainDatabase) → rises by_name database ≡ true → NamesRise None (names_of database)
names_rise [] h = tt
names_rise (named ∷ database) h = (refl, names_behind (Some named.name) database (rise_behind named database h))

-- ---- names of two lists

among_have : (P : List ℕ → Type 0) (key : List ℕ) (keys : List (List ℕ))
    → ((others : List (List ℕ)) → AllByRecursion P others → AllByRecursion P (keys_with (slice_cmp nat_cmp) keys others))
    → (others : List (List ℕ)) → P key → AllByRecursion P others → AllByRecursion P (key_among (slice_cmp nat_cmp) key (keys_with (slice_cmp nat_cmp) keys) others)
among_have P key keys go [] p q = (p, go [] tt)
among_have P key keys go (other ∷ others) p q = by (slice_cmp nat_cmp other key) (among_have P key keys go others p q.1) where
  by : (o : Ordering) → AllByRecursion P (key_among (slice_cmp nat_cmp) key (keys_with (slice_cmp nat_cmp) keys) others)
      → AllByRecursion P (match_ordering o (other ∷ key_among (slice_cmp nat_cmp) key (keys_with (slice_cmp nat_cmp) keys) others) (key ∷ keys_with (slice_cmp nat_cmp) keys others)
      (key ∷ keys_with (slice_cmp nat_cmp) keys (other ∷ others)))
  by Less more = (q.0, more)
  by Equal more = (p, go others q.1)
  by Greater more = (p, go (other ∷ others) q)

with_have : (P : List ℕ → Type 0) (keys others : List (List ℕ)) → AllByRecursion P keys → AllByRecursion P others → AllByRecursion P (keys_with (slice_cmp nat_cmp) keys others)
with_have P [] others p q = q
with_have P (key ∷ keys) others p q = among_have P key keys (λ others q. with_have P keys others p.1 q) others p.0 q

rise_keys : (low : Option (List ℕ)) (names : List (List ℕ)) → NamesRise low names → KeysRise low names
rise_keys None [] r = tt
rise_keys None (name ∷ names) r = (refl, rise_keys (Some name) names r.1)
rise_keys (Some low) [] r = tt
rise_keys (Some low) (name ∷ names) r = (r.0, rise_keys (Some name) names r.1)

keys_back : (low : Option (List ℕ)) (names : List (List ℕ)) → KeysRise low names → NamesRise low names
keys_back None [] r = tt
keys_back None (name ∷ names) r = (refl, keys_back (Some name) names r.1)
keys_back (Some low) [] r = tt
keys_back (Some low) (name ∷ names) r = (r.0, keys_back (Some name) names r.1)

names_with : (names others : List (List ℕ)) → NamesRise None names → NamesRise None others → NamesRise None (keys_with (slice_cmp nat_cmp) names others)
names_with names others one two = keys_back None _ (with_rise names None others (rise_keys None names one) (rise_keys None others two))

named_all : (database : PlainDatabase) → AllByRecursion IsKeptNamed database → AllByRecursion (λ name. is_name name ≡ true) (names_of database)
named_all [] h = tt
named_all (named ∷ database) h = let here = h.0 in (here.is_name, named_all database h.1)

-- ---- all tables

pub record AreRising (low : Option (List ℕ)) (database : PlainDatabase) : Type 0 where
  pub tables : AllByRecursion (λ named. IsTable named.table) database
  pub names : list_all (λ named. is_name named.name) database ≡ true
  pub rise : TablesRise low database

put_first : (low : Option (List ℕ)) (name : List ℕ) (table : Option PlainTable) (database : PlainDatabase) → is_past low name ≡ true → is_name name ≡ true → IsTablePerhaps table
    → AreRising (Some name) database → AreRising low (with_table name table database)
put_first low name None database p n t are = record { tables = are.tables; names = are.names; rise = tables_lower low name database p are.rise }
put_first low name (Some table) database p n t are = record { tables = (t, are.tables); names = both_so n are.names; rise = (p, are.rise) }

module _ (law : MergesAreTables) (base ours theirs : PlainDatabase) (b : AllByRecursion IsKeptNamed base) (o : AllByRecursion IsKeptNamed ours) (t : AllByRecursion IsKeptNamed theirs) where
  over_names_are : (low : Option (List ℕ)) (names : List (List ℕ)) → NamesRise low names → AllByRecursion (λ name. is_name name ≡ true) names → (whole : MergedDatabase)
      → over_names base ours theirs names ≡ Ok whole → AreRising low whole.database
  over_names_are low [] r n whole e = ok_has (λ (m : MergedDatabase). AreRising low m.database) (record { database = []; conflicts = 0 }) whole (record { tables = tt; names = refl; rise = tt }) e
  over_names_are low (name ∷ names) r n whole e =
      by (either_table (table_in name base) (table_in name ours) (table_in name theirs)) refl (over_names base ours theirs names) refl (λ others rest. over_names_are (Some name) names r.1 n.1 others rest) e where
        by : (one : Result MergedTable (List ℕ)) → either_table (table_in name base) (table_in name ours) (table_in name theirs) ≡ one
            → (others : Result MergedDatabase SchemaConflict) → over_names base ours theirs names ≡ others
            → ((others : MergedDatabase) → over_names base ours theirs names ≡ Ok others → AreRising (Some name) others.database) → step name one others ≡ Ok whole
            → AreRising low whole.database
        by (Ok one) at (Ok others) rest more e =
            ok_has (λ (m : MergedDatabase). AreRising low m.database) (record { database = with_table name one.table others.database; conflicts = _ }) whole
            (put_first low name one.table others.database r.0 n.0
            (either_is law (table_in name base) (table_in name ours) (table_in name theirs) (found_kept name base b) (found_kept name ours o) (found_kept name theirs t) one at)
            (more others rest)) e
        by (Ok one) at (Err conflict) rest more e = cc
        by (Err part) at others rest more e = cc

pub root_is : MergesAreTables → (base ours theirs : PlainDatabase) (whole : MergedDatabase) → IsKept base → IsKept ours → IsKept theirs → root3 base ours theirs ≡ Ok whole
    → IsDatabase whole.database
unfolding root3
root_is law base ours theirs whole b o t e =
    let one = are_kept base b in
    let two = are_kept ours o in
    let three = are_kept theirs t in
    let are = over_names_are law base ours theirs one.tables two.tables three.tables None (all_keys (slice_cmp nat_cmp) (names_of base) (names_of ours) (names_of theirs))
    (names_with (names_of base) (keys_with (slice_cmp nat_cmp) (names_of ours) (names_of theirs)) (names_rise base one.rise)
    (names_with (names_of ours) (names_of theirs) (names_rise ours two.rise) (names_rise theirs three.rise)))
    (with_have (λ name. is_name name ≡ true) (names_of base) (keys_with (slice_cmp nat_cmp) (names_of ours) (names_of theirs)) (named_all base one.tables)
    (with_have (λ name. is_name name ≡ true) (names_of ours) (names_of theirs) (named_all ours two.tables) (named_all theirs three.tables))) whole e in
    record { tables = are.tables; names = are.names; rise = rises_of None whole.database are.rise }
