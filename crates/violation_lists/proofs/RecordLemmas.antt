-- Tables and databases whose lists of violations are put in place of others.
use Rattle.std.proofs.Common.{◌≡◌, ◌<◌, ◌^◌, ◌==◌, refl, sym, ap, ◌∙◌, subst, ℕ, suc, arith, Bool, true, false, cond, ◌&&◌, ◌||◌, nat_le, nat_cmp, List, [], ◌∷◌, ◌++◌, append_assoc, length, map, filter, flat_map, Option, Some, None, true≢false}
use Rattle.std.specs.Cmp.{IsTotalOrder}
use Rattle.std.specs.Cmp.Lexicographic.{bytes_decides, slice_cmp}
use Rattle.std.specs.List.{AllByRecursion, find, list_all, list_any}
use Rattle.std.specs.Option.{option_map, option_map_or}
use Rattle.std.specs.Ordering.{is_lt, ordering_then}
use Rattle.std.specs.declared.cmp.Ordering.{Ordering}
use Rattle.std.specs.declared.cmp.Ordering.TheVariants.{Less, Equal, Greater}
use Rattle.std.proofs.lemmas.Bool.{and_from, and_parts, leb-true}
use Rattle.std.proofs.lemmas.Bool.Decides.{nat_tests}
use Rattle.std.proofs.lemmas.Cmp.{nat_cmp_total, nat_list_cmp_total, on_total, then_total}
use Rattle.std.proofs.lemmas.List.{length-map}
use Rattle.tuple_codec.proofs.Truths.{both_so as both, two}
use Rattle.tuple_codec.proofs.Orderings.{less_is as is_less}
use Rattle.tuple_codec.specs.Nodes.{Item}
use Rattle.tuple_codec.specs.declared.addresses.Address.{Address}
use Rattle.tuple_codec.proofs.Orders.{key_cmp_total}
use Rattle.schema_model.specs.Limits.{is_database_within_limits, is_named_within_limits, is_short_name, is_table_within_limits, is_violation_within_limits, most_tables}
use Rattle.schema_model.specs.PlainTables.{IsTable, NamedTable, PlainDatabase, PlainTable, Violation, is_violation, rises, violation_cmp, violation_item, violation_items}
use Rattle.schema_model.specs.Schemas.{is_name}
use Rattle.schema_model.specs.WrittenForms.{table_address}
use Rattle.schema_model.specs.declared.schemas.Schema.{Schema}
use Rattle.chunk_store.specs.Chunks.{Chunks, Extends}
use Rattle.chunk_store.specs.Standing.{IsTree}
use Rattle.table_root.specs.Databases.{has_short_name, names_rise}
use Rattle.table_root.specs.Standing.{AreThere, IsTableAt, IsTableOf, TableValuesStand, TablesStand, named_tables}
use Rattle.table_root.specs.Tables.{IsTableFound}
use Rattle.table_root.specs.declared.records.StoredTable.{StoredTable}
use Rattle.table_root.specs.declared.records.TableEntry as entries
use Rattle.plain_writes.specs.Violations.{Found, table_in}
use Rattle.violation_lists.specs.Recording.{CanRecord, CanRecordEach, CanRecordTable, IsEntryOf, MayBeWritten, MayList, MayListNamed, MayStand, found_cmp, has_name, is_listed, is_of, listed_if, listed_item, listed_items, may_stand, may_stand_in, recorded_as, recorded_in, violations_of, with_list}
use Rattle.violation_lists.specs.Written.{written, written_in}
use Rattle.violation_lists.specs.declared.listing.ListedViolation as listing
use Rattle.violation_lists.proofs.NameLemmas.{each_found}
use Rattle.violation_lists.proofs.StandLemmas.{Parts}

-- ---- one table

stands_all : (schema : Schema) (found : List Violation) → list_all (may_stand schema) found ≡ true
    → (list_all (is_violation schema) found ≡ true) × (list_all (is_violation_within_limits schema) found ≡ true)
stands_all schema [] h = (refl, refl)
stands_all schema (one ∷ found) h =
    let parts = and_parts (may_stand schema one) (list_all (may_stand schema) found) h in
    let may = and_parts (is_violation schema one) (is_violation_within_limits schema one) parts.0 in
    let more = stands_all schema found parts.1 in
    (both may.0 more.0, both may.1 more.1)

listed_table : (table : PlainTable) (found : List Violation) → IsTable table → list_all (may_stand table.schema) found ≡ true → rises violation_cmp found ≡ true → IsTable (with_list table found)
listed_table table found is all rise = record {
  schema = is.schema;
  rows = is.rows;
  keys = is.keys;
  conflicts = is.conflicts;
  conflict_keys = is.conflict_keys;
  violations = (stands_all table.schema found all).0;
  violation_keys = rise;
}

-- a table's value with another root of its violations is that of the table with their list
pub relisted : (address : List ℕ → List ℕ) (chunks : Chunks) (table : StoredTable) (contents : PlainTable) (items : List Item) (found : List Violation) (k : Address) → IsTableOf address chunks table contents
    → MayList items contents.schema found → IsTree address chunks k.0 items
    → IsTableOf address chunks (record { schema = table.schema; rows = table.rows; indexes = table.indexes; conflicts = table.conflicts; violations = k }) (with_list contents found)
relisted address chunks table contents items found k stands may tree =
    let at = subst (λ (l : List Item). IsTree address chunks k.0 l) may.items_are tree in
    record {
      is_table = listed_table contents found stands.is_table may.stand may.rise;
      trees = record {
        rows = stands.trees.rows;
        indexes = stands.trees.indexes;
        conflicts = stands.trees.conflicts;
        violations = subst (λ (r : List ℕ). IsTree address chunks r (map (violation_item contents.schema) found)) (sym at.named) at;
      };
      value = λ i. record {
        schema = (stands.value i).schema;
        rows = (stands.value i).rows;
        indexes = (stands.value i).indexes;
        conflicts = (stands.value i).conflicts;
        violations = record { 0 = sym at.named i };
      };
    }

-- a table that was read, once the tree of its list is built
pub may_keep : (address : List ℕ → List ℕ) (old new : Chunks) → Extends old new → TableValuesStand → (k name : List ℕ) (list : List listing.ListedViolation) (contents : PlainTable) (found : List Violation) (table : StoredTable) (violations : Address)
    → CanRecordTable address old k name list contents found → IsTableFound old k table → IsTree address new violations.0 (listed_items name list)
    → MayStand address new (record { schema = table.schema; rows = table.rows; indexes = table.indexes; conflicts = table.conflicts; violations = violations }) (with_list contents found)
may_keep address old new more values k name list contents found table violations can read tree = record {
  stands = relisted address new table contents (listed_items name list) found violations (values.later address old new contents table more (values.read address old k contents table can.at read)) can.may tree;
  limits = can.limits;
}

-- ---- a table of which there is nothing to record

none_listed : (name : List ℕ) (list : List listing.ListedViolation) → list_any (is_listed name) list ≡ false → listed_items name list ≡ []
none_listed name [] none = refl
none_listed name (one ∷ list) none = by (is_listed name one) (none_listed name list) none where
  by : (b : Bool) → (list_any (is_listed name) list ≡ false → listed_items name list ≡ []) → (b || list_any (is_listed name) list) ≡ false → cond b (listed_item one ∷ []) [] ++ listed_items name list ≡ []
  by true more h = absurd (true≢false h)
  by false more h = more h

none_found : (schema : Schema) (found : List Violation) → [] ≡ map (violation_item schema) found → found ≡ []
none_found schema [] is = refl
none_found schema (one ∷ found) is = absurd (nothing is) where
  nothing : [] ≡ violation_item schema one ∷ map (violation_item schema) found → ⊥
  nothing e = cc

none_counted : (items : List Item) → (length items == 0) ≡ true → items ≡ []
none_counted [] none = refl
none_counted (item ∷ items) none = absurd (nothing (length items) none) where
  nothing : (n : ℕ) → (suc n == 0) ≡ true → ⊥
  nothing n e = grind (arith, nat_tests)

-- the tree of the violations that a table which was read has recorded
pub recorded_tree : (address : List ℕ → List ℕ) (chunks : Chunks) (table : StoredTable) (contents : PlainTable) → IsTableOf address chunks table contents → IsTree address chunks table.violations.0 (violation_items contents)
recorded_tree address chunks table contents stands =
    subst (λ (k : List ℕ). IsTree address chunks k (violation_items contents)) (sym (ap (λ (t : StoredTable). t.violations.0) stands.value)) stands.trees.violations

-- a table that the list doesn't name, and that has recorded none, stays
pub stays : (address : List ℕ → List ℕ) (chunks : Chunks) (k name : List ℕ) (list : List listing.ListedViolation) (contents : PlainTable) (found : List Violation) → CanRecordTable address chunks k name list contents found
    → list_any (is_listed name) list ≡ false → (length (violation_items contents) == 0) ≡ true → IsTableAt address chunks k (with_list contents found)
stays address chunks k name list contents found can unlisted none =
    let may = can.may in
    let new : found ≡ [] = none_found contents.schema found (sym (none_listed name list unlisted) ∙ may.items_are) in
    let old : contents.violations ≡ [] = none_found contents.schema contents.violations (sym (none_counted (violation_items contents) none)) in
    let same : contents ≡ with_list contents found =
    λ i. record { schema = contents.schema; rows = contents.rows; conflicts = contents.conflicts; violations = (old ∙ sym new) i } in
    subst (λ (t : PlainTable). IsTableAt address chunks k t) same can.at

-- ---- the tables of a list

pub each_later : (address : List ℕ → List ℕ) (old new : Chunks) → Extends old new → TablesStand → (database : PlainDatabase)
    → AllByRecursion (λ named. IsTableAt address old (table_address address named.table) named.table) database
    → AllByRecursion (λ named. IsTableAt address new (table_address address named.table) named.table) database
each_later address old new more laws [] h = tt
each_later address old new more laws (named ∷ database) h =
    (laws.later address old new (table_address address named.table) named.table more h.0, each_later address old new more laws database h.1)

pub there_later : (address : List ℕ → List ℕ) (old new : Chunks) → Extends old new → TablesStand → (database : PlainDatabase) (tables : List entries.TableEntry)
    → AreThere address old database tables → AreThere address new database tables
there_later address old new more laws database tables there = record { stand = each_later address old new more laws database there.stand; listed = there.listed }

each_more : (address : List ℕ → List ℕ) (chunks : Chunks) (named : NamedTable) → IsTableAt address chunks (table_address address named.table) named.table → (database : PlainDatabase)
    → AllByRecursion (λ named. IsTableAt address chunks (table_address address named.table) named.table) database
    → AllByRecursion (λ named. IsTableAt address chunks (table_address address named.table) named.table) (database ++ named ∷ [])
each_more address chunks named at [] h = (at, tt)
each_more address chunks named at (other ∷ database) h = (h.0, each_more address chunks named at database h.1)

map_more : {A B : Type 0} (f : A → B) (xs : List A) (x : A) → map f (xs ++ x ∷ []) ≡ map f xs ++ f x ∷ []
map_more f [] x = refl
map_more f (y ∷ xs) x = ap (λ l. f y ∷ l) (map_more f xs x)

-- one more of them
pub there_more : (address : List ℕ → List ℕ) (chunks : Chunks) (database : PlainDatabase) (tables : List entries.TableEntry) (entry : entries.TableEntry) (named : NamedTable)
    → AreThere address chunks database tables → IsEntryOf address chunks entry named → AreThere address chunks (database ++ named ∷ []) (tables ++ entry ∷ [])
there_more address chunks database tables entry named there is = record {
  stand = each_more address chunks named (subst (λ (k : List ℕ). IsTableAt address chunks k named.table) (sym (let at = is.at in at.named)) is.at) database there.stand;
  listed = (λ i. there.listed i ++ record { name = is.name i; table = record { 0 = sym (let at = is.at in at.named) i } } ∷ [])
      ∙ sym (map_more (λ (n : NamedTable). record { name = n.name; table = record { 0 = table_address address n.table } }) database named);
}

pub short_names : (address : List ℕ → List ℕ) (database : PlainDatabase) → list_all has_short_name (named_tables address database) ≡ list_all (λ (named : NamedTable). is_short_name named.name) database
short_names address [] = refl
short_names address (named ∷ database) = ap (λ b. is_short_name named.name && b) (short_names address database)

pub rise_names : (address : List ℕ → List ℕ) (database : PlainDatabase) → names_rise (named_tables address database) ≡ rises (λ (a b : NamedTable). slice_cmp nat_cmp a.name b.name) database
rise_names address [] = refl
rise_names address (named ∷ []) = refl
rise_names address (named ∷ next ∷ database) = ap (λ b. is_lt (slice_cmp nat_cmp named.name next.name) && b) (rise_names address (next ∷ database))

-- ---- the database that has recorded them

listed_within : (table : PlainTable) (found : List Violation) → is_table_within_limits table ≡ true → list_all (may_stand table.schema) found ≡ true → is_table_within_limits (with_list table found) ≡ true
listed_within table found within all = both (and_parts _ (list_all (is_violation_within_limits table.schema) table.violations) within).0 (stands_all table.schema found all).1

module _ (list : List listing.ListedViolation) (found : List Found) where
  pub recorded_tables : (database : PlainDatabase) → AllByRecursion (λ named. IsTable named.table) database → AllByRecursion (MayListNamed list found) database
      → AllByRecursion (λ named. IsTable named.table) (recorded_as found database)
  recorded_tables [] are may = tt
  recorded_tables (named ∷ database) are may =
      let first = may.0 in
      (listed_table named.table (violations_of named.name found) are.0 first.stand first.rise, recorded_tables database are.1 may.1)

  pub recorded_within : (database : PlainDatabase) → list_all is_named_within_limits database ≡ true → AllByRecursion (MayListNamed list found) database
      → list_all is_named_within_limits (recorded_as found database) ≡ true
  recorded_within [] within may = refl
  recorded_within (named ∷ database) within may =
      let first = may.0 in
      let parts = and_parts (is_named_within_limits named) (list_all is_named_within_limits database) within in
      let one = and_parts (is_short_name named.name) (is_table_within_limits named.table) parts.0 in
      both (both one.0 (listed_within named.table (violations_of named.name found) one.1 first.stand)) (recorded_within database parts.1 may.1)

pub recorded_names : (p : List ℕ → Bool) (found : List Found) (database : PlainDatabase) → list_all (λ (named : NamedTable). p named.name) (recorded_as found database) ≡ list_all (λ (named : NamedTable). p named.name) database
recorded_names p found [] = refl
recorded_names p found (named ∷ database) = ap (λ b. p named.name && b) (recorded_names p found database)

pub recorded_rise : (found : List Found) (database : PlainDatabase)
    → rises (λ (a b : NamedTable). slice_cmp nat_cmp a.name b.name) (recorded_as found database) ≡ rises (λ (a b : NamedTable). slice_cmp nat_cmp a.name b.name) database
recorded_rise found [] = refl
recorded_rise found (named ∷ []) = refl
recorded_rise found (named ∷ next ∷ database) = ap (λ b. is_lt (slice_cmp nat_cmp named.name next.name) && b) (recorded_rise found (next ∷ database))

-- ---- the list of a table, as a part of the whole list

found_total : IsTotalOrder found_cmp
found_total =
    then_total (on_total (λ (one : Found). one.table) nat_list_cmp_total)
    (on_total (λ (one : Found). one.violation) (then_total (on_total (λ (v : Violation). v.kind) nat_cmp_total)
    (then_total (on_total (λ (v : Violation). v.constraint) nat_list_cmp_total) (on_total (λ (v : Violation). v.key) key_cmp_total))))

less_on : (a b c : Found) → is_lt (found_cmp a b) ≡ true → is_lt (found_cmp b c) ≡ true → is_lt (found_cmp a c) ≡ true
less_on a b c p q = let total = found_total in ap is_lt (total.trans a b c (is_less (found_cmp a b) p) (is_less (found_cmp b c) q))

past : (a b : Found) (found : List Found) → rises found_cmp (a ∷ b ∷ found) ≡ true → rises found_cmp (a ∷ found) ≡ true
past a b [] r = refl
past a b (c ∷ found) r =
    let parts = and_parts (is_lt (found_cmp a b)) (rises found_cmp (b ∷ c ∷ found)) r in
    let more = and_parts (is_lt (found_cmp b c)) (rises found_cmp (c ∷ found)) parts.1 in
    both (less_on a b c parts.0 more.0) more.1

rest_rises : (a : Found) (found : List Found) → rises found_cmp (a ∷ found) ≡ true → rises found_cmp found ≡ true
rest_rises a [] r = refl
rest_rises a (b ∷ found) r = (and_parts (is_lt (found_cmp a b)) (rises found_cmp (b ∷ found)) r).1

equal_names : (name : List ℕ) (o : Ordering) → is_lt (ordering_then (slice_cmp nat_cmp name name) o) ≡ true → is_lt o ≡ true
equal_names name o h = let total = nat_list_cmp_total in ap (λ c. is_lt (ordering_then c o)) (sym (itself total name)) ∙ h
  where
    equal_only : (c : Ordering) → c ≡ Rattle.std.specs.Ordering.ordering_reverse c → c ≡ Equal
    equal_only Less e = cc
    equal_only Equal e = refl
    equal_only Greater e = cc

    itself : IsTotalOrder (slice_cmp nat_cmp) → (n : List ℕ) → slice_cmp nat_cmp n n ≡ Equal
    itself total n = equal_only (slice_cmp nat_cmp n n) (total.antisymm n n)

same_table : (name : List ℕ) (a b : Found) → is_of name a ≡ true → is_of name b ≡ true → is_lt (found_cmp a b) ≡ true → is_lt (violation_cmp a.violation b.violation) ≡ true
same_table name a b p q h =
    equal_names name (violation_cmp a.violation b.violation)
    (ap (λ n. is_lt (ordering_then (slice_cmp nat_cmp n name) (violation_cmp a.violation b.violation))) (sym ((bytes_decides a.table name).0 p))
    ∙ ap (λ n. is_lt (ordering_then (slice_cmp nat_cmp a.table n) (violation_cmp a.violation b.violation))) (sym ((bytes_decides b.table name).0 q))
    ∙ h)

of_step : (name : List ℕ) (one : Found) (found : List Found) → is_of name one ≡ true → violations_of name (one ∷ found) ≡ one.violation ∷ violations_of name found
of_step name one found t = ap (λ b. map (λ (o : Found). o.violation) (cond b (one ∷ filter (is_of name) found) (filter (is_of name) found))) t

of_skip : (name : List ℕ) (one : Found) (found : List Found) → is_of name one ≡ false → violations_of name (one ∷ found) ≡ violations_of name found
of_skip name one found t = ap (λ b. map (λ (o : Found). o.violation) (cond b (one ∷ filter (is_of name) found) (filter (is_of name) found))) t

rise_after : (name : List ℕ) (a : Found) (found : List Found) → is_of name a ≡ true → rises found_cmp (a ∷ found) ≡ true → rises violation_cmp (a.violation ∷ violations_of name found) ≡ true
rise_after name a [] p r = refl
rise_after name a (b ∷ found) p r = two (is_of name b)
    (λ t.
    let parts = and_parts (is_lt (found_cmp a b)) (rises found_cmp (b ∷ found)) r in
    ap (λ l. rises violation_cmp (a.violation ∷ l)) (of_step name b found t) ∙ both (same_table name a b p t parts.0) (rise_after name b found t parts.1))
    (λ t. ap (λ l. rises violation_cmp (a.violation ∷ l)) (of_skip name b found t) ∙ rise_after name a found p (past a b found r))

pub of_rises : (name : List ℕ) (found : List Found) → rises found_cmp found ≡ true → rises violation_cmp (violations_of name found) ≡ true
of_rises name [] r = refl
of_rises name (one ∷ found) r = two (is_of name one)
    (λ t. ap (rises violation_cmp) (of_step name one found t) ∙ rise_after name one found t r)
    (λ t. ap (rises violation_cmp) (of_skip name one found t) ∙ of_rises name found (rest_rises one found r))

module _ (database : PlainDatabase) (name : List ℕ) (table : PlainTable) (is : table_in database name ≡ Some table) where
  table_is : (one : Found) → is_of name one ≡ true → table_in database one.table ≡ Some table
  table_is one t = ap (table_in database) ((bytes_decides one.table name).0 t) ∙ is

  of_stand : (found : List Found) → list_all (may_stand_in database) found ≡ true → list_all (may_stand table.schema) (violations_of name found) ≡ true
  of_stand [] all = refl
  of_stand (one ∷ found) all =
      let parts = and_parts (may_stand_in database one) (list_all (may_stand_in database) found) all in
      two (is_of name one)
      (λ t. ap (list_all (may_stand table.schema)) (of_step name one found t)
      ∙ both (sym (ap (λ o. option_map_or (λ (x : PlainTable). may_stand x.schema one.violation) o false) (table_is one t)) ∙ parts.0) (of_stand found parts.1))
      (λ t. ap (list_all (may_stand table.schema)) (of_skip name one found t) ∙ of_stand found parts.1)

  none_of : (one : Found) (o : Option PlainTable) → is_of name one ≡ false → flat_map (listed_if name) (option_map_or (λ (x : PlainTable). written x.schema one ∷ []) o []) ≡ []
  none_of one None t = refl
  none_of one (Some x) t = ap (λ b. cond b (listed_item (written x.schema one) ∷ []) [] ++ []) t

  of_items : (found : List Found) → flat_map (listed_if name) (flat_map (written_in database) found) ≡ map (violation_item table.schema) (violations_of name found)
  of_items [] = refl
  of_items (one ∷ found) = flat_more (listed_if name) (written_in database one) (flat_map (written_in database) found) ∙ two (is_of name one)
      (λ t.
      ap (λ o. flat_map (listed_if name) (option_map_or (λ (x : PlainTable). written x.schema one ∷ []) o []) ++ flat_map (listed_if name) (flat_map (written_in database) found)) (table_is one t)
      ∙ ap (λ b. (cond b (listed_item (written table.schema one) ∷ []) [] ++ []) ++ flat_map (listed_if name) (flat_map (written_in database) found)) t
      ∙ ap (λ l. violation_item table.schema one.violation ∷ l) (of_items found)
      ∙ ap (map (violation_item table.schema)) (sym (of_step name one found t)))
      (λ t.
      ap (λ l. l ++ flat_map (listed_if name) (flat_map (written_in database) found)) (none_of one (table_in database one.table) t)
      ∙ of_items found
      ∙ ap (map (violation_item table.schema)) (sym (of_skip name one found t)))
    where
      flat_more : {A B : Type 0} (f : A → List B) (xs ys : List A) → flat_map f (xs ++ ys) ≡ flat_map f xs ++ flat_map f ys
      flat_more f [] ys = refl
      flat_more f (x ∷ xs) ys = ap (λ l. f x ++ l) (flat_more f xs ys) ∙ sym (append_assoc (f x) (flat_map f xs) (flat_map f ys))

-- the name of each that is written is one
pub names_of : (database : PlainDatabase) (found : List Found) → list_all (may_stand_in database) found ≡ true → list_all has_name (flat_map (written_in database) found) ≡ true
names_of database [] all = refl
names_of database (one ∷ found) all =
    let parts = and_parts (may_stand_in database one) (list_all (may_stand_in database) found) all in
    by_table (table_in database one.table) (flat_map (written_in database) found) parts.0 (names_of database found parts.1)
  where
    by_table : (o : Option PlainTable) (more : List listing.ListedViolation) → option_map_or (λ (x : PlainTable). may_stand x.schema one.violation) o false ≡ true → list_all has_name more ≡ true
        → list_all has_name (option_map_or (λ (x : PlainTable). written x.schema one ∷ []) o [] ++ more) ≡ true
    by_table None more h all = all
    by_table (Some x) more h all =
        let is = (and_parts (is_violation x.schema one.violation) (is_violation_within_limits x.schema one.violation) h).0 in
        both (and_parts _ (is_name one.violation.constraint) (and_parts _ _ (and_parts _ _ is).0).0).1 all

pub may_list : (database : PlainDatabase) (list : List listing.ListedViolation) (found : List Found) (named : NamedTable) → table_in database named.name ≡ Some named.table
    → list ≡ flat_map (written_in database) found → list_all (may_stand_in database) found ≡ true → rises found_cmp found ≡ true → MayListNamed list found named
may_list database list found named is written_ all rise = record {
  items_are = ap (flat_map (listed_if named.name)) written_ ∙ of_items database named.name named.table is found;
  stand = of_stand database named.name named.table is found all;
  rise = of_rises named.name found rise;
}

pub all_may : (database : PlainDatabase) (list : List listing.ListedViolation) (found : List Found) (tables : PlainDatabase) → AllByRecursion (λ named. table_in database named.name ≡ Some named.table) tables
    → list ≡ flat_map (written_in database) found → list_all (may_stand_in database) found ≡ true → rises found_cmp found ≡ true → AllByRecursion (MayListNamed list found) tables
all_may database list found [] finds written_ all rise = tt
all_may database list found (named ∷ tables) finds written_ all rise =
    (may_list database list found named finds.0 written_ all rise, all_may database list found tables finds.1 written_ all rise)

-- ---- the first of the tables, and the others

module _ (address : List ℕ → List ℕ) (chunks : Chunks) (tables rest : List entries.TableEntry) (list : List listing.ListedViolation) (database : PlainDatabase) (found : List Found) (first : entries.TableEntry)
    (can : CanRecordEach address chunks tables list database found) (parts : Parts address chunks database first rest) where
  within_parts : (is_named_within_limits parts.named ≡ true) × (list_all is_named_within_limits parts.others ≡ true)
  within_parts = and_parts (is_named_within_limits parts.named) (list_all is_named_within_limits parts.others) (subst (λ (d : PlainDatabase). list_all is_named_within_limits d ≡ true) parts.both can.limits)

  may_parts : AllByRecursion (MayListNamed list found) (parts.named ∷ parts.others)
  may_parts = subst (λ (d : PlainDatabase). AllByRecursion (MayListNamed list found) d) parts.both can.may

  pub first_can : CanRecordTable address chunks first.table.0 first.name list (let named = parts.named in named.table) (let named = parts.named in violations_of named.name found)
  first_can = record {
    at = parts.at;
    limits = (and_parts _ _ (and_parts _ _ (and_parts _ _ (and_parts _ _ (and_parts _ _ within_parts.0).1).0).0).0).0;
    names = can.names;
    may = let named = parts.named in subst (λ (n : List ℕ). MayList (listed_items n list) named.table.schema (violations_of named.name found)) (sym parts.name) may_parts.0;
  }

  pub others_can : (new : Chunks) → Extends chunks new → TablesStand → CanRecordEach address new rest list parts.others found
  others_can new more laws = record {
    there = there_later address chunks new more laws parts.others rest parts.there;
    limits = within_parts.1;
    names = can.names;
    may = may_parts.1;
  }

-- what was done, with the first of the tables and with the others
pub joined : (found : List Found) (done others database : PlainDatabase) (named : NamedTable) → database ≡ named ∷ others
    → (done ++ recorded_in found named ∷ []) ++ recorded_as found others ≡ done ++ recorded_as found database
joined found done others database named is = append_assoc done (recorded_in found named ∷ []) (recorded_as found others) ∙ ap (λ (d : PlainDatabase). done ++ recorded_as found d) (sym is)

pub nothing_left : (address : List ℕ → List ℕ) (chunks : Chunks) (tables : List entries.TableEntry) (database : PlainDatabase) → AreThere address chunks database tables → length tables ≡ 0 → database ≡ []
nothing_left address chunks tables [] there none = refl
nothing_left address chunks tables (named ∷ database) there none =
    let some : length tables ≡ suc (length (named_tables address database)) = ap length there.listed in
    absurd (omega (arith, none, some))

-- ---- a whole database

pub can_each : (address : List ℕ → List ℕ) (chunks : Chunks) (k : List ℕ) (list : List listing.ListedViolation) (database : PlainDatabase) (found : List Found) → CanRecord address chunks k list database found
    → (tables : List entries.TableEntry) → tables ≡ named_tables address database → CanRecordEach address chunks tables list database found
can_each address chunks k list database found can tables are =
    let stands = let kept = can.kept in kept.stands in
    let recordable = can.recordable in
    let is_database = stands.is_database in
    record {
      there = record { stand = stands.tables; listed = are };
      limits = let kept = can.kept in (and_parts (nat_le (length database) most_tables) (list_all is_named_within_limits database) kept.within).1;
      names = subst (λ (l : List listing.ListedViolation). list_all has_name l ≡ true) (sym recordable.written) (names_of database found recordable.stand);
      may = all_may database list found database (each_found database is_database.rise) recordable.written recordable.stand recordable.rise;
    }

pub may_write : (address : List ℕ → List ℕ) (old new : Chunks) (k : List ℕ) (list : List listing.ListedViolation) (database : PlainDatabase) (found : List Found) (tables : List entries.TableEntry) → CanRecord address old k list database found
    → AreThere address new (recorded_as found database) tables → MayBeWritten address new tables (recorded_as found database)
may_write address old new k list database found tables can there =
    let each = can_each address old k list database found can (named_tables address database) refl in
    let stands = let kept = can.kept in kept.stands in
    let is_database = stands.is_database in
    record {
      is_database = record {
        tables = recorded_tables list found database is_database.tables each.may;
        names = recorded_names is_name found database ∙ is_database.names;
        rise = recorded_rise found database ∙ is_database.rise;
      };
      within = and_from _ _
          (ap (λ n. nat_le n most_tables) (length-map database (recorded_in found)) ∙ (let kept = can.kept in (and_parts (nat_le (length database) most_tables) (list_all is_named_within_limits database) kept.within).0))
          (recorded_within list found database each.limits each.may);
      there = there;
    }
