-- The parts written one after another are the form, and how many bytes forms have at most.
use Rattle.std.proofs.Common.{◌≡◌, ℕ, ◌*◌, ◌^◌, ◌<◌, ◌≤◌, true, leb, List, [], ◌∷◌, ◌++◌, length, refl, sym, ap, subst, ◌∙◌, append_assoc, arith}
use Rattle.std.specs.List.{flat_map, list_all}
use Rattle.std.specs.Int.{w16, w32, to_be_bytes}
use Rattle.std.proofs.lemmas.Bool.{and_parts, eqb-true, leb-true, lt-ltb}
use Rattle.std.proofs.lemmas.List.{length-append}
use Rattle.std.proofs.lemmas.List.Folds.{flat_map-map}
use Rattle.tuple_codec.proofs.Lists.{all_weaker as each_has}
use Rattle.tuple_codec.specs.Fields.{short}
use Rattle.tuple_codec.specs.declared.addresses.Address.{Address}
use Rattle.schema_model.specs.Limits.{has_short_names, is_short_name, is_within_limits}
use Rattle.schema_model.specs.SchemaBytes.{schema_bytes}
use Rattle.schema_model.specs.declared.schemas.Schema.{Schema}
use Rattle.table_root.specs.Databases.{fits_name, has_address, has_short_name, named_bytes, written_database}
use Rattle.table_root.specs.Tables.{IsStoredTable, is_address, written_table}
use Rattle.table_root.specs.declared.records.StoredTable.{StoredTable}
use Rattle.table_root.specs.declared.records.TableEntry.{TableEntry}
use Rattle.table_root.proofs.FormLemmas.{database_is}

-- every address may be written
pub all_allowed : {A : Type 0} (xs : List A) → list_all (λ _. true) xs ≡ true
all_allowed [] = refl
all_allowed (x ∷ xs) = all_allowed xs

-- ---- tables

pub limits_size : (s : Schema) → is_within_limits s ≡ true → length (schema_bytes s) ≤ 32768
limits_size s h = leb-true (length (schema_bytes s)) 32768 (and_parts _ (leb (length (schema_bytes s)) 32768) h).1

pub limits_fit : (s : Schema) (bytes : List ℕ) → is_within_limits s ≡ true → bytes ≡ schema_bytes s → length bytes < 2 ^ 32
limits_fit s bytes h e =
    let few = limits_size s h in
    subst (λ (l : List ℕ). length l < 2 ^ 32) (sym e) (omega (arith, few))

few_indexes : (s : Schema) → is_within_limits s ≡ true → length s.indexes ≤ 64
few_indexes s h =
    let a = and_parts _ (leb (length (schema_bytes s)) 32768) h in
    let b = and_parts _ (list_all has_short_names s.foreign) a.0 in
    let d = and_parts _ (list_all (λ check. is_short_name check.name) s.checks) b.0 in
    let e = and_parts _ (list_all (λ index. is_short_name index.name) s.indexes) d.0 in
    let f = and_parts _ (list_all (λ column. is_short_name column.name) s.columns) e.0 in
    let g = and_parts _ (leb (length s.foreign) 64) f.0 in
    let i = and_parts _ (leb (length s.checks) 64) g.0 in
    let j = and_parts (leb (length s.columns) 64) (leb (length s.indexes) 64) i.0 in
    leb-true (length s.indexes) 64 j.1

-- so many bytes each
addresses_length : (addresses : List Address) → list_all is_address addresses ≡ true → length (flat_map (λ address. address.0) addresses) ≡ 20 * length addresses
addresses_length [] h = refl
addresses_length (address ∷ addresses) h =
    let both = and_parts (is_address address) (list_all is_address addresses) h in
    let one : length address.0 ≡ 20 = eqb-true _ _ both.0 in
    let more = addresses_length addresses both.1 in
    length-append address.0 (flat_map (λ (other : Address). other.0) addresses) ∙ omega (arith, one, more)

-- a table's bytes over its roots
table_is : (t : StoredTable) → written_table t
    ≡ 3 ∷ (to_be_bytes w32 (length (schema_bytes t.schema)) ++ (schema_bytes t.schema ++ (t.rows.0 ++ (flat_map (λ (index : Address). index.0) t.indexes ++ (t.conflicts.0 ++ t.violations.0)))))
table_is t =
    ap (λ (l : List ℕ). 3 ∷ (to_be_bytes w32 (length (schema_bytes t.schema)) ++ (schema_bytes t.schema ++ (t.rows.0 ++ (l ++ (t.conflicts.0 ++ t.violations.0))))))
    (flat_map-map (λ (bytes : List ℕ). bytes) (λ (index : Address). index.0) t.indexes)

pub table_size : (t : StoredTable) → IsStoredTable t → is_within_limits t.schema ≡ true → length (written_table t) ≤ 65536
table_size t h limits =
    let few = limits_size t.schema limits in
    let some = few_indexes t.schema limits in
    let count = h.count in
    let indexes = flat_map (λ (index : Address). index.0) t.indexes in
    let many = addresses_length t.indexes h.roots.indexes in
    let rows : length t.rows.0 ≡ 20 = eqb-true _ _ h.roots.rows in
    let conflicts : length t.conflicts.0 ≡ 20 = eqb-true _ _ h.roots.conflicts in
    let violations : length t.violations.0 ≡ 20 = eqb-true _ _ h.roots.violations in
    let third = t.conflicts.0 ++ t.violations.0 in
    let second = indexes ++ third in
    let first = t.rows.0 ++ second in
    let a = length-append t.conflicts.0 t.violations.0 in
    let b = length-append indexes third in
    let d = length-append t.rows.0 second in
    let e = length-append (schema_bytes t.schema) first in
    subst (λ (l : List ℕ). length l ≤ 65536) (sym (table_is t)) (omega (arith, few, some, count, many, rows, conflicts, violations, a, b, d, e))

in_order : (size schema roots : List ℕ) → (3 ∷ (size ++ schema)) ++ roots ≡ 3 ∷ (size ++ (schema ++ roots))
in_order size schema roots = simp append_assoc

pub table_join : (t : StoredTable) (size : ℕ) (a b d e all : List ℕ) → size ≡ length (schema_bytes t.schema) → a ≡ [] → b ≡ a ++ 3 ∷ to_be_bytes w32 size
    → d ≡ b ++ schema_bytes t.schema
    → e ≡ d ++ (t.rows.0 ++ (flat_map (λ (index : Address). index.0) t.indexes ++ (t.conflicts.0 ++ t.violations.0))) → all ≡ e → all ≡ written_table t
table_join t size a b d e all size_is at_first with_size with_schema with_roots same =
    let roots = t.rows.0 ++ (flat_map (λ (index : Address). index.0) t.indexes ++ (t.conflicts.0 ++ t.violations.0)) in
    let schema = schema_bytes t.schema in
    let head = to_be_bytes w32 (length schema) in
    let one : b ≡ 3 ∷ head = with_size ∙ ap (λ (l : List ℕ). l ++ 3 ∷ to_be_bytes w32 size) at_first ∙ ap (λ (n : ℕ). 3 ∷ to_be_bytes w32 n) size_is in
    let two : d ≡ 3 ∷ (head ++ schema) = with_schema ∙ ap (λ (l : List ℕ). l ++ schema) one in
    same ∙ with_roots ∙ ap (λ (l : List ℕ). l ++ roots) two ∙ in_order head schema roots ∙ sym (table_is t)

-- ---- databases

short_fit : (named : TableEntry) → has_short_name named ≡ true → fits_name named ≡ true
short_fit named h =
    let most = leb-true (length named.name) 64 (and_parts (leb 1 (length named.name)) (leb (length named.name) 64) h).1 in
    lt-ltb (length named.name) 256 (omega (arith, most))

pub short_fits : (tables : List TableEntry) → list_all has_short_name tables ≡ true → list_all fits_name tables ≡ true
short_fits tables h = each_has has_short_name fits_name short_fit tables h

pub database_join : (tables : List TableEntry) (a d e all : List ℕ) → a ≡ [] → d ≡ a ++ 4 ∷ to_be_bytes w16 (length tables)
    → e ≡ d ++ flat_map named_bytes tables → all ≡ e → all ≡ written_database tables
database_join tables a d e all at_first with_count with_tables same =
    let two : d ≡ 4 ∷ to_be_bytes w16 (length tables) = with_count ∙ ap (λ (l : List ℕ). l ++ 4 ∷ to_be_bytes w16 (length tables)) at_first in
    same ∙ with_tables ∙ ap (λ (l : List ℕ). l ++ flat_map named_bytes tables) two ∙ sym (database_is tables)

-- a name of at most 64 bytes and an address
tables_size : (tables : List TableEntry) → list_all has_short_name tables ≡ true → list_all has_address tables ≡ true → length (flat_map named_bytes tables) ≤ 85 * length tables
tables_size [] h k = omega arith
tables_size (named ∷ tables) h k =
    let names = and_parts (has_short_name named) (list_all has_short_name tables) h in
    let addresses = and_parts (has_address named) (list_all has_address tables) k in
    let most = leb-true (length named.name) 64 (and_parts (leb 1 (length named.name)) (leb (length named.name) 64) names.0).1 in
    let twenty : length named.table.0 ≡ 20 = eqb-true _ _ addresses.0 in
    let more = tables_size tables names.1 addresses.1 in
    let a = length-append (short named.name) named.table.0 in
    let b = length-append (named_bytes named) (flat_map named_bytes tables) in
    omega (arith, most, twenty, more, a, b)

pub database_size : (tables : List TableEntry) → length tables ≤ 256 → list_all has_short_name tables ≡ true → list_all has_address tables ≡ true → length (written_database tables) ≤ 65536
database_size tables few names addresses =
    let most = tables_size tables names addresses in
    subst (λ (l : List ℕ). length l ≤ 65536) (sym (database_is tables)) (omega (arith, most, few))
