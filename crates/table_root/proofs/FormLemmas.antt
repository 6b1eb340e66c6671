-- What is written is read again, so each form has one spelling.
use Rattle.std.proofs.Common.{◌≡◌, ℕ, ◌^◌, ◌<◌, ◌≤◌, Bool, true, cond, List, [], ◌∷◌, ◌++◌, drop, length, map, slice_index_or, take, Option, Some, None, refl, sym, ap, subst, ◌∙◌, append_assoc, append-nil, arith}
use Rattle.std.specs.Prelude.{◌&&◌}
use Rattle.std.specs.List.{flat_map, list_all}
use Rattle.std.specs.Option.{option_map}
use Rattle.std.specs.Int.{w16, w32, to_be_bytes}
use Rattle.std.proofs.lemmas.Bool.{and_parts, eqb-true}
use Rattle.std.proofs.lemmas.List.{drop_at, length-append, length-map, take_at}
use Rattle.std.proofs.lemmas.Nat.{from_be_bytes-to_be_bytes_2, from_be_bytes-to_be_bytes_4}
use Rattle.tuple_codec.proofs.Options.{some_is}
use Rattle.tuple_codec.proofs.Lists.{all_both as both_all}
use Rattle.tuple_codec.specs.Fields.{bytes_at, short_at, short}
use Rattle.tuple_codec.specs.declared.addresses.Address.{Address}
use Rattle.tuple_codec.specs.declared.records.BranchRecord.{BranchRecord}
use Rattle.tuple_codec.proofs.NumberLemmas.{AreBytes}
use Rattle.tuple_codec.proofs.FieldLemmas.{bytes_again}
use Rattle.schema_model.specs.Reading.{◌>>=◌, address_at, items_at}
use Rattle.schema_model.specs.SchemaBytes.{schema_bytes}
use Rattle.schema_model.specs.WrittenForms.{WrittenEntry, branch_bytes, merging_bytes}
use Rattle.schema_model.specs.declared.schemas.Schema.{Schema}
use Rattle.schema_model.proofs.PartLemmas.{IsReader, Takes, Takes-then, address_again, address_takes, addresses_again, bind_some, items_again, short_again, short_reader}
use Rattle.table_root.specs.Branches.{IsBranch, is_address_or_none}
use Rattle.table_root.specs.Databases.{AreListed, IsFirstListed, IsStoredDatabase, entry_of, fits_name, has_address, named_bytes, written_database}
use Rattle.table_root.specs.Reading.{alone, as_four, as_two, branch_of, database_of, four_at, if_database, merging_at, named_at, schema_text, table_of, two_at}
use Rattle.table_root.specs.Tables.{IsStoredTable, written_table}
use Rattle.table_root.specs.declared.records.StoredTable.{StoredTable}
use Rattle.table_root.specs.declared.records.TableEntry.{TableEntry}

-- ---- numbers

two_again : (n : ℕ) (rest : List ℕ) → n < 2 ^ 16 → two_at (to_be_bytes w16 n ++ rest) ≡ Some (n, rest)
two_again n rest lt = ap (option_map as_two) (bytes_again 2 (to_be_bytes w16 n) rest refl) ∙ ap (λ (k : ℕ). Some (k, rest)) (from_be_bytes-to_be_bytes_2 n lt)

four_again : (n : ℕ) (rest : List ℕ) → n < 2 ^ 32 → four_at (to_be_bytes w32 n ++ rest) ≡ Some (n, rest)
four_again n rest lt = ap (option_map as_four) (bytes_again 4 (to_be_bytes w32 n) rest refl) ∙ ap (λ (k : ℕ). Some (k, rest)) (from_be_bytes-to_be_bytes_4 n lt)

-- ---- tables

-- the bytes after a table's schema
abbrev pub roots_bytes : StoredTable → List ℕ
roots_bytes t = t.rows.0 ++ (flat_map (λ index. index) (map (λ index. index.0) t.indexes) ++ (t.conflicts.0 ++ t.violations.0))

pub text_again : (t : StoredTable) → IsStoredTable t → schema_text (written_table t) ≡ Some (schema_bytes t.schema, roots_bytes t)
unfolding schema_text
text_again t h =
    let text = schema_bytes t.schema in
    ap (λ (o : Option (ℕ × List ℕ)). o >>= λ size. bytes_at size.0 size.1) (four_again (length text) (text ++ roots_bytes t) h.size)
    ∙ bytes_again (length text) text (roots_bytes t) refl

abbrev pub made : Schema → Address → List Address → Address → Address → StoredTable
made schema rows indexes conflicts violations = record { schema = schema; rows = rows; indexes = indexes; conflicts = conflicts; violations = violations }

abbrev pub after_conflicts : Schema → Address → List Address → Address × List ℕ → Option StoredTable
after_conflicts schema rows indexes conflicts = address_at conflicts.1 >>= λ violations. alone (made schema rows indexes conflicts.0 violations.0, violations.1)

abbrev pub after_indexes : Schema → Address → List Address × List ℕ → Option StoredTable
after_indexes schema rows indexes = address_at indexes.1 >>= after_conflicts schema rows indexes.0

abbrev pub after_rows : Schema → Address × List ℕ → Option StoredTable
after_rows schema rows = items_at address_at (length schema.indexes) rows.1 >>= after_indexes schema rows.0

pub roots_again : (t : StoredTable) → IsStoredTable t → table_of t.schema (roots_bytes t) ≡ Some t
unfolding table_of
roots_again t h =
    let second = t.conflicts.0 ++ t.violations.0 in
    let first = flat_map (λ index. index) (map (λ (index : Address). index.0) t.indexes) ++ second in
    ap (λ (o : Option (Address × List ℕ)). o >>= after_rows t.schema) (address_again t.rows first h.roots.rows)
    ∙ ap (λ (o : Option (List Address × List ℕ)). o >>= after_indexes t.schema t.rows) (addresses_again (length t.schema.indexes) t.indexes second h.count h.roots.indexes)
    ∙ ap (λ (o : Option (Address × List ℕ)). o >>= after_conflicts t.schema t.rows t.indexes) (address_again t.conflicts t.violations.0 h.roots.conflicts)
    ∙ ap (λ (o : Option (Address × List ℕ)). o >>= λ violations. alone (made t.schema t.rows t.indexes t.conflicts violations.0, violations.1))
    (ap address_at (sym (append-nil t.violations.0)) ∙ address_again t.violations [] h.roots.violations)

-- ---- databases

abbrev pub made_named : List ℕ → Address × List ℕ → Option (TableEntry × List ℕ)
made_named name table = Some (record { name = name; table = table.0 }, table.1)

abbrev pub after_name : List ℕ × List ℕ → Option (TableEntry × List ℕ)
after_name name = address_at name.1 >>= made_named name.0

abbrev pub is_named : TableEntry → Bool
is_named named = fits_name named && has_address named

named_again : (n : TableEntry) (rest : List ℕ) → is_named n ≡ true → named_at (named_bytes n ++ rest) ≡ Some (n, rest)
unfolding named_at
named_again n rest h =
    let both = and_parts (fits_name n) (has_address n) h in
    ap named_at (append_assoc (short n.name) n.table.0 rest)
    ∙ ap (λ (o : Option (List ℕ × List ℕ)). o >>= after_name) (short_again n.name (n.table.0 ++ rest))
    ∙ ap (λ (o : Option (Address × List ℕ)). o >>= made_named n.name) (address_again n.table rest both.1)

named_takes : (bytes : List ℕ) (x : TableEntry × List ℕ) → AreBytes bytes → named_at bytes ≡ Some x → Takes bytes (named_bytes x.0) x.1
unfolding named_at
named_takes bytes x fit e =
    let b = bind_some (short_at bytes) after_name x e in
    let m = bind_some (address_at b.0.1) (made_named b.0.0) x b.2 in
    let s = (short_reader (λ (name : List ℕ). true)).takes bytes b.0 fit b.1 in
    let t = address_takes b.0.1 m.0 s.rest_fits m.1 in
    subst (λ (y : TableEntry × List ℕ). Takes bytes (named_bytes y.0) y.1) (some_is _ x m.2) (Takes-then bytes (short b.0.0) b.0.1 m.0.0.0 m.0.1 s t)

pub named_reader : IsReader named_bytes is_named named_at
named_reader = record { takes = named_takes; again = named_again }

abbrev pub after_count : ℕ × List ℕ → Option (List TableEntry)
after_count count = items_at named_at count.0 count.1 >>= if_database

-- the tables' bytes, as the form has them and as they are read
entries_are : (tables : List TableEntry) → flat_map (λ (entry : WrittenEntry). short entry.name ++ entry.address) (map entry_of tables) ≡ flat_map named_bytes tables
entries_are [] = refl
entries_are (named ∷ tables) = ap (λ (l : List ℕ). named_bytes named ++ l) (entries_are tables)

-- a database's bytes over its tables
pub database_is : (tables : List TableEntry) → written_database tables ≡ 4 ∷ (to_be_bytes w16 (length tables) ++ flat_map named_bytes tables)
database_is tables =
    ap (λ (n : ℕ). 4 ∷ (to_be_bytes w16 n ++ flat_map (λ (entry : WrittenEntry). short entry.name ++ entry.address) (map entry_of tables))) (length-map tables entry_of)
    ∙ ap (λ (l : List ℕ). 4 ∷ (to_be_bytes w16 (length tables) ++ l)) (entries_are tables)

pub database_again : (tables : List TableEntry) → IsStoredDatabase tables → database_of (written_database tables) ≡ Some tables
unfolding database_of
database_again tables h =
    let text = flat_map named_bytes tables in
    ap database_of (database_is tables)
    ∙ ap (λ (o : Option (ℕ × List ℕ)). o >>= after_count) (two_again (length tables) text h.few)
    ∙ ap (λ (l : List ℕ). items_at named_at (length tables) l >>= if_database) (sym (append-nil text))
    ∙ ap (λ (o : Option (List TableEntry × List ℕ)). o >>= if_database)
    (items_again named_bytes is_named named_at named_reader tables [] (both_all fits_name has_address tables h.names h.addresses))
    ∙ ap (λ (b : Bool). cond b (Some tables) None) h.rise

-- ---- the tables of a database, one after another

-- a database's bytes have a kind and a count before them
pub tables_listed : (tables : List TableEntry) → IsStoredDatabase tables → (bytes : List ℕ) → bytes ≡ written_database tables → (3 ≤ length bytes) × AreListed (drop 3 bytes) tables
tables_listed tables h bytes e =
    let form = e ∙ database_is tables in
    let long = ap length form in (
      omega arith,
      record { are = ap (drop 3) form; names = h.names; addresses = h.addresses },
    )

pub none_listed : (bytes : List ℕ) (tables : List TableEntry) → length bytes ≡ 0 → AreListed bytes tables → tables ≡ []
none_listed bytes [] e h = refl
none_listed bytes (named ∷ tables) e h = absurd (apart (sym e ∙ ap length h.are)) where
  apart : 0 ≡ length (flat_map named_bytes (named ∷ tables)) → ⊥
  apart e = omega arith

-- bytes that begin with a name's length, cut behind the name and behind the address
pub record IsCut (size : ℕ) (rest : List ℕ) (tables : List TableEntry) : Type 0 where
  pub name : size ≤ length rest
  pub address : 20 ≤ length (drop size rest)
  pub first : IsFirstListed (record { 0 = take 20 (drop size rest) }) (drop 20 (drop size rest)) tables

cut_first : (size : ℕ) (rest : List ℕ) (first : TableEntry) (others : List TableEntry) → AreListed (size ∷ rest) (first ∷ others) → IsCut size rest (first ∷ others)
cut_first size rest first others h =
    let text = flat_map named_bytes others in
    let behind = first.table.0 ++ text in
    let names = and_parts (fits_name first) (list_all fits_name others) h.names in
    let addresses = and_parts (has_address first) (list_all has_address others) h.addresses in
    let count : length first.table.0 ≡ 20 = eqb-true _ _ addresses.0 in
    let whole : size ∷ rest ≡ length first.name ∷ (first.name ++ behind) = h.are ∙ append_assoc (short first.name) first.table.0 text in
    let size_is : size ≡ length first.name = ap (λ (l : List ℕ). slice_index_or l 0 0) whole in
    let rest_is : rest ≡ first.name ++ behind = ap (drop 1) whole in
    let behind_is : drop size rest ≡ behind = ap (drop size) rest_is ∙ drop_at first.name behind size (sym size_is) in
    let table_is : take 20 (drop size rest) ≡ first.table.0 = ap (take 20) behind_is ∙ take_at first.table.0 text 20 count in
    let text_is : drop 20 (drop size rest) ≡ text = ap (drop 20) behind_is ∙ drop_at first.table.0 text 20 count in
    let long = ap length rest_is ∙ length-append first.name behind in
    let behind_long = ap length behind_is ∙ length-append first.table.0 text in
    record {
      name = omega arith;
      address = omega arith;
      first = record {
        name = first.name;
        others = others;
        both = ap (λ (l : List ℕ). record { name = first.name; table = record { 0 = l } } ∷ others) (sym table_is);
        listed = record { are = text_is; names = names.1; addresses = addresses.1 };
      };
    }

pub cut : (bytes : List ℕ) (size : ℕ) (rest : List ℕ) → bytes ≡ size ∷ rest → (tables : List TableEntry) → AreListed bytes tables → IsCut size rest tables
cut bytes size rest e [] h = absurd (apart (sym e ∙ h.are)) where
  apart : size ∷ rest ≡ [] → ⊥
  apart e = cc
cut bytes size rest e (first ∷ others) h =
    cut_first size rest first others (record { are = sym e ∙ h.are; names = h.names; addresses = h.addresses })

-- ---- branch records

abbrev pub as_commit : Address × List ℕ → Option Address × List ℕ
as_commit x = (Some x.0, x.1)

merging_again : (merging : Option Address) → is_address_or_none merging ≡ true → merging_at (merging_bytes merging) ≡ Some (merging, [])
merging_again None h = refl
merging_again (Some commit) h =
    ap (λ (l : List ℕ). option_map as_commit (address_at l)) (sym (append-nil commit.0))
    ∙ ap (λ (o : Option (Address × List ℕ)). option_map as_commit o) (address_again commit [] h)

abbrev pub made_branch : Address → Address → Address → Option Address → BranchRecord
made_branch head working staged merging = record { head = head; working = working; staged = staged; merging = merging }

abbrev pub after_merging : Address → Address → Address → Option Address × List ℕ → Option BranchRecord
after_merging head working staged merging = alone (made_branch head working staged merging.0, merging.1)

abbrev pub after_staged : Address → Address → Address × List ℕ → Option BranchRecord
after_staged head working staged = merging_at staged.1 >>= after_merging head working staged.0

abbrev pub after_working : Address → Address × List ℕ → Option BranchRecord
after_working head working = address_at working.1 >>= after_staged head working.0

abbrev pub after_head : Address × List ℕ → Option BranchRecord
after_head head = address_at head.1 >>= after_working head.0

pub branch_again : (b : BranchRecord) → IsBranch b → branch_of (branch_bytes b) ≡ Some b
unfolding branch_of
branch_again b h =
    let third = merging_bytes b.merging in
    let second = b.staged.0 ++ third in
    let first = b.working.0 ++ second in
    ap (λ (o : Option (Address × List ℕ)). o >>= after_head) (address_again b.head first h.head)
    ∙ ap (λ (o : Option (Address × List ℕ)). o >>= after_working b.head) (address_again b.working second h.working)
    ∙ ap (λ (o : Option (Address × List ℕ)). o >>= after_staged b.head b.working) (address_again b.staged third h.staged)
    ∙ ap (λ (o : Option (Option Address × List ℕ)). o >>= after_merging b.head b.working b.staged) (merging_again b.merging h.merging)

pub databases_one : (a b : List TableEntry) → IsStoredDatabase a → IsStoredDatabase b → written_database a ≡ written_database b → a ≡ b
databases_one a b ha hb same = some_is a b (sym (database_again a ha) ∙ ap database_of same ∙ database_again b hb)

pub branches_one : (a b : BranchRecord) → IsBranch a → IsBranch b → branch_bytes a ≡ branch_bytes b → a ≡ b
branches_one a b ha hb same = some_is a b (sym (branch_again a ha) ∙ ap branch_of same ∙ branch_again b hb)
