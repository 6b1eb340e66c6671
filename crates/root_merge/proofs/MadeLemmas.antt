-- The tables of a merged database, made one by one.
use Rattle.std.proofs.Common.{◌≡◌, ◌≤◌, ◌<◌, ◌+◌, ◌*◌, refl, sym, ap, ◌∙◌, subst, ℕ, true, false, Bool, cond, ◌&&◌, List, [], ◌∷◌, ◌++◌, append_assoc, length, map, Option, Some, None, Result, Ok, Err, suc, arith, nat_cmp, is_lt}
use Rattle.std.specs.Cmp.Lexicographic.{slice_cmp}
use Rattle.std.specs.List.{AllByRecursion, list_all}
use Rattle.std.proofs.lemmas.Bool.{and_parts, and_from}
use Rattle.tuple_codec.specs.declared.addresses.Address.{Address}
use Rattle.schema_model.specs.Limits.{is_database_within_limits, is_named_within_limits, is_short_name, is_table_within_limits}
use Rattle.schema_model.specs.PlainTables as plain
use Rattle.schema_model.specs.PlainTables.{IsTable, PlainDatabase, PlainTable, rises}
use Rattle.schema_model.specs.WrittenForms.{table_address}
use Rattle.schema_model.proofs.SizeLemmas.{kept_few}
use Rattle.chunk_store.specs.Chunks.{Chunks, Extends}
use Rattle.table_root.specs.Standing.{AreThere, IsTableAt, TablesStand, named_tables}
use Rattle.table_root.specs.declared.records.TableEntry.{TableEntry}
use Rattle.table_root.proofs.ListingLemmas.{made_count}
use Rattle.schema_merge.specs.RootMerge.{MergedDatabase, MergedTable, SchemaConflict, step, unmerged, with_table}
use Rattle.root_merge.specs.Choosing.{LeadsTo}
use Rattle.root_merge.specs.Kept.{AreKept, IsKeptPerhaps, IsKeptTable}
use Rattle.root_merge.specs.Merging.{AreMade, HaveTableNames, are_within, is_within_perhaps}
use Rattle.root_merge.specs.Names.{LeadTo, Wanted, listed_as, together}
use Rattle.root_merge.specs.declared.choosing.Choice.{Choice}
use Rattle.root_merge.specs.declared.choosing.Choice.TheVariants as choice
use Rattle.root_merge.specs.declared.names.Named.{Named}
use Rattle.root_merge.proofs.KeptLemmas.{kept_named, perhaps_later, sides_later}
use Rattle.root_merge.proofs.MergedLemmas.{database_within, step_parts}

-- ---- later

leads_later : (address : List ℕ → List ℕ) (old new : Chunks) → Extends old new → TablesStand → (made : Choice) (wanted : Result MergedTable (List ℕ)) → LeadsTo address old made wanted → LeadsTo address new made wanted
leads_later address old new more laws (choice.Whole whole) wanted leads = (leads.0, perhaps_later address old new more laws whole leads.0 leads.1, leads.2)
leads_later address old new more laws (choice.Rows base ours theirs) wanted leads = (leads.0, sides_later address old new more laws base ours theirs leads.0 leads.1, leads.2)
leads_later address old new more laws choice.Nothing wanted leads = leads

pub lead_later : (address : List ℕ → List ℕ) (old new : Chunks) → Extends old new → TablesStand → (names : List Named) (wanted : List Wanted) → LeadTo address old names wanted → LeadTo address new names wanted
lead_later address old new more laws [] [] lead = tt
lead_later address old new more laws [] (w ∷ wanted) lead = absurd lead
lead_later address old new more laws (named ∷ names) [] lead = absurd lead
lead_later address old new more laws (named ∷ names) (w ∷ wanted) lead =
    (lead.0, leads_later address old new more laws named.choice w.table lead.1, lead_later address old new more laws names wanted lead.2)

stand_later : (address : List ℕ → List ℕ) (old new : Chunks) → Extends old new → TablesStand → (database : PlainDatabase)
    → AllByRecursion (λ named. IsTableAt address old (table_address address named.table) named.table) database
    → AllByRecursion (λ named. IsTableAt address new (table_address address named.table) named.table) database
stand_later address old new more laws [] stand = tt
stand_later address old new more laws (named ∷ database) stand =
    (laws.later address old new (table_address address named.table) named.table more stand.0, stand_later address old new more laws database stand.1)

pub made_later : (address : List ℕ → List ℕ) (old new : Chunks) → Extends old new → TablesStand → (made : List TableEntry) (database : PlainDatabase) → AreMade address old made database → AreMade address new made database
made_later address old new more laws made database are =
    record { there = record { stand = stand_later address old new more laws database are.there.stand; listed = are.there.listed }; within = are.within }

pub kept_later : (address : List ℕ → List ℕ) (old new : Chunks) → Extends old new → TablesStand → (made : List TableEntry) (database : PlainDatabase) → AreKept address old made database → AreKept address new made database
kept_later address old new more laws made database are = record {
  is_database = are.is_database;
  within = are.within;
  there = record { stand = stand_later address old new more laws database are.there.stand; listed = are.there.listed };
}

-- ---- one table more

stand_joined : (address : List ℕ → List ℕ) (chunks : Chunks) (done more : PlainDatabase)
    → AllByRecursion (λ named. IsTableAt address chunks (table_address address named.table) named.table) done
    → AllByRecursion (λ named. IsTableAt address chunks (table_address address named.table) named.table) more
    → AllByRecursion (λ named. IsTableAt address chunks (table_address address named.table) named.table) (done ++ more)
stand_joined address chunks [] more one two = two
stand_joined address chunks (named ∷ done) more one two = (one.0, stand_joined address chunks done more one.1 two)

within_joined : (done more : PlainDatabase) → are_within done ≡ true → are_within more ≡ true → are_within (done ++ more) ≡ true
within_joined [] more one two = two
within_joined (named ∷ done) more one two =
    let both = and_parts (is_table_within_limits named.table) (are_within done) one in
    and_from (is_table_within_limits named.table) (are_within (done ++ more)) both.0 (within_joined done more both.1 two)

listed_joined : (address : List ℕ → List ℕ) (done more : PlainDatabase) → named_tables address (done ++ more) ≡ named_tables address done ++ named_tables address more
listed_joined address [] more = refl
listed_joined address (named ∷ done) more = ap (λ (rest : List TableEntry). record { name = named.name; table = record { 0 = table_address address named.table } } ∷ rest) (listed_joined address done more)

pub made_joined : (address : List ℕ → List ℕ) (chunks : Chunks) (made others : List TableEntry) (done more : PlainDatabase) → AreMade address chunks made done → AreMade address chunks others more
    → AreMade address chunks (made ++ others) (done ++ more)
made_joined address chunks made others done more one two = record {
  there = record {
    stand = stand_joined address chunks done more one.there.stand two.there.stand;
    listed = (λ i. one.there.listed i ++ two.there.listed i) ∙ sym (listed_joined address done more);
  };
  within = within_joined done more one.within two.within;
}

pub made_one : (address : List ℕ → List ℕ) (chunks : Chunks) (name : List ℕ) (k : Option Address) (table : Option PlainTable) → IsKeptPerhaps address chunks k table
    → AreMade address chunks (listed_as name k) (with_table name table [])
made_one address chunks name None None kept = record { there = record { stand = tt; listed = refl }; within = refl }
made_one address chunks name (Some k) (Some table) kept = record {
  there = record {
    stand = (subst (λ (a : List ℕ). IsTableAt address chunks a table) (sym kept.stands.named) kept.stands, tt);
    listed = ap (λ (a : List ℕ). record { name = name; table = record { 0 = a } } ∷ []) (sym kept.stands.named);
  };
  within = and_from (is_table_within_limits table) true kept.within refl;
}
made_one address chunks name None (Some table) kept = absurd kept
made_one address chunks name (Some k) None kept = absurd kept

pub table_first : (name : List ℕ) (table : Option PlainTable) (done database : PlainDatabase) → (done ++ with_table name table []) ++ database ≡ done ++ with_table name table database
table_first name None done database = append_assoc done [] database
table_first name (Some table) done database = append_assoc done (record { name = name; table = table } ∷ []) database

-- ---- limits

pub first_passes : (name : List ℕ) (table : Option PlainTable) (database : PlainDatabase) → is_within_perhaps table ≡ false → are_within (with_table name table database) ≡ false
first_passes name None database fails = absurd cc
first_passes name (Some table) database fails = ap (λ b. b && are_within database) fails

pub later_passes : (name : List ℕ) (table : Option PlainTable) (database : PlainDatabase) → are_within database ≡ false → are_within (with_table name table database) ≡ false
later_passes name None database fails = fails
later_passes name (Some table) database fails = by (is_table_within_limits table) where
  by : (b : Bool) → (b && are_within database) ≡ false
  by true = fails
  by false = refl

-- ---- the whole database

tables_of : (address : List ℕ → List ℕ) (chunks : Chunks) (database : PlainDatabase) → AllByRecursion (λ named. IsTableAt address chunks (table_address address named.table) named.table) database
    → AllByRecursion (λ named. IsTable named.table) database
tables_of address chunks [] stand = tt
tables_of address chunks (named ∷ database) stand = (stand.0.is_table, tables_of address chunks database stand.1)

pub all_made : (address : List ℕ → List ℕ) (chunks : Chunks) (made : List TableEntry) (database : PlainDatabase) → AreMade address chunks made database → HaveTableNames database → length database ≤ 256
    → AreKept address chunks made database
all_made address chunks made database are named few = record {
  is_database = record { tables = tables_of address chunks database are.there.stand; names = named.names; rise = named.rise };
  within = database_within database few named are.within;
  there = are.there;
}

pub kept_count : (address : List ℕ → List ℕ) (chunks : Chunks) (tables : List TableEntry) (database : PlainDatabase) → AreKept address chunks tables database → length tables ≤ 256
kept_count address chunks tables database kept =
    subst (λ (n : ℕ). n ≤ 256) (sym (ap (λ (list : List TableEntry). length list) kept.there.listed ∙ made_count address database)) (kept_few database kept.within)

-- ---- what is written

short_listed : (address : List ℕ → List ℕ) (database : PlainDatabase) → list_all is_named_within_limits database ≡ true
    → list_all (λ (named : TableEntry). is_short_name named.name) (named_tables address database) ≡ true
short_listed address [] within = refl
short_listed address (named ∷ database) within =
    let both = and_parts (is_named_within_limits named) (list_all is_named_within_limits database) within in
    and_from (is_short_name named.name) (list_all (λ (n : TableEntry). is_short_name n.name) (named_tables address database))
    (and_parts (is_short_name named.name) (is_table_within_limits named.table) both.0).0 (short_listed address database both.1)

pub kept_short : (address : List ℕ → List ℕ) (chunks : Chunks) (tables : List TableEntry) (database : PlainDatabase) → AreKept address chunks tables database
    → list_all (λ (named : TableEntry). is_short_name named.name) tables ≡ true
kept_short address chunks tables database kept =
    ap (λ (list : List TableEntry). list_all (λ (named : TableEntry). is_short_name named.name) list) kept.there.listed ∙ short_listed address database (kept_named database kept.within)

rise_listed : (address : List ℕ → List ℕ) (database : PlainDatabase)
    → rises (λ (a b : TableEntry). slice_cmp nat_cmp a.name b.name) (named_tables address database) ≡ rises (λ (a b : plain.NamedTable). slice_cmp nat_cmp a.name b.name) database
rise_listed address [] = refl
rise_listed address (named ∷ []) = refl
rise_listed address (named ∷ next ∷ database) = ap (λ b. is_lt (slice_cmp nat_cmp named.name next.name) && b) (rise_listed address (next ∷ database))

pub kept_rise : (address : List ℕ → List ℕ) (chunks : Chunks) (tables : List TableEntry) (database : PlainDatabase) → AreKept address chunks tables database
    → rises (λ (a b : TableEntry). slice_cmp nat_cmp a.name b.name) tables ≡ true
kept_rise address chunks tables database kept =
    ap (λ (list : List TableEntry). rises (λ (a b : TableEntry). slice_cmp nat_cmp a.name b.name) list) kept.there.listed ∙ rise_listed address database ∙ kept.is_database.rise

pub kept_again : (address : List ℕ → List ℕ) (old new : Chunks) → Extends old new → TablesStand → (tables : List TableEntry) (database : PlainDatabase) → AreKept address old tables database
    → AllByRecursion (λ named. IsTableAt address new (table_address address named.table) named.table) database
kept_again address old new more laws tables database kept = stand_later address old new more laws database kept.there.stand
