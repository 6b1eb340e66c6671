-- Tables taken from one database into another: by databases, and by lists of their tables.
use Rattle.std.proofs.Common.{◌≡◌, refl, sym, ap, ◌∙◌, subst, ℕ, Bool, true, false, cond, not, is_lt, is_eq, List, [], ◌∷◌, fold, filter, Option, None, Some, bytes_eq, if◌then◌else◌}
use Rattle.std.specs.List.{AllByRecursion, find, list_all}
use Rattle.std.specs.Option.{option_map}
use Rattle.std.specs.Ordering.{ordering_reverse}
use Rattle.std.specs.declared.cmp.Ordering.{Ordering}
use Rattle.std.specs.declared.cmp.Ordering.TheVariants.{Less, Equal, Greater}
use Rattle.tuple_codec.specs.declared.addresses.Address.{Address}
use Rattle.schema_model.specs.PlainTables as plain
use Rattle.schema_model.specs.PlainTables.{IsTable, PlainDatabase, PlainTable, rises}
use Rattle.schema_model.specs.Schemas.{is_name}
use Rattle.schema_model.specs.WrittenForms.{table_address}
use Rattle.chunk_store.specs.Chunks.{Chunks}
use Rattle.table_root.specs.Standing.{IsTableAt, named_tables}
use Rattle.table_root.specs.declared.records.TableEntry.{TableEntry}
use Rattle.plain_sql.specs.Lists.{has, placed}
use Rattle.plain_writes.specs.Violations.{is_called, table_in}
use Rattle.plain_schemas.specs.Effects.{placed_in, without_table}
use Rattle.plain_sessions.specs.Branching as plain_branching
use Rattle.plain_sessions.specs.Branching.{put_table, table_cmp}
use Rattle.sql_write.specs.Listing as listing
use Rattle.sql_write.specs.Putting.{address_in}
use Rattle.sql_write.proofs.ListingLemmas.{all_without, named_placed, named_without}
use Rattle.plain_writes.proofs.RowOrderLemmas.{both_so, clash, left_not, placed_past, placed_stop, right_not, turned, two}
use Rattle.keep_laws.proofs.KeptLemmas.{AreKept, IsKeptNamed, are_kept, by_name, have_so, within_are}
use Rattle.keep_laws.proofs.PutLemmas.{found_well, in_order_have, name_total, put_kept, tables_rise, taking_kept, apart_from}
use Rattle.keep_laws.proofs.RootLemmas.{TablesRise, tables_lower}
use Rattle.branch_procs.specs.Listing.{AreFewTables, AreTables}
use Rattle.branch_procs.specs.Taking.{put, taking, taking_all}
use Rattle.branch_procs.proofs.TablesLemmas.{few_so}

-- ---- one more in order, before those that rise

back : (r s : Ordering) → s ≡ ordering_reverse r → is_lt r ≡ true → is_lt s ≡ false
back Less s e p = ap is_lt e
back Equal s e p = clash p refl
back Greater s e p = clash p refl

behind : (low : plain.NamedTable) (rest : PlainDatabase) → TablesRise (Some low.name) rest → AllByRecursion (λ (r : plain.NamedTable). is_lt (table_cmp r low) ≡ false) rest
behind low [] t = tt
behind low (r ∷ rest) t =
    let total = name_total in
    (back (by_name low r) (by_name r low) (total.antisymm r low) t.0, behind low rest (tables_lower (Some low.name) r.name rest t.0 t.1))

stays_front : (y : plain.NamedTable) (rest held : PlainDatabase) → AllByRecursion (λ (r : plain.NamedTable). is_lt (table_cmp r y) ≡ false) rest
    → fold (placed table_cmp) (y ∷ held) rest ≡ y ∷ fold (placed table_cmp) held rest
stays_front y [] held h = refl
stays_front y (r ∷ rest) held h = ap (λ (l : PlainDatabase). fold (placed table_cmp) l rest) (placed_past table_cmp r y held h.0) ∙ stays_front y rest (placed table_cmp held r) h.1

in_order_same : (low : Option (List ℕ)) (rest : PlainDatabase) → TablesRise low rest → fold (placed table_cmp) [] rest ≡ rest
in_order_same low [] t = refl
in_order_same low (r ∷ rest) t = stays_front r rest [] (behind r rest t.1) ∙ ap (λ (l : PlainDatabase). r ∷ l) (in_order_same (Some r.name) rest t.1)

new_in : (new : plain.NamedTable) (low : Option (List ℕ)) (rest : PlainDatabase) → TablesRise low rest → has by_name rest new ≡ false
    → fold (placed table_cmp) (new ∷ []) rest ≡ placed_in new rest
new_in new low [] t apart = refl
new_in new low (r ∷ rest) t apart = two (is_lt (by_name new r))
    (λ e. stays_front new (r ∷ rest) [] (behind new (r ∷ rest) (e, t.1)) ∙ ap (λ (l : PlainDatabase). new ∷ l) (in_order_same low (r ∷ rest) t)
    ∙ sym (ap (λ b. if b then new ∷ r ∷ rest else r ∷ placed_in new rest) e))
    (λ e. ap (λ (l : PlainDatabase). fold (placed table_cmp) l rest) (placed_stop table_cmp r new [] (turned by_name name_total new r e (left_not (is_eq (by_name new r)) (has by_name rest new) apart)))
    ∙ stays_front r rest (new ∷ []) (behind r rest t.1)
    ∙ ap (λ (l : PlainDatabase). r ∷ l) (new_in new (Some r.name) rest t.1 (right_not (is_eq (by_name new r)) (has by_name rest new) apart))
    ∙ sym (ap (λ b. if b then new ∷ r ∷ rest else r ∷ placed_in new rest) e))

-- ---- one less

filter_rise : (keep : plain.NamedTable → Bool) (low : Option (List ℕ)) (database : PlainDatabase) → TablesRise low database → TablesRise low (filter keep database)
filter_rise keep low [] r = tt
filter_rise keep low (named ∷ database) r =
    let kept = filter_rise keep (Some named.name) database r.1 in
    let left = filter_rise keep low database (tables_lower low named.name database r.0 r.1) in
    elim (keep named) as (λ b. TablesRise low (cond b (named ∷ filter keep database) (filter keep database))) [
      | true ↦ (r.0, kept)
      | false ↦ left
    ]

-- ---- lists that name the tables of databases

abbrev pub at : (List ℕ → List ℕ) → PlainTable → Address
at address table = record { 0 = table_address address table }

pub found_named : (address : List ℕ → List ℕ) (database : PlainDatabase) (name : List ℕ) → address_in (named_tables address database) name ≡ option_map (at address) (table_in database name)
found_named address [] name = refl
found_named address (named ∷ database) name = two (bytes_eq named.name name)
    (λ e. ap (λ b. if b then Some (at address named.table) else address_in (named_tables address database) name) e
    ∙ sym (ap (λ b. option_map (at address) (option_map (λ (n : plain.NamedTable). n.table) (cond b (Some named) (find (is_called name) database)))) e))
    (λ e. ap (λ b. if b then Some (at address named.table) else address_in (named_tables address database) name) e
    ∙ found_named address database name
    ∙ sym (ap (λ b. option_map (at address) (option_map (λ (n : plain.NamedTable). n.table) (cond b (Some named) (find (is_called name) database)))) e))

put_named : (address : List ℕ → List ℕ) (name : List ℕ) (table : Option PlainTable) (database : PlainDatabase) → rises by_name database ≡ true
    → put name (option_map (at address) table) (named_tables address database) ≡ named_tables address (put_table name table database)
put_named address name None database r = named_without address name database
put_named address name (Some table) database r =
    let new : plain.NamedTable = record { name = name; table = table } in
    let rest = without_table name database in
    ap (listing.placed (record { name = name; table = at address table })) (named_without address name database)
    ∙ named_placed address new rest
    ∙ ap (named_tables address) (sym (new_in new None rest (filter_rise (λ (named : plain.NamedTable). not (is_called name named)) None database (tables_rise database r)) (apart_from name table database)))

pub taken_named : (address : List ℕ → List ℕ) (from into : PlainDatabase) (names : List (List ℕ)) → AllByRecursion IsKeptNamed from → AreKept into
    → taking_all (named_tables address from) (named_tables address into) names ≡ named_tables address (plain_branching.taking_all from into names)
taken_named address from into [] f i = refl
taken_named address from into (name ∷ names) f i =
    ap (λ (l : List TableEntry). fold (taking (named_tables address from)) l names)
    (ap (λ (o : Option Address). put name o (named_tables address into)) (found_named address from name) ∙ put_named address name (table_in from name) into i.rise)
    ∙ taken_named address from (plain_branching.taking from into name) names f (put_kept name (table_in from name) into (found_well name from f) i)

-- ---- what each table keeps

abbrev Perhaps : (PlainTable → Type 0) → Option PlainTable → Type 0
Perhaps Q None = Unit {0}
Perhaps Q (Some table) = Q table

module _ (Q : PlainTable → Type 0) where
  abbrev Named : plain.NamedTable → Type 0
  Named named = Q named.table

  found_has : (name : List ℕ) (database : PlainDatabase) → AllByRecursion Named database → Perhaps Q (table_in database name)
  found_has name [] h = tt
  found_has name (named ∷ database) h = two (is_called name named)
      (λ e. subst (Perhaps Q) (sym (ap (λ b. option_map (λ (n : plain.NamedTable). n.table) (cond b (Some named) (find (is_called name) database))) e)) h.0)
      (λ e. subst (Perhaps Q) (sym (ap (λ b. option_map (λ (n : plain.NamedTable). n.table) (cond b (Some named) (find (is_called name) database))) e)) (found_has name database h.1))

  put_has : (name : List ℕ) (table : Option PlainTable) (database : PlainDatabase) → Perhaps Q table → AllByRecursion Named database → AllByRecursion Named (put_table name table database)
  put_has name None database q h = all_without Named name database h
  put_has name (Some table) database q h = in_order_have table_cmp Named (record { name = name; table = table } ∷ without_table name database) (q, all_without Named name database h)

  pub taking_has : (from into : PlainDatabase) (names : List (List ℕ)) → AllByRecursion Named from → AllByRecursion Named into
      → AllByRecursion Named (plain_branching.taking_all from into names)
  taking_has from into [] f i = i
  taking_has from into (name ∷ names) f i =
      taking_has from (plain_branching.taking from into name) names f (put_has name (table_in from name) into (found_has name from f) i)

names_are : (database : PlainDatabase) → AllByRecursion IsKeptNamed database → list_all (λ (named : plain.NamedTable). is_name named.name) database ≡ true
names_are [] h = refl
names_are (named ∷ database) h = let here = h.0 in both_so here.is_name (names_are database h.1)

pub kept_of : (address : List ℕ → List ℕ) (chunks : Chunks) (tables : List TableEntry) (database : PlainDatabase) → AreFewTables address chunks tables database → AreKept database
kept_of address chunks tables database few =
    let are = few.tables_are in
    are_kept database (record { is_database = are.is_database; within = both_so (few_so database few.few) are.within })

-- the list that took the tables is of the database that took them
pub taken_are : (address : List ℕ → List ℕ) (chunks : Chunks) (ones others made : List TableEntry) (from into : PlainDatabase) (names : List (List ℕ)) → AreFewTables address chunks ones from
    → AreFewTables address chunks others into → made ≡ taking_all ones others names → AreTables address chunks made (plain_branching.taking_all from into names)
taken_are address chunks ones others made from into names few more is =
    let f = few.tables_are in
    let i = more.tables_are in
    let whole = plain_branching.taking_all from into names in
    let from_kept = kept_of address chunks ones from few in
    let into_kept = kept_of address chunks others into more in
    let kept = taking_kept from into names from_kept.tables into_kept in
    record {
      is_database = record {
        tables = have_so IsKeptNamed (λ named. IsTable named.table) whole (λ named h. let table = h.table in table.is_table) kept.tables;
        names = names_are whole kept.tables;
        rise = kept.rise;
      };
      within = within_are whole kept.tables;
      stand = taking_has (λ (table : PlainTable). IsTableAt address chunks (table_address address table) table) from into names f.stand i.stand;
      listed = is ∙ (λ j. taking_all (f.listed j) (i.listed j) names) ∙ taken_named address from into names from_kept.tables into_kept;
    }
