-- A database that takes a table, or its absence, from another.
use Rattle.std.proofs.Common.{◌≡◌, ◌≤◌, refl, sym, ap, ◌∙◌, subst, ℕ, suc, Bool, true, false, cond, not, ◌||◌, true≢false, nat_le, nat_cmp, is_lt, is_some, List, [], ◌∷◌, ◌++◌, filter, fold, length, Option, None, Some, bytes_eq, arith}
use Rattle.std.specs.Cmp.{IsTotalOrder, tied_itself}
use Rattle.std.specs.Cmp.Lexicographic.{bytes_decides, slice_cmp}
use Rattle.std.specs.List.{AllByRecursion, find, list_all, list_any}
use Rattle.std.specs.Option.{option_map}
use Rattle.std.specs.declared.cmp.Ordering.{Ordering}
use Rattle.std.proofs.lemmas.Bool.{and_parts, le-leb, leb-true, not-true, or_left, or_right, false_from_ne_true as not_so}
use Rattle.std.proofs.lemmas.Cmp.{nat_list_cmp_total, on_total}
use Rattle.std.proofs.lemmas.Map.Text.{is_eq-slice_cmp}
use Rattle.schema_model.specs.Limits.{is_short_name, most_tables}
use Rattle.schema_model.specs.PlainTables.{NamedTable, PlainDatabase, PlainTable, rises}
use Rattle.schema_model.specs.Schemas.{is_name}
use Rattle.plain_sql.specs.Lists.{has, in_order, placed}
use Rattle.plain_writes.specs.Violations.{is_called, table_in}
use Rattle.plain_writes.proofs.SortLemmas.{risen_once}
use Rattle.plain_schemas.specs.Effects.{without_table}
use Rattle.plain_sessions.specs.Branching.{is_in, names_in, put_table, table_cmp, taking, taking_all}
use Rattle.keep_laws.proofs.ListLemmas.{filter_few, filter_have, filter_keep}
use Rattle.plain_writes.proofs.RowOrderLemmas.{both_so, either_way, in_order_length, in_order_rises, neither_so, placed_past, placed_stop, two}
use Rattle.keep_laws.proofs.KeptLemmas.{AreKept, IsKeptNamed, by_name, have_so}
use Rattle.keep_laws.proofs.OnceLemmas.{none_tied}
use Rattle.keep_laws.proofs.RootLemmas.{TablesRise, rise_behind, rises_of, tables_lower}

-- ---- in order

module _ {A : Type 0} (compare : A → A → Ordering) (P : A → Type 0) where
  placed_have : (x : A) (ys : List A) → P x → AllByRecursion P ys → AllByRecursion P (placed compare ys x)
  placed_have x [] p h = (p, tt)
  placed_have x (y ∷ ys) p h = two (is_lt (compare x y))
      (λ e. subst (AllByRecursion P) (sym (placed_stop compare x y ys e)) (p, h))
      (λ e. subst (AllByRecursion P) (sym (placed_past compare x y ys e)) (h.0, placed_have x ys p h.1))

  fold_have : (xs held : List A) → AllByRecursion P held → AllByRecursion P xs → AllByRecursion P (fold (placed compare) held xs)
  fold_have [] held h g = h
  fold_have (x ∷ xs) held h g = fold_have xs (placed compare held x) (placed_have x held g.0 h) g.1

  pub in_order_have : (xs : List A) → AllByRecursion P xs → AllByRecursion P (in_order compare xs)
  in_order_have xs h = fold_have xs [] tt h

-- ---- names that rise

pub name_total : IsTotalOrder by_name
name_total = on_total (λ (named : NamedTable). named.name) nat_list_cmp_total

pub tables_rise : (database : PlainDatabase) → rises by_name database ≡ true → TablesRise None database
tables_rise [] h = tt
tables_rise (named ∷ database) h = (refl, rise_behind named database h)

filter_rise : (keep : NamedTable → Bool) (low : Option (List ℕ)) (database : PlainDatabase) → TablesRise low database → TablesRise low (filter keep database)
filter_rise keep low [] r = tt
filter_rise keep low (named ∷ database) r =
    let kept = filter_rise keep (Some named.name) database r.1 in
    let left = filter_rise keep low database (tables_lower low named.name database r.0 r.1) in
    elim (keep named) as (λ b. TablesRise low (cond b (named ∷ filter keep database) (filter keep database))) [
      | true ↦ (r.0, kept)
      | false ↦ left
    ]

-- ---- a table found

abbrev pub IsFoundWell : List ℕ → Option PlainTable → Type 0
IsFoundWell name None = Unit {0}
IsFoundWell name (Some table) = IsKeptNamed (record { name = name; table = table })

pub found_well : (name : List ℕ) (database : PlainDatabase) → AllByRecursion IsKeptNamed database → IsFoundWell name (table_in database name)
found_well name [] h = tt
found_well name (named ∷ database) h = two (is_called name named)
    (λ e. let here = h.0 in
    let same : named.name ≡ name = (bytes_decides named.name name).0 e in
    subst (IsFoundWell name) (sym (ap (λ b. option_map (λ (named : NamedTable). named.table) (cond b (Some named) (find (is_called name) database))) e))
    (record { is_name = ap is_name (sym same) ∙ here.is_name; short = ap is_short_name (sym same) ∙ here.short; table = here.table }))
    (λ e. subst (IsFoundWell name) (sym (ap (λ b. option_map (λ (named : NamedTable). named.table) (cond b (Some named) (find (is_called name) database))) e))
    (found_well name database h.1))

-- ---- a table put

without_kept : (name : List ℕ) (database : PlainDatabase) → AreKept database → AreKept (without_table name database)
without_kept name database are =
    let keep = λ (named : NamedTable). not (is_called name named) in
    record {
      tables = filter_have keep IsKeptNamed database are.tables;
      rise = rises_of None (filter keep database) (filter_rise keep None database (tables_rise database are.rise));
    }

pub apart_from : (name : List ℕ) (table : PlainTable) (database : PlainDatabase) → has by_name (without_table name database) (record { name = name; table = table }) ≡ false
apart_from name table database =
    let keep = λ (named : NamedTable). not (is_called name named) in
    let new : NamedTable = record { name = name; table = table } in
    none_tied by_name keep new (filter keep database)
    (λ y h. either_way by_name name_total new y ∙ is_eq-slice_cmp y.name name ∙ not-true _ h) (filter_keep keep database)

pub put_kept : (name : List ℕ) (table : Option PlainTable) (database : PlainDatabase) → IsFoundWell name table → AreKept database → AreKept (put_table name table database)
put_kept name None database w are = without_kept name database are
put_kept name (Some table) database w are =
    let new : NamedTable = record { name = name; table = table } in
    let rest = without_kept name database are in
    record {
      tables = in_order_have table_cmp IsKeptNamed (new ∷ without_table name database) (w, rest.tables);
      rise = in_order_rises by_name name_total (new ∷ without_table name database)
          (neither_so (apart_from name table database) (risen_once by_name name_total (without_table name database) rest.rise));
    }

pub taking_kept : (from into : PlainDatabase) (names : List (List ℕ)) → AllByRecursion IsKeptNamed from → AreKept into → AreKept (taking_all from into names)
taking_kept from into [] f i = i
taking_kept from into (name ∷ names) f i = taking_kept from (taking from into name) names f (put_kept name (table_in from name) into (found_well name from f) i)

-- ---- as many as before, where the table was there

fewer : (name : List ℕ) (database : PlainDatabase) → is_in database name ≡ true → suc (length (without_table name database)) ≤ length database
fewer name [] h = absurd (true≢false (sym h))
fewer name (named ∷ database) h =
    let few : length (without_table name database) ≤ length database = filter_few (λ (named : NamedTable). not (is_called name named)) database in
    two (is_called name named)
    (λ e. subst (λ n. suc n ≤ suc (length database)) (sym (ap (λ b. length (cond (not b) (named ∷ without_table name database) (without_table name database))) e)) (omega arith))
    (λ e. let more : suc (length (without_table name database)) ≤ length database
    = fewer name database (sym (ap (λ b. is_some (option_map (λ (named : NamedTable). named.table) (cond b (Some named) (find (is_called name) database)))) e) ∙ h) in
    subst (λ n. suc n ≤ suc (length database)) (sym (ap (λ b. length (cond (not b) (named ∷ without_table name database) (without_table name database))) e)) (omega arith))

pub put_few : (name : List ℕ) (table : PlainTable) (database : PlainDatabase) → is_in database name ≡ true → nat_le (length database) most_tables ≡ true
    → nat_le (length (put_table name (Some table) database)) most_tables ≡ true
put_few name table database there few =
    let size : length (put_table name (Some table) database) ≡ suc (length (without_table name database)) = in_order_length table_cmp (record { name = name; table = table } ∷ without_table name database) in
    let less = fewer name database there in
    let most = leb-true (length database) most_tables few in
    le-leb (length (put_table name (Some table) database)) most_tables (omega (arith, size, less, most))

-- ---- no more tables than there are names

abbrev other : List ℕ → NamedTable → Bool
other name named = not (bytes_eq name named.name)

name_apart : (low name : List ℕ) → is_lt (slice_cmp nat_cmp low name) ≡ true → bytes_eq low name ≡ false
name_apart low name p = not_so _ (λ e.
    let same : low ≡ name = (bytes_decides low name).0 e in
    true≢false (sym p ∙ ap is_lt (ap (slice_cmp nat_cmp low) (sym same) ∙ tied_itself nat_list_cmp_total low)))

others_above : (low : List ℕ) (database : PlainDatabase) → TablesRise (Some low) database → list_all (other low) database ≡ true
others_above low [] r = refl
others_above low (named ∷ database) r = both_so (ap not (name_apart low named.name r.0)) (others_above low database (tables_lower (Some low) named.name database r.0 r.1))

all_stay : (keep : NamedTable → Bool) (database : PlainDatabase) → list_all keep database ≡ true → length (filter keep database) ≡ length database
all_stay keep [] h = refl
all_stay keep (named ∷ database) h =
    let parts = and_parts (keep named) (list_all keep database) h in
    ap (λ b. length (cond b (named ∷ filter keep database) (filter keep database))) parts.0 ∙ ap suc (all_stay keep database parts.1)

one_goes : (name : List ℕ) (low : Option (List ℕ)) (database : PlainDatabase) → TablesRise low database → length database ≤ suc (length (filter (other name) database))
one_goes name low [] r = omega arith
one_goes name low (named ∷ database) r = two (bytes_eq name named.name)
    (λ e. let same : name ≡ named.name = (bytes_decides name named.name).0 e in
    let all : length (filter (other name) database) ≡ length database = all_stay (other name) database (others_above name database (subst (λ (n : List ℕ). TablesRise (Some n) database) (sym same) r.1)) in
    subst (λ n. suc (length database) ≤ suc n) (sym (ap (λ b. length (cond (not b) (named ∷ filter (other name) database) (filter (other name) database))) e)) (omega (arith, all)))
    (λ e. let more : length database ≤ suc (length (filter (other name) database)) = one_goes name (Some named.name) database r.1 in
    subst (λ n. suc (length database) ≤ suc n) (sym (ap (λ b. length (cond (not b) (named ∷ filter (other name) database) (filter (other name) database))) e)) (omega (arith, more)))

abbrev StandIn : PlainDatabase → PlainDatabase → Type 0
StandIn there database = AllByRecursion (λ (named : NamedTable). is_in there named.name ≡ true) database

others_in : (first : NamedTable) (there database : PlainDatabase) → StandIn (first ∷ there) database → StandIn there (filter (other first.name) database)
others_in first there [] h = tt
others_in first there (named ∷ database) h =
    let more = others_in first there database h.1 in
    two (bytes_eq first.name named.name)
    (λ e. subst (StandIn there) (sym (ap (λ b. cond (not b) (named ∷ filter (other first.name) database) (filter (other first.name) database)) e)) more)
    (λ e. subst (StandIn there) (sym (ap (λ b. cond (not b) (named ∷ filter (other first.name) database) (filter (other first.name) database)) e))
    (sym (ap (λ b. is_some (option_map (λ (one : NamedTable). one.table) (cond b (Some first) (find (is_called named.name) there)))) e) ∙ h.0, more))

pub no_more : (there database : PlainDatabase) → TablesRise None database → StandIn there database → length database ≤ length there
no_more [] [] r h = omega arith
no_more [] (named ∷ database) r h = absurd (true≢false (sym h.0))
no_more (first ∷ there) database r h =
    let rest : length (filter (other first.name) database) ≤ length there = no_more there (filter (other first.name) database) (filter_rise (other first.name) None database r) (others_in first there database h) in
    let one = one_goes first.name None database r in
    omega (arith, rest, one)

-- ---- taken by these names, a table stands in the other database or its name is still to come

abbrev IsLeft : PlainDatabase → List (List ℕ) → NamedTable → Type 0
IsLeft from names named = (is_in from named.name || list_any (bytes_eq named.name) names) ≡ true

or_false : (a b c : Bool) → b ≡ false → (a || (b || c)) ≡ (a || c)
or_false a b c e = ap (λ t. a || (t || c)) e

without_left : (from : PlainDatabase) (name : List ℕ) (names : List (List ℕ)) (into : PlainDatabase) → AllByRecursion (IsLeft from (name ∷ names)) into
    → AllByRecursion (IsLeft from names) (without_table name into)
without_left from name names [] h = tt
without_left from name names (named ∷ into) h =
    let more = without_left from name names into h.1 in
    two (is_called name named)
    (λ e. subst (AllByRecursion (IsLeft from names)) (sym (ap (λ b. cond (not b) (named ∷ without_table name into) (without_table name into)) e)) more)
    (λ e. subst (AllByRecursion (IsLeft from names)) (sym (ap (λ b. cond (not b) (named ∷ without_table name into) (without_table name into)) e))
    (sym (or_false (is_in from named.name) (bytes_eq named.name name) (list_any (bytes_eq named.name) names) e) ∙ h.0, more))

put_left : (from : PlainDatabase) (name : List ℕ) (names : List (List ℕ)) (into : PlainDatabase) (table : Option PlainTable) → table_in from name ≡ table
    → AllByRecursion (IsLeft from (name ∷ names)) into → AllByRecursion (IsLeft from names) (put_table name table into)
put_left from name names into None e h = without_left from name names into h
put_left from name names into (Some table) e h =
    in_order_have table_cmp (IsLeft from names) (record { name = name; table = table } ∷ without_table name into)
    (ap (λ (o : Option PlainTable). is_some o || list_any (bytes_eq name) names) e, without_left from name names into h)

taking_left : (from into : PlainDatabase) (names : List (List ℕ)) → AllByRecursion (IsLeft from names) into → AllByRecursion (IsLeft from []) (taking_all from into names)
taking_left from into [] h = h
taking_left from into (name ∷ names) h = taking_left from (taking from into name) names (put_left from name names into (table_in from name) refl h)

names_there : (database : PlainDatabase) (more : List (List ℕ)) → AllByRecursion (λ (named : NamedTable). list_any (bytes_eq named.name) (names_in database ++ more) ≡ true) database
names_there [] more = tt
names_there (named ∷ database) more = (
  or_left _ _ ((bytes_decides named.name named.name).1 refl),
  have_so (λ (one : NamedTable). list_any (bytes_eq one.name) (names_in database ++ more) ≡ true) (λ (one : NamedTable). list_any (bytes_eq one.name) (names_in (named ∷ database) ++ more) ≡ true) database
      (λ one h. or_right (bytes_eq one.name named.name) _ h) (names_there database more),
)

or_nothing : (b : Bool) → (b || false) ≡ true → b ≡ true
or_nothing true e = refl
or_nothing false e = e

-- where all its names are taken, no more tables are there than in the other
pub taking_few : (from into : PlainDatabase) (more : List (List ℕ)) → AllByRecursion IsKeptNamed from → AreKept into → nat_le (length from) most_tables ≡ true
    → nat_le (length (taking_all from into (names_in into ++ more))) most_tables ≡ true
taking_few from into more f i few =
    let names = names_in into ++ more in
    let whole = taking_all from into names in
    let kept = taking_kept from into names f i in
    let left = taking_left from into names (have_so (λ (one : NamedTable). list_any (bytes_eq one.name) names ≡ true) (IsLeft from names) into (λ one h. or_right (is_in from one.name) _ h) (names_there into more)) in
    let size = no_more from whole (tables_rise whole kept.rise) (have_so (IsLeft from []) (λ (one : NamedTable). is_in from one.name ≡ true) whole (λ one h. or_nothing (is_in from one.name) h) left) in
    let most = leb-true (length from) most_tables few in
    le-leb (length whole) most_tables (omega (arith, size, most))
