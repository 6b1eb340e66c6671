-- A database with a table less, and with a table more.
use Rattle.std.proofs.Common.{subst, Ok, Err, ◌≡◌, ◌≤◌, refl, sym, ap, ◌∙◌, ℕ, suc, Bool, true, false, cond, not, true≢false, nat_le, nat_cmp, is_lt, List, [], ◌∷◌, filter, length, arith}
use Rattle.std.specs.Cmp.{IsTotalOrder}
use Rattle.std.specs.Cmp.Lexicographic.{bytes_decides, slice_cmp}
use Rattle.std.specs.FinMap.{nat_cmp-IsAntisymmetric, slice_cmp-IsAntisymmetric}
use Rattle.std.specs.List.{list_all, AllByRecursion}
use Rattle.std.specs.declared.cmp.Ordering.{Ordering}
use Rattle.std.specs.declared.cmp.Ordering.TheVariants.{Less, Equal, Greater}
use Rattle.std.specs.Ordering.{ordering_reverse}
use Rattle.std.proofs.lemmas.Bool.{and_parts, le-leb, leb-false, leb-true, or_parts}
use Rattle.std.proofs.lemmas.Cmp.{nat_list_cmp_total, on_total}
use Rattle.tuple_codec.proofs.Orderings.{less_is as less_so}
use Rattle.schema_model.specs.Limits.{is_named_within_limits, most_tables}
use Rattle.schema_model.specs.PlainTables.{IsTable, NamedTable, PlainDatabase, rises}
use Rattle.schema_model.specs.Schemas.{is_name}
use Rattle.plain_writes.specs.Violations.{is_called}
use Rattle.plain_schemas.specs.Effects.{changed_to, is_there, placed_in, without_table}
use Rattle.plain_writes.specs.WriteLaws.{IsKept}
use Rattle.keep_laws.proofs.ListLemmas.{filter_all, filter_few, filter_have}
use Rattle.plain_writes.specs.Writes.{Effect}
use Rattle.expr_eval.specs.Binding.{Outcome}
use Rattle.plain_writes.proofs.OutcomeLemmas.{ok_same}
use Rattle.plain_writes.proofs.RowOrderLemmas.{both_so, two}

-- ---- tables by rising names

abbrev by_name : NamedTable → NamedTable → Ordering
by_name a b = slice_cmp nat_cmp a.name b.name

by_name_total : IsTotalOrder by_name
by_name_total = on_total (λ (named : NamedTable). named.name) nat_list_cmp_total

below_through : (x y z : NamedTable) → is_lt (by_name x y) ≡ true → is_lt (by_name y z) ≡ true → is_lt (by_name x z) ≡ true
below_through x y z p q = ap is_lt (by_name_total.trans x y z (less_so (by_name x y) p) (less_so (by_name y z) q))

rises_past : (x y : NamedTable) (ys : PlainDatabase) → rises by_name (x ∷ y ∷ ys) ≡ true → rises by_name (x ∷ ys) ≡ true
rises_past x y [] h = refl
rises_past x y (z ∷ ys) h =
    let first = and_parts (is_lt (by_name x y)) (rises by_name (y ∷ z ∷ ys)) h in
    let second = and_parts (is_lt (by_name y z)) (rises by_name (z ∷ ys)) first.1 in
    both_so (below_through x y z first.0 second.0) second.1

rises_behind : (x : NamedTable) (xs : PlainDatabase) → rises by_name (x ∷ xs) ≡ true → rises by_name xs ≡ true
rises_behind x [] h = refl
rises_behind x (y ∷ ys) h = (and_parts (is_lt (by_name x y)) (rises by_name (y ∷ ys)) h).1

-- ---- a table less

module _ (keep : NamedTable → Bool) where
  filter_behind : (x : NamedTable) (ys : PlainDatabase) → rises by_name (x ∷ ys) ≡ true → rises by_name (x ∷ filter keep ys) ≡ true
  filter_behind x [] h = refl
  filter_behind x (y ∷ ys) h = two (keep y)
      (λ e. ap (λ b. rises by_name (x ∷ cond b (y ∷ filter keep ys) (filter keep ys))) e
      ∙ both_so (and_parts (is_lt (by_name x y)) (rises by_name (y ∷ ys)) h).0 (filter_behind y ys (and_parts (is_lt (by_name x y)) (rises by_name (y ∷ ys)) h).1))
      (λ e. ap (λ b. rises by_name (x ∷ cond b (y ∷ filter keep ys) (filter keep ys))) e ∙ filter_behind x ys (rises_past x y ys h))

  filter_rises : (xs : PlainDatabase) → rises by_name xs ≡ true → rises by_name (filter keep xs) ≡ true
  filter_rises [] h = refl
  filter_rises (x ∷ xs) h = two (keep x)
      (λ e. ap (λ b. rises by_name (cond b (x ∷ filter keep xs) (filter keep xs))) e ∙ filter_behind x xs h)
      (λ e. ap (λ b. rises by_name (cond b (x ∷ filter keep xs) (filter keep xs))) e ∙ filter_rises xs (rises_behind x xs h))

fewer : (m n : ℕ) → m ≤ n → nat_le n most_tables ≡ true → nat_le m most_tables ≡ true
fewer m n few h = let most = leb-true n most_tables h in le-leb m most_tables (omega arith)

pub without_kept : (name : List ℕ) (database : PlainDatabase) → IsKept database → IsKept (without_table name database)
without_kept name database kept =
    let keep = λ (named : NamedTable). not (is_called name named) in
    let parts = and_parts (nat_le (length database) most_tables) (list_all is_named_within_limits database) kept.within in
    record {
      is_database = record {
        tables = filter_have keep (λ named. IsTable named.table) database kept.is_database.tables;
        names = filter_all keep (λ named. is_name named.name) database kept.is_database.names;
        rise = filter_rises keep database kept.is_database.rise;
      };
      within = both_so (fewer (length (filter keep database)) (length database) (filter_few keep database) parts.0) (filter_all keep is_named_within_limits database parts.1);
    }

-- ---- a table more

same_name : (a b : List ℕ) → slice_cmp nat_cmp a b ≡ Equal → a ≡ b
same_name a b e = slice_cmp-IsAntisymmetric nat_cmp-IsAntisymmetric a b e

turned : (a b : Ordering) → b ≡ ordering_reverse a → is_lt a ≡ false → (a ≡ Equal → ⊥) → is_lt b ≡ true
turned Less b e p q = absurd (true≢false p)
turned Equal b e p q = absurd (q refl)
turned Greater b e p q = ap is_lt e

-- a table of another name that isn't before comes behind
comes_behind : (new named : NamedTable) → is_called new.name named ≡ false → is_lt (by_name new named) ≡ false → is_lt (by_name named new) ≡ true
comes_behind new named other at = turned (by_name new named) (by_name named new) (by_name_total.antisymm named new) at
    (λ e. true≢false (sym ((bytes_decides named.name new.name).1 (sym (same_name new.name named.name e))) ∙ other))

placed_behind : (x new : NamedTable) (ys : PlainDatabase) → is_lt (by_name x new) ≡ true → rises by_name (x ∷ ys) ≡ true → is_there ys new.name ≡ false
    → rises by_name (x ∷ placed_in new ys) ≡ true
placed_behind x new [] at h absent = both_so at refl
placed_behind x new (y ∷ ys) at h absent =
    let parts = and_parts (is_lt (by_name x y)) (rises by_name (y ∷ ys)) h in
    let apart = or_parts (is_called new.name y) (is_there ys new.name) absent in
    two (is_lt (by_name new y))
    (λ e. ap (λ b. rises by_name (x ∷ cond b (new ∷ y ∷ ys) (y ∷ placed_in new ys))) e ∙ both_so at (both_so e parts.1))
    (λ e. ap (λ b. rises by_name (x ∷ cond b (new ∷ y ∷ ys) (y ∷ placed_in new ys))) e
    ∙ both_so parts.0 (placed_behind y new ys (comes_behind new y apart.0 e) parts.1 apart.1))

placed_rises : (new : NamedTable) (ys : PlainDatabase) → rises by_name ys ≡ true → is_there ys new.name ≡ false → rises by_name (placed_in new ys) ≡ true
placed_rises new [] h absent = refl
placed_rises new (y ∷ ys) h absent =
    let apart = or_parts (is_called new.name y) (is_there ys new.name) absent in
    two (is_lt (by_name new y))
    (λ e. ap (λ b. rises by_name (cond b (new ∷ y ∷ ys) (y ∷ placed_in new ys))) e ∙ both_so e h)
    (λ e. ap (λ b. rises by_name (cond b (new ∷ y ∷ ys) (y ∷ placed_in new ys))) e ∙ placed_behind y new ys (comes_behind new y apart.0 e) h apart.1)

placed_all : (p : NamedTable → Bool) (new : NamedTable) (ys : PlainDatabase) → p new ≡ true → list_all p ys ≡ true → list_all p (placed_in new ys) ≡ true
placed_all p new [] at h = both_so at refl
placed_all p new (y ∷ ys) at h =
    let parts = and_parts (p y) (list_all p ys) h in
    let later = placed_all p new ys at parts.1 in
    elim (is_lt (slice_cmp nat_cmp new.name y.name)) as (λ b. list_all p (cond b (new ∷ y ∷ ys) (y ∷ placed_in new ys)) ≡ true) [
      | true ↦ both_so at h
      | false ↦ both_so parts.0 later
    ]

placed_have : (P : NamedTable → Type 0) (new : NamedTable) (ys : PlainDatabase) → P new → AllByRecursion P ys → AllByRecursion P (placed_in new ys)
placed_have P new [] at h = (at, tt)
placed_have P new (y ∷ ys) at h =
    let later = placed_have P new ys at h.1 in
    elim (is_lt (slice_cmp nat_cmp new.name y.name)) as (λ b. AllByRecursion P (cond b (new ∷ y ∷ ys) (y ∷ placed_in new ys))) [
      | true ↦ (at, h)
      | false ↦ (h.0, later)
    ]

placed_length : (new : NamedTable) (ys : PlainDatabase) → length (placed_in new ys) ≡ suc (length ys)
placed_length new [] = refl
placed_length new (y ∷ ys) =
    let later = placed_length new ys in
    elim (is_lt (slice_cmp nat_cmp new.name y.name)) as (λ b. length (cond b (new ∷ y ∷ ys) (y ∷ placed_in new ys)) ≡ suc (suc (length ys))) [
      | true ↦ refl
      | false ↦ ap suc later
    ]

one_more : (m n : ℕ) → m ≡ suc n → nat_le most_tables n ≡ false → nat_le m most_tables ≡ true
one_more m n e h = let few = leb-false most_tables n h in le-leb m most_tables (omega arith)

pub placed_kept : (new : NamedTable) (database : PlainDatabase) → IsTable new.table → is_name new.name ≡ true → is_named_within_limits new ≡ true → is_there database new.name ≡ false
    → nat_le most_tables (length database) ≡ false → IsKept database → IsKept (placed_in new database)
placed_kept new database is_table is_named within absent few kept =
    let parts = and_parts (nat_le (length database) most_tables) (list_all is_named_within_limits database) kept.within in
    record {
      is_database = record {
        tables = placed_have (λ named. IsTable named.table) new database is_table kept.is_database.tables;
        names = placed_all (λ named. is_name named.name) new database is_named kept.is_database.names;
        rise = placed_rises new database kept.is_database.rise absent;
      };
      within = both_so (one_more (length (placed_in new database)) (length database) (placed_length new database) few) (placed_all is_named_within_limits new database within parts.1);
    }

-- ---- as it was

-- what IF EXISTS and IF NOT EXISTS leave, where there is nothing to do
abbrev pub left_if : ℕ → PlainDatabase → Bool → Outcome Effect
left_if number database goes_on = cond goes_on (Ok (changed_to database)) (Err number)

pub left_kept : (number : ℕ) (database : PlainDatabase) (goes_on : Bool) (effect : Effect) → IsKept database → left_if number database goes_on ≡ Ok effect → IsKept effect.database
left_kept number database true effect kept e =
    let whole : Outcome Effect = Ok (changed_to database) in subst (λ (made : Effect). IsKept made.database) (ok_same whole (changed_to database) effect refl e) kept
left_kept number database false effect kept e = cc
