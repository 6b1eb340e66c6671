-- Between databases with the same names and schemas, what is new is broken by rows that changed, or by rows that stayed where a parent's key went.
use Rattle.std.proofs.Common.{◌≡◌, refl, sym, ap, ◌∙◌, subst, ◌⊎◌, inl, inr, ℕ, ◌==◌, Bool, true, false, cond, ◌&&◌, not, List, [], ◌∷◌, filter, length, bytes_eq, nat_cmp, Option, Some, None}
use Rattle.std.specs.Cmp.Lexicographic.{bytes_decides, slice_cmp}
use Rattle.std.specs.List.{list_any}
use Rattle.std.specs.Option.{option_map_or}
use Rattle.std.specs.Ordering.{is_eq, ordering_then}
use Rattle.std.specs.declared.cmp.Ordering.{Ordering}
use Rattle.std.specs.declared.cmp.Ordering.TheVariants.{Less, Equal, Greater}
use Rattle.std.proofs.lemmas.Bool.{and_parts, false_from_ne_true as not_so}
use Rattle.std.proofs.lemmas.Map.Text.{is_eq-slice_cmp}
use Rattle.tuple_codec.proofs.Truths.{alike_truths as as_one, not_true as not_false}
use Rattle.tuple_codec.specs.Rows.{Cells, key_cmp, key_of, same_cells}
use Rattle.tuple_codec.proofs.Orders.{cells_told}
use Rattle.schema_model.specs.declared.schemas.CheckDef.{CheckDef}
use Rattle.schema_model.specs.declared.schemas.ForeignKey.{ForeignKey}
use Rattle.schema_model.specs.declared.schemas.IndexDef.{IndexDef}
use Rattle.schema_model.specs.declared.schemas.Schema.{Schema}
use Rattle.schema_model.specs.PlainTables.{Conflict, IsTable, NamedTable, PlainDatabase, PlainTable, Violation, primary_key, violation_cmp}
use Rattle.schema_model.specs.Schemas.{are_distinct, are_foreign}
use Rattle.plain_writes.specs.Violations.{Checks, Found, breaks_check, breaks_unique, first_of, first_violation, had_in, had_row, is_twin, is_whole, number_of, numbers_of, same_violation, table_in, violations}
use Rattle.plain_writes.proofs.RowOrderLemmas.{both_so, clash, left_so, right_so, two}
use Rattle.constraint_scan.specs.Changed.{AreAlike, has_just, is_failed, is_left, is_orphan, is_orphan_by, is_repeated, some_changed, some_kept, told_by_rows}
use Rattle.violation_lists.specs.Scanning.{empty_named}
use Rattle.constraint_scan.proofs.CauseLemmas.{Cause, ByCheck, ByColumn, ByForeign, ByIndex, cause_of, found, of_failed, of_orphan, of_repeated, row_of}
use Rattle.constraint_scan.proofs.MemberLemmas.{Stands, all_at, any_filtered, any_mapped, at_map, at_some, map_at, some_at}
use Rattle.violation_lists.proofs.NameLemmas.{Finds, Rise, each_found}
use Rattle.violation_lists.proofs.RefusalLemmas.{cells_itself, same_itself}

-- ---- the table that a table was

pub found_of : (database : PlainDatabase) → Rise database → (named : NamedTable) → Stands named database → table_in database named.name ≡ Some named.table
found_of database rise named s = all_at (Finds database) database named (each_found database rise) s

abbrev pub table_with : Schema → List Cells → List Conflict → List Violation → PlainTable
table_with schema rows conflicts recorded = record { schema = schema; rows = rows; conflicts = conflicts; violations = recorded }

-- the table of the same name and schema
abbrev pub at_rows : NamedTable → List Cells → List Conflict → List Violation → NamedTable
at_rows named rows conflicts recorded = record { name = named.name; table = table_with named.table.schema rows conflicts recorded }

pub record Before (old : PlainDatabase) (named : NamedTable) : Type 0 where
  pub rows : List Cells
  pub conflicts : List Conflict
  pub recorded : List Violation
  pub stands : Stands (at_rows named rows conflicts recorded) old
  pub found : table_in old named.name ≡ Some (table_with named.table.schema rows conflicts recorded)

pub before_of : (old new : PlainDatabase) → AreAlike old new → (named : NamedTable) → Stands named new → Before old named
before_of old new alike named s =
    let is = alike.old_is in
    let there = map_at empty_named old (empty_named named) (subst (Stands (empty_named named)) (sym alike.same) (at_map empty_named new named s)) in
    let rows = there.0.table.rows in
    let conflicts = there.0.table.conflicts in
    let recorded = there.0.table.violations in
    let stands : Stands (at_rows named rows conflicts recorded) old = subst (λ (y : NamedTable). Stands (at_rows y rows conflicts recorded) old) (sym there.2) there.1 in
    record { rows = rows; conflicts = conflicts; recorded = recorded; stands = stands; found = found_of old is.rise (at_rows named rows conflicts recorded) stands }

-- ---- what two equal violations share

then_first : (o p : Ordering) → is_eq (ordering_then o p) ≡ true → is_eq o ≡ true
then_first Less p e = e
then_first Equal p e = refl
then_first Greater p e = e

same_name : (a b : Found) → same_violation a b ≡ true → a.table ≡ b.table
same_name a b e =
    (bytes_decides a.table b.table).0
    (left_so (bytes_eq a.table b.table) (is_eq (violation_cmp a.violation b.violation)) (left_so (bytes_eq a.table b.table && is_eq (violation_cmp a.violation b.violation)) (same_cells a.violation.row b.violation.row) e))

same_entry : (a b : Found) → same_violation a b ≡ true → is_eq (violation_cmp a.violation b.violation) ≡ true
same_entry a b e =
    right_so (bytes_eq a.table b.table) (is_eq (violation_cmp a.violation b.violation)) (left_so (bytes_eq a.table b.table && is_eq (violation_cmp a.violation b.violation)) (same_cells a.violation.row b.violation.row) e)

same_row : (a b : Found) → same_violation a b ≡ true → a.violation.row ≡ b.violation.row
same_row a b e =
    (cells_told a.violation.row b.violation.row).0 (right_so (bytes_eq a.table b.table && is_eq (violation_cmp a.violation b.violation)) (same_cells a.violation.row b.violation.row) e)

same_turned : (a b : Cells) → same_cells a b ≡ same_cells b a
same_turned a b = as_one (same_cells a b) (same_cells b a) (λ e. (cells_told b a).1 (sym ((cells_told a b).0 e))) (λ e. (cells_told a b).1 (sym ((cells_told b a).0 e)))

-- names differ, so that a name is one foreign key's
pub one_named : (xs : List ForeignKey) → are_distinct (λ a b. bytes_eq a.name b.name) xs ≡ true → (f g : ForeignKey) → Stands f xs → Stands g xs → f.name ≡ g.name → f ≡ g
one_named [] distinct f g s t e = absurd s
one_named (x ∷ xs) distinct f g (inl a) (inl b) e = a ∙ sym b
one_named (x ∷ xs) distinct f g (inl a) (inr t) e =
    clash (at_some (λ (y : ForeignKey). bytes_eq x.name y.name) xs g t ((bytes_decides x.name g.name).1 (sym (ap (λ (y : ForeignKey). y.name) a) ∙ e)))
    (not_false _ (and_parts (not (list_any (λ (y : ForeignKey). bytes_eq x.name y.name) xs)) (are_distinct (λ (c d : ForeignKey). bytes_eq c.name d.name) xs) distinct).0)
one_named (x ∷ xs) distinct f g (inr s) (inl b) e =
    clash (at_some (λ (y : ForeignKey). bytes_eq x.name y.name) xs f s ((bytes_decides x.name f.name).1 (sym (e ∙ ap (λ (y : ForeignKey). y.name) b))))
    (not_false _ (and_parts (not (list_any (λ (y : ForeignKey). bytes_eq x.name y.name) xs)) (are_distinct (λ (c d : ForeignKey). bytes_eq c.name d.name) xs) distinct).0)
one_named (x ∷ xs) distinct f g (inr s) (inr t) e =
    one_named xs (and_parts (not (list_any (λ (y : ForeignKey). bytes_eq x.name y.name) xs)) (are_distinct (λ (c d : ForeignKey). bytes_eq c.name d.name) xs) distinct).1 f g s t e

-- ---- a row, then and now

module _ (old : PlainDatabase) (named : NamedTable) (b : Before old named) where
  just_is : (row : Cells) → has_just old named.name row ≡ list_any (same_cells row) b.rows
  just_is row = ap (λ o. option_map_or (λ (table : PlainTable). list_any (same_cells row) table.rows) o false) b.found

  pub just_stands : (row : Cells) → has_just old named.name row ≡ true → Stands row b.rows
  just_stands row e =
      let some = some_at (same_cells row) b.rows (sym (just_is row) ∙ e) in
      subst (λ r. Stands r b.rows) (sym ((cells_told row some.0).0 some.2)) some.1

  had_same : (row r : Cells) → (same_cells (primary_key named.table.schema row) (primary_key named.table.schema r) && same_cells row r) ≡ same_cells row r
  had_same row r =
      as_one (same_cells (primary_key named.table.schema row) (primary_key named.table.schema r) && same_cells row r) (same_cells row r)
      (λ e. right_so (same_cells (primary_key named.table.schema row) (primary_key named.table.schema r)) (same_cells row r) e)
      (λ e. both_so ((cells_told (primary_key named.table.schema row) (primary_key named.table.schema r)).1 (ap (primary_key named.table.schema) ((cells_told row r).0 e))) e)

  -- a row under its key is a row
  pub had_is : (kind : ℕ) (name : List ℕ) (row : Cells) → had_row old (found named kind name row) ≡ has_just old named.name row
  had_is kind name row =
      ap (λ o. option_map_or (had_in (found named kind name row).violation) o false) b.found
      ∙ ap (λ (f : Cells → Bool). list_any f b.rows) (λ i r. had_same row r i)
      ∙ sym (just_is row)

  module _ (checks : Checks) where
    orphan_before : (row : Cells) (one : ForeignKey) → Stands row b.rows → Stands one named.table.schema.foreign → is_orphan_by old named.table.schema row one ≡ true
        → list_any (same_violation (found named 1 one.name row)) (violations checks old) ≡ true
    orphan_before row one s t e =
        of_orphan checks old (same_violation (found named 1 one.name row)) (at_rows named b.rows b.conflicts b.recorded) b.stands row one s t e (same_itself (found named 1 one.name row))

    repeated_before : (row : Cells) (one : IndexDef) → Stands row b.rows → Stands one named.table.schema.indexes → one.unique ≡ true → breaks_unique named.table.schema b.rows one.columns row ≡ true
        → list_any (same_violation (found named 2 one.name row)) (violations checks old) ≡ true
    repeated_before row one s t u e =
        of_repeated checks old (same_violation (found named 2 one.name row)) (at_rows named b.rows b.conflicts b.recorded) b.stands row one s t u e (same_itself (found named 2 one.name row))

    failed_before : (row : Cells) (one : CheckDef) → Stands row b.rows → Stands one named.table.schema.checks → breaks_check (checks named.name named.table.schema one.text) row ≡ true
        → list_any (same_violation (found named 3 one.name row)) (violations checks old) ≡ true
    failed_before row one s t e =
        of_failed checks old (same_violation (found named 3 one.name row)) (at_rows named b.rows b.conflicts b.recorded) b.stands row one s t e (same_itself (found named 3 one.name row))

module _ (checks : Checks) (old : PlainDatabase) (rise : Rise old) (named : NamedTable) where
  has_row : (x : NamedTable) → Stands x old → (row r : Cells) → Stands r x.table.rows → named.name ≡ x.name → row ≡ r → has_just old named.name row ≡ true
  has_row x there row r s name same =
      ap (λ n. has_just old n row) name
      ∙ ap (λ o. option_map_or (λ (table : PlainTable). list_any (same_cells row) table.rows) o false) (found_of old rise x there)
      ∙ at_some (same_cells row) x.table.rows r s ((cells_told row r).1 same)

  -- a changed row broke nothing before
  fresh : (kind : ℕ) (name : List ℕ) (row : Cells) → has_just old named.name row ≡ false → list_any (same_violation (found named kind name row)) (violations checks old) ≡ false
  fresh kind name row e = not_so _ (λ h.
      let cause = cause_of checks old (same_violation (found named kind name row)) h in
      let its = row_of checks old (same_violation (found named kind name row)) cause.0 cause.2 in
      let other = found cause.0 its.2.0 its.2.1 its.0 in
      clash (has_row cause.0 cause.1 row its.0 its.1 (same_name (found named kind name row) other its.2.2) (same_row (found named kind name row) other its.2.2)) e)

  -- nor did one that led to a parent by this key
  module _ (b : Before old named) (distinct : are_distinct (λ (c d : ForeignKey). bytes_eq c.name d.name) named.table.schema.foreign ≡ true) (row : Cells) (one : ForeignKey)
      (t : Stands one named.table.schema.foreign) (e : is_orphan_by old named.table.schema row one ≡ false) where
    no_cause : (x : NamedTable) → Stands x old → Cause checks old (same_violation (found named 1 one.name row)) x → ⊥
    no_cause x there (ByForeign r f s u w h) =
        let a = found named 1 one.name row in
        let other = found x 1 f.name r in
        let schema : x.table.schema ≡ named.table.schema = ap (λ o. option_map_or (λ (table : PlainTable). table.schema) o named.table.schema)
        (sym (found_of old rise x there) ∙ ap (table_in old) (sym (same_name a other h)) ∙ b.found) in
        let name : one.name ≡ f.name = (bytes_decides one.name f.name).0
        (sym (is_eq-slice_cmp one.name f.name) ∙ then_first (slice_cmp nat_cmp one.name f.name) (key_cmp (primary_key named.table.schema row) (primary_key x.table.schema r)) (same_entry a other h)) in
        let is : one ≡ f = one_named named.table.schema.foreign distinct one f t (subst (λ (s : Schema). Stands f s.foreign) schema u) name in
        clash ((λ i. is_orphan_by old named.table.schema (same_row a other h i) (is i)) ∙ subst (λ (s : Schema). is_orphan_by old s r f ≡ true) schema w) e
    no_cause x there (ByIndex r f s u v w h) = clash (same_entry (found named 1 one.name row) (found x 2 f.name r) h) refl
    no_cause x there (ByCheck r f s u w h) = clash (same_entry (found named 1 one.name row) (found x 3 f.name r) h) refl
    no_cause x there (ByColumn r name s h) = clash (same_entry (found named 1 one.name row) (found x 4 name r) h) refl

    kept : list_any (same_violation (found named 1 one.name row)) (violations checks old) ≡ false
    kept = not_so _ (λ h. let cause = cause_of checks old (same_violation (found named 1 one.name row)) h in no_cause cause.0 cause.1 cause.2)

-- ---- some row that changed, or stayed

module _ (old new : PlainDatabase) (breaks : NamedTable → Cells → Bool) where
  pub changed_there : (named : NamedTable) → Stands named new → (row : Cells) → Stands row named.table.rows → has_just old named.name row ≡ false → breaks named row ≡ true → some_changed old breaks new ≡ true
  changed_there named there row s e b =
      at_some (λ (n : NamedTable). list_any (λ r. not (has_just old n.name r) && breaks n r) n.table.rows) new named there
      (at_some (λ r. not (has_just old named.name r) && breaks named r) named.table.rows row s (both_so (ap not e) b))

  pub changed_at : some_changed old breaks new ≡ true
      → (named : NamedTable) × Stands named new × ((row : Cells) × Stands row named.table.rows × (has_just old named.name row ≡ false) × (breaks named row ≡ true))
  changed_at e =
      let table = some_at (λ (n : NamedTable). list_any (λ r. not (has_just old n.name r) && breaks n r) n.table.rows) new e in
      let named = table.0 in
      let row = some_at (λ r. not (has_just old named.name r) && breaks named r) named.table.rows table.2 in
      (named, table.1, (row.0, row.1, not_false _ (left_so (not (has_just old named.name row.0)) (breaks named row.0) row.2), right_so (not (has_just old named.name row.0)) (breaks named row.0) row.2))

  pub kept_there : (named : NamedTable) → Stands named new → (row : Cells) → Stands row named.table.rows → has_just old named.name row ≡ true → breaks named row ≡ true → some_kept old breaks new ≡ true
  kept_there named there row s e b =
      at_some (λ (n : NamedTable). list_any (λ r. has_just old n.name r && breaks n r) n.table.rows) new named there
      (at_some (λ r. has_just old named.name r && breaks named r) named.table.rows row s (both_so e b))

  pub kept_at : some_kept old breaks new ≡ true
      → (named : NamedTable) × Stands named new × ((row : Cells) × Stands row named.table.rows × (has_just old named.name row ≡ true) × (breaks named row ≡ true))
  kept_at e =
      let table = some_at (λ (n : NamedTable). list_any (λ r. has_just old n.name r && breaks n r) n.table.rows) new e in
      let named = table.0 in
      let row = some_at (λ r. has_just old named.name r && breaks named r) named.table.rows table.2 in
      (named, table.1, (row.0, row.1, left_so (has_just old named.name row.0) (breaks named row.0) row.2, right_so (has_just old named.name row.0) (breaks named row.0) row.2))

-- ---- numbers

never_1062 : (b : Bool) → (cond b 1451 1452 == 1062) ≡ true → ⊥
never_1062 true e = clash e refl
never_1062 false e = clash e refl

never_3819 : (b : Bool) → (cond b 1451 1452 == 3819) ≡ true → ⊥
never_3819 true e = clash e refl
never_3819 false e = clash e refl

is_1452 : (b : Bool) → (cond b 1451 1452 == 1452) ≡ true → b ≡ false
is_1452 true e = clash e refl
is_1452 false e = refl

is_1451 : (b : Bool) → (cond b 1451 1452 == 1451) ≡ true → b ≡ true
is_1451 true e = refl
is_1451 false e = clash e refl

module _ (checks : Checks) (old new : PlainDatabase) (alike : AreAlike old new) where
  abbrev is_new : Found → Bool
  is_new one = not (list_any (same_violation one) (violations checks old))

  -- new, and refused by this number
  abbrev is_refused : ℕ → Found → Bool
  is_refused number one = is_new one && (number_of old one == number)

  any_number : (number : ℕ) → list_any (λ other. other == number) (numbers_of old (violations checks old) (violations checks new)) ≡ list_any (is_refused number) (violations checks new)
  any_number number =
      any_mapped (number_of old) (λ other. other == number) (filter is_new (violations checks new))
      ∙ any_filtered (λ one. number_of old one == number) is_new (violations checks new)

  fresh_of : (named : NamedTable) (kind : ℕ) (name : List ℕ) (row : Cells) → has_just old named.name row ≡ false → is_new (found named kind name row) ≡ true
  fresh_of named kind name row e = let is = alike.old_is in ap not (fresh checks old is.rise named kind name row e)

  not_before : (number : ℕ) (one : Found) → is_refused number one ≡ true → list_any (same_violation one) (violations checks old) ≡ false
  not_before number one e = not_false _ (left_so (is_new one) (number_of old one == number) e)

  -- -- 1062

  abbrev repeats_by : NamedTable → Cells → IndexDef → Bool
  repeats_by named row index = index.unique && breaks_unique named.table.schema named.table.rows index.columns row

  twin_turned : (named : NamedTable) (places : List ℕ) (row other : Cells) → is_whole (key_of places row) ≡ true → Stands row named.table.rows → is_twin named.table.schema places row other ≡ true
      → breaks_unique named.table.schema named.table.rows places other ≡ true
  twin_turned named places row other whole s twin =
      let apart = left_so (not (same_cells (primary_key named.table.schema row) (primary_key named.table.schema other))) (same_cells (key_of places row) (key_of places other)) twin in
      let same = right_so (not (same_cells (primary_key named.table.schema row) (primary_key named.table.schema other))) (same_cells (key_of places row) (key_of places other)) twin in
      both_so (ap is_whole (sym ((cells_told (key_of places row) (key_of places other)).0 same)) ∙ whole)
      (at_some (is_twin named.table.schema places other) named.table.rows row s
      (both_so (ap not (same_turned (primary_key named.table.schema other) (primary_key named.table.schema row)) ∙ apart) (same_turned (key_of places other) (key_of places row) ∙ same)))

  repeated_by : (named : NamedTable) → Stands named new → Cause checks new (is_refused 1062) named → some_changed old is_repeated new ≡ true
  repeated_by named there (ByForeign row one s t b e) =
      absurd (never_1062 (had_row old (found named 1 one.name row)) (right_so (is_new (found named 1 one.name row)) (number_of old (found named 1 one.name row) == 1062) e))
  repeated_by named there (ByCheck row one s t b e) = clash (right_so (is_new (found named 3 one.name row)) (number_of old (found named 3 one.name row) == 1062) e) refl
  repeated_by named there (ByColumn row name s e) = clash (right_so (is_new (found named 4 name row)) (number_of old (found named 4 name row) == 1062) e) refl
  repeated_by named there (ByIndex row one s t u b e) =
      let before = before_of old new alike named there in
      let schema = named.table.schema in
      two (has_just old named.name row)
      (λ stayed.
      let whole = left_so (is_whole (key_of one.columns row)) (list_any (is_twin schema one.columns row) named.table.rows) b in
      let twin = some_at (is_twin schema one.columns row) named.table.rows (right_so (is_whole (key_of one.columns row)) (list_any (is_twin schema one.columns row) named.table.rows) b) in
      let changed = not_so (has_just old named.name twin.0) (λ h.
      clash (repeated_before old named before checks row one (just_stands old named before row stayed) t u
      (both_so whole (at_some (is_twin schema one.columns row) before.rows twin.0 (just_stands old named before twin.0 h) twin.2))) (not_before 1062 (found named 2 one.name row) e)) in
      changed_there old new is_repeated named there twin.0 twin.1 changed
      (at_some (repeats_by named twin.0) schema.indexes one t (both_so u (twin_turned named one.columns row twin.0 whole s twin.2))))
      (λ changed. changed_there old new is_repeated named there row s changed (at_some (repeats_by named row) schema.indexes one t (both_so u b)))

  repeated_told : list_any (is_refused 1062) (violations checks new) ≡ some_changed old is_repeated new
  repeated_told = as_one (list_any (is_refused 1062) (violations checks new)) (some_changed old is_repeated new)
      (λ h. let cause = cause_of checks new (is_refused 1062) h in repeated_by cause.0 cause.1 cause.2)
      (λ h. let at = changed_at old new is_repeated h in
      let named = at.0 in
      let row = at.2.0 in
      let one = some_at (repeats_by named row) named.table.schema.indexes at.2.3 in
      of_repeated checks new (is_refused 1062) named at.1 row one.0 at.2.1 one.1
      (left_so one.0.unique (breaks_unique named.table.schema named.table.rows one.0.columns row) one.2) (right_so one.0.unique (breaks_unique named.table.schema named.table.rows one.0.columns row) one.2)
      (both_so (fresh_of named 2 one.0.name row at.2.2) refl))

  -- -- 3819

  abbrev fails_by : NamedTable → Cells → CheckDef → Bool
  fails_by named row check = breaks_check (checks named.name named.table.schema check.text) row

  failed_by : (named : NamedTable) → Stands named new → Cause checks new (is_refused 3819) named → some_changed old (is_failed checks) new ≡ true
  failed_by named there (ByForeign row one s t b e) =
      absurd (never_3819 (had_row old (found named 1 one.name row)) (right_so (is_new (found named 1 one.name row)) (number_of old (found named 1 one.name row) == 3819) e))
  failed_by named there (ByIndex row one s t u b e) = clash (right_so (is_new (found named 2 one.name row)) (number_of old (found named 2 one.name row) == 3819) e) refl
  failed_by named there (ByColumn row name s e) = clash (right_so (is_new (found named 4 name row)) (number_of old (found named 4 name row) == 3819) e) refl
  failed_by named there (ByCheck row one s t b e) =
      let before = before_of old new alike named there in
      changed_there old new (is_failed checks) named there row s
      (not_so (has_just old named.name row) (λ h. clash (failed_before old named before checks row one (just_stands old named before row h) t b) (not_before 3819 (found named 3 one.name row) e)))
      (at_some (fails_by named row) named.table.schema.checks one t b)

  failed_told : list_any (is_refused 3819) (violations checks new) ≡ some_changed old (is_failed checks) new
  failed_told = as_one (list_any (is_refused 3819) (violations checks new)) (some_changed old (is_failed checks) new)
      (λ h. let cause = cause_of checks new (is_refused 3819) h in failed_by cause.0 cause.1 cause.2)
      (λ h. let at = changed_at old new (is_failed checks) h in
      let named = at.0 in
      let row = at.2.0 in
      let one = some_at (fails_by named row) named.table.schema.checks at.2.3 in
      of_failed checks new (is_refused 3819) named at.1 row one.0 at.2.1 one.1 one.2 (both_so (fresh_of named 3 one.0.name row at.2.2) refl))

  -- -- 1452

  abbrev leads_nowhere : NamedTable → Cells → ForeignKey → Bool
  leads_nowhere named row one = is_orphan_by new named.table.schema row one

  orphan_by : (named : NamedTable) → Stands named new → Cause checks new (is_refused 1452) named → some_changed old (is_orphan new) new ≡ true
  orphan_by named there (ByIndex row one s t u b e) = clash (right_so (is_new (found named 2 one.name row)) (number_of old (found named 2 one.name row) == 1452) e) refl
  orphan_by named there (ByCheck row one s t b e) = clash (right_so (is_new (found named 3 one.name row)) (number_of old (found named 3 one.name row) == 1452) e) refl
  orphan_by named there (ByColumn row name s e) = clash (right_so (is_new (found named 4 name row)) (number_of old (found named 4 name row) == 1452) e) refl
  orphan_by named there (ByForeign row one s t b e) =
      let before = before_of old new alike named there in
      let had = is_1452 (had_row old (found named 1 one.name row)) (right_so (is_new (found named 1 one.name row)) (number_of old (found named 1 one.name row) == 1452) e) in
      changed_there old new (is_orphan new) named there row s (sym (had_is old named before 1 one.name row) ∙ had) (at_some (leads_nowhere named row) named.table.schema.foreign one t b)

  orphan_told : list_any (is_refused 1452) (violations checks new) ≡ some_changed old (is_orphan new) new
  orphan_told = as_one (list_any (is_refused 1452) (violations checks new)) (some_changed old (is_orphan new) new)
      (λ h. let cause = cause_of checks new (is_refused 1452) h in orphan_by cause.0 cause.1 cause.2)
      (λ h. let at = changed_at old new (is_orphan new) h in
      let named = at.0 in
      let row = at.2.0 in
      let before = before_of old new alike named at.1 in
      let one = some_at (leads_nowhere named row) named.table.schema.foreign at.2.3 in
      of_orphan checks new (is_refused 1452) named at.1 row one.0 at.2.1 one.1 one.2
      (both_so (fresh_of named 1 one.0.name row at.2.2) (ap (λ b. cond b 1451 1452 == 1452) (had_is old named before 1 one.0.name row ∙ at.2.2))))

  -- -- 1451

  abbrev loses : NamedTable → Cells → ForeignKey → Bool
  loses named row one = is_orphan_by new named.table.schema row one && not (is_orphan_by old named.table.schema row one)

  left_by : (named : NamedTable) → Stands named new → Cause checks new (is_refused 1451) named → some_kept old (is_left old new) new ≡ true
  left_by named there (ByIndex row one s t u b e) = clash (right_so (is_new (found named 2 one.name row)) (number_of old (found named 2 one.name row) == 1451) e) refl
  left_by named there (ByCheck row one s t b e) = clash (right_so (is_new (found named 3 one.name row)) (number_of old (found named 3 one.name row) == 1451) e) refl
  left_by named there (ByColumn row name s e) = clash (right_so (is_new (found named 4 name row)) (number_of old (found named 4 name row) == 1451) e) refl
  left_by named there (ByForeign row one s t b e) =
      let before = before_of old new alike named there in
      let had = is_1451 (had_row old (found named 1 one.name row)) (right_so (is_new (found named 1 one.name row)) (number_of old (found named 1 one.name row) == 1451) e) in
      let just = sym (had_is old named before 1 one.name row) ∙ had in
      let led = not_so (is_orphan_by old named.table.schema row one) (λ h.
      clash (orphan_before old named before checks row one (just_stands old named before row just) t h) (not_before 1451 (found named 1 one.name row) e)) in
      kept_there old new (is_left old new) named there row s just (at_some (loses named row) named.table.schema.foreign one t (both_so b (ap not led)))

  left_told : list_any (is_refused 1451) (violations checks new) ≡ some_kept old (is_left old new) new
  left_told = as_one (list_any (is_refused 1451) (violations checks new)) (some_kept old (is_left old new) new)
      (λ h. let cause = cause_of checks new (is_refused 1451) h in left_by cause.0 cause.1 cause.2)
      (λ h. let at = kept_at old new (is_left old new) h in
      let named = at.0 in
      let row = at.2.0 in
      let before = before_of old new alike named at.1 in
      let one = some_at (loses named row) named.table.schema.foreign at.2.3 in
      let orphan = left_so (is_orphan_by new named.table.schema row one.0) (not (is_orphan_by old named.table.schema row one.0)) one.2 in
      let led = not_false _ (right_so (is_orphan_by new named.table.schema row one.0) (not (is_orphan_by old named.table.schema row one.0)) one.2) in
      let was = alike.old_is in
      let is = alike.new_is in
      let table = all_at (λ (n : NamedTable). IsTable n.table) new named is.tables at.1 in
      let parts = and_parts _ (are_foreign (length named.table.schema.columns) named.table.schema.foreign) table.schema in
      let distinct = (and_parts _ (are_distinct (λ (c d : ForeignKey). bytes_eq c.name d.name) named.table.schema.foreign) parts.1).1 in
      of_orphan checks new (is_refused 1451) named at.1 row one.0 at.2.1 one.1 orphan
      (both_so (ap not (kept checks old was.rise named before distinct row one.0 one.1 led)) (ap (λ b. cond b 1451 1452 == 1451) (had_is old named before 1 one.0.name row ∙ at.2.2))))

  pub rows_tell : first_violation checks old new ≡ told_by_rows checks old new
  rows_tell =
      λ i. cond ((any_number 1062 ∙ repeated_told) i) (Some 1062)
      (cond ((any_number 3819 ∙ failed_told) i) (Some 3819) (cond ((any_number 1452 ∙ orphan_told) i) (Some 1452) (cond ((any_number 1451 ∙ left_told) i) (Some 1451) None)))
