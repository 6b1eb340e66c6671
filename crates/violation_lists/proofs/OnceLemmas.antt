-- No violation of a table stands twice, so that they rise in order.
use Rattle.std.proofs.Common.{◌≡◌, refl, sym, ap, ◌∙◌, ℕ, ◌+◌, Bool, true, false, cond, not, ◌&&◌, ◌||◌, ◌==◌, true≢false, nat_cmp, nat_lt, List, [], ◌∷◌, ◌++◌, filter, map, bytes_eq, length}
use Rattle.std.specs.Cmp.Lexicographic.{bytes_decides, slice_cmp}
use Rattle.std.specs.List.{enumerate_from, flat_map, list_all, list_any}
use Rattle.std.specs.Ordering.{is_eq, ordering_then}
use Rattle.std.specs.declared.cmp.Ordering.TheVariants.{Less, Equal, Greater}
use Rattle.std.proofs.lemmas.Bool.{and_from, and_parts, eqb-true}
use Rattle.std.proofs.lemmas.Cmp.{on_total}
use Rattle.std.proofs.lemmas.List.Folds.{list_all-append, list_any-append}
use Rattle.tuple_codec.proofs.Orderings.{then_left, then_right}
use Rattle.tuple_codec.specs.Rows.{Cells, key_cmp}
use Rattle.tuple_codec.proofs.Orders.{key_cmp_total}
use Rattle.schema_model.specs.declared.schemas.CheckDef.{CheckDef}
use Rattle.schema_model.specs.declared.schemas.Column.{Column}
use Rattle.schema_model.specs.declared.schemas.ForeignKey.{ForeignKey}
use Rattle.schema_model.specs.declared.schemas.IndexDef.{IndexDef}
use Rattle.schema_model.specs.declared.schemas.Schema.{Schema}
use Rattle.schema_model.specs.PlainTables.{PlainDatabase, Violation, primary_key, rises, violation_cmp}
use Rattle.schema_model.specs.Schemas.{are_checks, are_columns, are_distinct, are_foreign, are_indexes, is_key, is_schema}
use Rattle.schema_model.proofs.ViolationLemmas.{names_apart}
use Rattle.plain_sql.specs.Lists.{has, repeats}
use Rattle.plain_writes.specs.Violations.{Checks, breaks_check, breaks_foreign, breaks_not_null, breaks_unique, broken, of_check, of_column, of_foreign, of_index, parent_keys, violation, violations_in}
use Rattle.plain_writes.specs.Writes.{keyed_cmp}
use Rattle.plain_writes.proofs.SortLemmas.{risen_once}
use Rattle.plain_writes.proofs.RowOrderLemmas.{in_order_rises, left_not, neither_so, right_not, violation_total}
use Rattle.violation_lists.proofs.FreeLemmas.{all_flat}

-- ---- violations apart

abbrev of_kind : ℕ → Violation → Bool
of_kind kind one = one.kind == kind

-- of this kind, with this name
abbrev is_named : ℕ → List ℕ → Violation → Bool
is_named kind name one = one.kind == kind && bytes_eq one.constraint name

abbrev kind_below : ℕ → Violation → Bool
kind_below kind one = nat_lt one.kind kind

kinds_apart : (kind : ℕ) (a b : Violation) → kind_below kind a ≡ true → of_kind kind b ≡ true → is_eq (violation_cmp a b) ≡ false
kinds_apart kind a b less same =
    then_left (nat_cmp a.kind b.kind) (ordering_then (slice_cmp nat_cmp a.constraint b.constraint) (key_cmp a.key b.key))
    (ap (λ n. is_eq (nat_cmp a.kind n)) (eqb-true b.kind kind same) ∙ ap (λ t. is_eq (cond t Less (cond (a.kind == kind) Equal Greater))) less)

-- ---- lists of them

has_none : (p : Violation → Bool) (x : Violation) → ((y : Violation) → p y ≡ true → is_eq (violation_cmp x y) ≡ false) → (ys : List Violation) → list_all p ys ≡ true → has violation_cmp ys x ≡ false
has_none p x apart [] all = refl
has_none p x apart (y ∷ ys) all =
    let parts = and_parts (p y) (list_all p ys) all in
    neither_so (apart y parts.0) (has_none p x apart ys parts.1)

once_joined : (p q : Violation → Bool) → ((x y : Violation) → p x ≡ true → q y ≡ true → is_eq (violation_cmp x y) ≡ false) → (xs ys : List Violation) → list_all p xs ≡ true → list_all q ys ≡ true
    → repeats violation_cmp xs ≡ false → repeats violation_cmp ys ≡ false → repeats violation_cmp (xs ++ ys) ≡ false
once_joined p q apart [] ys all more one other = other
once_joined p q apart (x ∷ xs) ys all more one other =
    let parts = and_parts (p x) (list_all p xs) all in
    neither_so
    (list_any-append (λ (y : Violation). is_eq (violation_cmp x y)) xs ys
    ∙ neither_so (left_not (has violation_cmp xs x) (repeats violation_cmp xs) one) (has_none q x (λ y t. apart x y parts.0 t) ys more))
    (once_joined p q apart xs ys parts.1 more (right_not (has violation_cmp xs x) (repeats violation_cmp xs) one) other)

weaker : (p q : Violation → Bool) → ((x : Violation) → p x ≡ true → q x ≡ true) → (xs : List Violation) → list_all p xs ≡ true → list_all q xs ≡ true
weaker p q so [] all = refl
weaker p q so (x ∷ xs) all = let parts = and_parts (p x) (list_all p xs) all in and_from _ _ (so x parts.0) (weaker p q so xs parts.1)

both_all : (p : Violation → Bool) (xs ys : List Violation) → list_all p xs ≡ true → list_all p ys ≡ true → list_all p (xs ++ ys) ≡ true
both_all p xs ys one other = list_all-append p xs ys ∙ and_from _ _ one other

-- ---- those of one constraint

module _ (schema : Schema) (kind : ℕ) (name : List ℕ) (breaks : Cells → Bool) where
  abbrev made : Cells → Violation
  made row = violation schema kind name row

  broken_named : (same : (kind == kind) ≡ true) (rows : List Cells) → list_all (is_named kind name) (broken schema rows kind name breaks) ≡ true
  broken_named same [] = refl
  broken_named same (row ∷ rows) = by_test (breaks row) (broken_named same rows)
    where
      by_test : (b : Bool) → list_all (is_named kind name) (map made (filter breaks rows)) ≡ true → list_all (is_named kind name) (map made (cond b (row ∷ filter breaks rows) (filter breaks rows))) ≡ true
      by_test true more = and_from _ _ (and_from _ _ same ((bytes_decides name name).1 refl)) more
      by_test false more = more

  rows_apart : (a b : Cells) → is_eq (keyed_cmp schema a b) ≡ false → is_eq (violation_cmp (made a) (made b)) ≡ false
  rows_apart a b apart =
      then_right (nat_cmp kind kind) (ordering_then (slice_cmp nat_cmp name name) (key_cmp (primary_key schema a) (primary_key schema b)))
      (then_right (slice_cmp nat_cmp name name) (key_cmp (primary_key schema a) (primary_key schema b)) apart)

  broken_has : (row : Cells) (rows : List Cells) → has (keyed_cmp schema) rows row ≡ false → has violation_cmp (broken schema rows kind name breaks) (made row) ≡ false
  broken_has row [] none = refl
  broken_has row (other ∷ rows) none =
      by_test (breaks other) (left_not (is_eq (keyed_cmp schema row other)) (has (keyed_cmp schema) rows row) none) (broken_has row rows (right_not (is_eq (keyed_cmp schema row other)) (has (keyed_cmp schema) rows row) none))
    where
      by_test : (b : Bool) → is_eq (keyed_cmp schema row other) ≡ false → has violation_cmp (map made (filter breaks rows)) (made row) ≡ false
          → has violation_cmp (map made (cond b (other ∷ filter breaks rows) (filter breaks rows))) (made row) ≡ false
      by_test true apart more = neither_so (rows_apart row other apart) more
      by_test false apart more = more

  broken_once : (rows : List Cells) → repeats (keyed_cmp schema) rows ≡ false → repeats violation_cmp (broken schema rows kind name breaks) ≡ false
  broken_once [] once = refl
  broken_once (row ∷ rows) once =
      by_test (breaks row) (broken_has row rows (left_not (has (keyed_cmp schema) rows row) (repeats (keyed_cmp schema) rows) once)) (broken_once rows (right_not (has (keyed_cmp schema) rows row) (repeats (keyed_cmp schema) rows) once))
    where
      by_test : (b : Bool) → has violation_cmp (map made (filter breaks rows)) (made row) ≡ false → repeats violation_cmp (map made (filter breaks rows)) ≡ false
          → repeats violation_cmp (map made (cond b (row ∷ filter breaks rows) (filter breaks rows))) ≡ false
      by_test true none more = neither_so none more
      by_test false none more = more

-- ---- those of one kind: their constraints have names of their own

module _ {A : Type 0} (kind : ℕ) (name : A → List ℕ) (f : A → List Violation) (named : (x : A) → list_all (is_named kind (name x)) (f x) ≡ true) (once : (x : A) → repeats violation_cmp (f x) ≡ false) where
  abbrev same : A → A → Bool
  same a b = bytes_eq (name a) (name b)

  abbrev is_other : A → Violation → Bool
  is_other x one = not (bytes_eq (name x) one.constraint)

  other_not : (b : Bool) → not b ≡ true → b ≡ false
  other_not true e = absurd (true≢false (sym e))
  other_not false e = refl

  others_apart : (x : A) (xs : List A) → list_any (same x) xs ≡ false → list_all (is_other x) (flat_map f xs) ≡ true
  others_apart x [] none = refl
  others_apart x (y ∷ xs) none =
      both_all (is_other x) (f y) (flat_map f xs)
      (weaker (is_named kind (name y)) (is_other x)
      (λ one t. ap (λ n. not (bytes_eq (name x) n)) ((bytes_decides one.constraint (name y)).0 (and_parts (one.kind == kind) (bytes_eq one.constraint (name y)) t).1)
      ∙ ap not (left_not (same x y) (list_any (same x) xs) none))
      (f y) (named y))
      (others_apart x xs (right_not (same x y) (list_any (same x) xs) none))

  pub group_once : (xs : List A) → are_distinct same xs ≡ true → repeats violation_cmp (flat_map f xs) ≡ false
  group_once [] distinct = refl
  group_once (x ∷ xs) distinct =
      let parts = and_parts (not (list_any (same x) xs)) (are_distinct same xs) distinct in
      once_joined (is_named kind (name x)) (is_other x)
      (λ a b p q. names_apart a b
      (ap (λ n. bytes_eq n b.constraint) ((bytes_decides a.constraint (name x)).0 (and_parts (a.kind == kind) (bytes_eq a.constraint (name x)) p).1) ∙ other_not (bytes_eq (name x) b.constraint) q))
      (f x) (flat_map f xs) (named x) (others_apart x xs (other_not (list_any (same x) xs) parts.0)) (once x) (group_once xs parts.1)

  pub group_kind : (xs : List A) → list_all (of_kind kind) (flat_map f xs) ≡ true
  group_kind xs = all_flat (of_kind kind) f (λ x. weaker (is_named kind (name x)) (of_kind kind) (λ one t. (and_parts (one.kind == kind) (bytes_eq one.constraint (name x)) t).0) (f x) (named x)) xs

-- ---- those of a table

numbered : (n : ℕ) (columns : List Column) → are_distinct (λ (a b : Column). bytes_eq a.name b.name) columns ≡ true
    → are_distinct (λ (a b : ℕ × Column). bytes_eq a.1.name b.1.name) (enumerate_from n columns) ≡ true
numbered n [] distinct = refl
numbered n (column ∷ columns) distinct =
    let parts = and_parts (not (list_any (λ (b : Column). bytes_eq column.name b.name) columns)) (are_distinct (λ (a b : Column). bytes_eq a.name b.name) columns) distinct in
    and_from _ _ (ap not (any_numbered (n + 1) columns) ∙ parts.0) (numbered (n + 1) columns parts.1)
  where
    any_numbered : (m : ℕ) (others : List Column) → list_any (λ (b : ℕ × Column). bytes_eq column.name b.1.name) (enumerate_from m others) ≡ list_any (λ (b : Column). bytes_eq column.name b.name) others
    any_numbered m [] = refl
    any_numbered m (other ∷ others) = ap (λ b. bytes_eq column.name other.name || b) (any_numbered (m + 1) others)

module _ (schema : Schema) (is : is_schema schema ≡ true) (rows : List Cells) (keys : rises (keyed_cmp schema) rows ≡ true) (checks : Checks) (database : PlainDatabase) (name : List ℕ) where
  rows_once : repeats (keyed_cmp schema) rows ≡ false
  rows_once = risen_once (keyed_cmp schema) (on_total (primary_key schema) key_cmp_total) rows keys

  foreign_named : (one : ForeignKey) → list_all (is_named 1 one.name) (of_foreign database schema rows one) ≡ true
  foreign_named one = broken_named schema 1 one.name (breaks_foreign (parent_keys database schema one) one.columns) refl rows

  foreign_once : (one : ForeignKey) → repeats violation_cmp (of_foreign database schema rows one) ≡ false
  foreign_once one = broken_once schema 1 one.name (breaks_foreign (parent_keys database schema one) one.columns) rows rows_once

  index_named : (one : IndexDef) → list_all (is_named 2 one.name) (of_index schema rows one) ≡ true
  index_named one = by_test one.unique
    where
      by_test : (b : Bool) → list_all (is_named 2 one.name) (cond b (broken schema rows 2 one.name (breaks_unique schema rows one.columns)) []) ≡ true
      by_test true = broken_named schema 2 one.name (breaks_unique schema rows one.columns) refl rows
      by_test false = refl

  index_once : (one : IndexDef) → repeats violation_cmp (of_index schema rows one) ≡ false
  index_once one = by_test one.unique
    where
      by_test : (b : Bool) → repeats violation_cmp (cond b (broken schema rows 2 one.name (breaks_unique schema rows one.columns)) []) ≡ false
      by_test true = broken_once schema 2 one.name (breaks_unique schema rows one.columns) rows rows_once
      by_test false = refl

  check_named : (one : CheckDef) → list_all (is_named 3 one.name) (of_check checks name schema rows one) ≡ true
  check_named one = broken_named schema 3 one.name (breaks_check (checks name schema one.text)) refl rows

  check_once : (one : CheckDef) → repeats violation_cmp (of_check checks name schema rows one) ≡ false
  check_once one = broken_once schema 3 one.name (breaks_check (checks name schema one.text)) rows rows_once

  column_named : (x : ℕ × Column) → list_all (is_named 4 x.1.name) (of_column schema rows x) ≡ true
  column_named x = by_test x.1.not_null
    where
      by_test : (b : Bool) → list_all (is_named 4 x.1.name) (cond b (broken schema rows 4 x.1.name (breaks_not_null x.0)) []) ≡ true
      by_test true = broken_named schema 4 x.1.name (breaks_not_null x.0) refl rows
      by_test false = refl

  column_once : (x : ℕ × Column) → repeats violation_cmp (of_column schema rows x) ≡ false
  column_once x = by_test x.1.not_null
    where
      by_test : (b : Bool) → repeats violation_cmp (cond b (broken schema rows 4 x.1.name (breaks_not_null x.0)) []) ≡ false
      by_test true = broken_once schema 4 x.1.name (breaks_not_null x.0) rows rows_once
      by_test false = refl

  below : (kind most : ℕ) → nat_lt kind most ≡ true → (xs : List Violation) → list_all (of_kind kind) xs ≡ true → list_all (kind_below most) xs ≡ true
  below kind most less xs all = weaker (of_kind kind) (kind_below most) (λ one t. ap (λ n. nat_lt n most) (eqb-true one.kind kind t) ∙ less) xs all

  pub table_rises : rises violation_cmp (violations_in checks database name schema rows) ≡ true
  table_rises =
      let schema_parts = and_parts _ (are_foreign (length schema.columns) schema.foreign) is in
      let check_parts = and_parts _ (are_checks schema.checks) schema_parts.0 in
      let index_parts = and_parts _ (are_indexes (length schema.columns) schema.indexes) check_parts.0 in
      let column_parts = and_parts (are_columns schema.columns) (is_key schema.columns schema.key) index_parts.0 in
      let fs = flat_map (of_foreign database schema rows) schema.foreign in
      let us = flat_map (of_index schema rows) schema.indexes in
      let cs = flat_map (of_check checks name schema rows) schema.checks in
      let ns = flat_map (of_column schema rows) (enumerate_from 0 schema.columns) in
      let f_kind = group_kind 1 (λ (one : ForeignKey). one.name) (of_foreign database schema rows) foreign_named foreign_once schema.foreign in
      let u_kind = group_kind 2 (λ (one : IndexDef). one.name) (of_index schema rows) index_named index_once schema.indexes in
      let c_kind = group_kind 3 (λ (one : CheckDef). one.name) (of_check checks name schema rows) check_named check_once schema.checks in
      let n_kind = group_kind 4 (λ (x : ℕ × Column). x.1.name) (of_column schema rows) column_named column_once (enumerate_from 0 schema.columns) in
      let f_once = group_once 1 (λ (one : ForeignKey). one.name) (of_foreign database schema rows) foreign_named foreign_once schema.foreign
      (and_parts _ (are_distinct (λ (a b : ForeignKey). bytes_eq a.name b.name) schema.foreign) schema_parts.1).1 in
      let u_once = group_once 2 (λ (one : IndexDef). one.name) (of_index schema rows) index_named index_once schema.indexes
      (and_parts _ (are_distinct (λ (a b : IndexDef). bytes_eq a.name b.name) schema.indexes) index_parts.1).1 in
      let c_once = group_once 3 (λ (one : CheckDef). one.name) (of_check checks name schema rows) check_named check_once schema.checks
      (and_parts _ (are_distinct (λ (a b : CheckDef). bytes_eq a.name b.name) schema.checks) check_parts.1).1 in
      let n_once = group_once 4 (λ (x : ℕ × Column). x.1.name) (of_column schema rows) column_named column_once (enumerate_from 0 schema.columns)
      (numbered 0 schema.columns (and_parts _ (are_distinct (λ (a b : Column). bytes_eq a.name b.name) schema.columns) column_parts.0).1) in
      let two_once = once_joined (kind_below 2) (of_kind 2) (kinds_apart 2) fs us (below 1 2 refl fs f_kind) u_kind f_once u_once in
      let three_once = once_joined (kind_below 3) (of_kind 3) (kinds_apart 3) (fs ++ us) cs (both_all (kind_below 3) fs us (below 1 3 refl fs f_kind) (below 2 3 refl us u_kind)) c_kind two_once c_once in
      let all_once = once_joined (kind_below 4) (of_kind 4) (kinds_apart 4) (fs ++ us ++ cs) ns
      (both_all (kind_below 4) (fs ++ us) cs (both_all (kind_below 4) fs us (below 1 4 refl fs f_kind) (below 2 4 refl us u_kind)) (below 3 4 refl cs c_kind)) n_kind three_once n_once in
      in_order_rises violation_cmp violation_total (fs ++ us ++ cs ++ ns) all_once
