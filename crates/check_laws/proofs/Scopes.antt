-- Which column a name of a CHECK means, in two tables of one name.
use Rattle.std.proofs.Common.{◌≡◌, ◌<◌, ◌≤◌, ◌==◌, refl, sym, ap, ◌∙◌, subst, ℕ, suc, ◌+◌, Bool, true, false, true≢false, cond, not, ◌&&◌, ltb, List, [], ◌∷◌, length, map, Option, Some, None, Ok, Err, arith, bytes_eq}
use Rattle.std.specs.Cmp.Lexicographic.{bytes_decides}
use Rattle.std.specs.List.{count_by, list_any, position, position_or_len, slice_get}
use Rattle.std.specs.Option.{option_map, option_map_or}
use Rattle.std.proofs.lemmas.Bool.{and_parts, le-ltb, lt-ltb, ltb-false, ltb-true, not-true, or_parts}
use Rattle.std.proofs.lemmas.List.Sums.{sum_by-cons}
use Rattle.schema_model.specs.Schemas.{are_distinct}
use Rattle.schema_model.specs.declared.schemas.Column.{Column}
use Rattle.schema_merge.specs.Parts.{find}
use Rattle.sql_values.specs.Kinds.{kind_of}
use Rattle.sql_values.specs.declared.kinds.Kind.{Kind}
use Rattle.expr_eval.specs.Binding.{Outcome, bound_column, column_typed}
use Rattle.expr_eval.specs.Scopes.{is_named, is_qualified, only, place_named, place_qualified}
use Rattle.expr_eval.specs.declared.bound.BoundExpr.{BoundExpr}
use Rattle.expr_eval.specs.declared.scopes.ScopeColumn.{ScopeColumn}
use Rattle.plain_writes.proofs.RowOrderLemmas.{two}
use Rattle.check_laws.proofs.Following.{Follow, MovesName}

abbrev pub in_scope : List ℕ → Column → ScopeColumn
in_scope table column = record { source = table; name = column.name; kind = column.kind }

abbrev pub scope_of : List ℕ → List Column → List ScopeColumn
scope_of table columns = map (in_scope table) columns

abbrev pub column_named : List ℕ → List Column → Option Column
column_named name columns = find (λ (part : Column). part.name) name columns

abbrev pub are_apart : List Column → Bool
are_apart columns = are_distinct (λ (a b : Column). bytes_eq a.name b.name) columns

-- ---- positions

module _ {A : Type 0} (p : A → Bool) where
  here : (x : A) (xs : List A) → p x ≡ true → position p (x ∷ xs) ≡ Some 0
  here x xs e =
      ap (λ b. cond (ltb (cond (not b) (1 + position_or_len p xs) 0) (suc (length xs))) (Some (cond (not b) (1 + position_or_len p xs) 0)) None) e
      ∙ ap (λ b. cond b (Some 0) None) (lt-ltb 0 (suc (length xs)) (omega arith))

  later_by : (k n : ℕ) (b : Bool) → ltb k n ≡ b → cond (ltb (1 + k) (suc n)) (Some (1 + k)) None ≡ option_map suc (cond b (Some k) None)
  later_by k n true e =
      let below : k < n = ltb-true k n e in
      let at : 1 + k ≡ suc k = omega arith in
      ap (λ b. cond b (Some (1 + k)) None) (lt-ltb (1 + k) (suc n) (omega arith)) ∙ ap Some at
  later_by k n false e = let above : n ≤ k = ltb-false k n e in ap (λ b. cond b (Some (1 + k)) None) (le-ltb (1 + k) (suc n) (omega arith))

  later : (x : A) (xs : List A) → p x ≡ false → position p (x ∷ xs) ≡ option_map suc (position p xs)
  later x xs e =
      ap (λ b. cond (ltb (cond (not b) (1 + position_or_len p xs) 0) (suc (length xs))) (Some (cond (not b) (1 + position_or_len p xs) 0)) None) e
      ∙ later_by (position_or_len p xs) (length xs) (ltb (position_or_len p xs) (length xs)) refl

  counted : (x : A) (xs : List A) → count_by p (x ∷ xs) ≡ cond (p x) 1 0 + count_by p xs
  counted x xs = sum_by-cons (λ (x : A). cond (p x) 1 0) x xs

mapped_some : (o : Option ℕ) (place : ℕ) → option_map suc o ≡ Some place → (before : ℕ) × (o ≡ Some before) × (suc before ≡ place)
mapped_some (Some n) place e = (n, refl, cc)
mapped_some None place e = cc

-- ---- what a test by a name finds

module _ (table : List ℕ) (name : List ℕ) (p : ScopeColumn → Bool) (same : (c : Column) → p (in_scope table c) ≡ bytes_eq c.name name) where
  abbrev IsFirst : List Column → ℕ → Type 0
  IsFirst columns place = (c : Column) × (slice_get (scope_of table columns) place ≡ Some (in_scope table c)) × (column_named name columns ≡ Some c)

  found : (c : Column) (columns : List Column) (b : Bool) → p (in_scope table c) ≡ b → column_named name (c ∷ columns) ≡ cond b (Some c) (column_named name columns)
  found c columns b e = ap (λ t. cond t (Some c) (column_named name columns)) (sym (same c) ∙ e)

  first_is : (columns : List Column) (place : ℕ) → position p (scope_of table columns) ≡ Some place → IsFirst columns place
  first_is [] place e = let none : position p [] ≡ None = refl in cc
  first_is (c ∷ columns) place e = two (p (in_scope table c))
      (λ t. let at : 0 ≡ place = zero_is place (sym (here p (in_scope table c) (scope_of table columns) t) ∙ e) in
      subst (IsFirst (c ∷ columns)) at (c, refl, found c columns true t))
      (λ t. let before = mapped_some (position p (scope_of table columns)) place (sym (later p (in_scope table c) (scope_of table columns) t) ∙ e) in
      let more = first_is columns before.0 before.1 in
      subst (IsFirst (c ∷ columns)) before.2 (more.0, more.1, found c columns false t ∙ more.2))
    where
      zero_is : (n : ℕ) → Some 0 ≡ Some n → 0 ≡ n
      zero_is n h = cc

  -- a name that means a column by this test
  typed_so : (k : Option Kind) (place : ℕ) (b : BoundExpr) → column_typed k place ≡ Ok b → k ≡ Some b.kind
  typed_so (Some k) place b e = let same_ : k ≡ b.kind = ap (λ (o : Outcome BoundExpr). elim o as (λ o. Kind) [ Ok x ↦ x.kind | Err n ↦ k ]) e in ap Some same_
  typed_so None place b e = cc

  placed_so : (columns : List Column) (o : Option ℕ) (b : BoundExpr) → position p (scope_of table columns) ≡ o → bound_column (scope_of table columns) o ≡ Ok b
      → (c : Column) × (column_named name columns ≡ Some c) × (kind_of c.kind ≡ Some b.kind)
  placed_so columns None b e h = cc
  placed_so columns (Some place) b e h =
      let first = first_is columns place e in
      let c = first.0 in
      let typed : column_typed (kind_of c.kind) place ≡ Ok b = sym (ap (λ (o : Option ScopeColumn). option_map_or (λ (column : ScopeColumn). column_typed (kind_of column.kind) place) o (Err 1054)) first.1) ∙ h in
      (c, first.2, typed_so (kind_of c.kind) place b typed)

  bound_so : (columns : List Column) (b : BoundExpr) → bound_column (scope_of table columns) (only p (scope_of table columns)) ≡ Ok b
      → (c : Column) × (column_named name columns ≡ Some c) × (kind_of c.kind ≡ Some b.kind)
  bound_so columns b h = two (count_by p (scope_of table columns) == 1)
      (λ t. placed_so columns (position p (scope_of table columns)) b refl (sym (ap (λ q. bound_column (scope_of table columns) (cond q (position p (scope_of table columns)) None)) t) ∙ h))
      (λ t. let none : bound_column (scope_of table columns) (only p (scope_of table columns)) ≡ Err 1054 = ap (λ q. bound_column (scope_of table columns) (cond q (position p (scope_of table columns)) None)) t in cc)

  -- ---- where the columns' names differ

  none_named : (c : Column) (columns : List Column) → bytes_eq c.name name ≡ true → list_any (λ (other : Column). bytes_eq c.name other.name) columns ≡ false → (count_by p (scope_of table columns) ≡ 0) × (column_named name columns ≡ None)
  none_named c [] is h = (refl, refl)
  none_named c (other ∷ columns) is h =
      let parts = or_parts (bytes_eq c.name other.name) (list_any (λ (other : Column). bytes_eq c.name other.name) columns) h in
      let more = none_named c columns is parts.1 in
      let apart : p (in_scope table other) ≡ false =
      same other ∙ two (bytes_eq other.name name)
      (λ t. absurd (true≢false (sym ((bytes_decides c.name other.name).1 ((bytes_decides c.name name).0 is ∙ sym ((bytes_decides other.name name).0 t))) ∙ parts.0)))
      (λ t. t) in
      (counted p (in_scope table other) (scope_of table columns) ∙ (λ i. cond (apart i) 1 0 + more.0 i), found other columns false apart ∙ more.1)

  one_named : (columns : List Column) (c : Column) → are_apart columns ≡ true → column_named name columns ≡ Some c
      → (count_by p (scope_of table columns) ≡ 1) × ((place : ℕ) × (position p (scope_of table columns) ≡ Some place))
  one_named [] c h e = cc
  one_named (one ∷ columns) c h e =
      let parts = and_parts (not (list_any (λ (other : Column). bytes_eq one.name other.name) columns)) (are_apart columns) h in
      two (p (in_scope table one))
      (λ t. let none = none_named one columns (sym (same one) ∙ t) (not-true _ parts.0) in
      (counted p (in_scope table one) (scope_of table columns) ∙ (λ i. cond (t i) 1 0 + none.0 i), (0, here p (in_scope table one) (scope_of table columns) t)))
      (λ t. let more = one_named columns c parts.1 (sym (found one columns false t) ∙ e) in
      let place = more.1 in
      (counted p (in_scope table one) (scope_of table columns) ∙ (λ i. cond (t i) 1 0 + more.0 i), (suc place.0, later p (in_scope table one) (scope_of table columns) t ∙ ap (option_map suc) place.1)))

  some_same : (c d : Column) (o : Option Column) → o ≡ Some c → o ≡ Some d → c ≡ d
  some_same c d o e f = cc

  means : (columns : List Column) (c : Column) → are_apart columns ≡ true → column_named name columns ≡ Some c
      → (place : ℕ) × (bound_column (scope_of table columns) (only p (scope_of table columns)) ≡ column_typed (kind_of c.kind) place)
  means columns c h e =
      let one = one_named columns c h e in
      let at = one.1 in
      let first = first_is columns at.0 at.1 in
      let d = first.0 in (
        at.0,
        ap (λ n. bound_column (scope_of table columns) (cond (n == 1) (position p (scope_of table columns)) None)) one.0
            ∙ ap (bound_column (scope_of table columns)) at.1
            ∙ ap (λ (o : Option ScopeColumn). option_map_or (λ (column : ScopeColumn). column_typed (kind_of column.kind) at.0) o (Err 1054)) first.1
            ∙ ap (λ (x : Column). column_typed (kind_of x.kind) at.0) (some_same d c (column_named name columns) first.2 e),
      )

  typed_kind : (k : Option Kind) (place : ℕ) (b : BoundExpr) (q : Outcome BoundExpr) → k ≡ Some b.kind → q ≡ column_typed k place → Follow (Ok b) q
  typed_kind k place b q e f = subst (λ o. Follow (Ok b) o) (sym (f ∙ ap (λ o. column_typed o place) e)) refl

  abbrev pub KeepsColumn : List Column → List Column → Type 0
  KeepsColumn columns others = (c : Column) → column_named name columns ≡ Some c → (d : Column) × (column_named name others ≡ Some d) × (d.kind ≡ c.kind)

  follow_by : (columns others : List Column) → are_apart others ≡ true → KeepsColumn columns others → (o : Outcome BoundExpr) → bound_column (scope_of table columns) (only p (scope_of table columns)) ≡ o
      → Follow o (bound_column (scope_of table others) (only p (scope_of table others)))
  follow_by columns others h keeps (Ok b) e =
      let old = bound_so columns b e in
      let new = keeps old.0 old.1 in
      let d = new.0 in
      let meant = means others d h new.1 in
      typed_kind (kind_of d.kind) meant.0 b (bound_column (scope_of table others) (only p (scope_of table others))) (ap kind_of new.2 ∙ old.2) meant.1
  follow_by columns others h keeps (Err n) e = tt

-- a table's name isn't another: no column is behind it
none_behind : (table source name : List ℕ) (columns : List Column) → bytes_eq table source ≡ false → count_by (is_qualified source name) (scope_of table columns) ≡ 0
none_behind table source name [] e = refl
none_behind table source name (c ∷ columns) e =
    counted (is_qualified source name) (in_scope table c) (scope_of table columns) ∙ (λ i. cond (e i && bytes_eq c.name name) 1 0 + none_behind table source name columns e i)

-- a name means a column of the same kind where the columns of that name have one type
pub name_moves : (table name : List ℕ) (columns others : List Column) → are_apart others ≡ true
    → ((c : Column) → column_named name columns ≡ Some c → (d : Column) × (column_named name others ≡ Some d) × (d.kind ≡ c.kind))
    → MovesName (scope_of table columns) (scope_of table others) name
name_moves table name columns others h keeps = record {
  alone = follow_by table name (is_named name) (λ c. refl) columns others h keeps (bound_column (scope_of table columns) (place_named name (scope_of table columns))) refl;
  behind = λ source. two (bytes_eq table source)
      (λ t. follow_by table name (is_qualified source name) (λ c. ap (λ b. b && bytes_eq c.name name) t) columns others h keeps (bound_column (scope_of table columns) (place_qualified source name (scope_of table columns))) refl)
      (λ t. subst (λ o. Follow o (bound_column (scope_of table others) (place_qualified source name (scope_of table others))))
      (sym (ap (λ n. bound_column (scope_of table columns) (cond (n == 1) (position (is_qualified source name) (scope_of table columns)) None)) (none_behind table source name columns t))) tt);
}
