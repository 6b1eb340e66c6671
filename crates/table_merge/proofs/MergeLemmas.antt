-- What merged rows and conflicts are: a table's.
use Rattle.std.proofs.Common.{◌≡◌, ◌⊎◌, inl, inr, ℕ, zero, suc, Bool, true, false, List, [], ◌∷◌, map, get_or, Option, Some, None, refl, sym, ap, ◌∙◌, subst, option_map, option_and_then}
use Rattle.std.specs.Prelude.{if◌then◌else◌}
use Rattle.std.specs.List.{list_all}
use Rattle.std.proofs.lemmas.Bool.{and_parts, and_from}
use Rattle.tuple_codec.proofs.Options.{some_is}
use Rattle.tuple_codec.specs.RowRule.{by_cells, cells3, or_by_cells, row3, same_option, three_way}
use Rattle.tuple_codec.specs.Rows.{Cells, cell_at, fits, fits_all, key_of, same_cells, same_value}
use Rattle.tuple_codec.specs.declared.values.SqlType.{SqlType}
use Rattle.tuple_codec.specs.declared.values.Value.{Value}
use Rattle.tuple_codec.specs.declared.values.Value.TheVariants as cell
use Rattle.tuple_codec.proofs.Orders.{cells_told}
use Rattle.schema_model.specs.PlainTables.{Conflict, IsTable, is_conflict, is_row, is_side_at, key_types, primary_key, types_of}
use Rattle.schema_model.specs.Schemas.{is_schema}
use Rattle.schema_model.specs.declared.schemas.Schema.{Schema}
use Rattle.schema_model.proofs.FitLemmas.{primary_key_fits}
use Rattle.schema_merge.specs.KeyByKey.{kept}
use Rattle.schema_merge.specs.TableMerge.{Three, answer_at, conflict_at, conflict_if, keys_of, row_after, row_at, sides_at, table_of}
use Rattle.table_merge.specs.Rising.{IsAt, RiseFrom}
use Rattle.table_merge.proofs.PartLemmas.{three_gives}
use Rattle.table_merge.proofs.RiseLemmas.{gathered_all, gathered_rise, rises_of, with_all, with_rise}

-- ---- rows by key

pub row_is_at : (s : Schema) (key : Cells) (rows : List Cells) → list_all (is_row s) rows ≡ true → IsAt s key (row_at s key rows)
row_is_at s key [] h = tt
row_is_at s key (row ∷ rows) h =
    let one = and_parts (is_row s row) (list_all (is_row s) rows) h in
    by (same_cells (primary_key s row) key) refl one.0 (row_is_at s key rows one.1) where
      by : (b : Bool) → same_cells (primary_key s row) key ≡ b → is_row s row ≡ true → IsAt s key (row_at s key rows) → IsAt s key (if b then Some row else row_at s key rows)
      by true e is more = (is, (cells_told (primary_key s row) key).0 e)
      by false e is more = more

-- ---- cells merged

-- what cells come to, cell by cell
data Joins (base ours theirs : Value) (bases others rest row : Cells) : Type 0 where
  Joined : (value : Value) (values : Cells) → (value ≡ ours) ⊎ (value ≡ theirs) → cells3 bases others rest ≡ Some values → row ≡ value ∷ values → Joins base ours theirs bases others rest row

cells_step : (base ours theirs : Value) (bases others rest row : Cells) → cells3 (base ∷ bases) (ours ∷ others) (theirs ∷ rest) ≡ Some row → Joins base ours theirs bases others rest row
cells_step base ours theirs bases others rest row e = by (three_way same_value base ours theirs) refl (cells3 bases others rest) refl e where
  by : (v : Option Value) → three_way same_value base ours theirs ≡ v → (o : Option Cells) → cells3 bases others rest ≡ o
      → option_and_then (λ value. option_map (λ (cells : Cells). value ∷ cells) o) v ≡ Some row → Joins base ours theirs bases others rest row
  by None t o h e = absurd (cc)
  by (Some value) t None h e = absurd (cc)
  by (Some value) t (Some values) h e = Joined value values (three_gives same_value base ours theirs value t) h (sym (some_is (value ∷ values) row e))

cells_fit : (types : List SqlType) (bases others rest row : Cells) → fits_all types others ≡ true → fits_all types rest ≡ true → cells3 bases others rest ≡ Some row → fits_all types row ≡ true
cells_fit types [] [] [] row p q e = ap (fits_all types) (sym (some_is [] row e)) ∙ p
cells_fit types [] [] (t ∷ rest) row p q e = absurd (cc)
cells_fit types [] (o ∷ others) rest row p q e = absurd (cc)
cells_fit types (b ∷ bases) [] rest row p q e = absurd (cc)
cells_fit types (b ∷ bases) (o ∷ others) [] row p q e = absurd (cc)
cells_fit [] (b ∷ bases) (o ∷ others) (t ∷ rest) row p q e = absurd (cc)
cells_fit (type ∷ types) (b ∷ bases) (o ∷ others) (t ∷ rest) row p q e =
    let one = and_parts (fits type o) (fits_all types others) p in
    let two = and_parts (fits type t) (fits_all types rest) q in
    by (cells_step b o t bases others rest row e) one.0 two.0 (λ values. cells_fit types bases others rest values one.1 two.1) where
      by : Joins b o t bases others rest row → fits type o ≡ true → fits type t ≡ true → ((values : Cells) → cells3 bases others rest ≡ Some values → fits_all types values ≡ true)
          → fits_all (type ∷ types) row ≡ true
      by (Joined value values (inl h) here is) p q more = ap (fits_all (type ∷ types)) is ∙ and_from _ _ (ap (fits type) h ∙ p) (more values here)
      by (Joined value values (inr h) here is) p q more = ap (fits_all (type ∷ types)) is ∙ and_from _ _ (ap (fits type) h ∙ q) (more values here)

cell_one : (bases others rest row : Cells) (i : ℕ) → cells3 bases others rest ≡ Some row → get_or others i cell.Null ≡ get_or rest i cell.Null → get_or row i cell.Null ≡ get_or others i cell.Null
cell_one [] [] [] row i e same = ap (λ (r : Cells). get_or r i cell.Null) (sym (some_is [] row e))
cell_one [] [] (t ∷ rest) row i e same = absurd (cc)
cell_one [] (o ∷ others) rest row i e same = absurd (cc)
cell_one (b ∷ bases) [] rest row i e same = absurd (cc)
cell_one (b ∷ bases) (o ∷ others) [] row i e same = absurd (cc)
cell_one (b ∷ bases) (o ∷ others) (t ∷ rest) row i e same = at i (cells_step b o t bases others rest row e) (λ values i. cell_one bases others rest values i) same where
  at : (i : ℕ) → Joins b o t bases others rest row → ((values : Cells) (i : ℕ) → cells3 bases others rest ≡ Some values → get_or others i cell.Null ≡ get_or rest i cell.Null
      → get_or values i cell.Null ≡ get_or others i cell.Null) → get_or (o ∷ others) i cell.Null ≡ get_or (t ∷ rest) i cell.Null → get_or row i cell.Null ≡ get_or (o ∷ others) i cell.Null
  at zero (Joined value values (inl h) here is) more same = ap (λ (r : Cells). get_or r zero cell.Null) is ∙ h
  at zero (Joined value values (inr h) here is) more same = ap (λ (r : Cells). get_or r zero cell.Null) is ∙ h ∙ sym same
  at (suc i) (Joined value values h here is) more same = ap (λ (r : Cells). get_or r (suc i) cell.Null) is ∙ more values i here same

-- ---- keys are what their cells are

first_cell : Cells → Value
first_cell [] = cell.Null
first_cell (value ∷ cells) = value

other_cells : Cells → Cells
other_cells [] = []
other_cells (value ∷ cells) = cells

key_one : (places : List ℕ) (bases others rest row : Cells) → cells3 bases others rest ≡ Some row → key_of places others ≡ key_of places rest → key_of places row ≡ key_of places others
unfolding first_cell other_cells
key_one [] bases others rest row e same = refl
key_one (place ∷ places) bases others rest row e same =
    let here = cell_one bases others rest row place e (ap first_cell same) in
    let more = key_one places bases others rest row e (ap other_cells same) in
    ap (λ (v : Value). v ∷ key_of places row) here ∙ ap (λ (k : Cells). cell_at others place ∷ k) more

-- ---- the row rule

answer_is_at : (s : Schema) (key : Cells) (base ours theirs merged : Option Cells) → IsAt s key ours → IsAt s key theirs → row3 base ours theirs ≡ Some merged → IsAt s key merged
unfolding row3
answer_is_at s key base ours theirs merged p q e = by (three_way (same_option same_cells) base ours theirs) refl e where
  cells_at : (base ours theirs : Option Cells) → IsAt s key ours → IsAt s key theirs → by_cells base ours theirs ≡ Some merged → IsAt s key merged
  cells_at None ours theirs p q e = absurd (cc)
  cells_at (Some b) None theirs p q e = absurd (cc)
  cells_at (Some b) (Some o) None p q e = absurd (cc)
  cells_at (Some b) (Some o) (Some t) p q e = of (cells3 b o t) refl e where
    of : (c : Option Cells) → cells3 b o t ≡ c → option_map (λ (row : Cells). Some row) c ≡ Some merged → IsAt s key merged
    of None h e = absurd (cc)
    of (Some row) h e = subst (IsAt s key) (some_is (Some row) merged e)
        (cells_fit (types_of s) b o t row p.0 q.0 h, key_one s.key b o t row h (p.1 ∙ sym q.1) ∙ p.1)

  by : (w : Option (Option Cells)) → three_way (same_option same_cells) base ours theirs ≡ w → or_by_cells w base ours theirs ≡ Some merged → IsAt s key merged
  by None h e = cells_at base ours theirs p q e
  by (Some x) h e = whole (three_gives (same_option same_cells) base ours theirs x h) where
    whole : (x ≡ ours) ⊎ (x ≡ theirs) → IsAt s key merged
    whole (inl o) = subst (IsAt s key) (sym o ∙ some_is x merged e) p
    whole (inr t) = subst (IsAt s key) (sym t ∙ some_is x merged e) q

kept_is_at : (s : Schema) (key : Cells) (ours : Option Cells) (answer : Option (Option Cells)) → IsAt s key ours → ((merged : Option Cells) → answer ≡ Some merged → IsAt s key merged)
    → IsAt s key (kept ours answer)
kept_is_at s key ours None p h = p
kept_is_at s key ours (Some merged) p h = h merged refl

-- ---- the merged table

-- rows of the schema whose keys rise
pub record AreRows (s : Schema) (rows : List Cells) : Type 0 where
  pub fit : list_all (is_row s) rows ≡ true
  pub rise : RiseFrom None (map (primary_key s) rows)

pub record AreThree (s : Schema) (three : Three) : Type 0 where
  pub base : AreRows s three.base
  pub ours : AreRows s three.ours
  pub theirs : AreRows s three.theirs

pub row_after_is : (s : Schema) (three : Three) → AreThree s three → (key : Cells) → IsAt s key (row_after s three key)
row_after_is s three are key =
    kept_is_at s key (row_at s key three.ours) (answer_at s three key) (row_is_at s key three.ours are.ours.fit)
    (λ merged e. answer_is_at s key (row_at s key three.base) (row_at s key three.ours) (row_at s key three.theirs) merged (row_is_at s key three.ours are.ours.fit)
    (row_is_at s key three.theirs are.theirs.fit) e)

at_some : (s : Schema) (key : Cells) (o : Option Cells) (row : Cells) → IsAt s key o → o ≡ Some row → (is_row s row ≡ true) × (primary_key s row ≡ key)
at_some s key o row h e = subst (IsAt s key) e h

keys_fit : (s : Schema) (rows : List Cells) → is_schema s ≡ true → list_all (is_row s) rows ≡ true → list_all (fits_all (key_types s)) (map (primary_key s) rows) ≡ true
keys_fit s [] is h = refl
keys_fit s (row ∷ rows) is h =
    let one = and_parts (is_row s row) (list_all (is_row s) rows) h in
    and_from _ _ (primary_key_fits s row is one.0) (keys_fit s rows is one.1)

pub all_keys_fit : (s : Schema) (three : Three) → is_schema s ≡ true → AreThree s three → list_all (fits_all (key_types s)) (keys_of s three) ≡ true
all_keys_fit s three is are =
    with_all (fits_all (key_types s)) (map (primary_key s) three.base) _ (keys_fit s three.base is are.base.fit)
    (with_all (fits_all (key_types s)) (map (primary_key s) three.ours) _ (keys_fit s three.ours is are.ours.fit) (keys_fit s three.theirs is are.theirs.fit))

pub all_keys_rise : (s : Schema) (three : Three) → AreThree s three → RiseFrom None (keys_of s three)
all_keys_rise s three are =
    with_rise (map (primary_key s) three.base) None _ are.base.rise (with_rise (map (primary_key s) three.ours) None _ are.ours.rise are.theirs.rise)

side_at : (s : Schema) (key : Cells) (o : Option Cells) → IsAt s key o → is_side_at s key o ≡ true
side_at s key None h = refl
side_at s key (Some row) h = and_from _ _ h.0 ((cells_told (primary_key s row) key).1 h.1)

pub conflict_is : (conflict found : Conflict) (answer : Option (Option Cells)) → conflict_if conflict answer ≡ Some found → conflict ≡ found
conflict_is conflict found None e = some_is conflict found e
conflict_is conflict found (Some merged) e = absurd (cc)

sides_are : (s : Schema) (three : Three) → AreThree s three → (key : Cells) → fits_all (key_types s) key ≡ true → is_conflict s (sides_at s three key) ≡ true
sides_are s three are key h =
    and_from _ _ (and_from _ _ (and_from _ _ h (side_at s key _ (row_is_at s key three.base are.base.fit))) (side_at s key _ (row_is_at s key three.ours are.ours.fit)))
    (side_at s key _ (row_is_at s key three.theirs are.theirs.fit))

pub rows_fit : (s : Schema) (three : Three) → AreThree s three → list_all (is_row s) (table_of s three).rows ≡ true
rows_fit s three are = gathered_all (row_after s three) (λ k. true) (is_row s) (λ k x t e. (at_some s k (row_after s three k) x (row_after_is s three are k) e).0) (keys_of s three) (every (keys_of s three)) where
  every : (keys : List Cells) → list_all (λ (k : Cells). true) keys ≡ true
  every [] = refl
  every (k ∷ keys) = every keys

pub rows_rise : (s : Schema) (three : Three) → AreThree s three → RiseFrom None (map (primary_key s) (table_of s three).rows)
rows_rise s three are =
    gathered_rise (row_after s three) (primary_key s) (λ k x e. (at_some s k (row_after s three k) x (row_after_is s three are k) e).1) (keys_of s three) None (all_keys_rise s three are)

pub conflicts_rise : (s : Schema) (three : Three) → AreThree s three → RiseFrom None (map (λ (c : Conflict). c.key) (table_of s three).conflicts)
conflicts_rise s three are =
    gathered_rise (conflict_at s three) (λ (c : Conflict). c.key) (λ k x e. ap (λ (c : Conflict). c.key) (sym (conflict_is (sides_at s three k) x (answer_at s three k) e))) (keys_of s three) None
    (all_keys_rise s three are)

pub conflicts_fit : (s : Schema) (three : Three) → is_schema s ≡ true → AreThree s three → list_all (is_conflict s) (table_of s three).conflicts ≡ true
conflicts_fit s three is are =
    gathered_all (conflict_at s three) (fits_all (key_types s)) (is_conflict s)
    (λ k x t e. ap (is_conflict s) (sym (conflict_is (sides_at s three k) x (answer_at s three k) e)) ∙ sides_are s three are k t) (keys_of s three) (all_keys_fit s three is are)

pub merged_is_table : (s : Schema) (three : Three) → is_schema s ≡ true → AreThree s three → IsTable (table_of s three)
merged_is_table s three is are = record {
  schema = is;
  rows = rows_fit s three are;
  keys = rises_of (primary_key s) None (table_of s three).rows (rows_rise s three are);
  conflicts = conflicts_fit s three is are;
  conflict_keys = rises_of (λ (c : Conflict). c.key) None (table_of s three).conflicts (conflicts_rise s three are);
  violations = refl;
  violation_keys = refl;
}
