-- Rows, conflicts and violations are known by their items, and tables by the items of their lists.
use Rattle.std.proofs.Common.{◌≡◌, refl, sym, ◌∙◌, ap, subst, ℕ, zero, suc, Bool, true, false, cond, eqb, leb, ltb, List, [], ◌∷◌, ◌++◌, length, map, get_or, drop, Option, None, Some, arith}
use Rattle.std.specs.Prelude.{◌&&◌, ◌||◌}
use Rattle.std.specs.List.{list_all}
use Rattle.std.specs.Ordering.{is_eq}
use Rattle.std.proofs.lemmas.Bool.{and_parts, and_from, eqb-true, ltb-true, le-leb}
use Rattle.tuple_codec.proofs.Options.{some_is}
use Rattle.tuple_codec.specs.Rows.{Cells, fits_all, key_cmp, key_of}
use Rattle.tuple_codec.specs.Limits.{are_types}
use Rattle.tuple_codec.specs.KeyBytes.{key_bytes}
use Rattle.tuple_codec.specs.RowBytes.{length_prefixed}
use Rattle.tuple_codec.specs.Fronts.{length_prefixed_at}
use Rattle.tuple_codec.specs.Nodes.{Item}
use Rattle.tuple_codec.specs.Texts.{is_utf8}
use Rattle.tuple_codec.specs.declared.forms.Form.TheVariants as form
use Rattle.tuple_codec.specs.declared.values.SqlType.TheVariants as kind
use Rattle.tuple_codec.specs.declared.values.Value.{Value}
use Rattle.tuple_codec.specs.declared.values.Value.TheVariants as cell
use Rattle.tuple_codec.proofs.CellLemmas.{one_spelling}
use Rattle.tuple_codec.proofs.Orders.{cells_told}
use Rattle.tuple_codec.proofs.TextLemmas.{counted_again}
use Rattle.schema_model.specs.Items.{ItemsTell}
use Rattle.schema_model.specs.PlainTables.{Conflict, IsTable, PlainTable, Violation, body_bytes, body_types, conflict_item, conflict_items, is_conflict, is_keyed, is_row, is_row_at, is_side_at, is_violation, key_types, primary_key, row_item, row_items, side_bytes, unkeyed_from, violation_item, violation_items}
use Rattle.schema_model.specs.Schemas.{is_name, is_schema}
use Rattle.schema_model.specs.declared.schemas.Schema.{Schema}
use Rattle.schema_model.proofs.FitLemmas.{body_fits, body_types_fit, key_types_fit, primary_key_fits, row_length}

-- ---- a row is known by its key and its other cells

-- two ways to give cells that agree on a key's positions agree on each
keyed_same : (f g : ℕ → Value) (key : List ℕ) (place : ℕ) → is_keyed key place ≡ true → map f key ≡ map g key → f place ≡ g place
keyed_same f g [] place h e = absurd cc
keyed_same f g (other ∷ key) place h e =
    let first : f other ≡ g other = cc in
    let more : map f key ≡ map g key = cc in
    elim (eqb other place) as (λ b. eqb other place ≡ b → (b || is_keyed key place) ≡ true → f place ≡ g place) [
      | true ↦ λ same k. let at : other ≡ place = eqb-true other place same in ap f (sym at) ∙ first ∙ ap g at
      | false ↦ λ same k. keyed_same f g key place k more
    ] refl h

pub cell_in : (full : Cells) (place : ℕ) (value : Value) (row : Cells) → drop place full ≡ value ∷ row → get_or full place cell.Null ≡ value
cell_in [] zero value row e = absurd (cc)
cell_in [] (suc place) value row e = absurd (cc)
cell_in (first ∷ full) zero value row e = cc
cell_in (first ∷ full) (suc place) value row e = cell_in full place value row e

pub cells_after : (full : Cells) (place : ℕ) (value : Value) (row : Cells) → drop place full ≡ value ∷ row → drop (suc place) full ≡ row
cells_after [] zero value row e = absurd (cc)
cells_after [] (suc place) value row e = absurd (cc)
cells_after (first ∷ full) zero value row e = cc
cells_after (first ∷ full) (suc place) value row e = cells_after full place value row e

both_cells : {A : Type 0} (x y : A) (xs ys : List A) → x ≡ y → xs ≡ ys → x ∷ xs ≡ y ∷ ys
both_cells x y xs ys e es = ap (λ z. z ∷ xs) e ∙ ap (λ zs. y ∷ zs) es

same_from : (key : List ℕ) (one other : Cells) (place : ℕ) (a b : Cells) → drop place one ≡ a → drop place other ≡ b → length a ≡ length b
    → key_of key one ≡ key_of key other → unkeyed_from key place a ≡ unkeyed_from key place b → a ≡ b
same_from key one other place [] [] at bt n keys others = refl
same_from key one other place [] (y ∷ b) at bt n keys others = absurd (omega (arith, n))
same_from key one other place (x ∷ a) [] at bt n keys others = absurd (omega (arith, n))
same_from key one other place (x ∷ a) (y ∷ b) at bt n keys others =
    let few : length a ≡ length b = omega (arith, n) in
    let rest = same_from key one other (suc place) a b (cells_after one place x a at) (cells_after other place y b bt) few keys in
    let u = unkeyed_from key (suc place) a in
    let v = unkeyed_from key (suc place) b in
    elim (is_keyed key place) as (λ c. is_keyed key place ≡ c → cond c u (x ∷ u) ≡ cond c v (y ∷ v) → x ∷ a ≡ y ∷ b) [
      | true ↦ λ k same.
          let found = keyed_same (λ p. get_or one p cell.Null) (λ p. get_or other p cell.Null) key place k keys in
          both_cells x y a b (sym (cell_in one place x a at) ∙ found ∙ cell_in other place y b bt) (rest same)
      | false ↦ λ k same. let first : x ≡ y = cc in let more : u ≡ v = cc in both_cells x y a b first (rest more)
    ] refl others

-- rows of one key with the same bytes beside it are one
pub row_by_parts : (s : Schema) (a b : Cells) → is_schema s ≡ true → is_row s a ≡ true → is_row s b ≡ true
    → primary_key s a ≡ primary_key s b → body_bytes s a ≡ body_bytes s b → a ≡ b
row_by_parts s a b h fa fb keys bodies =
    same_from s.key a b 0 a b refl refl (row_length s a fa ∙ sym (row_length s b fb)) keys
    (one_spelling form.Row (body_types s) (unkeyed_from s.key 0 a) (unkeyed_from s.key 0 b) [] [] (body_types_fit s h) (body_fits s a fa) (body_fits s b fb) (ap (λ (l : List ℕ). l ++ []) bodies)).0

pub row_by_item : (s : Schema) (a b : Cells) → is_schema s ≡ true → is_row s a ≡ true → is_row s b ≡ true → row_item s a ≡ row_item s b → a ≡ b
row_by_item s a b h fa fb e =
    row_by_parts s a b h fa fb
    (one_spelling form.Key (key_types s) (primary_key s a) (primary_key s b) [] [] (key_types_fit s h) (primary_key_fits s a h fa) (primary_key_fits s b h fb) (ap (λ (i : Item). i.key ++ []) e)).0
    (ap (λ (i : Item). i.body) e)

-- ---- a row beside a key that stands elsewhere

record IsRowAt (s : Schema) (key row : Cells) : Type 0 where
  fits : is_row s row ≡ true
  keyed : primary_key s row ≡ key

at_key : (s : Schema) (key row : Cells) → is_row_at s key row ≡ true → IsRowAt s key row
at_key s key row h =
    let both = and_parts (is_row s row) (is_eq (key_cmp (primary_key s row) key)) h in
    record { fits = both.0; keyed = (cells_told (primary_key s row) key).0 both.1 }

row_by_body : (s : Schema) (key a b : Cells) → is_schema s ≡ true → is_row_at s key a ≡ true → is_row_at s key b ≡ true → body_bytes s a ≡ body_bytes s b → a ≡ b
row_by_body s key a b h fa fb bodies =
    let p = at_key s key a fa in
    let q = at_key s key b fb in
    row_by_parts s a b h p.fits q.fits (p.keyed ∙ sym q.keyed) bodies

-- what stands behind its length, and what follows
counted_one : (a b x y : List ℕ) → length_prefixed a ++ x ≡ length_prefixed b ++ y → (a ≡ b) × (x ≡ y)
counted_one a b x y e =
    let same = some_is (a, x) (b, y) (sym (counted_again a x) ∙ ap length_prefixed_at e ∙ counted_again b y) in
    (ap (λ (p : List ℕ × List ℕ). p.0) same, ap (λ (p : List ℕ × List ℕ). p.1) same)

side_one : (s : Schema) (key : Cells) (a b : Option Cells) (x y : List ℕ) → is_schema s ≡ true → is_side_at s key a ≡ true → is_side_at s key b ≡ true
    → side_bytes s a ++ x ≡ side_bytes s b ++ y → (a ≡ b) × (x ≡ y)
side_one s key None None x y h fa fb e = (refl, cc)
side_one s key None (Some b) x y h fa fb e = absurd cc
side_one s key (Some a) None x y h fa fb e = absurd cc
side_one s key (Some a) (Some b) x y h fa fb e =
    let rest : length_prefixed (body_bytes s a) ++ x ≡ length_prefixed (body_bytes s b) ++ y = cc in
    let both = counted_one (body_bytes s a) (body_bytes s b) x y rest in
    (ap Some (row_by_body s key a b h fa fb both.0), both.1)

-- ---- conflicts

record IsConflict (s : Schema) (c : Conflict) : Type 0 where
  key : fits_all (key_types s) c.key ≡ true
  base : is_side_at s c.key c.base ≡ true
  ours : is_side_at s c.key c.ours ≡ true
  theirs : is_side_at s c.key c.theirs ≡ true

conflict_is : (s : Schema) (c : Conflict) → is_conflict s c ≡ true → IsConflict s c
conflict_is s c h =
    let a = and_parts (fits_all (key_types s) c.key && is_side_at s c.key c.base && is_side_at s c.key c.ours) (is_side_at s c.key c.theirs) h in
    let b = and_parts (fits_all (key_types s) c.key && is_side_at s c.key c.base) (is_side_at s c.key c.ours) a.0 in
    let d = and_parts (fits_all (key_types s) c.key) (is_side_at s c.key c.base) b.0 in
    record { key = d.0; base = d.1; ours = b.1; theirs = a.1 }

conflict_made : (a b : Conflict) → a.key ≡ b.key → a.base ≡ b.base → a.ours ≡ b.ours → a.theirs ≡ b.theirs → a ≡ b
conflict_made a b key base ours theirs =
    ap (λ x. record { key = x; base = a.base; ours = a.ours; theirs = a.theirs }) key
    ∙ ap (λ x. record { key = b.key; base = x; ours = a.ours; theirs = a.theirs }) base
    ∙ ap (λ x. record { key = b.key; base = b.base; ours = x; theirs = a.theirs }) ours
    ∙ ap (λ x. record { key = b.key; base = b.base; ours = b.ours; theirs = x }) theirs

conflict_by_item : (s : Schema) (a b : Conflict) → is_schema s ≡ true → is_conflict s a ≡ true → is_conflict s b ≡ true → conflict_item s a ≡ conflict_item s b → a ≡ b
conflict_by_item s a b h fa fb e =
    let p = conflict_is s a fa in
    let q = conflict_is s b fb in
    let key : a.key ≡ b.key = (one_spelling form.Key (key_types s) a.key b.key [] [] (key_types_fit s h) p.key q.key (ap (λ (i : Item). i.key ++ []) e)).0 in
    let at = λ (x : Option Cells) (f : is_side_at s b.key x ≡ true). subst (λ k. is_side_at s k x ≡ true) (sym key) f in
    let bodies : side_bytes s a.base ++ (side_bytes s a.ours ++ side_bytes s a.theirs) ≡ side_bytes s b.base ++ (side_bytes s b.ours ++ side_bytes s b.theirs) = ap (λ (i : Item). i.body) e in
    let first = side_one s a.key a.base b.base (side_bytes s a.ours ++ side_bytes s a.theirs) (side_bytes s b.ours ++ side_bytes s b.theirs) h p.base (at b.base q.base) bodies in
    let second = side_one s a.key a.ours b.ours (side_bytes s a.theirs) (side_bytes s b.theirs) h p.ours (at b.ours q.ours) first.1 in
    let third = side_one s a.key a.theirs b.theirs [] [] h p.theirs (at b.theirs q.theirs) (ap (λ l. l ++ []) second.1) in
    conflict_made a b key first.0 second.0 third.0

-- ---- violations

pub record IsViolation (s : Schema) (v : Violation) : Type 0 where
  pub name : is_name v.constraint ≡ true
  pub key : fits_all (key_types s) v.key ≡ true
  pub row : is_row_at s v.key v.row ≡ true

pub violation_is : (s : Schema) (v : Violation) → is_violation s v ≡ true → IsViolation s v
violation_is s v h =
    let a = and_parts _ (is_row_at s v.key v.row) h in
    let b = and_parts _ (fits_all (key_types s) v.key) a.0 in
    let c = and_parts _ (is_name v.constraint) b.0 in
    record { name = c.1; key = b.1; row = a.1 }

violation_made : (a b : Violation) → a.kind ≡ b.kind → a.constraint ≡ b.constraint → a.key ≡ b.key → a.row ≡ b.row → a ≡ b
violation_made a b sort constraint key row =
    ap (λ x. record { kind = x; constraint = a.constraint; key = a.key; row = a.row }) sort
    ∙ ap (λ x. record { kind = b.kind; constraint = x; key = a.key; row = a.row }) constraint
    ∙ ap (λ x. record { kind = b.kind; constraint = b.constraint; key = x; row = a.row }) key
    ∙ ap (λ x. record { kind = b.kind; constraint = b.constraint; key = b.key; row = x }) row

-- a name is a short byte string, and a key's text has the bytes of such a cell
named_fits : (s : Schema) (name : List ℕ) (key : Cells) → is_name name ≡ true → fits_all (key_types s) key ≡ true → fits_all (kind.Varbinary 255 ∷ key_types s) (cell.Bytes name ∷ key) ≡ true
named_fits s name key named fit =
    let few = ltb-true (length name) 256 (and_parts (ltb (length name) 256) (is_utf8 name) named).0 in
    and_from (leb (length name) 255) (fits_all (key_types s) key) (le-leb (length name) 255 (omega (arith, few))) fit

name_of_bytes : (a b : List ℕ) → cell.Bytes a ≡ cell.Bytes b → a ≡ b
name_of_bytes a b e = cc

violation_by_item : (s : Schema) (a b : Violation) → is_schema s ≡ true → is_violation s a ≡ true → is_violation s b ≡ true → violation_item s a ≡ violation_item s b → a ≡ b
violation_by_item s a b h fa fb e =
    let p = violation_is s a fa in
    let q = violation_is s b fb in
    let whole : a.kind ∷ key_bytes (cell.Bytes a.constraint ∷ a.key) ≡ b.kind ∷ key_bytes (cell.Bytes b.constraint ∷ b.key) = ap (λ (i : Item). i.key) e in
    let sort : a.kind ≡ b.kind = cc in
    let bytes : key_bytes (cell.Bytes a.constraint ∷ a.key) ≡ key_bytes (cell.Bytes b.constraint ∷ b.key) = cc in
    let cells = (one_spelling form.Key (kind.Varbinary 255 ∷ key_types s) (cell.Bytes a.constraint ∷ a.key) (cell.Bytes b.constraint ∷ b.key) [] []
    (and_from _ (are_types (key_types s)) refl (key_types_fit s h)) (named_fits s a.constraint a.key p.name p.key) (named_fits s b.constraint b.key q.name q.key) (ap (λ (l : List ℕ). l ++ []) bytes)).0 in
    let first : cell.Bytes a.constraint ≡ cell.Bytes b.constraint = cc in
    let key : a.key ≡ b.key = cc in
    violation_made a b sort (name_of_bytes a.constraint b.constraint first) key
    (row_by_body s a.key a.row b.row h p.row (subst (λ k. is_row_at s k b.row ≡ true) (sym key) q.row) (ap (λ (i : Item). i.body) e))

-- ---- tables

-- lists of things that are known by their items
pub all_by_items : {A : Type 0} (item : A → Item) (allows : A → Bool) → ((x y : A) → allows x ≡ true → allows y ≡ true → item x ≡ item y → x ≡ y)
    → (xs ys : List A) → list_all allows xs ≡ true → list_all allows ys ≡ true → map item xs ≡ map item ys → xs ≡ ys
all_by_items item allows each [] [] h k e = refl
all_by_items item allows each [] (y ∷ ys) h k e = absurd cc
all_by_items item allows each (x ∷ xs) [] h k e = absurd cc
all_by_items item allows each (x ∷ xs) (y ∷ ys) h k e =
    let p = and_parts (allows x) (list_all allows xs) h in
    let q = and_parts (allows y) (list_all allows ys) k in
    let first : item x ≡ item y = cc in
    let more : map item xs ≡ map item ys = cc in
    both_cells x y xs ys (each x y p.0 q.0 first) (all_by_items item allows each xs ys p.1 q.1 more)

table_of : Schema → List Cells → List Conflict → List Violation → PlainTable
table_of schema rows conflicts violations = record { schema = schema; rows = rows; conflicts = conflicts; violations = violations }

table_by_items : (a b : PlainTable) → IsTable a → IsTable b → a.schema ≡ b.schema → row_items a ≡ row_items b → conflict_items a ≡ conflict_items b
    → violation_items a ≡ violation_items b → a ≡ b
unfolding table_of
table_by_items a b ta tb schema rows conflicts violations =
    let s = b.schema in
    let h = tb.schema in
    let r = all_by_items (row_item s) (is_row s) (λ x y p q. row_by_item s x y h p q) a.rows b.rows
    (subst (λ z. list_all (is_row z) a.rows ≡ true) schema ta.rows) tb.rows (ap (λ z. map (row_item z) a.rows) (sym schema) ∙ rows) in
    let c = all_by_items (conflict_item s) (is_conflict s) (λ x y p q. conflict_by_item s x y h p q) a.conflicts b.conflicts
    (subst (λ z. list_all (is_conflict z) a.conflicts ≡ true) schema ta.conflicts) tb.conflicts (ap (λ z. map (conflict_item z) a.conflicts) (sym schema) ∙ conflicts) in
    let v = all_by_items (violation_item s) (is_violation s) (λ x y p q. violation_by_item s x y h p q) a.violations b.violations
    (subst (λ z. list_all (is_violation z) a.violations ≡ true) schema ta.violations) tb.violations (ap (λ z. map (violation_item z) a.violations) (sym schema) ∙ violations) in
    ap (λ z. table_of z a.rows a.conflicts a.violations) schema ∙ ap (λ z. table_of s z a.conflicts a.violations) r
    ∙ ap (λ z. table_of s b.rows z a.violations) c ∙ ap (λ z. table_of s b.rows b.conflicts z) v

pub items_tell : ItemsTell
items_tell = record { rows = row_by_item; conflicts = conflict_by_item; violations = violation_by_item; tables = table_by_items }
