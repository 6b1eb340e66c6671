-- A row found by halving rows whose keys rise.
use Rattle.std.proofs.Common.{◌≡◌, ◌≤◌, ◌-◌, ℕ, suc, List, [], ◌∷◌, ◌++◌, length, take, drop, slice_index_or, Option, Some, None, refl, sym, ap, ◌∙◌, subst, arith}
use Rattle.std.proofs.Math.Seq.{take-length}
use Rattle.std.proofs.lemmas.List.{take-append-drop}
use Rattle.std.specs.Prelude.{if◌then◌else◌}
use Rattle.std.specs.Ordering.{is_eq, ordering_reverse}
use Rattle.std.specs.declared.cmp.Ordering.TheVariants.{Less, Equal, Greater}
use Rattle.tuple_codec.proofs.Orderings.{less_is}
use Rattle.tuple_codec.proofs.Arithmetic.{one_less}
use Rattle.tuple_codec.specs.Rows.{Cells, key_cmp, same_cells}
use Rattle.tuple_codec.proofs.Orders.{key_cmp_total}
use Rattle.table_merge.specs.Rising.{RiseFrom}
use Rattle.table_merge.specs.Walking.{found, keys_in}
use Rattle.table_merge.specs.declared.keyed.KeyedRow.{KeyedRow}
use Rattle.table_merge.proofs.RiseLemmas.{cells_equal, rise_lower}

reversed : (a b : Cells) → key_cmp a b ≡ Less → key_cmp b a ≡ Greater
reversed a b e = key_cmp_total.antisymm b a ∙ ap ordering_reverse e

-- a key before the first of these is before each
rise_past : (low : Cells) (rows rest : List KeyedRow) (middle : KeyedRow) → RiseFrom (Some low) (keys_in (rows ++ middle ∷ rest)) → key_cmp low middle.key ≡ Less
rise_past low [] rest middle r = less_is _ r.0
rise_past low (row ∷ rows) rest middle r = key_cmp_total.trans low row.key middle.key (less_is _ r.0) (rise_past row.key rows rest middle r.1)

rise_tail : (rows rest : List KeyedRow) (middle : KeyedRow) (low : Option Cells) → RiseFrom low (keys_in (rows ++ middle ∷ rest)) → RiseFrom (Some middle.key) (keys_in rest)
rise_tail [] rest middle low r = r.1
rise_tail (row ∷ rows) rest middle low r = rise_tail rows rest middle (Some row.key) r.1

rise_front : (rows rest : List KeyedRow) (low : Option Cells) → RiseFrom low (keys_in (rows ++ rest)) → RiseFrom low (keys_in rows)
rise_front [] rest low r = tt
rise_front (row ∷ rows) rest low r = (r.0, rise_front rows rest (Some row.key) r.1)

-- rows above a key don't have it
none_above : (low key : Cells) (rows : List KeyedRow) → RiseFrom (Some low) (keys_in rows) → key_cmp key low ≡ Less → found key rows ≡ None
none_above low key [] r e = refl
none_above low key (row ∷ rows) r e =
    let less = key_cmp_total.trans key low row.key e (less_is _ r.0) in
    rw (ap is_eq (reversed key row.key less)) (none_above row.key key rows r.1 less)

-- rows before the middle one are passed over where it isn't above the key
pub passed_over : (key : Cells) (rows rest : List KeyedRow) (middle : KeyedRow) (low : Option Cells) → RiseFrom low (keys_in (rows ++ middle ∷ rest))
    → ((other : Cells) → key_cmp other middle.key ≡ Less → key_cmp other key ≡ Less) → found key (rows ++ middle ∷ rest) ≡ found key (middle ∷ rest)
passed_over key [] rest middle low r below = refl
passed_over key (row ∷ rows) rest middle low r below =
    rw (ap is_eq (below row.key (rise_past row.key rows rest middle r.1))) (passed_over key rows rest middle (Some row.key) r.1 below)

pub found_middle : (key : Cells) (rows rest : List KeyedRow) (middle : KeyedRow) → RiseFrom None (keys_in (rows ++ middle ∷ rest)) → key_cmp middle.key key ≡ Equal
    → found key (rows ++ middle ∷ rest) ≡ Some middle.row
found_middle key rows rest middle r e =
    passed_over key rows rest middle None r (λ other less. ap (key_cmp other) (sym (cells_equal middle.key key e)) ∙ less) ∙ rw (ap is_eq e) refl

pub found_later : (key : Cells) (rows rest : List KeyedRow) (middle : KeyedRow) → RiseFrom None (keys_in (rows ++ middle ∷ rest)) → key_cmp middle.key key ≡ Less
    → found key (rows ++ middle ∷ rest) ≡ found key rest
found_later key rows rest middle r e =
    passed_over key rows rest middle None r (λ other less. key_cmp_total.trans other middle.key key less e) ∙ rw (ap is_eq e) refl

pub found_sooner : (key : Cells) (rows rest : List KeyedRow) (middle : KeyedRow) (low : Option Cells) → RiseFrom low (keys_in (rows ++ middle ∷ rest)) → key_cmp middle.key key ≡ Greater
    → found key (rows ++ middle ∷ rest) ≡ found key rows
found_sooner key [] rest middle low r e =
    let less : key_cmp key middle.key ≡ Less = key_cmp_total.antisymm key middle.key ∙ ap ordering_reverse e in
    rw (ap is_eq e) (none_above middle.key key rest r.1 less)
found_sooner key (row ∷ rows) rest middle low r e = ap (λ (o : Option Cells). if same_cells row.key key then Some row.row else o) (found_sooner key rows rest middle (Some row.key) r.1 e)

pub rise_later : (rows rest : List KeyedRow) (middle : KeyedRow) → RiseFrom None (keys_in (rows ++ middle ∷ rest)) → RiseFrom None (keys_in rest)
rise_later rows rest middle r = rise_lower None middle.key (keys_in rest) refl (rise_tail rows rest middle None r)

pub rise_sooner : (rows rest : List KeyedRow) (middle : KeyedRow) → RiseFrom None (keys_in (rows ++ middle ∷ rest)) → RiseFrom None (keys_in rows)
rise_sooner rows rest middle r = rise_front rows (middle ∷ rest) None r

-- ---- by halves

-- rows are those before the middle one, it, and those behind it
pub record Halved (left front back : List KeyedRow) (middle : KeyedRow) : Type 0 where
  pub later : List KeyedRow
  pub later_is : take (length back - 1) (drop 1 back) ≡ later
  pub parts : left ≡ front ++ middle ∷ later

pub halved : (left front back : List KeyedRow) (at : ℕ) (middle : KeyedRow) → front ≡ take at left → back ≡ drop at left → middle ≡ slice_index_or back 0 middle → 1 ≤ length back
    → Halved left front back middle
halved left front [] at middle f b m long = absurd (omega (arith, long))
halved left front (row ∷ rest) at middle f b m long = record {
  later = rest;
  later_is = ap (λ n. take n rest) (one_less (length rest)) ∙ take-length rest;
  parts = sym (take-append-drop at left) ∙ ap (λ l. l ++ drop at left) (sym f) ∙ ap (λ l. front ++ l) (sym b) ∙ ap (λ r. front ++ r ∷ rest) (sym m);
}

module _ (rows left front back : List KeyedRow) (middle : KeyedRow) (key : Cells) (h : Halved left front back middle) (r : RiseFrom None (keys_in left)) (e : found key left ≡ found key rows) where
  here : RiseFrom None (keys_in (front ++ middle ∷ h.later))
  here = subst (λ l. RiseFrom None (keys_in l)) h.parts r

  pub at_middle : key_cmp middle.key key ≡ Equal → Some middle.row ≡ found key rows
  at_middle o = sym (ap (found key) h.parts ∙ found_middle key front h.later middle here o) ∙ e

  pub to_later : key_cmp middle.key key ≡ Less → RiseFrom None (keys_in (take (length back - 1) (drop 1 back))) × (found key (take (length back - 1) (drop 1 back)) ≡ found key rows)
  to_later o = (
    subst (λ l. RiseFrom None (keys_in l)) (sym h.later_is) (rise_later front h.later middle here),
    ap (found key) h.later_is ∙ sym (found_later key front h.later middle here o) ∙ sym (ap (found key) h.parts) ∙ e,
  )

  pub to_sooner : key_cmp middle.key key ≡ Greater → RiseFrom None (keys_in front) × (found key front ≡ found key rows)
  to_sooner o =
      (rise_sooner front h.later middle here, sym (found_sooner key front h.later middle None here o) ∙ sym (ap (found key) h.parts) ∙ e)
