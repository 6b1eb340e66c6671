-- A default's cell: what is decoded, and how many bytes it has.
use Rattle.std.proofs.Common.{◌≡◌, ℕ, suc, ◌+◌, ◌*◌, ◌/◌, ◌%◌, Bool, true, false, List, [], ◌∷◌, ◌++◌, length, Option, Some, None, refl, sym, ap, subst, ◌∙◌, append-nil, arith}
use Rattle.std.specs.Prelude.{is_some}
use Rattle.std.specs.Option.{option_map, option_and_then}
use Rattle.std.proofs.lemmas.Bool.{and_from}
use Rattle.tuple_codec.proofs.Options.{mapped as map_some, some_is, bound}
use Rattle.tuple_codec.specs.Fields.{bytes_at}
use Rattle.tuple_codec.specs.Rows.{Cells, fits}
use Rattle.tuple_codec.specs.Limits.{is_type}
use Rattle.tuple_codec.specs.RowBytes.{row_bytes, row_cell}
use Rattle.tuple_codec.specs.Spellings.{Decodes}
use Rattle.tuple_codec.specs.Cells.{spelling}
use Rattle.tuple_codec.specs.Fronts.{cells_front, whole}
use Rattle.tuple_codec.specs.declared.forms.Form.TheVariants as form
use Rattle.tuple_codec.specs.declared.values.SqlType.{SqlType}
use Rattle.tuple_codec.specs.declared.values.SqlType.TheVariants as kind
use Rattle.tuple_codec.specs.declared.values.Value.{Value}
use Rattle.tuple_codec.specs.declared.values.Value.TheVariants as cell
use Rattle.tuple_codec.proofs.CellLemmas.{cells_again, found}
use Rattle.tuple_codec.proofs.NumberLemmas.{AreBytes}
use Rattle.tuple_codec.proofs.FieldLemmas.{bytes_again}
use Rattle.schema_model.specs.SchemaBytes.{default_bytes}
use Rattle.schema_model.specs.Schemas.{default_fits}
use Rattle.schema_model.proofs.PartLemmas.{AreBytes-front, Takes, bind_some, bytes_takes, takes}
use Rattle.schema_model.specs.Reading.{◌>>=◌, cell_size, default_at, only, text_size, value_at, value_of}

-- what decoding answers is what is in front, since a type within its limits reads each cell in one way
pub decoded : (type : SqlType) (bytes : List ℕ) (o : Option Cells) → is_type type ≡ true → AreBytes bytes → Decodes row_bytes (type ∷ []) bytes o → whole (cells_front form.Row (type ∷ []) bytes) ≡ o
decoded type bytes (Some row) t fit d =
    let good = and_from (is_type type) true t refl in
    let again = cells_again form.Row (type ∷ []) row [] good d.0 in
    let all : spelling form.Row row ++ [] ≡ bytes = append-nil (spelling form.Row row) ∙ d.1 in
    ap (λ (b : List ℕ). whole (cells_front form.Row (type ∷ []) b)) (sym all) ∙ ap whole again
decoded type bytes None t fit d =
    elim (whole (cells_front form.Row (type ∷ []) bytes)) as (λ o. whole (cells_front form.Row (type ∷ []) bytes) ≡ o → o ≡ None) [
      | Some row ↦ λ e. let f = found form.Row (type ∷ []) bytes row fit e in absurd (d row f.0 f.1)
      | None ↦ λ e. refl
    ] refl

pub value_decoded : (type : SqlType) (bytes : List ℕ) (o : Option Cells) → is_type type ≡ true → AreBytes bytes → Decodes row_bytes (type ∷ []) bytes o → value_of type bytes ≡ option_and_then only o
unfolding value_of
value_decoded type bytes o t fit d = ap (option_and_then only) (decoded type bytes o t fit d)

-- ---- what is read has the bytes

only_is : (row : Cells) (v : Value) → only row ≡ Some v → row ≡ v ∷ []
only_is [] v e = absurd cc
only_is (w ∷ []) v e = ap (λ (u : Value). u ∷ []) (some_is w v e)
only_is (w ∷ u ∷ row) v e = absurd cc

value_spelled : (type : SqlType) (bytes : List ℕ) (v : Value) → AreBytes bytes → value_of type bytes ≡ Some v → bytes ≡ row_cell v
unfolding value_of
value_spelled type bytes v fit e =
    let b = bound (whole (cells_front form.Row (type ∷ []) bytes)) only v e in
    let row = only_is b.0 v b.2 in
    let f = found form.Row (type ∷ []) bytes b.0 fit b.1 in
    sym f.1 ∙ ap row_bytes row ∙ append-nil (row_cell v)

value_takes : (type : SqlType) (bytes : List ℕ) (x : Value × List ℕ) → AreBytes bytes → value_at type bytes ≡ Some x → bytes ≡ row_cell x.0 ++ x.1
unfolding value_at
value_takes type bytes x fit e =
    let a = bind_some (cell_size type bytes) (λ size. bytes_at size bytes >>= λ cell. value_of type cell.0 >>= λ value. Some (value, cell.1)) x e in
    let b = bind_some (bytes_at a.0 bytes) (λ cell. value_of type cell.0 >>= λ value. Some (value, cell.1)) x a.2 in
    let c = bind_some (value_of type b.0.0) (λ value. Some (value, b.0.1)) x b.2 in
    let t = bytes_takes a.0 bytes b.0 b.1 in
    let front : AreBytes b.0.0 = AreBytes-front b.0.0 b.0.1 bytes fit t.0 in
    let spelled = value_spelled type b.0.0 c.0 front c.1 in
    subst (λ (y : Value × List ℕ). bytes ≡ row_cell y.0 ++ y.1) (some_is (c.0, b.0.1) x c.2)
    (t.0 ∙ ap (λ (l : List ℕ). l ++ b.0.1) spelled)

pub default_takes : (flag : Bool) (type : SqlType) (bytes : List ℕ) (x : Option Value × List ℕ) → AreBytes bytes → default_at flag type bytes ≡ Some x
    → Takes bytes (default_bytes x.0) x.1 × (is_some x.0 ≡ flag)
default_takes false type bytes x fit e =
    subst (λ (y : Option Value × List ℕ). Takes bytes (default_bytes y.0) y.1 × (is_some y.0 ≡ false)) (some_is (None, bytes) x e)
    (record { parts = refl; rest_fits = fit }, refl)
default_takes true type bytes x fit e =
    let m = map_some (value_at type bytes) (λ y. (Some y.0, y.1)) x e in
    let t = value_takes type bytes m.0 fit m.1 in
    subst (λ (y : Option Value × List ℕ). Takes bytes (default_bytes y.0) y.1 × (is_some y.0 ≡ true)) m.2
    (takes bytes (row_cell m.0.0) m.0.1 fit t, refl)

-- ---- what was written is read again

text_again : (text rest : List ℕ) → text_size (length text / 256 ∷ length text % 256 ∷ (text ++ rest)) ≡ Some (suc (suc (suc (length text))))
text_again text rest =
    let n : 3 + (length text / 256 * 256 + length text % 256) ≡ suc (suc (suc (length text))) = omega arith in
    ap (λ (k : ℕ). Some k) n

size_again : (type : SqlType) (v : Value) (rest : List ℕ) → fits type v ≡ true → cell_size type (row_cell v ++ rest) ≡ Some (length (row_cell v))
size_again type cell.Null rest fit = refl
size_again kind.BigInt (cell.Int n) rest fit = refl
size_again kind.Int (cell.Int n) rest fit = refl
size_again kind.Bool (cell.Bool b) rest fit = refl
size_again (kind.Varchar most) (cell.Text text) rest fit = text_again text rest
size_again (kind.Varbinary most) (cell.Bytes text) rest fit = text_again text rest
size_again (kind.Decimal digits scale) (cell.Decimal n) rest fit = refl
size_again type v rest fit = absurd cc

value_found : (type : SqlType) (v : Value) → is_type type ≡ true → fits type v ≡ true → value_of type (row_cell v) ≡ Some v
unfolding value_of
value_found type v t fit =
    let good = and_from (is_type type) true t refl in
    let fitting = and_from (fits type v) true fit refl in
    let again = cells_again form.Row (type ∷ []) (v ∷ []) [] good fitting in
    let all : spelling form.Row (v ∷ []) ++ [] ≡ row_cell v = append-nil (spelling form.Row (v ∷ [])) ∙ append-nil (row_cell v) in
    ap (λ (b : List ℕ). option_and_then only (whole (cells_front form.Row (type ∷ []) b))) (sym all) ∙ ap (λ (o : Option (Cells × List ℕ)). option_and_then only (whole o)) again

value_again : (type : SqlType) (v : Value) (rest : List ℕ) → is_type type ≡ true → fits type v ≡ true → value_at type (row_cell v ++ rest) ≡ Some (v, rest)
unfolding value_at
value_again type v rest t fit =
    let bytes = row_cell v ++ rest in
    let second : List ℕ × List ℕ → Option (Value × List ℕ) = λ cell. value_of type cell.0 >>= λ value. Some (value, cell.1) in
    ap (λ (o : Option ℕ). o >>= λ size. bytes_at size bytes >>= second) (size_again type v rest fit)
    ∙ ap (λ (o : Option (List ℕ × List ℕ)). o >>= second) (bytes_again (length (row_cell v)) (row_cell v) rest refl)
    ∙ ap (λ (o : Option Value). o >>= λ value. Some (value, rest)) (value_found type v t fit)

pub default_again : (default : Option Value) (type : SqlType) (rest : List ℕ) → is_type type ≡ true → default_fits type default ≡ true
    → default_at (is_some default) type (default_bytes default ++ rest) ≡ Some (default, rest)
default_again None type rest t fit = refl
default_again (Some v) type rest t fit = ap (λ (o : Option (Value × List ℕ)). option_map (λ x. (Some x.0, x.1)) o) (value_again type v rest t fit)
