-- What is read from the front of bytes is what has them, cell by cell and row by row.
use Rattle.std.proofs.Common.{◌≡◌, ℕ, zero, suc, ◌^◌, ◌<◌, ◌≤◌, ℤ, pos, negsuc, Bool, true, false, cond, eqb, leb, List, [], ◌∷◌, ◌++◌, length, Option, Some, None, refl, sym, ap, subst, ◌∙◌, append_assoc, arith, inl, inr}
use Rattle.std.specs.Prelude.{◌&&◌, unsigned_abs}
use Rattle.std.specs.Option.{option_map}
use Rattle.std.specs.Int.{w64, from_be_bytes, to_be_bytes}
use Rattle.std.proofs.lemmas.Bool.{ltb-true, lt-ltb, leb-true, and_parts, and_from, cases_Bool, eqb-true}
use Rattle.std.proofs.lemmas.List.{append-nil, nil_from_length}
use Rattle.std.proofs.Math.Nat.{pow-le-pow_right}
use Rattle.tuple_codec.proofs.Options.{bound, chosen_some as chosen, mapped}
use Rattle.tuple_codec.specs.Rows.{Cells, fits, fits_all, fits_bits}
use Rattle.tuple_codec.specs.Limits.{is_type, are_types}
use Rattle.tuple_codec.specs.KeyBytes.{bit}
use Rattle.tuple_codec.specs.Cells.{bits_of, text_bytes, cell_bytes, spelling}
use Rattle.tuple_codec.specs.Fronts.{number_of, number_front, bool_front, text_front, made, value_front, fitting, cell_front, cells_front, whole}
use Rattle.tuple_codec.specs.declared.values.SqlType.{SqlType}
use Rattle.tuple_codec.specs.declared.values.SqlType.TheVariants as kind
use Rattle.tuple_codec.specs.declared.values.Value.{Value}
use Rattle.tuple_codec.specs.declared.values.Value.TheVariants as cell
use Rattle.tuple_codec.specs.declared.forms.Form.{Form}
use Rattle.tuple_codec.specs.declared.forms.Form.TheVariants as form
use Rattle.tuple_codec.proofs.NumberLemmas.{AreBytes, AreBytes-after, number_takes, number_read, number_again, read_within}
use Rattle.tuple_codec.proofs.TextLemmas.{AreBytes-rest, counted_again, counted_takes, escaped_again, escaped_takes}

-- ---- the bytes of a cell, by its variant

pub int_bytes : (f : Form) (n : ℤ) → cell_bytes f (cell.Int n) ≡ 1 ∷ to_be_bytes w64 (bits_of f n)
int_bytes form.Key n = refl
int_bytes form.Row n = refl

pub decimal_bytes : (f : Form) (n : ℤ) → cell_bytes f (cell.Decimal n) ≡ 1 ∷ to_be_bytes w64 (bits_of f n)
decimal_bytes form.Key n = refl
decimal_bytes form.Row n = refl

pub bool_bytes : (f : Form) (b : Bool) → cell_bytes f (cell.Bool b) ≡ 1 ∷ bit b ∷ []
bool_bytes form.Key b = refl
bool_bytes form.Row b = refl

pub null_bytes : (f : Form) → cell_bytes f cell.Null ≡ 0 ∷ []
null_bytes form.Key = refl
null_bytes form.Row = refl

pub text_is : (f : Form) (text : List ℕ) → cell_bytes f (cell.Text text) ≡ 1 ∷ text_bytes f text
text_is form.Key text = refl
text_is form.Row text = refl

pub blob_is : (f : Form) (bytes : List ℕ) → cell_bytes f (cell.Bytes bytes) ≡ 1 ∷ text_bytes f bytes
blob_is form.Key bytes = refl
blob_is form.Row bytes = refl

-- ---- what is read has the bytes

abbrev some : {A : Type 0} → A → Option A
some x = Some x

some_is : {A : Type 0} (x y : A) → some x ≡ some y → x ≡ y
some_is x y e = cc

made_is : {X : Type 0} (make : X → Value) (o : Option (X × List ℕ)) (v : Value) (rest : List ℕ) → made make o ≡ Some (v, rest) → (x : X) × (o ≡ Some (x, rest)) × (make x ≡ v)
made_is make None v rest e = absurd cc
made_is {X} make (Some p) v rest e =
    let q = some_is (make p.0, p.1) (v, rest) e in
    (p.0, ap (λ (r : Value × List ℕ). some (p.0, r.1)) q, ap (λ (r : Value × List ℕ). r.0) q)

text_takes : (f : Form) (bytes text rest : List ℕ) → AreBytes bytes → text_front f bytes ≡ Some (text, rest) → bytes ≡ text_bytes f text ++ rest
text_takes form.Key bytes text rest fit e = escaped_takes bytes text rest e
text_takes form.Row bytes text rest fit e = let t = counted_takes bytes text rest fit e in t.0

bool_takes : (bytes : List ℕ) (b : Bool) (rest : List ℕ) → bool_front bytes ≡ Some (b, rest) → bytes ≡ bit b ∷ rest
bool_takes [] b rest e = absurd cc
bool_takes (zero ∷ bytes) b rest e = let q = some_is (false, bytes) (b, rest) e in ap (λ (p : Bool × List ℕ). bit p.0 ∷ p.1) q
bool_takes (suc zero ∷ bytes) b rest e = let q = some_is (true, bytes) (b, rest) e in ap (λ (p : Bool × List ℕ). bit p.0 ∷ p.1) q
bool_takes (suc (suc n) ∷ bytes) b rest e = absurd cc

-- the bytes after the flag
IsValueAt : Form → List ℕ → Value → List ℕ → Type 0
IsValueAt f bytes v rest = 1 ∷ bytes ≡ cell_bytes f v ++ rest

at_value : (f : Form) (bytes payload : List ℕ) (v made_ : Value) (rest : List ℕ) → bytes ≡ payload ++ rest → cell_bytes f made_ ≡ 1 ∷ payload → made_ ≡ v → IsValueAt f bytes v rest
unfolding IsValueAt
at_value f bytes payload v made_ rest e spelled same = ap (λ (t : List ℕ). 1 ∷ t) e ∙ ap (λ (t : List ℕ). t ++ rest) (sym spelled) ∙ ap (λ (w : Value). cell_bytes f w ++ rest) same

value_takes : (f : Form) (type : SqlType) (bytes : List ℕ) (v : Value) (rest : List ℕ) → AreBytes bytes → value_front f type bytes ≡ Some (v, rest) → IsValueAt f bytes v rest
value_takes f kind.BigInt bytes v rest fit e =
    let m = made_is (λ n. cell.Int n) (number_front f bytes) v rest e in
    let t = number_takes f bytes m.0 rest fit m.1 in
    at_value f bytes (to_be_bytes w64 (bits_of f m.0)) v (cell.Int m.0) rest t.0 (int_bytes f m.0) m.2
value_takes f kind.Int bytes v rest fit e =
    let m = made_is (λ n. cell.Int n) (number_front f bytes) v rest e in
    let t = number_takes f bytes m.0 rest fit m.1 in
    at_value f bytes (to_be_bytes w64 (bits_of f m.0)) v (cell.Int m.0) rest t.0 (int_bytes f m.0) m.2
value_takes f kind.Bool bytes v rest fit e =
    let m = made_is (λ b. cell.Bool b) (bool_front bytes) v rest e in
    at_value f bytes (bit m.0 ∷ []) v (cell.Bool m.0) rest (bool_takes bytes m.0 rest m.1) (bool_bytes f m.0) m.2
value_takes f (kind.Varchar most) bytes v rest fit e =
    let m = made_is (λ text. cell.Text text) (text_front f bytes) v rest e in
    at_value f bytes (text_bytes f m.0) v (cell.Text m.0) rest (text_takes f bytes m.0 rest fit m.1) (text_is f m.0) m.2
value_takes f (kind.Varbinary most) bytes v rest fit e =
    let m = made_is (λ text. cell.Bytes text) (text_front f bytes) v rest e in
    at_value f bytes (text_bytes f m.0) v (cell.Bytes m.0) rest (text_takes f bytes m.0 rest fit m.1) (blob_is f m.0) m.2
value_takes f (kind.Decimal digits scale) bytes v rest fit e =
    let m = made_is (λ n. cell.Decimal n) (number_front f bytes) v rest e in
    let t = number_takes f bytes m.0 rest fit m.1 in
    at_value f bytes (to_be_bytes w64 (bits_of f m.0)) v (cell.Decimal m.0) rest t.0 (decimal_bytes f m.0) m.2

fitting_takes : (type : SqlType) (o : Option (Value × List ℕ)) (v : Value) (rest : List ℕ) → fitting type o ≡ Some (v, rest) → (o ≡ Some (v, rest)) × (fits type v ≡ true)
fitting_takes type None v rest e = absurd cc
fitting_takes type (Some p) v rest e =
    let c = chosen (fits type p.0) p (v, rest) e in
    (ap (λ (q : Value × List ℕ). some q) c.1, subst (λ (q : Value × List ℕ). fits type q.0 ≡ true) c.1 c.0)

cell_takes : (f : Form) (type : SqlType) (bytes : List ℕ) (v : Value) (rest : List ℕ) → AreBytes bytes → cell_front f type bytes ≡ Some (v, rest) → (bytes ≡ cell_bytes f v ++ rest) × (fits type v ≡ true)
unfolding IsValueAt
cell_takes f type [] v rest fit e = absurd cc
cell_takes f type (zero ∷ bytes) v rest fit e =
    let q = some_is (cell.Null, bytes) (v, rest) e in
    let here : 0 ∷ bytes ≡ cell_bytes f cell.Null ++ bytes = ap (λ (t : List ℕ). t ++ bytes) (sym (null_bytes f)) in
    subst (λ (p : Value × List ℕ). (0 ∷ bytes ≡ cell_bytes f p.0 ++ p.1) × (fits type p.0 ≡ true)) q (here, refl)
cell_takes f type (suc zero ∷ bytes) v rest fit e =
    let t = fitting_takes type (value_front f type bytes) v rest e in
    (value_takes f type bytes v rest (AreBytes-rest 1 bytes fit) t.0, t.1)
cell_takes f type (suc (suc n) ∷ bytes) v rest fit e = absurd cc

cells_take : (f : Form) (types : List SqlType) (bytes : List ℕ) (x : Cells × List ℕ) → AreBytes bytes → cells_front f types bytes ≡ Some x → (bytes ≡ spelling f x.0 ++ x.1) × (fits_all types x.0 ≡ true)
cells_take f [] bytes x fit e = subst (λ (y : Cells × List ℕ). (bytes ≡ spelling f y.0 ++ y.1) × (fits_all [] y.0 ≡ true)) (some_is ([], bytes) x e) (refl, refl)
cells_take f (type ∷ types) bytes x fit e =
    let b = bound (cell_front f type bytes) (λ p. option_map (λ q. (p.0 ∷ q.0, q.1)) (cells_front f types p.1)) x e in
    let p = b.0 in
    let m = mapped (cells_front f types p.1) (λ q. (p.0 ∷ q.0, q.1)) x b.2 in
    let q = m.0 in
    let c = cell_takes f type bytes p.0 p.1 fit b.1 in
    let more = cells_take f types p.1 q (AreBytes-after (cell_bytes f p.0) bytes p.1 fit c.0) m.1 in
    let joined : bytes ≡ spelling f (p.0 ∷ q.0) ++ q.1 = c.0 ∙ ap (λ (t : List ℕ). cell_bytes f p.0 ++ t) more.0 ∙ sym (append_assoc (cell_bytes f p.0) (spelling f q.0) q.1) in
    subst (λ (y : Cells × List ℕ). (bytes ≡ spelling f y.0 ++ y.1) × (fits_all (type ∷ types) y.0 ≡ true)) m.2 (joined, and_from (fits type p.0) (fits_all types q.0) c.1 more.1)

-- ---- what has the bytes is read

-- numbers of 64 bits
abbrev pub is_wide : Value → Bool
is_wide (cell.Int n) = fits_bits 63 n
is_wide (cell.Decimal n) = fits_bits 63 n
is_wide value = true

fitting_is : (type : SqlType) (o : Option (Value × List ℕ)) (v : Value) (rest : List ℕ) → o ≡ Some (v, rest) → fits type v ≡ true → fitting type o ≡ Some (v, rest)
fitting_is type o v rest e fit = rw (e, fit) refl

text_again : (f : Form) (text rest : List ℕ) → text_front f (text_bytes f text ++ rest) ≡ Some (text, rest)
text_again form.Key text rest = escaped_again text rest
text_again form.Row text rest = counted_again text rest

bool_again : (b : Bool) (rest : List ℕ) → bool_front (bit b ∷ rest) ≡ Some (b, rest)
bool_again false rest = refl
bool_again true rest = refl

value_again : (f : Form) (type : SqlType) (v : Value) (payload rest : List ℕ) → cell_bytes f v ≡ 1 ∷ payload → value_front f type (payload ++ rest) ≡ Some (v, rest) → fits type v ≡ true → cell_front f type (cell_bytes f v ++ rest) ≡ Some (v, rest)
value_again f type v payload rest spelled read fit = ap (λ (t : List ℕ). cell_front f type (t ++ rest)) spelled ∙ fitting_is type (value_front f type (payload ++ rest)) v rest read fit

cell_again : (f : Form) (type : SqlType) (v : Value) (rest : List ℕ) → is_wide v ≡ true → fits type v ≡ true → cell_front f type (cell_bytes f v ++ rest) ≡ Some (v, rest)
cell_again f type cell.Null rest wide fit = ap (λ (t : List ℕ). cell_front f type (t ++ rest)) (null_bytes f)
cell_again f kind.BigInt (cell.Int n) rest wide fit = value_again f kind.BigInt (cell.Int n) (to_be_bytes w64 (bits_of f n)) rest (int_bytes f n) (ap (made (λ k. cell.Int k)) (number_again f n rest wide)) fit
cell_again f kind.Int (cell.Int n) rest wide fit = value_again f kind.Int (cell.Int n) (to_be_bytes w64 (bits_of f n)) rest (int_bytes f n) (ap (made (λ k. cell.Int k)) (number_again f n rest wide)) fit
cell_again f kind.Bool (cell.Bool b) rest wide fit = value_again f kind.Bool (cell.Bool b) (bit b ∷ []) rest (bool_bytes f b) (ap (made (λ k. cell.Bool k)) (bool_again b rest)) fit
cell_again f (kind.Varchar most) (cell.Text text) rest wide fit = value_again f (kind.Varchar most) (cell.Text text) (text_bytes f text) rest (text_is f text) (ap (made (λ k. cell.Text k)) (text_again f text rest)) fit
cell_again f (kind.Varbinary most) (cell.Bytes text) rest wide fit = value_again f (kind.Varbinary most) (cell.Bytes text) (text_bytes f text) rest (blob_is f text) (ap (made (λ k. cell.Bytes k)) (text_again f text rest)) fit
cell_again f (kind.Decimal digits scale) (cell.Decimal n) rest wide fit = value_again f (kind.Decimal digits scale) (cell.Decimal n) (to_be_bytes w64 (bits_of f n)) rest (decimal_bytes f n) (ap (made (λ k. cell.Decimal k)) (number_again f n rest wide)) fit
cell_again f type v rest wide fit = absurd cc

pub bits_more : (n : ℤ) → fits_bits 31 n ≡ true → fits_bits 63 n ≡ true
bits_more (pos n) e = lt-ltb n (2 ^ 63) (omega (arith, ltb-true n (2 ^ 31) e))
bits_more (negsuc n) e = lt-ltb n (2 ^ 63) (omega (arith, ltb-true n (2 ^ 31) e))

-- a decimal that 64 bits can't hold is read as another one
decimal_found : (f : Form) (digits scale : ℕ) (n : ℤ) (rest : List ℕ) → fits (kind.Decimal digits scale) (cell.Decimal n) ≡ true → (w : Value) × (cell_front f (kind.Decimal digits scale) (cell_bytes f (cell.Decimal n) ++ rest) ≡ Some (w, rest))
decimal_found f digits scale n rest fit =
    elim (cases_Bool (fits_bits 63 n)) [
      | inl wide ↦ (cell.Decimal n, cell_again f (kind.Decimal digits scale) (cell.Decimal n) rest wide fit)
      | inr far ↦
          let k = number_of f (from_be_bytes w64 (to_be_bytes w64 (bits_of f n))) in
          let small : unsigned_abs k < 10 ^ digits = read_within f n (10 ^ digits) far (ltb-true _ _ fit) in
          let read : value_front f (kind.Decimal digits scale) (to_be_bytes w64 (bits_of f n) ++ rest) ≡ Some (cell.Decimal k, rest) = ap (made (λ j. cell.Decimal j)) (number_read f (bits_of f n) rest) in
          (cell.Decimal k, ap (λ (t : List ℕ). cell_front f (kind.Decimal digits scale) (t ++ rest)) (decimal_bytes f n) ∙ fitting_is (kind.Decimal digits scale) (value_front f (kind.Decimal digits scale) (to_be_bytes w64 (bits_of f n) ++ rest)) (cell.Decimal k) rest read (lt-ltb _ _ small))
    ]

cell_found : (f : Form) (type : SqlType) (v : Value) (rest : List ℕ) → fits type v ≡ true → (w : Value) × (cell_front f type (cell_bytes f v ++ rest) ≡ Some (w, rest))
cell_found f type cell.Null rest fit = (cell.Null, cell_again f type cell.Null rest refl fit)
cell_found f kind.BigInt (cell.Int n) rest fit = (cell.Int n, cell_again f kind.BigInt (cell.Int n) rest fit fit)
cell_found f kind.Int (cell.Int n) rest fit = (cell.Int n, cell_again f kind.Int (cell.Int n) rest (bits_more n fit) fit)
cell_found f (kind.Decimal digits scale) (cell.Decimal n) rest fit = decimal_found f digits scale n rest fit
cell_found f kind.Bool (cell.Bool b) rest fit = (cell.Bool b, cell_again f kind.Bool (cell.Bool b) rest refl fit)
cell_found f (kind.Varchar most) (cell.Text text) rest fit = (cell.Text text, cell_again f (kind.Varchar most) (cell.Text text) rest refl fit)
cell_found f (kind.Varbinary most) (cell.Bytes text) rest fit = (cell.Bytes text, cell_again f (kind.Varbinary most) (cell.Bytes text) rest refl fit)
cell_found f type v rest fit = absurd cc

cells_found : (f : Form) (types : List SqlType) (row : Cells) (rest : List ℕ) → fits_all types row ≡ true → (r : Cells) × (cells_front f types (spelling f row ++ rest) ≡ Some (r, rest))
cells_found f [] [] rest fit = ([], refl)
cells_found f [] (v ∷ row) rest fit = absurd cc
cells_found f (type ∷ types) [] rest fit = absurd cc
cells_found f (type ∷ types) (v ∷ row) rest fit =
    let both = and_parts (fits type v) (fits_all types row) fit in
    let c = cell_found f type v (spelling f row ++ rest) both.0 in
    let more = cells_found f types row rest both.1 in
    (c.0 ∷ more.0, ap (cells_front f (type ∷ types)) (append_assoc (cell_bytes f v) (spelling f row) rest) ∙ rw (c.1, more.1) refl)

-- ---- whole rows

pub found : (f : Form) (types : List SqlType) (bytes : List ℕ) (row : Cells) → AreBytes bytes → whole (cells_front f types bytes) ≡ Some row → (fits_all types row ≡ true) × (spelling f row ≡ bytes)
found f types bytes row fit e =
    let b = bound (cells_front f types bytes) (λ p. cond (eqb (length p.1) 0) (Some p.0) None) row e in
    let c = chosen (eqb (length b.0.1) 0) b.0.0 row b.2 in
    let t = cells_take f types bytes b.0 fit b.1 in
    let empty : b.0.1 ≡ [] = nil_from_length b.0.1 (eqb-true _ _ c.0) in
    let all : bytes ≡ spelling f b.0.0 = t.0 ∙ ap (λ (r : List ℕ). spelling f b.0.0 ++ r) empty ∙ append-nil (spelling f b.0.0) in
    subst (λ (r : Cells). (fits_all types r ≡ true) × (spelling f r ≡ bytes)) c.1 (t.1, sym all)

clash : {A : Type 0} (x : A) → some x ≡ None → ⊥
clash x e = cc

pub none : (f : Form) (types : List SqlType) (bytes : List ℕ) → whole (cells_front f types bytes) ≡ None → (row : Cells) → fits_all types row ≡ true → spelling f row ≡ bytes → ⊥
none f types bytes e row fit same =
    let r = cells_found f types row [] fit in
    let read : cells_front f types bytes ≡ Some (r.0, []) = ap (cells_front f types) (sym (append-nil (spelling f row) ∙ same)) ∙ r.1 in
    let some_row : whole (cells_front f types bytes) ≡ Some r.0 = ap whole read in
    clash r.0 (sym some_row ∙ e)

-- ---- one spelling

wide_decimal : (digits : ℕ) (n : ℤ) → digits ≤ 18 → unsigned_abs n < 10 ^ digits → fits_bits 63 n ≡ true
wide_decimal digits (pos n) h lt =
    let most : 10 ^ digits ≤ 10 ^ 18 = pow-le-pow_right (omega arith) h in
    lt-ltb n (2 ^ 63) (omega (arith, most, lt))
wide_decimal digits (negsuc n) h lt =
    let most : 10 ^ digits ≤ 10 ^ 18 = pow-le-pow_right (omega arith) h in
    lt-ltb n (2 ^ 63) (omega (arith, most, lt))

most_digits : (digits scale : ℕ) → is_type (kind.Decimal digits scale) ≡ true → digits ≤ 18
most_digits digits scale t =
    let a = and_parts (leb 1 digits && leb digits 18) (leb scale digits) t in
    let b = and_parts (leb 1 digits) (leb digits 18) a.0 in
    leb-true digits 18 b.1

pub wide_within : (type : SqlType) (v : Value) → is_type type ≡ true → fits type v ≡ true → is_wide v ≡ true
wide_within type cell.Null t fit = refl
wide_within type (cell.Bool b) t fit = refl
wide_within type (cell.Text text) t fit = refl
wide_within type (cell.Bytes bytes) t fit = refl
wide_within kind.BigInt (cell.Int n) t fit = fit
wide_within kind.Int (cell.Int n) t fit = bits_more n fit
wide_within (kind.Decimal digits scale) (cell.Decimal n) t fit = wide_decimal digits n (most_digits digits scale t) (ltb-true _ _ fit)
wide_within type v t fit = absurd cc

pub cells_again : (f : Form) (types : List SqlType) (row : Cells) (rest : List ℕ) → are_types types ≡ true → fits_all types row ≡ true → cells_front f types (spelling f row ++ rest) ≡ Some (row, rest)
cells_again f [] [] rest t fit = refl
cells_again f [] (v ∷ row) rest t fit = absurd cc
cells_again f (type ∷ types) [] rest t fit = absurd cc
cells_again f (type ∷ types) (v ∷ row) rest t fit =
    let both = and_parts (fits type v) (fits_all types row) fit in
    let good = and_parts (is_type type) (are_types types) t in
    let c = cell_again f type v (spelling f row ++ rest) (wide_within type v good.0 both.0) both.0 in
    let more = cells_again f types row rest good.1 both.1 in
    ap (cells_front f (type ∷ types)) (append_assoc (cell_bytes f v) (spelling f row) rest) ∙ rw (c, more) refl

pub one_spelling : (f : Form) (types : List SqlType) (a b : Cells) (x y : List ℕ) → are_types types ≡ true → fits_all types a ≡ true → fits_all types b ≡ true → spelling f a ++ x ≡ spelling f b ++ y → (a ≡ b) × (x ≡ y)
one_spelling f types a b x y t fa fb e =
    let same = some_is (a, x) (b, y) (sym (cells_again f types a x t fa) ∙ ap (cells_front f types) e ∙ cells_again f types b y t fb) in
    (ap (λ (p : Cells × List ℕ). p.0) same, ap (λ (p : Cells × List ℕ). p.1) same)
