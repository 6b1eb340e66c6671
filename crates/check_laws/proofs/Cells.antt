-- Cells of a kind: those of a row that fits, what an expression's value is, and what a column keeps.
use Rattle.std.proofs.Common.{◌≡◌, ◌≤◌, ◌∙◌, sym, ap, refl, subst, ◌^◌, ◌==◌, ◌&&◌, ℤ, zero, suc, pos, Bool, true, false, cond, List, [], ◌∷◌, Some, Result, Ok, Err, arith}
use Rattle.std.specs.Prelude.{nat_le, nat_lt, unsigned_abs}
use Rattle.std.specs.List.{list_all}
use Rattle.std.proofs.Math.Nat.{pow-le-pow_right}
use Rattle.std.proofs.lemmas.Bool.{and_from, and_parts, eq-eqb, eqb-true, leb-true, lt-ltb, ltb-true}
use Rattle.tuple_codec.specs.Limits.{is_type}
use Rattle.tuple_codec.specs.Rows.{Cells, fits, fits_all}
use Rattle.tuple_codec.specs.Texts.{char_count, is_utf8}
use Rattle.tuple_codec.specs.declared.values.SqlType.{SqlType}
use Rattle.tuple_codec.specs.declared.values.SqlType.TheVariants as type
use Rattle.tuple_codec.specs.declared.values.Value.{Value}
use Rattle.tuple_codec.specs.declared.values.Value.TheVariants as cell
use Rattle.tuple_codec.proofs.CellLemmas.{bits_more}
use Rattle.sql_values.specs.declared.assigning.Misfit.{Misfit}
use Rattle.sql_values.specs.declared.assigning.Misfit.TheVariants.{Mismatch, TooLong}
use Rattle.sql_values.specs.declared.kinds.Kind.{Kind}
use Rattle.sql_values.specs.declared.kinds.Kind.TheVariants as kind
use Rattle.sql_values.specs.declared.numbers.Number.{Number}
use Rattle.sql_values.specs.Assigning.{kept_bool, kept_if, kept_number, kept_short, rounded, stored}
use Rattle.sql_values.specs.Kinds.{is_number, kind_of, may_assign}
use Rattle.sql_values.specs.Worths.{Worth, Letters, Octets, Scaled, Truth, Unknown, Whole, cell_of, worth_of}
use Rattle.expr_eval.specs.declared.scopes.ScopeColumn.{ScopeColumn}
use Rattle.check_laws.specs.Kinds.{HaveColumnKinds, has_kind, types_of}
use Rattle.check_laws.specs.KindLaws.{NeverMismatches, ShowsScales}
use Rattle.check_laws.proofs.Operations.{decimal_is, unknown_of}

-- a worth is its cell's, in its kind
pub cell_back : (k : Kind) (w : Worth) → has_kind k w ≡ true → worth_of k (cell_of w) ≡ w
cell_back k Unknown is = refl
cell_back k (Whole n) is = refl
cell_back k (Truth b) is = refl
cell_back k (Letters text) is = refl
cell_back k (Octets bytes) is = refl
cell_back (kind.Decimal scale) (Scaled n places) is = ap (Scaled n) (eqb-true scale places (and_parts (scale == places) (nat_lt (unsigned_abs n) (10 ^ 18)) is).0)
cell_back kind.Int (Scaled n places) is = absurd (cc)
cell_back k (Scaled n places) is = absurd (cc)

-- what a column keeps is refused by its kind never
abbrev IsMatch : Result Value Misfit → Type 0
IsMatch (Err Mismatch) = ⊥
IsMatch o = Unit {0}

if_match : (b : Bool) (v : Value) → IsMatch (kept_if b v)
if_match true v = tt
if_match false v = tt

bool_match : (n : ℤ) → IsMatch (kept_bool n)
bool_match (pos zero) = tt
bool_match (pos (suc zero)) = tt
bool_match n = tt

short_match : (t : SqlType) (v : Value) → IsMatch (kept_short t v)
short_match t v = elim (fits t v) as (λ b. IsMatch (cond b (Ok v) (Err TooLong))) [ true ↦ tt | false ↦ tt ]

abbrev TakesNumbers : SqlType → Type 0
TakesNumbers (type.Varchar most) = ⊥
TakesNumbers (type.Varbinary most) = ⊥
TakesNumbers t = Unit {0}

number_match : (t : SqlType) (n : Number) → TakesNumbers t → IsMatch (kept_number t n)
number_match type.BigInt n takes = if_match _ _
number_match type.Int n takes = if_match _ _
number_match type.Bool n takes = bool_match (rounded 0 n)
number_match (type.Decimal digits scale) n takes = if_match _ _
number_match (type.Varchar most) n takes = absurd takes
number_match (type.Varbinary most) n takes = absurd takes

cell_kind : (t : SqlType) (k : Kind) (v : Value) → is_type t ≡ true → fits t v ≡ true → kind_of t ≡ Some k → has_kind k (worth_of k v) ≡ true
cell_kind t k cell.Null typed_ is kinds = unknown_of k
cell_kind type.BigInt k (cell.Int n) typed_ is kinds = let same : kind.Int ≡ k = cc in subst (λ j. has_kind j (Whole n) ≡ true) same is
cell_kind type.Int k (cell.Int n) typed_ is kinds = let same : kind.Int ≡ k = cc in subst (λ j. has_kind j (Whole n) ≡ true) same (bits_more n is)
cell_kind type.Bool k (cell.Bool b) typed_ is kinds = let same : kind.Bool ≡ k = cc in subst (λ j. has_kind j (Truth b) ≡ true) same refl
cell_kind (type.Varchar most) k (cell.Text text) typed_ is kinds = let same : kind.Text ≡ k = cc in subst (λ j. has_kind j (Letters text) ≡ true) same (and_parts (is_utf8 text) (nat_le (char_count text) most) is).0
cell_kind (type.Varbinary most) k (cell.Bytes bytes) typed_ is kinds = let same : kind.Bytes ≡ k = cc in subst (λ j. has_kind j (Octets bytes) ≡ true) same refl
cell_kind (type.Decimal digits scale) k (cell.Decimal n) typed_ is kinds =
    let front = and_parts (nat_le 1 digits && nat_le digits 18) (nat_le scale digits) typed_ in
    let low = leb-true digits 18 (and_parts (nat_le 1 digits) (nat_le digits 18) front.0).1 in
    let power : 10 ^ digits ≤ 10 ^ 18 = pow-le-pow_right (omega arith) low in
    let small = lt-ltb (unsigned_abs n) (10 ^ 18) (omega (arith, ltb-true (unsigned_abs n) (10 ^ digits) is, power)) in
    subst (λ j. has_kind j (worth_of j (cell.Decimal n)) ≡ true) (sym (decimal_is scale k kinds)) (and_from (scale == scale) (nat_lt (unsigned_abs n) (10 ^ 18)) (eq-eqb scale scale refl) small)
cell_kind t k v typed_ is kinds = absurd (cc)

-- a row that fits the columns
pub columns_have_kinds : (scope : List ScopeColumn) (row : Cells) → list_all is_type (types_of scope) ≡ true → fits_all (types_of scope) row ≡ true → HaveColumnKinds scope row
columns_have_kinds [] row typed_ are place column k at kinds = absurd (cc)
columns_have_kinds (c ∷ scope) [] typed_ are place column k at kinds = absurd (cc)
columns_have_kinds (c ∷ scope) (v ∷ row) typed_ are zero column k at kinds =
    let same : c ≡ column = cc in
    let types = and_parts (is_type c.kind) (list_all is_type (types_of scope)) typed_ in
    let cells = and_parts (fits c.kind v) (fits_all (types_of scope) row) are in
    cell_kind c.kind k v types.0 cells.0 (ap (λ (d : ScopeColumn). kind_of d.kind) same ∙ kinds)
columns_have_kinds (c ∷ scope) (v ∷ row) typed_ are (suc place) column k at kinds =
    let types = and_parts (is_type c.kind) (list_all is_type (types_of scope)) typed_ in
    let cells = and_parts (fits c.kind v) (fits_all (types_of scope) row) are in
    columns_have_kinds scope row types.1 cells.1 place column k at kinds

takes : (k : Kind) (t : SqlType) → is_number k ≡ true → may_assign k t ≡ true → TakesNumbers t
takes k type.BigInt is may = tt
takes k type.Int is may = tt
takes k type.Bool is may = tt
takes k (type.Decimal digits scale) is may = tt
takes kind.Int (type.Varchar most) is may = absurd (cc)
takes kind.Bool (type.Varchar most) is may = absurd (cc)
takes (kind.Decimal places) (type.Varchar most) is may = absurd (cc)
takes kind.Int (type.Varbinary most) is may = absurd (cc)
takes kind.Bool (type.Varbinary most) is may = absurd (cc)
takes (kind.Decimal places) (type.Varbinary most) is may = absurd (cc)
takes k t is may = absurd (cc)

-- what may be assigned is never refused by its kind
stored_match : (k : Kind) (t : SqlType) (not_null : Bool) (v : Value) → may_assign k t ≡ true → has_kind k (worth_of k v) ≡ true → IsMatch (stored k t not_null v)
stored_match k t true cell.Null may is = tt
stored_match k t false cell.Null may is = tt
stored_match kind.Text (type.Varchar most) true (cell.Text text) may is = short_match (type.Varchar most) (cell.Text text)
stored_match kind.Text (type.Varchar most) false (cell.Text text) may is = short_match (type.Varchar most) (cell.Text text)
stored_match kind.Bytes (type.Varbinary most) true (cell.Bytes bytes) may is = short_match (type.Varbinary most) (cell.Bytes bytes)
stored_match kind.Bytes (type.Varbinary most) false (cell.Bytes bytes) may is = short_match (type.Varbinary most) (cell.Bytes bytes)
stored_match kind.Int t true (cell.Int n) may is = number_match t _ (takes kind.Int t refl may)
stored_match kind.Int t false (cell.Int n) may is = number_match t _ (takes kind.Int t refl may)
stored_match kind.Bool t true (cell.Bool true) may is = number_match t _ (takes kind.Bool t refl may)
stored_match kind.Bool t true (cell.Bool false) may is = number_match t _ (takes kind.Bool t refl may)
stored_match kind.Bool t false (cell.Bool true) may is = number_match t _ (takes kind.Bool t refl may)
stored_match kind.Bool t false (cell.Bool false) may is = number_match t _ (takes kind.Bool t refl may)
stored_match (kind.Decimal scale) t true (cell.Decimal n) may is = number_match t _ (takes (kind.Decimal scale) t refl may)
stored_match (kind.Decimal scale) t false (cell.Decimal n) may is = number_match t _ (takes (kind.Decimal scale) t refl may)
stored_match k t not_null v may is = absurd (cc)

pub never_mismatches : NeverMismatches
never_mismatches k t not_null v may is mismatch = subst IsMatch mismatch (stored_match k t not_null v may is)

pub shows_scales : ShowsScales
shows_scales (kind.Decimal scale) n is = refl
shows_scales kind.Int n is = absurd (cc)
shows_scales k n is = absurd (cc)
