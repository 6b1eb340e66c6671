-- What a column keeps of a value fits its type.
use Rattle.std.proofs.Common.{◌≡◌, refl, sym, ap, ◌∙◌, ℤ, pos, negsuc, zero, suc, Bool, true, false, Option, Some, None, Ok}
use Rattle.tuple_codec.specs.Rows.{fits, fits_bits}
use Rattle.tuple_codec.specs.declared.values.SqlType.{SqlType}
use Rattle.tuple_codec.specs.declared.values.SqlType.TheVariants as type
use Rattle.tuple_codec.specs.declared.values.Value.{Value}
use Rattle.tuple_codec.specs.declared.values.Value.TheVariants as cell
use Rattle.sql_values.specs.Assigning.{kept_bool, kept_if, kept_number, kept_number_or, kept_short, rounded, stored}
use Rattle.sql_values.specs.Numbers.{number}
use Rattle.sql_values.specs.Worths.{worth_of}
use Rattle.sql_values.specs.declared.kinds.Kind.{Kind}
use Rattle.sql_values.specs.declared.numbers.Number.{Number}

kept_so : (b : Bool) (v kept : Value) → kept_if b v ≡ Ok kept → (b ≡ true) × (v ≡ kept)
kept_so true v kept e = (refl, cc)
kept_so false v kept e = cc

short_so : (t : SqlType) (b : Bool) (v kept : Value) → fits t v ≡ b → kept_short t v ≡ Ok kept → fits t kept ≡ true
short_so t true v kept is e = let same : v ≡ kept = cc in ap (fits t) (sym same) ∙ is
short_so t false v kept is e = cc

bool_so : (n : ℤ) (kept : Value) → kept_bool n ≡ Ok kept → fits type.Bool kept ≡ true
bool_so (pos zero) kept e = let same : cell.Bool false ≡ kept = cc in ap (fits type.Bool) (sym same)
bool_so (pos (suc zero)) kept e = let same : cell.Bool true ≡ kept = cc in ap (fits type.Bool) (sym same)
bool_so (pos (suc (suc n))) kept e = cc
bool_so (negsuc n) kept e = cc

number_so : (t : SqlType) (n : Number) (kept : Value) → kept_number t n ≡ Ok kept → fits t kept ≡ true
number_so type.BigInt n kept e = let parts = kept_so (fits_bits 63 (rounded 0 n)) (cell.Int (rounded 0 n)) kept e in ap (fits type.BigInt) (sym parts.1) ∙ parts.0
number_so type.Int n kept e = let parts = kept_so (fits_bits 31 (rounded 0 n)) (cell.Int (rounded 0 n)) kept e in ap (fits type.Int) (sym parts.1) ∙ parts.0
number_so type.Bool n kept e = bool_so (rounded 0 n) kept e
number_so (type.Varchar most) n kept e = cc
number_so (type.Varbinary most) n kept e = cc
number_so (type.Decimal digits scale) n kept e =
    let parts = kept_so (fits (type.Decimal digits scale) (cell.Decimal (rounded scale n))) (cell.Decimal (rounded scale n)) kept e in
    ap (fits (type.Decimal digits scale)) (sym parts.1) ∙ parts.0

number_or_so : (t : SqlType) (o : Option Number) (kept : Value) → kept_number_or t o ≡ Ok kept → fits t kept ≡ true
number_or_so t (Some n) kept e = number_so t n kept e
number_or_so t None kept e = cc

-- what is stored fits
pub stored_fits : (k : Kind) (t : SqlType) (not_null : Bool) (v kept : Value) → stored k t not_null v ≡ Ok kept → fits t kept ≡ true
stored_fits k t true cell.Null kept e = cc
stored_fits k t false cell.Null kept e = let same : cell.Null ≡ kept = cc in ap (fits t) (sym same)
stored_fits k t true (cell.Int n) kept e = number_or_so t (number (worth_of k (cell.Int n))) kept e
stored_fits k t false (cell.Int n) kept e = number_or_so t (number (worth_of k (cell.Int n))) kept e
stored_fits k t true (cell.Bool b) kept e = number_or_so t (number (worth_of k (cell.Bool b))) kept e
stored_fits k t false (cell.Bool b) kept e = number_or_so t (number (worth_of k (cell.Bool b))) kept e
stored_fits k t true (cell.Decimal n) kept e = number_or_so t (number (worth_of k (cell.Decimal n))) kept e
stored_fits k t false (cell.Decimal n) kept e = number_or_so t (number (worth_of k (cell.Decimal n))) kept e
stored_fits k (type.Varchar most) true (cell.Text text) kept e = short_so (type.Varchar most) (fits (type.Varchar most) (cell.Text text)) (cell.Text text) kept refl e
stored_fits k (type.Varchar most) false (cell.Text text) kept e = short_so (type.Varchar most) (fits (type.Varchar most) (cell.Text text)) (cell.Text text) kept refl e
stored_fits k type.BigInt true (cell.Text text) kept e = number_or_so type.BigInt (number (worth_of k (cell.Text text))) kept e
stored_fits k type.BigInt false (cell.Text text) kept e = number_or_so type.BigInt (number (worth_of k (cell.Text text))) kept e
stored_fits k type.Int true (cell.Text text) kept e = number_or_so type.Int (number (worth_of k (cell.Text text))) kept e
stored_fits k type.Int false (cell.Text text) kept e = number_or_so type.Int (number (worth_of k (cell.Text text))) kept e
stored_fits k type.Bool true (cell.Text text) kept e = number_or_so type.Bool (number (worth_of k (cell.Text text))) kept e
stored_fits k type.Bool false (cell.Text text) kept e = number_or_so type.Bool (number (worth_of k (cell.Text text))) kept e
stored_fits k (type.Varbinary most) true (cell.Text text) kept e = number_or_so (type.Varbinary most) (number (worth_of k (cell.Text text))) kept e
stored_fits k (type.Varbinary most) false (cell.Text text) kept e = number_or_so (type.Varbinary most) (number (worth_of k (cell.Text text))) kept e
stored_fits k (type.Decimal digits scale) true (cell.Text text) kept e = number_or_so (type.Decimal digits scale) (number (worth_of k (cell.Text text))) kept e
stored_fits k (type.Decimal digits scale) false (cell.Text text) kept e = number_or_so (type.Decimal digits scale) (number (worth_of k (cell.Text text))) kept e
stored_fits k (type.Varbinary most) true (cell.Bytes bytes) kept e = short_so (type.Varbinary most) (fits (type.Varbinary most) (cell.Bytes bytes)) (cell.Bytes bytes) kept refl e
stored_fits k (type.Varbinary most) false (cell.Bytes bytes) kept e = short_so (type.Varbinary most) (fits (type.Varbinary most) (cell.Bytes bytes)) (cell.Bytes bytes) kept refl e
stored_fits k type.BigInt true (cell.Bytes bytes) kept e = number_or_so type.BigInt (number (worth_of k (cell.Bytes bytes))) kept e
stored_fits k type.BigInt false (cell.Bytes bytes) kept e = number_or_so type.BigInt (number (worth_of k (cell.Bytes bytes))) kept e
stored_fits k type.Int true (cell.Bytes bytes) kept e = number_or_so type.Int (number (worth_of k (cell.Bytes bytes))) kept e
stored_fits k type.Int false (cell.Bytes bytes) kept e = number_or_so type.Int (number (worth_of k (cell.Bytes bytes))) kept e
stored_fits k type.Bool true (cell.Bytes bytes) kept e = number_or_so type.Bool (number (worth_of k (cell.Bytes bytes))) kept e
stored_fits k type.Bool false (cell.Bytes bytes) kept e = number_or_so type.Bool (number (worth_of k (cell.Bytes bytes))) kept e
stored_fits k (type.Varchar most) true (cell.Bytes bytes) kept e = number_or_so (type.Varchar most) (number (worth_of k (cell.Bytes bytes))) kept e
stored_fits k (type.Varchar most) false (cell.Bytes bytes) kept e = number_or_so (type.Varchar most) (number (worth_of k (cell.Bytes bytes))) kept e
stored_fits k (type.Decimal digits scale) true (cell.Bytes bytes) kept e = number_or_so (type.Decimal digits scale) (number (worth_of k (cell.Bytes bytes))) kept e
stored_fits k (type.Decimal digits scale) false (cell.Bytes bytes) kept e = number_or_so (type.Decimal digits scale) (number (worth_of k (cell.Bytes bytes))) kept e
