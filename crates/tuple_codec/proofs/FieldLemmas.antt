-- Fields of bytes, the bytes of keys, and addresses.
use Rattle.std.proofs.Common.{◌≡◌, ℕ, false, ltb, List, ◌++◌, length, Some, refl, arith}
use Rattle.std.proofs.lemmas.Bool.{le-ltb}
use Rattle.std.proofs.lemmas.List.{take_at, drop_at, length-append}
use Rattle.std.proofs.lemmas.Grind.{flat_map-append}
use Rattle.tuple_codec.specs.Fields.{bytes_at}
use Rattle.tuple_codec.specs.KeyBytes.{key_bytes, key_cell}
use Rattle.tuple_codec.specs.Rows.{Cells}
use Rattle.tuple_codec.specs.declared.addresses.Address.{Address}

pub bytes_again : (n : ℕ) (text rest : List ℕ) → length text ≡ n → bytes_at n (text ++ rest) ≡ Some (text, rest)
bytes_again n text rest len =
    let long : ltb (length (text ++ rest)) n ≡ false = le-ltb _ _ (omega (arith, length-append text rest)) in
    rw (long, take_at text rest n len, drop_at text rest n len) refl

pub key_bytes_joined : (a b : Cells) → key_bytes (a ++ b) ≡ key_bytes a ++ key_bytes b
key_bytes_joined a b = flat_map-append key_cell a b

pub address_is : (a b : Address) → a.0 ≡ b.0 → a ≡ b
address_is a b e = λ i. record { 0 = e i }
