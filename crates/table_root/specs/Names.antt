-- Names of branches.
use Rattle.std.specs.Prelude.{◌≡◌, ◌≤◌, ℕ, ◌==◌, Bool, true, false, not, ◌&&◌, ◌||◌, nat_le, if◌then◌else◌, List, [], ◌∷◌, ◌++◌, length, replicate, take, drop, Option, Some, None}
use Rattle.std.specs.Char.{is_ascii_alphanumeric}
use Rattle.std.specs.List.{list_all}

-- an ASCII letter or digit, or one of _ - . /
abbrev pub is_name_byte : ℕ → Bool
is_name_byte byte = is_ascii_alphanumeric byte || (byte == 95 || (byte == 45 || (byte == 46 || byte == 47)))

-- there is a first byte, and it isn't -
abbrev pub begins_well : List ℕ → Bool
begins_well [] = false
begins_well (first ∷ rest) = not (first == 45)

-- 1 to 64 such bytes that don't begin with -
abbrev pub is_branch_name : List ℕ → Bool
is_branch_name bytes = begins_well bytes && (nat_le (length bytes) 64 && list_all is_name_byte bytes)

-- the name that has these bytes, or none where they aren't a name's
abbrev pub name_of : List ℕ → Option (List ℕ)
name_of bytes = if is_branch_name bytes then Some bytes else None

-- the bytes, and zeros after them up to 64
abbrev pub padded : List ℕ → List ℕ
padded bytes = bytes ++ drop (length bytes) (replicate 64 0)

-- so many of these bytes are a name, and the others are zeros
pub record IsPaddedName (held : List ℕ) (size : ℕ) : Type 0 where
  pub padded : padded (take size held) ≡ held
  pub counted : length (take size held) ≡ size
  pub few : size ≤ 64
  pub name : is_branch_name (take size held) ≡ true
