-- Reading a commit from left to right.
use Rattle.std.specs.Prelude.{ℕ, ◌*◌, ◌==◌, ◌&&◌, Bool, pos, int_le, nat_le, nat_lt, if◌then◌else◌, List, [], ◌∷◌, length, map, take, drop, Option, None, Some}
use Rattle.std.specs.Int.{w64, cast_signed, from_be_bytes}
use Rattle.std.specs.Option.{option_map}
use Rattle.tuple_codec.specs.Fields.{bytes_at}
use Rattle.tuple_codec.specs.Fronts.{length_prefixed_at}
use Rattle.schema_model.specs.Limits.{most_parents}
use Rattle.schema_model.specs.Reading.{◌>>=◌, address_at, list_at}
use Rattle.schema_model.specs.WrittenForms.{CommitParts}

-- a number in eight bytes
abbrev pub number_at : List ℕ → Option (ℕ × List ℕ)
number_at bytes = if nat_lt (length bytes) 8 then None else Some (from_be_bytes w64 (take 8 bytes), drop 8 bytes)

-- the bytes after those that tell what kind of chunk it is
abbrev pub after_kind : List ℕ → Option (List ℕ)
after_kind [] = None
after_kind (kind ∷ rest) = if kind == 5 then Some rest else None

-- at most two parents, and a date from 1970 on
abbrev pub keeps_rules : CommitParts → Bool
keeps_rules commit = nat_le (length commit.parents) most_parents && int_le (pos 0) commit.date

-- nothing may follow, and the rules are kept
abbrev pub if_commit : CommitParts × List ℕ → Option CommitParts
if_commit x = if length x.1 == 0 && keeps_rules x.0 then Some x.0 else None

unfoldable pub commit_at : List ℕ → Option (CommitParts × List ℕ)
commit_at bytes = do
  rest ← after_kind bytes
  root ← address_at rest
  parents ← list_at address_at root.1
  height ← number_at parents.1
  date ← number_at height.1
  committer ← length_prefixed_at date.1
  message ← length_prefixed_at committer.1
  Some (record { root = root.0.0; parents = map (λ parent. parent.0) parents.0; height = height.0; date = cast_signed w64 date.0; committer = committer.0; message = message.0 }, message.1)

abbrev pub commit_of : List ℕ → Option CommitParts
commit_of bytes = commit_at bytes >>= if_commit

-- a commit's database, and its height, without the rest
unfoldable pub root_in : List ℕ → Option (List ℕ)
root_in bytes = do
  rest ← after_kind bytes
  root ← bytes_at 20 rest
  Some root.0

-- the bytes after a count in one byte and that many addresses
abbrev pub after_parents : List ℕ → Option (List ℕ)
after_parents [] = None
after_parents (count ∷ rest) = option_map (λ x. x.1) (bytes_at (20 * count) rest)

unfoldable pub height_in : List ℕ → Option ℕ
height_in bytes = do
  rest ← after_kind bytes
  root ← bytes_at 20 rest
  parents ← after_parents root.1
  option_map (λ x. x.0) (number_at parents)
