-- Reading from left to right: an item, the items one after another, and where the reading stops.
use Rattle.std.specs.Prelude.{ℕ, zero, suc, Bool, ◌==◌, ◌&&◌, ◌||◌, nat_lt, List, [], ◌∷◌, length, take, drop, Option, Some, None, if◌then◌else◌}
use Rattle.std.specs.Int.{Width, w16, w64, byte_len, from_be_bytes}
use Rattle.tuple_codec.specs.Fields.{bytes_at}
use Rattle.tuple_codec.specs.Nodes.{Item, leaf_item, is_after}

infixl 10 ◌>>=◌
abbrev pub ◌>>=◌ : {A B : Type 0} → Option A → (A → Option B) → Option B
(Some x) >>= f = f x
None >>= f = None

-- a number, and the bytes after it
abbrev pub number_at : Width → List ℕ → Option (ℕ × List ℕ)
number_at w bytes = if nat_lt (length bytes) (byte_len w) then None else Some (from_be_bytes w (take (byte_len w) bytes), drop (byte_len w) bytes)

-- a length and that many bytes
unfoldable pub sized_at : List ℕ → Option (List ℕ × List ℕ)
sized_at bytes = do
  n ← number_at w16 bytes
  bytes_at n.0 n.1

unfoldable pub leaf_at : List ℕ → Option (Item × List ℕ)
leaf_at bytes = do
  key ← sized_at bytes
  value ← sized_at key.1
  Some (leaf_item key.0 value.0, value.1)

unfoldable pub inner_at : List ℕ → Option (Item × List ℕ)
inner_at bytes = do
  key ← sized_at bytes
  address ← bytes_at 20 key.1
  rows ← number_at w64 address.1
  Some (record { key = key.0; body = address.0; rows = rows.0 }, rows.1)

-- the item at the front and the bytes after it; none where it is cut short
unfoldable pub item_at : ℕ → List ℕ → Option (Item × List ℕ)
item_at zero bytes = leaf_at bytes
item_at (suc level) bytes = inner_at bytes

-- the item may stand after this key
abbrev pub may_follow : Option (List ℕ) → Item → Bool
may_follow before item = is_after before item.key && nat_lt 0 item.rows

-- the item at the front, where it may stand after this key
unfoldable pub next_at : ℕ → Option (List ℕ) → List ℕ → Option (Item × List ℕ)
next_at level before bytes = do
  x ← item_at level bytes
  if may_follow before x.0 then Some x else None

-- what is left where the reading of so many items after a key stops: at an item that can't be read, or at what follows
-- the last; none where it reads all
abbrev pub stopping : {A : Type 0} → List ℕ → (A → Option (List ℕ)) → Option A → Option (List ℕ)
stopping bytes go None = Some bytes
stopping bytes go (Some x) = go x

abbrev pub stop_at_end : List ℕ → Option (List ℕ)
stop_at_end [] = None
stop_at_end (b ∷ bytes) = Some (b ∷ bytes)

unfoldable pub stop_at : ℕ → ℕ → Option (List ℕ) → List ℕ → Option (List ℕ)
stop_at level zero before bytes = stop_at_end bytes
stop_at level (suc count) before bytes = stopping bytes (λ x. stop_at level count (Some x.0.key) x.1) (next_at level before bytes)

-- what is left after the item at the front
abbrev pub rest_of : {A : Type 0} → Option (A × List ℕ) → List ℕ
rest_of None = []
rest_of (Some x) = x.1

-- what is left after so many items
unfoldable pub skip : ℕ → ℕ → List ℕ → List ℕ
skip level zero bytes = bytes
skip level (suc count) bytes = skip level count (rest_of (item_at level bytes))

-- so many items, or those before the first that can't be read
abbrev pub listed : (List ℕ → List Item) → Option (Item × List ℕ) → List Item
listed go None = []
listed go (Some x) = x.0 ∷ go x.1

unfoldable pub items_from : ℕ → ℕ → List ℕ → List Item
items_from level zero bytes = []
items_from level (suc count) bytes = listed (λ rest. items_from level count rest) (item_at level bytes)

-- kind, level and count agree
abbrev pub is_header : ℕ → ℕ → ℕ → Bool
is_header kind level count = (kind == 1 && level == 0) || (kind == 2 && nat_lt 0 level && nat_lt 0 count)

-- level and count, and the bytes after the header
unfoldable pub header_at : List ℕ → Option (ℕ × ℕ × List ℕ)
header_at (kind ∷ level ∷ rest) = do
  count ← number_at w16 rest
  if is_header kind level count.0 then Some (level, count.0, count.1) else None
header_at bytes = None
