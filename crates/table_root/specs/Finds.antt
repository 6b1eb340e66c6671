-- What code found.
use Rattle.std.specs.Prelude.{None, Some, Result, Ok, Err}
use Rattle.tuple_codec.specs.declared.unread.Unread.{Unread}
use Rattle.tuple_codec.specs.declared.unread.Unread.TheVariants as unread
use Rattle.table_root.specs.Spellings.{Reads}

-- code found what is there, unless memory ran out
abbrev pub Finds : {A : Type 0} → (A → Type 0) → Result A Unread → Type 0
Finds Is (Ok x) = Reads Is (Some x)
Finds Is (Err unread.Memory) = Unit {0}
Finds Is (Err unread.Malformed) = Reads Is None
