-- The list of a database's tables, with one more or one less.
use Rattle.std.specs.Prelude.{ℕ, ◌+◌, not, if◌then◌else◌, List, [], ◌∷◌, filter, bytes_eq}
use Rattle.std.specs.Ordering.{is_lt}
use Rattle.tuple_codec.specs.Edits.{order}
use Rattle.table_root.specs.declared.records.TableEntry.{TableEntry}

-- how many stand before the first of a greater name
abbrev pub count_before : List ℕ → List TableEntry → ℕ
count_before name [] = 0
count_before name (named ∷ more) = if is_lt (order name named.name) then 0 else 1 + count_before name more

-- with one more, in its place by name
abbrev pub placed : TableEntry → List TableEntry → List TableEntry
placed new [] = new ∷ []
placed new (named ∷ more) = if is_lt (order new.name named.name) then new ∷ named ∷ more else named ∷ placed new more

abbrev pub without : List ℕ → List TableEntry → List TableEntry
without name tables = filter (λ named. not (bytes_eq named.name name)) tables
