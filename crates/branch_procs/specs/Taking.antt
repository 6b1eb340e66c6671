-- Lists of tables that take tables, or their absence, from another list.
use Rattle.std.specs.Prelude.{ℕ, List, fold, Option, None, Some}
use Rattle.tuple_codec.specs.declared.addresses.Address.{Address}
use Rattle.table_root.specs.declared.records.TableEntry.{TableEntry}
use Rattle.sql_write.specs.Listing.{placed, without}
use Rattle.sql_write.specs.Putting.{address_in}

-- with this table, or none, under the name
abbrev pub put : List ℕ → Option Address → List TableEntry → List TableEntry
put name None tables = without name tables
put name (Some k) tables = placed (record { name = name; table = k }) (without name tables)

abbrev pub taking : List TableEntry → List TableEntry → List ℕ → List TableEntry
taking from into name = put name (address_in from name) into

abbrev pub taking_all : List TableEntry → List TableEntry → List (List ℕ) → List TableEntry
taking_all from into names = fold (taking from) into names
