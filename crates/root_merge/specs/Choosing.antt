-- Which table of a name is taken whole, by addresses, and where rows decide.
use Rattle.std.specs.Prelude.{◌≡◌, ℕ, Bool, if◌then◌else◌, List, [], ◌∷◌, Option, None, Some, Result, Ok, Err, bytes_eq}
use Rattle.tuple_codec.specs.RowRule.{same_option, three_way}
use Rattle.tuple_codec.specs.declared.addresses.Address.{Address}
use Rattle.schema_model.specs.PlainTables.{PlainTable}
use Rattle.chunk_store.specs.Chunks.{Chunks}
use Rattle.table_root.specs.declared.records.TableEntry.{TableEntry}
use Rattle.schema_merge.specs.RootMerge.{MergedTable, merged, unmerged}
use Rattle.table_merge.specs.Merging.{PlainSides, merged_contents}
use Rattle.root_merge.specs.Kept.{AreKeptSides, IsKeptPerhaps}
use Rattle.root_merge.specs.declared.choosing.Choice.{Choice}
use Rattle.root_merge.specs.declared.choosing.Choice.TheVariants as choice

-- the address of the table of a name
abbrev pub address_in : List ℕ → List TableEntry → Option Address
address_in name [] = None
address_in name (named ∷ tables) = if bytes_eq named.name name then Some named.table else address_in name tables

abbrev pub same_address : Address → Address → Bool
same_address a b = bytes_eq a.0 b.0

-- where no whole table decides
abbrev pub rows_of : Option Address → Option Address → Option Address → Choice
rows_of base (Some ours) (Some theirs) = choice.Rows base ours theirs
rows_of base ours theirs = choice.Nothing

abbrev pub or_rows_of : Option (Option Address) → Option Address → Option Address → Option Address → Choice
or_rows_of (Some whole) base ours theirs = choice.Whole whole
or_rows_of None base ours theirs = rows_of base ours theirs

abbrev pub chosen : Option Address → Option Address → Option Address → Choice
chosen base ours theirs = or_rows_of (three_way (same_option same_address) base ours theirs) base ours theirs

-- the choice leads to what becomes of the table: one that stands, a merge of tables that stand, or a conflict
abbrev pub LeadsTo : (List ℕ → List ℕ) → Chunks → Choice → Result MergedTable (List ℕ) → Type 0
LeadsTo address chunks (choice.Whole whole) wanted = (table : Option PlainTable) × IsKeptPerhaps address chunks whole table × (wanted ≡ Ok (unmerged table))
LeadsTo address chunks (choice.Rows base ours theirs) wanted =
    (contents : PlainSides) × AreKeptSides address chunks base ours theirs contents × (wanted ≡ merged (merged_contents contents))
LeadsTo address chunks choice.Nothing wanted = wanted ≡ Err []
