-- What the parts of a schema need so that they can be written.
use Rattle.std.specs.Prelude.{ℕ, Bool, ◌&&◌, nat_lt, List, length}
use Rattle.std.specs.List.{list_all}
use Rattle.tuple_codec.specs.Limits.{is_type}
use Rattle.schema_model.specs.Schemas.{default_fits}
use Rattle.schema_model.specs.declared.schemas.Column.{Column}
use Rattle.schema_model.specs.declared.schemas.IndexDef.{IndexDef}
use Rattle.schema_model.specs.declared.schemas.CheckDef.{CheckDef}
use Rattle.schema_model.specs.declared.schemas.ForeignKey.{ForeignKey}

-- a length in one byte
abbrev pub is_written_name : List ℕ → Bool
is_written_name name = nat_lt (length name) 256

abbrev pub is_written_column : Column → Bool
is_written_column column = is_written_name column.name && is_type column.kind && default_fits column.kind column.default

abbrev pub is_written_index : IndexDef → Bool
is_written_index index = is_written_name index.name && is_written_name index.columns

abbrev pub is_written_check : CheckDef → Bool
is_written_check check = is_written_name check.name && nat_lt (length check.text) 65536

abbrev pub is_written_foreign : ForeignKey → Bool
is_written_foreign foreign =
    is_written_name foreign.name
    && is_written_name foreign.columns
    && is_written_name foreign.parent
    && list_all is_written_name foreign.parent_columns
