use Rattle.tuple_codec.specs.RowBytes.{row_bytes}
use Rattle.schema_model.specs.PlainTables.{unkeyed_from}
use Rattle.table_root.proofs.WritingLemmas.{IsLeft}
use Rattle.table_root.proofs.items.written_body.Given as goal

abbrev pub invariant-loop-position : goal.invariant-loop-position
invariant-loop-position l = IsLeft l.key l.row l.position l.bytes.items (row_bytes (unkeyed_from l.key 0 l.row))
