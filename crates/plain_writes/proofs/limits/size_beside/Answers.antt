use Rattle.std.proofs.Common.{arith, ◌≡◌, ◌+◌, ◌∙◌, ap, length, min}
use Rattle.std.proofs.lemmas.List.{drop_all}
use Rattle.tuple_codec.specs.RowBytes.{row_bytes}
use Rattle.tuple_codec.specs.Rows.{Cells}
use Rattle.schema_model.specs.PlainTables.{unkeyed_from}
use Rattle.plain_writes.proofs.limits.size_beside.Goals as goal

pub returns : goal.returns
returns c =
    let none = drop_all c.loop-position.position c.args.row.now (omega arith) in
    let ended : min (length (row_bytes (unkeyed_from c.args.key.now 0 c.args.row.now))) 18446744073709551615 ≡ min (c.loop-position.size + 0) 18446744073709551615 =
    c.loop-position.invariant.left
    ∙ ap (λ (rest : Cells). min (c.loop-position.size + length (row_bytes (unkeyed_from c.args.key.now c.loop-position.position rest))) 18446744073709551615) none in
    omega (arith, ended, c.loop-position.invariant.bound)
