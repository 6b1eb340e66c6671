use Rattle.std.proofs.Common.{arith, ◌∙◌, ap, sym, slice_set}
use Rattle.std.proofs.lemmas.List.Edits.{map_over_more}
use Rattle.sql_write.specs.Putting.{readdress}
use Rattle.tuple_codec.proofs.Lists.{all_written}
use Rattle.sql_write.proofs.tables.readdress_all.Goals as goal

pub loop-named-preserved : goal.loop-named-preserved
loop-named-preserved c =
    let change = readdress c.args.name.now c.args.table in
    ap (λ b. slice_set c.loop-named.tables c.loop-named.named-index b) (c.readdress.ensures ∙ ap change (sym c.named-item.is))
    ∙ map_over_more change c.args.tables.now c.loop-named.tables c.loop-named.named-index c.named-item.result
    c.loop-named-test.true c.loop-named.invariant c.named-item.is

pub returns : goal.returns
returns c = all_written (readdress c.args.name.now c.args.table) c.loop-named.tables c.args.tables.now c.loop-named.named-index (omega arith) c.loop-named.invariant
