use Rattle.std.proofs.Common.{◌≡◌}
use Rattle.sql_ast.specs.declared.expressions.Comparison.TheVariants as op
use Rattle.plain_sql.specs.Links.{AreColumns, NeedsLink}
use Rattle.plain_sql.proofs.LinkLemmas.{part_missed, some_weaker}
use Rattle.plain_sql.proofs.linking.link_in.Goals as goal

pub returns-in-Compare : goal.returns-in-Compare
returns-in-Compare c =
    some_weaker c.compared.result
    (λ link. (c.in-Compare.comparison ≡ op.Equal) × AreColumns c.args.width link c.get.result.now c.get-in-Compare.result.now)
    (λ link. NeedsLink c.args.width link c.args.part.now)
    (λ link both. part_missed c.args.width link c.args.part.now c.in-Compare.a c.in-Compare.b c.get.result.now c.get-in-Compare.result.now c.in-Compare.comparison
    c.in-Compare.is both.0 c.get.ensures c.get-in-Compare.ensures both.1)
    c.compared.ensures
