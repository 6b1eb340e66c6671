use Rattle.std.proofs.Common.{arith, map}
use Rattle.node_format.specs.Views.{leaf_of}
use Rattle.unit_tests.proofs.SampleRows.{push_below, skip_below}
use Rattle.unit_tests.proofs.samples.add_row.Goals as goal

pub returns-in_ok-push : goal.returns-in_ok-push
returns-in_ok-push c = push_below c.args.kind _ _ _ c.args.number c.in_ok-push.ensures.items c.in_ok-key.ensures c.in_ok-value.ensures (omega (arith, c.requires.few)) c.requires.are

pub returns-in_default : goal.returns-in_default
returns-in_default c = skip_below c.args.kind c.args.number (map leaf_of c.args.rows.now.items) (omega (arith, c.requires.few)) c.requires.are
