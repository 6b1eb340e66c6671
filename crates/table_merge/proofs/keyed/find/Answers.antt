use Rattle.table_merge.proofs.FindLemmas.{at_middle, halved, to_later, to_sooner}
use Rattle.table_merge.proofs.keyed.find.Goals as goal

pub returns-in-Equal : goal.returns-in-Equal
returns-in-Equal c =
    let h = halved c.halves.left.now c.split_at.result.0.now c.split_at.result.1.now _ c.middle-item.result c.split_at.ensures.front c.split_at.ensures.back c.middle-item.is c.in-len1-up.len_at_least in
    at_middle c.args.rows.now c.halves.left.now c.split_at.result.0.now c.split_at.result.1.now c.middle-item.result c.args.key.now h c.halves.invariant.0 c.halves.invariant.1 (let a = c.as_slice.ensures in let b = c.as_slice-in-halves.ensures in let k = c.key_cmp.ensures in let i = c.in-Equal.is in cc)

pub halves-preserved-in-Less : goal.halves-preserved-in-Less
halves-preserved-in-Less c =
    let h = halved c.halves.left.now c.split_at.result.0.now c.split_at.result.1.now _ c.middle-item.result c.split_at.ensures.front c.split_at.ensures.back c.middle-item.is c.in-len1-up.len_at_least in
    to_later c.args.rows.now c.halves.left.now c.split_at.result.0.now c.split_at.result.1.now c.middle-item.result c.args.key.now h c.halves.invariant.0 c.halves.invariant.1 (let a = c.as_slice.ensures in let b = c.as_slice-in-halves.ensures in let k = c.key_cmp.ensures in let i = c.in-Less.is in cc)

pub halves-preserved : goal.halves-preserved
halves-preserved c =
    let h = halved c.halves.left.now c.split_at.result.0.now c.split_at.result.1.now _ c.middle-item.result c.split_at.ensures.front c.split_at.ensures.back c.middle-item.is c.in-len1-up.len_at_least in
    to_sooner c.args.rows.now c.halves.left.now c.split_at.result.0.now c.split_at.result.1.now c.middle-item.result c.args.key.now h c.halves.invariant.0 c.halves.invariant.1 (let a = c.as_slice.ensures in let b = c.as_slice-in-halves.ensures in let k = c.key_cmp.ensures in let i = c.in-Greater.is in cc)
