use Rattle.std.proofs.Common.{◌≡◌, ◌≤◌, ◌∙◌, arith, subst, sym}
use Rattle.std.specs.Option.{option_copied}
use Rattle.tuple_codec.specs.RowRule.{row3}
use Rattle.schema_merge.specs.TableMerge.{answer_at}
use Rattle.table_merge.specs.Walking.{conflicts_of, three_in}
use Rattle.table_merge.proofs.WalkLemmas.{all_keys_are, at_key, count_on, counted_all, counting, one_at_most}
use Rattle.table_merge.proofs.walking.count_conflicts_in.Goals as goal

pub loop-key-init : goal.loop-key-init
loop-key-init c =
    let s = c.args.schema.now in
    let b = c.args.base.now in
    let o = c.args.ours.now in
    let t = c.args.theirs.now in (
      counting s (three_in b o t) c.deref-key-items.result.now
          (c.deref-key-items.ensures.value ∙ c.in_ok-keys.ensures ∙ all_keys_are s b o t c.requires.base c.requires.ours c.requires.theirs),
      omega arith,
    )

pub loop-key-preserved : goal.loop-key-preserved
loop-key-preserved c =
    let s = c.args.schema.now in
    let b = c.args.base.now in
    let o = c.args.ours.now in
    let t = c.args.theirs.now in
    let key = c.key-item.result in
    let e = at_key s b o t c.requires.base c.requires.ours c.requires.theirs (λ x y z. c.in_ok-more.more ≡ conflicts_of (row3 x y z)) key
    (option_copied c.find.result) (option_copied c.find-in-loop-key.result) (option_copied c.find-in-loop-key-2.result)
    c.find.ensures c.find-in-loop-key.ensures c.find-in-loop-key-2.ensures c.in_ok-more.ensures in
    let few : c.in_ok-more.more ≤ 1 = subst (λ n. n ≤ 1) (sym e) (one_at_most (answer_at s (three_in b o t) key)) in (
      count_on s (three_in b o t) c.deref-key-items.result.now c.loop-key.key-index key c.loop-key.count c.in_ok-more.more c.loop-key-test.true c.key-item.is e c.loop-key.invariant.0,
      omega (arith, few, c.loop-key.invariant.1),
    )

pub returns : goal.returns
returns c =
    counted_all c.args.schema.now (three_in c.args.base.now c.args.ours.now c.args.theirs.now) c.deref-key-items.result.now c.loop-key.key-index c.loop-key.count c.loop-key-test.false c.loop-key.invariant.0

pub find-requires : goal.find-requires
find-requires c = let are = c.requires.base in are.rise

pub find-requires-in-loop-key : goal.find-requires-in-loop-key
find-requires-in-loop-key c = let are = c.requires.ours in are.rise

pub find-requires-in-loop-key-2 : goal.find-requires-in-loop-key-2
find-requires-in-loop-key-2 c = let are = c.requires.theirs in are.rise
