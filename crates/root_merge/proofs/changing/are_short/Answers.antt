use Rattle.std.proofs.Common.{◌≤◌, ◌<◌, ◌∙◌, ℕ, None, get_or, length, sym, subst, arith}
use Rattle.root_merge.specs.Changing.{is_short_perhaps}
use Rattle.root_merge.proofs.ChangingLemmas.{all_pass, brought_at, brought_many, one_fails, one_passes}
use Rattle.root_merge.proofs.changing.are_short.Goals as goal

pub is_short-requires-clause-row : goal.is_short-requires-clause-row
is_short-requires-clause-row c = (
  get_or c.requires.rows.0 c.loop-change.change-index None,
  brought_at c.args.schema.now c.args.changes.now c.requires.rows.0 c.requires.rows.1 c.loop-change.change-index c.change-item.result c.loop-change-test.true c.change-item.is,
)

pub returns-then-not-branch : goal.returns-then-not-branch
returns-then-not-branch c = λ rows are.
    let schema = c.args.schema.now in
    let changes = c.args.changes.now in
    let at = c.loop-change.change-index in
    let below = subst (λ (n : ℕ). at < n) (sym (brought_many schema changes rows are)) c.loop-change-test.true in
    let short = c.in_ok-is_short.ensures (get_or rows at None) (brought_at schema changes rows are at c.change-item.result c.loop-change-test.true c.change-item.is) in
    one_fails (is_short_perhaps schema) rows at None below (sym short ∙ c.if-not-branch.true) (c.loop-change.invariant rows are)

pub loop-change-preserved : goal.loop-change-preserved
loop-change-preserved c = λ rows are.
    let schema = c.args.schema.now in
    let changes = c.args.changes.now in
    let at = c.loop-change.change-index in
    let below = subst (λ (n : ℕ). at < n) (sym (brought_many schema changes rows are)) c.loop-change-test.true in
    let short = c.in_ok-is_short.ensures (get_or rows at None) (brought_at schema changes rows are at c.change-item.result c.loop-change-test.true c.change-item.is) in
    one_passes (is_short_perhaps schema) rows at None below (sym short ∙ c.if-not-branch.false) (c.loop-change.invariant rows are)

pub returns : goal.returns
returns c = λ rows are.
    let schema = c.args.schema.now in
    let changes = c.args.changes.now in
    let at = c.loop-change.change-index in
    let over : length changes ≤ at = omega (arith, c.loop-change-test.false) in
    all_pass (is_short_perhaps schema) rows at (subst (λ (n : ℕ). n ≤ at) (sym (brought_many schema changes rows are)) over) (c.loop-change.invariant rows are)
