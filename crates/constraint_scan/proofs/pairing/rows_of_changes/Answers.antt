use Rattle.std.proofs.Common.{◌≡◌, ◌<◌, ◌+◌, ◌++◌, ◌∷◌, [], ◌∙◌, List, ap, drop, length, rules, subst, sym}
use Rattle.std.specs.Prelude.{None}
use Rattle.std.proofs.lemmas.List.{drop_all}
use Rattle.tuple_codec.specs.Rows.{Cells}
use Rattle.table_root.proofs.ReadingLemmas.{IsReading, first, over}
use Rattle.constraint_scan.specs.Pairs.{come_pairs}
use Rattle.constraint_scan.proofs.ComeLemmas.{comes_at, goes_at}
use Rattle.constraint_scan.proofs.pairing.rows_of_changes.Goals as goal
use Rattle.constraint_scan.proofs.pairing.rows_of_changes.Goals.{in-Some+in_ok-row+in_ok-push, in_default}

pub row_of-requires-clause-row : goal.row_of-requires-clause-row
row_of-requires-clause-row c =
    let rows = c.requires.rows.0 in
    let inside : c.loop-change.change-index < length c.args.list.now = c.loop-change-test.true in
    let f = first c.args.schema.now c.loop-change.rows rows (come_pairs (drop c.loop-change.change-index c.args.list.now)) (come_pairs (drop (c.loop-change.change-index + 1) c.args.list.now)) (c.as_slice.result.now, c.as_slice-in-Some.result.now)
    (c.loop-change.invariant rows c.requires.rows.1 c.requires.rows.2)
    (comes_at c.args.list.now c.loop-change.change-index c.change-item.result inside c.change-item.is c.in-Some.value c.as_slice.result.now c.as_slice-in-Some.result.now c.in-Some.is c.as_slice.ensures c.as_slice-in-Some.ensures) in
    (f.row, f.is)

pub loop-change-preserved : goal.loop-change-preserved
loop-change-preserved c = λ rows fit e.
    let inside : c.loop-change.change-index < length c.args.list.now = c.loop-change-test.true in
    elim c.match-change.branch [
      | in-Some+in_ok-row+in_ok-push w ↦
          let f = first c.args.schema.now c.loop-change.rows rows (come_pairs (drop c.loop-change.change-index c.args.list.now)) (come_pairs (drop (c.loop-change.change-index + 1) c.args.list.now)) (w.as_slice.result.now, w.as_slice-in-Some.result.now)
          (c.loop-change.invariant rows fit e)
          (comes_at c.args.list.now c.loop-change.change-index c.change-item.result inside c.change-item.is w.in-Some.value w.as_slice.result.now w.as_slice-in-Some.result.now w.in-Some.is w.as_slice.ensures w.as_slice-in-Some.ensures) in
          subst (λ (l : List Cells). IsReading c.args.schema.now l (come_pairs (drop (c.loop-change.change-index + 1) c.args.list.now)) rows)
          (ap (λ (row : Cells). c.loop-change.rows ++ row ∷ []) (sym (w.in_ok-row.ensures f.row f.is)) ∙ sym w.in_ok-push.ensures.ok ∙ sym w.rows-is) f.reading
      | in_default w ↦
          let none : c.change-item.result.new ≡ None = search rules in
          subst (λ (l : List Cells). IsReading c.args.schema.now l (come_pairs (drop (c.loop-change.change-index + 1) c.args.list.now)) rows) (sym w.rows-is)
          (subst (λ l. IsReading c.args.schema.now c.loop-change.rows l rows) (goes_at c.args.list.now c.loop-change.change-index c.change-item.result inside c.change-item.is none) (c.loop-change.invariant rows fit e))
    ]

pub returns : goal.returns
returns c = λ rows fit e.
    over c.args.schema.now c.loop-change.rows rows (come_pairs (drop c.loop-change.change-index c.args.list.now)) (c.loop-change.invariant rows fit e) (ap come_pairs (drop_all c.loop-change.change-index c.args.list.now c.loop-change-test.false))
