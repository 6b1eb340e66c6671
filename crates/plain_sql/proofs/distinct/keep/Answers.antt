use Rattle.std.proofs.Common.{◌≡◌, ◌∙◌, ◌++◌, ◌∷◌, [], refl, sym, ap, subst, rules, true, false, List}
use Rattle.std.specs.List.{list_any}
use Rattle.std.specs.Ordering.{is_eq}
use Rattle.tuple_codec.specs.Rows.{Cells, key_cmp}
use Rattle.plain_sql.specs.Distinct.{AreSeen}
use Rattle.plain_sql.specs.declared.distinct.DistinctRow.{DistinctRow}
use Rattle.plain_sql.specs.declared.ranking.RankedRow.{RankedRow}
use Rattle.plain_sql.proofs.DistinctLemmas.{kept_if, more_seen, was_kept}
use Rattle.plain_sql.proofs.distinct.keep.Goals as goal

pub returns-then-contains-clause-kept : goal.returns-then-contains-clause-kept
returns-then-contains-clause-kept c =
    let rank = c.args.rank in
    let test : list_any (λ (line : DistinctRow). is_eq (key_cmp rank.cells line.cells)) c.args.seen.now.keys ≡ true = sym c.contains.ensures ∙ c.if-contains.true in
    sym (kept_if true c.args.kept.now.items rank (was_kept c.args.seen.now.keys c.args.kept.now.items rank.cells rank true c.requires refl test))

pub returns-clause-seen : goal.returns-clause-seen
returns-clause-seen c =
    let rank = c.args.rank in
    let same : c.in_ok-copy.copy ≡ rank.cells = search rules in
    let copied : RankedRow = record { keys = rank.keys; cells = c.in_ok-copy.copy } in
    subst (λ (l : List RankedRow). AreSeen c.insert.new.self.keys l) (sym c.in_ok-push.ensures.items)
    (more_seen c.args.seen.now.keys c.insert.new.self.keys c.args.kept.now.items (record { cells = rank.cells }) copied c.requires (sym same) (λ q. (c.in_ok-insert.ensures.updates).0 q))

pub returns-clause-kept : goal.returns-clause-kept
returns-clause-kept c =
    let rank = c.args.rank in
    let same : c.in_ok-copy.copy ≡ rank.cells = search rules in
    let with : Cells → RankedRow = λ cells. record { keys = rank.keys; cells = cells } in
    let test : list_any (λ (line : DistinctRow). is_eq (key_cmp rank.cells line.cells)) c.args.seen.now.keys ≡ false = sym c.contains.ensures ∙ c.if-contains.false in
    c.in_ok-push.ensures.items
    ∙ ap (λ cells. c.args.kept.now.items ++ with cells ∷ []) same
    ∙ sym (kept_if false c.args.kept.now.items rank (was_kept c.args.seen.now.keys c.args.kept.now.items rank.cells rank false c.requires refl test))
