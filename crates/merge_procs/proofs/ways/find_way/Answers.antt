use Rattle.merge_procs.proofs.WayLemmas.{all_there, led, not_told, over, refused, unknown}
use Rattle.merge_procs.proofs.ways.find_way.Goals as goal

pub returns-in_default-commit_at : goal.returns-in_default-commit_at
returns-in_default-commit_at g c = λ p t stands inside.
    let address = g.D.Digester.address in
    let there = all_there address c.args.session.now c.in-Some.look c.in-Some.is p t stands inside c.law_of_standing_commits.ensures in
    unknown t c.args.request.now
    (not_told address c.args.session.now c.in-Some.look c.in-Some.is p t stands inside c.as_slice.result.now c.as_slice-2.result.now c.as_slice.ensures.heads c.args.request.now c.as_slice-2.ensures
    (c.in_default-commit_at.ensures t.commits there))

pub returns-then-has_changes : goal.returns-then-has_changes
returns-then-has_changes g c = λ p t stands inside.
    let address = g.D.Digester.address in
    let there = all_there address c.args.session.now c.in-Some.look c.in-Some.is p t stands inside c.law_of_standing_commits.ensures in
    refused address c.args.session.now c.in-Some.look c.in-Some.is p t stands inside c.as_slice.result.now c.as_slice-2.result.now c.as_slice.ensures.heads c.args.request.now c.as_slice-2.ensures
    c.in-Some-commit_at.other c.in_ok-root.root (c.in-Some-commit_at.ensures t.commits there) c.in_ok-root.ensures c.has_changes.result c.has_changes.ensures c.if-has_changes.true

pub way_to-requires-after_bounds : goal.way_to-requires-after_bounds
way_to-requires-after_bounds g c κs within =
    let (p, t, stands, inside) = c.requires in
    let address = g.D.Digester.address in
    let there = all_there address c.args.session.now c.in-Some.look c.in-Some.is p t stands inside c.law_of_standing_commits.ensures in (
      t,
      over address c.args.session.now c.in-Some.look c.in-Some.is p t stands inside c.as_slice.result.now c.as_slice-2.result.now c.as_slice.ensures.heads c.args.request.now c.as_slice-2.ensures
          c.in-Some-commit_at.other c.in_ok-root.root (c.in-Some-commit_at.ensures t.commits there) c.in_ok-root.ensures,
    )

pub returns : goal.returns
returns g c = λ p t stands inside.
    let address = g.D.Digester.address in
    let there = all_there address c.args.session.now c.in-Some.look c.in-Some.is p t stands inside c.law_of_standing_commits.ensures in
    let other = c.in-Some-commit_at.other in
    let told = c.in-Some-commit_at.ensures t.commits there in
    led address c.args.session.now c.in-Some.look c.in-Some.is p t stands inside c.as_slice.result.now c.as_slice-2.result.now c.as_slice.ensures.heads c.args.request.now c.as_slice-2.ensures
    other c.in_ok-root.root told c.in_ok-root.ensures c.has_changes.result c.has_changes.ensures c.if-has_changes.false c.way_to.result
    (c.way_to.ensures t
    (over address c.args.session.now c.in-Some.look c.in-Some.is p t stands inside c.as_slice.result.now c.as_slice-2.result.now c.as_slice.ensures.heads c.args.request.now c.as_slice-2.ensures
    other c.in_ok-root.root told c.in_ok-root.ensures))
