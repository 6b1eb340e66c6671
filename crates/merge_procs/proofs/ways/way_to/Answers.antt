use Rattle.std.proofs.Common.{◌≡◌, sym, ◌∙◌, true}
use Rattle.std.specs.Prelude.{bytes_eq}
use Rattle.plain_writes.proofs.InsertionLemmas.{clash}
use Rattle.merge_procs.proofs.WayLemmas.{all_stand, common, forward, known, meets, up_to_date}
use Rattle.merge_procs.proofs.ways.way_to.Goals as goal
use Rattle.merge_procs.proofs.ways.way_to.Goals.{else-eq-2-via-then-eq-2+else-not-no_ff, else-eq-2-via-else-eq-2}

pub merge_base-requires-after_bounds : goal.merge_base-requires-after_bounds
merge_base-requires-after_bounds g c κs within =
    let (t, over) = c.requires in
    let address = g.D.Digester.address in (
      t.commits,
      all_stand address c.law_of_chunks.ensures c.law_of_standing_commits.ensures c.law_of_ancestors.ensures c.args.draft.now.chunks c.args.head.now c.args.root.now c.args.other.now t over,
      common address c.law_of_chunks.ensures c.law_of_standing_commits.ensures c.law_of_ancestors.ensures c.args.draft.now.chunks c.args.head.now c.args.root.now c.args.other.now t over,
    )

pub returns-then-eq : goal.returns-then-eq
returns-then-eq g c = λ t over.
    let address = g.D.Digester.address in
    let stand = all_stand address c.law_of_chunks.ensures c.law_of_standing_commits.ensures c.law_of_ancestors.ensures c.args.draft.now.chunks c.args.head.now c.args.root.now c.args.other.now t over in
    let both = common address c.law_of_chunks.ensures c.law_of_standing_commits.ensures c.law_of_ancestors.ensures c.args.draft.now.chunks c.args.head.now c.args.root.now c.args.other.now t over in
    up_to_date address c.law_of_chunks.ensures c.law_of_standing_commits.ensures c.law_of_ancestors.ensures c.args.draft.now.chunks c.args.head.now c.args.root.now c.args.other.now t over
    c.in_ok-base.base (c.in_ok-base.ensures t.commits stand both) c.args.no_ff (sym c.eq.ensures ∙ c.if-eq.true)

pub returns-then-not-no_ff : goal.returns-then-not-no_ff
returns-then-not-no_ff g c = λ t over.
    let address = g.D.Digester.address in
    let stand = all_stand address c.law_of_chunks.ensures c.law_of_standing_commits.ensures c.law_of_ancestors.ensures c.args.draft.now.chunks c.args.head.now c.args.root.now c.args.other.now t over in
    let both = common address c.law_of_chunks.ensures c.law_of_standing_commits.ensures c.law_of_ancestors.ensures c.args.draft.now.chunks c.args.head.now c.args.root.now c.args.other.now t over in
    forward address c.law_of_chunks.ensures c.law_of_standing_commits.ensures c.law_of_ancestors.ensures c.args.draft.now.chunks c.args.head.now c.args.root.now c.args.other.now t over
    c.in_ok-base.base (c.in_ok-base.ensures t.commits stand both) c.args.no_ff (sym c.eq.ensures ∙ c.if-eq.false) (sym c.eq-2.ensures ∙ c.if-eq-2.true) c.if-not-no_ff.true

pub databases-requires-after_bounds : goal.databases-requires-after_bounds
databases-requires-after_bounds g c κs within =
    let (t, over) = c.requires in
    let address = g.D.Digester.address in
    let stand = all_stand address c.law_of_chunks.ensures c.law_of_standing_commits.ensures c.law_of_ancestors.ensures c.args.draft.now.chunks c.args.head.now c.args.root.now c.args.other.now t over in
    let both = common address c.law_of_chunks.ensures c.law_of_standing_commits.ensures c.law_of_ancestors.ensures c.args.draft.now.chunks c.args.head.now c.args.root.now c.args.other.now t over in (
      t.commits,
      over.commits,
      known address c.law_of_chunks.ensures c.law_of_standing_commits.ensures c.law_of_ancestors.ensures c.args.draft.now.chunks c.args.head.now c.args.root.now c.args.other.now t over
          c.in_ok-base.base (c.in_ok-base.ensures t.commits stand both),
      over.other_known,
    )

pub returns : goal.returns
returns g c = λ t over.
    let address = g.D.Digester.address in
    let stand = all_stand address c.law_of_chunks.ensures c.law_of_standing_commits.ensures c.law_of_ancestors.ensures c.args.draft.now.chunks c.args.head.now c.args.root.now c.args.other.now t over in
    let both = common address c.law_of_chunks.ensures c.law_of_standing_commits.ensures c.law_of_ancestors.ensures c.args.draft.now.chunks c.args.head.now c.args.root.now c.args.other.now t over in
    let is = c.in_ok-base.ensures t.commits stand both in
    let only : bytes_eq c.in_ok-base.base.0 c.args.head.now.0 ≡ true → c.args.no_ff ≡ true =
    λ same. elim c.else-eq-2.branch [
      | else-eq-2-via-then-eq-2+else-not-no_ff w ↦ w.if-not-no_ff.false
      | else-eq-2-via-else-eq-2 w ↦ clash same (sym c.eq-2.ensures ∙ w.if-eq-2.false)
    ] in
    meets address c.law_of_chunks.ensures c.law_of_standing_commits.ensures c.law_of_ancestors.ensures c.args.draft.now.chunks c.args.head.now c.args.root.now c.args.other.now t over
    c.in_ok-base.base is c.args.no_ff c.in_ok-three.three (sym c.eq.ensures ∙ c.if-eq.false) only
    (c.in_ok-three.ensures t.commits over.commits
    (known address c.law_of_chunks.ensures c.law_of_standing_commits.ensures c.law_of_ancestors.ensures c.args.draft.now.chunks c.args.head.now c.args.root.now c.args.other.now t over
    c.in_ok-base.base is) over.other_known)
