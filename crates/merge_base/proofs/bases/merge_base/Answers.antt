use Rattle.std.proofs.Common.{sym}
use Rattle.merge_base.proofs.MeetLemmas.{begin, goes_ours, goes_theirs, known_a, known_b, meet_at, ours_end, theirs_end}
use Rattle.merge_base.proofs.bases.merge_base.Goals as goal

pub walks-init : goal.walks-init
walks-init g c = λ commits stand common.
    let a = c.args.a.now.0 in
    let b = c.args.b.now.0 in
    begin commits a b c.in_ok-ours.ours c.in_ok-theirs.theirs (c.in_ok-ours.ensures commits stand (known_a commits a b common))
    (c.in_ok-theirs.ensures commits stand (known_b commits a b common))

pub walks-preserved-in_ok-next-in-Less : goal.walks-preserved-in_ok-next-in-Less
walks-preserved-in_ok-next-in-Less g c = λ commits stand common.
    let meets = c.walks.invariant commits stand common in
    let done = goes_ours c.law_of_ancestors.ensures commits stand.grown c.args.a.now.0 c.args.b.now.0 c.walks.ours c.walks.theirs c.next.new.self c.in-Some.our c.in-Some-first.their
    c.in_ok-next-in-Less.field-0 c.in-Some.ensures c.in-Some-first.ensures (sym c.in-Less.ensures) meets (c.in_ok-next-in-Less.ensures.ok commits stand meets.ours_are) in
    done.0

pub walks-preserved : goal.walks-preserved
walks-preserved g c = λ commits stand common.
    let meets = c.walks.invariant commits stand common in
    let done = goes_theirs c.law_of_ancestors.ensures commits stand.grown c.args.a.now.0 c.args.b.now.0 c.walks.ours c.walks.theirs c.next-in-Greater.new.self c.in-Some.our c.in-Some-first.their
    c.in_ok-next-in-Greater.field-0 c.in-Some.ensures c.in-Some-first.ensures (sym c.in-Greater.ensures) meets (c.in_ok-next-in-Greater.ensures.ok commits stand meets.theirs_are) in
    done.0

pub returns-in-Equal : goal.returns-in-Equal
returns-in-Equal g c = λ commits stand common.
    meet_at c.law_of_ancestors.ensures commits stand.grown c.args.a.now.0 c.args.b.now.0 c.walks.ours c.walks.theirs c.in-Some.our c.in-Some-first.their c.in-Some.ensures c.in-Some-first.ensures
    (sym c.in-Equal.ensures) (c.walks.invariant commits stand common)

pub unreachable-requires : goal.unreachable-requires
unreachable-requires g c =
    theirs_end c.law_of_ancestors.ensures c.requires.0 c.requires.1.grown c.args.a.now.0 c.args.b.now.0 c.walks.ours c.walks.theirs c.in_default-first.ensures c.requires.2
    (c.walks.invariant c.requires.0 c.requires.1 c.requires.2)

pub unreachable-requires-2 : goal.unreachable-requires-2
unreachable-requires-2 g c =
    ours_end c.law_of_ancestors.ensures c.requires.0 c.requires.1.grown c.args.a.now.0 c.args.b.now.0 c.walks.ours c.walks.theirs c.in_default.ensures c.requires.2
    (c.walks.invariant c.requires.0 c.requires.1 c.requires.2)
