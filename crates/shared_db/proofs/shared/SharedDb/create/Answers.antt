use Rattle.std.proofs.Common.{arith, refl, sym, subst, Option, Some}
use Rattle.tuple_codec.specs.declared.records.BranchRecord.{BranchRecord}
use Rattle.chunk_store.specs.Chunks.{chunk_bytes}
use Rattle.plain_sessions.specs.Branching.{point_in}
use Rattle.session_state.specs.Changes.{StateStands}
use Rattle.shared_db.specs.Members.{lines_of}
use Rattle.shared_db.specs.Shared.{Db}
use Rattle.shared_db.specs.Stepping.{IsCleanAt, new_asked}
use Rattle.shared_db.proofs.StandLemmas.{made_at_point, more_lines_rise, no_point, there_when_put}
use Rattle.shared_db.proofs.shared.SharedDb.create.Goals as goal

pub invariant_of-self : goal.invariant_of-self
invariant_of-self c = (
  more_lines_rise c.args.name.now c.in-Some.rec (lines_of c.self.inside.branches.items) (lines_of c.make_branch.new.branches.items) c.make_branch.result c.make_branch.ensures.reply
      c.make_branch.ensures.done c.make_branch.ensures.same c.self.invariant.0,
  omega (arith, c.make_branch.ensures.capacity, c.self.invariant.1),
  c.self.invariant.2,
)

pub returns-in-Some-clause-plain : goal.returns-in-Some-clause-plain
returns-in-Some-clause-plain c = λ address shared p stands placed.
    let point = point_in shared p (new_asked c.args.name.now c.args.point.now) in
    let clean = c.clean_at_point.ensures address shared p c.args.name.now stands placed in
    let at = subst (λ (r : Option BranchRecord). IsCleanAt address (chunk_bytes c.args.self.now.parts.chunks) shared.commits point r) c.in-Some.is clean in
    let s = subst (λ (db : Db). StateStands address db.parts shared) (sym c.self.view_is) stands in
    made_at_point address _ shared s c.args.name.now point c.in-Some.rec c.make_branch.result _ c.make_branch.ensures.form
    (subst (λ (db : Db). IsCleanAt address (chunk_bytes db.parts.chunks) shared.commits point (Some c.in-Some.rec)) (sym c.self.view_is) at)
    c.make_branch.ensures.reply c.make_branch.ensures.done refl refl

pub returns-in-Some-clause-there : goal.returns-in-Some-clause-there
returns-in-Some-clause-there c = λ done. there_when_put c.args.name.now c.in-Some.rec (lines_of c.self.inside.branches.items) (lines_of c.make_branch.new.branches.items) (c.make_branch.ensures.done done)

pub returns-in-None-clause-plain : goal.returns-in-None-clause-plain
returns-in-None-clause-plain c = λ address shared p stands placed.
    let point = point_in shared p (new_asked c.args.name.now c.args.point.now) in
    let clean = c.clean_at_point.ensures address shared p c.args.name.now stands placed in
    let at = subst (λ (r : Option BranchRecord). IsCleanAt address (chunk_bytes c.args.self.now.parts.chunks) shared.commits point r) c.in-None.is clean in
    no_point address c.args.self.now.parts shared stands c.args.name.now point c.args.self.now.parts at
