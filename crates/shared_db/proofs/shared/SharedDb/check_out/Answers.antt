use Rattle.std.proofs.Common.{◌≡◌, ◌∙◌, ap, refl, sym, subst, cond, true, false, is_some}
use Rattle.session_state.specs.Changes.{StateStands}
use Rattle.shared_db.specs.Members.{lines_of}
use Rattle.shared_db.specs.Shared.{Db, record_at}
use Rattle.shared_db.specs.declared.changes.BranchReply.TheVariants as reply
use Rattle.shared_db.proofs.StandLemmas.{check_out_ends}
use Rattle.shared_db.proofs.shared.SharedDb.check_out.Goals as goal

pub returns-then-not-is_there-clause-plain : goal.returns-then-not-is_there-clause-plain
returns-then-not-is_there-clause-plain c = λ address shared p stands placed.
    let s = subst (λ (db : Db). StateStands address db.parts shared) (sym c.self.view_is) stands in
    let none : is_some (record_at c.args.name.now (lines_of c.self.inside.branches.items)) ≡ false =
    sym (ap (λ l. is_some (record_at c.args.name.now (lines_of l))) c.as_slice.ensures.value) ∙ sym c.is_there.ensures ∙ c.if-not-is_there.true in
    check_out_ends address _ shared s c.args.session p placed.number c.args.name.now reply.NoSuch c.args.self.now.parts (sym (ap (λ b. cond b reply.Done reply.NoSuch) none))
    (λ e. absurd (cc)) (ap (λ (db : Db). db.parts.branches) (sym c.self.view_is)) (ap (λ (db : Db). db.parts.chunks) (sym c.self.view_is))

pub returns-clause-plain : goal.returns-clause-plain
returns-clause-plain c = λ address shared p stands placed.
    let s = subst (λ (db : Db). StateStands address db.parts shared) (sym c.self.view_is) stands in
    let found : is_some (record_at c.args.name.now (lines_of c.self.inside.branches.items)) ≡ true =
    sym (ap (λ l. is_some (record_at c.args.name.now (lines_of l))) c.as_slice.ensures.value) ∙ sym c.is_there.ensures ∙ c.if-not-is_there.false in
    check_out_ends address _ shared s c.args.session p placed.number c.args.name.now reply.Done _ (sym (ap (λ b. cond b reply.Done reply.NoSuch) found))
    (λ e. c.move_to.ensures.places) refl refl
