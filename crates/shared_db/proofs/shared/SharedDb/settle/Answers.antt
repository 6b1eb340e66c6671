use Rattle.std.proofs.Common.{rules, ◌≤◌, ◌∙◌, ap, sym, subst, option_map, List}
use Rattle.std.specs.Arc.{arc_value}
use Rattle.schema_model.specs.Limits.{most_branches}
use Rattle.chunk_store.specs.Chunks.{Chunk}
use Rattle.session_state.specs.Changes.{lines_rise}
use Rattle.shared_db.specs.Members.{lines_of}
use Rattle.shared_db.specs.Shared.{IsSettled}
use Rattle.shared_db.specs.Settling.{StateGoesOn}
use Rattle.shared_db.proofs.LineLemmas.{changed_rise}
use Rattle.shared_db.proofs.SegmentLemmas.{still_few}
use Rattle.shared_db.proofs.SettleLemmas.{brought_is}
use Rattle.shared_db.proofs.shared.SharedDb.settle.Goals as goal

pub invariant_of-self-2 : goal.invariant_of-self-2
invariant_of-self-2 c = (
  ap lines_rise c.change_record.ensures.lines ∙ changed_rise c.args.look.now.branch c.args.change (lines_of c.self.inside.branches.items) ∙ c.self.invariant.0,
  subst (λ n. most_branches ≤ n) (sym c.change_record.ensures.capacity) c.self.invariant.1,
  still_few (option_map arc_value c.args.sealed) c.self.inside.is_tidy _ c.self.inside.store.segments _ c.in-Ok.ensures.segments c.self.invariant.2,
)

pub returns-clause-stands : goal.returns-clause-stands
returns-clause-stands c = λ done.
    let settled : IsSettled c.args.session c.args.statement c.args.look.now.branch c.args.change (option_map arc_value c.args.sealed) c.args.self.now.parts c.note.new.self.parts = search rules in
    subst (λ (l : List Chunk). StateGoesOn c.args.look.now c.args.change l c.args.self.now.parts c.note.new.self.parts) (brought_is arc_value c.args.sealed)
    (c.law_of_settles.ensures c.args.session c.args.statement c.args.look.now c.args.change (option_map arc_value c.args.sealed) c.args.self.now.parts c.note.new.self.parts settled
    c.tell.ensures.single c.requires.there)
