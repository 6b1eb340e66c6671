use Rattle.std.proofs.Common.{◌&&◌, ◌+◌, Bool, drop, sym, ap, ◌∙◌}
use Rattle.chunk_store.specs.Stores.{is_within}
use Rattle.chunk_store.proofs.JoinLemmas.{within_next}
use Rattle.chunk_store.proofs.segments.Segment.is_within.Goals as goal

pub returns-then-not-has : goal.returns-then-not-has
returns-then-not-has c =
    let segment = c.args.self.now in
    let other = c.args.other.now in
    let at = c.loop-at.at in
    sym (sym c.loop-at.invariant ∙ within_next segment other at (c.chunk.result.0.0, c.chunk.result.1.now) c.chunk.ensures.chunk
    ∙ ap (λ (t : Bool). t && is_within (drop (at + 1) segment) other) (sym c.has.ensures ∙ c.if-not-has.true))

pub loop-at-preserved : goal.loop-at-preserved
loop-at-preserved c =
    let segment = c.args.self.now in
    let other = c.args.other.now in
    let at = c.loop-at.at in
    sym (ap (λ (t : Bool). t && is_within (drop (at + 1) segment) other) (sym c.has.ensures ∙ c.if-not-has.false))
    ∙ sym (within_next segment other at (c.chunk.result.0.0, c.chunk.result.1.now) c.chunk.ensures.chunk) ∙ c.loop-at.invariant
