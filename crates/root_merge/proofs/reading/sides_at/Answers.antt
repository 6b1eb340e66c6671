use Rattle.root_merge.proofs.reading.sides_at.Goals as goal

pub returns : goal.returns
returns g c = λ contents kept. record {
  base_side = c.in_ok-base.ensures contents.base kept.base_side;
  our_side = c.in_ok-ours.ensures contents.ours kept.our_side;
  their_side = c.in_ok-theirs.ensures contents.theirs kept.their_side;
}
