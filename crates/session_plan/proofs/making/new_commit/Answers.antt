use Rattle.std.proofs.Common.{◌∙◌, ◌≤◌, ◌≤ℤ◌, ℕ, ℤ, List, pos, refl, sym, ap, subst, length, w64, rules}
use Rattle.std.proofs.lemmas.Int.{to_z-of_z}
use Rattle.tuple_codec.specs.Rows.{fits_bits}
use Rattle.session_plan.proofs.MakingLemmas.{limits_of, made_as}
use Rattle.session_plan.proofs.making.new_commit.Goals as goal

pub returns-clause-made : goal.returns-clause-made
returns-clause-made g c = λ commits state can.
    made_as g.D.Digester.address c.args.draft.now.chunks c.args.rec.now c.args.present.now commits state can c.args.epoch _ c.greatest_height-greatest.result c.args.committer.now c.args.message.now
    refl c.in_ok-parents.ensures.is refl (c.greatest_height-greatest.ensures commits state can) (to_z-of_z w64 c.args.epoch c.ranges.epoch) (c.in_ok-committer.ensures ∙ c.as_slice.ensures) (c.in_ok-message.ensures ∙ c.as_slice-2.ensures)

pub returns-clause-limits : goal.returns-clause-limits
returns-clause-limits g c =
    let date = to_z-of_z w64 c.args.epoch c.ranges.epoch in
    limits_of _ c.in_ok-parents.ensures.few (search rules) (subst (λ (e : ℤ). pos 0 ≤ℤ e) (sym date) c.requires.date) (ap (fits_bits 63) date ∙ search rules)
    (subst (λ (l : List ℕ). length l ≤ 32) (sym (c.in_ok-committer.ensures ∙ c.as_slice.ensures)) c.requires.committer)
    (subst (λ (l : List ℕ). length l ≤ 8192) (sym (c.in_ok-message.ensures ∙ c.as_slice-2.ensures)) c.requires.message)
