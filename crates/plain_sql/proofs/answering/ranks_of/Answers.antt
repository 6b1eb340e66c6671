use Rattle.std.proofs.Common.{◌∙◌, ◌∷◌, [], sym, ap, subst}
use Rattle.plain_sql.specs.Answers.{groups, ranked}
use Rattle.plain_sql.specs.Gives.{Gives}
use Rattle.plain_sql.specs.Lists.{each}
use Rattle.plain_sql.specs.Seen.{plan_seen}
use Rattle.plain_sql.proofs.NestedLemmas.{each_alone}
use Rattle.plain_sql.proofs.answering.ranks_of.Goals as goal

pub returns-in-Single : goal.returns-in-Single
returns-in-Single c =
    let plan = plan_seen c.args.plan.now in
    subst (λ o. Gives c.each_ranked.result o)
    (ap (each (λ row. ranked plan (row ∷ []))) c.as_slice.ensures
    ∙ each_alone (ranked plan) c.args.rows
    ∙ ap (λ grouping. each (ranked plan) (groups grouping c.args.rows)) (sym c.in-Single.is))
    c.each_ranked.ensures
