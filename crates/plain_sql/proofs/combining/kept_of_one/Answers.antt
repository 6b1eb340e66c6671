use Rattle.std.proofs.Common.{◌∙◌, sym, ap, map, subst}
use Rattle.plain_sql.specs.Answers.{kept}
use Rattle.plain_sql.specs.Gives.{Gives}
use Rattle.plain_sql.specs.Plans.{meaning}
use Rattle.plain_sql.proofs.NestedLemmas.{only_one}
use Rattle.plain_sql.proofs.combining.kept_of_one.Goals as goal

pub returns-in-Some : goal.returns-in-Some
returns-in-Some c =
    subst (λ o. Gives c.passing.result o)
    (ap (kept (map meaning c.args.tests.now)) (c.into_vec.ensures ∙ sym (only_one c.args.sources.items c.pop.new.self.items c.in-Some.source c.requires c.in-Some.ensures.items)))
    c.passing.ensures
