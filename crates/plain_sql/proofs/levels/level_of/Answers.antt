use Rattle.std.proofs.Common.{◌≡◌, ◌∙◌, ap}
use Rattle.plain_sql.specs.Links.{tried}
use Rattle.plain_sql.proofs.LevelLemmas.{begins, less_first}
use Rattle.plain_sql.proofs.levels.level_of.Goals as goal

pub returns-clause-left : goal.returns-clause-left
returns-clause-left c = λ tests served.
    let first = c.first-item.result in
    let lookup = c.lookup-item.result in
    let are : c.tried-rows.result.now ≡ tried first.rows lookup c.args.row =
    c.tried-rows.ensures ∙ ap (λ l. tried l lookup c.as_slice-in-len1-up-lookups.result.now) c.as_slice.ensures ∙ ap (tried first.rows lookup) c.as_slice-in-len1-up-lookups.ensures in
    begins tests c.args.sources.now c.args.lookups.now first lookup c.args.row c.tried-rows.result.now c.in-len1-up.len_at_least c.in-len1-up-lookups.len_at_least
    c.first-item.is c.lookup-item.is are served

pub returns-clause-work : goal.returns-clause-work
returns-clause-work c =
    let first = c.first-item.result in
    let lookup = c.lookup-item.result in
    let are : c.tried-rows.result.now ≡ tried first.rows lookup c.args.row =
    c.tried-rows.ensures ∙ ap (λ l. tried l lookup c.as_slice-in-len1-up-lookups.result.now) c.as_slice.ensures ∙ ap (tried first.rows lookup) c.as_slice-in-len1-up-lookups.ensures in
    less_first c.args.sources.now first lookup c.args.row c.tried-rows.result.now c.in-len1-up.len_at_least c.first-item.is are
