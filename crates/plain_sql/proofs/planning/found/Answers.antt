use Rattle.std.proofs.Common.{◌≡◌, ◌∙◌, ap, sym}
use Rattle.expr_eval.specs.Scopes.{place_named, place_qualified}
use Rattle.plain_sql.specs.Plans.{place_meant}
use Rattle.plain_sql.proofs.planning.found.Goals as goal

pub returns-in-Name : goal.returns-in-Name
returns-in-Name c =
    c.place_named.ensures
    ∙ ap (λ name. place_named name c.args.scope.now) c.as_slice.ensures
    ∙ ap (place_meant c.args.scope.now) (sym c.in-Name.is)

pub returns-in-Qualified : goal.returns-in-Qualified
returns-in-Qualified c =
    c.place_qualified.ensures
    ∙ ap (λ source. place_qualified source c.as_slice-in-Qualified-2.result.now c.args.scope.now) c.as_slice-in-Qualified.ensures
    ∙ ap (λ name. place_qualified c.in-Qualified.source name c.args.scope.now) c.as_slice-in-Qualified-2.ensures
    ∙ ap (place_meant c.args.scope.now) (sym c.in-Qualified.is)
