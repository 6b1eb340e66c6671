use Rattle.std.proofs.Common.{◌∙◌, ap, subst}
use Rattle.expr_eval.specs.Binding.{Outcome}
use Rattle.sql_ast.specs.declared.selects.FromClause.{FromClause}
use Rattle.sql_select.specs.Gives.{Answers}
use Rattle.system_tables.specs.Known.{first_answer, named_read, system_tables}
use Rattle.system_tables.proofs.SourceLemmas.{first_read}
use Rattle.system_tables.proofs.sources.system_rows.Goals as goal
use Rattle.tuple_codec.specs.declared.answers.Answer.{Answer}

pub returns : goal.returns
returns g c = λ p t stands there.
    subst (λ (outcome : Outcome Answer). Answers c.first_answer.result outcome)
    (ap first_answer (c.in_ok-system_sources.ensures p t stands there)
    ∙ ap (λ (from : FromClause). first_answer (named_read from (system_tables t))) c.in_ok-from.ensures
    ∙ first_read c.args.name.now (system_tables t))
    c.first_answer.ensures
