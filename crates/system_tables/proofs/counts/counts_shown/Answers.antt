use Rattle.std.proofs.Common.{◌≡◌}
use Rattle.std.proofs.lemmas.Result.{IfOk-weaker}
use Rattle.plain_sql.specs.declared.sources.Known.{Known}
use Rattle.system_tables.specs.Entries.{counts_of, counts_shown}
use Rattle.system_tables.proofs.TableLemmas.{counts_are}
use Rattle.system_tables.proofs.counts.counts_shown.Goals as goal

pub returns : goal.returns
returns g c = λ database there.
    IfOk-weaker c.counts_of.result (λ (known : Known). known ≡ counts_of c.args.which c.push_counts.new.rows) (λ (known : Known). known ≡ counts_shown c.args.which database)
    (λ known is. counts_are c.args.which database c.new-rows.result c.push_counts.new.rows known c.new-rows.ensures (c.in_ok-push_counts.ensures database there) is) c.counts_of.ensures
