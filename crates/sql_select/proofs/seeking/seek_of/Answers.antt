use Rattle.std.proofs.Common.{◌≡◌, ◌∙◌, [], sym, Some}
use Rattle.std.proofs.lemmas.Result.{IfOk-weaker}
use Rattle.sql_select.specs.Choosing.{IsSeekOf, is_wanted}
use Rattle.sql_select.specs.Seeks.{SeeksBy, SeeksSource}
use Rattle.sql_select.proofs.SeekLemmas.{no_items}
use Rattle.sql_select.proofs.seeking.seek_of.Goals as goal

pub returns-in-Some : goal.returns-in-Some
returns-in-Some c = λ seek.
    let query = c.args.query.now in
    let alone : query.from.joins ≡ [] = no_items c.as_slice.result.now query.from.joins c.as_slice.ensures (sym c.is_empty.ensures ∙ c.if-not-is_empty.false) in
    IfOk-weaker c.seek_by.result (λ found. found ≡ Some seek → SeeksBy query.from.first c.in-Some.filter c.args.schema.now (is_wanted c.args.schema.now seek) × IsSeekOf c.args.schema.now seek)
    (λ found. found ≡ Some seek → SeeksSource query c.args.schema.now (is_wanted c.args.schema.now seek) × IsSeekOf c.args.schema.now seek)
    (λ found f e. let by = f e in ((alone, c.in-Some.filter, c.in-Some.is, by.0), by.1)) (c.seek_by.ensures seek)
