use Rattle.std.proofs.Common.{◌∙◌}
use Rattle.std.proofs.lemmas.Result.{IfOk-weaker}
use Rattle.std.specs.Prelude.{◌≡◌}
use Rattle.std.specs.List.{list_all}
use Rattle.chunk_store.specs.Drafts.{chunks_of}
use Rattle.schema_model.specs.Limits.{is_row_within_limits}
use Rattle.root_merge.specs.Changing.{is_short_perhaps}
use Rattle.root_merge.proofs.KeepingLemmas.{news_for, our_schema_valid}
use Rattle.root_merge.proofs.changing.rows_are_short.Goals as goal

pub are_short-requires-clause-schema : goal.are_short-requires-clause-schema
are_short-requires-clause-schema g c =
    let has = c.requires.2 in
    our_schema_valid g.D.Digester.address (chunks_of c.args.draft.now.chunks) c.args.ours.now c.args.merged.now c.requires.0 c.requires.1 has.can

pub are_short-requires-clause-rows : goal.are_short-requires-clause-rows
are_short-requires-clause-rows g c =
    let has = c.requires.2 in
    let news = news_for g.D.Digester.address (chunks_of c.args.draft.now.chunks) c.args.ours.now c.args.merged.now c.requires.0 c.requires.1 has.can c.law_of_row_items.ensures c.args.changes.now has.changes_are in
    (news.news, news.brought)

pub returns : goal.returns
returns g c = λ before contents has.
    let news = news_for g.D.Digester.address (chunks_of c.args.draft.now.chunks) c.args.ours.now c.args.merged.now before contents has.can c.law_of_row_items.ensures c.args.changes.now has.changes_are in
    IfOk-weaker c.are_short.result (λ short. short ≡ list_all (is_short_perhaps c.args.ours.now.schema) news.news) (λ short. short ≡ list_all (is_row_within_limits contents.schema) contents.rows)
    (λ short is. is ∙ news.limits) (c.are_short.ensures news.news news.brought)
