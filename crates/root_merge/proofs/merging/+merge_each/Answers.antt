use Rattle.std.proofs.Common.{[], ◌++◌, ◌-◌, drop, length, subst, take}
use Rattle.schema_model.specs.PlainTables.{PlainDatabase}
use Rattle.chunk_store.specs.Chunks.{Extends}
use Rattle.chunk_store.specs.Drafts.{chunks_of}
use Rattle.chunk_store.specs.Kinds.{is_data}
use Rattle.schema_merge.specs.RootMerge.{with_table}
use Rattle.root_merge.specs.Merging.{AreMade, IsLimitFault, are_within}
use Rattle.root_merge.proofs.KeptLemmas.{by_first}
use Rattle.root_merge.proofs.MadeLemmas.{lead_later}
use Rattle.root_merge.proofs.RootLemmas.{count_is, database_is, first_fault, first_step, later_limit, made_first}
use Rattle.root_merge.proofs.TableLemmas.{same_fault}
use Rattle.root_merge.proofs.merging.+merge_each.Goals as goal

pub returns-in_err-became-clause-fault : goal.returns-in_err-became-clause-fault
returns-in_err-became-clause-fault g t c = λ wanted merged lead comes.
    let address = g.D.Digester.address in
    let chunks = chunks_of c.args.draft.now.chunks in
    let names = c.args.names.now in
    let step = first_step address chunks names c.first-item.result wanted merged (by_first names c.first-item.result c.in-len1-up.len_at_least c.first-item.is) lead comes in
    same_fault (IsLimitFault (are_within merged.database)) c.from_residual.result c.in_err-became.field-0.0
    (first_fault address chunks c.first-item.result (take (length names - 1) (drop 1 names)) wanted merged c.in_err-became.field-0.0 step
    (c.in_err-became.ensures.fault step.table step.one step.leads step.table_is)) c.from_residual.ensures

pub merge_each-requires-clause-lead : goal.merge_each-requires-clause-lead
merge_each-requires-clause-lead g t c κs within =
    let address = g.D.Digester.address in
    let old = c.args.draft.now in
    let mid = c.merge_choice.new.draft in
    let names = c.args.names.now in
    let rest = take (length names - 1) (drop 1 names) in
    let laws = c.laws_of_growth.ensures in
    let more : Extends (chunks_of old.chunks) (chunks_of mid.chunks) = laws.drafts.longer_extends old.chunks mid.chunks (laws.growth.is_longer is_data old mid c.merge_choice.ensures.grows) in
    let step = first_step address (chunks_of old.chunks) names c.first-item.result c.requires.lead.0 c.requires.lead.1
    (by_first names c.first-item.result c.in-len1-up.len_at_least c.first-item.is) c.requires.lead.2 c.requires.lead.3 in
    (step.more, step.others, lead_later address (chunks_of old.chunks) (chunks_of mid.chunks) more laws.tables rest step.more step.rest, step.more_is)

pub returns-in_err-more-clause-fault : goal.returns-in_err-more-clause-fault
returns-in_err-more-clause-fault g t c = λ wanted merged lead comes.
    let address = g.D.Digester.address in
    let old = c.args.draft.now in
    let mid = c.merge_choice.new.draft in
    let names = c.args.names.now in
    let rest = take (length names - 1) (drop 1 names) in
    let laws = c.laws_of_growth.ensures in
    let more : Extends (chunks_of old.chunks) (chunks_of mid.chunks) = laws.drafts.longer_extends old.chunks mid.chunks (laws.growth.is_longer is_data old mid c.merge_choice.ensures.grows) in
    let step = first_step address (chunks_of old.chunks) names c.first-item.result wanted merged (by_first names c.first-item.result c.in-len1-up.len_at_least c.first-item.is) lead comes in
    let later = lead_later address (chunks_of old.chunks) (chunks_of mid.chunks) more laws.tables rest step.more step.rest in
    same_fault (IsLimitFault (are_within merged.database)) c.from_residual-in_err-more.result c.in_err-more.field-0.0
    (later_limit address (chunks_of old.chunks) c.first-item.result rest wanted merged c.in_err-more.field-0.0 step
    (c.in_err-more.ensures.fault step.more step.others later step.more_is)) c.from_residual-in_err-more.ensures

pub returns-clause-made : goal.returns-clause-made
returns-clause-made g t c = λ wanted merged done lead comes are.
    let address = g.D.Digester.address in
    let old = c.args.draft.now in
    let mid = c.merge_choice.new.draft in
    let new = c.merge_each.new.draft in
    let names = c.args.names.now in
    let rest = take (length names - 1) (drop 1 names) in
    let first = c.first-item.result in
    let laws = c.laws_of_growth.ensures in
    let more : Extends (chunks_of old.chunks) (chunks_of mid.chunks) = laws.drafts.longer_extends old.chunks mid.chunks (laws.growth.is_longer is_data old mid c.merge_choice.ensures.grows) in
    let step = first_step address (chunks_of old.chunks) names first wanted merged (by_first names first c.in-len1-up.len_at_least c.first-item.is) lead comes in
    let later = lead_later address (chunks_of old.chunks) (chunks_of mid.chunks) more laws.tables rest step.more step.rest in
    let kept = (c.in_ok-became.ensures.made step.table step.one step.leads step.table_is).table in
    let one = made_first address (chunks_of old.chunks) (chunks_of mid.chunks) more laws.tables c.args.made.now.items c.push_perhaps.new.made.items done first rest wanted merged step c.in_ok-became.became.table are kept
    c.in_ok-push_perhaps.ensures in
    subst (λ (database : PlainDatabase). AreMade address (chunks_of new.chunks) c.merge_each.new.made.items database)
    (database_is address (chunks_of old.chunks) first rest wanted merged step done)
    (c.in_ok-more.ensures.made step.more step.others (done ++ with_table first.name step.one.table []) later step.more_is one)

pub returns-clause-conflicts : goal.returns-clause-conflicts
returns-clause-conflicts g t c = λ wanted merged lead comes.
    let address = g.D.Digester.address in
    let old = c.args.draft.now in
    let mid = c.merge_choice.new.draft in
    let names = c.args.names.now in
    let rest = take (length names - 1) (drop 1 names) in
    let first = c.first-item.result in
    let laws = c.laws_of_growth.ensures in
    let more : Extends (chunks_of old.chunks) (chunks_of mid.chunks) = laws.drafts.longer_extends old.chunks mid.chunks (laws.growth.is_longer is_data old mid c.merge_choice.ensures.grows) in
    let step = first_step address (chunks_of old.chunks) names first wanted merged (by_first names first c.in-len1-up.len_at_least c.first-item.is) lead comes in
    let later = lead_later address (chunks_of old.chunks) (chunks_of mid.chunks) more laws.tables rest step.more step.rest in
    count_is address (chunks_of old.chunks) first rest wanted merged step c.in_ok-became.became.conflicts c.in_ok-more.more
    (c.in_ok-became.ensures.made step.table step.one step.leads step.table_is).conflicts
    (c.in_ok-more.ensures.conflicts step.more step.others later step.more_is)
