use Rattle.std.proofs.Common.{◌≡◌, ◌==◌, ◌-◌, not, ap, sym, drop, length, take}
use Rattle.std.proofs.lemmas.Result.{IfOk-weaker}
use Rattle.chunk_store.specs.Drafts.{chunks_of}
use Rattle.schema_merge.specs.RootMerge.{MergedDatabase}
use Rattle.root_merge.proofs.CountLemmas.{first_some, later_some}
use Rattle.root_merge.proofs.KeptLemmas.{by_first}
use Rattle.root_merge.proofs.RootLemmas.{first_step, none_step}
use Rattle.root_merge.proofs.counting.+any_conflicts.Goals as goal

pub returns-in_default : goal.returns-in_default
returns-in_default g t c = λ wanted merged lead comes.
    sym (ap (λ (m : MergedDatabase). not (m.conflicts == 0)) (none_step g.D.Digester.address (chunks_of c.args.draft.now.chunks) c.args.names.now wanted merged c.in_default.len_below lead comes))

pub choice_conflicts-requires-after_bounds : goal.choice_conflicts-requires-after_bounds
choice_conflicts-requires-after_bounds g t c κs within =
    let names = c.args.names.now in
    let step = first_step g.D.Digester.address (chunks_of c.args.draft.now.chunks) names c.first-item.result c.requires.0 c.requires.1
    (by_first names c.first-item.result c.in-len1-up.len_at_least c.first-item.is) c.requires.2 c.requires.3 in
    (step.table, step.one, step.leads, step.table_is)

pub any_conflicts-requires-after_bounds : goal.any_conflicts-requires-after_bounds
any_conflicts-requires-after_bounds g t c κs within =
    let names = c.args.names.now in
    let step = first_step g.D.Digester.address (chunks_of c.args.draft.now.chunks) names c.first-item.result c.requires.0 c.requires.1
    (by_first names c.first-item.result c.in-len1-up.len_at_least c.first-item.is) c.requires.2 c.requires.3 in
    (step.more, step.others, step.rest, step.more_is)

pub returns-then-found : goal.returns-then-found
returns-then-found g t c = λ wanted merged lead comes.
    let address = g.D.Digester.address in
    let chunks = chunks_of c.args.draft.now.chunks in
    let names = c.args.names.now in
    let step = first_step address chunks names c.first-item.result wanted merged (by_first names c.first-item.result c.in-len1-up.len_at_least c.first-item.is) lead comes in
    first_some address chunks c.first-item.result (take (length names - 1) (drop 1 names)) wanted merged step c.in_ok-found.found
    (c.in_ok-found.ensures step.table step.one step.leads step.table_is) c.if-found.true

pub returns : goal.returns
returns g t c = λ wanted merged lead comes.
    let address = g.D.Digester.address in
    let chunks = chunks_of c.args.draft.now.chunks in
    let names = c.args.names.now in
    let step = first_step address chunks names c.first-item.result wanted merged (by_first names c.first-item.result c.in-len1-up.len_at_least c.first-item.is) lead comes in
    IfOk-weaker c.any_conflicts.result (λ rest. rest ≡ not (step.others.conflicts == 0)) (λ rest. rest ≡ not (merged.conflicts == 0))
    (λ rest later. later_some address chunks c.first-item.result (take (length names - 1) (drop 1 names)) wanted merged step c.in_ok-found.found rest
    (c.in_ok-found.ensures step.table step.one step.leads step.table_is) c.if-found.false later)
    (c.any_conflicts.ensures step.more step.others step.rest step.more_is)
