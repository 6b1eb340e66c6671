use Rattle.std.proofs.Common.{◌∷◌, []}
use Rattle.plain_sessions.specs.SystemTables.{branches, commit_ancestors, log, status}
use Rattle.system_tables.specs.Known.{entry_tables, four_tables}
use Rattle.system_tables.proofs.SourceLemmas.{more_read, one_after}
use Rattle.system_tables.proofs.sources.system_sources.Goals as goal

pub returns : goal.returns
returns g c = λ p t stands there.
    let from = c.args.from.now in
    let first = one_after from [] (log t) c.new-sources.result c.push_log.new.sources c.new-sources.ensures (c.in_ok-push_log.ensures p t stands there) in
    let second = one_after from (log t ∷ []) (branches t) c.push_log.new.sources c.push_branches.new.sources first (c.in_ok-push_branches.ensures p t stands there) in
    let third =
    one_after from (log t ∷ branches t ∷ []) (status t) c.push_branches.new.sources c.push_status.new.sources second (c.in_ok-push_status.ensures p t stands there)
    in
    let fourth =
    one_after from (log t ∷ branches t ∷ status t ∷ []) (commit_ancestors t) c.push_status.new.sources c.push_ancestors.new.sources third
    (c.in_ok-push_ancestors.ensures p t stands there)
    in
    more_read from (four_tables t) (entry_tables t) [] c.push_ancestors.new.sources c.push_entries.new.sources fourth (c.in_ok-push_entries.ensures p t stands there)
