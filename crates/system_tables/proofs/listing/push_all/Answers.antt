use Rattle.std.proofs.Common.{◌∷◌, [], ◌++◌, List, map}
use Rattle.plain_sql.specs.declared.sources.Known.{Known}
use Rattle.system_tables.specs.Entries.{counts_shown, list_shown}
use Rattle.system_tables.specs.declared.entries.Listed.TheVariants as listed
use Rattle.system_tables.proofs.SourceLemmas.{more_read, on_ok_more}
use Rattle.system_tables.proofs.listing.push_all.Goals as goal

pub returns : goal.returns
returns g c = λ database there.
    let from = c.args.from.now in
    let old = c.args.sources.now in
    let first : List Known = counts_shown listed.Conflicts database ∷ [] in
    let two : List Known = first ++ counts_shown listed.Violations database ∷ [] in
    let three : List Known = two ++ map (list_shown listed.Conflicts) database in
    let b = more_read from first (counts_shown listed.Violations database ∷ []) old c.push_counts.new.sources c.push_counts-2.new.sources (c.in_ok-push_counts.ensures database there)
    (c.in_ok-push_counts-2.ensures database there) in
    let d = more_read from two (map (list_shown listed.Conflicts) database) old c.push_counts-2.new.sources c.push_lists.new.sources b (c.in_ok-push_lists.ensures database there) in
    on_ok_more c.push_lists-2.result from three (map (list_shown listed.Violations) database) old c.push_lists.new.sources c.push_lists-2.new.sources d (c.push_lists-2.ensures database there)
