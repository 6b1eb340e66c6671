use Rattle.std.proofs.Common.{◌≡◌, ℕ, List, length, sym, subst, rules}
use Rattle.chunk_store.specs.Chunks.{Extends, IsHeld}
use Rattle.chunk_store.specs.Drafts.{chunks_of}
use Rattle.chunk_store.specs.Kinds.{is_table}
use Rattle.table_root.specs.Tables.{written_table}
use Rattle.violation_lists.proofs.recording.keep_table.Goals as goal

pub returns-clause-stands : goal.returns-clause-stands
returns-clause-stands g c = λ contents may.
    let address = g.D.Digester.address in
    let old = c.args.draft.now in
    let new = c.write_table.new.draft in
    let table = c.args.table.now in
    let laws = c.laws_of_growth.ensures in
    let more : Extends (chunks_of old.chunks) (chunks_of new.chunks) = laws.drafts.longer_extends old.chunks new.chunks (laws.growth.is_longer is_table old new c.write_table.ensures.grows) in
    let twenty : length c.in_ok-at.at.0 ≡ 20 = search rules in
    let puts = c.in_ok-at.ensures.puts in
    laws.values.put address (chunks_of new.chunks) c.in_ok-at.at.0 contents table (laws.values.later address (chunks_of old.chunks) (chunks_of new.chunks) contents table more may.stands)
    (subst (λ (k : List ℕ). IsHeld address (chunks_of new.chunks) k (written_table table)) (sym puts.address) puts.held) twenty
