use Rattle.std.proofs.Common.{◌≡◌, ℕ, List, length, sym, subst, rules}
use Rattle.chunk_store.specs.Chunks.{Extends, IsHeld}
use Rattle.chunk_store.specs.Drafts.{chunks_of}
use Rattle.chunk_store.specs.Kinds.{is_database}
use Rattle.table_root.specs.Databases.{written_database}
use Rattle.table_root.specs.declared.records.TableEntry.{TableEntry}
use Rattle.root_merge.proofs.MadeLemmas.{kept_again, kept_rise, kept_short}
use Rattle.root_merge.proofs.merging.put_database.Goals as goal

pub write_database-requires-clause-names : goal.write_database-requires-clause-names
write_database-requires-clause-names g c κs within = kept_short g.D.Digester.address (chunks_of c.args.draft.now.chunks) c.args.tables.now c.requires.0 c.requires.1

pub write_database-requires-clause-rise : goal.write_database-requires-clause-rise
write_database-requires-clause-rise g c κs within = kept_rise g.D.Digester.address (chunks_of c.args.draft.now.chunks) c.args.tables.now c.requires.0 c.requires.1

pub returns-clause-stands : goal.returns-clause-stands
returns-clause-stands g c = λ database kept.
    let address = g.D.Digester.address in
    let old = c.args.draft.now in
    let new = c.write_database.new.draft in
    let tables = c.args.tables.now in
    let laws = c.laws_of_growth.ensures in
    let more : Extends (chunks_of old.chunks) (chunks_of new.chunks) = laws.drafts.longer_extends old.chunks new.chunks (laws.growth.is_longer is_database old new c.write_database.ensures.grows) in
    let twenty : length c.in_ok-at.at.0 ≡ 20 = search rules in
    let puts = c.in_ok-at.ensures.puts in
    let held = subst (λ (k : List ℕ). IsHeld address (chunks_of new.chunks) k (written_database tables)) (sym puts.address) puts.held in
    record {
      stands = laws.databases.stands address (chunks_of new.chunks) c.in_ok-at.at.0 database kept.is_database
          (kept_again address (chunks_of old.chunks) (chunks_of new.chunks) more laws.tables tables database kept)
          (subst (λ (l : List TableEntry). IsHeld address (chunks_of new.chunks) c.in_ok-at.at.0 (written_database l)) kept.there.listed held) twenty;
      within = kept.within;
    }
