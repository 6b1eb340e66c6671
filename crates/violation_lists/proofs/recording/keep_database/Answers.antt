use Rattle.std.proofs.Common.{◌≡◌, ◌≤◌, ℕ, List, length, sym, ap, ◌∙◌, nat_le, subst, rules}
use Rattle.std.specs.List.{list_all}
use Rattle.std.proofs.lemmas.Bool.{and_parts, leb-true}
use Rattle.std.proofs.lemmas.List.{length-map}
use Rattle.schema_model.specs.Limits.{is_named_within_limits, most_tables}
use Rattle.schema_model.specs.PlainTables as plain
use Rattle.schema_model.specs.WrittenForms.{table_address}
use Rattle.schema_model.proofs.SizeLemmas.{short_names as short_in}
use Rattle.chunk_store.specs.Chunks.{Extends, IsHeld}
use Rattle.chunk_store.specs.Drafts.{chunks_of}
use Rattle.chunk_store.specs.Kinds.{is_database}
use Rattle.table_root.specs.Databases.{has_short_name, names_rise, written_database}
use Rattle.table_root.specs.declared.records.TableEntry.{TableEntry}
use Rattle.violation_lists.proofs.RecordLemmas.{each_later, rise_names, short_names}
use Rattle.violation_lists.proofs.recording.keep_database.Goals as goal

pub write_database-requires-clause-few : goal.write_database-requires-clause-few
write_database-requires-clause-few g c κs within =
    let may = c.requires.1 in
    let few = leb-true (length c.requires.0) most_tables (and_parts (nat_le (length c.requires.0) most_tables) (list_all is_named_within_limits c.requires.0) may.within).0 in
    subst (λ n. n ≤ 256) (sym (ap (λ (l : List TableEntry). length l) may.there.listed
    ∙ length-map c.requires.0 (λ (n : plain.NamedTable). record { name = n.name; table = record { 0 = table_address g.D.Digester.address n.table } }))) few

pub write_database-requires-clause-names : goal.write_database-requires-clause-names
write_database-requires-clause-names g c κs within =
    let may = c.requires.1 in
    ap (λ (l : List TableEntry). list_all has_short_name l) may.there.listed ∙ short_names g.D.Digester.address c.requires.0
    ∙ short_in c.requires.0 (and_parts (nat_le (length c.requires.0) most_tables) (list_all is_named_within_limits c.requires.0) may.within).1

pub write_database-requires-clause-rise : goal.write_database-requires-clause-rise
write_database-requires-clause-rise g c κs within =
    let may = c.requires.1 in
    ap (λ (l : List TableEntry). names_rise l) may.there.listed ∙ rise_names g.D.Digester.address c.requires.0 ∙ may.is_database.rise

pub returns-clause-stands : goal.returns-clause-stands
returns-clause-stands g c = λ database may.
    let address = g.D.Digester.address in
    let old = c.args.draft.now in
    let new = c.write_database.new.draft in
    let tables = c.args.tables.now in
    let laws = c.laws_of_growth.ensures in
    let more : Extends (chunks_of old.chunks) (chunks_of new.chunks) = laws.drafts.longer_extends old.chunks new.chunks (laws.growth.is_longer is_database old new c.write_database.ensures.grows) in
    let twenty : length c.in_ok-at.at.0 ≡ 20 = search rules in
    let puts = c.in_ok-at.ensures.puts in
    let held = subst (λ (k : List ℕ). IsHeld address (chunks_of new.chunks) k (written_database tables)) (sym puts.address) puts.held in
    record {
      stands = laws.databases.stands address (chunks_of new.chunks) c.in_ok-at.at.0 database may.is_database
          (each_later address (chunks_of old.chunks) (chunks_of new.chunks) more laws.tables database may.there.stand)
          (subst (λ (l : List TableEntry). IsHeld address (chunks_of new.chunks) c.in_ok-at.at.0 (written_database l)) may.there.listed held) twenty;
      within = may.within;
    }
