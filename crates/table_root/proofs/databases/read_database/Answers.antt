use Rattle.std.proofs.Common.{List, ◌∙◌, ap, option_map, sym, subst}
use Rattle.std.specs.Global.{Vec}
use Rattle.tuple_codec.proofs.Options.{some_is}
use Rattle.chunk_store.specs.Drafts.{chunks_of}
use Rattle.schema_model.proofs.PartLemmas.{nothing}
use Rattle.table_root.specs.Databases.{IsDatabaseFound, written_database}
use Rattle.table_root.specs.declared.records.TableEntry.{TableEntry}
use Rattle.table_root.proofs.databases.read_database.Goals as goal

pub unreachable-requires-in-None : goal.unreachable-requires-in-None
unreachable-requires-in-None g c =
    let e = some_is c.in-Some.bytes.now (written_database c.requires.0) (c.in-Some.ensures ∙ c.requires.1.held) in
    nothing c.requires.0 (sym (ap (option_map (λ (tables : Vec TableEntry). tables.items)) c.in-None.is) ∙ (c.in_ok-tables.ensures c.requires.0).1 (c.requires.1.is_database, sym e))

pub returns : goal.returns
returns g c =
    let e = some_is c.in-Some.bytes.now (written_database c.requires.0) (c.in-Some.ensures ∙ c.requires.1.held) in
    let same = some_is c.in-Some-2.tables.items c.requires.0
    (sym (ap (option_map (λ (tables : Vec TableEntry). tables.items)) c.in-Some-2.is) ∙ (c.in_ok-tables.ensures c.requires.0).1 (c.requires.1.is_database, sym e)) in
    subst (λ (tables : List TableEntry). IsDatabaseFound (chunks_of c.args.draft.now.chunks) c.args.address.now.0 tables) (sym same) c.requires.1
