use Rattle.std.proofs.Common.{◌≡◌}
use Rattle.std.proofs.lemmas.Result.{IfOk-weaker}
use Rattle.chunk_store.specs.Drafts.{chunks_of}
use Rattle.plain_sql.specs.declared.sources.Known.{Known}
use Rattle.system_tables.specs.Entries.{known_list, list_shown}
use Rattle.system_tables.proofs.TableLemmas.{list_is}
use Rattle.system_tables.proofs.lists.list_shown.Goals as goal

pub returns : goal.returns
returns g c = λ contents at.
    let of = c.in_ok-table.ensures contents at in
    let table = c.in_ok-table.table in
    let name = c.args.named.now.name in
    IfOk-weaker c.known_list.result (λ (known : Known). known ≡ known_list c.args.which name table.schema c.in_ok-entries.entries)
    (λ (known : Known). known ≡ list_shown c.args.which (record { name = name; table = contents }))
    (λ known is. list_is c.args.which name g.D.Digester.address (chunks_of c.args.draft.now.chunks) table contents of c.in_ok-entries.entries (c.in_ok-entries.ensures contents of) known is)
    c.known_list.ensures
