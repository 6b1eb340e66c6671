use Rattle.std.proofs.Common.{◌≡◌, ◌∙◌, ap, sym}
use Rattle.std.specs.List.{list_any}
use Rattle.std.proofs.lemmas.Result.{IfOk-weaker}
use Rattle.tuple_codec.proofs.Lists.{any_first, any_later}
use Rattle.chunk_store.specs.Drafts.{chunks_of}
use Rattle.schema_model.specs.PlainTables.{NamedTable, PlainDatabase}
use Rattle.schema_model.specs.declared.schemas.ForeignKey.{ForeignKey}
use Rattle.schema_model.specs.declared.schemas.Schema.{Schema}
use Rattle.constraint_scan.specs.Pairs.{deserts, some_deserts}
use Rattle.constraint_scan.proofs.PairLemmas.{no_pairs, none_below, pair_parts, schema_at}
use Rattle.constraint_scan.proofs.changing.+some_deserts.Goals as goal

pub deserts_by_any-requires-clause-child : goal.deserts_by_any-requires-clause-child
deserts_by_any-requires-clause-child g t c κs within =
    let parts = pair_parts g.D.Digester.address (chunks_of c.args.draft.now.chunks) c.args.tables.now c.requires.tables.0 c.requires.tables.1 c.first-item.result c.requires.tables.2 c.first-item.is c.in-len1-up.len_at_least in
    (parts.new.table, parts.is.new)

pub some_deserts-requires-clause-tables : goal.some_deserts-requires-clause-tables
some_deserts-requires-clause-tables g t c κs within =
    let parts = pair_parts g.D.Digester.address (chunks_of c.args.draft.now.chunks) c.args.tables.now c.requires.tables.0 c.requires.tables.1 c.first-item.result c.requires.tables.2 c.first-item.is c.in-len1-up.len_at_least in
    (parts.olds, parts.news, parts.are)

pub returns-in_default : goal.returns-in_default
returns-in_default g t c = λ before after old new are own.
    sym (ap (λ (d : PlainDatabase). some_deserts before after d) ((no_pairs g.D.Digester.address (chunks_of c.args.draft.now.chunks) c.args.tables.now old new own (none_below c.args.tables.now c.in_default.len_below)).1))

pub returns-then-found : goal.returns-then-found
returns-then-found g t c = λ before after old new are own.
    let parts = pair_parts g.D.Digester.address (chunks_of c.args.draft.now.chunks) c.args.tables.now old new c.first-item.result own c.first-item.is c.in-len1-up.len_at_least in
    any_first (λ (named : NamedTable). list_any (λ (foreign : ForeignKey). deserts after named.table foreign before after) named.table.schema.foreign) new parts.new parts.news c.in_ok-found.found parts.after_is
    (c.in_ok-found.ensures before after parts.new.table are parts.is.new
    ∙ ap (list_any (λ (foreign : ForeignKey). deserts after parts.new.table foreign before after))
    (c.as_slice.ensures ∙ ap (λ (s : Schema). s.foreign) (schema_at g.D.Digester.address (chunks_of c.args.draft.now.chunks) c.first-item.result.new parts.new.table parts.is.new))) c.if-found.true

pub returns : goal.returns
returns g t c = λ before after old new are own.
    let parts = pair_parts g.D.Digester.address (chunks_of c.args.draft.now.chunks) c.args.tables.now old new c.first-item.result own c.first-item.is c.in-len1-up.len_at_least in
    IfOk-weaker c.some_deserts.result (λ rest. rest ≡ some_deserts before after parts.news) (λ rest. rest ≡ some_deserts before after new)
    (λ rest later. any_later (λ (named : NamedTable). list_any (λ (foreign : ForeignKey). deserts after named.table foreign before after) named.table.schema.foreign) new parts.new parts.news c.in_ok-found.found rest parts.after_is
    (c.in_ok-found.ensures before after parts.new.table are parts.is.new
    ∙ ap (list_any (λ (foreign : ForeignKey). deserts after parts.new.table foreign before after))
    (c.as_slice.ensures ∙ ap (λ (s : Schema). s.foreign) (schema_at g.D.Digester.address (chunks_of c.args.draft.now.chunks) c.first-item.result.new parts.new.table parts.is.new))) c.if-found.false later)
    (c.some_deserts.ensures before after parts.olds parts.news are parts.are)
