use Rattle.std.proofs.Common.{◌∷◌, ◌++◌, ◌-◌, ◌∙◌, List, [], drop, length, sym, subst, take}
use Rattle.std.specs.Prelude.{OnOk}
use Rattle.schema_model.specs.PlainTables.{PlainDatabase}
use Rattle.chunk_store.specs.Chunks.{Extends}
use Rattle.chunk_store.specs.Drafts.{chunks_of}
use Rattle.chunk_store.specs.Kinds.{is_data}
use Rattle.table_root.specs.Standing.{AreThere}
use Rattle.table_root.specs.declared.records.TableEntry.{TableEntry}
use Rattle.violation_lists.specs.Recording.{IsEntryOf, recorded_in, violations_of}
use Rattle.violation_lists.proofs.RecordLemmas.{first_can, joined, others_can, there_later, there_more}
use Rattle.violation_lists.proofs.StandLemmas.{parts_of}
use Rattle.violation_lists.proofs.recording.+record_each.Goals as goal

pub record_named-requires-after_bounds : goal.record_named-requires-after_bounds
record_named-requires-after_bounds g t c κs within =
    let address = g.D.Digester.address in
    let old = chunks_of c.args.draft.now.chunks in
    let entries = c.args.entries.now in
    let first = c.first-item.result in
    let can = c.requires.2 in
    let parts = parts_of address old c.requires.0 entries first can.there c.first-item.is c.in-len1-up.len_at_least in
    let named = parts.named in (
      named.table,
      violations_of named.name c.requires.1,
      first_can address old entries (take (length entries - 1) (drop 1 entries)) c.args.list.now c.requires.0 c.requires.1 first can parts,
    )

pub record_each-requires-after_bounds : goal.record_each-requires-after_bounds
record_each-requires-after_bounds g t c κs within =
    let address = g.D.Digester.address in
    let old = c.args.draft.now in
    let mid = c.record_named.new.draft in
    let laws = c.laws_of_growth.ensures in
    let more : Extends (chunks_of old.chunks) (chunks_of mid.chunks) = laws.drafts.longer_extends old.chunks mid.chunks (laws.growth.is_longer is_data old mid c.record_named.ensures.grows) in
    let entries = c.args.entries.now in
    let first = c.first-item.result in
    let can = c.requires.2 in
    let parts = parts_of address (chunks_of old.chunks) c.requires.0 entries first can.there c.first-item.is c.in-len1-up.len_at_least in (
      parts.others,
      c.requires.1,
      others_can address (chunks_of old.chunks) entries (take (length entries - 1) (drop 1 entries)) c.args.list.now c.requires.0 c.requires.1 first can parts (chunks_of mid.chunks) more laws.tables,
    )

pub returns-in-len1-up-clause-stands : goal.returns-in-len1-up-clause-stands
returns-in-len1-up-clause-stands g t c database found can done there =
    let address = g.D.Digester.address in
    let old = c.args.draft.now in
    let mid = c.record_named.new.draft in
    let laws = c.laws_of_growth.ensures in
    let more : Extends (chunks_of old.chunks) (chunks_of mid.chunks) = laws.drafts.longer_extends old.chunks mid.chunks (laws.growth.is_longer is_data old mid c.record_named.ensures.grows) in
    let entries = c.args.entries.now in
    let rest = take (length entries - 1) (drop 1 entries) in
    let first = c.first-item.result in
    let parts = parts_of address (chunks_of old.chunks) database entries first can.there c.first-item.is c.in-len1-up.len_at_least in
    let named = parts.named in
    let made = c.in_ok-record_named.ensures.stands named.table (violations_of named.name found)
    (first_can address (chunks_of old.chunks) entries rest c.args.list.now database found first can parts) in
    let is : IsEntryOf address (chunks_of mid.chunks) c.in_ok-record_named.field-0 (recorded_in found named) = record { name = made.name ∙ parts.name; at = made.at } in
    let pushed = subst (λ (l : List TableEntry). AreThere address (chunks_of mid.chunks) (done ++ recorded_in found named ∷ []) l) (sym c.in_ok-push.ensures.ok)
    (there_more address (chunks_of mid.chunks) done c.args.made.now c.in_ok-record_named.field-0 (recorded_in found named)
    (there_later address (chunks_of old.chunks) (chunks_of mid.chunks) more laws.tables done c.args.made.now there) is) in
    subst (λ (d : PlainDatabase). OnOk c.record_each.result (AreThere address (chunks_of c.record_each.new.draft.chunks) d c.record_each.new.made))
    (joined found done parts.others database named parts.both)
    (c.record_each.ensures.stands parts.others found
    (others_can address (chunks_of old.chunks) entries rest c.args.list.now database found first can parts (chunks_of mid.chunks) more laws.tables)
    (done ++ recorded_in found named ∷ []) pushed)
