use Rattle.std.proofs.Common.{◌∷◌, ◌++◌, ◌-◌, List, [], drop, length, sym, subst, take}
use Rattle.std.specs.Prelude.{OnOk}
use Rattle.schema_model.specs.PlainTables.{PlainDatabase}
use Rattle.chunk_store.specs.Chunks.{Extends}
use Rattle.chunk_store.specs.Drafts.{chunks_of}
use Rattle.chunk_store.specs.Kinds.{is_data}
use Rattle.table_root.specs.Standing.{AreThere}
use Rattle.table_root.specs.declared.records.TableEntry.{TableEntry}
use Rattle.violation_lists.proofs.RecordLemmas.{there_later, there_more}
use Rattle.violation_lists.proofs.StandLemmas.{parts_of}
use Rattle.plain_sessions.specs.Merging.{table_after}
use Rattle.merge_procs.proofs.SettleLemmas.{first_can, joined, others_can}
use Rattle.merge_procs.proofs.settling.+settle_each.Goals as goal

pub entry_after-requires-after_bounds : goal.entry_after-requires-after_bounds
entry_after-requires-after_bounds g t c κs within =
    let address = g.D.Digester.address in
    let old = chunks_of c.args.draft.now.chunks in
    let entries = c.args.entries.now in
    let first = c.first-item.result in
    let can = c.requires.1 in
    let parts = parts_of address old c.requires.0 entries first can.there c.first-item.is c.in-len1-up.len_at_least in
    (parts.named, first_can address old entries (take (length entries - 1) (drop 1 entries)) c.args.request.now c.requires.0 first can parts)

pub settle_each-requires-after_bounds : goal.settle_each-requires-after_bounds
settle_each-requires-after_bounds g t c κs within =
    let address = g.D.Digester.address in
    let old = c.args.draft.now in
    let mid = c.entry_after.new.draft in
    let laws = c.laws_of_growth.ensures in
    let more : Extends (chunks_of old.chunks) (chunks_of mid.chunks) = laws.drafts.longer_extends old.chunks mid.chunks (laws.growth.is_longer is_data old mid c.entry_after.ensures.grows) in
    let entries = c.args.entries.now in
    let first = c.first-item.result in
    let can = c.requires.1 in
    let parts = parts_of address (chunks_of old.chunks) c.requires.0 entries first can.there c.first-item.is c.in-len1-up.len_at_least in (
      parts.others,
      others_can address (chunks_of old.chunks) entries (take (length entries - 1) (drop 1 entries)) c.args.request.now c.requires.0 first can parts (chunks_of mid.chunks) more laws.tables,
    )

pub returns-in-len1-up-clause-stands : goal.returns-in-len1-up-clause-stands
returns-in-len1-up-clause-stands g t c database can done there =
    let address = g.D.Digester.address in
    let old = c.args.draft.now in
    let mid = c.entry_after.new.draft in
    let laws = c.laws_of_growth.ensures in
    let more : Extends (chunks_of old.chunks) (chunks_of mid.chunks) = laws.drafts.longer_extends old.chunks mid.chunks (laws.growth.is_longer is_data old mid c.entry_after.ensures.grows) in
    let entries = c.args.entries.now in
    let rest = take (length entries - 1) (drop 1 entries) in
    let first = c.first-item.result in
    let request = c.args.request.now in
    let parts = parts_of address (chunks_of old.chunks) database entries first can.there c.first-item.is c.in-len1-up.len_at_least in
    let named = parts.named in
    let made = c.in_ok-entry_after.ensures.stands named (first_can address (chunks_of old.chunks) entries rest request database first can parts) in
    let pushed = subst (λ (l : List TableEntry). AreThere address (chunks_of mid.chunks) (done ++ table_after request named ∷ []) l) (sym c.in_ok-push.ensures.ok)
    (there_more address (chunks_of mid.chunks) done c.args.made.now c.in_ok-entry_after.field-0 (table_after request named)
    (there_later address (chunks_of old.chunks) (chunks_of mid.chunks) more laws.tables done c.args.made.now there) made) in
    subst (λ (d : PlainDatabase). OnOk c.settle_each.result (AreThere address (chunks_of c.settle_each.new.draft.chunks) d c.settle_each.new.made))
    (joined address (chunks_of old.chunks) entries rest request database first can parts done)
    (c.settle_each.ensures.stands parts.others
    (others_can address (chunks_of old.chunks) entries rest request database first can parts (chunks_of mid.chunks) more laws.tables)
    (done ++ table_after request named ∷ []) pushed)
