use Rattle.std.proofs.Common.{◌∙◌, ℕ, List, ap, subst, sym}
use Rattle.std.specs.Option.{option_copied}
use Rattle.chunk_store.specs.Drafts.{chunks_of}
use Rattle.tuple_codec.specs.Edits.{value_at}
use Rattle.table_merge.specs.Skipping.{IsKeyOf}
use Rattle.table_merge.proofs.DecideLemmas.{base_fits, decided_is, merged_fits, new_at, old_at, ours_at, ours_fits, theirs_fits}
use Rattle.table_merge.proofs.SkipLemmas.{our_items}
use Rattle.table_merge.proofs.changing.decide_change.Goals as goal

pub decide-requires-clause-base : goal.decide-requires-clause-base
decide-requires-clause-base g c =
    let three = c.requires.0 in
    let can = c.requires.1 in
    let s = c.args.schema.now in
    let change = c.args.change.now in
    let is = can.change_is in
    let key = subst (λ (k : List ℕ). IsKeyOf s k is.cells) (sym c.as_slice-bytes.ensures) is.key in
    let b = c.as_ref.ensures.value ∙ c.in_ok-base.ensures three.base is.cells key (old_at s three can.kept change is _ c.bytes_of.ensures) in
    base_fits s three can.kept change is (option_copied c.as_ref.result) b

pub decide-requires-clause-ours : goal.decide-requires-clause-ours
decide-requires-clause-ours g c =
    let three = c.requires.0 in
    let can = c.requires.1 in
    let s = c.args.schema.now in
    let change = c.args.change.now in
    let is = can.change_is in
    let key = subst (λ (k : List ℕ). IsKeyOf s k is.cells) (sym c.as_slice-bytes.ensures) is.key in
    let there = c.get.ensures (our_items s three) can.tree ∙ ap (λ (k : List ℕ). value_at k (our_items s three)) c.as_slice-bytes.ensures in
    let o = c.as_ref-2.ensures.value ∙ c.in_ok-our_row.ensures three.ours is.cells key (ours_at s three can.kept change is _ there) in
    ours_fits s three can.kept change is (option_copied c.as_ref-2.result) o

pub decide-requires-clause-theirs : goal.decide-requires-clause-theirs
decide-requires-clause-theirs g c =
    let three = c.requires.0 in
    let can = c.requires.1 in
    let s = c.args.schema.now in
    let change = c.args.change.now in
    let is = can.change_is in
    let key = subst (λ (k : List ℕ). IsKeyOf s k is.cells) (sym c.as_slice-bytes.ensures) is.key in
    let t = c.as_ref-3.ensures.value ∙ c.in_ok-theirs.ensures three.theirs is.cells key (new_at s three can.kept change is _ c.bytes_of-2.ensures) in
    theirs_fits s three can.kept change is (option_copied c.as_ref-3.result) t

pub decide-requires-clause-merged : goal.decide-requires-clause-merged
decide-requires-clause-merged g c =
    let three = c.requires.0 in
    let can = c.requires.1 in
    let s = c.args.schema.now in
    let change = c.args.change.now in
    let is = can.change_is in
    let key = subst (λ (k : List ℕ). IsKeyOf s k is.cells) (sym c.as_slice-bytes.ensures) is.key in
    let b = c.as_ref.ensures.value ∙ c.in_ok-base.ensures three.base is.cells key (old_at s three can.kept change is _ c.bytes_of.ensures) in
    let there = c.get.ensures (our_items s three) can.tree ∙ ap (λ (k : List ℕ). value_at k (our_items s three)) c.as_slice-bytes.ensures in
    let o = c.as_ref-2.ensures.value ∙ c.in_ok-our_row.ensures three.ours is.cells key (ours_at s three can.kept change is _ there) in
    let t = c.as_ref-3.ensures.value ∙ c.in_ok-theirs.ensures three.theirs is.cells key (new_at s three can.kept change is _ c.bytes_of-2.ensures) in
    merged_fits s three can.kept change is (option_copied c.as_ref.result) (option_copied c.as_ref-2.result) (option_copied c.as_ref-3.result) b o t

pub returns : goal.returns
returns g c = λ three can.
    let s = c.args.schema.now in
    let change = c.args.change.now in
    let is = can.change_is in
    let key = subst (λ (k : List ℕ). IsKeyOf s k is.cells) (sym c.as_slice-bytes.ensures) is.key in
    let b = c.as_ref.ensures.value ∙ c.in_ok-base.ensures three.base is.cells key (old_at s three can.kept change is _ c.bytes_of.ensures) in
    let there = c.get.ensures (our_items s three) can.tree ∙ ap (λ (k : List ℕ). value_at k (our_items s three)) c.as_slice-bytes.ensures in
    let o = c.as_ref-2.ensures.value ∙ c.in_ok-our_row.ensures three.ours is.cells key (ours_at s three can.kept change is _ there) in
    let t = c.as_ref-3.ensures.value ∙ c.in_ok-theirs.ensures three.theirs is.cells key (new_at s three can.kept change is _ c.bytes_of-2.ensures) in
    decided_is s three can.kept change is c.decide.result _ (option_copied c.as_ref.result) (option_copied c.as_ref-2.result) (option_copied c.as_ref-3.result)
    (c.in_ok-key.ensures is.cells key) b o t c.decide.ensures
