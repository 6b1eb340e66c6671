use Rattle.std.proofs.Common.{◌≡◌, None, [], ap, map, subst, sym, ◌∙◌}
use Rattle.std.proofs.lemmas.Result.{IfOk-weaker}
use Rattle.tuple_codec.specs.Edits.{EditsRiseAfter, edited}
use Rattle.schema_model.specs.PlainTables.{row_item}
use Rattle.sql_write.specs.Differences.{row_edits}
use Rattle.sql_write.proofs.DifferenceLemmas.{no_changes}
use Rattle.sql_write.proofs.RiseLemmas.{are_leaves, items_rise}
use Rattle.sql_write.proofs.differences.row_edits.Goals as goal

pub returns-clause-rise : goal.returns-clause-rise
returns-clause-rise c =
    let old_rise = items_rise c.law_of_row_items.ensures c.args.schema.now c.args.old.now c.requires.schema c.requires.old c.requires.old_rise in
    let new_rise = items_rise c.law_of_row_items.ensures c.args.schema.now c.args.new.now c.requires.schema c.requires.new c.requires.new_rise in
    IfOk-weaker c.walked.result (λ edits. edits.items ≡ row_edits c.args.schema.now c.args.old.now c.args.new.now) (λ edits. EditsRiseAfter None edits.items)
    (λ edits is. subst (λ list. EditsRiseAfter None list) (sym is) (c.edits_by_key.ensures.changes.rise _ _ old_rise new_rise)) c.walked.ensures

pub returns-clause-turned : goal.returns-clause-turned
returns-clause-turned c =
    let rows = map (row_item c.args.schema.now) c.args.old.now in
    let others = map (row_item c.args.schema.now) c.args.new.now in
    let old_rise = items_rise c.law_of_row_items.ensures c.args.schema.now c.args.old.now c.requires.schema c.requires.old c.requires.old_rise in
    let new_rise = items_rise c.law_of_row_items.ensures c.args.schema.now c.args.new.now c.requires.schema c.requires.new c.requires.new_rise in
    IfOk-weaker c.walked.result (λ edits. edits.items ≡ row_edits c.args.schema.now c.args.old.now c.args.new.now) (λ edits. edited rows edits.items ≡ others)
    (λ edits is. ap (edited rows) is ∙ c.edits_by_key.ensures.changes.back rows others old_rise new_rise (are_leaves c.args.schema.now c.args.old.now) (are_leaves c.args.schema.now c.args.new.now)) c.walked.ensures

pub returns-clause-same : goal.returns-clause-same
returns-clause-same c =
    IfOk-weaker c.walked.result (λ edits. edits.items ≡ row_edits c.args.schema.now c.args.old.now c.args.new.now) (λ edits. c.args.old.now ≡ c.args.new.now → edits.items ≡ [])
    (λ edits is same. is ∙ ap (λ rows. row_edits c.args.schema.now c.args.old.now rows) (sym same) ∙ no_changes (map (row_item c.args.schema.now) c.args.old.now)) c.walked.ensures
