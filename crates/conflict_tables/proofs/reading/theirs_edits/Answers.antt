use Rattle.std.proofs.Common.{◌≡◌, ◌∙◌, List, subst}
use Rattle.std.specs.Prelude.{IfOk}
use Rattle.tuple_codec.specs.declared.edits.Edit.{Edit}
use Rattle.conflict_tables.proofs.ReadLemmas.{edits_are}
use Rattle.conflict_tables.proofs.reading.theirs_edits.Goals as goal

pub returns : goal.returns
returns g c = λ contents of.
    subst (λ (l : List Edit). IfOk c.edits_of.result (λ edits. edits ≡ l)) (edits_are contents c.into_vec.result.items (c.into_vec.ensures ∙ c.in_ok-list.ensures contents of)) c.edits_of.ensures
