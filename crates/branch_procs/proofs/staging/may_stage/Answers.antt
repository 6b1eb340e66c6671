use Rattle.std.proofs.Common.{◌∙◌, sym, ap, List}
use Rattle.chunk_store.specs.Drafts.{chunks_of}
use Rattle.table_root.specs.declared.records.TableEntry.{TableEntry}
use Rattle.sql_write.specs.Putting.{address_in}
use Rattle.sql_write.proofs.TableLemmas.{absent, found_at}
use Rattle.branch_procs.proofs.StageLemmas.{stage_absent, stage_found}
use Rattle.branch_procs.proofs.staging.may_stage.Goals as goal

pub is_open_table-requires-after_bounds : goal.is_open_table-requires-after_bounds
is_open_table-requires-after_bounds g c κs within =
    let (state, both) = c.requires in
    let are = both.ones_are in
    let found = found_at g.D.Digester.address (chunks_of c.args.draft.now.chunks) c.args.name.now c.in-Some.table state.working are.stand
    (sym (ap (λ (l : List TableEntry). address_in l c.args.name.now) are.listed) ∙ sym c.table_in.ensures ∙ c.in-Some.is) in
    (found.0, found.2)

pub returns-in_ok-open-in-Some : goal.returns-in_ok-open-in-Some
returns-in_ok-open-in-Some g c = λ state both.
    let are = both.ones_are in
    let found = found_at g.D.Digester.address (chunks_of c.args.draft.now.chunks) c.args.name.now c.in-Some.table state.working are.stand
    (sym (ap (λ (l : List TableEntry). address_in l c.args.name.now) are.listed) ∙ sym c.table_in.ensures ∙ c.in-Some.is) in
    c.openness.ensures ∙ stage_found state c.args.name.now found.0 c.in_ok-open-in-Some.open found.1 (c.in_ok-open-in-Some.ensures found.0 found.2)

pub returns-in-None : goal.returns-in-None
returns-in-None g c = λ state both.
    let ones = both.ones_are in
    let others = both.others_are in
    c.absence.ensures
    ∙ stage_absent g.D.Digester.address state c.args.staged.now c.args.name.now
    (absent g.D.Digester.address c.args.name.now state.working (sym (ap (λ (l : List TableEntry). address_in l c.args.name.now) ones.listed) ∙ sym c.table_in.ensures ∙ c.in-None.is))
    others.listed
