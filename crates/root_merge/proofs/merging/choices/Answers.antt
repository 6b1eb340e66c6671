use Rattle.std.proofs.Common.{◌≡◌, ◌≤◌, List, length, sym, subst}
use Rattle.std.proofs.lemmas.Result.{IfOk-weaker}
use Rattle.chunk_store.specs.Drafts.{chunks_of}
use Rattle.table_root.specs.declared.records.TableEntry.{TableEntry}
use Rattle.root_merge.specs.Kept.{AreKept}
use Rattle.root_merge.specs.Names.{LeadTo, all_chosen, all_wanted}
use Rattle.root_merge.specs.declared.names.Named.{Named}
use Rattle.root_merge.proofs.MadeLemmas.{kept_count}
use Rattle.root_merge.proofs.NameLemmas.{all_lead, chosen_few}
use Rattle.root_merge.proofs.merging.choices.Goals as goal

pub returns-clause-lead : goal.returns-clause-lead
returns-clause-lead g c = λ b o t roots.
    let address = g.D.Digester.address in
    let chunks = chunks_of c.args.draft.now.chunks in
    let kb = subst (λ (list : List TableEntry). AreKept address chunks list b) (sym c.as_slice.ensures.value) (c.in_ok-base.ensures b roots.base_root) in
    let ko = subst (λ (list : List TableEntry). AreKept address chunks list o) (sym c.as_slice-2.ensures.value) (c.in_ok-ours.ensures o roots.our_root) in
    let kt = subst (λ (list : List TableEntry). AreKept address chunks list t) (sym c.as_slice-3.ensures.value) (c.in_ok-theirs.ensures t roots.their_root) in
    IfOk-weaker c.all_chosen.result (λ names. names.items ≡ all_chosen c.as_slice.result.now c.as_slice-2.result.now c.as_slice-3.result.now) (λ names. LeadTo address chunks names.items (all_wanted b o t))
    (λ names is. subst (λ (list : List Named). LeadTo address chunks list (all_wanted b o t)) (sym is)
    (all_lead address chunks c.law_of_tables.ensures.tables c.law_of_sameness.ensures.tables c.as_slice.result.now c.as_slice-2.result.now c.as_slice-3.result.now b o t kb ko kt))
    c.all_chosen.ensures

pub returns-clause-few : goal.returns-clause-few
returns-clause-few g c =
    let address = g.D.Digester.address in
    let chunks = chunks_of c.args.draft.now.chunks in
    let kb = subst (λ (list : List TableEntry). length list ≤ 256) (sym c.as_slice.ensures.value)
    (kept_count address chunks c.in_ok-base.base.items c.requires.base.0 (c.in_ok-base.ensures c.requires.base.0 c.requires.base.1)) in
    let ko = subst (λ (list : List TableEntry). length list ≤ 256) (sym c.as_slice-2.ensures.value)
    (kept_count address chunks c.in_ok-ours.ours.items c.requires.ours.0 (c.in_ok-ours.ensures c.requires.ours.0 c.requires.ours.1)) in
    let kt = subst (λ (list : List TableEntry). length list ≤ 256) (sym c.as_slice-3.ensures.value)
    (kept_count address chunks c.in_ok-theirs.theirs.items c.requires.theirs.0 (c.in_ok-theirs.ensures c.requires.theirs.0 c.requires.theirs.1)) in
    IfOk-weaker c.all_chosen.result (λ names. names.items ≡ all_chosen c.as_slice.result.now c.as_slice-2.result.now c.as_slice-3.result.now) (λ names. length names.items ≤ 768)
    (λ names is. subst (λ (list : List Named). length list ≤ 768) (sym is) (chosen_few c.as_slice.result.now c.as_slice-2.result.now c.as_slice-3.result.now kb ko kt))
    c.all_chosen.ensures
