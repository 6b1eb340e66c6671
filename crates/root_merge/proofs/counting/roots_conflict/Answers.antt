use Rattle.std.proofs.Common.{◌∙◌, List, sym, subst}
use Rattle.chunk_store.specs.Drafts.{chunks_of}
use Rattle.root_merge.specs.Names.{LeadTo, all_wanted}
use Rattle.root_merge.specs.declared.names.Named.{Named}
use Rattle.root_merge.proofs.NameLemmas.{root_together}
use Rattle.root_merge.proofs.counting.roots_conflict.Goals as goal

pub any_conflicts-requires-after_bounds : goal.any_conflicts-requires-after_bounds
any_conflicts-requires-after_bounds g c κs within =
    let address = g.D.Digester.address in
    let chunks = chunks_of c.args.draft.now.chunks in
    let b = c.requires.0 in
    let o = c.requires.1 in
    let t = c.requires.2 in
    let lead = subst (λ (list : List Named). LeadTo address chunks list (all_wanted b o t)) (sym c.as_slice.ensures.value) (c.in_ok-names.ensures.lead b o t c.requires.4) in
    (all_wanted b o t, c.requires.3, lead, sym (root_together b o t) ∙ c.requires.5)

pub returns : goal.returns
returns g c = λ b o t merged roots is.
    let address = g.D.Digester.address in
    let chunks = chunks_of c.args.draft.now.chunks in
    let lead = subst (λ (list : List Named). LeadTo address chunks list (all_wanted b o t)) (sym c.as_slice.ensures.value) (c.in_ok-names.ensures.lead b o t roots) in
    c.any_conflicts.ensures (all_wanted b o t) merged lead (sym (root_together b o t) ∙ is)
