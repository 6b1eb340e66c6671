use Rattle.std.proofs.Common.{◌≡◌, sym, ◌∙◌, ap, subst, List, ◌∷◌, []}
use Rattle.std.specs.BTreeSet.{insert_key}
use Rattle.std.proofs.lemmas.Bool.{and_from, eq-eqb}
use Rattle.chunk_store.specs.Drafts.{chunks_of}
use Rattle.commit_graph.specs.Walks.{Waits}
use Rattle.commit_graph.specs.declared.walks.Rank.{Rank}
use Rattle.commit_graph.proofs.FoundLemmas.{found_height, has_commit}
use Rattle.commit_graph.proofs.WalkLemmas.{rank_cmp, waits_one}
use Rattle.commit_graph.proofs.walks.AncestorWalk.put.Goals as goal

pub height-requires-after_bounds : goal.height-requires-after_bounds
height-requires-after_bounds g c κs within = has_commit g.D.Digester.address (chunks_of c.args.draft.now.chunks) c.requires.0 c.requires.1 c.args.address.now.0 c.requires.2

pub returns-clause-ok : goal.returns-clause-ok
returns-clause-ok g c = λ commits stand ranks known.
    let r : Rank = record { height = record { 0 = c.height.result }; address = c.args.address.now.0 } in
    let e : c.insert.new.self.keys ≡ insert_key rank_cmp c.args.self.now r = c.in_ok-insert.ensures.keys ∙ ap (λ (ks : List Rank). insert_key rank_cmp ks r) c.self.view_is in
    let high = found_height g.D.Digester.address (chunks_of c.args.draft.now.chunks) commits stand c.args.address.now.0 known c.height.result c.height.ensures in
    subst (λ (ks : List Rank). Waits commits (c.args.address.now.0 ∷ []) c.args.self.now ks) (sym e)
    (waits_one commits r c.args.self.now (and_from _ _ known (eq-eqb _ _ high)) ranks)
