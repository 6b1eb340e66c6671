use Rattle.std.proofs.Common.{◌≡◌, refl, sym, ◌∙◌, ap, subst, ℕ, List, [], ◌∷◌, map, Ok, Err, Result}
use Rattle.std.specs.Prelude.{OnErr}
use Rattle.std.specs.List.{list_all}
use Rattle.schema_model.specs.PlainCommits.{is_known, parents_of}
use Rattle.chunk_store.specs.Drafts.{chunks_of}
use Rattle.tuple_codec.specs.declared.addresses.Address.{Address}
use Rattle.commit_graph.specs.Walks.{AreRanks, KeepsLeft, Waits, WaitsForSome}
use Rattle.commit_graph.specs.declared.walks.Rank.{Rank}
use Rattle.commit_graph.proofs.FoundLemmas.{few_parents, found_parents, has_commit, parents_known}
use Rattle.commit_graph.proofs.WalkLemmas.{ends, first_known, first_of, gone, left_kept, steps}
use Rattle.commit_graph.proofs.walks.AncestorWalk.next.Goals as goal

pub read_commit-requires-after_bounds : goal.read_commit-requires-after_bounds
read_commit-requires-after_bounds g c κs within =
    let all = first_of c.args.self.now c.in-Some.rank c.in-Some.ensures in
    has_commit g.D.Digester.address (chunks_of c.args.draft.now.chunks) c.requires.0 c.requires.1 c.in-Some.rank.address
    (first_known c.requires.0 c.in-Some.rank all.0 (subst (AreRanks c.requires.0) all.1 c.requires.2))

pub put_all-requires-after_bounds : goal.put_all-requires-after_bounds
put_all-requires-after_bounds g c κs within =
    let commits = c.requires.0 in
    let all = first_of c.args.self.now c.in-Some.rank c.in-Some.ensures in
    let known = first_known commits c.in-Some.rank all.0 (subst (AreRanks commits) all.1 c.requires.2) in
    let parents : map (λ (k : Address). k.0) c.as_slice.result.now ≡ parents_of commits c.in-Some.rank.address =
    ap (map (λ (k : Address). k.0)) c.as_slice.ensures
    ∙ found_parents g.D.Digester.address (chunks_of c.args.draft.now.chunks) commits c.requires.1 c.in-Some.rank.address known _ c.in_ok-commit.ensures in
    (commits, c.requires.1, ap (list_all (is_known commits)) parents ∙ parents_known commits c.requires.1.grown c.in-Some.rank.address)

on_err : {T E : Type 0} (r : Result T E) (P : Type 0) → P → OnErr r P
on_err (Ok x) P p = tt
on_err (Err e) P p = p

pub returns-in_err-put_all-clause-err : goal.returns-in_err-put_all-clause-err
returns-in_err-put_all-clause-err g c = λ commits stand ranks.
    let all = first_of c.args.self.now c.in-Some.rank c.in-Some.ensures in
    let known = first_known commits c.in-Some.rank all.0 (subst (AreRanks commits) all.1 ranks) in
    let parents : map (λ (k : Address). k.0) c.as_slice.result.now ≡ parents_of commits c.in-Some.rank.address =
    ap (map (λ (k : Address). k.0)) c.as_slice.ensures
    ∙ found_parents g.D.Digester.address (chunks_of c.args.draft.now.chunks) commits stand c.in-Some.rank.address known _ c.in_ok-commit.ensures in
    let some = c.in_err-put_all.ensures.err commits stand ranks (ap (list_all (is_known commits)) parents ∙ parents_known commits stand.grown c.in-Some.rank.address) in
    let kept = left_kept c.law_of_ancestors.ensures commits stand.grown c.in-Some.rank all.0 c.put_all.new.self
    (subst (λ (old : List Rank). WaitsForSome commits (parents_of commits c.in-Some.rank.address) old c.put_all.new.self) all.1
    (subst (λ (ks : List (List ℕ)). WaitsForSome commits ks c.args.self.now c.put_all.new.self) parents some)) in
    on_err _ _ (subst (λ (old : List Rank). KeepsLeft commits old c.put_all.new.self) (sym all.1) kept)

pub returns-clause-ok : goal.returns-clause-ok
returns-clause-ok g c = λ commits stand ranks.
    let all = first_of c.args.self.now c.in-Some.rank c.in-Some.ensures in
    let first = subst (AreRanks commits) all.1 ranks in
    let known = first_known commits c.in-Some.rank all.0 first in
    let parents : map (λ (k : Address). k.0) c.as_slice.result.now ≡ parents_of commits c.in-Some.rank.address =
    ap (map (λ (k : Address). k.0)) c.as_slice.ensures
    ∙ found_parents g.D.Digester.address (chunks_of c.args.draft.now.chunks) commits stand c.in-Some.rank.address known _ c.in_ok-commit.ensures in
    let waits = c.in_ok-put_all.ensures.ok commits stand ranks (ap (list_all (is_known commits)) parents ∙ parents_known commits stand.grown c.in-Some.rank.address) in
    let walk = c.self.inside.waiting.keys in
    let there = subst (λ (old : List Rank). Waits commits (parents_of commits c.in-Some.rank.address) old c.put_all.new.self) all.1
    (subst (λ (ks : List (List ℕ)). Waits commits ks c.args.self.now c.put_all.new.self) parents waits) in
    let whole = subst (Waits commits (parents_of commits c.in-Some.rank.address) (c.in-Some.rank ∷ all.0)) (sym c.self.view_is) there in
    steps c.law_of_ancestors.ensures commits stand.grown c.args.self.now c.pop_first.new.self.keys all.0 c.in-Some.rank (record { 0 = c.in-Some.rank.address }) all.1 refl ranks
    (few_parents g.D.Digester.address (chunks_of c.args.draft.now.chunks) commits stand c.in-Some.rank.address known)
    (gone commits stand.grown c.in-Some.rank all.0 walk c.pop_first.new.self.keys c.pop_first.result first whole c.pop_first.ensures.removal c.pop_first.ensures.variant)

pub returns-in_default-clause-ok : goal.returns-in_default-clause-ok
returns-in_default-clause-ok g c = λ commits stand ranks. ends commits c.args.self.now ranks c.in_default.ensures
