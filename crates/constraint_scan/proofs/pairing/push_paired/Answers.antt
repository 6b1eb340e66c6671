use Rattle.std.proofs.Common.{◌≡◌, ◌++◌, ◌∷◌, [], List, subst, sym}
use Rattle.std.specs.Prelude.{IfSome, Option}
use Rattle.chunk_store.specs.Drafts.{chunks_of}
use Rattle.constraint_scan.specs.Pairs.{ArePairs, IsPair}
use Rattle.constraint_scan.specs.declared.pairing.Pair.{Pair}
use Rattle.constraint_scan.proofs.PairLemmas.{pairs_joined}
use Rattle.constraint_scan.proofs.pairing.push_paired.Goals as goal

pub returns-in_ok-push-in-Some : goal.returns-in_ok-push-in-Some
returns-in_ok-push-in-Some g c = λ done made before after are old_is new_is same.
    let is = subst (λ (o : Option Pair). IfSome o (λ pair. IsPair g.D.Digester.address (chunks_of c.args.draft.now.chunks) pair before after)) c.in-Some.is (c.in_ok-pair.ensures before after old_is new_is) in
    subst (λ (l : List Pair). ArePairs g.D.Digester.address (chunks_of c.args.draft.now.chunks) l (done ++ before ∷ []) (made ++ after ∷ [])) (sym c.in_ok-push-in-Some.ensures.ok)
    (pairs_joined g.D.Digester.address (chunks_of c.args.draft.now.chunks) c.args.pairs.now (c.in-Some.pair ∷ []) done made (before ∷ []) (after ∷ []) are (is, tt))
