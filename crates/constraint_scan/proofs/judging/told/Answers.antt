use Rattle.std.proofs.Common.{◌≡◌, ◌∙◌, List, subst, sym}
use Rattle.std.specs.Prelude.{IfSome, Option}
use Rattle.std.proofs.lemmas.Result.{IfOk-weaker}
use Rattle.chunk_store.specs.Drafts.{chunks_of}
use Rattle.plain_writes.specs.CheckTexts.{checks}
use Rattle.plain_writes.specs.Violations.{first_violation}
use Rattle.constraint_scan.specs.Pairs.{ArePairs, told_by_pairs}
use Rattle.constraint_scan.specs.declared.pairing.Pair.{Pair}
use Rattle.constraint_scan.proofs.PairLemmas.{pairs_tell}
use Rattle.constraint_scan.proofs.judging.told.Goals as goal

pub told_by_pairs-requires-after_bounds : goal.told_by_pairs-requires-after_bounds
told_by_pairs-requires-after_bounds g c κs within =
    let address = g.D.Digester.address in
    let chunks = chunks_of c.args.draft.now.chunks in
    let before = c.requires.old.0 in
    let after = c.requires.new.0 in
    let are = subst (λ (o : Option (List Pair)). IfSome o (λ pairs. ArePairs address chunks pairs before after)) c.in-Some.is (c.in_ok-pairs.ensures before after c.requires.old.1 c.requires.new.1) in
    (before, after, subst (λ (l : List Pair). ArePairs address chunks l before after) (sym c.as_slice.ensures) are)

pub returns-in-Some : goal.returns-in-Some
returns-in-Some g c = λ before after old_at new_at.
    let address = g.D.Digester.address in
    let chunks = chunks_of c.args.draft.now.chunks in
    let found = subst (λ (o : Option (List Pair)). IfSome o (λ pairs. ArePairs address chunks pairs before after)) c.in-Some.is (c.in_ok-pairs.ensures before after old_at new_at) in
    let are = subst (λ (l : List Pair). ArePairs address chunks l before after) (sym c.as_slice.ensures) found in
    let was = old_at.stands in
    let is = new_at.stands in
    IfOk-weaker c.told_by_pairs.result (λ number. number ≡ told_by_pairs checks before after) (λ number. number ≡ first_violation checks before after)
    (λ number told. told ∙ sym (pairs_tell address chunks c.law_of_changes.ensures checks c.as_slice.result.now before after are was.is_database is.is_database))
    (c.told_by_pairs.ensures before after are)
