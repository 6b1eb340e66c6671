use Rattle.std.proofs.Common.{◌∙◌, [], List, subst, sym}
use Rattle.chunk_store.specs.Drafts.{chunks_of}
use Rattle.table_root.specs.Standing.{AreThere, named_tables}
use Rattle.constraint_scan.specs.Pairs.{ArePairs}
use Rattle.constraint_scan.specs.declared.pairing.Pair.{Pair}
use Rattle.constraint_scan.proofs.pairing.read_pairs.Goals as goal

pub read_database-requires-2-after_bounds : goal.read_database-requires-2-after_bounds
read_database-requires-2-after_bounds g c κs within =
    let address = g.D.Digester.address in
    let at = c.requires.new.1 in
    (named_tables address c.requires.new.0, c.law_of_databases.ensures.found address (chunks_of c.args.draft.now.chunks) c.args.new.now.0 c.requires.new.0 at.stands at.few)

pub returns-then-branch : goal.returns-then-branch
returns-then-branch g c = λ before after old_at new_at.
    let address = g.D.Digester.address in
    let chunks = chunks_of c.args.draft.now.chunks in
    let olds : AreThere address chunks before c.as_slice.result.now = record {
      stand = old_at.stands.tables;
      listed = c.as_slice.ensures.value ∙ c.law_of_databases.ensures.same address chunks c.args.old.now.0 before c.in_ok-olds.olds.items old_at.stands old_at.few c.in_ok-olds.ensures;
    } in
    let news : AreThere address chunks after c.as_slice-2.result.now = record {
      stand = new_at.stands.tables;
      listed = c.as_slice-2.ensures.value ∙ c.law_of_databases.ensures.same address chunks c.args.new.now.0 after c.in_ok-news.news.items new_at.stands new_at.few c.in_ok-news.ensures;
    } in
    c.in_ok-push_pairs.ensures [] [] before after (subst (λ (l : List Pair). ArePairs address chunks l [] []) (sym c.new-pairs.ensures) tt) olds news c.if-branch.true
