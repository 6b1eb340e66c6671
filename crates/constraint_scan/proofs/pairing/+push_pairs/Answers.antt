use Rattle.std.proofs.Common.{◌≡◌, ◌++◌, ◌∷◌, [], ◌∙◌, IfOk, ap, append_assoc, length, subst, sym, true}
use Rattle.std.proofs.lemmas.Bool.{eqb-true}
use Rattle.schema_model.specs.PlainTables.{PlainDatabase}
use Rattle.chunk_store.specs.Drafts.{chunks_of}
use Rattle.constraint_scan.specs.Pairs.{ArePairs}
use Rattle.constraint_scan.proofs.PairLemmas.{no_tables, none_below, none_joined}
use Rattle.violation_lists.proofs.StandLemmas.{parts_of}
use Rattle.constraint_scan.proofs.pairing.+push_pairs.Goals as goal

pub push_paired-requires-clause-old : goal.push_paired-requires-clause-old
push_paired-requires-clause-old g t c κs within =
    let parts = parts_of g.D.Digester.address (chunks_of c.args.draft.now.chunks) c.requires.olds.0 c.args.olds.now c.old-item.result c.requires.olds.1 c.old-item.is c.in-len1-up.len_at_least in
    (parts.named.table, parts.at)

pub push_paired-requires-clause-new : goal.push_paired-requires-clause-new
push_paired-requires-clause-new g t c κs within =
    let parts = parts_of g.D.Digester.address (chunks_of c.args.draft.now.chunks) c.requires.news.0 c.args.news.now c.new-item.result c.requires.news.1 c.new-item.is c.in-len1-up-news.len_at_least in
    (parts.named.table, parts.at)

pub push_pairs-requires-clause-olds : goal.push_pairs-requires-clause-olds
push_pairs-requires-clause-olds g t c κs within =
    let parts = parts_of g.D.Digester.address (chunks_of c.args.draft.now.chunks) c.requires.olds.0 c.args.olds.now c.old-item.result c.requires.olds.1 c.old-item.is c.in-len1-up.len_at_least in
    (parts.others, parts.there)

pub push_pairs-requires-clause-news : goal.push_pairs-requires-clause-news
push_pairs-requires-clause-news g t c κs within =
    let parts = parts_of g.D.Digester.address (chunks_of c.args.draft.now.chunks) c.requires.news.0 c.args.news.now c.new-item.result c.requires.news.1 c.new-item.is c.in-len1-up-news.len_at_least in
    (parts.others, parts.there)

pub returns-in-empty : goal.returns-in-empty
returns-in-empty g t c = λ done made before after are olds news empty.
    none_joined g.D.Digester.address (chunks_of c.args.draft.now.chunks) c.args.pairs.now done made before after are
    (no_tables g.D.Digester.address (chunks_of c.args.draft.now.chunks) before c.args.olds.now olds (none_below c.args.olds.now c.in-empty.len_below))
    (no_tables g.D.Digester.address (chunks_of c.args.draft.now.chunks) after c.args.news.now news (eqb-true (length c.args.news.now) 0 (sym c.is_empty.ensures ∙ empty)))

pub returns-then-branch : goal.returns-then-branch
returns-then-branch g t c = λ done made before after are olds news.
    let old = parts_of g.D.Digester.address (chunks_of c.args.draft.now.chunks) before c.args.olds.now c.old-item.result olds c.old-item.is c.in-len1-up.len_at_least in
    let new = parts_of g.D.Digester.address (chunks_of c.args.draft.now.chunks) after c.args.news.now c.new-item.result news c.new-item.is c.in-len1-up-news.len_at_least in
    let first = c.in_ok-push_paired-in-len1-up-news.ensures done made old.named new.named are (record { name = old.name; at = old.at }) (record { name = new.name; at = new.at }) c.if-branch.true in
    let both = c.push_pairs.ensures (done ++ old.named ∷ []) (made ++ new.named ∷ []) old.others new.others first old.there new.there in
    let left = append_assoc done (old.named ∷ []) old.others ∙ sym (ap (λ (l : PlainDatabase). done ++ l) old.both) in
    let right = append_assoc made (new.named ∷ []) new.others ∙ sym (ap (λ (l : PlainDatabase). made ++ l) new.both) in
    subst (λ (d : PlainDatabase). IfOk c.push_pairs.result (λ same. same ≡ true → ArePairs g.D.Digester.address (chunks_of c.args.draft.now.chunks) c.push_pairs.new.pairs d (made ++ after))) left
    (subst (λ (d : PlainDatabase). IfOk c.push_pairs.result (λ same. same ≡ true → ArePairs g.D.Digester.address (chunks_of c.args.draft.now.chunks) c.push_pairs.new.pairs ((done ++ old.named ∷ []) ++ old.others) d)) right both)
