use Rattle.std.proofs.Common.{◌≡◌, rules, subst}
use Rattle.tuple_codec.specs.declared.addresses.Address.{Address}
use Rattle.chunk_store.specs.Drafts.{chunks_of}
use Rattle.chunk_store.specs.Standing.{IsTree}
use Rattle.root_merge.proofs.settling.has_rows_too.Goals as goal

pub returns-then-eq : goal.returns-then-eq
returns-then-eq g c = λ rows tree.
    let equal : c.args.root.now ≡ c.args.other.now = search rules in
    c.requires.known rows (subst (λ (k : Address). IsTree g.D.Digester.address (chunks_of c.args.draft.now.chunks) k.0 rows) equal tree)
