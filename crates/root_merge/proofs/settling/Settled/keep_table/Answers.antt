use Rattle.std.proofs.Common.{◌≡◌, List, ℕ, true, ap, sym, ◌∙◌}
use Rattle.smallvec.specs.SmallVec.{SmallVec}
use Rattle.chunk_store.specs.Drafts.{chunks_of}
use Rattle.root_merge.specs.Settling.{IsSettledTable, has}
use Rattle.root_merge.proofs.SettlingLemmas.{one_more}
use Rattle.root_merge.proofs.settling.Settled.keep_table.Goals as goal

pub returns-in_err-push : goal.returns-in_err-push
returns-in_err-push g c = record {
  tables = λ k is. c.requires.settled.tables k (ap (λ (s : SmallVec (List ℕ)). has s.items k) (sym c.in_err-push.ensures.err) ∙ is);
  databases = c.requires.settled.databases;
}

pub returns : goal.returns
returns g c =
    let seen = c.args.self.now.tables.items in
    let k = c.args.address.now.0 in
    record {
      tables = λ q is. one_more seen k (IsSettledTable g.D.Digester.address (chunks_of c.args.draft.now.chunks)) c.requires.table c.requires.settled.tables q (ap (λ (l : List (List ℕ)). has l q) (sym c.in_ok-push.ensures.ok) ∙ is);
      databases = c.requires.settled.databases;
    }
