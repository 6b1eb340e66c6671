use Rattle.std.proofs.Common.{◌≡◌, List, ℕ, true, ap, sym, ◌∙◌}
use Rattle.smallvec.specs.SmallVec.{SmallVec}
use Rattle.chunk_store.specs.Drafts.{chunks_of}
use Rattle.root_merge.specs.Settling.{IsSettledDatabase, has}
use Rattle.root_merge.proofs.SettlingLemmas.{one_more}
use Rattle.root_merge.proofs.settling.Settled.keep_database.Goals as goal

pub returns-in_err-push : goal.returns-in_err-push
returns-in_err-push g c = record {
  tables = c.requires.settled.tables;
  databases = λ k is. c.requires.settled.databases k (ap (λ (s : SmallVec (List ℕ)). has s.items k) (sym c.in_err-push.ensures.err) ∙ is);
}

pub returns : goal.returns
returns g c =
    let seen = c.args.self.now.databases.items in
    let k = c.args.address.now.0 in
    record {
      tables = c.requires.settled.tables;
      databases = λ q is. one_more seen k (IsSettledDatabase g.D.Digester.address (chunks_of c.args.draft.now.chunks)) c.requires.database c.requires.settled.databases q (ap (λ (l : List (List ℕ)). has l q) (sym c.in_ok-push.ensures.ok) ∙ is);
    }
