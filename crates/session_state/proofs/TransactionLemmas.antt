-- Transactions that stand in a draft.
use Rattle.std.proofs.Common.{◌≡◌, ◌∙◌, sym, ap, subst, ℕ, List, [], map, append-nil}
use Rattle.std.proofs.lemmas.List.Folds.{list_all-map}
use Rattle.tuple_codec.specs.declared.records.BranchRecord.{BranchRecord}
use Rattle.schema_model.specs.PlainCommits.{is_known}
use Rattle.chunk_store.specs.Chunks.{Chunk, Chunks, chunk_bytes}
use Rattle.chunk_store.specs.Drafts.{DraftParts, Longer, chunks_of}
use Rattle.chunk_store.specs.Laws.{DraftsFollow}
use Rattle.chunk_store.specs.Stores.{all_chunks}
use Rattle.commit_graph.specs.Standing as graph
use Rattle.table_root.specs.Standing.{DatabasesStand}
use Rattle.table_root.specs.declared.heads.Look.{Look}
use Rattle.plain_sessions.specs.Records.{BranchState, Shared}
use Rattle.plain_sessions.specs.Sessions.{Head, Transaction, head_of, started_at}
use Rattle.session_state.specs.Commits.{CommitsAreThere}
use Rattle.session_state.specs.Laws.{TransactionsFollow}
use Rattle.session_state.specs.Records.{RecordStands}
use Rattle.session_state.specs.Transactions.{IsLookOf, TransactionStands, head_seen}
use Rattle.session_state.proofs.CommitLemmas.{same_commits}
use Rattle.session_state.proofs.RecordLemmas.{one_state, record_later}

module _ (databases : DatabasesStand) (drafts : DraftsFollow) (laws : graph.CommitsFollow) (address : List ℕ → List ℕ) where
  at_start : (look kept : Look) (shared : Shared) (look_is : IsLookOf address look shared) → kept.rec ≡ look.rec → kept.heads ≡ look.heads
      → TransactionStands address (record { base = all_chunks look.store; own = [] }) kept look.rec (started_at shared look_is.state)
  at_start look kept shared look_is same_rec same_heads =
      let alone : chunk_bytes (all_chunks look.store) ≡ chunks_of (record { base = all_chunks look.store; own = [] }) = ap chunk_bytes (sym (append-nil (all_chunks look.store))) in
      let stands = subst (λ (chunks : Chunks). RecordStands address chunks shared.commits look.rec look_is.state) alone look_is.stands in
      record {
        start = subst (λ (rec : BranchRecord). RecordStands address (chunks_of (record { base = all_chunks look.store; own = [] })) shared.commits rec look_is.state) (sym same_rec) stands;
        own_stands = stands;
        heads = ap (map head_seen) same_heads ∙ look_is.heads;
        heads_known = list_all-map (λ (head : Head). is_known shared.commits head.commit) head_of shared.branches ∙ look_is.heads_known;
        commits = look_is.commits;
      }

  in_longer : (old new : DraftParts) (look : Look) (own rec : BranchRecord) (t : Transaction) (state : BranchState) → Longer old new
      → TransactionStands address old look own t → RecordStands address (chunks_of new) t.commits rec state
      → TransactionStands address new look rec (record t { own = state })
  in_longer old new look own rec t state longer stands is = record {
    start = record_later databases address (chunks_of old) (chunks_of new) t.commits t.commits look.rec t.start (drafts.longer_extends old new longer) (λ k known. known) stands.start;
    own_stands = is;
    heads = stands.heads;
    heads_known = stands.heads_known;
    commits = subst (λ (base : List Chunk). CommitsAreThere address (chunk_bytes base) t.commits) (sym longer.base) stands.commits;
  }

  one_transaction : (draft : DraftParts) (look : Look) (own : BranchRecord) (t other : Transaction)
      → TransactionStands address draft look own t → TransactionStands address draft look own other → t ≡ other
  one_transaction draft look own t other a b =
      let commits : t.commits ≡ other.commits = λ i k. same_commits laws address (chunk_bytes draft.base) t.commits other.commits a.commits b.commits k i in
      ap (λ x. record { start = x; heads = t.heads; commits = t.commits; own = t.own })
      (one_state databases address (chunks_of draft) t.commits other.commits look.rec t.start other.start a.start b.start)
      ∙ ap (λ x. record { start = other.start; heads = x; commits = t.commits; own = t.own }) (sym a.heads ∙ b.heads)
      ∙ ap (λ x. record { start = other.start; heads = other.heads; commits = x; own = t.own }) commits
      ∙ ap (λ x. record { start = other.start; heads = other.heads; commits = other.commits; own = x })
      (one_state databases address (chunks_of draft) t.commits other.commits own t.own other.own a.own_stands b.own_stands)

pub transactions_follow : DatabasesStand → DraftsFollow → graph.CommitsFollow → TransactionsFollow
transactions_follow databases drafts laws = record {
  started = at_start databases drafts laws;
  grown = in_longer databases drafts laws;
  one = one_transaction databases drafts laws;
}
