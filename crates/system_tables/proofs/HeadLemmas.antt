-- The heads of branches are commits that stand, and have their rows.
use Rattle.std.proofs.Common.{◌≡◌, refl, ◌∙◌, ap, ℕ, true, List, [], ◌∷◌, map}
use Rattle.std.specs.List.{list_all}
use Rattle.std.proofs.lemmas.Bool.{and_from, and_parts}
use Rattle.chunk_store.specs.Chunks.{Chunks}
use Rattle.plain_sessions.specs.Sessions as plain
use Rattle.plain_sessions.specs.Sessions.{Transaction}
use Rattle.plain_sessions.specs.SystemTables.{branch_row}
use Rattle.schema_model.specs.PlainCommits.{Commits, is_known}
use Rattle.session_state.specs.Transactions.{head_seen}
use Rattle.table_root.specs.declared.heads.BranchHead.{BranchHead}
use Rattle.tuple_codec.specs.Rows.{Cells}
use Rattle.system_tables.specs.Rows.{AreHeadsOf, AreKnown, branch_rows, heads_of}

all_known : (commits : Commits) (heads : List BranchHead) → list_all (λ (head : plain.Head). is_known commits head.commit) (map head_seen heads) ≡ true → list_all (is_known commits) (heads_of heads) ≡ true
all_known commits [] h = refl
all_known commits (head ∷ heads) h =
    let both = and_parts (is_known commits head.head.0) (list_all (λ (other : plain.Head). is_known commits other.commit) (map head_seen heads)) h in
    and_from _ _ both.0 (all_known commits heads both.1)

pub heads_known : (address : List ℕ → List ℕ) (chunks : Chunks) (heads : List BranchHead) (t : Transaction) → AreHeadsOf address chunks heads t → AreKnown address chunks t.commits (heads_of heads)
heads_known address chunks heads t of = record {
  stand = of.stand;
  known = all_known t.commits heads (ap (list_all (λ (head : plain.Head). is_known t.commits head.commit)) of.are ∙ of.known);
}

rows_seen : (commits : Commits) (heads : List BranchHead) → branch_rows commits heads ≡ map (branch_row commits) (map head_seen heads)
rows_seen commits [] = refl
rows_seen commits (head ∷ heads) = ap (λ (l : List Cells). branch_row commits (head_seen head) ∷ l) (rows_seen commits heads)

pub branches_shown : (address : List ℕ → List ℕ) (chunks : Chunks) (heads : List BranchHead) (t : Transaction) → AreHeadsOf address chunks heads t → (rows : List Cells) → rows ≡ branch_rows t.commits heads
    → rows ≡ map (branch_row t.commits) t.heads
branches_shown address chunks heads t of rows is = is ∙ rows_seen t.commits heads ∙ ap (map (branch_row t.commits)) of.are
