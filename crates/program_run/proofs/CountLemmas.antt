-- The rows of the workload's table, from the address of a database to the shared state.
use Rattle.std.proofs.Common.{◌≡◌, ◌≢◌, refl, sym, ap, ◌∙◌, subst, ℕ, suc, Bool, true, false, cond, List, [], ◌∷◌, length, map, find, Option, None, Some, option_map, is_some, if◌then◌else◌, arith, ◌<◌}
use Rattle.std.specs.Prelude.{bytes_eq, codes}
use Rattle.std.specs.Option.{option_map_or}
use Rattle.std.proofs.lemmas.List.{append-nil, length-map}
use Rattle.std.proofs.lemmas.Option.{same_Some}
use Rattle.schema_model.specs.PlainCommits.{Commits}
use Rattle.schema_model.specs.PlainTables.{NamedTable, PlainDatabase, PlainTable, row_item, row_items}
use Rattle.schema_model.proofs.SizeLemmas.{few_tables}
use Rattle.chunk_store.specs.Chunks.{Chunk, Chunks, chunk_bytes}
use Rattle.chunk_store.specs.Drafts.{DraftParts, chunks_of}
use Rattle.chunk_store.specs.Standing.{IsTree}
use Rattle.chunk_store.specs.Stores.{all_chunks}
use Rattle.script_text.specs.declared.outputs.BranchLine.{BranchLine}
use Rattle.table_root.specs.Databases.{HasDatabase, IsDatabaseFound}
use Rattle.table_root.specs.Standing.{AreThere, DatabasesStand, IsTableAt, TablesStand, named_tables}
use Rattle.table_root.specs.Tables.{IsTableFound}
use Rattle.table_root.specs.declared.heads.Look.{Look}
use Rattle.table_root.specs.declared.records.StoredTable.{StoredTable}
use Rattle.table_root.specs.declared.records.TableEntry as entries
use Rattle.table_root.specs.Kept.{HasKeptAt, IsKeptAt}
use Rattle.plain_sessions.specs.Records.{Branch, BranchState, Shared, is_branch, state_of}
use Rattle.session_state.specs.Changes.{BranchStands, Paired, Parts, StateStands}
use Rattle.session_state.specs.Laws.{StatesFollow, head_in}
use Rattle.session_state.specs.Transactions.{IsLookOf}
use Rattle.shared_db.specs.Shared.{is_line_of, record_at}
use Rattle.program_run.specs.Loading.{is_load_table, is_main, load_rows_in, rows_in}

abbrev main : List ℕ
main = codes "main"

-- ---- a table

module _ (address : List ℕ → List ℕ) (chunks : Chunks) (k : List ℕ) (stand : TablesStand) (contents : PlainTable) (at : IsTableAt address chunks k contents) (read : StoredTable) (found : IsTableFound chunks k read) where
  pub rows_tree : IsTree address chunks read.rows.0 (row_items contents)
  rows_tree = subst (λ (t : StoredTable). IsTree address chunks t.rows.0 (row_items contents)) (sym (stand.same address chunks k contents read at found)) (let trees = at.trees in trees.rows)

pub rows_counted : (contents : PlainTable) (n : ℕ) → n ≡ length (row_items contents) → n ≡ length contents.rows
rows_counted contents n is = is ∙ length-map contents.rows (row_item contents.schema)

-- ---- tables

abbrev rows_found : Option NamedTable → ℕ
rows_found found = option_map_or (λ (named : NamedTable). length named.table.rows) found 0

module _ (name : List ℕ) (named : NamedTable) (others database : PlainDatabase) (n : ℕ) (both : database ≡ named ∷ others) (same : name ≡ named.name) where
  tested : (test : Bool) → bytes_eq name (codes "load_rows") ≡ test → load_rows_in database ≡ rows_found (if test then Some named else find is_load_table others)
  tested test is =
      ap (λ (d : PlainDatabase). load_rows_in d) both
      ∙ ap (λ (b : Bool). rows_found (if b then Some named else find is_load_table others)) (sym (ap (λ (t : List ℕ). bytes_eq t (codes "load_rows")) same) ∙ is)

  pub here : bytes_eq name (codes "load_rows") ≡ true → n ≡ length named.table.rows → n ≡ load_rows_in database
  here test is = is ∙ sym (tested true test)

  pub further : bytes_eq name (codes "load_rows") ≡ false → n ≡ load_rows_in others → n ≡ load_rows_in database
  further test is = is ∙ sym (tested false test)

none_there : (address : List ℕ → List ℕ) (chunks : Chunks) (database : PlainDatabase) (tables : List entries.TableEntry) → AreThere address chunks database tables → length tables < 1 → database ≡ []
none_there address chunks [] tables there none = refl
none_there address chunks (named ∷ others) tables there none = absurd (too_many (length tables) (length (named_tables address others)) none (ap length there.listed)) where
  too_many : (n m : ℕ) → n < 1 → n ≡ suc m → ⊥
  too_many n m none many = omega arith

pub no_rows : (address : List ℕ → List ℕ) (chunks : Chunks) (database : PlainDatabase) (tables : List entries.TableEntry) → AreThere address chunks database tables → length tables < 1 → 0 ≡ load_rows_in database
no_rows address chunks database tables there none = sym (ap (λ (d : PlainDatabase). load_rows_in d) (none_there address chunks database tables there none))

-- ---- a database

module _ (address : List ℕ → List ℕ) (chunks : Chunks) (k : List ℕ) (stand : DatabasesStand) (contents : PlainDatabase) (kept : IsKeptAt address chunks k contents) where
  pub database_there : HasDatabase chunks k
  database_there = (named_tables address contents, stand.found address chunks k contents kept.stands (few_tables contents kept.within))

  pub tables_there : (tables : List entries.TableEntry) → IsDatabaseFound chunks k tables → AreThere address chunks contents tables
  tables_there tables found = record {
    stand = let stands = kept.stands in stands.tables;
    listed = stand.same address chunks k contents tables kept.stands (few_tables contents kept.within) found;
  }

-- a draft that has nothing of its own has its store's chunks
pub kept_in_draft : (address : List ℕ → List ℕ) (draft : DraftParts) (chunks : List Chunk) (k : List ℕ) (contents : PlainDatabase) → draft ≡ record { base = chunks; own = [] }
    → IsKeptAt address (chunk_bytes chunks) k contents → IsKeptAt address (chunks_of draft) k contents
kept_in_draft address draft chunks k contents is kept =
    subst (λ (found : Chunks). IsKeptAt address found k contents) (sym (ap chunks_of is ∙ ap chunk_bytes (append-nil chunks))) kept

-- ---- the shared state

module _ (address : List ℕ → List ℕ) (chunks : List Chunk) (commits : Commits) where
  no_state : (lines : List BranchLine) (branches : List Branch) → Paired (BranchStands address chunks commits) lines branches → find is_main lines ≡ None → state_of branches main ≡ None
  no_state [] [] stand none = refl
  no_state [] (b ∷ branches) stand none = absurd stand
  no_state (x ∷ lines) [] stand none = absurd stand
  no_state (x ∷ lines) (b ∷ branches) stand none =
      subst (λ (name : List ℕ). option_map (λ (c : Branch). c.state) (cond (bytes_eq name main) (Some b) (find (is_branch main) branches)) ≡ None) stand.0.name
      (by (bytes_eq x.name main) none (no_state lines branches stand.1))
    where
      by : (test : Bool) → cond test (Some x) (find is_main lines) ≡ None → (find is_main lines ≡ None → state_of branches main ≡ None)
          → option_map (λ (c : Branch). c.state) (cond test (Some b) (find (is_branch main) branches)) ≡ None
      by true none rest = absurd (cc)
      by false none rest = rest none

module _ (address : List ℕ → List ℕ) (parts : Parts) (shared : Shared) (stands : StateStands address parts shared) where
  pub none_in : find is_main parts.branches ≡ None → 0 ≡ rows_in shared
  none_in none =
      sym (ap (λ (state : Option BranchState). option_map_or (λ (s : BranchState). load_rows_in s.working) state 0) (no_state address parts.chunks shared.commits parts.branches shared.branches stands.branches none))

  module _ (follow : StatesFollow) (look : Look) (name : look.branch ≡ main) (there : record_at main parts.branches ≡ Some look.rec) (heads : look.heads ≡ map head_in parts.branches)
      (chunks : all_chunks look.store ≡ parts.chunks) where
    looks_at : IsLookOf address look shared
    looks_at = by (find (is_line_of look.branch) parts.branches) refl (ap (λ (n : List ℕ). record_at n parts.branches) name ∙ there) where
      by : (line : Option BranchLine) → find (is_line_of look.branch) parts.branches ≡ line → option_map (λ (l : BranchLine). l.rec) line ≡ Some look.rec → IsLookOf address look shared
      by None found is = absurd (cc)
      by (Some line) found is = follow.looked address parts shared look line stands found (sym (same_Some _ _ is)) heads chunks

    pub kept_seen : HasKeptAt address (chunk_bytes (all_chunks look.store)) look.rec.working.0
    kept_seen = let looks = looks_at in let state = looks.state in let record_stands = looks.stands in (state.working, record_stands.working)

    pub rows_are : (n : ℕ) → n ≡ load_rows_in kept_seen.0 → n ≡ rows_in shared
    unfolding kept_seen looks_at
    rows_are n is =
        let looks = looks_at in
        let found : state_of shared.branches main ≡ Some looks.state = ap (state_of shared.branches) (sym name) ∙ looks.there in
        is ∙ sym (ap (λ (state : Option BranchState). option_map_or (λ (s : BranchState). load_rows_in s.working) state 0) found)

-- ---- the line of the branch

pub some_same : {A B : Type 0} (f : A → B) (found : Option A) → is_some (option_map f found) ≡ is_some found
some_same f None = refl
some_same f (Some x) = refl

pub record_there : (lines : List BranchLine) (name : List ℕ) → name ≡ main → is_some (find is_main lines) ≡ true → record_at name lines ≢ None
record_there lines name is found none = by (find is_main lines) found (sym (ap (λ (n : List ℕ). record_at n lines) is) ∙ none) where
  by : (line : Option BranchLine) → is_some line ≡ true → option_map (λ (l : BranchLine). l.rec) line ≡ None → ⊥
  by None found none = absurd (cc)
  by (Some line) found none = absurd (cc)
