-- Addresses that were seen to have recorded nothing: what they stand for, later, and with one more; and what some tables have recorded.
use Rattle.std.proofs.Common.{◌≡◌, refl, sym, ap, ◌∙◌, subst, ℕ, true, false, Bool, ◌||◌, List, [], ◌∷◌, ◌++◌, bytes_eq, drop, slice_index_or, Option, Some, None, is_some, true≢false}
use Rattle.tuple_codec.proofs.ByteLemmas.{same_bytes}
use Rattle.tuple_codec.specs.declared.addresses.Address.{Address}
use Rattle.schema_model.specs.PlainTables as plain
use Rattle.schema_model.specs.PlainTables.{PlainDatabase, PlainTable}
use Rattle.chunk_store.specs.Chunks.{Chunks, Extends}
use Rattle.schema_model.specs.WrittenForms.{table_address}
use Rattle.schema_model.proofs.SizeLemmas.{few_tables}
use Rattle.table_root.specs.Databases.{AreListed, IsDatabaseFound, IsFirstListed}
use Rattle.table_root.specs.Kept.{IsKeptAt}
use Rattle.table_root.specs.Standing.{DatabasesStand, IsDatabaseAt, IsTableAt, TablesStand, named_tables}
use Rattle.table_root.specs.declared.records.TableEntry.{TableEntry}
use Rattle.plain_sessions.specs.CommitRule.{is_in_conflict, is_in_violation, is_unsettled}
use Rattle.plain_sessions.specs.Records.{BranchState}
use Rattle.root_merge.specs.States.{bytes_of}
use Rattle.root_merge.specs.Settling.{AreListedThere, AreSettledRoots, IsSettledDatabase, IsSettledTable, either, has, is_any, nothing_left, database_left, state_left, table_left}
use Rattle.root_merge.specs.declared.settling.Left.{Left}
use Rattle.root_merge.specs.declared.settling.Settled.{Settled}

-- ---- what they stand for

pub table_seen : (address : List ℕ → List ℕ) (chunks : Chunks) → TablesStand → (settled : Settled) → AreSettledRoots address chunks settled → (k : List ℕ) → has settled.tables.items k ≡ true
    → (contents : PlainTable) → IsTableAt address chunks k contents → nothing_left ≡ table_left contents
table_seen address chunks laws settled seen k is contents at =
    let one = seen.tables k is in
    sym one.bare ∙ ap table_left (laws.one address chunks k one.contents contents one.at at)

pub database_seen : (address : List ℕ → List ℕ) (chunks : Chunks) → DatabasesStand → (settled : Settled) → AreSettledRoots address chunks settled → (k : List ℕ) → has settled.databases.items k ≡ true
    → (contents : PlainDatabase) → IsDatabaseAt address chunks k contents → nothing_left ≡ database_left contents
database_seen address chunks laws settled seen k is contents at =
    let one = seen.databases k is in
    sym one.bare ∙ ap database_left (laws.one address chunks k one.contents contents one.at at)

-- they do so later too
pub settled_later : (address : List ℕ → List ℕ) (old new : Chunks) → Extends old new → TablesStand → DatabasesStand → (settled : Settled) → AreSettledRoots address old settled → AreSettledRoots address new settled
settled_later address old new more tables databases settled seen = record {
  tables = λ k is. let one = seen.tables k is in record { contents = one.contents; at = tables.later address old new k one.contents more one.at; bare = one.bare };
  databases = λ k is. let one = seen.databases k is in record { contents = one.contents; at = databases.later address old new k one.contents more one.at; bare = one.bare };
}

-- ---- one more

or_there : (a b : Bool) → b ≡ true → (a || b) ≡ true
or_there true b e = refl
or_there false b e = e

head_case : (P : List ℕ → Type 0) (x q : List ℕ) (b rest : Bool) → bytes_eq x q ≡ b → (b || rest) ≡ true → (bytes_eq x q ≡ true → P q) → (rest ≡ true → P q) → P q
head_case P x q true rest e is here later = here e
head_case P x q false rest e is here later = later is

pub one_more : (seen : List (List ℕ)) (k : List ℕ) (P : List ℕ → Type 0) → P k → ((q : List ℕ) → has seen q ≡ true → P q) → (q : List ℕ) → has (seen ++ k ∷ []) q ≡ true → P q
one_more [] k P new old q is = head_case P k q (bytes_eq k q) false refl is (λ e. subst P (same_bytes k q e) new) (λ e. absurd (true≢false (sym e)))
one_more (x ∷ seen) k P new old q is =
    head_case P x q (bytes_eq x q) (has (seen ++ k ∷ []) q) refl is (λ e. old q (ap (λ (t : Bool). t || has seen q) e))
    (λ later. one_more seen k P new (λ r found. old r (or_there (bytes_eq x r) (has seen r) found)) q later)

-- none was seen yet
pub none_seen : (seen : List (List ℕ)) → seen ≡ [] → (P : List ℕ → Type 0) → (k : List ℕ) → has seen k ≡ true → P k
none_seen seen bare P k is = absurd (true≢false (sym is ∙ ap (λ (l : List (List ℕ)). has l k) bare))

-- ---- what some tables have recorded

pub is_bare : (left : Left) → is_any left ≡ false → left ≡ nothing_left
is_bare left none = by left.conflicts left.violations none where
  by : (a b : Bool) → (a || b) ≡ false → record { conflicts = a; violations = b } ≡ nothing_left
  by true b e = absurd (true≢false e)
  by false b e = λ i. record { conflicts = false; violations = e i }

pub first_left : (database others : PlainDatabase) (named : plain.NamedTable) (one more result : Left) → database ≡ named ∷ others → one ≡ table_left named.table → more ≡ database_left others → result ≡ either one more
    → result ≡ database_left database
first_left database others named one more result both first later is =
    is ∙ (λ i. either (first i) (later i)) ∙ sym (ap database_left both)

-- what is listed where a database stands
pub kept_there : (address : List ℕ → List ℕ) (chunks : Chunks) → DatabasesStand → (k : List ℕ) (contents : PlainDatabase) → IsKeptAt address chunks k contents → (bytes : List ℕ)
    → ((tables : List TableEntry) → IsDatabaseFound chunks k tables → AreListed bytes tables) → AreListedThere address chunks contents bytes
kept_there address chunks laws k contents kept bytes listed = record {
  stand = kept.stands.tables;
  listed = listed (named_tables address contents) (laws.found address chunks k contents kept.stands (few_tables contents kept.within));
}

-- the first of a database's tables, and the others
pub record FirstThere (address : List ℕ → List ℕ) (chunks : Chunks) (database : PlainDatabase) (table : Address) (rest : List ℕ) : Type 0 where
  pub named : plain.NamedTable
  pub others : PlainDatabase
  pub both : database ≡ named ∷ others
  pub at : IsTableAt address chunks table.0 named.table
  pub there : AreListedThere address chunks others rest

pub first_there : (address : List ℕ → List ℕ) (chunks : Chunks) (database : PlainDatabase) (bytes : List ℕ) → AreListedThere address chunks database bytes
    → (table : Address) (rest : List ℕ) → IsFirstListed table rest (named_tables address database) → FirstThere address chunks database table rest
first_there address chunks [] bytes there table rest first = absurd (nothing first.both) where
  nothing : [] ≡ record { name = first.name; table = table } ∷ first.others → ⊥
  nothing e = cc
first_there address chunks (named ∷ others) bytes there table rest first =
    let none : TableEntry = record { name = []; table = table } in
    let stand = there.stand in
    let k : table_address address named.table ≡ table.0 = ap (λ (l : List TableEntry). (slice_index_or l 0 none).table.0) first.both in
    let more : named_tables address others ≡ first.others = ap (drop 1) first.both in
    record {
      named = named;
      others = others;
      both = refl;
      at = subst (λ (k : List ℕ). IsTableAt address chunks k named.table) k stand.0;
      there = record { stand = stand.1; listed = subst (λ (l : List TableEntry). AreListed rest l) (sym more) first.listed };
    }

pub none_there : (address : List ℕ → List ℕ) (database : PlainDatabase) → named_tables address database ≡ [] → [] ≡ database
none_there address [] e = refl
none_there address (named ∷ others) e = absurd (nothing e) where
  nothing : named_tables address (named ∷ others) ≡ [] → ⊥
  nothing e = cc

-- no merge is in progress, so what is left tells
pub left_open : (place : Option Address) (state : BranchState) (left : Left) (found : Bool) → bytes_of place ≡ state.merging → is_some place ≡ false → left ≡ state_left state → found ≡ is_any left
    → found ≡ is_unsettled state
left_open place state left found merging none is told =
    let e : is_some state.merging ≡ false = sym (ap (λ (m : Option (List ℕ)). is_some m) merging) ∙ mapped place ∙ none in
    told ∙ ap is_any is ∙ sym (ap (λ (b : Bool). b || is_in_conflict state || is_in_violation state) e)
  where
    mapped : (place : Option Address) → is_some (bytes_of place) ≡ is_some place
    mapped None = refl
    mapped (Some k) = refl
