-- Branches' records that stand go on standing, and stand for one state.
use Rattle.std.proofs.Common.{◌≡◌, refl, ◌∙◌, sym, ap, ℕ, true, List, Option, Some, None}
use Rattle.std.specs.Option.{option_map, option_map_or}
use Rattle.std.specs.Prelude.{bytes_eq}
use Rattle.std.specs.Bool.{Decides}
use Rattle.std.specs.Cmp.Lexicographic.{bytes_decides}
use Rattle.std.proofs.lemmas.Bool.Decides.{Decides-and, Decides-like}
use Rattle.tuple_codec.specs.declared.addresses.Address.{Address}
use Rattle.tuple_codec.specs.declared.records.BranchRecord.{BranchRecord}
use Rattle.tuple_codec.proofs.FieldLemmas.{address_is as address_equal}
use Rattle.schema_model.specs.PlainCommits.{Commits, is_known}
use Rattle.schema_model.specs.PlainTables.{PlainDatabase}
use Rattle.schema_model.specs.Sameness.{SamenessIsEquality, is_same_option}
use Rattle.chunk_store.specs.Chunks.{Chunks, Extends}
use Rattle.table_root.specs.Standing.{DatabasesStand}
use Rattle.table_root.specs.Kept.{IsKeptAt}
use Rattle.plain_sessions.specs.Records.{BranchState, is_same_state}
use Rattle.session_state.specs.Laws.{RecordsFollow}
use Rattle.session_state.specs.Records.{RecordStands}

-- ---- parts and the whole

pub state_equal : (a b : BranchState) → a.head ≡ b.head → a.working ≡ b.working → a.staged ≡ b.staged → a.merging ≡ b.merging → a ≡ b
state_equal a b head working staged merging =
    ap (λ x. record { head = x; working = a.working; staged = a.staged; merging = a.merging }) head
    ∙ ap (λ x. record { head = b.head; working = x; staged = a.staged; merging = a.merging }) working
    ∙ ap (λ x. record { head = b.head; working = b.working; staged = x; merging = a.merging }) staged
    ∙ ap (λ x. record { head = b.head; working = b.working; staged = b.staged; merging = x }) merging

record_equal : (a b : BranchRecord) → a.head ≡ b.head → a.working ≡ b.working → a.staged ≡ b.staged → a.merging ≡ b.merging → a ≡ b
record_equal a b head working staged merging =
    ap (λ x. record { head = x; working = a.working; staged = a.staged; merging = a.merging }) head
    ∙ ap (λ x. record { head = b.head; working = x; staged = a.staged; merging = a.merging }) working
    ∙ ap (λ x. record { head = b.head; working = b.working; staged = x; merging = a.merging }) staged
    ∙ ap (λ x. record { head = b.head; working = b.working; staged = b.staged; merging = x }) merging

-- ---- states are told by their parts

option_decides : (a b : Option (List ℕ)) → Decides (is_same_option bytes_eq a b) (a ≡ b)
option_decides None None = (λ _. refl, λ _. refl)
option_decides None (Some b) = (λ e. cc, λ e. cc)
option_decides (Some a) None = (λ e. cc, λ e. cc)
option_decides (Some a) (Some b) = Decides-like _ (λ e. ap Some e) (λ e. cc) (bytes_decides a b)

state_decides : SamenessIsEquality → (a b : BranchState) → Decides (is_same_state a b) (a ≡ b)
unfolding is_same_state
state_decides same a b =
    Decides-like _
    (λ p. state_equal a b p.0.0.0 p.0.0.1 p.0.1 p.1)
    (λ e. (((ap (λ (s : BranchState). s.head) e, ap (λ (s : BranchState). s.working) e), ap (λ (s : BranchState). s.staged) e), ap (λ (s : BranchState). s.merging) e))
    (Decides-and _ _ (Decides-and _ _ (Decides-and _ _ (bytes_decides a.head b.head) (same.databases a.working b.working)) (same.databases a.staged b.staged))
    (option_decides a.merging b.merging))

-- ---- records

option_known : (commits others : Commits) → ((k : List ℕ) → is_known commits k ≡ true → is_known others k ≡ true) → (o : Option (List ℕ))
    → option_map_or (is_known commits) o true ≡ true → option_map_or (is_known others) o true ≡ true
option_known commits others more None known = refl
option_known commits others more (Some k) known = more k known

same_address : (o p : Option Address) → option_map (λ (k : Address). k.0) o ≡ option_map (λ (k : Address). k.0) p → o ≡ p
same_address None None e = refl
same_address None (Some b) e = cc
same_address (Some a) None e = cc
same_address (Some a) (Some b) e = ap Some (address_equal a b (cc))

module _ (databases : DatabasesStand) where
  kept_later : (address : List ℕ → List ℕ) (old new : Chunks) (k : List ℕ) (database : PlainDatabase) → Extends old new → IsKeptAt address old k database → IsKeptAt address new k database
  kept_later address old new k database more kept = record { stands = databases.later address old new k database more kept.stands; within = kept.within }

  pub record_later : (address : List ℕ → List ℕ) (old new : Chunks) (commits others : Commits) (rec : BranchRecord) (state : BranchState) → Extends old new
      → ((k : List ℕ) → is_known commits k ≡ true → is_known others k ≡ true) → RecordStands address old commits rec state → RecordStands address new others rec state
  record_later address old new commits others rec state more known stands = record {
    head = stands.head;
    working = kept_later address old new rec.working.0 state.working more stands.working;
    staged = kept_later address old new rec.staged.0 state.staged more stands.staged;
    merging = stands.merging;
    head_known = known state.head stands.head_known;
    merging_known = option_known commits others known state.merging stands.merging_known;
  }

  pub one_state : (address : List ℕ → List ℕ) (chunks : Chunks) (commits others : Commits) (rec : BranchRecord) (state other : BranchState)
      → RecordStands address chunks commits rec state → RecordStands address chunks others rec other → state ≡ other
  one_state address chunks commits others rec state other a b =
      state_equal state other (sym a.head ∙ b.head)
      (databases.one address chunks rec.working.0 state.working other.working a.working.stands b.working.stands)
      (databases.one address chunks rec.staged.0 state.staged other.staged a.staged.stands b.staged.stands)
      (sym a.merging ∙ b.merging)

  one_record : (address : List ℕ → List ℕ) (chunks : Chunks) (commits others : Commits) (rec other : BranchRecord) (state : BranchState)
      → RecordStands address chunks commits rec state → RecordStands address chunks others other state → rec ≡ other
  one_record address chunks commits others rec other state a b =
      record_equal rec other (address_equal rec.head other.head (a.head ∙ sym b.head))
      (address_equal rec.working other.working (sym a.working.stands.named ∙ b.working.stands.named))
      (address_equal rec.staged other.staged (sym a.staged.stands.named ∙ b.staged.stands.named))
      (same_address rec.merging other.merging (a.merging ∙ sym b.merging))

pub records_follow : DatabasesStand → SamenessIsEquality → RecordsFollow
records_follow databases same = record { later = record_later databases; one = one_state databases; same = one_record databases; told = state_decides same }
