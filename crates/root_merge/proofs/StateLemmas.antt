-- Records that stand for states: later, and the same exactly where the states are; and what their tables have recorded.
use Rattle.std.proofs.Common.{◌≡◌, refl, sym, ap, ◌∙◌, subst, ℕ, true, false, Bool, ◌&&◌, ◌||◌, not, ◌==◌, List, length, bytes_eq, Option, Some, None}
use Rattle.std.specs.Cmp.Lexicographic.{bytes_decides}
use Rattle.std.proofs.lemmas.Bool.{and_parts, and_from}
use Rattle.std.proofs.lemmas.List.{length-map}
use Rattle.tuple_codec.proofs.ByteLemmas.{bytes_same as same_bytes}
use Rattle.tuple_codec.specs.declared.addresses.Address.{Address}
use Rattle.tuple_codec.specs.declared.records.BranchRecord.{BranchRecord}
use Rattle.tuple_codec.proofs.FieldLemmas.{address_is}
use Rattle.schema_model.specs.PlainTables.{PlainDatabase, PlainTable, conflict_item, conflict_items, violation_item, violation_items}
use Rattle.schema_model.specs.Sameness.{SamenessIsEquality, is_same_database, is_same_option}
use Rattle.chunk_store.specs.Chunks.{Chunks, Extends}
use Rattle.table_root.specs.Standing.{DatabasesStand}
use Rattle.table_root.specs.Kept.{IsKeptAt}
use Rattle.plain_sessions.specs.CommitRule.{is_none}
use Rattle.plain_sessions.specs.Records.{BranchState, is_same_state}
use Rattle.root_merge.specs.Merging.{AreRoots}
use Rattle.root_merge.specs.States.{BranchStateStands, bytes_of}

-- ---- later

pub root_later : (address : List ℕ → List ℕ) (old new : Chunks) → Extends old new → DatabasesStand → (k : List ℕ) (database : PlainDatabase) → IsKeptAt address old k database → IsKeptAt address new k database
root_later address old new more laws k database kept = record { stands = laws.later address old new k database more kept.stands; within = kept.within }

pub roots_later : (address : List ℕ → List ℕ) (old new : Chunks) → Extends old new → DatabasesStand → (base ours theirs : Address) (b o t : PlainDatabase)
    → AreRoots address old base ours theirs b o t → AreRoots address new base ours theirs b o t
roots_later address old new more laws base ours theirs b o t roots = record {
  base_root = root_later address old new more laws base.0 b roots.base_root;
  our_root = root_later address old new more laws ours.0 o roots.our_root;
  their_root = root_later address old new more laws theirs.0 t roots.their_root;
}

pub state_later : (address : List ℕ → List ℕ) (old new : Chunks) → Extends old new → DatabasesStand → (rec : BranchRecord) (state : BranchState)
    → BranchStateStands address old rec state → BranchStateStands address new rec state
state_later address old new more laws rec state stands = record {
  head = stands.head;
  working = root_later address old new more laws rec.working.0 state.working stands.working;
  staged = root_later address old new more laws rec.staged.0 state.staged stands.staged;
  merging = stands.merging;
}

-- ---- the same

same_option : (a b : Option (List ℕ)) → a ≡ b → is_same_option bytes_eq a b ≡ true
same_option a b e = subst (λ (x : Option (List ℕ)). is_same_option bytes_eq a x ≡ true) e (itself a) where
  itself : (a : Option (List ℕ)) → is_same_option bytes_eq a a ≡ true
  itself None = refl
  itself (Some k) = same_bytes k k refl

option_is : (a b : Option Address) → is_same_option bytes_eq (bytes_of a) (bytes_of b) ≡ true → a ≡ b
option_is None None e = refl
option_is (Some a) (Some b) e = ap (λ (k : Address). Some k) (address_is a b ((bytes_decides a.0 b.0).0 e))
option_is None (Some b) e = absurd cc
option_is (Some a) None e = absurd cc

-- one record stands for one state
pub same_record : (address : List ℕ → List ℕ) (chunks : Chunks) → DatabasesStand → SamenessIsEquality → (rec : BranchRecord) (p s : BranchState)
    → BranchStateStands address chunks rec p → BranchStateStands address chunks rec s → is_same_state p s ≡ true
unfolding is_same_state
same_record address chunks laws told rec p s one two =
    let working = (told.databases p.working s.working).1 (laws.one address chunks rec.working.0 p.working s.working one.working.stands two.working.stands) in
    let staged = (told.databases p.staged s.staged).1 (laws.one address chunks rec.staged.0 p.staged s.staged one.staged.stands two.staged.stands) in
    let head = same_bytes p.head s.head (sym one.head ∙ two.head) in
    let merging = same_option p.merging s.merging (sym one.merging ∙ two.merging) in
    and_from (bytes_eq p.head s.head && is_same_database p.working s.working && is_same_database p.staged s.staged) (is_same_option bytes_eq p.merging s.merging)
    (and_from (bytes_eq p.head s.head && is_same_database p.working s.working) (is_same_database p.staged s.staged)
    (and_from (bytes_eq p.head s.head) (is_same_database p.working s.working) head working) staged) merging

-- records of one state are one
pub one_record : (address : List ℕ → List ℕ) (chunks : Chunks) → DatabasesStand → SamenessIsEquality → (present start : BranchRecord) (p s : BranchState)
    → BranchStateStands address chunks present p → BranchStateStands address chunks start s → is_same_state p s ≡ true → present ≡ start
unfolding is_same_state
one_record address chunks laws told present start p s one two same =
    let a = and_parts (bytes_eq p.head s.head && is_same_database p.working s.working && is_same_database p.staged s.staged) (is_same_option bytes_eq p.merging s.merging) same in
    let b = and_parts (bytes_eq p.head s.head && is_same_database p.working s.working) (is_same_database p.staged s.staged) a.0 in
    let c = and_parts (bytes_eq p.head s.head) (is_same_database p.working s.working) b.0 in
    let head = address_is present.head start.head (one.head ∙ (bytes_decides p.head s.head).0 c.0 ∙ sym two.head) in
    let working = address_is present.working start.working ((laws.exactly address chunks present.working.0 start.working.0 p.working s.working one.working.stands two.working.stands).1 ((told.databases p.working s.working).0 c.1)) in
    let staged = address_is present.staged start.staged ((laws.exactly address chunks present.staged.0 start.staged.0 p.staged s.staged one.staged.stands two.staged.stands).1 ((told.databases p.staged s.staged).0 b.1)) in
    let both : is_same_option bytes_eq (bytes_of present.merging) (bytes_of start.merging) ≡ true =
    (λ i. is_same_option bytes_eq (one.merging i) (two.merging i)) ∙ a.1 in
    let merging = option_is present.merging start.merging both in
    λ i. record { head = head i; working = working i; staged = staged i; merging = merging i }

-- ---- what tables have recorded

pub some_conflicts : (contents : PlainTable) (found : Bool) → found ≡ not (length (conflict_items contents) == 0) → found ≡ not (is_none contents.conflicts)
some_conflicts contents found is = is ∙ ap (λ (n : ℕ). not (n == 0)) (length-map contents.conflicts (conflict_item contents.schema))

pub some_violations : (contents : PlainTable) (found : Bool) → found ≡ not (length (violation_items contents) == 0) → found ≡ not (is_none contents.violations)
some_violations contents found is = is ∙ ap (λ (n : ℕ). not (n == 0)) (length-map contents.violations (violation_item contents.schema))

pub either_first : (a b found : Bool) → found ≡ a → found ≡ true → true ≡ (a || b)
either_first a b found told holds = sym (ap (λ (x : Bool). x || b) (sym told ∙ holds))

pub either_later : (a b found rest : Bool) → found ≡ a → found ≡ false → rest ≡ b → rest ≡ (a || b)
either_later a b found rest told fails later = later ∙ sym (ap (λ (x : Bool). x || b) (sym told ∙ fails))
