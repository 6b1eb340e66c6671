-- What is staged, and by what a call is refused.
use Rattle.std.proofs.Common.{◌≡◌, ◌≤◌, refl, sym, ap, ◌∙◌, subst, ℕ, Bool, true, false, ◌||◌, not, nat_lt, is_some, List, [], ◌∷◌, length, Option, None, Some, Ok, Err, if◌then◌else◌, arith}
use Rattle.std.specs.Option.{option_map, option_map_or, option_or}
use Rattle.std.proofs.lemmas.Bool.{ltb-false}
use Rattle.std.proofs.lemmas.Bool.Decides.{nat_tests}
use Rattle.tuple_codec.specs.declared.addresses.Address.{Address}
use Rattle.tuple_codec.specs.declared.records.BranchRecord.{BranchRecord}
use Rattle.schema_model.specs.Limits.{most_tables}
use Rattle.schema_model.specs.PlainTables.{PlainDatabase, PlainTable}
use Rattle.chunk_store.specs.Chunks.{Chunks, Extends}
use Rattle.table_root.specs.Kept.{IsKeptAt}
use Rattle.expr_eval.specs.Binding.{Outcome, and_then}
use Rattle.table_root.specs.Standing.{AreThere, DatabasesStand, named_tables}
use Rattle.table_root.specs.declared.records.TableEntry.{TableEntry}
use Rattle.table_root.proofs.ListingLemmas.{made_count as count_names}
use Rattle.plain_sql.specs.Lists.{each, unless}
use Rattle.plain_writes.specs.Violations.{table_in}
use Rattle.plain_sessions.specs.Branching.{add, is_open, is_open_table, may_reset, may_stage, reset_to, staged_as, taking_all}
use Rattle.plain_sessions.specs.Records.{BranchState, clean_at}
use Rattle.root_merge.specs.States.{BranchStateStands, IsCandidate}
use Rattle.root_merge.proofs.StateLemmas.{root_later as kept_later}
use Rattle.root_merge.specs.declared.candidates.Candidate.{Candidate}
use Rattle.root_merge.specs.declared.candidates.Candidate.TheVariants as made
use Rattle.sql_procedures.specs.declared.requests.Reset.TheVariants as reset
use Rattle.sql_procedures.specs.declared.requests.Tables.TheVariants as tables
use Rattle.sql_write.specs.Putting.{address_in}
use Rattle.branch_procs.specs.Listing.{AreFewTables, AreTables}
use Rattle.branch_procs.specs.Staging.{AreBoth, CanStage, absence, first_absence, reset_absence}
use Rattle.session_plan.specs.Calls.{refusal_of}
use Rattle.branch_procs.specs.Taking.{taking_all as chunk_taking_all}
use Rattle.branch_procs.proofs.TakingLemmas.{at, found_named, taken_are}
use Rattle.session_plan.proofs.CommitLemmas.{ok_same, past_unless}

-- ---- refusals

some_same : (a b : ℕ) → ◌≡◌ {A = Option ℕ} (Some a) (Some b) → a ≡ b
some_same a b e = cc

-- a list is refused by the first of it
pub each_told : {A : Type 0} (o : Outcome A) (rest : Outcome (List A)) → option_or (refusal_of o) (refusal_of rest) ≡ refusal_of (and_then o (λ y. and_then {B = List A} rest (λ ys. Ok (y ∷ ys))))
each_told (Ok y) (Ok ys) = refl
each_told (Ok y) (Err number) = refl
each_told (Err number) rest = refl

-- where none is refused, and each is left as it is, all are there
pub each_same : (f : List ℕ → Outcome (List ℕ)) → ((n m : List ℕ) → f n ≡ Ok m → m ≡ n) → (names : List (List ℕ)) → None ≡ refusal_of (each f names) → each f names ≡ Ok names
each_same f same [] h = refl
each_same f same (n ∷ ns) h = by (f n) (each f ns) (same n) (each_same f same ns) h where
  by : (o : Outcome (List ℕ)) (rest : Outcome (List (List ℕ))) → ((m : List ℕ) → o ≡ Ok m → m ≡ n) → (None ≡ refusal_of rest → rest ≡ Ok ns)
      → None ≡ refusal_of (and_then o (λ y. and_then {B = List (List ℕ)} rest (λ ys. Ok (y ∷ ys))))
      → ◌≡◌ {A = Outcome (List (List ℕ))} (and_then o (λ y. and_then {B = List (List ℕ)} rest (λ ys. Ok (y ∷ ys)))) (Ok (n ∷ ns))
  by (Ok y) (Ok ys) first later h = λ i. Ok (first y refl i ∷ ok_same ys ns (later refl) i)
  by (Ok y) (Err number) first later h = absurd (cc)
  by (Err number) rest first later h = absurd (cc)

-- ---- one table

abbrev stage_where : Option PlainTable → Option PlainTable → List ℕ → Outcome (List ℕ)
stage_where w s name = unless (not (is_some w || is_some s)) 1146 (unless (option_map_or is_open_table w false) 9011 (Ok name))

abbrev reset_where : Option PlainTable → Option PlainTable → List ℕ → Outcome (List ℕ)
reset_where r s name = unless (not (is_some r || is_some s)) 1146 (Ok name)

pub stage_same : (state : BranchState) (n m : List ℕ) → may_stage state n ≡ Ok m → m ≡ n
stage_same state n m e =
    let opened = option_map_or is_open_table (table_in state.working n) false in
    sym (ok_same n m (past_unless opened 9011 (Ok n) m (past_unless (not (is_some (table_in state.working n) || is_some (table_in state.staged n))) 1146 (unless opened 9011 (Ok n)) m e)))

pub reset_same : (root : PlainDatabase) (state : BranchState) (n m : List ℕ) → may_reset root state n ≡ Ok m → m ≡ n
reset_same root state n m e = sym (ok_same n m (past_unless (not (is_some (table_in root n) || is_some (table_in state.staged n))) 1146 (Ok n) m e))

unopened : (opened : Bool) (name : List ℕ) → (if opened then Some 9011 else None) ≡ refusal_of (unless opened 9011 (Ok name))
unopened true name = refl
unopened false name = refl

pub stage_found : (state : BranchState) (name : List ℕ) (contents : PlainTable) (opened : Bool) → table_in state.working name ≡ Some contents → opened ≡ is_open_table contents
    → (if opened then Some 9011 else None) ≡ refusal_of (may_stage state name)
stage_found state name contents opened found told =
    unopened opened name ∙ ap (λ b. refusal_of (unless b 9011 (Ok name))) told
    ∙ sym (ap (λ w. refusal_of (stage_where w (table_in state.staged name) name)) found)

absent_so : (w : Option PlainTable) (s : Option PlainTable) (k : Option Address) (f : PlainTable → Address) (name : List ℕ) → w ≡ None → k ≡ option_map f s
    → (if is_some k then None else Some 1146) ≡ refusal_of (stage_where w s name)
absent_so w s k f name none is =
    ap (λ (o : Option Address). if is_some o then None else Some 1146) is ∙ by s ∙ sym (ap (λ (w : Option PlainTable). refusal_of (stage_where w s name)) none)
  where
    by : (s : Option PlainTable) → (if is_some (option_map f s) then None else Some 1146) ≡ refusal_of (stage_where None s name)
    by None = refl
    by (Some t) = refl

pub stage_absent : (address : List ℕ → List ℕ) (state : BranchState) (staged : List TableEntry) (name : List ℕ) → table_in state.working name ≡ None
    → staged ≡ named_tables address state.staged → absence staged name ≡ refusal_of (may_stage state name)
stage_absent address state staged name none is =
    absent_so (table_in state.working name) (table_in state.staged name) (address_in staged name) (at address) name none
    (ap (λ (l : List TableEntry). address_in l name) is ∙ found_named address state.staged name)

reset_so : (r s : Option PlainTable) (f : PlainTable → Address) (name : List ℕ)
    → (if is_some (option_map f r) then None else (if is_some (option_map f s) then None else Some 1146)) ≡ refusal_of (reset_where r s name)
reset_so None None f name = refl
reset_so None (Some s) f name = refl
reset_so (Some r) s f name = refl

reset_told : (address : List ℕ → List ℕ) (root : PlainDatabase) (state : BranchState) (name : List ℕ)
    → reset_absence (named_tables address root) (named_tables address state.staged) name ≡ refusal_of (may_reset root state name)
reset_told address root state name =
    ap (λ (k : Option Address). if is_some k then None else absence (named_tables address state.staged) name) (found_named address root name)
    ∙ ap (λ (k : Option Address). if is_some (option_map (at address) (table_in root name)) then None else (if is_some k then None else Some 1146)) (found_named address state.staged name)
    ∙ reset_so (table_in root name) (table_in state.staged name) (at address) name

absences_told : (address : List ℕ → List ℕ) (root : PlainDatabase) (state : BranchState) (names : List (List ℕ))
    → first_absence (named_tables address root) (named_tables address state.staged) names ≡ refusal_of (each (may_reset root state) names)
absences_told address root state [] = refl
absences_told address root state (name ∷ names) =
    (λ i. option_or (reset_told address root state name i) (absences_told address root state names i)) ∙ each_told (may_reset root state name) (each (may_reset root state) names)

pub resets_told : (address : List ℕ → List ℕ) (root : PlainDatabase) (state : BranchState) (head staged : List TableEntry) (names : List (List ℕ)) → head ≡ named_tables address root
    → staged ≡ named_tables address state.staged → first_absence head staged names ≡ refusal_of (each (may_reset root state) names)
resets_told address root state head staged names h s = (λ i. first_absence (h i) (s i) names) ∙ absences_told address root state names

-- ---- records

-- with another staged database
pub staged_stands : (address : List ℕ → List ℕ) (old new : Chunks) → Extends old new → DatabasesStand → (own : BranchRecord) (staged : Address) (state : BranchState) (database : PlainDatabase)
    → BranchStateStands address old own state → IsKeptAt address new staged.0 database → BranchStateStands address new (record own { staged = staged }) (record state { staged = database })
staged_stands address old new more laws own staged state database stands kept = record {
  head = stands.head;
  working = kept_later address old new more laws own.working.0 state.working stands.working;
  staged = kept;
  merging = stands.merging;
}

-- ---- what it comes to

not_more : (n : ℕ) → n ≤ 256 → nat_lt most_tables n ≡ false
not_more n few = let least : nat_lt 256 n ≡ false = grind (arith, nat_tests) in least

module _ (address : List ℕ → List ℕ) (chunks : Chunks) where
  pub too_many : (state : BranchState) (database : PlainDatabase) → nat_lt most_tables (length database) ≡ true → IsCandidate address chunks (made.Refused 9010) (staged_as state database)
  too_many state database h = subst (λ (b : Bool). IsCandidate address chunks (made.Refused 9010) (unless b 9010 (Ok (record state { staged = database })))) (sym h) refl

  pub few_enough : (rec : BranchRecord) (state : BranchState) (database : PlainDatabase) → nat_lt most_tables (length database) ≡ false
      → BranchStateStands address chunks rec (record state { staged = database }) → IsCandidate address chunks (made.Record rec) (staged_as state database)
  few_enough rec state database h stands =
      subst (λ (b : Bool). IsCandidate address chunks (made.Record rec) (unless b 9010 (Ok (record state { staged = database })))) (sym h) stands

  pub refused_so : {A : Type 0} (o : Outcome A) (next : A → Outcome BranchState) (number : ℕ) → Some number ≡ refusal_of o → IsCandidate address chunks (made.Refused number) (and_then o next)
  refused_so (Ok x) next number is = absurd (cc)
  refused_so (Err other) next number is = some_same number other is

  pub open_refused : (state : BranchState) (opened : Bool) → opened ≡ is_open state.working → opened ≡ true → IsCandidate address chunks (made.Refused 9011) (add tables.All state)
  open_refused state opened told holds =
      subst (λ (b : Bool). IsCandidate address chunks (made.Refused 9011) (unless b 9011 (staged_as state state.working))) (sym holds ∙ told) refl

  pub added_all : (rec : BranchRecord) (state : BranchState) (opened : Bool) → opened ≡ is_open state.working → opened ≡ false
      → IsCandidate address chunks (made.Record rec) (staged_as state state.working) → IsCandidate address chunks (made.Record rec) (add tables.All state)
  added_all rec state opened told fails is =
      subst (λ (b : Bool). IsCandidate address chunks (made.Record rec) (unless b 9011 (staged_as state state.working))) (sym fails ∙ told) is

  pub added_named : (m : Candidate) (state : BranchState) (names : List (List ℕ)) → None ≡ refusal_of (each (may_stage state) names)
      → IsCandidate address chunks m (staged_as state (taking_all state.working state.staged names)) → IsCandidate address chunks m (add (tables.Named names) state)
  added_named m state names none is =
      subst (λ (o : Outcome (List (List ℕ))). IsCandidate address chunks m (and_then o (λ named. staged_as state (taking_all state.working state.staged named))))
      (sym (each_same (may_stage state) (stage_same state) names none)) is

  pub reset_named : (m : Candidate) (root : PlainDatabase) (state : BranchState) (names : List (List ℕ)) → None ≡ refusal_of (each (may_reset root state) names)
      → IsCandidate address chunks m (staged_as state (taking_all root state.staged names)) → IsCandidate address chunks m (reset_to root (reset.Tables (tables.Named names)) state)
  reset_named m root state names none is =
      subst (λ (o : Outcome (List (List ℕ))). IsCandidate address chunks m (and_then o (λ named. staged_as state (taking_all root state.staged named))))
      (sym (each_same (may_reset root state) (reset_same root state) names none)) is

  -- ---- the databases of a state

  pub counted : (tables : List TableEntry) (database : PlainDatabase) → AreTables address chunks tables database → length tables ≡ length database
  counted tables database are = ap (λ (l : List TableEntry). length l) are.listed ∙ count_names address database

  pub few_tables : (tables : List TableEntry) (database : PlainDatabase) (many : Bool) → AreTables address chunks tables database → many ≡ nat_lt most_tables (length tables) → many ≡ false
      → AreFewTables address chunks tables database
  few_tables tables database many are told fails =
      record { tables_are = are; few = ltb-false most_tables (length database) (ap (nat_lt most_tables) (sym (counted tables database are)) ∙ sym told ∙ fails) }

  pub many_refused : (tables : List TableEntry) (state : BranchState) (database : PlainDatabase) (many : Bool) → AreTables address chunks tables database → many ≡ nat_lt most_tables (length tables)
      → many ≡ true → IsCandidate address chunks (made.Refused 9010) (staged_as state database)
  many_refused tables state database many are told holds = too_many state database (ap (nat_lt most_tables) (sym (counted tables database are)) ∙ sym told ∙ holds)

  pub all_there : (tables shown : List TableEntry) (database : PlainDatabase) → shown ≡ tables → AreFewTables address chunks tables database → AreThere address chunks database shown
  all_there tables shown database is few = let are = few.tables_are in record { stand = are.stand; listed = is ∙ are.listed }

  pub few_of : (tables : List TableEntry) (database : PlainDatabase) → AreFewTables address chunks tables database → nat_lt most_tables (length database) ≡ false
  few_of tables database few = let most = few.few in not_more (length database) most

  pub stand_as : (own rec : BranchRecord) (state : BranchState) → rec ≡ record own { staged = own.working } → BranchStateStands address chunks own state
      → BranchStateStands address chunks rec (record state { staged = state.working })
  stand_as own rec state is stands =
      subst (λ (r : BranchRecord). BranchStateStands address chunks r (record state { staged = state.working })) (sym is)
      (record { head = stands.head; working = stands.working; staged = stands.working; merging = stands.merging })

  pub both_of : (ones others shown seen : List TableEntry) (state : BranchState) (one : PlainDatabase) → shown ≡ ones → seen ≡ others → AreFewTables address chunks ones one
      → AreFewTables address chunks others state.staged → AreBoth address chunks shown seen one state.staged
  both_of ones others shown seen state one first second few more =
      let a = few.tables_are in
      let b = more.tables_are in
      record {
        ones_are = record { is_database = a.is_database; within = a.within; stand = a.stand; listed = first ∙ a.listed };
        others_are = record { is_database = b.is_database; within = b.within; stand = b.stand; listed = second ∙ b.listed };
      }

  pub resets_listed : (ones others : List TableEntry) (root : PlainDatabase) (state : BranchState) (head staged : List TableEntry) (names : List (List ℕ)) (found : Option ℕ) → found ≡ first_absence head staged names
      → head ≡ ones → staged ≡ others → AreFewTables address chunks ones root → AreFewTables address chunks others state.staged → found ≡ refusal_of (each (may_reset root state) names)
  resets_listed ones others root state head staged names found told first second few more =
      let a = few.tables_are in
      let b = more.tables_are in
      told ∙ resets_told address root state head staged names (first ∙ a.listed) (second ∙ b.listed)

  pub can_stage : (ones others taken shown : List TableEntry) (own : BranchRecord) (state : BranchState) (from : PlainDatabase) (names : List (List ℕ)) → BranchStateStands address chunks own state
      → AreFewTables address chunks ones from → AreFewTables address chunks others state.staged → taken ≡ chunk_taking_all ones others names → shown ≡ taken
      → CanStage address chunks own shown state (taking_all from state.staged names)
  can_stage ones others taken shown own state from names stands few more is seen =
      record { stands = stands; tables_are = taken_are address chunks ones others shown from state.staged names few more (seen ∙ is) }

-- the record with another staged database, whose tables are few enough
pub staged_so : (address : List ℕ → List ℕ) (old new : Chunks) → Extends old new → DatabasesStand → (own : BranchRecord) (staged : Address) (rec : BranchRecord) (state : BranchState) (database : PlainDatabase)
    → BranchStateStands address old own state → IsKeptAt address new staged.0 database → rec ≡ record own { staged = staged } → length database ≤ 256
    → IsCandidate address new (made.Record rec) (staged_as state database)
staged_so address old new more laws own staged rec state database stands kept is few =
    few_enough address new rec state database (not_more (length database) few)
    (subst (λ (r : BranchRecord). BranchStateStands address new r (record state { staged = database })) (sym is) (staged_stands address old new more laws own staged state database stands kept))

-- the head's database staged, and the whole state set back
pub root_staged : (address : List ℕ → List ℕ) (chunks : Chunks) (own rec : BranchRecord) (root : Address) (state : BranchState) (database : PlainDatabase) → BranchStateStands address chunks own state
    → IsKeptAt address chunks root.0 database → rec ≡ record own { staged = root } → BranchStateStands address chunks rec (record state { staged = database })
root_staged address chunks own rec root state database stands kept is =
    subst (λ (r : BranchRecord). BranchStateStands address chunks r (record state { staged = database })) (sym is)
    (record { head = stands.head; working = stands.working; staged = kept; merging = stands.merging })

pub set_back : (address : List ℕ → List ℕ) (chunks : Chunks) (own rec : BranchRecord) (root : Address) (state : BranchState) (database : PlainDatabase) → BranchStateStands address chunks own state
    → IsKeptAt address chunks root.0 database → rec ≡ (record { head = own.head; working = root; staged = root; merging = None }) → BranchStateStands address chunks rec (clean_at state.head database)
set_back address chunks own rec root state database stands kept is =
    subst (λ (r : BranchRecord). BranchStateStands address chunks r (clean_at state.head database)) (sym is) (record { head = stands.head; working = kept; staged = kept; merging = refl })
