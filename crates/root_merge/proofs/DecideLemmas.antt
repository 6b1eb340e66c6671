-- The commit rule, case by case.
use Rattle.std.proofs.Common.{◌≡◌, refl, sym, ap, ◌∙◌, subst, ℕ, true, false, Bool, cond, ◌&&◌, ◌||◌, not, ◌==◌, List, [], ◌∷◌, ◌++◌, length, arith, true≢false, Option, Some, None, Result, Ok, Err}
use Rattle.tuple_codec.specs.declared.addresses.Address.{Address}
use Rattle.tuple_codec.specs.declared.records.BranchRecord.{BranchRecord}
use Rattle.schema_model.specs.Limits.{is_database_within_limits}
use Rattle.schema_model.specs.PlainTables.{IsDatabase, PlainDatabase, PlainTable}
use Rattle.schema_model.proofs.SizeLemmas.{few_tables as few_kept}
use Rattle.chunk_store.specs.Chunks.{Chunks, Extends}
use Rattle.table_root.specs.Standing.{DatabasesStand, IsReadAt}
use Rattle.expr_eval.specs.Binding.{Outcome, and_then}
use Rattle.schema_merge.specs.RootMerge.{MergedDatabase, SchemaConflict}
use Rattle.plain_sql.specs.Lists.{unless}
use Rattle.table_merge.specs.declared.faults.MergeFault.{MergeFault}
use Rattle.table_merge.specs.declared.faults.MergeFault.TheVariants as fault
use Rattle.std.specs.List.{flat_map, list_all}
use Rattle.std.specs.Option.{option_map_or}
use Rattle.std.proofs.lemmas.Bool.{and_parts, and_right as and_fails}
use Rattle.tuple_codec.proofs.Lists.{none_below}
use Rattle.tuple_codec.proofs.Truths.{not_true as bool_false, not_false as bool_true}
use Rattle.plain_writes.specs.Violations.{Found, table_in, violations}
use Rattle.plain_writes.specs.CheckTexts.{checks}
use Rattle.violation_lists.specs.Recorded.{AllAreRecorded}
use Rattle.violation_lists.specs.Recording as recording
use Rattle.table_root.specs.Kept.{IsKeptAt}
use Rattle.violation_lists.specs.Written.{written, written_in}
use Rattle.violation_lists.specs.declared.listing.ListedViolation.{ListedViolation}
use Rattle.plain_sessions.specs.CommitRule.{both_merged, candidate, decide, has_violations, is_in_conflict, is_in_violation, is_none, judged, merged, recorded, without_conflicts}
use Rattle.plain_sessions.specs.Records.{BranchState, is_same_state}
use Rattle.plain_sessions.specs.Sessions.{Variables}
use Rattle.root_merge.specs.Deciding.{AreStates, ComesTo, IsSide, anew, are_unsettled, refusal, settled, together}
use Rattle.root_merge.specs.Merging.{AreRoots, IsFaultOf, IsMergedDatabase, PassesLimit}
use Rattle.root_merge.proofs.StateLemmas.{root_later}
use Rattle.root_merge.proofs.NatLemmas.{nat_false, zero_is}
use Rattle.root_merge.specs.States.{BranchStateStands, IsCandidate}
use Rattle.root_merge.specs.declared.candidates.Candidate.TheVariants as candidate_of
use Rattle.root_merge.specs.declared.deciding.Side.{Side}
use Rattle.root_merge.specs.declared.deciding.Side.TheVariants as side
use Rattle.root_merge.specs.declared.merging.Merged.{Merged}

-- ---- one database

pub conflict_met : (wanted : Result MergedDatabase SchemaConflict) (all : MergedDatabase) → wanted ≡ Ok all → (all.conflicts == 0) ≡ false → without_conflicts wanted ≡ Err 1213
conflict_met wanted all is met = ap without_conflicts is ∙ ap (λ (b : Bool). unless (not b) 1213 (Ok all.database)) met

pub schema_met : (wanted : Result MergedDatabase SchemaConflict) (conflict : SchemaConflict) → wanted ≡ Err conflict → without_conflicts wanted ≡ Err 1213
schema_met wanted conflict is = ap without_conflicts is

pub schema_side : (wanted : Result MergedDatabase SchemaConflict) (why : MergeFault) (table part : List ℕ) → why ≡ fault.Schema table part → IsFaultOf wanted why → without_conflicts wanted ≡ Err 1213
schema_side wanted why table part is of =
    let own : IsFaultOf wanted (fault.Schema table part) = subst (λ (f : MergeFault). IsFaultOf wanted f) is of in
    schema_met wanted (record { table = table; part = part }) own

pub limit_passes : (wanted : Result MergedDatabase SchemaConflict) (why : MergeFault) → why ≡ fault.Limit → IsFaultOf wanted why → PassesLimit wanted
limit_passes wanted why is of = subst (λ (f : MergeFault). IsFaultOf wanted f) is of

pub none_met : (wanted : Result MergedDatabase SchemaConflict) (all : MergedDatabase) → ComesTo wanted all → without_conflicts wanted ≡ Ok all.database
none_met wanted all comes = ap without_conflicts comes.is ∙ ap (λ (n : ℕ). unless (not (n == 0)) 1213 (Ok all.database)) comes.clean

pub clean_side : (address : List ℕ → List ℕ) (chunks : Chunks) (result : Merged) (wanted : Result MergedDatabase SchemaConflict) → IsMergedDatabase address chunks result wanted → result.conflicts ≡ 0
    → IsSide address chunks (side.Clean result.root) wanted
clean_side address chunks result wanted is none = (is.merged, record { is = is.is; clean = sym is.made.conflicts ∙ none }, is.made.root)

pub conflict_side : (address : List ℕ → List ℕ) (chunks : Chunks) (result : Merged) (wanted : Result MergedDatabase SchemaConflict) → IsMergedDatabase address chunks result wanted → (result.conflicts ≡ 0 → ⊥)
    → without_conflicts wanted ≡ Err 1213
conflict_side address chunks result wanted is some = conflict_met wanted is.merged is.is (nat_false is.merged.conflicts (λ e. some (is.made.conflicts ∙ e)))

pub limit_conflict : (wanted : Result MergedDatabase SchemaConflict) (passes : PassesLimit wanted) (found : Bool) → found ≡ not (passes.merged.conflicts == 0) → found ≡ true → without_conflicts wanted ≡ Err 1213
limit_conflict wanted passes found told holds = conflict_met wanted passes.merged passes.is (bool_false (passes.merged.conflicts == 0) (sym told ∙ holds))

pub limit_side : (address : List ℕ → List ℕ) (chunks : Chunks) (wanted : Result MergedDatabase SchemaConflict) (passes : PassesLimit wanted) (found : Bool) → found ≡ not (passes.merged.conflicts == 0) → found ≡ false
    → IsSide address chunks side.Limit wanted
limit_side address chunks wanted passes found told holds =
    (passes.merged, record { is = passes.is; clean = zero_is passes.merged.conflicts (bool_true (passes.merged.conflicts == 0) (sym told ∙ holds)) }, passes.limits)

pub side_later : (address : List ℕ → List ℕ) (old new : Chunks) → Extends old new → DatabasesStand → (made : Side) (wanted : Result MergedDatabase SchemaConflict) → IsSide address old made wanted → IsSide address new made wanted
side_later address old new more laws (side.Clean root) wanted is = (is.0, is.1, root_later address old new more laws root.0 is.0.database is.2)
side_later address old new more laws side.Conflict wanted is = is
side_later address old new more laws side.Limit wanted is = is

-- the roots of the working and of the staged databases
pub working_roots : (address : List ℕ → List ℕ) (chunks : Chunks) (start present own : BranchRecord) (s p o : BranchState) → AreStates address chunks start present own s p o
    → AreRoots address chunks start.working present.working own.working s.working p.working o.working
working_roots address chunks start present own s p o states =
    record { base_root = states.start_stands.working; our_root = states.present_stands.working; their_root = states.own_stands.working }

pub staged_roots : (address : List ℕ → List ℕ) (chunks : Chunks) (start present own : BranchRecord) (s p o : BranchState) → AreStates address chunks start present own s p o
    → AreRoots address chunks start.staged present.staged own.staged s.staged p.staged o.staged
staged_roots address chunks start present own s p o states =
    record { base_root = states.start_stands.staged; our_root = states.present_stands.staged; their_root = states.own_stands.staged }

-- ---- both

pub refused : (address : List ℕ → List ℕ) (chunks : Chunks) (outcome : Outcome BranchState) (number : ℕ) → outcome ≡ Err number → IsCandidate address chunks (candidate_of.Refused number) outcome
refused address chunks outcome number is = subst (λ (o : Outcome BranchState). IsCandidate address chunks (candidate_of.Refused number) o) (sym is) refl

pub stands_for : (address : List ℕ → List ℕ) (chunks : Chunks) (outcome : Outcome BranchState) (rec : BranchRecord) (state : BranchState) → outcome ≡ Ok state → BranchStateStands address chunks rec state
    → IsCandidate address chunks (candidate_of.Record rec) outcome
stands_for address chunks outcome rec state is stands = subst (λ (o : Outcome BranchState). IsCandidate address chunks (candidate_of.Record rec) o) (sym is) stands

pub first_conflict : (present : BranchState) (w s : Result MergedDatabase SchemaConflict) → without_conflicts w ≡ Err 1213 → together present w s ≡ Err 1213
first_conflict present w s one = ap (λ (o : Outcome PlainDatabase). and_then o (λ working. and_then (without_conflicts s) (λ staged. both_merged present working staged))) one

pub second_conflict : (present : BranchState) (w s : Result MergedDatabase SchemaConflict) (all : MergedDatabase) → ComesTo w all → without_conflicts s ≡ Err 1213 → together present w s ≡ Err 1213
second_conflict present w s all one two =
    ap (λ (o : Outcome PlainDatabase). and_then o (λ working. and_then (without_conflicts s) (λ staged. both_merged present working staged))) (none_met w all one)
    ∙ ap (λ (o : Outcome PlainDatabase). and_then o (λ staged. both_merged present all.database staged)) two

both_met : (present : BranchState) (w s : Result MergedDatabase SchemaConflict) (all others : MergedDatabase) → ComesTo w all → ComesTo s others
    → together present w s ≡ both_merged present all.database others.database
both_met present w s all others one two =
    ap (λ (o : Outcome PlainDatabase). and_then o (λ working. and_then (without_conflicts s) (λ staged. both_merged present working staged))) (none_met w all one)
    ∙ ap (λ (o : Outcome PlainDatabase). and_then o (λ staged. both_merged present all.database staged)) (none_met s others two)

pub first_limit : (present : BranchState) (w s : Result MergedDatabase SchemaConflict) (all others : MergedDatabase) → ComesTo w all → ComesTo s others
    → is_database_within_limits all.database ≡ false → together present w s ≡ Err 9010
first_limit present w s all others one two fails =
    both_met present w s all others one two
    ∙ ap (λ (b : Bool). unless (not (b && is_database_within_limits others.database)) 9010 (Ok (anew present.head all.database others.database))) fails

pub second_limit : (present : BranchState) (w s : Result MergedDatabase SchemaConflict) (all others : MergedDatabase) → ComesTo w all → ComesTo s others
    → is_database_within_limits others.database ≡ false → together present w s ≡ Err 9010
second_limit present w s all others one two fails =
    both_met present w s all others one two
    ∙ ap (λ (b : Bool). unless (not b) 9010 (Ok (anew present.head all.database others.database)))
    (and_fails (is_database_within_limits all.database) (is_database_within_limits others.database) fails)

pub both_clean : (present : BranchState) (w s : Result MergedDatabase SchemaConflict) (all others : MergedDatabase) → ComesTo w all → ComesTo s others
    → is_database_within_limits all.database ≡ true → is_database_within_limits others.database ≡ true → together present w s ≡ Ok (anew present.head all.database others.database)
both_clean present w s all others one two first second =
    both_met present w s all others one two
    ∙ (λ i. unless (not (first i && second i)) 9010 (Ok (anew present.head all.database others.database)))

-- clean databases, recorded
pub clean_candidate : (address : List ℕ → List ℕ) (old new : Chunks) (present : BranchState) (head : Address) (working staged : Side) (one two : Address) (w s : Result MergedDatabase SchemaConflict) (rec : BranchRecord)
    → working ≡ side.Clean one → staged ≡ side.Clean two → IsSide address old working w → IsSide address old staged s → head.0 ≡ present.head
    → ((all others : PlainDatabase) → IsKeptAt address old one.0 all → IsKeptAt address old two.0 others → BranchStateStands address new rec (anew head.0 all others))
    → IsCandidate address new (candidate_of.Record rec) (together present w s)
clean_candidate address old new present head working staged one two w s rec first second is_working is_staged at stands =
    let a : IsSide address old (side.Clean one) w = subst (λ (made : Side). IsSide address old made w) first is_working in
    let b : IsSide address old (side.Clean two) s = subst (λ (made : Side). IsSide address old made s) second is_staged in
    stands_for address new (together present w s) rec (anew present.head a.0.database b.0.database) (both_clean present w s a.0 b.0 a.1 b.1 a.2.within b.2.within)
    (subst (λ (k : List ℕ). BranchStateStands address new rec (anew k a.0.database b.0.database)) at (stands a.0.database b.0.database a.2 b.2))

-- ---- the rule

pub unsettled_refused : (s p o : BranchState) → are_unsettled s p o ≡ true → merged s p o ≡ Err 1213
unsettled_refused s p o holds = ap (λ (b : Bool). unless b 1213 (settled s p o)) holds

pub settled_merged : (s p o : BranchState) → are_unsettled s p o ≡ false → merged s p o ≡ settled s p o
settled_merged s p o none = ap (λ (b : Bool). unless b 1213 (settled s p o)) none

pub unmoved : (s p o : BranchState) → is_same_state p s ≡ true → candidate s p o ≡ Ok o
unmoved s p o same = ap (λ (b : Bool). cond {A = Outcome BranchState} b (Ok o) (merged s p o)) same

pub moved : (s p o : BranchState) → is_same_state p s ≡ false → candidate s p o ≡ merged s p o
moved s p o same = ap (λ (b : Bool). cond {A = Outcome BranchState} b (Ok o) (merged s p o)) same

-- what was proposed stands for what comes before the judgment; a refusal stays one
pub refusal_stays : (address : List ℕ → List ℕ) (chunks : Chunks) (s p o : BranchState) (v : Variables) (number : ℕ) → IsCandidate address chunks (candidate_of.Refused number) (candidate s p o)
    → IsCandidate address chunks (candidate_of.Refused number) (decide s p o v)
unfolding decide
refusal_stays address chunks s p o v number is = by (candidate s p o) is where
  by : (outcome : Outcome BranchState) → IsCandidate address chunks (candidate_of.Refused number) outcome → IsCandidate address chunks (candidate_of.Refused number) (and_then outcome (judged v))
  by (Err n) i = i
  by (Ok state) i = absurd i

-- where the branch hasn't moved, the transaction's own state is judged
pub unmoved_decided : (s p o : BranchState) (v : Variables) → is_same_state p s ≡ true → decide s p o v ≡ judged v o
unfolding decide
unmoved_decided s p o v same = ap (λ (outcome : Outcome BranchState). and_then outcome (judged v)) (unmoved s p o same)

-- the state for which a record stands that was proposed
pub record IsProposed (address : List ℕ → List ℕ) (chunks : Chunks) (rec : BranchRecord) (s p o : BranchState) (v : Variables) : Type 0 where
  pub state : BranchState
  pub stands : BranchStateStands address chunks rec state
  pub decided : decide s p o v ≡ judged v state

pub proposed_is : (address : List ℕ → List ℕ) (chunks : Chunks) (rec : BranchRecord) (s p o : BranchState) (v : Variables) → IsCandidate address chunks (candidate_of.Record rec) (candidate s p o)
    → IsProposed address chunks rec s p o v
unfolding decide
proposed_is address chunks rec s p o v is = by (candidate s p o) refl is where
  by : (outcome : Outcome BranchState) → candidate s p o ≡ outcome → IsCandidate address chunks (candidate_of.Record rec) outcome → IsProposed address chunks rec s p o v
  by (Ok state) e i = record { state = state; stands = i; decided = ap (λ (outcome : Outcome BranchState). and_then outcome (judged v)) e }
  by (Err n) e i = absurd i

-- ---- the judgment

by_refusal : BranchState → Option ℕ → Outcome BranchState
by_refusal state None = Ok state
by_refusal state (Some number) = Err number

judged_by : (v : Variables) (state : BranchState) → judged v state ≡ by_refusal state (refusal (is_in_conflict state) (is_in_violation state) v.allow v.force)
unfolding by_refusal
judged_by v state = by (is_in_conflict state && not v.allow && not v.force) (is_in_violation state && not v.force) where
  by : (a b : Bool) → unless a 9002 (unless b 9003 (Ok state)) ≡ by_refusal state (cond a (Some 9002) (cond b (Some 9003) None))
  by true b = refl
  by false true = refl
  by false false = refl

pub judged_refused : (address : List ℕ → List ℕ) (chunks : Chunks) (v : Variables) (state : BranchState) (number : ℕ) → refusal (is_in_conflict state) (is_in_violation state) v.allow v.force ≡ Some number
    → IsCandidate address chunks (candidate_of.Refused number) (judged v state)
unfolding by_refusal
judged_refused address chunks v state number is = refused address chunks (judged v state) number (judged_by v state ∙ ap (by_refusal state) is)

pub judged_well : (address : List ℕ → List ℕ) (chunks : Chunks) (v : Variables) (rec : BranchRecord) (state : BranchState) → refusal (is_in_conflict state) (is_in_violation state) v.allow v.force ≡ None
    → BranchStateStands address chunks rec state → IsCandidate address chunks (candidate_of.Record rec) (judged v state)
unfolding by_refusal
judged_well address chunks v rec state is stands = stands_for address chunks (judged v state) rec state (judged_by v state ∙ ap (by_refusal state) is) stands

-- ---- violations recorded anew

pub all_recorded : AllAreRecorded → (database : PlainDatabase) → IsDatabase database → recording.recorded_as (violations checks database) database ≡ recorded database
unfolding recorded
all_recorded laws database is = laws.recorded database is

pub read_kept : (address : List ℕ → List ℕ) (chunks : Chunks) (k : List ℕ) (database : PlainDatabase) → IsKeptAt address chunks k database → IsReadAt address chunks k database
read_kept address chunks k database kept = record { stands = kept.stands; few = few_kept database kept.within }

pub can_record : (address : List ℕ → List ℕ) (chunks : Chunks) (k : List ℕ) (list : List ListedViolation) (database : PlainDatabase) → AllAreRecorded → IsKeptAt address chunks k database
    → list ≡ flat_map (written_in database) (violations checks database) → recording.CanRecord address chunks k list database (violations checks database)
can_record address chunks k list database laws kept is = record {
  kept = kept;
  recordable = subst (λ (l : List ListedViolation). recording.IsRecordable database l (violations checks database)) (sym is) (laws.recordable address chunks k database kept);
}

nothing_first : {A : Type 0} (x : A) (xs : List A) → x ∷ xs ≡ [] → ⊥
nothing_first x xs e = cc

none_found : (database : PlainDatabase) (found : List Found) → list_all (recording.may_stand_in database) found ≡ true → flat_map (written_in database) found ≡ [] → found ≡ []
none_found database [] all none = refl
none_found database (one ∷ found) all none =
    absurd (by (table_in database one.table) (and_parts (recording.may_stand_in database one) (list_all (recording.may_stand_in database) found) all).0 none)
  where
    by : (o : Option PlainTable) → option_map_or (λ (table : PlainTable). recording.may_stand table.schema one.violation) o false ≡ true
        → option_map_or (λ (table : PlainTable). written table.schema one ∷ []) o [] ++ flat_map (written_in database) found ≡ [] → ⊥
    by None may none = true≢false (sym may)
    by (Some table) may none = nothing_first (written table.schema one) (flat_map (written_in database) found) none

neither : (a b : Bool) → (a || b) ≡ false → (a ≡ false) × (b ≡ false)
neither true b e = absurd (true≢false e)
neither false b e = (refl, e)

no_items : {A : Type 0} (items : List A) → is_none items ≡ true → items ≡ []
no_items items none = let zero = zero_is (length items) none in none_below items (omega (arith, zero))

recorded_bare : (database : PlainDatabase) → has_violations database ≡ false → recording.recorded_as [] database ≡ database
recorded_bare [] none = refl
recorded_bare (named ∷ database) none =
    let parts = neither (not (is_none named.table.violations)) (has_violations database) none in
    let own = no_items named.table.violations (bool_true (is_none named.table.violations) parts.0) in
    let more = recorded_bare database parts.1 in
    λ i. record {
      name = named.name;
      table = record { schema = named.table.schema; rows = named.table.rows; conflicts = named.table.conflicts; violations = sym own i };
    } ∷ more i

-- a database without violations that has recorded none stays
pub stays_recorded : (address : List ℕ → List ℕ) (chunks : Chunks) (k : List ℕ) (list : List ListedViolation) (database : PlainDatabase) → AllAreRecorded → IsKeptAt address chunks k database
    → list ≡ flat_map (written_in database) (violations checks database) → is_none list ≡ true → has_violations database ≡ false → recorded database ≡ database
stays_recorded address chunks k list database laws kept is none bare =
    let can = laws.recordable address chunks k database kept in
    let nothing = none_found database (violations checks database) can.stand (sym is ∙ no_items list none) in
    sym (all_recorded laws database kept.stands.is_database)
    ∙ ap (λ (found : List Found). recording.recorded_as found database) nothing
    ∙ recorded_bare database bare
