-- What calls that aren't decided on make of a session's own record, and the session after them.
use Rattle.std.proofs.Common.{◌≡◌, refl, sym, ◌∙◌, ap, subst, inl, ℕ, Bool, true, not, List, [], codes, Option, None, Some, is_some, Result, Ok, Err, IfOk, if◌then◌else◌}
use Rattle.std.specs.Prelude.{◌&&◌, nat_lt}
use Rattle.std.specs.Option.{option_map}
use Rattle.std.proofs.lemmas.Bool.{and_parts}
use Rattle.tuple_codec.specs.declared.addresses.Address.{Address}
use Rattle.tuple_codec.specs.declared.records.BranchRecord.{BranchRecord}
use Rattle.chunk_store.specs.Chunks.{Chunks, chunk_bytes}
use Rattle.chunk_store.specs.Drafts.{Drafting, Grows, chunks_of}
use Rattle.chunk_store.specs.declared.faults.PutFault.{PutFault}
use Rattle.chunk_store.specs.declared.faults.PutFault.TheVariants.{Memory, Collision}
use Rattle.chunk_store.specs.Laws.{DraftsFollow, DraftsGrow}
use Rattle.chunk_store.specs.Kinds.{is_data}
use Rattle.table_root.specs.Kept.{IsKeptAt}
use Rattle.expr_eval.specs.Binding.{Outcome, and_then}
use Rattle.plain_sql.specs.Lists.{unless}
use Rattle.schema_model.specs.PlainCommits.{Commits, is_known}
use Rattle.script_text.specs.Collisions.{IsFault, TellsTruly}
use Rattle.script_text.specs.Output.{refusal_text}
use Rattle.script_text.specs.declared.replies.Reply.{Reply}
use Rattle.script_text.specs.declared.replies.Reply.TheVariants.{Done, Count, Rows, Refused, Syntax, Collided}
use Rattle.sql_procedures.specs.declared.requests.MergeOf.{MergeOf}
use Rattle.sql_procedures.specs.declared.requests.MergeRequest.TheVariants as merging
use Rattle.schema_merge.specs.RootMerge.{MergedDatabase}
use Rattle.plain_sessions.specs.Merging.{Worked, Answers, Closes, Joining, base_root, in_progress, merge, merge_made, merge_message, merge_reply, merged_with}
use Rattle.plain_sessions.specs.Records.{BranchState, clean_at, root_of}
use Rattle.plain_sessions.specs.Replies.{refused}
use Rattle.plain_sessions.specs.Sessions as plain
use Rattle.plain_sessions.specs.Sessions.{Transaction, own_root, with_own, within}
use Rattle.plain_sessions.specs.Statements.{worked}
use Rattle.plain_sessions.specs.declared.commands.Command.TheVariants as command
use Rattle.plain_sessions.specs.declared.commands.Work.{Work}
use Rattle.root_merge.specs.Merging.{AreRoots}
use Rattle.session_state.specs.Commits.{CommitsAreThere}
use Rattle.session_state.specs.Laws.{RecordsFollow, TransactionsFollow}
use Rattle.session_state.specs.Records.{RecordStands}
use Rattle.session_state.specs.Standing.{IsInTransaction, SessionStands}
use Rattle.session_state.specs.declared.sessions.Session.{Session}
use Rattle.session_plan.specs.Answering.{AnswersAlone}
use Rattle.session_plan.specs.Showing.{IsDue, is_plain_reply, is_sound_reply}
use Rattle.session_plan.proofs.AloneLemmas.{answers_due, answers_so, collides, starves, takes_none, worked_ill, worked_well}
use Rattle.session_plan.proofs.ShowLemmas.{due_truly, plain_told}
use Rattle.session_plan.proofs.LocalLemmas.{grown_by, own_in}
use Rattle.merge_procs.specs.Databases.{IsMet}
use Rattle.merge_procs.specs.Courses.{IsMergeCourse}
use Rattle.merge_procs.specs.Steps.{IsMade, IsStep, IsToldFault}
use Rattle.merge_procs.specs.Ways.{IsThree}
use Rattle.merge_procs.specs.declared.courses.Closing.TheVariants as closing
use Rattle.merge_procs.specs.declared.courses.MergeCourse.TheVariants as course
use Rattle.merge_procs.specs.declared.databases.Met.TheVariants as met
use Rattle.merge_procs.specs.declared.steps.Made.{Made}
use Rattle.merge_procs.specs.declared.steps.Step.{Step}
use Rattle.merge_procs.specs.declared.steps.Step.TheVariants as step
use Rattle.merge_procs.specs.declared.ways.Three.{Three}

pub if_so : {A E : Type 0} (P Q : A → Type 0) (result : Result A E) → ((a : A) → P a → Q a) → IfOk result P → IfOk result Q
if_so P Q (Ok a) so holds = so a holds
if_so P Q (Err e) so holds = tt

-- ---- the own record

-- it goes on standing where data came into the draft
pub later : (address : List ℕ → List ℕ) (old new : Drafting) (commits : Commits) (rec : BranchRecord) (state : BranchState) → DraftsFollow → DraftsGrow → RecordsFollow
    → Grows is_data old new → RecordStands address (chunks_of old.chunks) commits rec state → RecordStands address (chunks_of new.chunks) commits rec state
later address old new commits rec state drafts growth records grows stands =
    records.later address (chunks_of old.chunks) (chunks_of new.chunks) commits commits rec state
    (drafts.longer_extends old.chunks new.chunks (growth.is_longer is_data old new grows)) (λ k known. known) stands

pub own_stands : {D : Type 0} (address : List ℕ → List ℕ) (session : Session D) (p : plain.Session) (t : Transaction) → SessionStands address session p → p.transaction ≡ Some t
    → RecordStands address (chunks_of session.draft.chunks) t.commits session.own t.own
own_stands address session p t stands there = let own = own_in address session p t stands there in own.stands

pub has_own : {D : Type 0} (address : List ℕ → List ℕ) (session : Session D) → IsInTransaction address session
    → (commits : Commits) × (state : BranchState) × RecordStands address (chunks_of session.draft.chunks) commits session.own state
has_own address session (p, t, stands, there) = (t.commits, t.own, own_stands address session p t stands there)

-- ---- DOLT_MERGE('--abort')

-- what is needed to read the head's database
pub has_head : {D : Type 0} (address : List ℕ → List ℕ) (session : Session D) → IsInTransaction address session
    → (commits : Commits) × CommitsAreThere address (chunk_bytes session.draft.chunks.base) commits × (is_known commits session.own.head.0 ≡ true)
has_head address session (p, t, stands, there) =
    let own = own_in address session p t stands there in
    let kept = own.stands in
    (t.commits, own.all_there, ap (is_known t.commits) kept.head ∙ kept.head_known)

some_there : (found : Option Address) → is_some found ≡ true → is_some (option_map (λ (k : Address). k.0) found) ≡ true
some_there None h = absurd (cc)
some_there (Some k) h = refl

pub aborts : {D : Type 0} (address : List ℕ → List ℕ) (session : Session D) (p : plain.Session) (t : Transaction) (root : Address) (made : Step) → SessionStands address session p
    → p.transaction ≡ Some t → is_some session.own.merging ≡ true
    → ((commits : Commits) → CommitsAreThere address (chunk_bytes session.draft.chunks.base) commits → is_known commits session.own.head.0 ≡ true
    → IsKeptAt address (chunks_of session.draft.chunks) root.0 (root_of commits session.own.head.0))
    → made ≡ step.Made (record { rec = record { head = session.own.head; working = root; staged = root; merging = None }; reply = merge_reply [] 0 0 (codes "merge aborted") })
    → IsStep address (chunks_of session.draft.chunks) t.commits made (merge p t merging.Abort)
aborts address session p t root made stands there h read is =
    let own = own_in address session p t stands there in
    let kept = own.stands in
    let done : Outcome Worked = Ok (Answers (merge_reply [] 0 0 (codes "merge aborted")) (clean_at t.own.head (own_root t))) in
    let at = subst (λ (k : List ℕ). IsKeptAt address (chunks_of session.draft.chunks) root.0 (root_of t.commits k)) kept.head (read t.commits own.all_there (ap (is_known t.commits) kept.head ∙ kept.head_known)) in
    subst (λ (s : Step). IsStep address (chunks_of session.draft.chunks) t.commits s (merge p t merging.Abort)) (sym is) (record {
      own = clean_at t.own.head (own_root t);
      is = ap (λ (b : Bool). unless (not b) 9012 done) (ap is_some (sym kept.merging) ∙ some_there session.own.merging h);
      plain = refl;
      well = refl;
      stands = record { head = kept.head; working = at; staged = at; merging = refl; head_known = kept.head_known; merging_known = refl };
    })

-- ---- DOLT_MERGE of a commit

pub stays : {D : Type 0} (address : List ℕ → List ℕ) (session : Session D) (p : plain.Session) (t : Transaction) (made : Step) (wanted : Outcome Worked) → SessionStands address session p
    → p.transaction ≡ Some t → wanted ≡ Ok (Answers (merge_reply [] 0 0 (codes "up to date")) t.own)
    → made ≡ step.Made (record { rec = session.own; reply = merge_reply [] 0 0 (codes "up to date") })
    → IsStep address (chunks_of session.draft.chunks) t.commits made wanted
stays address session p t made wanted stands there comes is =
    subst (λ (s : Step). IsStep address (chunks_of session.draft.chunks) t.commits s wanted) (sym is)
    (record { own = t.own; is = comes; plain = refl; well = refl; stands = own_stands address session p t stands there })

-- the databases of the three
pub three_roots : (address : List ℕ → List ℕ) (chunks : Chunks) (t : Transaction) (request : MergeOf) (three : Three) → IsThree address chunks t request three
    → AreRoots address chunks three.base three.ours three.theirs (base_root t three.other.0) (own_root t) (root_of t.commits three.other.0)
three_roots address chunks t request three is = record { base_root = is.base; our_root = is.ours; their_root = is.theirs }

pub opens : (address : List ℕ → List ℕ) (old new : Drafting) (own : BranchRecord) (p : plain.Session) (t : Transaction) (request : MergeOf) (three : Three) (working : Address) (made : Step)
    → DraftsFollow → DraftsGrow → RecordsFollow → RecordStands address (chunks_of old.chunks) t.commits own t.own → IsThree address (chunks_of old.chunks) t request three
    → Grows is_data old new → IsMet address (chunks_of new.chunks) (met.Open working) (merged_with t three.other.0)
    → made ≡ step.Made (record { rec = record own { working = working; merging = Some three.other }; reply = merge_reply [] 0 1 (codes "conflicts found") })
    → IsStep address (chunks_of new.chunks) t.commits made (merge p t (merging.Merge request))
opens address old new own p t request three working made drafts growth records stands is grows (merged, comes, clean, kept) made_is =
    let after = later address old new t.commits own t.own drafts growth records grows stands in
    let closes : Worked = Closes (Joining merged.database three.other.0 (merge_message p request)) in
    let answers : Worked = Answers (merge_reply [] 0 1 (codes "conflicts found")) (in_progress t.own three.other.0 merged) in
    subst (λ (s : Step). IsStep address (chunks_of new.chunks) t.commits s (merge p t (merging.Merge request))) (sym made_is) (record {
      own = in_progress t.own three.other.0 merged;
      is = is.is p ∙ ap (λ (o : Outcome MergedDatabase). and_then o (λ merged. Ok (merge_made p t request three.other.0 merged))) comes
          ∙ ap (λ (b : Bool). let o : Outcome Worked = Ok (if b then closes else answers) in o) clean;
      plain = refl;
      well = refl;
      stands = record { head = after.head; working = kept; staged = after.staged; merging = refl; head_known = after.head_known; merging_known = is.other_known };
    })

-- what the databases can't be merged into refuses the call
pub refuses_merged : (address : List ℕ → List ℕ) (old new : Chunks) (p : plain.Session) (t : Transaction) (request : MergeOf) (three : Three) (number : ℕ) → IsThree address old t request three
    → IsMet address new (met.Refused number) (merged_with t three.other.0) → merge p t (merging.Merge request) ≡ Err number
refuses_merged address old new p t request three number is comes =
    is.is p ∙ ap (λ (o : Outcome MergedDatabase). and_then o (λ merged. Ok (merge_made p t request three.other.0 merged))) comes

-- a clean merge has its decision, on the database that was merged
pub closes_clean : (address : List ℕ → List ℕ) (old new : Chunks) (p : plain.Session) (t : Transaction) (request : MergeOf) (three : Three) (root : Address) (message : List ℕ)
    → IsThree address old t request three → IsMet address new (met.Clean root) (merged_with t three.other.0) → message ≡ merge_message p request
    → IsMergeCourse address new t.commits (course.Closes (closing.Join (record { root = root; other = three.other; message = message }))) (merge p t (merging.Merge request))
closes_clean address old new p t request three root message is (merged, comes, clean, kept) says =
    let closes : Worked = Closes (Joining merged.database three.other.0 (merge_message p request)) in
    let answers : Worked = Answers (merge_reply [] 0 1 (codes "conflicts found")) (in_progress t.own three.other.0 merged) in (
      Joining merged.database three.other.0 message,
      is.is p ∙ ap (λ (o : Outcome MergedDatabase). and_then o (λ merged. Ok (merge_made p t request three.other.0 merged))) comes
          ∙ ap (λ (b : Bool). let o : Outcome Worked = Ok (if b then closes else answers) in o) clean
          ∙ ap (λ (m : List ℕ). let o : Outcome Worked = Ok (Closes (Joining merged.database three.other.0 m)) in o) (sym says),
      record { database = merged.database; is = refl; kept = kept; known = is.other_known },
    )

-- ---- what is answered

made_stands : {D : Type 0} (address : List ℕ → List ℕ) (old : Session D) (own : BranchRecord) (p : plain.Session) (t : Transaction) (state : BranchState) → DraftsFollow → TransactionsFollow
    → p.transaction ≡ Some t → SessionStands address old p → RecordStands address (chunks_of old.draft.chunks) t.commits own state
    → SessionStands address (record old { own = own }) (within p (with_own state t))
made_stands address old own p t state drafts follow there stands made = record {
  name = stands.name;
  number = stands.number;
  branch = stands.branch;
  autocommit = stands.autocommit;
  allow = stands.allow;
  force = stands.force;
  position = stands.position;
  transaction = grown_by address old.draft.chunks old.draft.chunks old.start old.own own p.transaction t state follow there (drafts.longer_itself old.draft.chunks) stands.transaction (λ before. made);
  named = stands.named;
  plain_own = stands.plain_own;
  committer = stands.committer;
}

module _ {D : Type 0} (address : List ℕ → List ℕ) (old : Session D) (p : plain.Session) (t : Transaction) (asked : Work) (there : p.transaction ≡ Some t) (stands : SessionStands address old p) where
  pub made_answers : (made : Made) → DraftsFollow → TransactionsFollow → IsMade address (chunks_of old.draft.chunks) t.commits made (worked p t asked)
      → AnswersAlone address p (command.Data asked) (record old { own = made.rec }) made.reply
  made_answers made drafts follow is =
      answers_so address (record old { own = made.rec }) p (within p (with_own is.own t)) (command.Data asked) made.reply (worked_well p t asked made.reply is.own there is.is)
      (plain_told made.reply is.plain) (made_stands address old made.rec p t is.own drafts follow there stands is.stands)

  pub refusal_answers : (number : ℕ) (reply : Reply) → worked p t asked ≡ Err number → IsDue 1 (refused number) reply → AnswersAlone address p (command.Data asked) old reply
  refusal_answers number reply is due = answers_due address old p p (command.Data asked) (refused number) reply (worked_ill p t asked number there is) due stands stands

  pub fault_answers : (fault : PutFault) (reply : Reply) → IsToldFault fault reply → AnswersAlone address p (command.Data asked) old reply
  fault_answers Memory reply told = starves address old p (command.Data asked) reply stands told
  fault_answers (Collision clash) reply told = collides address old p (command.Data asked) clash reply told (takes_none p t asked there) stands

and_both : {a : Bool} → a ≡ true → (a && a) ≡ true
and_both known = λ i. known i && known i

pub plain_sound : (reply : Reply) → is_plain_reply reply ≡ true → is_sound_reply reply ≡ true
plain_sound Done h = refl
plain_sound (Count rows) h = refl
plain_sound (Rows answer) h = h
plain_sound (Refused number) h = and_both (and_parts (is_some (refusal_text number)) (nat_lt 3 number) h).0
plain_sound (Syntax at) h = refl
plain_sound (Collided clash) h = absurd (cc)

pub plain_truly : (address : List ℕ → List ℕ) (reply : Reply) → is_plain_reply reply ≡ true → TellsTruly address reply
plain_truly address reply h = due_truly address 1 reply reply (inl (h, refl))

pub fault_truly : (address : List ℕ → List ℕ) (fault : PutFault) (reply : Reply) → IsToldFault fault reply → IsFault address fault → TellsTruly address reply
fault_truly address Memory reply told is = subst (λ (r : Reply). TellsTruly address r) (sym told) tt
fault_truly address (Collision clash) reply told is = subst (λ (r : Reply). TellsTruly address r) (sym told) is

-- ---- which step it was

pub step_as : (address : List ℕ → List ℕ) (chunks : Chunks) (commits : Commits) (found : Step) (wanted : Outcome Worked) (other : Step) → found ≡ other → IsStep address chunks commits found wanted
    → IsStep address chunks commits other wanted
step_as address chunks commits found wanted other is stands = subst (λ (s : Step). IsStep address chunks commits s wanted) is stands
