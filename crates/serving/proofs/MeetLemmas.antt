-- A statement that needs a moment: what its waiting tells, what its first moment comes to, and where its session goes then.
use Rattle.std.proofs.Common.{◌≡◌, refl, ◌∙◌, sym, ap, subst, ℕ, ◌+◌, ℤ, Bool, true, false, List, Option, Some, None, Ok, Err, IfOk, IfErr, option_map, slice_get, if◌then◌else◌}
use Rattle.std.specs.Prelude.{Result}
use Rattle.tuple_codec.proofs.Options.{none_mapped}
use Rattle.chunk_store.specs.Chunks.{Chunks, Lists}
use Rattle.chunk_store.specs.Drafts.{chunks_of}
use Rattle.chunk_store.specs.declared.faults.PutFault.{PutFault}
use Rattle.expr_eval.specs.Binding.{Outcome, and_then}
use Rattle.script_text.specs.Output.{Shortage}
use Rattle.script_text.specs.declared.replies.Reply.{Reply}
use Rattle.script_text.specs.declared.replies.Reply.TheVariants as print
use Rattle.schema_model.specs.PlainTables.{PlainDatabase, PlainTable}
use Rattle.tuple_codec.specs.declared.answers.Answer.{Answer}
use Rattle.plain_writes.specs.Writes.{Effect}
use Rattle.plain_writes.specs.Violations.{table_in}
use Rattle.plain_schemas.specs.Statements.{write_effect}
use Rattle.plain_sql.specs.Lists.{or_refuse}
use Rattle.plain_sql.specs.Plans as plans
use Rattle.sql_ast.specs.declared.statements.Delete.{Delete}
use Rattle.sql_ast.specs.declared.statements.Setting.{Setting}
use Rattle.sql_ast.specs.declared.statements.Write.{Write}
use Rattle.sql_ast.specs.declared.statements.Write.TheVariants as write
use Rattle.sql_procedures.specs.declared.requests.BranchRequest.{BranchRequest}
use Rattle.sql_procedures.specs.declared.requests.CheckoutRequest.{CheckoutRequest}
use Rattle.sql_procedures.specs.declared.requests.MergeRequest.TheVariants as merging
use Rattle.sql_rules.specs.Writes.{is_below}
use Rattle.plain_sessions.specs.Branching.{add, reset_to}
use Rattle.plain_sessions.specs.Merging.{Worked, Answers, Closes, Ending, resolve}
use Rattle.plain_sessions.specs.Moments.{alone, alone_by, effect_alone, ends_by_set, moment_in, past, past_moment, takes_start}
use Rattle.plain_sessions.specs.Records.{BranchState, Shared}
use Rattle.plain_sessions.specs.Replies.{done, refused}
use Rattle.plain_sessions.specs.Runs.{awaiting}
use Rattle.plain_sessions.specs.Sessions as plain
use Rattle.plain_sessions.specs.Sessions.{Before, Place, Said, Transaction, is_before_statement, is_changed, over, own_root, with_variable}
use Rattle.plain_sessions.specs.Statements.{changed, or_of_rows, resolve_worked, staged, worked, write_worked}
use Rattle.plain_sessions.specs.SystemTables as system
use Rattle.plain_sessions.specs.SystemTables.{delete_by, delete_conflicts, delete_violations, known}
use Rattle.plain_sessions.specs.declared.commands.Command.{Command}
use Rattle.plain_sessions.specs.declared.commands.Command.TheVariants as command
use Rattle.plain_sessions.specs.declared.commands.Work.{Work}
use Rattle.plain_sessions.specs.declared.commands.Work.TheVariants as work
use Rattle.session_state.specs.Changes.{Parts, StateStands}
use Rattle.session_state.specs.declared.sessions.Position.TheVariants as place
use Rattle.session_state.specs.declared.sessions.Session.{Session}
use Rattle.shared_history.specs.Meeting.{Tells}
use Rattle.merge_procs.specs.Closing.{is_closing}
use Rattle.merge_procs.proofs.ClosingLemmas.{abort_stays}
use Rattle.serving.specs.Answering.{Answered, Concluded, HasMet, HasStartedTo, place_after}
use Rattle.serving.specs.Branching.{Went}
use Rattle.serving.specs.Kinds.{may_close}
use Rattle.serving.specs.Meetings.{InOneMoment, IsBeforeAt}
use Rattle.serving.specs.Serving.{Awaits, Concludes, Fails, IsBefore, IsBetween, Meets, Starts}
use Rattle.serving.specs.Starting.{HasBegun}
use Rattle.serving.specs.Steps.{number_at}
use Rattle.serving.specs.declared.meeting.Begun.{Begun}
use Rattle.serving.specs.declared.meeting.Met.{Met}
use Rattle.serving.specs.declared.meeting.Met.TheVariants as met
use Rattle.serving.specs.declared.courses.Found.{Found}
use Rattle.serving.specs.declared.meeting.Pending.{Pending}
use Rattle.serving.specs.declared.meeting.Pending.TheVariants as pending
use Rattle.serving.proofs.AnswerLemmas.{same_number, short_alone, went_of}
use Rattle.serving.proofs.BeginLemmas.{changed_open as open_of}
use Rattle.serving.proofs.BranchLemmas.{gone_on, next_stands}
use Rattle.serving.proofs.FoundLemmas.{before_found, in_moment}
use Rattle.serving.proofs.StateLemmas.{stands_noted}

-- ---- what waits for a moment

-- before a statement it is the statement itself that waits
pub waits_by : (answer : Option Shortage) (p : plain.Session) (asked : Command) → p.place ≡ Before → alone answer p asked ≡ None → alone_by answer p asked ≡ None
waits_by answer p asked before waits =
    none_mapped (past p.statement) (alone_by answer p asked)
    (sym (ap (λ (at : Place). option_map (past p.statement) (if is_before_statement at then alone_by answer p asked else None)) before) ∙ waits)

ends_waiting : (test : Bool) (said : Said) → ◌≡◌ {A = Option Said} (if test then None else Some said) None → test ≡ true
ends_waiting true said is = refl
ends_waiting false said is = absurd (cc)

sets_waiting : (ends test : Bool) (well other : Said) → ◌≡◌ {A = Option Said} (if ends then (if test then None else Some well) else Some other) None → (ends ≡ true) × (test ≡ true)
sets_waiting true true well other is = (refl, refl)
sets_waiting true false well other is = absurd (cc)
sets_waiting false test well other is = absurd (cc)

leaves_waiting : (test : Bool) (said : Said) → ◌≡◌ {A = Option Said} (if test then Some said else None) None → test ≡ false
leaves_waiting true said is = absurd (cc)
leaves_waiting false said is = refl

pub commit_waits : (p : plain.Session) → effect_alone p command.CommitAll ≡ None → is_changed p ≡ true
commit_waits p waits = ends_waiting (is_changed p) (over p, done) waits

pub switch_waits : (p : plain.Session) (setting : Setting) → effect_alone p (command.Switch setting) ≡ None
    → (ends_by_set p setting.variable setting.on ≡ true) × (is_changed p ≡ true)
switch_waits p setting waits =
    sets_waiting (ends_by_set p setting.variable setting.on) (is_changed p) (with_variable setting.variable setting.on (over p), done)
    (with_variable setting.variable setting.on p, done) waits

pub checkout_waits : (p : plain.Session) (request : CheckoutRequest) → effect_alone p (command.Checkout request) ≡ None → is_changed p ≡ false
checkout_waits p request waits = leaves_waiting (is_changed p) (p, refused 9006) waits

-- ---- a database statement of another kind has no decision of its own

stays_then : {A : Type 0} (outcome : Outcome A) (f : A → Outcome Worked) → ((a : A) → is_closing (f a) ≡ false) → is_closing (and_then outcome f) ≡ false
stays_then (Ok a) f each = each a
stays_then (Err number) f each = refl

effect_stays : (own : BranchState) (outcome : Outcome Effect) → is_closing (changed own outcome) ≡ false
effect_stays own (Ok effect) = refl
effect_stays own (Err number) = refl

conflicts_stay : (own : BranchState) (delete : Delete) (name : List ℕ) (table : PlainTable) → is_closing (delete_conflicts own delete name table) ≡ false
conflicts_stay own delete name table =
    stays_then (system.tests_on (system.conflict_columns table.schema) delete) (λ tests.
    and_then (system.entries_left tests (system.conflict_row table.schema) table.conflicts) (λ left. Ok (system.keeping_conflicts own name table left))) (λ tests.
    stays_then (system.entries_left tests (system.conflict_row table.schema) table.conflicts) (λ left. Ok (system.keeping_conflicts own name table left)) (λ left. refl))

violations_stay : (own : BranchState) (delete : Delete) (name : List ℕ) (table : PlainTable) → is_closing (delete_violations own delete name table) ≡ false
violations_stay own delete name table =
    stays_then (system.tests_on (system.violation_columns table.schema) delete) (λ tests.
    and_then (system.entries_left tests system.violation_row table.violations) (λ left. Ok (system.without_violations own name table left))) (λ tests.
    stays_then (system.entries_left tests system.violation_row table.violations) (λ left. Ok (system.without_violations own name table left)) (λ left. refl))

rows_stay : (own : BranchState) (delete : Delete) (one two : Bool) (first second : Outcome Worked) → is_closing first ≡ false → is_closing second ≡ false
    → is_closing (or_of_rows own delete (if one then Some first else (if two then Some second else None))) ≡ false
rows_stay own delete true two first second left right = left
rows_stay own delete false true first second left right = right
rows_stay own delete false false first second left right = effect_stays own (write_effect own.working (write.Delete delete))

write_stays : (own : BranchState) (statement : Write) → is_closing (write_worked own statement) ≡ false
write_stays own (write.Create table) = effect_stays own _
write_stays own (write.Drop table) = effect_stays own _
write_stays own (write.Insert insert) = effect_stays own _
write_stays own (write.Update update) = effect_stays own _
write_stays own (write.Delete delete) =
    let conflicts = system.behind system.conflicts_front delete.table in
    let violations = system.behind system.violations_front delete.table in
    rows_stay own delete (is_below system.conflicts_front delete.table) (is_below system.violations_front delete.table)
    (delete_by (delete_conflicts own delete) own conflicts) (delete_by (delete_violations own delete) own violations)
    (stays_then (or_refuse 1146 (table_in own.working conflicts)) (delete_conflicts own delete conflicts) (conflicts_stay own delete conflicts))
    (stays_then (or_refuse 1146 (table_in own.working violations)) (delete_violations own delete violations) (violations_stay own delete violations))
write_stays own (write.Alter alter) = effect_stays own _

staged_stays : (outcome : Outcome BranchState) → is_closing (staged outcome) ≡ false
staged_stays (Ok own) = refl
staged_stays (Err number) = refl

resolved_stays : (own : BranchState) (outcome : Outcome PlainDatabase) → is_closing (resolve_worked own outcome) ≡ false
resolved_stays own (Ok database) = refl
resolved_stays own (Err number) = refl

asked_stays : (own : BranchState) (outcome : Outcome Answer) → is_closing (and_then outcome (λ answer. Ok (Answers (print.Rows answer) own))) ≡ false
asked_stays own (Ok answer) = refl
asked_stays own (Err number) = refl

work_stays : (p : plain.Session) (t : Transaction) (asked : Work) → may_close asked ≡ false → is_closing (worked p t asked) ≡ false
unfolding worked
work_stays p t (work.Ask query) apart = asked_stays t.own (plans.answer (known t) query)
work_stays p t (work.Change statement) apart = write_stays t.own statement
work_stays p t (work.Add tables) apart = staged_stays (add tables t.own)
work_stays p t (work.ResetTo reset) apart = staged_stays (reset_to (own_root t) reset t.own)
work_stays p t (work.Commit request) apart = absurd (cc)
work_stays p t (work.Merge merging.Abort) apart = sym (abort_stays p t)
work_stays p t (work.Merge (merging.Merge request)) apart = absurd (cc)
work_stays p t (work.Resolve request) apart = resolved_stays t.own (resolve request t.own.working)
work_stays p t (work.Verify way) apart = refl

-- so one that has such a decision may have it
pub closing_may : (p : plain.Session) (t : Transaction) (asked : Work) (ending : Ending) → worked p t asked ≡ Ok (Closes ending) → may_close asked ≡ true
closing_may p t asked ending is = by (may_close asked) refl where
  by : (test : Bool) → may_close asked ≡ test → test ≡ true
  by true so = refl
  by false so = let never : true ≡ false = sym (ap is_closing is) ∙ work_stays p t asked so in absurd (cc)

-- ---- what the first moment comes to, by the kind of statement

module _ {D : Type 0} (address : List ℕ → List ℕ) (epoch : ℤ) (old session : Session D) (m n : Tells) (reply : Reply) where
  abbrev pub AnswersIn : ℤ → plain.Session → Command → Type 0
  AnswersIn e p asked = InOneMoment address (λ found shared left. Answered address e p asked shared found left session reply) m n

  abbrev pub WentIn : ℤ → plain.Session → Command → Type 0
  WentIn e p asked = InOneMoment address (λ found shared left. Went address e p asked shared found left session reply) m n

  abbrev pub GoesBy : Command → Type 0
  GoesBy asked = (p : plain.Session) → IsBeforeAt address old m p → alone None p asked ≡ None → WentIn epoch p asked

  goes_as : (asked one : Command) → asked ≡ one → GoesBy one → GoesBy asked
  goes_as asked one is goes = subst GoesBy (sym is) goes

  -- it stays on its branch
  stays_on : (p : plain.Session) → IsBeforeAt address old m p → (asked : Command) → AnswersIn epoch p asked → WentIn epoch p asked
  stays_on p before asked moment =
      in_moment address (λ found shared left. Answered address epoch p asked shared found left session reply) (λ found shared left. Went address epoch p asked shared found left session reply) m n
      (λ found is shared stands left answered. went_of address epoch old session found p shared (before_found address old m p before found is shared stands) asked left reply answered) moment

  pub begin_goes : (asked : Command) → asked ≡ command.Begin → ((e : ℤ) (p : plain.Session) → IsBeforeAt address old m p → AnswersIn e p command.Begin) → GoesBy asked
  begin_goes asked is answered = goes_as asked command.Begin is (λ p before waits. stays_on p before command.Begin (answered epoch p before))

  pub commit_goes : (asked : Command) → asked ≡ command.CommitAll
      → ((e : ℤ) (p : plain.Session) (t : Transaction) → IsBeforeAt address old m p → p.transaction ≡ Some t → is_changed p ≡ true → AnswersIn e p command.CommitAll)
      → GoesBy asked
  commit_goes asked is answered =
      goes_as asked command.CommitAll is (λ p before waits.
      let changed = commit_waits p (waits_by None p command.CommitAll before.before waits) in
      let held = open_of p changed in
      stays_on p before command.CommitAll (answered epoch p held.0 before held.1 changed))

  pub switch_goes : (asked : Command) (setting : Setting) → asked ≡ command.Switch setting
      → ((e : ℤ) (p : plain.Session) (t : Transaction) → IsBeforeAt address old m p → p.transaction ≡ Some t → is_changed p ≡ true
      → ends_by_set p setting.variable setting.on ≡ true → AnswersIn e p (command.Switch setting))
      → GoesBy asked
  switch_goes asked setting is answered =
      goes_as asked (command.Switch setting) is (λ p before waits.
      let ends = switch_waits p setting (waits_by None p (command.Switch setting) before.before waits) in
      let held = open_of p ends.1 in
      stays_on p before (command.Switch setting) (answered epoch p held.0 before held.1 ends.1 ends.0))

  pub branches_go : (asked : Command) (request : BranchRequest) → asked ≡ command.OnBranches request
      → ((e : ℤ) (p : plain.Session) → IsBeforeAt address old m p → WentIn e p (command.OnBranches request)) → GoesBy asked
  branches_go asked request is went = goes_as asked (command.OnBranches request) is (λ p before waits. went epoch p before)

  pub checkout_goes : (asked : Command) (request : CheckoutRequest) → asked ≡ command.Checkout request
      → ((e : ℤ) (p : plain.Session) → IsBeforeAt address old m p → is_changed p ≡ false → WentIn e p (command.Checkout request)) → GoesBy asked
  checkout_goes asked request is went =
      goes_as asked (command.Checkout request) is (λ p before waits.
      went epoch p before (checkout_waits p request (waits_by None p (command.Checkout request) before.before waits)))

-- what the callees ask of the transaction
pub commit_opens : (asked : Command) → asked ≡ command.CommitAll → (p : plain.Session) → p.place ≡ Before → alone None p asked ≡ None → (t : Transaction) × (p.transaction ≡ Some t)
commit_opens asked is p before waits = open_of p (commit_waits p (waits_by None p command.CommitAll before (subst (λ (one : Command). alone None p one ≡ None) is waits)))

pub switch_opens : (asked : Command) (setting : Setting) → asked ≡ command.Switch setting → (p : plain.Session) → p.place ≡ Before → alone None p asked ≡ None
    → (t : Transaction) × (p.transaction ≡ Some t)
switch_opens asked setting is p before waits =
    open_of p (switch_waits p setting (waits_by None p (command.Switch setting) before (subst (λ (one : Command). alone None p one ≡ None) is waits))).1

pub checkout_keeps : (asked : Command) (request : CheckoutRequest) → asked ≡ command.Checkout request → (p : plain.Session) → p.place ≡ Before → alone None p asked ≡ None → is_changed p ≡ false
checkout_keeps asked request is p before waits =
    checkout_waits p request (waits_by None p (command.Checkout request) before (subst (λ (one : Command). alone None p one ≡ None) is waits))

-- ---- to the next statement, or to the decision

module _ {D : Type 0} (address : List ℕ → List ℕ) (epoch : ℤ) (old session : Session D) (number : ℕ) (parts new : Parts) (asked : Command) (counted : number ≡ number_at old.position) where
  not_before : (chunks : Chunks) (wanted : Pending) (q : plain.Session) (t : Transaction) (one : Work) → Awaits address chunks wanted q t one → is_before_statement q.place ≡ false
  not_before chunks (pending.Between reply) q t one awaits = ap is_before_statement awaits.0
  not_before chunks (pending.Closing had) q t one awaits = ap is_before_statement awaits.0

  rests : (wanted : Pending) (p : plain.Session) (shared : Shared) → IsBefore address old parts p shared → HasStartedTo address epoch p asked shared parts new session wanted
      → Starts address epoch p asked shared parts new (record session { position = place.Between number }) wanted
  rests wanted p shared before h =
      let q = awaiting p h.transaction h.place in
      let statement : number ≡ p.statement = counted ∙ same_number old.position p.statement p.place before.session_stands.position in
      record {
        transaction = h.transaction;
        place = h.place;
        outside = h.outside;
        started = ap (λ (at : Place). option_map (past_moment p.statement) (moment_in address epoch None shared p asked at)) before.before
            ∙ ap (option_map (past_moment p.statement)) h.started;
        next = record {
          here = record {
            session_stands = record {
              name = h.session_stands.name;
              number = h.session_stands.number;
              branch = h.session_stands.branch;
              autocommit = h.session_stands.autocommit;
              allow = h.session_stands.allow;
              force = h.session_stands.force;
              position = (statement, not_before (chunks_of session.draft.chunks) wanted q h.transaction h.work h.awaits);
              transaction = h.session_stands.transaction;
              named = h.session_stands.named;
              plain_own = h.session_stands.plain_own;
              committer = h.session_stands.committer;
            };
            state_stands = subst (λ (at : Parts). StateStands address at shared) (sym h.new_is) (stands_noted address p.number p.statement parts shared before.state_stands);
            placed = before.placed;
            later = subst (λ (at : Parts). Lists session.draft.chunks.base at.chunks) (sym h.new_is) h.later;
          };
          work = h.work;
          asked_is = h.asked_is;
          transaction = h.transaction;
          has = refl;
          awaits = h.awaits;
        };
        new_is = h.new_is;
      }

  pub passed_on : (gone : Session D) (m : Met) → gone ≡ record session { position = place_after number m } → (p : plain.Session) (shared : Shared) → IsBefore address old parts p shared
      → HasMet address epoch p asked shared parts new session m → Meets address epoch p asked shared parts new gone m
  passed_on gone (met.Answered reply) is p shared before went = gone_on address epoch old session gone number parts new asked reply counted is p shared before went
  passed_on gone (met.Pending wanted) is p shared before started =
      subst (λ (s : Session D). Starts address epoch p asked shared parts new s wanted) (sym is) (rests wanted p shared before started)

-- ---- behind the decision

pub concluded_on : {D : Type 0} (address : List ℕ → List ℕ) (epoch : ℤ) (old session gone : Session D) (number : ℕ) (parts new : Parts) (asked : Command) (wanted : Pending) (reply : Reply)
    → number ≡ number_at old.position → gone ≡ record session { position = place.Before (number + 1) } → (q : plain.Session) (shared : Shared)
    → IsBetween address old parts q asked wanted shared → Concluded address epoch q asked shared parts new session reply → Concludes address epoch q asked shared parts new gone reply
concluded_on {D = D} address epoch old session gone number parts new asked wanted reply counted is q shared between c =
    let here = between.here in
    let statement : number ≡ q.statement = counted ∙ same_number old.position q.statement q.place here.session_stands.position in
    let placed : slice_get c.last.places c.said.number ≡ Some c.said.branch =
    ap (λ (places : List (List ℕ)). slice_get places c.said.number) c.places ∙ ap (slice_get shared.places) c.still.number ∙ here.placed ∙ ap Some (sym c.still.branch) in
    subst (λ (s : Session D). Concludes address epoch q asked shared parts new s reply) (sym is) (record {
      after = (past q.statement (c.said, reply)).0;
      left = c.last;
      short = c.short;
      is = ap (option_map (past_moment q.statement)) c.is;
      next = next_stands address session number new c.said reply q c.last statement c.session_stands c.state_stands placed c.later;
      number = c.still.number;
      passes = record {
        moments = c.moments;
        numbers = c.numbers;
        others = λ at apart. ap (λ (places : List (List ℕ)). slice_get places at) c.places;
        grown = c.grown;
      };
    })

-- ---- the first moment of a database statement

abbrev pub BeginsAs : {D : Type 0} → (List ℕ → List ℕ) → ℤ → Session D → Session D → Tells → Tells → Command → Result Begun PutFault → Type 0
BeginsAs address epoch old session m n asked result =
    IfOk result (λ begun. (p : plain.Session) → IsBeforeAt address old m p → alone None p asked ≡ None
    → InOneMoment address (λ found shared left. HasBegun address epoch p asked shared found left session begun) m n)

abbrev pub FailsAs : {A D : Type 0} → (List ℕ → List ℕ) → Session D → Tells → Command → Result A PutFault → Type 0
FailsAs address old m asked result = IfErr result (λ fault. (p : plain.Session) → IsBeforeAt address old m p → alone None p asked ≡ None → Fails p asked fault)

-- a fault of a statement that takes no start of its own
pub fails_without : {A D : Type 0} (address : List ℕ → List ℕ) (old : Session D) (m : Tells) (asked one : Command) → asked ≡ one → ((p : plain.Session) → IsBeforeAt address old m p → takes_start p one ≡ false)
    → (result : Result A PutFault) → FailsAs address old m asked result
fails_without address old m asked one is local (Ok made) = tt
fails_without address old m asked one is local (Err fault) = λ p before waits. subst (λ (c : Command). Fails p c fault) (sym is) (short_alone fault p one (local p before))

-- where the start was made the session is at the same statement
pub place_kept : {D : Type 0} (address : List ℕ → List ℕ) (epoch : ℤ) (old rested : Session D) (parts mid : Parts) (p : plain.Session) (asked : Command) (shared : Shared) (wanted : Pending)
    → IsBefore address old parts p shared → Starts address epoch p asked shared parts mid rested wanted → number_at rested.position ≡ number_at old.position
place_kept address epoch old rested parts mid p asked shared wanted before s =
    same_number rested.position p.statement s.place s.next.here.session_stands.position ∙ sym (same_number old.position p.statement p.place before.session_stands.position)

-- ---- the decision that is to come, whichever it is

abbrev pub ConcludesAs : {D : Type 0} → (List ℕ → List ℕ) → ℤ → Session D → Session D → Parts → Parts → Command → Pending → Result Reply PutFault → Type 0
ConcludesAs address epoch old session parts new asked wanted result =
    IfOk result (λ reply. (q : plain.Session) (shared : Shared) → IsBetween address old parts q asked wanted shared → Concluded address epoch q asked shared parts new session reply)

module _ {D : Type 0} (address : List ℕ → List ℕ) (epoch : ℤ) (old session : Session D) (parts new : Parts) (asked : Command) (wanted : Pending) where
  pub work_concludes : (reply : Reply) → wanted ≡ pending.Between reply → (result : Result Reply PutFault)
      → IfOk result (λ said. (e : ℤ) (q : plain.Session) (one : Command) (shared : Shared) → IsBetween address old parts q one (pending.Between reply) shared
      → Concluded address e q one shared parts new session said)
      → ConcludesAs address epoch old session parts new asked wanted result
  work_concludes reply is (Ok said) told = λ q shared between. told epoch q asked shared (subst (λ (w : Pending). IsBetween address old parts q asked w shared) is between)
  work_concludes reply is (Err fault) told = tt

  pub closing_concludes : (had : Found) (e : ℤ) → e ≡ epoch → wanted ≡ pending.Closing had → (result : Result Reply PutFault)
      → IfOk result (λ said. (q : plain.Session) (shared : Shared) → IsBetween address old parts q asked (pending.Closing had) shared → Concluded address e q asked shared parts new session said)
      → ConcludesAs address epoch old session parts new asked wanted result
  closing_concludes had e same is (Ok said) told = λ q shared between.
      subst (λ (n : ℤ). Concluded address n q asked shared parts new session said) same
      (told q shared (subst (λ (w : Pending). IsBetween address old parts q asked w shared) is between))
  closing_concludes had e same is (Err fault) told = tt
