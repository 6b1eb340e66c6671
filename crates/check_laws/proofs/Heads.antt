-- No database statement moves the head of its state; a commit that a closing call names is known, and a message is short.
use Rattle.std.proofs.Common.{◌≡◌, ◌≤◌, refl, sym, ap, ◌∙◌, subst, ℕ, Bool, true, false, cond, not, ◌&&◌, List, [], ◌∷◌, ◌++◌, length, is_some, nat_le, unwrap_or, nat_lt, codes, Option, None, Some, Ok, Err, arith, bytes_eq}
use Rattle.std.specs.Prelude.{IfOk}
use Rattle.std.specs.List.{AllByRecursion, find, list_all}
use Rattle.std.specs.Option.{option_map_or}
use Rattle.std.proofs.lemmas.Bool.{and_parts, le-leb, leb-true}
use Rattle.std.proofs.lemmas.List.{length-append}
use Rattle.tuple_codec.specs.AddressTexts.{address_bytes, address_text}
use Rattle.schema_model.specs.Limits.{most_message_bytes, most_tables}
use Rattle.schema_model.specs.PlainCommits.{Commits, is_ancestor, is_known}
use Rattle.schema_model.specs.PlainTables.{Conflict, PlainDatabase, PlainTable, Violation}
use Rattle.sql_ast.specs.declared.statements.Delete.{Delete}
use Rattle.sql_ast.specs.declared.statements.Write.{Write}
use Rattle.sql_ast.specs.declared.statements.Write.TheVariants as write
use Rattle.sql_procedures.specs.Arguments.{begins_with_minus, is_message, is_name_byte, is_point}
use Rattle.sql_procedures.specs.declared.requests.CommitRequest.{CommitRequest}
use Rattle.sql_procedures.specs.declared.requests.MergeOf.{MergeOf}
use Rattle.sql_procedures.specs.declared.requests.MergeRequest.{MergeRequest}
use Rattle.sql_procedures.specs.declared.requests.MergeRequest.TheVariants as merging
use Rattle.sql_procedures.specs.declared.requests.Reset.{Reset}
use Rattle.sql_procedures.specs.declared.requests.Reset.TheVariants as reset
use Rattle.sql_procedures.specs.declared.requests.Tables.{Tables}
use Rattle.sql_procedures.specs.declared.requests.Tables.TheVariants as tables
use Rattle.expr_eval.specs.Binding.{Outcome, and_then}
use Rattle.plain_sql.specs.Answers.{Meaning}
use Rattle.plain_sql.specs.Lists.{each, or_refuse, unless}
use Rattle.plain_sql.specs.Plans.{answer}
use Rattle.plain_writes.specs.Violations.{table_in}
use Rattle.plain_writes.specs.Writes.{Effect}
use Rattle.plain_writes.proofs.OutcomeLemmas.{found_so}
use Rattle.plain_writes.proofs.RowOrderLemmas.{two}
use Rattle.plain_schemas.specs.Statements.{write_effect}
use Rattle.plain_sessions.specs.declared.commands.Work.{Work}
use Rattle.plain_sessions.specs.declared.commands.Work.TheVariants.{Ask, Change, Add, ResetTo, Commit, Merge, Resolve, Verify}
use Rattle.plain_sessions.specs.Branching.{add, commit_named, is_open, may_reset, may_stage, or_commit, reset_to, resolved, says_something, staged_as, staged_first, status, taking_all, to_commit}
use Rattle.plain_sessions.specs.Fitness.{IsFitWork, is_fit_merge}
use Rattle.plain_sessions.specs.Merging.{Answers, Closes, Committing, Ending, Forwarding, Joining, Worked, has_changes, in_progress, is_clean, merge, merge_made, merge_message, merge_reply, merge_with, merged_with, resolve}
use Rattle.schema_merge.specs.RootMerge.{MergedDatabase}
use Rattle.plain_sessions.specs.Records.{BranchState, clean_at}
use Rattle.plain_sessions.specs.Replies.{one_row, shown}
use Rattle.plain_sessions.specs.Sessions.{Head, Session, Transaction, own_root}
use Rattle.plain_sessions.specs.Statements.{changed, or_of_rows, staged, worked, write_worked}
use Rattle.plain_sessions.specs.SystemTables.{behind, conflict_columns, conflict_row, conflicts_front, delete_by, delete_conflicts, delete_entries, delete_violations, entries_left, keeping_conflicts, known, tests_on, violation_columns, violation_row, violations_front, without_violations}
use Rattle.sql_rules.specs.Writes.{is_below}
use Rattle.check_laws.proofs.Outcomes.{follow, then_ok, unless_ok}

abbrev pub IsShort : List ℕ → Type 0
IsShort message = nat_le (length message) most_message_bytes ≡ true

-- the transaction's head, and which commits are known
abbrev pub IsLedEnding : Commits → List ℕ → Ending → Type 0
IsLedEnding commits head (Committing own message) = (own.head ≡ head) × IsShort message
IsLedEnding commits head (Forwarding other) = is_known commits other ≡ true
IsLedEnding commits head (Joining database other message) = IsShort message

abbrev pub IsLed : Commits → List ℕ → Worked → Type 0
IsLed commits head (Answers reply own) = own.head ≡ head
IsLed commits head (Closes ending) = IsLedEnding commits head ending

-- ---- names

found_has : {A : Type 0} (P : A → Type 0) (is : A → Bool) (xs : List A) (x : A) → AllByRecursion P xs → find is xs ≡ Some x → P x
found_has P is [] x h e = cc
found_has P is (y ∷ xs) x h e = two (is y)
    (λ t. let same : Some y ≡ Some x = sym (ap (λ b. cond b (Some y) (find is xs)) t) ∙ e in let one : y ≡ x = cc in subst P one h.0)
    (λ t. found_has P is xs x h.1 (sym (ap (λ b. cond b (Some y) (find is xs)) t) ∙ e))

-- the heads that a transaction sees are known
abbrev pub AreKnown : Commits → List Head → Type 0
AreKnown commits heads = AllByRecursion (λ (head : Head). is_known commits head.commit ≡ true) heads

named_known : (commits : Commits) (name k : List ℕ) → commit_named commits name ≡ Some k → is_known commits k ≡ true
named_known commits name k e =
    let at = address_bytes name in
    let test = bytes_eq (address_text at) name && is_known commits at in
    let it : Bool → Option (List ℕ) = λ b. cond b (Some at) None in
    two test
    (λ t. let same : Some at ≡ Some k = sym (ap it t) ∙ e in let one : at ≡ k = cc in ap (is_known commits) (sym one) ∙ (and_parts (bytes_eq (address_text at) name) (is_known commits at) t).1)
    (λ t. let none : ◌≡◌ {A = Option (List ℕ)} None (Some k) = sym (ap it t) ∙ e in absurd (cc))

pub resolved_known : (heads : List Head) (commits : Commits) (name k : List ℕ) → AreKnown commits heads → resolved heads commits name ≡ Some k → is_known commits k ≡ true
resolved_known heads commits name k are e = by (find (λ (head : Head). bytes_eq head.name name) heads) refl e
  where
    by : (o : Option Head) → find (λ (head : Head). bytes_eq head.name name) heads ≡ o → or_commit commits name o ≡ Some k → is_known commits k ≡ true
    by (Some head) f g = let one : head.commit ≡ k = cc in
        ap (is_known commits) (sym one) ∙ found_has (λ (head : Head). is_known commits head.commit ≡ true) (λ (head : Head). bytes_eq head.name name) heads head are f
    by None f g = named_known commits name k g

-- ---- messages

said_short : (message : List ℕ) → is_message message ≡ true → IsShort message
said_short message h = (and_parts (nat_le 1 (length message)) (nat_le (length message) 8192) h).1

pub point_short : (name : List ℕ) → is_point name ≡ true → length name ≤ 64
point_short name h =
    let lengths = nat_le 1 (length name) && nat_le (length name) 64 in
    let bytes = list_all is_name_byte name in
    let outer = and_parts (lengths && bytes) (not (begins_with_minus name)) h in
    let inner = and_parts lengths bytes outer.0 in
    leb-true (length name) 64 (and_parts (nat_le 1 (length name)) (nat_le (length name) 64) inner.0).1

-- `Merge NAME into BRANCH`
made_short : (name branch : List ℕ) → length name ≤ 64 → length branch ≤ 64 → IsShort (codes "Merge " ++ name ++ codes " into " ++ branch)
made_short name branch n b =
    let front : length (codes "Merge ") ≡ 6 = refl in
    let between : length (codes " into ") ≡ 6 = refl in
    let first = length-append (codes "Merge ") name in
    let second = length-append (codes "Merge " ++ name) (codes " into ") in
    let third = length-append (codes "Merge " ++ name ++ codes " into ") branch in
    let few : length (codes "Merge " ++ name ++ codes " into " ++ branch) ≤ 8192 = omega (arith, front, between, first, second, third, n, b) in
    le-leb (length (codes "Merge " ++ name ++ codes " into " ++ branch)) most_message_bytes few

merged_short : (session : Session) (request : MergeOf) → length session.branch ≤ 64 → is_fit_merge (merging.Merge request) ≡ true → IsShort (merge_message session request)
merged_short session request short fit = by request.message refl (and_parts (is_point request.name) (option_map_or is_message request.message true) fit).1
  where
    by : (o : Option (List ℕ)) → request.message ≡ o → option_map_or is_message request.message true ≡ true → IsShort (merge_message session request)
    by (Some message) e h =
        subst (λ (o : Option (List ℕ)). IsShort (unwrap_or o (codes "Merge " ++ request.name ++ codes " into " ++ session.branch))) (sym e)
        (said_short message (ap (λ (o : Option (List ℕ)). option_map_or is_message o true) (sym e) ∙ h))
    by None e h =
        subst (λ (o : Option (List ℕ)). IsShort (unwrap_or o (codes "Merge " ++ request.name ++ codes " into " ++ session.branch))) (sym e)
        (made_short request.name session.branch (point_short request.name (and_parts (is_point request.name) (option_map_or is_message request.message true) fit).0) short)

-- ---- writes and DOLT_ADD, DOLT_RESET

abbrev StaysAt : List ℕ → BranchState → Type 0
StaysAt head state = state.head ≡ head

module _ (commits : Commits) (own : BranchState) where
  changed_led : (effect : Outcome Effect) → IfOk (changed own effect) (IsLed commits own.head)
  changed_led (Ok made) = refl
  changed_led (Err number) = tt

  conflicts_led : (delete : Delete) (name : List ℕ) (table : PlainTable) → IfOk (delete_conflicts own delete name table) (IsLed commits own.head)
  conflicts_led delete name table =
      let last : List Conflict → Outcome Worked = λ left. Ok (keeping_conflicts own name table left) in
      let go : List Meaning → Outcome Worked = λ tests. and_then (entries_left tests (conflict_row table.schema) table.conflicts) last in
      then_ok (IsLed commits own.head) (tests_on (conflict_columns table.schema) delete) go (λ tests h.
      then_ok (IsLed commits own.head) (entries_left tests (conflict_row table.schema) table.conflicts) last (λ left k. refl))

  violations_led : (delete : Delete) (name : List ℕ) (table : PlainTable) → IfOk (delete_violations own delete name table) (IsLed commits own.head)
  violations_led delete name table =
      let last : List Violation → Outcome Worked = λ left. Ok (without_violations own name table left) in
      let go : List Meaning → Outcome Worked = λ tests. and_then (entries_left tests violation_row table.violations) last in
      then_ok (IsLed commits own.head) (tests_on (violation_columns table.schema) delete) go (λ tests h.
      then_ok (IsLed commits own.head) (entries_left tests violation_row table.violations) last (λ left k. refl))

  delete_led : (delete : Delete) → IfOk (or_of_rows own delete (delete_entries own delete)) (IsLed commits own.head)
  delete_led delete =
      let rows = changed_led (write_effect own.working (write.Delete delete)) in
      let conflicts = delete_by (delete_conflicts own delete) own (behind conflicts_front delete.table) in
      let violations = delete_by (delete_violations own delete) own (behind violations_front delete.table) in
      let one : IfOk conflicts (IsLed commits own.head) =
      then_ok (IsLed commits own.head) (or_refuse 1146 (table_in own.working (behind conflicts_front delete.table))) (delete_conflicts own delete (behind conflicts_front delete.table))
      (λ table e. conflicts_led delete (behind conflicts_front delete.table) table) in
      let other : IfOk violations (IsLed commits own.head) =
      then_ok (IsLed commits own.head) (or_refuse 1146 (table_in own.working (behind violations_front delete.table))) (delete_violations own delete (behind violations_front delete.table))
      (λ table e. violations_led delete (behind violations_front delete.table) table) in
      let rest : IfOk (or_of_rows own delete (cond (is_below violations_front delete.table) (Some violations) None)) (IsLed commits own.head) =
      elim (is_below violations_front delete.table) as (λ b. IfOk (or_of_rows own delete (cond b (Some violations) None)) (IsLed commits own.head)) [ true ↦ other | false ↦ rows ] in
      elim (is_below conflicts_front delete.table) as (λ b. IfOk (or_of_rows own delete (cond b (Some conflicts) (cond (is_below violations_front delete.table) (Some violations) None))) (IsLed commits own.head)) [ true ↦ one | false ↦ rest ]

  write_led : (one : Write) → IfOk (write_worked own one) (IsLed commits own.head)
  write_led (write.Create create) = changed_led (write_effect own.working (write.Create create))
  write_led (write.Drop drop) = changed_led (write_effect own.working (write.Drop drop))
  write_led (write.Insert insert) = changed_led (write_effect own.working (write.Insert insert))
  write_led (write.Update update) = changed_led (write_effect own.working (write.Update update))
  write_led (write.Delete delete) = delete_led delete
  write_led (write.Alter alter) = changed_led (write_effect own.working (write.Alter alter))

  staged_led : (database : PlainDatabase) → IfOk (staged_as own database) (StaysAt own.head)
  staged_led database = unless_ok (StaysAt own.head) (nat_lt most_tables (length database)) 9010 (Ok (record own { staged = database })) (λ few. refl)

  add_led : (which : Tables) → IfOk (add which own) (StaysAt own.head)
  add_led tables.All = unless_ok (StaysAt own.head) (is_open own.working) 9011 (staged_as own own.working) (λ closed. staged_led own.working)
  add_led (tables.Named names) =
      let go : List (List ℕ) → Outcome BranchState = λ named. staged_as own (taking_all own.working own.staged named) in
      then_ok (StaysAt own.head) (each (may_stage own) names) go (λ named h. staged_led (taking_all own.working own.staged named))

  reset_led : (root : PlainDatabase) (asked : Reset) → IfOk (reset_to root asked own) (StaysAt own.head)
  reset_led root reset.Hard = refl
  reset_led root (reset.Tables tables.All) = refl
  reset_led root (reset.Tables (tables.Named names)) =
      let go : List (List ℕ) → Outcome BranchState = λ named. staged_as own (taking_all root own.staged named) in
      then_ok (StaysAt own.head) (each (may_reset root own) names) go (λ named h. staged_led (taking_all root own.staged named))

  commit_led : (root : PlainDatabase) (request : CommitRequest) → IfOk (to_commit root request own) (StaysAt own.head)
  commit_led root request =
      let made : BranchState = record own { staged = staged_first root request.staging own } in
      let whole : Outcome BranchState = Ok made in
      unless_ok (StaysAt own.head) (is_open own.working) 9011 (unless (not (says_something root request made)) 9007 whole) (λ closed.
      unless_ok (StaysAt own.head) (not (says_something root request made)) 9007 whole (λ says. refl))

  staged_work : (made : Outcome BranchState) → IfOk made (StaysAt own.head) → IfOk (staged made) (IsLed commits own.head)
  staged_work made h = follow (StaysAt own.head) (IsLed commits own.head) made (λ made. Ok (Answers (one_row (status ∷ [])) made)) h (λ state m. m)

-- ---- DOLT_MERGE

module _ (session : Session) (t : Transaction) (short : length session.branch ≤ 64) (are : AreKnown t.commits t.heads) where
  made_led : (request : MergeOf) (other : List ℕ) (m : MergedDatabase) → IsShort (merge_message session request) → IsLed t.commits t.own.head (merge_made session t request other m)
  made_led request other m h =
      elim (is_clean m) as (λ b. IsLed t.commits t.own.head (cond b (Closes (Joining m.database other (merge_message session request))) (Answers (merge_reply [] 0 1 (codes "conflicts found")) (in_progress t.own other m)))) [
        | true ↦ h
        | false ↦ refl
      ]

  with_led : (request : MergeOf) (other : List ℕ) → is_known t.commits other ≡ true → IsShort (merge_message session request) → IfOk (merge_with session t request other) (IsLed t.commits t.own.head)
  with_led request other there h =
      let level : Outcome Worked = Ok (Answers (merge_reply [] 0 0 (codes "up to date")) t.own) in
      let forward : Outcome Worked = Ok (Closes (Forwarding other)) in
      let make : MergedDatabase → Outcome Worked = λ merged. Ok (merge_made session t request other merged) in
      let joined : Outcome Worked = and_then (merged_with t other) make in
      let ahead = is_ancestor t.commits other t.own.head && not request.no_ff in
      let one : IfOk joined (IsLed t.commits t.own.head) = then_ok (IsLed t.commits t.own.head) (merged_with t other) make (λ m e. made_led request other m h) in
      let rest : IfOk (cond ahead forward joined) (IsLed t.commits t.own.head) = elim ahead as (λ b. IfOk (cond b forward joined) (IsLed t.commits t.own.head)) [ true ↦ there | false ↦ one ] in
      elim (is_ancestor t.commits t.own.head other) as (λ b. IfOk (cond b level (cond ahead forward joined)) (IsLed t.commits t.own.head)) [ true ↦ refl | false ↦ rest ]

  merge_led : (request : MergeRequest) → is_fit_merge request ≡ true → IfOk (merge session t request) (IsLed t.commits t.own.head)
  merge_led merging.Abort fit =
      unless_ok (IsLed t.commits t.own.head) (not (is_some t.own.merging)) 9012 (Ok (Answers (merge_reply [] 0 0 (codes "merge aborted")) (clean_at t.own.head (own_root t)))) (λ open_. refl)
  merge_led (merging.Merge request) fit =
      let go : List ℕ → Outcome Worked = λ other. unless (has_changes t) 9006 (merge_with session t request other) in
      then_ok (IsLed t.commits t.own.head) (or_refuse 9004 (resolved t.heads t.commits request.name)) go (λ other e.
      unless_ok (IsLed t.commits t.own.head) (has_changes t) 9006 (merge_with session t request other) (λ clean.
      with_led request other (resolved_known t.heads t.commits request.name other are (found_so 9004 (resolved t.heads t.commits request.name) other e)) (merged_short session request short fit)))

  -- ---- the whole

  pub work_led : (work : Work) → IsFitWork work → IfOk (worked session t work) (IsLed t.commits t.own.head)
  unfolding worked
  work_led (Ask one) fit = then_ok (IsLed t.commits t.own.head) (answer (known t) one) (λ answer. Ok (Answers (shown answer) t.own)) (λ found h. refl)
  work_led (Change one) fit = write_led t.commits t.own one
  work_led (Add which) fit = staged_work t.commits t.own (add which t.own) (add_led t.commits t.own which)
  work_led (ResetTo request) fit = staged_work t.commits t.own (reset_to (own_root t) request t.own) (reset_led t.commits t.own (own_root t) request)
  work_led (Commit request) fit =
      follow (StaysAt t.own.head) (IsLed t.commits t.own.head) (to_commit (own_root t) request t.own) (λ own. Ok (Closes (Committing own request.message))) (commit_led t.commits t.own (own_root t) request)
      (λ own m. (m, said_short request.message fit))
  work_led (Merge request) fit = merge_led request fit
  work_led (Resolve request) fit =
      then_ok (IsLed t.commits t.own.head) (resolve request t.own.working) (λ working. Ok (Answers (one_row (status ∷ [])) (record t.own { working = working }))) (λ working h. refl)
  work_led (Verify way) fit = refl
