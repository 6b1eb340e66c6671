-- A database statement outside a transaction: its start, and what it comes to in the transaction that it started.
use Rattle.std.proofs.Common.{◌≡◌, refl, ◌∙◌, sym, ap, subst, ℕ, ℤ, Bool, true, false, not, List, Option, Some, None, Ok, Err, option_map, if◌then◌else◌}
use Rattle.std.specs.Prelude.{is_some, ◌==◌, ◌≢◌, ◌&&◌, codes, []}
use Rattle.std.specs.Option.{option_and_then}
use Rattle.std.proofs.lemmas.Option.{same_Some}
use Rattle.tuple_codec.specs.declared.answers.Answer.{Answer}
use Rattle.expr_eval.specs.Binding.{Outcome, and_then}
use Rattle.script_text.specs.Output.{Shortage, AtOnce, AfterStart, Clashes, shortage}
use Rattle.chunk_store.specs.declared.faults.Clash.{Clash}
use Rattle.script_text.specs.declared.replies.Reply.{Reply}
use Rattle.script_text.specs.declared.replies.Reply.TheVariants as print
use Rattle.schema_model.specs.PlainTables.{PlainDatabase, PlainTable}
use Rattle.plain_writes.specs.Writes.{Effect}
use Rattle.plain_schemas.specs.Statements.{write_effect}
use Rattle.plain_sql.specs.Lists.{or_refuse, unless}
use Rattle.plain_sql.specs.Plans as plans
use Rattle.sql_rules.specs.Writes.{is_below}
use Rattle.sql_ast.specs.declared.statements.Delete.{Delete}
use Rattle.sql_ast.specs.declared.statements.Write.TheVariants as write
use Rattle.sql_ast.specs.declared.statements.Write.{Write}
use Rattle.schema_merge.specs.RootMerge.{MergedDatabase}
use Rattle.schema_model.specs.PlainCommits.{is_ancestor}
use Rattle.sql_procedures.specs.declared.requests.CommitRequest.{CommitRequest}
use Rattle.sql_procedures.specs.declared.requests.MergeOf.{MergeOf}
use Rattle.sql_procedures.specs.declared.requests.MergeRequest.{MergeRequest}
use Rattle.sql_procedures.specs.declared.requests.MergeRequest.TheVariants as merging
use Rattle.plain_sessions.specs.Merging.{Worked, Answers, Closes, Committing, Forwarding, Joining, has_changes, in_progress, is_clean, merge, merge_made, merge_message, merge_reply, merge_with, merged_with, resolve}
use Rattle.plain_sessions.specs.Moments.{Past, Still, alone_by, answered, decided_closing, if_answered, moment_of, past, start_of, started}
use Rattle.plain_sessions.specs.Records.{BranchState, Shared, clean_at}
use Rattle.plain_sessions.specs.Replies.{is_refusal}
use Rattle.plain_sessions.specs.Sessions as plain
use Rattle.plain_sessions.specs.Sessions.{Before, Between, Said, is_before_statement, Transaction, is_changed_since, own_root, taken, with_own, within}
use Rattle.plain_sessions.specs.Branching.{add, reset_to, to_commit}
use Rattle.plain_sessions.specs.Statements.{changed, counted_or_done, or_of_rows, resolve_worked, staged, worked, write_worked}
use Rattle.plain_sessions.specs.SystemTables as system
use Rattle.plain_sessions.specs.SystemTables.{delete_by, delete_conflicts, delete_violations, known}
use Rattle.plain_sessions.specs.Branching as branching
use Rattle.plain_sessions.specs.declared.commands.Command.TheVariants.{Data}
use Rattle.plain_sessions.specs.declared.commands.Work.{Work}
use Rattle.plain_sessions.specs.declared.commands.Work.TheVariants as work
use Rattle.plain_writes.specs.Violations.{table_in}
use Rattle.run_laws.specs.Turns.{InOneTurn}
use Rattle.run_laws.proofs.SeenLemmas.{start_short, start_waits}
use Rattle.serving.specs.Steps.{after_start}
use Rattle.serving.specs.Serving.{turn_at}
use Rattle.serving.proofs.MomentLemmas.{in_one_turn}

-- what is answered is no refusal
abbrev pub IsAnswer : Outcome Worked → Type 0
IsAnswer (Ok (Answers reply own)) = is_refusal reply ≡ false
IsAnswer (Ok (Closes call)) = Unit {0}
IsAnswer (Err number) = Unit {0}

answer_by : (own : BranchState) (outcome : Outcome Answer) → IsAnswer (and_then outcome (λ answer. Ok (Answers (print.Rows answer) own)))
answer_by own (Ok answer) = refl
answer_by own (Err number) = tt

count_by : (count : Option ℕ) → is_refusal (counted_or_done count) ≡ false
count_by (Some rows) = refl
count_by None = refl

effect_by : (own : BranchState) (outcome : Outcome Effect) → IsAnswer (changed own outcome)
effect_by own (Ok effect) = count_by effect.count
effect_by own (Err number) = tt

answers_then : {A : Type 0} (outcome : Outcome A) (f : A → Outcome Worked) → ((a : A) → IsAnswer (f a)) → IsAnswer (and_then outcome f)
answers_then (Ok a) f each = each a
answers_then (Err number) f each = tt

delete_conflicts_by : (own : BranchState) (delete : Delete) (name : List ℕ) (table : PlainTable) → IsAnswer (delete_conflicts own delete name table)
delete_conflicts_by own delete name table =
    answers_then (system.tests_on (system.conflict_columns table.schema) delete) (λ tests.
    and_then (system.entries_left tests (system.conflict_row table.schema) table.conflicts) (λ left. Ok (system.keeping_conflicts own name table left))) (λ tests.
    answers_then (system.entries_left tests (system.conflict_row table.schema) table.conflicts) (λ left. Ok (system.keeping_conflicts own name table left)) (λ left. refl))

delete_violations_by : (own : BranchState) (delete : Delete) (name : List ℕ) (table : PlainTable) → IsAnswer (delete_violations own delete name table)
delete_violations_by own delete name table =
    answers_then (system.tests_on (system.violation_columns table.schema) delete) (λ tests.
    and_then (system.entries_left tests system.violation_row table.violations) (λ left. Ok (system.without_violations own name table left))) (λ tests.
    answers_then (system.entries_left tests system.violation_row table.violations) (λ left. Ok (system.without_violations own name table left)) (λ left. refl))

rows_by : (own : BranchState) (delete : Delete) (one two : Bool) (first second : Outcome Worked) → IsAnswer first → IsAnswer second
    → IsAnswer (or_of_rows own delete (if one then Some first else (if two then Some second else None)))
rows_by own delete true two first second left right = left
rows_by own delete false true first second left right = right
rows_by own delete false false first second left right = effect_by own (write_effect own.working (write.Delete delete))

write_by : (own : BranchState) (statement : Write) → IsAnswer (write_worked own statement)
write_by own (write.Create table) = effect_by own _
write_by own (write.Drop table) = effect_by own _
write_by own (write.Insert insert) = effect_by own _
write_by own (write.Update update) = effect_by own _
write_by own (write.Delete delete) =
    let conflicts = system.behind system.conflicts_front delete.table in
    let violations = system.behind system.violations_front delete.table in
    rows_by own delete (is_below system.conflicts_front delete.table) (is_below system.violations_front delete.table)
    (delete_by (delete_conflicts own delete) own conflicts) (delete_by (delete_violations own delete) own violations)
    (answers_then (or_refuse 1146 (table_in own.working conflicts)) (delete_conflicts own delete conflicts) (delete_conflicts_by own delete conflicts))
    (answers_then (or_refuse 1146 (table_in own.working violations)) (delete_violations own delete violations) (delete_violations_by own delete violations))
write_by own (write.Alter alter) = effect_by own _

staged_by : (outcome : Outcome BranchState) → IsAnswer (staged outcome)
staged_by (Ok own) = refl
staged_by (Err number) = tt

pub opposite : (a : Bool) → a ≡ true → a ≡ false → ⊥
opposite a h g = let same : true ≡ false = sym h ∙ g in absurd (cc)

answers_if : (test : Bool) (a b : Outcome Worked) → IsAnswer a → IsAnswer b → IsAnswer (if test then a else b)
answers_if true a b left right = left
answers_if false a b left right = right

answers_unless : (wrong : Bool) (number : ℕ) (next : Outcome Worked) → IsAnswer next → IsAnswer (unless wrong number next)
answers_unless true number next rest = tt
answers_unless false number next rest = rest

made_by : (p : plain.Session) (t : Transaction) (request : MergeOf) (other : List ℕ) (made : MergedDatabase) → IsAnswer (Ok (merge_made p t request other made))
made_by p t request other made = by (is_clean made) where
  by : (test : Bool) → IsAnswer (Ok (if test then Closes (Joining made.database other (merge_message p request)) else Answers (merge_reply [] 0 1 (codes "conflicts found")) (in_progress t.own other made)))
  by true = tt
  by false = refl

merges_with : (p : plain.Session) (t : Transaction) (request : MergeOf) (other : List ℕ) → IsAnswer (merge_with p t request other)
merges_with p t request other =
    let made : Outcome Worked = and_then (merged_with t other) (λ merged. Ok (merge_made p t request other merged)) in
    let joined : IsAnswer made = answers_then (merged_with t other) (λ merged. Ok (merge_made p t request other merged)) (made_by p t request other) in
    answers_if (is_ancestor t.commits t.own.head other) (Ok (Answers (merge_reply [] 0 0 (codes "up to date")) t.own))
    (if is_ancestor t.commits other t.own.head && not request.no_ff then Ok (Closes (Forwarding other)) else made) refl
    (answers_if (is_ancestor t.commits other t.own.head && not request.no_ff) (Ok (Closes (Forwarding other))) made tt joined)

merge_by : (p : plain.Session) (t : Transaction) (request : MergeRequest) → IsAnswer (merge p t request)
merge_by p t merging.Abort = answers_unless (not (is_some t.own.merging)) 9012 (Ok (Answers (merge_reply [] 0 0 (codes "merge aborted")) (clean_at t.own.head (own_root t)))) refl
merge_by p t (merging.Merge request) =
    answers_then (or_refuse 9004 (branching.resolved t.heads t.commits request.name)) (λ other. unless (has_changes t) 9006 (merge_with p t request other)) (λ other.
    answers_unless (has_changes t) 9006 (merge_with p t request other) (merges_with p t request other))

resolved_by : (own : BranchState) (outcome : Outcome PlainDatabase) → IsAnswer (resolve_worked own outcome)
resolved_by own (Ok database) = refl
resolved_by own (Err number) = tt

commit_by : (request : CommitRequest) (outcome : Outcome BranchState) → IsAnswer (and_then outcome (λ own. Ok (Closes (Committing own request.message))))
commit_by request (Ok own) = tt
commit_by request (Err number) = tt

answers_work : (p : plain.Session) (t : Transaction) (asked : Work) → IsAnswer (worked p t asked)
unfolding worked
answers_work p t (work.Ask query) = answer_by t.own (plans.answer (known t) query)
answers_work p t (work.Change statement) = write_by t.own statement
answers_work p t (work.Add tables) = staged_by (add tables t.own)
answers_work p t (work.ResetTo reset) = staged_by (reset_to (own_root t) reset t.own)
answers_work p t (work.Commit request) = commit_by request (to_commit (own_root t) request t.own)
answers_work p t (work.Merge request) = merge_by p t request
answers_work p t (work.Resolve request) = resolved_by t.own (resolve request t.own.working)
answers_work p t (work.Verify way) = refl

-- a refusal is no answer of the work's
pub never_answered : (p : plain.Session) (t : Transaction) (asked : Work) (reply : Reply) → is_refusal reply ≡ true → (own : BranchState) → worked p t asked ≢ Ok (Answers reply own)
never_answered p t asked reply refusal own work_is = opposite (is_refusal reply) refusal (subst IsAnswer work_is (answers_work p t asked))

-- what a statement comes to doesn't hang on where in a statement the session is
pub same_work : (p : plain.Session) (t u : Transaction) (asked : Work) → worked (within p u) t asked ≡ worked p t asked
unfolding worked
same_work p t u (work.Ask query) = refl
same_work p t u (work.Change statement) = refl
same_work p t u (work.Add tables) = refl
same_work p t u (work.ResetTo reset) = refl
same_work p t u (work.Commit request) = refl
same_work p t u (work.Merge merging.Abort) = refl
same_work p t u (work.Merge (merging.Merge request)) = refl
same_work p t u (work.Resolve request) = refl
same_work p t u (work.Verify way) = refl

-- ---- what it came to in the transaction that it started

pub data Came (p : plain.Session) (t : Transaction) (asked : Work) (after : plain.Session) (reply : Reply) : Type 0 where
  Starved : reply ≡ print.Refused 1 → Came p t asked after reply
  Met : (clash : Clash) → reply ≡ print.Collided clash → Came p t asked after reply
  Faulted : (number : ℕ) → worked p t asked ≡ Err number → reply ≡ print.Refused number → shortage reply ≡ None → Came p t asked after reply
  Done : (own : BranchState) → worked p t asked ≡ Ok (Answers reply own) → after ≡ within p (with_own own t) → shortage reply ≡ None → Came p t asked after reply

came_by : (p : plain.Session) (t : Transaction) (asked : Work) (after : plain.Session) (reply : Reply) (outcome : Outcome Worked) → worked p t asked ≡ outcome → shortage reply ≡ None
    → if_answered (within p t) t outcome ≡ Some (after, reply) → Came p t asked after reply
came_by p t asked after reply (Ok (Answers other own)) is short same =
    let both : ◌≡◌ {A = Said} (within p (with_own own t), other) (after, reply) = same_Some _ _ same in
    Done own (is ∙ ap (λ (said : Said). Ok (Answers said.1 own)) both) (sym (ap (λ (said : Said). said.0) both)) short
came_by p t asked after reply (Ok (Closes call)) is short same = absurd (cc)
came_by p t asked after reply (Err number) is short same =
    Faulted number is (sym (ap (λ (said : Said). said.1) (same_Some _ _ same))) short

came_with : (p : plain.Session) (t : Transaction) (asked : Work) (after : plain.Session) (reply : Reply) (answer : Option Shortage)
    → shortage reply ≡ answer → alone_by answer (within p t) (Data asked) ≡ Some (after, reply) → Came p t asked after reply
came_with p t asked after reply None short is =
    came_by p t asked after reply (worked p t asked) refl short (sym (ap (if_answered (within p t) t) (same_work p t t asked)) ∙ is)
came_with p t asked after reply (Some AtOnce) short is = Starved (sym (ap (λ (said : Said). said.1) (same_Some _ _ is)))
came_with p t asked after reply (Some AfterStart) short is = absurd (cc)
came_with p t asked after reply (Some (Clashes clash)) short is = Met clash (sym (ap (λ (said : Said). said.1) (same_Some _ _ is)))

pub came : (p : plain.Session) (t : Transaction) (asked : Work) (after : plain.Session) (reply : Reply) → alone_by (shortage reply) (within p t) (Data asked) ≡ Some (after, reply) → Came p t asked after reply
came p t asked after reply is = came_with p t asked after reply (shortage reply) refl is

-- a refusal that is no want of memory
not_starved : (number : ℕ) → shortage (print.Refused number) ≡ None → after_start (print.Refused number) ≡ print.Refused number
not_starved number short = by (number == 1) _ short where
  by : (test : Bool) (other : Option Shortage) → (if test then Some AtOnce else other) ≡ None → (if test then print.Refused 2 else print.Refused number) ≡ print.Refused number
  by true other is = absurd (cc)
  by false other is = refl

module _ (address : List ℕ → List ℕ) (epoch : ℤ) (shared : Shared) (p : plain.Session) (t : Transaction) (asked : Work) where
  pub start_is : p.transaction ≡ None → taken shared p ≡ Some t → (outcome : Outcome Worked) → worked p t asked ≡ outcome
      → moment_of address epoch shared p (Data asked) ≡ Some (shared, started p t outcome)
  start_is none is outcome work_is =
      ap (λ (o : Option Transaction). if is_some o then decided_closing address epoch asked shared p else start_of shared p asked) none
      ∙ ap (option_map (λ (o : Transaction). (shared, started p o (worked p o asked)))) is
      ∙ ap (λ (w : Outcome Worked). Some (shared, started p t w)) work_is

  abbrev Refuses : Reply → Type 0
  Refuses reply = InOneTurn address epoch (shortage reply) p (Data asked) (turn_at p shared shared) (past p.statement (p, reply))

  pub waits_for_start : p.transaction ≡ None → alone_by None p (Data asked) ≡ None
  waits_for_start none = ap (option_and_then (λ (o : Transaction). if_answered p o (worked p o asked))) none

  -- a statement that isn't answered in it took its start, and has no transaction
  pub refused_after : (after : plain.Session) (reply : Reply) → ((own : BranchState) → worked p t asked ≢ Ok (Answers reply own)) → p.place ≡ Before → p.transaction ≡ None
      → taken shared p ≡ Some t → Came p t asked after reply → Refuses (after_start reply)
  refused_after after reply never before none is (Starved said) = subst (λ (r : Reply). Refuses (after_start r)) (sym said) (record {
    waits = start_waits p asked none (Some AfterStart) (λ same. absurd (cc));
    numbered = refl;
    answered = start_short address epoch shared p asked AfterStart none (ap is_before_statement before) (λ same. absurd (cc));
  })
  refused_after after reply never before none is (Met clash said) = subst (λ (r : Reply). Refuses (after_start r)) (sym said) (record {
    waits = start_waits p asked none (Some (Clashes clash)) (λ same. absurd (cc));
    numbered = refl;
    answered = start_short address epoch shared p asked (Clashes clash) none (ap is_before_statement before) (λ same. absurd (cc));
  })
  refused_after after reply never before none is (Faulted number work_is said short) =
      let told : shortage (print.Refused number) ≡ None = ap shortage (sym said) ∙ short in
      subst Refuses (sym (ap after_start said ∙ not_starved number told))
      (subst (λ (answer : Option Shortage). InOneTurn address epoch answer p (Data asked) (turn_at p shared shared) (past p.statement (p, print.Refused number))) (sym told)
      (in_one_turn address epoch None shared shared p (Data asked) (p, print.Refused number) before (waits_for_start none) (start_is none is (Err number) work_is)))
  refused_after after reply never before none is (Done own work_is after_is short) = absurd (never own work_is)

  -- one that is well has made of the transaction what the session has now
  pub record Kept (after : plain.Session) (reply : Reply) : Type 0 where
    pub own : BranchState
    pub is : worked p t asked ≡ Ok (Answers reply own)
    pub after_is : after ≡ within p (with_own own t)
    pub short : shortage reply ≡ None

  pub kept_after : (after : plain.Session) (reply : Reply) → Came p t asked after reply → is_refusal reply ≡ false → Kept after reply
  kept_after after reply (Starved said) well = absurd (opposite (is_refusal reply) (ap is_refusal said) well)
  kept_after after reply (Met clash said) well = absurd (opposite (is_refusal reply) (ap is_refusal said) well)
  kept_after after reply (Faulted number work_is said short) well = absurd (opposite (is_refusal reply) (ap is_refusal said) well)
  kept_after after reply (Done own work_is after_is short) well = record { own = own; is = work_is; after_is = after_is; short = short }

  -- it stays open without autocommit; else it is decided on where something changed, and over where not
  pub stays_open : (after : plain.Session) (reply : Reply) → p.transaction ≡ None → taken shared p ≡ Some t → (kept : Kept after reply) → p.variables.autocommit ≡ false
      → moment_of address epoch shared p (Data asked) ≡ Some (shared, Past (within p (with_own kept.own t), reply))
  stays_open after reply none is kept off =
      let now = with_own kept.own t in
      start_is none is (Ok (Answers reply kept.own)) kept.is
      ∙ ap (λ (on : Bool). Some (shared, if not on then Past (within p now, reply) else (if is_changed_since now then Still now (Between reply) else Past (p, reply)))) off

  pub is_decided : (after : plain.Session) (reply : Reply) → p.transaction ≡ None → taken shared p ≡ Some t → (kept : Kept after reply) → p.variables.autocommit ≡ true
      → is_changed_since (with_own kept.own t) ≡ true → moment_of address epoch shared p (Data asked) ≡ Some (shared, Still (with_own kept.own t) (Between reply))
  is_decided after reply none is kept on changed =
      let now = with_own kept.own t in
      start_is none is (Ok (Answers reply kept.own)) kept.is
      ∙ ap (λ (o : Bool). Some (shared, if not o then Past (within p now, reply) else (if is_changed_since now then Still now (Between reply) else Past (p, reply)))) on
      ∙ ap (λ (test : Bool). Some (shared, if test then Still now (Between reply) else Past (p, reply))) changed

  pub is_over : (after : plain.Session) (reply : Reply) → p.transaction ≡ None → taken shared p ≡ Some t → (kept : Kept after reply) → p.variables.autocommit ≡ true
      → is_changed_since (with_own kept.own t) ≡ false → moment_of address epoch shared p (Data asked) ≡ Some (shared, Past (p, reply))
  is_over after reply none is kept on unchanged =
      let now = with_own kept.own t in
      start_is none is (Ok (Answers reply kept.own)) kept.is
      ∙ ap (λ (o : Bool). Some (shared, if not o then Past (within p now, reply) else (if is_changed_since now then Still now (Between reply) else Past (p, reply)))) on
      ∙ ap (λ (test : Bool). Some (shared, if test then Still now (Between reply) else Past (p, reply))) unchanged
