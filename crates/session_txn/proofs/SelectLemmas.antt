-- A SELECT shows what it shows of the stored tables and of the system tables that it names.
use Rattle.std.proofs.Common.{◌≡◌, refl, sym, ◌∙◌, ap, subst, arith, nat_le, length, Some, Ok, Err, ℕ, Bool, true, false, cond, List, [], ◌∷◌, ◌++◌, map, filter}
use Rattle.std.proofs.lemmas.Bool.Decides.{nat_tests}
use Rattle.std.proofs.lemmas.List.{append_assoc}
use Rattle.std.specs.List.{list_all}
use Rattle.std.proofs.lemmas.Bool.{and_parts as both}
use Rattle.tuple_codec.proofs.Options.{some_there as has_one}
use Rattle.schema_model.specs.PlainTables.{PlainDatabase}
use Rattle.sql_ast.specs.declared.selects.FromClause.{FromClause}
use Rattle.sql_ast.specs.declared.selects.Query.{Query}
use Rattle.sql_ast.specs.declared.selects.Select.{Select}
use Rattle.sql_ast.specs.declared.selects.Select.TheVariants as select
use Rattle.plain_sql.specs.Plans.{answer}
use Rattle.plain_sql.specs.declared.sources.Known.{Known}
use Rattle.plain_sql.specs.declared.sources.NamedType.{NamedType}
use Rattle.plain_sessions.specs.Sessions.{Transaction, with_own, within}
use Rattle.plain_sessions.specs.SystemTables.{branches, commit_ancestors, conflicts, conflicts_of, constraint_violations, known, log, status, stored, violations_of}
use Rattle.sql_select.specs.Sources as sources
use Rattle.sql_select.specs.Sources.{ReadsSuffice, is_read, known_system, known_table, typed}
use Rattle.sql_select.specs.declared.sources.NamedAnswer.{NamedAnswer}
use Rattle.system_tables.specs.Known.{as_named, named_read, system_tables}
use Rattle.tuple_codec.specs.declared.answers.Answer.{Answer}
use Rattle.chunk_store.specs.Chunks.{Chunks}
use Rattle.chunk_store.specs.Drafts.{chunks_of}
use Rattle.table_root.specs.Kept.{HasKeptAt, IsKeptAt}
use Rattle.schema_model.specs.Limits.{is_named_within_limits, most_tables}
use Rattle.table_root.specs.Standing.{CanRead, IsReadAt}
use Rattle.expr_eval.specs.Binding.{Outcome, and_then}
use Rattle.script_text.specs.declared.replies.Reply.{Reply}
use Rattle.plain_sessions.specs.Merging.{Worked, Answers}
use Rattle.plain_sessions.specs.Moments.{is_in_transaction}
use Rattle.plain_sessions.specs.Replies.{refused, shown, shown_or_refused}
use Rattle.plain_sessions.specs.Sessions as plain
use Rattle.plain_sessions.specs.Statements.{said, select_with_values, worked}
use Rattle.plain_sessions.specs.declared.commands.Command.TheVariants as command
use Rattle.plain_sessions.specs.declared.commands.Work.TheVariants as work
use Rattle.session_state.specs.Standing.{SessionStands}
use Rattle.session_state.specs.declared.sessions.Session.{Session}
use Rattle.session_plan.specs.Answering.{AnswersAlone}
use Rattle.session_txn.specs.Reading.{system_of}
use Rattle.session_plan.specs.Showing.{IsDue}
use Rattle.session_plan.proofs.AloneLemmas.{answers_due, in_place, worked_ill, worked_well}
use Rattle.session_txn.proofs.SessionLemmas.{own_kept}

-- ---- system tables as answers

typed_back : (columns : List NamedType) → typed (map (λ (c : NamedType). c.name) columns) (map (λ (c : NamedType). c.kind) columns) ≡ columns
typed_back [] = refl
typed_back (c ∷ columns) = ap (λ (cs : List NamedType). c ∷ cs) (typed_back columns)

known_back : (k : Known) → known_system (as_named k) ≡ k
known_back k = ap (λ (cs : List NamedType). let other : Known = record { name = k.name; columns = cs; rows = k.rows } in other) (typed_back k.columns)

all_back : (ks : List Known) → map known_system (map as_named ks) ≡ ks
all_back [] = refl
all_back (k ∷ ks) = ap (λ (one : Known). one ∷ map known_system (map as_named ks)) (known_back k) ∙ ap (λ (more : List Known). k ∷ more) (all_back ks)

known_as : (t : Transaction) → known t ≡ sources.known t.own.working (map as_named (system_tables t))
known_as t =
    let stores = map stored t.own.working in
    let first = log t ∷ branches t ∷ status t ∷ commit_ancestors t ∷ conflicts t.own.working ∷ constraint_violations t.own.working ∷ [] in
    let second = map conflicts_of t.own.working in
    let third = map violations_of t.own.working in
    ap (λ (ks : List Known). ks ++ third) (append_assoc stores first second) ∙ append_assoc stores (first ++ second) third
    ∙ ap (λ (ks : List Known). stores ++ ks) (sym (all_back (system_tables t)))

-- ---- what is read

abbrev read_of : FromClause → List NamedAnswer → List NamedAnswer
read_of from xs = filter (λ (named : NamedAnswer). is_read from named.name) xs

one_twice : (from : FromClause) (x : NamedAnswer) (xs : List NamedAnswer) (b : Bool) → is_read from x.name ≡ b → read_of from xs ≡ xs → read_of from (cond b (x ∷ xs) xs) ≡ cond b (x ∷ xs) xs
one_twice from x xs true is same = ap (λ (b : Bool). cond b (x ∷ read_of from xs) (read_of from xs)) is ∙ ap (λ (l : List NamedAnswer). x ∷ l) same
one_twice from x xs false is same = same

read_twice : (from : FromClause) (xs : List NamedAnswer) → read_of from (read_of from xs) ≡ read_of from xs
read_twice from [] = refl
read_twice from (x ∷ xs) = one_twice from x (read_of from xs) (is_read from x.name) refl (read_twice from xs)

-- what it shows of all that it may name it shows of the stored tables and of the system tables that it names
query_read : ReadsSuffice → (t : Transaction) (query : Query)
    → answer (known t) (select.From query) ≡ answer (sources.known t.own.working (named_read query.from (system_tables t))) (select.From query)
query_read suffice t query =
    let database = t.own.working in
    ap (λ (ks : List Known). answer ks (select.From query)) (known_as t)
    ∙ sym (suffice database (map as_named (system_tables t)) query)
    ∙ ap (λ (read : List NamedAnswer). answer (map known_table (filter (λ named. is_read query.from named.name) database) ++ map known_system read) (select.From query))
    (sym (read_twice query.from (map as_named (system_tables t))))
    ∙ suffice database (named_read query.from (system_tables t)) query

answers_read : ReadsSuffice → (t : Transaction) (one : Select) → answer (known t) one ≡ answer (sources.known t.own.working (system_of t one)) one
answers_read suffice t (select.From query) = query_read suffice t query
answers_read suffice t (select.Alone list) = refl

-- ---- the reply

pub shows_due : ReadsSuffice → (t : Transaction) (one : Select) (system : List NamedAnswer) (outcome : Outcome Answer) (reply : Reply) → system ≡ system_of t one
    → answer (sources.known t.own.working system) one ≡ outcome → IsDue 1 (shown_or_refused outcome) reply
    → IsDue 1 (shown_or_refused (answer (known t) one)) reply
shows_due suffice t one system outcome reply same is owed =
    subst (λ (r : Reply). IsDue 1 r reply) (sym (ap shown_or_refused (answers_read suffice t one
    ∙ ap (λ (s : List NamedAnswer). answer (sources.known t.own.working s) one) (sym same) ∙ is))) owed

-- a database that is kept can be read
pub kept_reads : (address : List ℕ → List ℕ) (chunks : Chunks) (k : List ℕ) (database : PlainDatabase) → IsKeptAt address chunks k database → IsReadAt address chunks k database
kept_reads address chunks k database kept =
    let fits : nat_le (length database) most_tables ≡ true = (both (nat_le (length database) most_tables) (list_all is_named_within_limits database) kept.within).0 in
    record { stands = kept.stands; few = grind (arith, nat_tests) }

pub can_read : (address : List ℕ → List ℕ) (chunks : Chunks) (k : List ℕ) → HasKeptAt address chunks k → CanRead address chunks k
can_read address chunks k kept = (kept.0, kept_reads address chunks k kept.0 kept.1)

asked_by : {D : Type 0} (address : List ℕ → List ℕ) (session : Session D) (p : plain.Session) (t : Transaction) (one : Select) (reply : Reply) (outcome : Outcome Answer)
    → p.transaction ≡ Some t → answer (known t) one ≡ outcome → SessionStands address session p → IsDue 1 (shown_or_refused outcome) reply
    → AnswersAlone address p (command.Data (work.Ask one)) session reply
unfolding worked
asked_by address session p t one reply (Ok shown_so) there is stands owed =
    answers_due address session p (within p (with_own t.own t)) (command.Data (work.Ask one)) (shown shown_so) reply
    (worked_well p t (work.Ask one) (shown shown_so) t.own there (ap (λ (o : Outcome Answer). and_then {B = Worked} o (λ a. Ok (Answers (shown a) t.own))) is)) owed stands
    (subst (λ (q : plain.Session). SessionStands address session q) (sym (in_place p t there)) stands)
asked_by address session p t one reply (Err number) there is stands owed =
    answers_due address session p p (command.Data (work.Ask one)) (refused number) reply
    (worked_ill p t (work.Ask one) number there (ap (λ (o : Outcome Answer). and_then {B = Worked} o (λ a. Ok (Answers (shown a) t.own))) is)) owed stands stands

pub asks : {D : Type 0} (address : List ℕ → List ℕ) (session : Session D) (p : plain.Session) (one : Select) (reply : Reply) → is_in_transaction p ≡ true → SessionStands address session p
    → ((t : Transaction) → p.transaction ≡ Some t → IsKeptAt address (chunks_of session.draft.chunks) session.own.working.0 t.own.working → IsDue 1 (shown_or_refused (answer (known t) one)) reply)
    → AnswersAlone address p (command.Data (work.Ask one)) session reply
asks address session p one reply inside stands owed =
    let found = has_one p.transaction inside in
    asked_by address session p found.0 one reply (answer (known found.0) one) found.1 refl stands (owed found.0 found.1 (own_kept address session p found.0 stands found.1))

-- ---- without sources

-- what it shows of no tables
pub shows_alone : (one : Select) (outcome : Outcome Answer) (reply : Reply) → answer [] one ≡ outcome
    → IsDue 1 (shown_or_refused outcome) reply → IsDue 1 (shown_or_refused (answer [] one)) reply
shows_alone one outcome reply is owed = subst (λ (o : Outcome Answer). IsDue 1 (shown_or_refused o) reply) (sym is) owed

-- what it says is what it shows of no tables with the session's values in their places
pub says_due : (p : plain.Session) (one filled : Select) (reply : Reply) → filled ≡ select_with_values p one
    → IsDue 1 (shown_or_refused (answer [] filled)) reply → IsDue 1 (said p one) reply
unfolding said
says_due p one filled reply is owed = subst (λ (s : Select). IsDue 1 (shown_or_refused (answer [] s)) reply) is owed

pub says : {D : Type 0} (address : List ℕ → List ℕ) (session : Session D) (p : plain.Session) (one : Select) (reply : Reply)
    → IsDue 1 (said p one) reply → SessionStands address session p → AnswersAlone address p (command.Say one) session reply
says address session p one reply owed stands = answers_due address session p p (command.Say one) (said p one) reply refl owed stands stands
