-- Databases that take whole tables of one another, and conflicts that are settled.
use Rattle.std.proofs.Common.{◌≡◌, refl, ℕ, true, false, cond, List, [], ◌∷◌, length, nat_lt, Option, None, Some, Ok}
use Rattle.std.specs.Prelude.{IfOk}
use Rattle.schema_model.specs.Limits.{most_tables}
use Rattle.schema_model.specs.PlainTables.{NamedTable, PlainDatabase, PlainTable}
use Rattle.sql_procedures.specs.declared.requests.Resolution.{Resolution}
use Rattle.plain_sql.specs.Lists.{each, unless}
use Rattle.plain_writes.specs.CheckTexts.{checks}
use Rattle.plain_writes.specs.Violations.{first_violation, table_in}
use Rattle.plain_schemas.specs.Effects.{without_table}
use Rattle.plain_sessions.specs.Branching.{put_table, staged_as, taking, taking_all}
use Rattle.plain_sessions.specs.Branching as branching
use Rattle.plain_sessions.specs.Merging.{breaks_index, breaks_null, database_after, has_too_many_rows, is_meant, may_settle, names_meant, resolve, settled_table, table_after, takes_bad_row, unless_violated}
use Rattle.plain_sessions.specs.Records.{BranchState}
use Rattle.keep_laws.proofs.PutLemmas.{in_order_have}
use Rattle.check_laws.specs.Meant.{AreMeant, IsMeantState, IsMeantTable}
use Rattle.check_laws.proofs.Databases.{IsMeantNamed, found_meant, without_meant}
use Rattle.check_laws.proofs.Outcomes.{then_ok, unless_ok}

pub put_meant : (name : List ℕ) (table : Option PlainTable) (database : PlainDatabase) → ((one : PlainTable) → table ≡ Some one → IsMeantTable name one.schema) → AreMeant database → AreMeant (put_table name table database)
put_meant name None database it meant = without_meant name database meant
put_meant name (Some one) database it meant = in_order_have branching.table_cmp IsMeantNamed (record { name = name; table = one } ∷ without_table name database) (it one refl, without_meant name database meant)

pub taking_meant : (from into : PlainDatabase) (names : List (List ℕ)) → AreMeant from → AreMeant into → AreMeant (taking_all from into names)
taking_meant from into [] f i = i
taking_meant from into (name ∷ names) f i = taking_meant from (taking from into name) names f (put_meant name (table_in from name) into (λ one e. found_meant name from one f e) i)

pub staged_meant : (own : BranchState) (staged : PlainDatabase) → IsMeantState own → AreMeant staged → IfOk (staged_as own staged) IsMeantState
staged_meant own staged o meant = unless_ok IsMeantState (nat_lt most_tables (length staged)) 9010 (Ok (record own { staged = staged })) (λ few. record { working = o.working; staged = meant })

-- ---- conflicts that are settled

one_settled : (request : Resolution) (named : NamedTable) → IsMeantNamed named → IsMeantNamed (table_after request named)
one_settled request named it = elim (is_meant request.tables named.name) as (λ b. IsMeantNamed (cond b (settled_table request named) named)) [ true ↦ it | false ↦ it ]

settled_meant : (request : Resolution) (database : PlainDatabase) → AreMeant database → AreMeant (database_after request database)
settled_meant request [] meant = tt
settled_meant request (named ∷ database) meant = (one_settled request named meant.0, settled_meant request database meant.1)

unviolated : (number : Option ℕ) (database : PlainDatabase) → AreMeant database → IfOk (unless_violated number database) AreMeant
unviolated (Some number) database meant = tt
unviolated None database meant = unless_ok AreMeant (has_too_many_rows database) 9010 (Ok database) (λ few. meant)

pub resolved_meant : (request : Resolution) (database : PlainDatabase) → AreMeant database → IfOk (resolve request database) AreMeant
resolved_meant request database meant =
    let after = database_after request database in
    let last = unless_violated (first_violation checks database after) after in
    let next = unless (takes_bad_row breaks_index request database) 9010 last in
    then_ok AreMeant (each (may_settle database) (names_meant request.tables)) (λ names. unless (takes_bad_row breaks_null request database) 1048 next) (λ names h.
    unless_ok AreMeant (takes_bad_row breaks_null request database) 1048 next (λ nulls.
    unless_ok AreMeant (takes_bad_row breaks_index request database) 9010 last (λ long.
    unviolated (first_violation checks database after) after (settled_meant request database meant))))
