-- What the arguments of the procedures ask for, and which a procedure takes.
use Rattle.std.specs.Prelude.{ℕ, Bool, true, false, ◌||◌, ◌&&◌, ◌==◌, List, [], ◌∷◌, map, Option, Some, None, is_some, not, codes, nat_le, length, if◌then◌else◌}
use Rattle.std.specs.Str.{bytes_eq, str_eq_ignore_ascii_case, str_to_ascii_lowercase}
use Rattle.std.specs.List.{list_any, list_all}
use Rattle.std.specs.Option.{option_and_then, option_map}
use Rattle.sql_procedures.specs.declared.procedures.Procedure.{Procedure}
use Rattle.sql_procedures.specs.declared.procedures.Procedure.TheVariants as procedure
use Rattle.sql_procedures.specs.declared.commits.Commit.{Commit}
use Rattle.sql_procedures.specs.declared.merges.Merge.{Merge}
use Rattle.sql_procedures.specs.declared.requests.Request.{Request}
use Rattle.sql_procedures.specs.declared.requests.Request.TheVariants as request
use Rattle.sql_procedures.specs.declared.requests.Tables.{Tables}
use Rattle.sql_procedures.specs.declared.requests.Tables.TheVariants as tables
use Rattle.sql_procedures.specs.declared.requests.Reset.{Reset}
use Rattle.sql_procedures.specs.declared.requests.Reset.TheVariants as reset
use Rattle.sql_procedures.specs.declared.requests.Staging.{Staging}
use Rattle.sql_procedures.specs.declared.requests.Staging.TheVariants as staging
use Rattle.sql_procedures.specs.declared.requests.CommitRequest.{CommitRequest}
use Rattle.sql_procedures.specs.declared.requests.NewBranch.{NewBranch}
use Rattle.sql_procedures.specs.declared.requests.BranchRequest.{BranchRequest}
use Rattle.sql_procedures.specs.declared.requests.BranchRequest.TheVariants as branch
use Rattle.sql_procedures.specs.declared.requests.CheckoutRequest.{CheckoutRequest}
use Rattle.sql_procedures.specs.declared.requests.CheckoutRequest.TheVariants as checkout
use Rattle.sql_procedures.specs.declared.requests.MergeRequest.{MergeRequest}
use Rattle.sql_procedures.specs.declared.requests.MergeRequest.TheVariants as merging
use Rattle.sql_procedures.specs.declared.requests.Side.{Side}
use Rattle.sql_procedures.specs.declared.requests.Side.TheVariants as side
use Rattle.sql_procedures.specs.declared.requests.Resolution.{Resolution}
use Rattle.sql_procedures.specs.declared.requests.Verification.{Verification}
use Rattle.sql_procedures.specs.declared.requests.Verification.TheVariants as verification

abbrev pub Arguments : Type 0
Arguments = List (List ℕ)

abbrev pub is_word : List ℕ → List ℕ → Bool
is_word word argument = bytes_eq argument word

abbrev pub begins_with_minus : List ℕ → Bool
begins_with_minus [] = false
begins_with_minus (byte ∷ bytes) = byte == 45

-- The forms of arguments.

-- a letter, a digit or one of `_-./`
abbrev pub is_name_byte : ℕ → Bool
is_name_byte byte =
    nat_le 97 byte && nat_le byte 122 || nat_le 65 byte && nat_le byte 90 || nat_le 48 byte && nat_le byte 57
    || byte == 95 || byte == 45 || byte == 46 || byte == 47

-- the form of a branch's name; an address has it too
abbrev pub is_point : List ℕ → Bool
is_point argument = nat_le 1 (length argument) && nat_le (length argument) 64 && list_all is_name_byte argument && not (begins_with_minus argument)

abbrev pub is_message : List ℕ → Bool
is_message argument = nat_le 1 (length argument) && nat_le (length argument) 8192

-- what may name a table: neither an option nor the sign for all
abbrev pub is_table : List ℕ → Bool
is_table argument = not (begins_with_minus argument) && not (is_word (codes ".") argument)

-- a table is named twice, without regard to case
abbrev pub repeats_table : Arguments → Bool
repeats_table [] = false
repeats_table (table ∷ tables) = list_any (str_eq_ignore_ascii_case table) tables || repeats_table tables

-- at least one table, none twice
abbrev pub are_tables : Arguments → Bool
are_tables [] = false
are_tables (table ∷ tables) = list_all is_table (table ∷ tables) && not (repeats_table (table ∷ tables))

-- What the arguments of each procedure ask for; nothing where it doesn't take them.

-- a table's name is read without regard to case
abbrev pub named_tables : Arguments → Option Tables
named_tables arguments = if are_tables arguments then Some (tables.Named (map str_to_ascii_lowercase arguments)) else None

abbrev pub add_of : Arguments → Option Tables
add_of (only ∷ []) = if is_word (codes ".") only || is_word (codes "-A") only then Some tables.All else named_tables (only ∷ [])
add_of arguments = named_tables arguments

abbrev pub reset_of : Arguments → Option Reset
reset_of [] = Some (reset.Tables tables.All)
reset_of (only ∷ []) = if is_word (codes "--hard") only then Some reset.Hard else option_map (λ named. reset.Tables named) (named_tables (only ∷ []))
reset_of arguments = option_map (λ named. reset.Tables named) (named_tables arguments)

-- an argument that has a name's form
abbrev pub point_of : List ℕ → Option (List ℕ)
point_of argument = if is_point argument then Some argument else None

abbrev pub new_branch : List ℕ → Option NewBranch
new_branch name = option_map (λ named. record { name = named; point = None }) (point_of name)

abbrev pub new_branch_at : List ℕ → List ℕ → Option NewBranch
new_branch_at name point = if is_point name && is_point point then Some (record { name = name; point = Some point }) else None

-- `-d` or `-D` and a name, or a name and perhaps a point
abbrev pub branch_of : Arguments → Option BranchRequest
branch_of (name ∷ []) = option_map (λ made. branch.Create made) (new_branch name)
branch_of (first ∷ second ∷ []) =
    if is_word (codes "-d") first || is_word (codes "-D") first then option_map (λ name. branch.Delete name) (point_of second)
    else option_map (λ made. branch.Create made) (new_branch_at first second)
branch_of arguments = None

-- a name, or `-b`, a name and perhaps a point
abbrev pub checkout_of : Arguments → Option CheckoutRequest
checkout_of (name ∷ []) = option_map (λ known. checkout.Existing known) (point_of name)
checkout_of (first ∷ name ∷ []) = if is_word (codes "-b") first then option_map (λ made. checkout.New made) (new_branch name) else None
checkout_of (first ∷ name ∷ point ∷ []) = if is_word (codes "-b") first then option_map (λ made. checkout.New made) (new_branch_at name point) else None
checkout_of arguments = None

-- of DOLT_COMMIT each part at most once, a message behind `-m`, `-am` or `-Am`

abbrev pub with_message : Commit → Option Commit
with_message seen = if is_some seen.message then None else Some (record seen { awaits_message = true })

abbrev pub with_named : Commit → Option Commit
with_named seen = if seen.named then None else Some (record seen { named = true })

abbrev pub with_all : Commit → Option Commit
with_all seen = if seen.all then None else Some (record seen { all = true })

abbrev pub with_empty : Commit → Option Commit
with_empty seen = if seen.empty then None else Some (record seen { empty = true })

abbrev pub commit_option : Commit → List ℕ → Option Commit
commit_option seen argument =
    if is_word (codes "-m") argument then with_message seen else (
    if is_word (codes "-am") argument then option_and_then with_message (with_named seen) else (
    if is_word (codes "-Am") argument then option_and_then with_message (with_all seen) else (
    if is_word (codes "-a") argument then with_named seen else (
    if is_word (codes "-A") argument then with_all seen else (
    if is_word (codes "--allow-empty") argument then with_empty seen else
    None)))))

abbrev pub commit_message : Commit → List ℕ → Option Commit
commit_message seen argument = if is_message argument then Some (record seen { awaits_message = false; message = Some argument }) else None

abbrev pub commit_argument : Commit → List ℕ → Option Commit
commit_argument seen argument = if seen.awaits_message then commit_message seen argument else commit_option seen argument

abbrev pub commit_from : Commit → Arguments → Option Commit
commit_from seen [] = Some seen
commit_from seen (argument ∷ arguments) = option_and_then (λ next. commit_from next arguments) (commit_argument seen argument)

abbrev pub no_commit : Commit
no_commit = record { awaits_message = false; message = None; named = false; all = false; empty = false }

-- `-a` beside `-A` says nothing more
abbrev pub staging_of : Bool → Bool → Staging
staging_of named all = if all then staging.All else (if named then staging.Known else staging.AsIs)

abbrev pub committed : Commit → Option CommitRequest
committed seen =
    if seen.awaits_message then None
    else option_map (λ message. record { message = message; staging = staging_of seen.named seen.all; allow_empty = seen.empty }) seen.message

abbrev pub commit_of : Arguments → Option CommitRequest
commit_of arguments = option_and_then committed (commit_from no_commit arguments)

-- of DOLT_MERGE `--abort` alone; or a name, and perhaps `--no-ff` and a message behind `-m`, each once, in any order

abbrev pub merge_name : Merge → List ℕ → Option Merge
merge_name seen argument = if is_some seen.name || not (is_point argument) then None else Some (record seen { name = Some argument })

abbrev pub with_no_ff : Merge → Option Merge
with_no_ff seen = if seen.no_ff then None else Some (record seen { no_ff = true })

abbrev pub with_merge_message : Merge → Option Merge
with_merge_message seen = if is_some seen.message then None else Some (record seen { awaits_message = true })

abbrev pub merge_option : Merge → List ℕ → Option Merge
merge_option seen argument =
    if is_word (codes "--no-ff") argument then with_no_ff seen else (
    if is_word (codes "-m") argument then with_merge_message seen else
    merge_name seen argument)

abbrev pub merge_message : Merge → List ℕ → Option Merge
merge_message seen argument = if is_message argument then Some (record seen { awaits_message = false; message = Some argument }) else None

abbrev pub merge_argument : Merge → List ℕ → Option Merge
merge_argument seen argument = if seen.awaits_message then merge_message seen argument else merge_option seen argument

abbrev pub merge_from : Merge → Arguments → Option Merge
merge_from seen [] = Some seen
merge_from seen (argument ∷ arguments) = option_and_then (λ next. merge_from next arguments) (merge_argument seen argument)

abbrev pub no_merge : Merge
no_merge = record { awaits_message = false; message = None; name = None; no_ff = false }

abbrev pub merged : Merge → Option MergeRequest
merged seen =
    if seen.awaits_message then None
    else option_map (λ name. merging.Merge (record { name = name; no_ff = seen.no_ff; message = seen.message })) seen.name

abbrev pub is_abort : Arguments → Bool
is_abort (only ∷ []) = is_word (codes "--abort") only
is_abort arguments = false

abbrev pub merge_of : Arguments → Option MergeRequest
merge_of arguments = if is_abort arguments then Some merging.Abort else option_and_then merged (merge_from no_merge arguments)

-- a side first, and then `.` alone, or tables

abbrev pub side_of : List ℕ → Option Side
side_of argument =
    if is_word (codes "--ours") argument then Some side.Ours else (
    if is_word (codes "--theirs") argument then Some side.Theirs else
    None)

abbrev pub all_or_named : Arguments → Option Tables
all_or_named (only ∷ []) = if is_word (codes ".") only then Some tables.All else named_tables (only ∷ [])
all_or_named arguments = named_tables arguments

abbrev pub resolved : Option Side → Arguments → Option Resolution
resolved (Some taken) arguments = option_map (λ named. record { side = taken; tables = named }) (all_or_named arguments)
resolved None arguments = None

abbrev pub resolve_of : Arguments → Option Resolution
resolve_of [] = None
resolve_of (first ∷ arguments) = resolved (side_of first) arguments

abbrev pub way : List ℕ → Option Verification
way only =
    if is_word (codes "--all") only then Some verification.Recorded else (
    if is_word (codes "--output-only") only then Some verification.OutputOnly else
    None)

abbrev pub ways : List ℕ → List ℕ → Option Verification
ways first second =
    if is_word (codes "--all") first && is_word (codes "--output-only") second || is_word (codes "--output-only") first && is_word (codes "--all") second
    then Some verification.OutputOnly else None

-- each of its two at most once, in either order
abbrev pub verify_of : Arguments → Option Verification
verify_of [] = Some verification.Recorded
verify_of (only ∷ []) = way only
verify_of (first ∷ second ∷ []) = ways first second
verify_of arguments = None

abbrev pub request_of : Procedure → Arguments → Option Request
request_of procedure.Add arguments = option_map (λ x. request.Add x) (add_of arguments)
request_of procedure.Reset arguments = option_map (λ x. request.Reset x) (reset_of arguments)
request_of procedure.Commit arguments = option_map (λ x. request.Commit x) (commit_of arguments)
request_of procedure.Branch arguments = option_map (λ x. request.Branch x) (branch_of arguments)
request_of procedure.Checkout arguments = option_map (λ x. request.Checkout x) (checkout_of arguments)
request_of procedure.Merge arguments = option_map (λ x. request.Merge x) (merge_of arguments)
request_of procedure.ConflictsResolve arguments = option_map (λ x. request.ConflictsResolve x) (resolve_of arguments)
request_of procedure.VerifyConstraints arguments = option_map (λ x. request.VerifyConstraints x) (verify_of arguments)

abbrev pub takes : Procedure → Arguments → Bool
takes called arguments = is_some (request_of called arguments)

-- the procedure of this name
abbrev pub procedure_of : List ℕ → Option Procedure
procedure_of name =
    if is_word (codes "dolt_add") name then Some procedure.Add else (
    if is_word (codes "dolt_reset") name then Some procedure.Reset else (
    if is_word (codes "dolt_commit") name then Some procedure.Commit else (
    if is_word (codes "dolt_branch") name then Some procedure.Branch else (
    if is_word (codes "dolt_checkout") name then Some procedure.Checkout else (
    if is_word (codes "dolt_merge") name then Some procedure.Merge else (
    if is_word (codes "dolt_conflicts_resolve") name then Some procedure.ConflictsResolve else (
    if is_word (codes "dolt_verify_constraints") name then Some procedure.VerifyConstraints else
    None)))))))
