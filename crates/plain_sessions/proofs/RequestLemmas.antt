-- What a procedure's arguments ask for has the forms of names and messages.
use Rattle.std.proofs.Common.{◌≡◌, refl, Bool, true, false, ◌&&◌, List, [], ◌∷◌, ℕ, Option, Some, None, if◌then◌else◌, codes, is_some, not, ◌||◌, sym, subst}
use Rattle.std.specs.Option.{option_and_then, option_map, option_map_or}
use Rattle.std.proofs.lemmas.Bool.{and_from as both}
use Rattle.sql_procedures.specs.Arguments.{Arguments, add_of, all_or_named, branch_of, checkout_of, commit_argument, commit_from, commit_message, commit_of, commit_option, committed, is_abort, is_message, is_point, is_word, merge_argument, merge_from, merge_message, merge_name, merge_of, merge_option, merged, new_branch, new_branch_at, no_commit, no_merge, point_of, request_of, reset_of, resolve_of, staging_of, verify_of, with_all, with_empty, with_merge_message, with_message, with_named, with_no_ff}
use Rattle.sql_procedures.specs.declared.procedures.Procedure.{Procedure}
use Rattle.sql_procedures.specs.declared.procedures.Procedure.TheVariants as procedure
use Rattle.sql_procedures.specs.declared.commits.Commit.{Commit}
use Rattle.sql_procedures.specs.declared.merges.Merge.{Merge}
use Rattle.sql_procedures.specs.declared.requests.Request.{Request}
use Rattle.sql_procedures.specs.declared.requests.Request.TheVariants as request
use Rattle.sql_procedures.specs.declared.requests.BranchRequest.{BranchRequest}
use Rattle.sql_procedures.specs.declared.requests.BranchRequest.TheVariants as branch
use Rattle.sql_procedures.specs.declared.requests.CheckoutRequest.{CheckoutRequest}
use Rattle.sql_procedures.specs.declared.requests.CheckoutRequest.TheVariants as checkout
use Rattle.sql_procedures.specs.declared.requests.CommitRequest.{CommitRequest}
use Rattle.sql_procedures.specs.declared.requests.MergeRequest.{MergeRequest}
use Rattle.sql_procedures.specs.declared.requests.MergeRequest.TheVariants as merging
use Rattle.sql_procedures.specs.declared.requests.NewBranch.{NewBranch}
use Rattle.plain_sessions.specs.Commands.{request_command}
use Rattle.plain_sessions.specs.Fitness.{IsFitCommand, is_fit_branch, is_fit_checkout, is_fit_merge, is_fit_new}

-- whatever is there has P
abbrev pub Held : {A : Type 0} → (A → Type 0) → Option A → Type 0
Held P None = Unit {0}
Held P (Some x) = P x

either : {A : Type 0} (P : A → Type 0) (b : Bool) (x y : Option A) → Held P x → Held P y → Held P (if b then x else y)
either P true x y p q = p
either P false x y p q = q

or_none : {A : Type 0} (P : A → Type 0) (b : Bool) (x : Option A) → Held P x → Held P (if b then x else None)
or_none P true x p = p
or_none P false x p = tt

none_or : {A : Type 0} (P : A → Type 0) (b : Bool) (x : Option A) → Held P x → Held P (if b then None else x)
none_or P true x p = tt
none_or P false x p = p

mapped : {A B : Type 0} (P : B → Type 0) (f : A → B) (x : Option A) → Held (λ (a : A). P (f a)) x → Held P (option_map f x)
mapped P f (Some x) p = p
mapped P f None p = tt

bound : {A B : Type 0} (P : A → Type 0) (Q : B → Type 0) (f : A → Option B) (x : Option A) → Held P x → ((a : A) → P a → Held Q (f a)) → Held Q (option_and_then f x)
bound P Q f (Some x) p next = next x p
bound P Q f None p next = tt

-- ---- names of branches

point_fits : (argument : List ℕ) → Held (λ (name : List ℕ). is_point name ≡ true) (point_of argument)
point_fits argument =
    elim (is_point argument) as (λ (b : Bool). is_point argument ≡ b → Held (λ (name : List ℕ). is_point name ≡ true) (if b then Some argument else None)) [
      | true ↦ λ yes. yes
      | false ↦ λ no. tt
    ] refl

abbrev Fresh : NewBranch → Type 0
Fresh made = is_fit_new made ≡ true

and_true : (b : Bool) → b ≡ true → b && true ≡ true
and_true true so = refl
and_true false so = so

new_fits : (name : List ℕ) → Held Fresh (new_branch name)
new_fits name =
    mapped Fresh (λ (named : List ℕ). record { name = named; point = None }) (point_of name)
    (weaker (λ (n : List ℕ). is_point n ≡ true) (λ (n : List ℕ). is_point n && true ≡ true) (λ n so. and_true (is_point n) so) (point_of name) (point_fits name))
  where
    weaker : {A : Type 0} (P Q : A → Type 0) → ((a : A) → P a → Q a) → (x : Option A) → Held P x → Held Q x
    weaker P Q next (Some x) p = next x p
    weaker P Q next None p = tt

new_at_fits : (name point : List ℕ) → Held Fresh (new_branch_at name point)
new_at_fits name point =
    elim (is_point name && is_point point) as (λ (b : Bool). is_point name && is_point point ≡ b
    → Held Fresh (if b then Some (record { name = name; point = Some point }) else None)) [
      | true ↦ λ yes. yes
      | false ↦ λ no. tt
    ] refl

abbrev OfBranch : BranchRequest → Type 0
OfBranch made = is_fit_branch made ≡ true

branch_fits : (arguments : Arguments) → Held OfBranch (branch_of arguments)
branch_fits [] = tt
branch_fits (name ∷ []) = mapped OfBranch (λ (made : NewBranch). branch.Create made) (new_branch name) (new_fits name)
branch_fits (first ∷ second ∷ []) =
    either OfBranch (is_word (codes "-d") first || is_word (codes "-D") first) _ _ (mapped OfBranch (λ (name : List ℕ). branch.Delete name) (point_of second) (point_fits second))
    (mapped OfBranch (λ (made : NewBranch). branch.Create made) (new_branch_at first second) (new_at_fits first second))
branch_fits (a ∷ b ∷ c ∷ rest) = tt

abbrev OfCheckout : CheckoutRequest → Type 0
OfCheckout asked = is_fit_checkout asked ≡ true

checkout_fits : (arguments : Arguments) → Held OfCheckout (checkout_of arguments)
checkout_fits [] = tt
checkout_fits (name ∷ []) = mapped OfCheckout (λ (known : List ℕ). checkout.Existing known) (point_of name) (point_fits name)
checkout_fits (first ∷ name ∷ []) =
    or_none OfCheckout (is_word (codes "-b") first) (option_map (λ (made : NewBranch). checkout.New made) (new_branch name))
    (mapped OfCheckout (λ (made : NewBranch). checkout.New made) (new_branch name) (new_fits name))
checkout_fits (first ∷ name ∷ point ∷ []) =
    or_none OfCheckout (is_word (codes "-b") first) (option_map (λ (made : NewBranch). checkout.New made) (new_branch_at name point))
    (mapped OfCheckout (λ (made : NewBranch). checkout.New made) (new_branch_at name point) (new_at_fits name point))
checkout_fits (a ∷ b ∷ c ∷ d ∷ rest) = tt

-- ---- DOLT_COMMIT

abbrev Says : Commit → Type 0
Says seen = option_map_or is_message seen.message true ≡ true

commit_message_fits : (seen : Commit) (argument : List ℕ) → Held Says (commit_message seen argument)
commit_message_fits seen argument =
    elim (is_message argument) as (λ (b : Bool). is_message argument ≡ b
    → Held Says (if b then Some (record seen { awaits_message = false; message = Some argument }) else None)) [
      | true ↦ λ yes. yes
      | false ↦ λ no. tt
    ] refl

with_message_says : (seen : Commit) → Says seen → Held Says (with_message seen)
with_message_says seen so = none_or Says (is_some seen.message) (Some (record seen { awaits_message = true })) so

with_named_says : (seen : Commit) → Says seen → Held Says (with_named seen)
with_named_says seen so = none_or Says (seen.named) (Some (record seen { named = true })) so

with_all_says : (seen : Commit) → Says seen → Held Says (with_all seen)
with_all_says seen so = none_or Says (seen.all) (Some (record seen { all = true })) so

with_empty_says : (seen : Commit) → Says seen → Held Says (with_empty seen)
with_empty_says seen so = none_or Says (seen.empty) (Some (record seen { empty = true })) so

commit_option_fits : (seen : Commit) (argument : List ℕ) → Says seen → Held Says (commit_option seen argument)
commit_option_fits seen argument so =
    either Says (is_word (codes "-m") argument) (with_message seen) _ (with_message_says seen so) (
    either Says (is_word (codes "-am") argument) (option_and_then with_message (with_named seen)) _
    (bound Says Says with_message (with_named seen) (with_named_says seen so) with_message_says) (
    either Says (is_word (codes "-Am") argument) (option_and_then with_message (with_all seen)) _
    (bound Says Says with_message (with_all seen) (with_all_says seen so) with_message_says) (
    either Says (is_word (codes "-a") argument) (with_named seen) _ (with_named_says seen so) (
    either Says (is_word (codes "-A") argument) (with_all seen) _ (with_all_says seen so) (
    or_none Says (is_word (codes "--allow-empty") argument) (with_empty seen) (with_empty_says seen so))))))

commit_argument_fits : (seen : Commit) (argument : List ℕ) → Says seen → Held Says (commit_argument seen argument)
commit_argument_fits seen argument so =
    either Says seen.awaits_message (commit_message seen argument) (commit_option seen argument) (commit_message_fits seen argument) (commit_option_fits seen argument so)

commit_from_fits : (seen : Commit) (arguments : Arguments) → Says seen → Held Says (commit_from seen arguments)
commit_from_fits seen [] so = so
commit_from_fits seen (argument ∷ arguments) so =
    bound Says Says (λ (next : Commit). commit_from next arguments) (commit_argument seen argument) (commit_argument_fits seen argument so)
    (λ next says. commit_from_fits next arguments says)

abbrev OfCommit : CommitRequest → Type 0
OfCommit asked = is_message asked.message ≡ true

said_fits : (f : List ℕ → CommitRequest) → ((m : List ℕ) → (f m).message ≡ m) → (message : Option (List ℕ)) → option_map_or is_message message true ≡ true
    → Held OfCommit (option_map f message)
said_fits f is (Some m) so = subst (λ (n : List ℕ). is_message n ≡ true) (sym (is m)) so
said_fits f is None so = tt

abbrev asked_by : Commit → List ℕ → CommitRequest
asked_by seen message = record { message = message; staging = staging_of seen.named seen.all; allow_empty = seen.empty }

committed_fits : (seen : Commit) → Says seen → Held OfCommit (committed seen)
committed_fits seen so = none_or OfCommit seen.awaits_message (option_map (asked_by seen) seen.message) (said_fits (asked_by seen) (λ m. refl) seen.message so)

commit_fits : (arguments : Arguments) → Held OfCommit (commit_of arguments)
commit_fits arguments = bound Says OfCommit committed (commit_from no_commit arguments) (commit_from_fits no_commit arguments refl) committed_fits

-- ---- DOLT_MERGE

abbrev Names : Merge → Type 0
Names seen = (option_map_or is_point seen.name true ≡ true) × (option_map_or is_message seen.message true ≡ true)

merge_message_fits : (seen : Merge) (argument : List ℕ) → Names seen → Held Names (merge_message seen argument)
merge_message_fits seen argument so =
    elim (is_message argument) as (λ (b : Bool). is_message argument ≡ b
    → Held Names (if b then Some (record seen { awaits_message = false; message = Some argument }) else None)) [
      | true ↦ λ yes. (so.0, yes)
      | false ↦ λ no. tt
    ] refl

merge_name_fits : (seen : Merge) (argument : List ℕ) → Names seen → Held Names (merge_name seen argument)
merge_name_fits seen argument so =
    elim (is_point argument) as (λ (b : Bool). is_point argument ≡ b
    → Held Names (if is_some seen.name || not b then None else Some (record seen { name = Some argument }))) [
      | true ↦ λ yes. either Names (is_some seen.name || not true) None (Some (record seen { name = Some argument })) tt (yes, so.1)
      | false ↦ λ no. either_none (is_some seen.name)
    ] refl
  where
    either_none : (b : Bool) → Held Names (if b || not false then None else Some (record seen { name = Some argument }))
    either_none true = tt
    either_none false = tt

with_no_ff_names : (seen : Merge) → Names seen → Held Names (with_no_ff seen)
with_no_ff_names seen so = none_or Names seen.no_ff (Some (record seen { no_ff = true })) so

with_merge_message_names : (seen : Merge) → Names seen → Held Names (with_merge_message seen)
with_merge_message_names seen so = none_or Names (is_some seen.message) (Some (record seen { awaits_message = true })) so

merge_argument_fits : (seen : Merge) (argument : List ℕ) → Names seen → Held Names (merge_argument seen argument)
merge_argument_fits seen argument so =
    either Names seen.awaits_message (merge_message seen argument) (merge_option seen argument) (merge_message_fits seen argument so) (
    either Names (is_word (codes "--no-ff") argument) (with_no_ff seen) _ (with_no_ff_names seen so) (
    either Names (is_word (codes "-m") argument) (with_merge_message seen) (merge_name seen argument) (with_merge_message_names seen so) (merge_name_fits seen argument so)))

merge_from_fits : (seen : Merge) (arguments : Arguments) → Names seen → Held Names (merge_from seen arguments)
merge_from_fits seen [] so = so
merge_from_fits seen (argument ∷ arguments) so =
    bound Names Names (λ (next : Merge). merge_from next arguments) (merge_argument seen argument) (merge_argument_fits seen argument so)
    (λ next names. merge_from_fits next arguments names)

abbrev OfMerge : MergeRequest → Type 0
OfMerge asked = is_fit_merge asked ≡ true

named_fits : (seen : Merge) (name : Option (List ℕ)) → option_map_or is_point name true ≡ true → option_map_or is_message seen.message true ≡ true
    → Held OfMerge (option_map (λ (one : List ℕ). merging.Merge (record { name = one; no_ff = seen.no_ff; message = seen.message })) name)
named_fits seen (Some one) so says = both (is_point one) (option_map_or is_message seen.message true) so says
named_fits seen None so says = tt

merged_fits : (seen : Merge) → Names seen → Held OfMerge (merged seen)
merged_fits seen so =
    none_or OfMerge seen.awaits_message (option_map (λ (one : List ℕ). merging.Merge (record { name = one; no_ff = seen.no_ff; message = seen.message })) seen.name)
    (named_fits seen seen.name so.0 so.1)

merge_fits : (arguments : Arguments) → Held OfMerge (merge_of arguments)
merge_fits arguments =
    either OfMerge (is_abort arguments) (Some merging.Abort) (option_and_then merged (merge_from no_merge arguments)) refl
    (bound Names OfMerge merged (merge_from no_merge arguments) (merge_from_fits no_merge arguments (refl, refl)) merged_fits)

-- ---- all

abbrev pub Fits : Request → Type 0
Fits asked = IsFitCommand (request_command asked)

anything : {A : Type 0} (f : A → Request) → ((x : A) → Fits (f x)) → (o : Option A) → Held Fits (option_map f o)
anything f fits (Some x) = fits x
anything f fits None = tt

pub request_fits : (called : Procedure) (arguments : Arguments) → Held Fits (request_of called arguments)
request_fits procedure.Add arguments = anything (λ x. request.Add x) (λ x. tt) (add_of arguments)
request_fits procedure.Reset arguments = anything (λ x. request.Reset x) (λ x. tt) (reset_of arguments)
request_fits procedure.Commit arguments = mapped Fits (λ x. request.Commit x) (commit_of arguments) (commit_fits arguments)
request_fits procedure.Branch arguments = mapped Fits (λ x. request.Branch x) (branch_of arguments) (branch_fits arguments)
request_fits procedure.Checkout arguments = mapped Fits (λ x. request.Checkout x) (checkout_of arguments) (checkout_fits arguments)
request_fits procedure.Merge arguments = mapped Fits (λ x. request.Merge x) (merge_of arguments) (merge_fits arguments)
request_fits procedure.ConflictsResolve arguments = anything (λ x. request.ConflictsResolve x) (λ x. tt) (resolve_of arguments)
request_fits procedure.VerifyConstraints arguments = anything (λ x. request.VerifyConstraints x) (λ x. tt) (verify_of arguments)

-- a call's request, where it has one
pub called_fits : (called : Option Procedure) (arguments : Arguments) → Held Fits (option_and_then (λ (one : Procedure). request_of one arguments) called)
called_fits (Some one) arguments = request_fits one arguments
called_fits None arguments = tt
