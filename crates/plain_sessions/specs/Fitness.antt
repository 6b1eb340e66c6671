-- What the calls on a command ask of it.
use Rattle.std.specs.Prelude.{◌≡◌, Bool, true, ◌&&◌}
use Rattle.std.specs.Option.{option_map_or}
use Rattle.sql_procedures.specs.Arguments.{is_message, is_point}
use Rattle.sql_procedures.specs.declared.requests.BranchRequest.{BranchRequest}
use Rattle.sql_procedures.specs.declared.requests.BranchRequest.TheVariants as branch
use Rattle.sql_procedures.specs.declared.requests.CheckoutRequest.{CheckoutRequest}
use Rattle.sql_procedures.specs.declared.requests.CheckoutRequest.TheVariants as checkout
use Rattle.sql_procedures.specs.declared.requests.MergeRequest.{MergeRequest}
use Rattle.sql_procedures.specs.declared.requests.MergeRequest.TheVariants as merging
use Rattle.sql_procedures.specs.declared.requests.NewBranch.{NewBranch}
use Rattle.sql_laws.specs.Fit.{IsFit}
use Rattle.plain_sessions.specs.declared.commands.Command.{Command}
use Rattle.plain_sessions.specs.declared.commands.Command.TheVariants.{Checkout, Data, OnBranches}
use Rattle.plain_sessions.specs.declared.commands.Work.{Work}
use Rattle.plain_sessions.specs.declared.commands.Work.TheVariants.{Change, Commit, Merge}

-- each name and each point has a name's form

abbrev pub is_fit_new : NewBranch → Bool
is_fit_new made = is_point made.name && option_map_or is_point made.point true

abbrev pub is_fit_branch : BranchRequest → Bool
is_fit_branch (branch.Create made) = is_fit_new made
is_fit_branch (branch.Delete name) = is_point name

abbrev pub is_fit_checkout : CheckoutRequest → Bool
is_fit_checkout (checkout.Existing name) = is_point name
is_fit_checkout (checkout.New made) = is_fit_new made

-- and each message a message's length
abbrev pub is_fit_merge : MergeRequest → Bool
is_fit_merge merging.Abort = true
is_fit_merge (merging.Merge other) = is_point other.name && option_map_or is_message other.message true

-- a statement that writes is one that a text can be
abbrev pub IsFitWork : Work → Type 0
IsFitWork (Change write) = IsFit write
IsFitWork (Commit request) = is_message request.message ≡ true
IsFitWork (Merge request) = is_fit_merge request ≡ true
IsFitWork work = Unit {0}

abbrev pub IsFitCommand : Command → Type 0
IsFitCommand (Data work) = IsFitWork work
IsFitCommand (OnBranches request) = is_fit_branch request ≡ true
IsFitCommand (Checkout request) = is_fit_checkout request ≡ true
IsFitCommand command = Unit {0}
