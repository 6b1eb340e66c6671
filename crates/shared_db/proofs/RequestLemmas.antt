-- The steps for requests.
use Rattle.std.proofs.Common.{◌≡◌, refl, ap, ℕ, List, Option, Some, None}
use Rattle.sql_procedures.specs.declared.requests.BranchRequest.{BranchRequest}
use Rattle.sql_procedures.specs.declared.requests.BranchRequest.TheVariants as branch
use Rattle.sql_procedures.specs.declared.requests.CheckoutRequest.{CheckoutRequest}
use Rattle.sql_procedures.specs.declared.requests.CheckoutRequest.TheVariants as checkout
use Rattle.plain_sessions.specs.Branching.{branch_step, checkout_step}
use Rattle.plain_sessions.specs.Records.{Shared}
use Rattle.plain_sessions.specs.Sessions.{Session}
use Rattle.shared_db.specs.Stepping.{StepsFollow, plain_step, point_asked, point_of, step_of_branch, step_of_checkout}

asked_back : (o : Option (List ℕ)) → point_asked (point_of o) ≡ o
asked_back None = refl
asked_back (Some name) = refl

on_branches : (shared : Shared) (p : Session) (request : BranchRequest) → plain_step shared p (step_of_branch request) ≡ branch_step shared p request
on_branches shared p (branch.Create request) = ap (λ o. branch_step shared p (branch.Create (record { name = request.name; point = o }))) (asked_back request.point)
on_branches shared p (branch.Delete name) = refl

on_checkout : (shared : Shared) (p : Session) (request : CheckoutRequest) → plain_step shared p (step_of_checkout request) ≡ checkout_step shared p request
on_checkout shared p (checkout.Existing name) = refl
on_checkout shared p (checkout.New request) = ap (λ o. checkout_step shared p (checkout.New (record { name = request.name; point = o }))) (asked_back request.point)

pub steps_follow : StepsFollow
steps_follow = record { branches = on_branches; checkouts = on_checkout }
