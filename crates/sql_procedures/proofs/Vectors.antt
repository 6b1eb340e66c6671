-- The definitions, computed on worked examples.
use Rattle.std.proofs.Common.{◌≡◌, refl, codes, [], ◌∷◌, Some, None, true, false}
use Rattle.sql_procedures.specs.Arguments.{add_of, branch_of, checkout_of, commit_of, merge_of, request_of, reset_of, resolve_of, verify_of}
use Rattle.sql_procedures.specs.declared.procedures.Procedure.TheVariants as procedure
use Rattle.sql_procedures.specs.declared.requests.BranchRequest.TheVariants as branch
use Rattle.sql_procedures.specs.declared.requests.CheckoutRequest.TheVariants as checkout
use Rattle.sql_procedures.specs.declared.requests.MergeRequest.TheVariants as merging
use Rattle.sql_procedures.specs.declared.requests.Request.TheVariants as request
use Rattle.sql_procedures.specs.declared.requests.Reset.TheVariants as reset
use Rattle.sql_procedures.specs.declared.requests.Side.TheVariants as side
use Rattle.sql_procedures.specs.declared.requests.Staging.TheVariants as staging
use Rattle.sql_procedures.specs.declared.requests.Tables.TheVariants as tables
use Rattle.sql_procedures.specs.declared.requests.Verification.TheVariants as verification

-- the message is the next argument, whatever it is
dashed_message : commit_of (codes "-am" ∷ codes "-m" ∷ []) ≡ Some (record { message = codes "-m"; staging = staging.Known; allow_empty = false })
dashed_message = refl

all_over_known : commit_of (codes "-m" ∷ codes "x" ∷ codes "-A" ∷ codes "--allow-empty" ∷ codes "-a" ∷ []) ≡ Some (record { message = codes "x"; staging = staging.All; allow_empty = true })
all_over_known = refl

no_commits : (commit_of (codes "-m" ∷ []) ≡ None) × (commit_of (codes "-a" ∷ []) ≡ None) × (commit_of (codes "-a" ∷ codes "-am" ∷ codes "x" ∷ []) ≡ None)
    × (commit_of (codes "-m" ∷ codes "" ∷ []) ≡ None) × (commit_of (codes "-m" ∷ codes "x" ∷ codes "-m" ∷ codes "y" ∷ []) ≡ None)
no_commits = (refl, refl, refl, refl, refl)

merges : (merge_of (codes "--abort" ∷ []) ≡ Some merging.Abort)
    × (merge_of (codes "b" ∷ codes "-m" ∷ codes "x" ∷ codes "--no-ff" ∷ []) ≡ Some (merging.Merge (record { name = codes "b"; no_ff = true; message = Some (codes "x") })))
merges = (refl, refl)

no_merges : (merge_of (codes "--abort" ∷ codes "b" ∷ []) ≡ None) × (merge_of (codes "b" ∷ codes "c" ∷ []) ≡ None) × (merge_of (codes "-m" ∷ codes "x" ∷ []) ≡ None)
no_merges = (refl, refl, refl)

-- tables without regard to case
adds : (add_of (codes "." ∷ []) ≡ Some tables.All) × (add_of (codes "T" ∷ codes "u_1" ∷ []) ≡ Some (tables.Named (codes "t" ∷ codes "u_1" ∷ [])))
    × (add_of (codes "" ∷ []) ≡ Some (tables.Named (codes "" ∷ [])))
adds = (refl, refl, refl)

no_adds : (add_of [] ≡ None) × (add_of (codes "." ∷ codes "t" ∷ []) ≡ None) × (add_of (codes "t" ∷ codes "T" ∷ []) ≡ None) × (add_of (codes "-a" ∷ []) ≡ None)
no_adds = (refl, refl, refl, refl)

resets : (reset_of [] ≡ Some (reset.Tables tables.All)) × (reset_of (codes "--hard" ∷ []) ≡ Some reset.Hard) × (reset_of (codes "--hard" ∷ codes "t" ∷ []) ≡ None)
resets = (refl, refl, refl)

branches : (branch_of (codes "a/b" ∷ []) ≡ Some (branch.Create (record { name = codes "a/b"; point = None })))
    × (branch_of (codes "a" ∷ codes "b" ∷ []) ≡ Some (branch.Create (record { name = codes "a"; point = Some (codes "b") })))
    × (branch_of (codes "-D" ∷ codes "b" ∷ []) ≡ Some (branch.Delete (codes "b"))) × (branch_of (codes "-d" ∷ []) ≡ None) × (branch_of (codes "a b" ∷ []) ≡ None) × (branch_of [] ≡ None)
branches = (refl, refl, refl, refl, refl, refl)

checkouts : (checkout_of (codes "x" ∷ []) ≡ Some (checkout.Existing (codes "x")))
    × (checkout_of (codes "-b" ∷ codes "x" ∷ codes "y" ∷ []) ≡ Some (checkout.New (record { name = codes "x"; point = Some (codes "y") }))) × (checkout_of (codes "x" ∷ codes "y" ∷ []) ≡ None)
checkouts = (refl, refl, refl)

resolutions : (resolve_of (codes "--theirs" ∷ codes "." ∷ []) ≡ Some (record { side = side.Theirs; tables = tables.All })) × (resolve_of (codes "--ours" ∷ []) ≡ None)
resolutions = (refl, refl)

verifications : (verify_of (codes "--output-only" ∷ codes "--all" ∷ []) ≡ Some verification.OutputOnly) × (verify_of (codes "--all" ∷ codes "--all" ∷ []) ≡ None)
verifications = (refl, refl)

requests : request_of procedure.VerifyConstraints [] ≡ Some (request.VerifyConstraints verification.Recorded)
requests = refl
