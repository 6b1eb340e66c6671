use Rattle.std.proofs.Common.{◌++◌, List, ℕ, append_assoc, ap, ◌∙◌}
use Rattle.std.proofs.lemmas.Result.{on_ok_weaker}
use Rattle.script_text.specs.Output.{clash_text}
use Rattle.script_text.proofs.printing.push_reply.Goals as goal

pub returns-in_ok-extend_from_slice-in-Collided : goal.returns-in_ok-extend_from_slice-in-Collided
returns-in_ok-extend_from_slice-in-Collided c =
    let front = ap (λ (written : List ℕ). written ++ clash_text c.in-Collided.clash) c.in_ok-extend_from_slice-in-Collided.ensures.items in
    on_ok_weaker c.push_clash.result (λ all. rw c.in-Collided.is (all ∙ front ∙ append_assoc c.args.out.now.items _ _)) c.push_clash.ensures
