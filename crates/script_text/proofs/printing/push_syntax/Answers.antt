use Rattle.std.proofs.Common.{◌++◌, List, ℕ, append_assoc, ap, codes, ◌∙◌}
use Rattle.std.proofs.lemmas.Result.{on_ok_weaker}
use Rattle.std.specs.Fmt.{decimal}
use Rattle.script_text.proofs.printing.push_syntax.Goals as goal

pub returns : goal.returns
returns c =
    let front = ap (λ (written : List ℕ). written ++ decimal c.from.result) c.in_ok-extend_from_slice.ensures.items in
    let number = ap (λ n. c.args.out.now.items ++ (codes "refused 1064 syntax at byte " ++ decimal n)) c.from.ensures in
    on_ok_weaker c.push_number.result (λ all. all ∙ front ∙ append_assoc c.args.out.now.items _ _ ∙ number) c.push_number.ensures
