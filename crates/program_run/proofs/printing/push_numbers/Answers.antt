use Rattle.std.proofs.Common.{◌++◌, List, ℕ, codes, decimal}
use Rattle.program_run.proofs.TextLemmas.{behind, both_behind}
use Rattle.program_run.proofs.printing.push_numbers.Goals as goal

pub returns : goal.returns
returns c =
    let seed : List ℕ = codes "load " ++ decimal c.args.seed in
    let refused : List ℕ = (seed ++ codes "\nsessions 8\nstatements 4968\nrefused ") ++ decimal c.args.refusals in
    let rows : List ℕ = (refused ++ codes "\nrows ") ++ decimal c.args.rows in
    behind _ _ rows (codes "\nworking ") _
    (both_behind _ _ refused (codes "\nrows ") (decimal c.args.rows) _
    (both_behind _ _ seed (codes "\nsessions 8\nstatements 4968\nrefused ") (decimal c.args.refusals) _ c.in_ok-push_named.ensures c.in_ok-push_named-2.ensures) c.in_ok-push_named-3.ensures)
    c.in_ok-extend_from_slice.ensures.items
