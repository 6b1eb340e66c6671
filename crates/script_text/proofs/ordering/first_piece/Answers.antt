use Rattle.std.proofs.Common.{◌+◌, ◌==◌, sym}
use Rattle.std.proofs.lemmas.List.{take_rest}
use Rattle.script_text.proofs.LineLemmas.{cut_none, cut_some}
use Rattle.script_text.proofs.ordering.first_piece.Goals as goal

pub returns-in-Some-clause-pieces : goal.returns-in-Some-clause-pieces
returns-in-Some-clause-pieces c = rw (take_rest c.args.bytes.now (c.in-Some.end + 1)) (cut_some (λ byte. byte == 32) c.args.bytes.now c.in-Some.end (sym c.in-Some.ensures.space))

pub returns-in-None-clause-pieces : goal.returns-in-None-clause-pieces
returns-in-None-clause-pieces c = cut_none (λ byte. byte == 32) c.args.bytes.now (sym c.in-None.ensures.space)
