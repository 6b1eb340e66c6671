use Rattle.std.proofs.Common.{arith, ◌∙◌, ap}
use Rattle.tuple_codec.proofs.Lists.{all_mapped as all_done}
use Rattle.shared_db.specs.Members.{numbers_of, on_main, places_of}
use Rattle.shared_db.proofs.LineLemmas.{numbers_are, places_are}
use Rattle.shared_db.proofs.branches.all_on_main.Goals as goal

pub returns-clause-places : goal.returns-clause-places
returns-clause-places c =
    let all = all_done on_main c.loop-number.members.items c.args.statements.now c.loop-number.number-index (omega arith) c.loop-number.invariant in
    ap places_of all ∙ places_are c.args.statements.now

pub returns-clause-numbers : goal.returns-clause-numbers
returns-clause-numbers c =
    let all = all_done on_main c.loop-number.members.items c.args.statements.now c.loop-number.number-index (omega arith) c.loop-number.invariant in
    ap numbers_of all ∙ numbers_are c.args.statements.now
