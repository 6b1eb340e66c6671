use Rattle.commit_graph.proofs.CommitLemmas.{numbers_join}
use Rattle.commit_graph.proofs.writing.push_numbers.Goals as goal

pub returns : goal.returns
returns c =
    numbers_join c.args.out.now.items c.push_number.new.out.items c.push_number-2.new.out.items c.args.height c.args.date c.in_ok-push_number.ensures c.in_ok-push_number-2.ensures
