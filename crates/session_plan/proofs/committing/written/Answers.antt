use Rattle.std.proofs.Common.{◌≡◌, ℤ, subst, w64, rules}
use Rattle.std.proofs.lemmas.Int.{to_z-of_z}
use Rattle.commit_graph.specs.Commits.{parts_of}
use Rattle.plain_sessions.specs.Records.{commit_on}
use Rattle.schema_model.specs.PlainCommits.{commit_parts}
use Rattle.session_plan.specs.Committing.{parents_on}
use Rattle.session_plan.proofs.CommittingLemmas.{write_made}
use Rattle.session_plan.proofs.committing.written.Goals as goal

pub returns-clause-written : goal.returns-clause-written
returns-clause-written g c = λ commits state can.
    let address = g.D.Digester.address in
    let parts = subst (λ (e : ℤ). parts_of c.in_ok-commit.commit ≡ commit_parts address (commit_on commits e c.args.committer.now state.staged (parents_on c.args.present.now state) c.args.message.now))
    (to_z-of_z w64 c.args.epoch c.ranges.epoch) (c.in_ok-commit.ensures.made commits state can) in
    write_made address c.args.work.now.chunks c.write_commit.new.draft.chunks c.in_ok-commit.commit
    (commit_on commits c.args.epoch c.args.committer.now state.staged (parents_on c.args.present.now state) c.args.message.now) c.in_ok-k.k parts
    (search rules) c.in_ok-k.ensures.puts.address c.in_ok-k.ensures.puts.exact c.in_ok-k.ensures.found
