use Rattle.std.proofs.Common.{◌≡◌, ℤ, IfOk, subst, w64}
use Rattle.std.proofs.lemmas.Int.{to_z-of_z}
use Rattle.commit_graph.specs.Commits.{parts_of}
use Rattle.plain_sessions.specs.Records.{first_commit}
use Rattle.schema_model.specs.PlainCommits.{commit_parts}
use Rattle.schema_model.specs.WrittenForms.{CommitParts, commit_bytes}
use Rattle.shared_db.proofs.OpeningLemmas.{both_there, cause_of_put, first_faults}
use Rattle.shared_db.proofs.opening.put_commit.Goals as goal

pub returns-clause-both : goal.returns-clause-both
returns-clause-both g c =
    let address = g.D.Digester.address in
    let parts = subst (λ (e : ℤ). parts_of c.in_ok-first.first ≡ commit_parts address (first_commit e)) (to_z-of_z w64 c.args.epoch c.ranges.epoch) (c.in_ok-first.ensures.parts address c.requires.address) in
    both_there address c.args.epoch c.args.draft.now.chunks c.write_commit.new.draft.chunks (parts_of c.in_ok-first.first) c.write_commit.result c.requires.alone parts
    c.write_commit.ensures.puts.exact c.write_commit.ensures.puts.held

pub returns-clause-address : goal.returns-clause-address
returns-clause-address g c =
    let address = g.D.Digester.address in
    let parts = subst (λ (e : ℤ). parts_of c.in_ok-first.first ≡ commit_parts address (first_commit e)) (to_z-of_z w64 c.args.epoch c.ranges.epoch) (c.in_ok-first.ensures.parts address c.requires.address) in
    subst (λ (p : CommitParts). IfOk c.write_commit.result (λ commit. commit.0 ≡ address (commit_bytes p))) parts c.write_commit.ensures.puts.address

pub returns-clause-fault : goal.returns-clause-fault
returns-clause-fault g c =
    let address = g.D.Digester.address in
    let parts = subst (λ (e : ℤ). parts_of c.in_ok-first.first ≡ commit_parts address (first_commit e)) (to_z-of_z w64 c.args.epoch c.ranges.epoch) (c.in_ok-first.ensures.parts address c.requires.address) in
    first_faults address c.args.epoch c.args.draft.now.chunks (parts_of c.in_ok-first.first) c.write_commit.result c.requires.alone parts
    (cause_of_put address (commit_bytes (parts_of c.in_ok-first.first)) c.args.draft.now c.write_commit.new.draft c.write_commit.result c.write_commit.ensures.puts)
