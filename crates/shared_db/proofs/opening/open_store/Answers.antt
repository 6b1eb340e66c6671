use Rattle.std.proofs.Common.{◌≡◌, ◌∙◌, sym, ap, ℤ, subst, w64, length}
use Rattle.std.proofs.lemmas.Int.{to_z-of_z}
use Rattle.tuple_codec.specs.declared.records.BranchRecord.{BranchRecord}
use Rattle.chunk_store.specs.Drafts.{DraftParts}
use Rattle.chunk_store.specs.Stores.{all_chunks}
use Rattle.plain_sessions.specs.Records.{first_commit}
use Rattle.schema_model.specs.PlainCommits.{commit_address}
use Rattle.shared_db.specs.Opening.{HasJust, both_alone}
use Rattle.shared_db.proofs.OpeningLemmas.{is_opened}
use Rattle.shared_db.proofs.opening.open_store.Goals as goal

pub returns-clause-opened : goal.returns-clause-opened
returns-clause-opened g c =
    let address = g.D.Digester.address in
    let same = to_z-of_z w64 c.args.epoch c.ranges.epoch in
    let both = subst (λ (e : ℤ). c.put_commit.new.draft.chunks ≡ both_alone address e) same c.in_ok-commit.ensures.both in
    let head = subst (λ (e : ℤ). c.in_ok-commit.commit.0 ≡ commit_address address (first_commit e)) same c.in_ok-commit.ensures.address in
    let just = subst (λ (d : DraftParts). HasJust d.own (all_chunks c.in_ok-store.store)) both c.in_ok-store.ensures.chunks in
    let rec = c.record_at_first.ensures in
    is_opened address c.args.epoch c.law_of_chunks.ensures (all_chunks c.in_ok-store.store) c.record_at_first.result just c.tell.ensures.single
    (ap length (sym head) ∙ c.know_length-2.ensures) (ap length (sym c.in_ok-database.ensures.address) ∙ c.know_length.ensures)
    (ap (λ (r : BranchRecord). r.head.0) rec ∙ head) (ap (λ (r : BranchRecord). r.working.0) rec ∙ c.in_ok-database.ensures.address)
    (ap (λ (r : BranchRecord). r.staged.0) rec ∙ c.in_ok-database.ensures.address) (ap (λ (r : BranchRecord). r.merging) rec)
