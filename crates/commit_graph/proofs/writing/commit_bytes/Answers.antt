use Rattle.std.proofs.Common.{◌≤◌, List, ℕ, length, subst, sym}
use Rattle.commit_graph.specs.Commits.{parts_of}
use Rattle.commit_graph.proofs.CommitLemmas.{commit_join, commit_size}
use Rattle.commit_graph.proofs.writing.commit_bytes.Goals as goal

pub returns-clause-bytes : goal.returns-clause-bytes
returns-clause-bytes c =
    commit_join c.args.commit.now c.new-out.result.items c.push.new.self.items c.push_links.new.out.items c.push_numbers.new.out.items c.push_texts.new.out.items c.from_vec.result
    c.date_bits-date.result c.date_bits-date.ensures c.new-out.ensures.items c.in_ok-push.ensures.items c.in_ok-push_links.ensures.bytes c.in_ok-push_numbers.ensures c.in_ok-push_texts.ensures c.from_vec.ensures

pub returns-clause-commit : goal.returns-clause-commit
returns-clause-commit c = record {
  addresses = record { root = c.in_ok-push_links.ensures.root; parents = c.in_ok-push_links.ensures.parents };
  limits = c.requires;
}

pub returns-clause-size : goal.returns-clause-size
returns-clause-size c =
    let bytes = returns-clause-bytes c in
    subst (λ (l : List ℕ). length l ≤ 65536) (sym bytes)
    (commit_size (parts_of c.args.commit.now) c.in_ok-push_links.ensures.root c.in_ok-push_links.ensures.parents c.requires.few c.requires.committer c.requires.message)
