-- Common ancestors.
use Rattle.std.specs.Prelude.{ℕ, List}
use Rattle.schema_model.specs.PlainCommits.{Commits, IsAncestor}

-- some commit is an ancestor of both, each commit being an ancestor of itself
abbrev pub HasCommon : Commits → List ℕ → List ℕ → Type 0
HasCommon commits a b = (k : List ℕ) × IsAncestor commits a k × IsAncestor commits b k
