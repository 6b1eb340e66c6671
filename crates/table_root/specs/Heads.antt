-- The heads of branches.
use Rattle.std.specs.Prelude.{Bool, List}
use Rattle.std.specs.Ordering.{nat_cmp}
use Rattle.std.specs.Cmp.Lexicographic.{slice_cmp}
use Rattle.schema_model.specs.PlainTables.{rises}
use Rattle.table_root.specs.declared.heads.BranchHead.{BranchHead}

-- each branch's name comes strictly before the next one's
abbrev pub heads_rise : List BranchHead → Bool
heads_rise heads = rises (λ a b. slice_cmp nat_cmp a.branch b.branch) heads
