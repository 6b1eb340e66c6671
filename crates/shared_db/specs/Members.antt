-- The shared database's own structs as the parts that a contract sees.
use Rattle.std.specs.Prelude.{List, ℕ, map, bytes_eq, if◌then◌else◌, codes}
use Rattle.tuple_codec.specs.declared.records.BranchRecord.{BranchRecord}
use Rattle.script_text.specs.declared.outputs.BranchLine.{BranchLine}
use Rattle.table_root.specs.declared.heads.BranchHead.{BranchHead}
use Rattle.shared_db.specs.declared.branches.Member.{Member}
use Rattle.shared_db.specs.declared.branches.NamedBranch.{NamedBranch}

abbrev pub line_of : NamedBranch → BranchLine
line_of branch = record { name = branch.name; rec = branch.rec }

abbrev pub lines_of : List NamedBranch → List BranchLine
lines_of branches = map line_of branches

abbrev pub places_of : List Member → List (List ℕ)
places_of members = map (λ (member : Member). member.branch) members

abbrev pub numbers_of : List Member → List ℕ
numbers_of members = map (λ (member : Member). member.statements) members

abbrev pub with_rec : List ℕ → BranchRecord → NamedBranch → NamedBranch
with_rec name rec branch = if bytes_eq branch.name name then record { name = branch.name; rec = rec } else branch

abbrev pub on_main : ℕ → Member
on_main statements = record { branch = codes "main"; statements = statements }

abbrev pub branch_head : NamedBranch → BranchHead
branch_head branch = record { branch = branch.name; head = branch.rec.head }
