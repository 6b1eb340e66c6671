-- Names of branches are short.
use Rattle.std.proofs.Common.{◌≡◌, ◌≤◌, ℕ, true, leb, List, length}
use Rattle.std.specs.List.{list_all}
use Rattle.std.proofs.lemmas.Bool.{and_parts, leb-true}
use Rattle.table_root.specs.Names.{begins_well, is_branch_name, is_name_byte}

pub few_bytes : (bytes : List ℕ) → is_branch_name bytes ≡ true → length bytes ≤ 64
few_bytes bytes h =
    let rest = and_parts (begins_well bytes) _ h in
    leb-true (length bytes) 64 (and_parts (leb (length bytes) 64) (list_all is_name_byte bytes) rest.1).0
