use Rattle.std.proofs.Common.{◌≡◌, ◌++◌, true, take}
use Rattle.std.specs.List.{flat_map, list_all}
use Rattle.table_root.specs.Tables.{is_address}
use Rattle.table_root.proofs.parts.push_addresses.Given as goal

abbrev pub invariant-loop-address : goal.invariant-loop-address
invariant-loop-address l =
    (l.out.items ≡ l.fn.out.items ++ flat_map (λ address. address.0) (take l.address-index l.addresses))
    × (list_all is_address (take l.address-index l.addresses) ≡ true)
