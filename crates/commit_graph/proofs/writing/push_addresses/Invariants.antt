use Rattle.std.proofs.Common.{◌≡◌, ◌++◌, true, map, take}
use Rattle.std.specs.List.{flat_map, list_all}
use Rattle.commit_graph.specs.Commits.{is_address}
use Rattle.commit_graph.proofs.writing.push_addresses.Given as goal

abbrev pub invariant-loop-address : goal.invariant-loop-address
invariant-loop-address l =
    (l.out.items ≡ l.fn.out.items ++ flat_map (λ address. address) (map (λ address. address.0) (take l.address-index l.addresses)))
    × (list_all is_address (map (λ address. address.0) (take l.address-index l.addresses)) ≡ true)
