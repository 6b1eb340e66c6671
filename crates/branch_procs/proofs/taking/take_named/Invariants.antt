use Rattle.std.proofs.Common.{◌≡◌, drop, map}
use Rattle.table_root.specs.declared.records.TableEntry.{TableEntry}
use Rattle.branch_procs.specs.Taking.{taking_all}
use Rattle.branch_procs.proofs.taking.take_named.Given as goal

abbrev pub invariant-loop-named : goal.invariant-loop-named
invariant-loop-named l =
    taking_all l.from l.made.items (map (λ (named : TableEntry). named.name) (drop l.named-index l.tables))
    ≡ taking_all l.from l.fn.into.items (map (λ (named : TableEntry). named.name) l.tables)
