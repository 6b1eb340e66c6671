use Rattle.std.proofs.Common.{◌≤◌, List, ℕ, length, refl, subst, sym, arith}
use Rattle.table_root.proofs.WriteLemmas.{database_join, database_size, short_fits}
use Rattle.table_root.proofs.databases.database_bytes.Goals as goal

pub push_tables-requires : goal.push_tables-requires
push_tables-requires c = short_fits c.args.tables.now c.requires.names

pub returns-clause-bytes : goal.returns-clause-bytes
returns-clause-bytes c =
    database_join c.args.tables.now c.in_ok-out.out.items c.push_count.new.out.items c.push_tables.new.out.items c.push_tables.new.out.items
    c.in_ok-out.ensures.items c.in_ok-push_count.ensures c.in_ok-push_tables.ensures.bytes refl

pub returns-clause-database : goal.returns-clause-database
returns-clause-database c = record {
  few = let few = c.requires.few in omega (arith, few);
  names = short_fits c.args.tables.now c.requires.names;
  addresses = c.in_ok-push_tables.ensures.whole;
  rise = c.requires.rise;
}

pub returns-clause-size : goal.returns-clause-size
returns-clause-size c =
    subst (λ (l : List ℕ). length l ≤ 65536) (sym (returns-clause-bytes c))
    (database_size c.args.tables.now c.requires.few c.requires.names c.in_ok-push_tables.ensures.whole)
