use Rattle.std.proofs.Common.{◌≤◌, List, ℕ, arith, length, refl, subst, sym}
use Rattle.schema_model.specs.SchemaBytes.{schema_bytes}
use Rattle.table_root.proofs.WriteLemmas.{limits_fit, limits_size, table_join, table_size}
use Rattle.table_root.proofs.tables.table_bytes.Goals as goal

pub schema_size-size-requires : goal.schema_size-size-requires
schema_size-size-requires c = omega (arith, limits_size c.args.table.now.schema c.requires.limits)

pub overflow_cast-size : goal.overflow_cast-size
overflow_cast-size c = omega (arith, limits_size c.args.table.now.schema c.requires.limits, c.schema_size-size.ensures)

pub returns-clause-bytes : goal.returns-clause-bytes
returns-clause-bytes c =
    table_join c.args.table.now c.schema_size-size.result c.in_ok-out.out.items c.push_size.new.out.items c.push_schema.new.out.items c.push_roots.new.out.items c.push_roots.new.out.items
    c.schema_size-size.ensures c.in_ok-out.ensures.items c.in_ok-push_size.ensures c.in_ok-push_schema.ensures c.in_ok-push_roots.ensures.bytes refl

pub returns-clause-table : goal.returns-clause-table
returns-clause-table c = record {
  schema = c.requires.schema;
  size = limits_fit c.args.table.now.schema (schema_bytes c.args.table.now.schema) c.requires.limits refl;
  count = c.requires.count;
  roots = c.in_ok-push_roots.ensures.roots;
}

pub returns-clause-size : goal.returns-clause-size
returns-clause-size c =
    subst (λ (l : List ℕ). length l ≤ 65536) (sym (returns-clause-bytes c))
    (table_size c.args.table.now (returns-clause-table c) c.requires.limits)
