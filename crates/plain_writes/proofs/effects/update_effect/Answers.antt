use Rattle.std.proofs.Common.{map, subst, sym, Bor}
use Rattle.expr_eval.specs.Binding.{Outcome}
use Rattle.plain_sql.specs.Gives.{GivesBy}
use Rattle.plain_writes.specs.declared.tables.Table.{Table}
use Rattle.plain_writes.specs.Seen.{effect_seen, named_seen, table_seen}
use Rattle.plain_writes.specs.Violations.{checks_by}
use Rattle.plain_writes.specs.Writes.{Effect, updated}
use Rattle.plain_writes.proofs.EffectLemmas.{found_at, on_found, on_missing, typed_in}
use Rattle.plain_writes.proofs.effects.update_effect.Goals as goal

pub updated-requires : goal.updated-requires
updated-requires g c =
    typed_in c.args.database.now c.args.update.now.table (table_seen c.in-Some.table.now) c.requires
    (found_at (λ (table : Bor Table). table_seen table.now) (map named_seen c.args.database.now) c.args.update.now.table c.as_slice.result.now
    (updated (checks_by g.R.Reads.reading) (map named_seen c.args.database.now) c.args.update.now) c.table_in.result c.table_in.ensures c.as_slice.ensures c.in-Some.table c.in-Some.is)

pub returns-in-Some : goal.returns-in-Some
returns-in-Some g c =
    let same = on_found (λ (table : Bor Table). table_seen table.now) (map named_seen c.args.database.now) c.args.update.now.table c.as_slice.result.now
    (updated (checks_by g.R.Reads.reading) (map named_seen c.args.database.now) c.args.update.now) c.table_in.result c.table_in.ensures c.as_slice.ensures c.in-Some.table c.in-Some.is in
    subst (λ (outcome : Outcome Effect). GivesBy effect_seen c.updated.result outcome) (sym same) c.updated.ensures

pub returns-in-None : goal.returns-in-None
returns-in-None g c =
    on_missing (λ (table : Bor Table). table_seen table.now) (map named_seen c.args.database.now) c.args.update.now.table c.as_slice.result.now
    (updated (checks_by g.R.Reads.reading) (map named_seen c.args.database.now) c.args.update.now) c.table_in.result c.table_in.ensures c.as_slice.ensures c.in-None.is
