-- The laws of CREATE, DROP and ALTER, and of every statement that writes.
use Rattle.std.proofs.Common.{◌≡◌, refl, sym, ap, ◌∙◌, subst, cond, Ok, Err}
use Rattle.std.specs.List.{list_any}
use Rattle.std.specs.Prelude.{IfOk}
use Rattle.schema_model.specs.PlainTables.{PlainDatabase}
use Rattle.sql_ast.specs.declared.statements.Write.TheVariants as write
use Rattle.sql_ast.specs.declared.tables.DropTable.{DropTable}
use Rattle.expr_eval.specs.Binding.{Outcome}
use Rattle.plain_sql.specs.Lists.{unless}
use Rattle.plain_writes.specs.Writes.{Effect}
use Rattle.plain_schemas.specs.Altered.{alter_effect}
use Rattle.plain_schemas.specs.Effects.{changed_to, create_effect, drop_effect, is_child, is_there, without_table}
use Rattle.plain_writes.specs.CheckTexts as texts
use Rattle.plain_schemas.specs.Statements.{write_effect}
use Rattle.sql_laws.proofs.Kept.{alters_kept}
use Rattle.plain_writes.specs.WriteLaws.{IsKept}
use Rattle.plain_writes.proofs.KeptEffects.{writes_keep}
use Rattle.plain_writes.proofs.RowOrderLemmas.{two}
use Rattle.plain_writes.proofs.OutcomeLemmas.{ok_same, unless_so}
use Rattle.keep_laws.specs.SchemaLaws.{AllKeep, SchemasKeep}
use Rattle.keep_laws.proofs.Altering.{alters_keep}
use Rattle.keep_laws.proofs.CreatedSchemas.{creates_keep}
use Rattle.keep_laws.proofs.DatabaseParts.{left_if, left_kept, without_kept}

-- ---- DROP

drops_keep : (database : PlainDatabase) (statement : DropTable) (effect : Effect) → IsKept database → drop_effect database statement ≡ Ok effect → IsKept effect.database
drops_keep database statement effect kept e =
    let whole : Outcome Effect = Ok (changed_to (without_table statement.table database)) in
    let there = unless (list_any (is_child statement.table) database) 1451 whole in
    let absent = left_if 1146 database statement.if_exists in
    two (is_there database statement.table)
    (λ t. let parts = unless_so (list_any (is_child statement.table) database) 1451 whole effect (sym (ap (λ b. cond b there absent) t) ∙ e) in
    subst (λ (made : Effect). IsKept made.database) (ok_same whole (changed_to (without_table statement.table database)) effect refl parts.1) (without_kept statement.table database kept))
    (λ t. left_kept 1146 database statement.if_exists effect kept (sym (ap (λ b. cond b there absent) t) ∙ e))

-- ---- all

if_ok : (o : Outcome Effect) → ((effect : Effect) → o ≡ Ok effect → IsKept effect.database) → IfOk o (λ (effect : Effect). IsKept effect.database)
if_ok (Ok effect) f = f effect refl
if_ok (Err number) f = tt

pub schemas_keep : SchemasKeep
schemas_keep = record {
  creates = λ database create kept fit. if_ok (create_effect database create) (λ effect e. creates_keep database create effect kept fit e);
  drops = λ database drop kept. if_ok (drop_effect database drop) (λ effect e. drops_keep database drop effect kept e);
  alters = λ checks database alter kept fit. if_ok (alter_effect checks database alter) (λ effect e. alters_keep checks database alter effect (alters_kept alter fit.inside fit.sound).1 kept e);
}

pub all_keep : AllKeep
unfolding write_effect
all_keep database (write.Create create) kept fit = schemas_keep.creates database create kept fit
all_keep database (write.Drop drop) kept fit = schemas_keep.drops database drop kept
all_keep database (write.Insert insert) kept fit = writes_keep.inserts texts.checks database insert kept
all_keep database (write.Update update) kept fit = writes_keep.updates texts.checks database update kept
all_keep database (write.Delete delete) kept fit = writes_keep.deletes texts.checks database delete kept
all_keep database (write.Alter alter) kept fit = schemas_keep.alters texts.checks database alter kept fit
