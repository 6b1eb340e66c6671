-- What a statement comes to, by what was found and put.
use Rattle.std.proofs.Common.{◌≡◌, ℕ, List, [], Ok, Err, Result, refl, sym, ap, ◌∙◌, subst, arith}
use Rattle.std.specs.Result.{IsErr, IsErrAnd}
use Rattle.tuple_codec.specs.declared.addresses.Address.{Address}
use Rattle.schema_model.specs.declared.schemas.Schema.{Schema}
use Rattle.schema_model.specs.PlainTables as plain
use Rattle.schema_model.specs.PlainTables.{PlainDatabase}
use Rattle.schema_model.specs.WrittenForms.{table_address}
use Rattle.chunk_store.specs.Chunks.{Chunks, Extends}
use Rattle.expr_eval.specs.Binding.{Outcome}
use Rattle.plain_sql.specs.Gives.{Gives}
use Rattle.plain_sql.specs.declared.faults.Refused.{Refused}
use Rattle.plain_sql.specs.declared.faults.Refused.TheVariants as refused
use Rattle.table_root.specs.Standing.{IsTableAt, TablesStand}
use Rattle.table_root.specs.declared.records.TableEntry.{TableEntry}
use Rattle.plain_writes.specs.Writes.{Effect}
use Rattle.plain_schemas.specs.Effects.{changed_to, empty_table, with_table}
use Rattle.table_root.specs.Kept.{IsKeptAt}
use Rattle.plain_writes.proofs.DatabaseLemmas.{IsKeptTable}
use Rattle.sql_write.specs.Adding.{CanAdd}
use Rattle.sql_write.specs.Building.{CanBuild}
use Rattle.sql_write.specs.Listing.{placed}
use Rattle.sql_write.specs.Making.{IsMade, Makes, of_refused}
use Rattle.sql_write.specs.Putting.{AreListed}
use Rattle.sql_write.specs.declared.faults.SqlFault.{SqlFault}
use Rattle.sql_write.specs.declared.faults.SqlFault.TheVariants as fault
use Rattle.sql_write.specs.declared.writing.Written.{Written}
use Rattle.sql_write.proofs.ListingLemmas.{all_placed, named_placed}
use Rattle.sql_write.proofs.SchemaLemmas.{listed_kept}
use Rattle.sql_write.proofs.TableLemmas.{stand_later}

-- ---- refusals

refused_by : {A : Type 0} (address : List ℕ → List ℕ) (chunks : Chunks) (why : Refused) (found : Outcome A) (outcome : Outcome Effect) → Gives (Err why) found
    → ((number : ℕ) → found ≡ Err number → outcome ≡ Err number) → Makes address chunks (Err (of_refused why)) outcome
refused_by address chunks refused.Memory found (Ok effect) gives next = tt
refused_by address chunks refused.Memory found (Err number) gives next = tt
refused_by address chunks (refused.By number) found (Ok effect) gives next = next number gives
refused_by address chunks (refused.By number) found (Err other) gives next = next number gives

pub refused_makes : {A : Type 0} (address : List ℕ → List ℕ) (chunks : Chunks) (result : Result Written SqlFault) (why : Refused) (found : Outcome A) (outcome : Outcome Effect) → Gives (Err why) found
    → ((number : ℕ) → found ≡ Err number → outcome ≡ Err number) → IsErr result × IsErrAnd result (λ fault. fault ≡ of_refused why) → Makes address chunks result outcome
refused_makes address chunks (Ok written) why found outcome gives next h = absurd h.1
refused_makes address chunks (Err fault) why found outcome gives next h = subst (λ (f : SqlFault). Makes address chunks (Err f) outcome) (sym h.1) (refused_by address chunks why found outcome gives next)

-- ---- what is made

pub made_of : (address : List ℕ → List ℕ) (chunks : Chunks) (written : Written) (outcome : Outcome Effect) (effect : Effect) → outcome ≡ Ok effect → IsMade address chunks effect written
    → Makes address chunks (Ok written) outcome
made_of address chunks written outcome effect e made = subst (λ (o : Outcome Effect). Makes address chunks (Ok written) o) (sym e) made

pub made_same : (address : List ℕ → List ℕ) (chunks : Chunks) (root : Address) (database : PlainDatabase) (outcome : Outcome Effect) → outcome ≡ Ok (changed_to database)
    → IsKeptAt address chunks root.0 database → Makes address chunks (Ok (record { root = root; rows = 0 })) outcome
made_same address chunks root database outcome e kept = made_of address chunks (record { root = root; rows = 0 }) outcome (changed_to database) e (record { root = kept.stands; rows = refl })

-- ---- a table more

pub can_build_empty : (schema : Schema) → IsKeptTable (empty_table schema) → CanBuild schema []
can_build_empty schema kept = record { is_table = kept.is_table; limits = refl; few = omega arith }

pub added_listed : (address : List ℕ → List ℕ) (old new : Chunks) → Extends old new → TablesStand → (tables made : List TableEntry) (name text : List ℕ) (schema : Schema) (k : Address) (database : PlainDatabase)
    → CanAdd address old tables name schema database → IsTableAt address new k.0 (empty_table schema) → text ≡ name → made ≡ placed (record { name = text; table = k }) tables
    → AreListed address new made (with_table database name schema)
added_listed address old new more laws tables made name text schema k database can at same is =
    let one : plain.NamedTable = record { name = name; table = empty_table schema } in
    let own : IsTableAt address new (table_address address (empty_table schema)) (empty_table schema) = subst (λ (a : List ℕ). IsTableAt address new a (empty_table schema)) (sym at.named) at in
    let first : TableEntry = record { name = text; table = k } in
    let second : TableEntry = record { name = name; table = record { 0 = table_address address (empty_table schema) } } in
    let entry : first ≡ second = λ i. record { name = same i; table = record { 0 = sym at.named i } } in
    listed_kept address new made (with_table database name schema) can.kept
    (all_placed (λ named. IsTableAt address new (table_address address named.table) named.table) one database own (stand_later address old new more laws database can.listed.stand))
    (is ∙ ap (λ (e : TableEntry). placed e tables) entry ∙ ap (placed (record { name = name; table = record { 0 = table_address address (empty_table schema) } })) can.listed.listed ∙ named_placed address one database)
