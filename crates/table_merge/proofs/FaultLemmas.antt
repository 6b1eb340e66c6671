-- Why tables weren't merged.
use Rattle.std.proofs.Common.{◌≡◌, ℕ, List, Option, Result, Ok, Err, IfErr, sym, subst}
use Rattle.std.specs.Result.{IsErr, IsErrAnd}
use Rattle.chunk_store.specs.Chunks.{Chunks}
use Rattle.chunk_store.specs.Clashes.{IsReason}
use Rattle.chunk_store.specs.declared.faults.PutFault.{PutFault}
use Rattle.chunk_store.specs.declared.faults.PutFault.TheVariants as put
use Rattle.schema_model.specs.PlainTables.{PlainTable}
use Rattle.schema_model.specs.declared.schemas.Schema.{Schema}
use Rattle.schema_merge.specs.TableMerge.{table_of}
use Rattle.table_root.specs.declared.records.StoredTable.{StoredTable}
use Rattle.table_merge.specs.Merging.{AreSides, IsFaultOf, IsMergeReason, PlainSides, fault_of_put, fault_of_stop, merged_contents}
use Rattle.table_merge.specs.Steps.{AnswersSchema, AreListsWithin, wanted_schema}
use Rattle.table_merge.specs.declared.faults.MergeFault.{MergeFault}
use Rattle.table_merge.specs.declared.faults.MergeFault.TheVariants as fault
use Rattle.table_merge.specs.declared.faults.Stop.{Stop}
use Rattle.table_merge.specs.declared.faults.Stop.TheVariants as stop
use Rattle.table_merge.proofs.KeepLemmas.{passes}
use Rattle.table_merge.proofs.SideLemmas.{Known, in_conflict, three_of}

pub err_of : {A F : Type 0} (P : F → Type 0) (result : Result A F) (why : F) → IsErr result × IsErrAnd result (λ found. found ≡ why) → P why → IfErr result P
err_of P (Ok value) why h p = tt
err_of P (Err found) why h p = subst P (sym h.1) p

pub schema_fault : (address : List ℕ → List ℕ) (chunks : Chunks) (base : Option StoredTable) (ours theirs : StoredTable) (contents : PlainSides) → AreSides address chunks base ours theirs contents
    → (why : MergeFault) → AnswersSchema (Err why) (wanted_schema base ours theirs) → IsFaultOf (merged_contents contents) why
schema_fault address chunks base ours theirs contents are fault.Memory h = tt
schema_fault address chunks base ours theirs contents are (fault.Schema table part) h = (h.0, in_conflict address chunks base ours theirs contents are part h.1)
schema_fault address chunks base ours theirs contents are fault.Limit h = absurd h
schema_fault address chunks base ours theirs contents are (fault.Collision clash) h = absurd h

pub schema_reason : (address : List ℕ → List ℕ) (chunks : Chunks) (wanted : Result Schema (List ℕ)) (why : MergeFault) → AnswersSchema (Err why) wanted → IsMergeReason address chunks why
schema_reason address chunks wanted fault.Memory h = tt
schema_reason address chunks wanted (fault.Schema table part) h = tt
schema_reason address chunks wanted fault.Limit h = tt
schema_reason address chunks wanted (fault.Collision clash) h = absurd h

pub stop_fault : (schema : Schema) (contents : PlainSides) → Known schema contents → (cause : Stop) → AreListsWithin (Err cause) (table_of schema (three_of schema contents))
    → IsFaultOf (merged_contents contents) (fault_of_stop cause)
stop_fault schema contents known stop.Memory h = tt
stop_fault schema contents known stop.Limit h = passes schema contents known h

pub stop_reason : (address : List ℕ → List ℕ) (chunks : Chunks) (cause : Stop) → IsMergeReason address chunks (fault_of_stop cause)
stop_reason address chunks stop.Memory = tt
stop_reason address chunks stop.Limit = tt

pub put_fault : (wanted : Result PlainTable (List ℕ)) (cause : PutFault) → IsFaultOf wanted (fault_of_put cause)
put_fault wanted put.Memory = tt
put_fault wanted (put.Collision clash) = tt

pub put_reason : (address : List ℕ → List ℕ) (chunks : Chunks) (cause : PutFault) → IsReason address chunks cause → IsMergeReason address chunks (fault_of_put cause)
put_reason address chunks put.Memory h = tt
put_reason address chunks (put.Collision clash) h = h
