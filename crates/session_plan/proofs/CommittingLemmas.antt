-- The commit that is put into the work, and faults that are told.
use Rattle.std.proofs.Common.{◌≡◌, refl, ◌∙◌, sym, subst, inl, inr, ℕ, Bool, true, false, ◌||◌, List, [], ◌∷◌, ◌++◌, length, Some, Result, Ok, Err}
use Rattle.std.specs.Prelude.{IfErr, IsErr, IsErrAnd, is_some, if◌then◌else◌}
use Rattle.tuple_codec.specs.declared.addresses.Address.{Address}
use Rattle.chunk_store.specs.Chunks.{AreNamed, chunk_bytes}
use Rattle.chunk_store.specs.Clashes.{IsReason}
use Rattle.chunk_store.specs.Drafts.{DraftParts, IsNamed, IsSound, Longer, chunks_of, put_in}
use Rattle.chunk_store.specs.Kinds.{is_commit, is_data, is_database, is_node, is_table}
use Rattle.chunk_store.specs.Laws.{ChunksFollow, DraftsFollow}
use Rattle.chunk_store.specs.declared.faults.PutFault.{PutFault}
use Rattle.chunk_store.specs.declared.faults.PutFault.TheVariants.{Memory, Collision}
use Rattle.chunk_store.proofs.ChunkLemmas.{at_join, either_some, one_at}
use Rattle.commit_graph.specs.Commits.{IsCommitFound, parts_of}
use Rattle.commit_graph.specs.declared.commits.CommitRecord.{CommitRecord}
use Rattle.schema_model.specs.PlainCommits.{PlainCommit, commit_address, commit_parts, plain_commit_bytes}
use Rattle.schema_model.specs.WrittenForms.{CommitParts, commit_bytes}
use Rattle.script_text.specs.Collisions.{IsFault}
use Rattle.session_state.specs.Commits.{HasNoCommit}
use Rattle.session_plan.specs.Committing.{IsCommitWritten}

or_third : (a b c : Bool) → c ≡ true → (a || (b || c)) ≡ true
or_third true b c h = refl
or_third false true c h = refl
or_third false false c h = h

pub database_is_data : (bytes : List ℕ) → is_database bytes ≡ true → is_data bytes ≡ true
database_is_data bytes is = or_third (is_node bytes) (is_table bytes) (is_database bytes) is

-- ---- faults

module _ (address : List ℕ → List ℕ) (chunks : ChunksFollow) (drafts : DraftsFollow) (old after : DraftParts) (named : IsNamed address old) (longer : Longer old after)
    (sound : IsSound address after) where
  all_named : AreNamed address (after.base ++ after.own)
  all_named = drafts.all_named address after (drafts.still_named address old after longer named) sound

  pub fault_is : (fault : PutFault) → IsReason address (chunks_of after) fault → IsFault address fault
  fault_is Memory reason = tt
  fault_is (Collision clash) reason = record {
    first = chunks.is_named address (after.base ++ after.own) clash.address.0 clash.first all_named reason.is_held;
    second = reason.is_brought;
    differ = reason.differ;
  }

  pub fault_told : {A : Type 0} (result : Result A PutFault) (fault : PutFault) → IsReason address (chunks_of after) fault
      → IsErr result × IsErrAnd result (λ told. told ≡ fault) → IfErr result (IsFault address)
  fault_told (Ok value) fault reason told = absurd told.1
  fault_told (Err other) fault reason told = subst (IsFault address) (sym told.1) (fault_is fault reason)

-- ---- the commit

-- the commit was put
pub write_made : (address : List ℕ → List ℕ) (old new : DraftParts) (wrote : CommitRecord) (commit : PlainCommit) (k : Address) → parts_of wrote ≡ commit_parts address commit → length k.0 ≡ 20
    → k.0 ≡ address (commit_bytes (parts_of wrote)) → new ≡ put_in address (commit_bytes (parts_of wrote)) old → IsCommitFound (chunks_of new) k.0 (parts_of wrote)
    → IsCommitWritten address old new commit k
write_made address old new wrote commit k is twenty named chunks found = record {
  named = subst (λ (parts : CommitParts). k.0 ≡ address (commit_bytes parts)) is named;
  length_is = twenty;
  found = subst (λ (parts : CommitParts). IsCommitFound (chunks_of new) k.0 parts) is found;
  chunks = subst (λ (parts : CommitParts). new ≡ put_in address (commit_bytes parts) old) is chunks;
}

one_put : (there : Bool) (d : DraftParts) (k bytes j more : List ℕ) → HasNoCommit d.own
    → (let put : DraftParts = if there then d else record { base = d.base; own = d.own ++ (k, bytes) ∷ [] } in chunk_bytes put.own j ≡ Some more) → is_commit more ≡ true → j ≡ k
one_put true d k bytes j more none found is = absurd (none j more found is)
one_put false d k bytes j more none found is =
    elim (either_some (chunk_bytes d.own j) (chunk_bytes ((k, bytes) ∷ []) j) more (sym (at_join d.own ((k, bytes) ∷ []) j) ∙ found)) [
      | inl here ↦ absurd (none j more here is)
      | inr here ↦ sym (one_at k bytes j more here).0
    ]

-- no other commit than the one that was put is among the draft's own chunks
pub only_one : (address : List ℕ → List ℕ) (before now : DraftParts) (commit : PlainCommit) (k : Address) → IsCommitWritten address before now commit k → HasNoCommit before.own
    → (j bytes : List ℕ) → chunk_bytes now.own j ≡ Some bytes → is_commit bytes ≡ true → j ≡ commit_address address commit
only_one address before now commit k written none j bytes found is =
    one_put (is_some (chunks_of before (commit_address address commit))) before (commit_address address commit) (plain_commit_bytes address commit) j bytes none
    (subst (λ (parts : DraftParts). chunk_bytes parts.own j ≡ Some bytes) written.chunks found) is
