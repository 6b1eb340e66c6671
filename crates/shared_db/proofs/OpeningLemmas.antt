-- The chunks that a database is opened with.
use Rattle.std.proofs.Common.{rules, arith, pos, negsuc, ◌≤ℤ◌, ◌<◌, ◌^◌, FitsSigned, w64, map, codes, ◌≡◌, refl, sym, ◌∙◌, ap, subst, ℕ, ℤ, Bool, true, false, cond, List, [], ◌∷◌, ◌++◌, ◌⊎◌, inl, inr, Some, None, Result, Ok, Err, IfErr, OnOk, length}
use Rattle.std.specs.Prelude.{bytes_eq, is_some}
use Rattle.std.specs.Cmp.Lexicographic.{bytes_decides}
use Rattle.std.proofs.lemmas.Int.{ints}
use Rattle.tuple_codec.specs.declared.addresses.Address.{Address}
use Rattle.tuple_codec.specs.declared.records.BranchRecord.{BranchRecord}
use Rattle.chunk_store.specs.Chunks.{AreNamed, Chunk, Chunks, IsHeld, IsSingle, Listed, Lists, chunk_bytes}
use Rattle.chunk_store.specs.Clashes.{IsCause}
use Rattle.chunk_store.specs.Drafts.{Drafting, DraftParts, Puts, chunks_of, put_in}
use Rattle.chunk_store.specs.Kinds.{is_commit}
use Rattle.chunk_store.specs.Laws.{ChunksFollow}
use Rattle.chunk_store.specs.Standing.{IsThere}
use Rattle.chunk_store.specs.Stores.{IsSealed, IsUnion}
use Rattle.chunk_store.specs.declared.faults.PutFault.{PutFault}
use Rattle.chunk_store.specs.declared.faults.PutFault.TheVariants.{Memory, Collision}
use Rattle.chunk_store.proofs.ChunkLemmas.{one_at as one_found}
use Rattle.commit_graph.specs.Commits.{is_commit_found}
use Rattle.plain_sessions.specs.Records.{first_commit, opening}
use Rattle.plain_sessions.specs.StateLimits.{is_date}
use Rattle.schema_model.specs.PlainCommits.{commit_address, commit_parts, plain_commit_bytes}
use Rattle.schema_model.specs.WrittenForms.{CommitParts, commit_bytes, database_address, database_bytes}
use Rattle.session_state.specs.Changes.{Parts, StateStands}
use Rattle.session_state.specs.Laws.{StatesFollow}
use Rattle.shared_db.specs.Opening.{HasJust, IsOpened, IsOpeningFault, both_alone, empty_alone}

-- what a put was refused for is that other bytes are held at the address of those that were brought
pub cause_of_put : (a : List ℕ → List ℕ) (bytes : List ℕ) (old new : Drafting) (result : Result Address PutFault) → Puts a bytes old new result
    → IfErr result (IsCause (chunks_of old.chunks) (chunk_bytes ((a bytes, bytes) ∷ [])))
cause_of_put a bytes old new (Ok k) puts = tt
cause_of_put a bytes old new (Err Memory) puts = tt
cause_of_put a bytes old new (Err (Collision clash)) puts =
    let named : a bytes ≡ clash.address.0 = ap a (sym puts.brought) ∙ puts.cause.is_brought in
    record {
      is_held = ap (λ (d : Drafting). chunks_of d.chunks clash.address.0) (sym puts.same) ∙ puts.cause.is_held;
      is_brought = ap (λ (b : Bool). cond b (Some bytes) None) ((bytes_decides (a bytes) clash.address.0).1 named) ∙ ap Some (sym puts.brought);
      differ = puts.cause.differ;
    }

-- nothing is held by a draft without a chunk, so nothing collides
pub no_collision : (old : DraftParts) (brought : Chunks) (fault : PutFault) → old ≡ record { base = []; own = [] } → IsCause (chunks_of old) brought fault → fault ≡ Memory
no_collision old brought Memory none cause = refl
no_collision old brought (Collision clash) none cause =
    let held : None ≡ Some clash.first = sym (ap (λ (d : DraftParts). chunks_of d clash.address.0) none) ∙ cause.is_held in
    absurd (cc)

module _ (address : List ℕ → List ℕ) (epoch : ℤ) where
  abbrev first : List ℕ
  first = plain_commit_bytes address (first_commit epoch)

  abbrev empty : List ℕ
  empty = database_bytes address []

  -- why the first commit isn't put behind the empty database
  opening_fault : (fault : PutFault) → IsCause (chunks_of (empty_alone address)) (chunk_bytes ((address first, first) ∷ [])) fault → IsOpeningFault address epoch fault
  opening_fault Memory cause = tt
  opening_fault (Collision clash) cause =
      let held = one_found (address empty) empty clash.address.0 clash.first cause.is_held in
      let brought = one_found (address first) first clash.address.0 clash.second cause.is_brought in
      record {
        database = sym held.1;
        commit = sym brought.1;
        collision = record { first = ap address (sym held.1) ∙ held.0; second = ap address (sym brought.1) ∙ brought.0; differ = cause.differ };
      }

  pub first_faults : {X : Type 0} (old : DraftParts) (parts : CommitParts) (result : Result X PutFault) → old ≡ empty_alone address → parts ≡ commit_parts address (first_commit epoch)
      → IfErr result (IsCause (chunks_of old) (chunk_bytes ((address (commit_bytes parts), commit_bytes parts) ∷ []))) → IfErr result (IsOpeningFault address epoch)
  first_faults old parts (Ok x) alone is cause = tt
  first_faults old parts (Err fault) alone is cause =
      opening_fault fault (subst (λ (p : CommitParts). IsCause (chunks_of (empty_alone address)) (chunk_bytes ((address (commit_bytes p), commit_bytes p) ∷ [])) fault) is
      (subst (λ (d : DraftParts). IsCause (chunks_of d) (chunk_bytes ((address (commit_bytes parts), commit_bytes parts) ∷ [])) fault) alone cause))

  both_put : (new : DraftParts) → new ≡ put_in address first (empty_alone address) → chunks_of new (address first) ≡ Some first → new ≡ both_alone address epoch
  both_put new is held = by (bytes_eq (address empty) (address first)) refl is where
    by : (t : Bool) → bytes_eq (address empty) (address first) ≡ t → new ≡ cond (is_some (cond t (Some empty) None)) (empty_alone address) (both_alone address epoch) → new ≡ both_alone address epoch
    by true e is =
        let bad : false ≡ true = ap is_commit_found (sym (ap (λ (t : Bool). cond t (Some empty) None) e) ∙ sym (ap (λ (d : DraftParts). chunks_of d (address first)) is) ∙ held) in
        absurd (cc)
    by false e is = is

  pub both_there : (old new : DraftParts) (parts : CommitParts) (result : Result Address PutFault) → old ≡ empty_alone address → parts ≡ commit_parts address (first_commit epoch)
      → OnOk result (new ≡ put_in address (commit_bytes parts) old) → OnOk result (IsHeld address (chunks_of new) (address (commit_bytes parts)) (commit_bytes parts))
      → OnOk result (new ≡ both_alone address epoch)
  both_there old new parts (Err fault) alone is exact held = tt
  both_there old new parts (Ok k) alone is exact held =
      both_put new (subst (λ (p : CommitParts). new ≡ put_in address (commit_bytes p) (empty_alone address)) is (subst (λ (d : DraftParts). new ≡ put_in address (commit_bytes parts) d) alone exact))
      (subst (λ (p : CommitParts). chunks_of new (address (commit_bytes p)) ≡ Some (commit_bytes p)) is held.held)

  only_first : (k bytes : List ℕ) → Listed (both_alone address epoch).own k bytes → is_commit bytes ≡ true → k ≡ address first
  only_first k bytes (inl at) is = let bad : false ≡ true = ap is_commit at.1 ∙ is in absurd (cc)
  only_first k bytes (inr (inl at)) is = sym at.0
  only_first k bytes (inr (inr none)) is = absurd none

  pub is_opened : (laws : ChunksFollow) (chunks : List Chunk) (rec : BranchRecord) → HasJust (both_alone address epoch).own chunks → IsSingle chunks
      → length (address first) ≡ 20 → length (address empty) ≡ 20
      → rec.head.0 ≡ address first → rec.working.0 ≡ address empty → rec.staged.0 ≡ address empty → rec.merging ≡ None → IsOpened address epoch chunks rec
  is_opened laws chunks rec just single first_long empty_long head working staged merging = record {
    commit = (laws.is_found chunks (address first) first single (just.all (address first) first (inr (inl (refl, refl)))), first_long);
    database = (laws.is_found chunks (address empty) empty single (just.all (address empty) empty (inl (refl, refl))), empty_long);
    only = λ k bytes found is. only_first k bytes (just.only k bytes (laws.is_listed chunks k bytes found)) is;
    named = laws.named_fewer address chunks (both_alone address epoch).own just.only (refl, (refl, tt));
    single = single;
    head = head;
    working = working;
    staged = staged;
    merging = merging;
  }

-- what is sealed over no segment and appended to no segment is just the own chunks
pub just_sealed : (segments : List (List Chunk)) (own sealed chunks : List Chunk) → segments ≡ [] → IsSealed segments own sealed → IsUnion [] sealed chunks → HasJust own chunks
just_sealed segments own sealed chunks none seals union =
    let alone : IsSealed [] own sealed = subst (λ (s : List (List Chunk)). IsSealed s own sealed) none seals in
    record {
      all = λ k bytes at. union.right k bytes (alone.union.left k bytes at);
      only = λ k bytes at. by_own k bytes alone (by_sealed k bytes (union.only k bytes at));
    } where
      by_sealed : (k bytes : List ℕ) → Listed [] k bytes ⊎ Listed sealed k bytes → Listed sealed k bytes
      by_sealed k bytes (inl none) = absurd none
      by_sealed k bytes (inr at) = at

      either : (k bytes : List ℕ) → Listed own k bytes ⊎ Listed [] k bytes → Listed own k bytes
      either k bytes (inl at) = at
      either k bytes (inr none) = absurd none

      by_own : (k bytes : List ℕ) → IsSealed [] own sealed → Listed sealed k bytes → Listed own k bytes
      by_own k bytes alone at = either k bytes (alone.union.only k bytes at)

pub all_on : (statements : List ℕ) (names : List (List ℕ)) → length names ≡ length statements → map (λ (number : ℕ). codes "main") statements ≡ map (λ (name : List ℕ). codes "main") names
all_on [] [] e = refl
all_on [] (name ∷ names) e = absurd (omega (arith, e))
all_on (n ∷ statements) [] e = absurd (omega (arith, e))
all_on (n ∷ statements) (name ∷ names) e = ap (λ l. codes "main" ∷ l) (all_on statements names (omega (arith, e)))

pub is_date_so : (z : ℤ) → pos 0 ≤ℤ z → FitsSigned w64 z → is_date z ≡ true
is_date_so (pos n) above fits = let small : n < 2 ^ 63 = fits.sfits in search (rules, small)
is_date_so (negsuc n) above fits = absurd (omega (arith, ints, above))

-- a database that is opened so stands for the opening
pub opens : (address : List ℕ → List ℕ) (epoch : ℤ) (names : List (List ℕ)) (statements : List ℕ) (parts : Parts) (rec : BranchRecord) → StatesFollow
    → pos 0 ≤ℤ epoch → FitsSigned w64 epoch → IsOpened address epoch parts.chunks rec → parts.branches ≡ record { name = codes "main"; rec = rec } ∷ []
    → parts.places ≡ map (λ (number : ℕ). codes "main") statements → length names ≡ length statements → StateStands address parts (opening address epoch names)
opens address epoch names statements parts rec laws above fits opened branches places same =
    laws.opened address epoch names parts rec (is_date_so epoch above fits) opened.commit opened.database opened.only opened.named opened.single branches
    opened.head opened.working opened.staged opened.merging (places ∙ all_on statements names same)
