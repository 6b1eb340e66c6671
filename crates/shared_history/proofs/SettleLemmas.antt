-- How a settle ends, with the look that was asked for.
use Rattle.std.proofs.Common.{◌≡◌, ◌≢◌, refl, sym, ◌∙◌, subst, ℕ, ◌≤◌, Bool, List, [], Option, Some, None, Result, Ok, Err, option_map}
use Rattle.std.specs.Prelude.{IfOk}
use Rattle.std.specs.Option.{option_map_or}
use Rattle.std.specs.declared.alloc.AllocError.{AllocError}
use Rattle.std.proofs.lemmas.Option.{same_Some}
use Rattle.chunk_store.specs.Chunks.{Chunk, chunk_bytes}
use Rattle.chunk_store.specs.Clashes.{Differ, IsClash}
use Rattle.table_root.specs.declared.heads.Look.{Look}
use Rattle.shared_db.specs.Settling.{StateGoesOn, sealed_in}
use Rattle.shared_db.specs.Shared.{Db, IfCollided, IfMoved, IsSettled, record_at}
use Rattle.shared_db.specs.declared.changes.RecordChange.{RecordChange}
use Rattle.shared_db.specs.declared.changes.Settled.{Settled}
use Rattle.shared_db.specs.declared.changes.Settled.TheVariants as settled
use Rattle.shared_history.specs.Meeting.{IsUnmoved, ShowsNext}
use Rattle.shared_history.specs.Showing.{IsAhead, SettledWith, StaysAs, shown_by}
use Rattle.shared_history.proofs.AheadLemmas.{shows_next}

-- what is sealed, as it is read from what was handed in
pub sealed_as : {A : Type 0} (f : A → List Chunk) (sealed : Option A) → option_map_or f sealed [] ≡ sealed_in (option_map f sealed)
sealed_as f None = refl
sealed_as f (Some sealed) = refl

stays_as : (old new : Db) → new.parts ≡ old.parts → (old.moments_room ≤ new.moments_room) × (old.segments_room ≤ new.segments_room) → StaysAs old new
stays_as old new same kept = record { parts = same; moments = kept.0; segments = kept.1 }

pub settled_with : (session statement : ℕ) (look : Look) (made : RecordChange) (sealed : Option (List Chunk)) (next : Bool) (old new : Db) (how : Settled) (ahead shown : Option Look)
    → IsAhead next old.parts look.branch made sealed ahead → shown ≡ shown_by how ahead
    → (how ≡ settled.Done → IsSettled session statement look.branch made sealed old.parts new.parts)
    → (how ≡ settled.Done → StateGoesOn look made (sealed_in sealed) old.parts new.parts)
    → (how ≡ settled.Done → record_at look.branch old.parts.branches ≡ Some look.rec)
    → IfMoved how (λ rec. (record_at look.branch old.parts.branches ≡ Some rec) × (rec ≢ look.rec))
    → IfCollided how (IsClash (chunk_bytes old.parts.chunks) (chunk_bytes (sealed_in sealed)))
    → (how ≡ settled.Memory → Differ (chunk_bytes old.parts.chunks) (chunk_bytes (sealed_in sealed)))
    → (how ≢ settled.Done → new.parts ≡ old.parts)
    → (how ≢ settled.Done → (old.moments_room ≤ new.moments_room) × (old.segments_room ≤ new.segments_room))
    → SettledWith session statement look made sealed next old new (how, shown)
settled_with session statement look made sealed next old new settled.Done ahead shown foreseen is done stands looked moved clash memory same kept = record {
  there = looked refl;
  settled = done refl;
  stands = stands refl;
  shows = subst (ShowsNext next look.branch new.parts) (sym is) (shows_next session statement next look.branch made sealed old.parts new.parts ahead (done refl) foreseen);
}
settled_with session statement look made sealed next old new (settled.Moved rec) ahead shown foreseen is done stands looked moved clash memory same kept = record {
  there = moved.0;
  moved = moved.1;
  shows = is;
  stays = stays_as old new (same (λ is. cc)) (kept (λ is. cc));
}
settled_with session statement look made sealed next old new (settled.Collision clashed) ahead shown foreseen is done stands looked moved clash memory same kept = record {
  fault = clash;
  shows = is;
  stays = stays_as old new (same (λ is. cc)) (kept (λ is. cc));
}
settled_with session statement look made sealed next old new settled.Memory ahead shown foreseen is done stands looked moved clash memory same kept = record {
  fault = memory refl;
  shows = is;
  stays = stays_as old new (same (λ is. cc)) (kept (λ is. cc));
}

-- where the branch has the record that was looked at, it isn't answered that it had moved
pub unmoved : (session statement : ℕ) (look : Look) (made : RecordChange) (sealed : Option (List Chunk)) (next : Bool) (old new : Db) (ended : Result (Settled × Option Look) AllocError)
    → IfOk ended (SettledWith session statement look made sealed next old new) → record_at look.branch old.parts.branches ≡ Some look.rec → IsUnmoved ended
unmoved session statement look made sealed next old new (Ok (settled.Done, shown)) says there = tt
unmoved session statement look made sealed next old new (Ok (settled.Moved rec, shown)) says there = says.moved (same_Some _ _ (sym says.there ∙ there))
unmoved session statement look made sealed next old new (Ok (settled.Collision clash, shown)) says there = tt
unmoved session statement look made sealed next old new (Ok (settled.Memory, shown)) says there = tt
unmoved session statement look made sealed next old new (Err e) says there = tt
