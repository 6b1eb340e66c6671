-- What a call of a meeting at the gate finds, and what it leaves.
use Rattle.std.proofs.Common.{◌≡◌, ◌≢◌, refl, sym, ◌∙◌, ap, subst, ℕ, ◌+◌, ◌<◌, ◌^◌, Bool, true, false, ◌||◌, nat_eq, List, [], ◌∷◌, ◌++◌, length, map, arith, if◌then◌else◌, is_ok, Option, None, Some, Result, Ok, Err, IfOk, OnErr, OnOk}
use Rattle.std.specs.Prelude.{slice_get}
use Rattle.std.specs.declared.alloc.AllocError.{AllocError}
use Rattle.std.proofs.lemmas.List.{length-append, nil_from_length}
use Rattle.std.proofs.lemmas.List.Elements.{filter-append}
use Rattle.chunk_store.specs.Chunks.{Chunk, Lists}
use Rattle.chunk_store.specs.Stores.{all_chunks}
use Rattle.table_root.specs.declared.heads.Look.{Look}
use Rattle.run_laws.specs.Histories.{ToldTurn}
use Rattle.plain_sessions.specs.Records.{Shared}
use Rattle.session_state.specs.Changes.{Parts, StateStands}
use Rattle.seat_gate.specs.History.{Entry, HasMade, Spelling, View, entries_of, entry, with_entry}
use Rattle.seat_gate.specs.Standing.{CanHold, HasSeenMore, IsReady, is_holding, stand_at, stand_view}
use Rattle.seat_gate.specs.Told.{left_last}
use Rattle.seat_gate.specs.Words.{held_value, held_view}
use Rattle.seat_gate.specs.declared.held.Held.{Held}
use Rattle.seat_gate.specs.declared.stand.Stand.{Stand}
use Rattle.seat_gate.proofs.Telling.{told_on_entering}
use Rattle.shared_db.specs.Shared.{Db, KeepsRoom, noted, record_at}
use Rattle.shared_db.specs.Stepping.{IsPlainStep, IsStepped, plain_step}
use Rattle.shared_db.specs.declared.changes.BranchReply.{BranchReply}
use Rattle.shared_db.specs.declared.changes.BranchStep.{BranchStep}
use Rattle.shared_db.specs.declared.changes.RecordChange.{RecordChange}
use Rattle.shared_db.specs.declared.changes.Settled.{Settled}
use Rattle.shared_db.specs.declared.changes.Settled.TheVariants as settled
use Rattle.shared_history.specs.Fitting.{Chain, Fits, HasTurnLeft, seat_of}
use Rattle.shared_history.specs.Meeting.{Comes, Found, Holds, IsLookAt, IsUnmoved, Looks, MaySettle, Settles, Starts, Steps, Tells, after_letting_go, moments_by, room_of, turn_of, turned, with_look}
use Rattle.shared_history.specs.Noting.{after_look, after_settle, held_after, with_call, with_hold, with_loss, with_record}
use Rattle.shared_history.specs.Reading.{parts_of}
use Rattle.shared_history.specs.Showing.{SettledWith}
use Rattle.shared_history.specs.Spelling.{spelling_of}
use Rattle.shared_history.specs.declared.gated.GatedDb.{GatedDb}
use Rattle.shared_history.specs.declared.notes.Notes.{Notes}
use Rattle.shared_history.proofs.FittingLemmas.{chain_left, chain_split, fits_left, fits_still, has_come, has_room}
use Rattle.shared_history.proofs.FoundLemmas.{turn_found}
use Rattle.shared_history.proofs.OwnLemmas.{own_others}
use Rattle.shared_history.proofs.ReadingLemmas.{read_back}
use Rattle.shared_history.proofs.SettleLemmas.{unmoved}
use Rattle.shared_history.proofs.SpellingLemmas.{spelled_one}
use Rattle.shared_history.proofs.TurnLemmas.{settled_fits, started_fits, stepped_fits}
use Rattle.thread_run.specs.Gate.{FitsGated, IsAtGate, IsFrom, gate_at, gate_tells, tells_at, view_at}
use Rattle.thread_run.specs.Leaving.{is_made, view_after}
use Rattle.thread_run.specs.Turns.{told_turn, turns_of}
use Rattle.thread_run.specs.declared.at_gate.AtGate.{AtGate}
use Rattle.thread_run.proofs.SeatLemmas.{left_behind, turns_on_leaving}

-- ---- what is found

-- parts that are spelled so are those read back
pub read_as : (p : Parts) (s : Spelling) → spelling_of p ≡ s → parts_of s ≡ p
read_as p s spelled = ap parts_of (sym spelled) ∙ read_back p

only_held : (h : Bool) → (h || false) ≡ true → h ≡ true
only_held true alone = refl
only_held false alone = absurd (cc)

-- the database fits all that w has seen, which is more than v saw
module _ (address : List ℕ → List ℕ) (v w : View) (db : Db) (fits : Fits address db w.opened w.seen) (saw : HasSeenMore v w) (own : HasMade v) where
  -- what is seen of it is the database
  seen_now : parts_of (left_last w.opened w.seen) ≡ db.parts
  seen_now = read_as db.parts (left_last w.opened w.seen) (fits_left address db w.opened w.seen fits)

  -- no turns more are told
  same_turns : turns_of w ≡ turns_of v
  same_turns = ap turns_of saw.same ∙ ap (λ turns. map told_turn turns) (told_on_entering v.number v.opened w.seen v.seen saw.prefix (saw.own ∙ sym own))

  made_more : HasMade w
  made_more = ap (λ (x : View). entries_of x.number w.seen) saw.same ∙ saw.own ∙ sym (ap (λ (x : View). x.made) saw.same)

  found_by : (held : Bool) (notes : Notes) (p : Parts) → v.number ≡ seat_of notes.session → spelling_of p ≡ left_last v.opened v.seen → (held ≡ true → w ≡ v) → Found address (gate_tells v held notes) db.parts
  found_by held notes p numbered spelled still =
      let own_seat : ℕ = seat_of notes.session in
      let rest : List Entry = saw.prefix.0 in
      let seen : Parts = parts_of (left_last v.opened v.seen) in
      let is : seen ≡ p = read_as p (left_last v.opened v.seen) spelled in
      let opened : w.opened ≡ v.opened = ap (λ (x : View). x.opened) saw.same in
      let told : spelling_of seen ≡ left_last w.opened v.seen = ap spelling_of is ∙ spelled ∙ ap (λ o. left_last o v.seen) (sym opened) in
      let same : entries_of own_seat w.seen ≡ entries_of own_seat v.seen = subst (λ n. entries_of n w.seen ≡ entries_of n v.seen) numbered (saw.own ∙ sym own) in
      let ways = chain_split fits.first db.parts v.seen rest (subst (λ es. Chain fits.first es db.parts) saw.prefix.1 fits.chain) in
      let then_left : spelling_of ways.0 ≡ left_last w.opened v.seen = chain_left fits.first ways.0 v.seen ways.1 ∙ ap (λ before. left_last before v.seen) fits.opened_as in
      let there : ways.0 ≡ seen = spelled_one ways.0 seen (then_left ∙ sym told) in
      let both : entries_of own_seat v.seen ++ entries_of own_seat rest ≡ entries_of own_seat v.seen
      = sym (filter-append (λ (x : Entry). nat_eq x.seat own_seat) v.seen rest) ∙ (ap (entries_of own_seat) (sym saw.prefix.1) ∙ same) in
      let many : length (entries_of own_seat v.seen) + length (entries_of own_seat rest) ≡ length (entries_of own_seat v.seen)
      = sym (length-append (entries_of own_seat v.seen) (entries_of own_seat rest)) ∙ ap length both in
      let none : entries_of own_seat rest ≡ [] = nil_from_length (entries_of own_seat rest) (omega (arith, many)) in
      record {
        shared = fits.shared;
        stands = fits.stands;
        come = has_come address db w.opened w.seen v.seen notes.session seen fits saw.prefix told same;
        own = subst (λ (q : Parts). moments_by notes.session db.parts.moments ≡ moments_by notes.session q.moments) there (own_others notes.session ways.0 db.parts rest ways.2 none);
        still = λ alone. sym (read_as db.parts (left_last v.opened v.seen) (fits_left address db w.opened w.seen fits ∙ ap (λ (x : View). left_last x.opened x.seen) (still (only_held held alone))));
      }

-- ---- its seat

-- what was seen last is what the seat saw last
pub seen_spelled : {R D : Type 0} (address : List ℕ → List ℕ) (first at : AtGate R D) → IsFrom address first at → spelling_of (tells_at at).seen ≡ left_last (view_at at).opened (view_at at).seen
seen_spelled address first at origin = ap spelling_of (read_as origin.parts (left_last (view_at at).opened (view_at at).seen) origin.spelled) ∙ origin.spelled

-- ---- a call

-- a meeting that is ready took the value from its stand
module _ {R D : Type 0} (address : List ℕ → List ℕ) (first at : AtGate R D) (origin : IsFrom address first at) (held : Held (GatedDb D)) (value : CanHold (FitsGated address) (gate_at at) held)
    (saw : HasSeenMore (view_at at) (held_view held)) where
  -- what its seat knows then, the database, its notes
  abbrev w : View
  w = held_view held

  abbrev old : Db
  old = (held_value held).db

  abbrev session : ℕ
  session = at.notes.session

  abbrev statement : ℕ
  statement = at.notes.statement

  pub finds : (is_holding at.stand ≡ true → w ≡ view_at at) → Found address (tells_at at) old.parts
  finds still = found_by address (view_at at) w old value.2 saw origin.own (is_holding at.stand) at.notes origin.parts origin.numbered origin.spelled still

  numbered_as : w.number ≡ seat_of session
  numbered_as = ap (λ (x : View). x.number) saw.same ∙ origin.numbered

  -- ---- what is left fits

  module _ (still : is_holding at.stand ≡ true → w ≡ view_at at) (room : 0 < room_of (tells_at at)) where
    turn_left : HasTurnLeft session old.parts w.seen
    turn_left = turn_found address (tells_at at) old w.opened w.seen value.2 (finds still) room

    pub room_left : (0 < old.moments_room) × (0 < old.segments_room)
    room_left = has_room address old w.opened w.seen session turn_left value.2

    -- the call left the database so
    module _ (left : Db) where
      marked_as : Fits address left w.opened (w.seen ++ entry (seat_of session) statement (spelling_of left.parts) ∷ []) → Fits address left w.opened (view_after true w statement (spelling_of left.parts)).seen
      marked_as more = subst (λ n. Fits address left w.opened (w.seen ++ entry n statement (spelling_of left.parts) ∷ [])) (sym numbered_as) more

      left_as : (made is : Bool) → made ≡ is → Fits address left w.opened (view_after is w statement (spelling_of left.parts)).seen → Fits address left w.opened (view_after made w statement (spelling_of left.parts)).seen
      left_as made is same so = subst (λ b. Fits address left w.opened (view_after b w statement (spelling_of left.parts)).seen) (sym same) so

      started_so : (look : Result Look AllocError) → OnOk look (left.parts ≡ noted session statement old.parts) → OnOk look (KeepsRoom 0 old left) → OnErr look (left ≡ old)
          → Fits address left w.opened (view_after (is_ok look) w statement (spelling_of left.parts)).seen
      started_so (Ok look) started keeps same = marked_as (started_fits address old left w.opened w.seen session statement turn_left origin.small started keeps value.2)
      started_so (Err e) started keeps same = subst (λ (db : Db). Fits address db w.opened w.seen) (sym same) value.2

      pub started_left : (look : Result Look AllocError) (made : Bool) → made ≡ is_ok look → OnOk look (left.parts ≡ noted session statement old.parts) → OnOk look (KeepsRoom 0 old left) → OnErr look (left ≡ old)
          → Fits address left w.opened (view_after made w statement (spelling_of left.parts)).seen
      started_left look made is started keeps same = left_as made (is_ok look) is (started_so look started keeps same)

      pub stepped_left : (step : BranchStep) (reply : BranchReply) → slice_get (tells_at at).seen.places session ≢ None → IsPlainStep session (λ shared p. plain_step shared p step) reply old.parts left.parts
          → IsStepped session statement step reply old.parts left.parts → KeepsRoom 0 old left → Fits address left w.opened (view_after true w statement (spelling_of left.parts)).seen
      stepped_left step reply placed plain stepped keeps =
          marked_as (stepped_fits address step reply old left w.opened w.seen session statement turn_left origin.small (λ none. placed (sym (finds still).come.place ∙ none)) plain stepped keeps value.2)

      module _ (look : Look) (change : RecordChange) (sealed : Option (List Chunk)) (next : Bool) (given : Lists (all_chunks look.store) (tells_at at).seen.chunks) (may : MaySettle address look change sealed) where
        settled_so : (ended : Result (Settled × Option Look) AllocError) → IfOk ended (SettledWith session statement look change sealed next old left) → OnOk ended (KeepsRoom 1 old left) → OnErr ended (left ≡ old)
            → Fits address left w.opened (view_after (is_made ended) w statement (spelling_of left.parts)).seen
        settled_so (Ok (settled.Done, shown)) with keeps same =
            marked_as (settled_fits address look change sealed old left w.opened w.seen session statement turn_left origin.small (λ k bytes listed. (finds still).come.grown k bytes (given k bytes listed)) may with.settled with.stands keeps value.2)
        settled_so (Ok (settled.Moved rec, shown)) with keeps same = fits_still address old left w.opened w.seen with.stays.parts with.stays.moments with.stays.segments value.2
        settled_so (Ok (settled.Collision clash, shown)) with keeps same = fits_still address old left w.opened w.seen with.stays.parts with.stays.moments with.stays.segments value.2
        settled_so (Ok (settled.Memory, shown)) with keeps same = fits_still address old left w.opened w.seen with.stays.parts with.stays.moments with.stays.segments value.2
        settled_so (Err e) with keeps same = subst (λ (db : Db). Fits address db w.opened w.seen) (sym same) value.2

        pub settled_left : (ended : Result (Settled × Option Look) AllocError) (made : Bool) → made ≡ is_made ended → IfOk ended (SettledWith session statement look change sealed next old left) → OnOk ended (KeepsRoom 1 old left)
            → OnErr ended (left ≡ old) → Fits address left w.opened (view_after made w statement (spelling_of left.parts)).seen
        settled_left ended made is with keeps same = left_as made (is_made ended) is (settled_so ended with keeps same)

  -- ---- it is ready again

  -- its seat knows this now, which is what it knew or an entry more
  ready_at : (new : Stand (GatedDb D)) (next : Notes) (x : View) (parts : Parts) (shared : Shared) → StateStands address parts shared → stand_at new ≡ gate_at at → IsReady (FitsGated address) new → HasMade (stand_view new) → stand_view new ≡ x
      → x ≡ record w { seen = x.seen; made = x.made } → spelling_of parts ≡ left_last x.opened x.seen → next.session ≡ session → next.statement ≡ statement → IsAtGate address first.stand new first.notes next
  ready_at new next x parts shared stands gate ready made view like spelled number noting = record {
    gate = gate ∙ origin.gate;
    ready = ready;
    own = made;
    keeps = record {
      opened = ap (λ (y : View). y.opened) view ∙ ap (λ (y : View). y.opened) like ∙ ap (λ (y : View). y.opened) saw.same ∙ origin.keeps.opened;
      number = ap (λ (y : View). y.number) view ∙ ap (λ (y : View). y.number) like ∙ ap (λ (y : View). y.number) saw.same ∙ origin.keeps.number;
      joined = ap (λ (y : View). y.joined) view ∙ ap (λ (y : View). y.joined) like ∙ ap (λ (y : View). y.joined) saw.same ∙ origin.keeps.joined;
      given = ap (λ (y : View). y.given) view ∙ ap (λ (y : View). y.given) like ∙ ap (λ (y : View). y.given) saw.same ∙ origin.keeps.given;
    };
    session = number ∙ origin.session;
    numbered = ap (λ (y : View). y.number) view ∙ ap (λ (y : View). y.number) like ∙ numbered_as ∙ ap seat_of (sym number);
    small = subst (λ n. n < 2 ^ 32) (sym noting) origin.small;
    parts = parts;
    spelled = spelled ∙ ap (λ (y : View). left_last y.opened y.seen) (sym view);
    shared = shared;
    stands = stands;
  }

  -- left unmarked, or kept
  pub stays_ready : (new : Stand (GatedDb D)) (next : Notes) → stand_at new ≡ gate_at at → IsReady (FitsGated address) new → stand_view new ≡ w → next.session ≡ session → next.statement ≡ statement
      → IsAtGate address first.stand new first.notes next
  stays_ready new next gate ready view number noting =
      ready_at new next w old.parts value.2.shared value.2.stands gate ready (subst HasMade (sym view) (made_more address (view_at at) w old value.2 saw origin.own)) view refl (fits_left address old w.opened w.seen value.2) number noting

  -- left as a moment was made, or not
  pub leaves_ready : (made : Bool) (new : Stand (GatedDb D)) (next : Notes) (left : Db) → Fits address left w.opened (view_after made w statement (spelling_of left.parts)).seen → stand_at new ≡ gate_at at
      → IsReady (FitsGated address) new → HasMade (stand_view new) → stand_view new ≡ view_after made w statement (spelling_of left.parts) → next.session ≡ session → next.statement ≡ statement → IsAtGate address first.stand new first.notes next
  leaves_ready true new next left fits gate ready made view number noting =
      ready_at new next (with_entry (entry w.number statement (spelling_of left.parts)) w) left.parts fits.shared fits.stands gate ready made view refl (left_behind w statement left.parts) number noting
  leaves_ready false new next left fits gate ready made view number noting = stays_ready new next gate ready view number noting

  -- ---- what it tells

  module _ (still : is_holding at.stand ≡ true → w ≡ view_at at) (new : Stand (GatedDb D)) (next : Notes) where
    abbrev was : Tells
    was = tells_at at

    abbrev now : Tells
    now = gate_tells (stand_view new) (is_holding new) next

    -- the database is seen as it was found
    seen_found : (holds : Bool) (noting : Notes) → stand_view new ≡ w → is_holding new ≡ holds → next ≡ noting → now ≡ record (gate_tells (view_at at) holds noting) { seen = old.parts }
    seen_found holds noting view held_is is =
        (λ i. gate_tells (view i) (held_is i) (is i))
        ∙ (λ i. record (gate_tells (view_at at) holds noting) {
          seen = seen_now address (view_at at) w old value.2 saw origin.own i;
          made = Some (same_turns address (view_at at) w old value.2 saw origin.own i);
        })

    -- one moment was made
    one_turn : (parts : Parts) (noting : Notes) → stand_view new ≡ with_entry (entry w.number statement (spelling_of parts)) w → is_holding new ≡ false → next ≡ noting
        → now ≡ record (gate_tells (view_at at) false noting) { seen = parts; made = Some (turns_of (view_at at) ++ turn_of statement old.parts parts ∷ []) }
    one_turn parts noting view rests is =
        (λ i. gate_tells (view i) (rests i) (is i))
        ∙ (λ i. record (gate_tells (view_at at) false noting) {
          seen = read_as parts _ (left_behind w statement parts) i;
          made = Some ((turns_on_leaving w statement (spelling_of parts)
              ∙ ap (λ (found : Spelling). turns_of w ++ record { statement = statement; found = found; left = spelling_of parts } ∷ []) (sym (fits_left address old w.opened w.seen value.2))
              ∙ ap (λ (ts : List (ToldTurn Spelling)). ts ++ turn_of statement old.parts parts ∷ []) (same_turns address (view_at at) w old value.2 saw origin.own)) i);
        })

    -- ---- a look

    pub looks : (branch : List ℕ) (look : Result Look AllocError) → IfOk look (IsLookAt old.parts branch) → stand_view new ≡ w → is_holding new ≡ is_holding at.stand → next ≡ after_look look at.notes
        → IfOk look (λ look. Looks address branch look was now)
    looks branch (Ok look) shown view holds is =
        record { found = old.parts; is = finds still; at = shown; tells = seen_found (is_holding at.stand) (with_record look.rec at.notes) view holds is }
    looks branch (Err e) shown view holds is = tt

    pub looks_short : (look : Result Look AllocError) → stand_view new ≡ w → is_holding new ≡ is_holding at.stand → next ≡ after_look look at.notes → OnErr look (Comes address was now)
    looks_short (Ok look) view holds is = tt
    looks_short (Err e) view holds is = record { found = old.parts; is = finds still; tells = seen_found (is_holding at.stand) (with_call at.notes) view holds is }

    -- ---- a hold

    pub holds : stand_view new ≡ w → is_holding new ≡ true → next ≡ with_hold at.notes → Holds address was now
    holds view held_is is = record { found = old.parts; is = finds still; tells = seen_found true (with_hold at.notes) view held_is is }

    pub lets_go : is_holding at.stand ≡ true → stand_view new ≡ w → is_holding new ≡ false → next ≡ with_call at.notes → now ≡ after_letting_go was
    lets_go held_was view rests is =
        seen_found false (with_call at.notes) view rests is
        ∙ (λ i. record (gate_tells (view_at at) false (with_call at.notes)) { seen = (finds still).still (ap (λ (h : Bool). h || false) held_was) i })

    -- ---- a call that may have made a moment, which left these parts

    module _ (parts : Parts) where
      as_made : (made is : Bool) → made ≡ is → stand_view new ≡ view_after made w statement (spelling_of parts) → stand_view new ≡ view_after is w statement (spelling_of parts)
      as_made made is made_is view = view ∙ ap (λ b. view_after b w statement (spelling_of parts)) made_is

      as_held : (made is keeps : Bool) → made ≡ is → is_holding new ≡ (if made then false else keeps) → is_holding new ≡ (if is then false else keeps)
      as_held made is keeps made_is held_is = held_is ∙ ap (λ b. if b then false else keeps) made_is

      pub starts : (branch : List ℕ) (look : Result Look AllocError) (made : Bool) → made ≡ is_ok look → IfOk look (IsLookAt old.parts branch) → OnOk look (parts ≡ noted session statement old.parts)
          → stand_view new ≡ view_after made w statement (spelling_of parts) → is_holding new ≡ (if made then false else false) → next ≡ after_look look at.notes → IfOk look (λ look. Starts address branch look was now)
      starts branch (Ok look) made made_is shown started view rests is = record {
        found = old.parts;
        is = finds still;
        at = shown;
        tells = one_turn parts (with_record look.rec at.notes) (as_made made true made_is view) (as_held made true false made_is rests) is ∙ (λ i. turned old.parts (started i) (with_look look was));
      }
      starts branch (Err e) made made_is shown started view rests is = tt

      pub starts_short : (look : Result Look AllocError) (made : Bool) → made ≡ is_ok look → is_holding at.stand ≡ false → stand_view new ≡ view_after made w statement (spelling_of parts)
          → is_holding new ≡ (if made then false else false) → next ≡ after_look look at.notes → OnErr look (Comes address was now)
      starts_short (Ok look) made made_is free view rests is = tt
      starts_short (Err e) made made_is free view rests is =
          record { found = old.parts; is = finds still; tells = seen_found (is_holding at.stand) (with_call at.notes) (as_made made false made_is view) (as_held made false false made_is rests ∙ sym free) is }

      pub steps : (step : BranchStep) (reply : BranchReply) → IsPlainStep session (λ shared p. plain_step shared p step) reply old.parts parts → IsStepped session statement step reply old.parts parts
          → stand_view new ≡ view_after true w statement (spelling_of parts) → is_holding new ≡ false → next ≡ with_call at.notes → Steps address step reply was now
      steps step reply plain stepped view rests is =
          record { found = old.parts; is = finds still; left = parts; is_plain = plain; stepped = stepped; tells = one_turn parts (with_call at.notes) view rests is }

    -- ---- a settle

    module _ (left : Db) (look : Look) (change : RecordChange) (sealed : Option (List Chunk)) (ahead : Bool) where
      pub settles : (ended : Result (Settled × Option Look) AllocError) (made : Bool) → made ≡ is_made ended → IfOk ended (SettledWith session statement look change sealed ahead old left) → OnErr ended (ahead ≡ true)
          → stand_view new ≡ view_after made w statement (spelling_of left.parts) → is_holding new ≡ (if made then false else held_after ended (is_holding at.stand)) → next ≡ after_settle ended at.notes
          → Settles address look change sealed ahead was now ended
      settles (Ok (settled.Done, shown)) made made_is with short view held_is is = record {
        found = old.parts;
        is = finds still;
        left = left.parts;
        there = with.there;
        settled = with.settled;
        stands = with.stands;
        shows = with.shows;
        tells = one_turn left.parts (with_call at.notes) (as_made left.parts made true made_is view) (as_held left.parts made true false made_is held_is) is;
      }
      settles (Ok (settled.Moved rec, shown)) made made_is with short view held_is is = (
        record {
          found = old.parts;
          is = finds still;
          there = with.there;
          moved = with.moved;
          tells = seen_found (is_holding at.stand) (with_loss at.notes) (as_made left.parts made false made_is view) (as_held left.parts made false (is_holding at.stand) made_is held_is) is;
        },
        with.shows,
      )
      settles (Ok (settled.Collision clash, shown)) made made_is with short view held_is is = (
        record {
          found = old.parts;
          is = finds still;
          fault = with.fault;
          tells = seen_found false (with_call at.notes) (as_made left.parts made false made_is view) (as_held left.parts made false false made_is held_is) is;
        },
        with.shows,
      )
      settles (Ok (settled.Memory, shown)) made made_is with short view held_is is = (
        record {
          found = old.parts;
          is = finds still;
          fault = with.fault;
          tells = seen_found false (with_call at.notes) (as_made left.parts made false made_is view) (as_held left.parts made false false made_is held_is) is;
        },
        with.shows,
      )
      settles (Err e) made made_is with short view held_is is = (
        short,
        record {
          found = old.parts;
          is = finds still;
          tells = seen_found (is_holding at.stand) (with_call at.notes) (as_made left.parts made false made_is view) (as_held left.parts made false (is_holding at.stand) made_is held_is) is;
        },
      )

      -- while the value is held the record is the one that was seen
      pub unmoved_held : (ended : Result (Settled × Option Look) AllocError) → IfOk ended (SettledWith session statement look change sealed ahead old left) → is_holding at.stand ≡ true
          → record_at look.branch was.seen.branches ≡ Some look.rec → IsUnmoved ended
      unmoved_held ended with held_was there =
          unmoved session statement look change sealed ahead old left ended with
          (ap (λ (p : Parts). record_at look.branch p.branches) ((finds still).still (ap (λ (h : Bool). h || false) held_was)) ∙ there)
