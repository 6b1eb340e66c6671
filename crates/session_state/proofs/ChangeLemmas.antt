-- Records by addresses, compared.
use Rattle.std.proofs.Common.{◌≡◌, refl, subst, sym, ◌∙◌, ap, ℕ, Bool, true, false, ◌&&◌, not, List, Option, Some, None, bytes_eq, cond}
use Rattle.std.specs.Option.{option_eq, option_map_or}
use Rattle.std.specs.Cmp.Lexicographic.{bytes_decides}
use Rattle.std.proofs.lemmas.Bool.{and_parts as both, and_from as of_both}
use Rattle.tuple_codec.proofs.ByteLemmas.{bytes_itself as itself}
use Rattle.tuple_codec.proofs.Truths.{alike_truths as one_test}
use Rattle.tuple_codec.specs.declared.addresses.Address.{Address}
use Rattle.tuple_codec.specs.declared.records.BranchRecord.{BranchRecord}
use Rattle.table_root.specs.declared.heads.Look.{Look}
use Rattle.chunk_store.specs.Drafts.{DraftParts, chunks_of}
use Rattle.plain_sessions.specs.Records.{BranchState, is_same_state}
use Rattle.plain_sessions.specs.Sessions.{Transaction, is_changed_since}
use Rattle.session_state.specs.Laws.{RecordsFollow}
use Rattle.session_state.specs.Records.{RecordStands}
use Rattle.session_state.specs.Transactions.{StartStands, TransactionStands}

abbrev pub same_record : BranchRecord → BranchRecord → Bool
same_record a b =
    bytes_eq a.head.0 b.head.0 && (bytes_eq a.working.0 b.working.0 && (bytes_eq a.staged.0 b.staged.0 && option_eq (λ x y. bytes_eq x.0 y.0) a.merging b.merging))

address_by : (a b : Address) → bytes_eq a.0 b.0 ≡ true → a ≡ b
address_by a b h = ap (λ (bytes : List ℕ). let k : Address = (record { 0 = bytes }) in k) ((bytes_decides a.0 b.0).0 h)

merging_by : (a b : Option Address) → option_eq (λ x y. bytes_eq x.0 y.0) a b ≡ true → a ≡ b
merging_by None None h = refl
merging_by None (Some b) h = absurd (cc)
merging_by (Some a) None h = absurd (cc)
merging_by (Some a) (Some b) h = ap Some (address_by a b h)

merging_itself : (a : Option Address) → option_eq (λ x y. bytes_eq x.0 y.0) a a ≡ true
merging_itself None = refl
merging_itself (Some a) = itself a.0

abbrev record_of : Address → Address → Address → Option Address → BranchRecord
record_of head working staged merging = record { head = head; working = working; staged = staged; merging = merging }

pub record_by : (a b : BranchRecord) → same_record a b ≡ true → a ≡ b
record_by a b h =
    let head = both _ _ h in
    let working = both _ _ head.1 in
    let staged = both _ _ working.1 in
    ap (λ (k : Address). record_of k a.working a.staged a.merging) (address_by a.head b.head head.0)
    ∙ ap (λ (k : Address). record_of b.head k a.staged a.merging) (address_by a.working b.working working.0)
    ∙ ap (λ (k : Address). record_of b.head b.working k a.merging) (address_by a.staged b.staged staged.0)
    ∙ ap (λ (m : Option Address). record_of b.head b.working b.staged m) (merging_by a.merging b.merging staged.1)

record_itself : (a : BranchRecord) → same_record a a ≡ true
record_itself a =
    of_both _ _ (itself a.head.0) (of_both _ _ (itself a.working.0) (of_both _ _ (itself a.staged.0) (merging_itself a.merging)))

pub record_told : (a b : BranchRecord) → a ≡ b → same_record a b ≡ true
record_told a b h = subst (λ (other : BranchRecord). same_record a other ≡ true) h (record_itself a)

changed_in : (address : List ℕ → List ℕ) (draft : DraftParts) (look : Look) (own : BranchRecord) (t : Transaction) → RecordsFollow → TransactionStands address draft look own t
    → not (same_record look.rec own) ≡ is_changed_since t
changed_in address draft look own t follow stands = ap not (one_test (same_record look.rec own) (is_same_state t.own t.start)
    (λ h. let same = record_by look.rec own h in
    (follow.told t.own t.start).1 (sym (follow.one address (chunks_of draft) t.commits t.commits look.rec t.start t.own stands.start
    (subst (λ (rec : BranchRecord). RecordStands address (chunks_of draft) t.commits rec t.own) (sym same) stands.own_stands))))
    (λ h. record_told look.rec own (follow.same address (chunks_of draft) t.commits t.commits look.rec own t.start stands.start
    (subst (λ (state : BranchState). RecordStands address (chunks_of draft) t.commits own state) ((follow.told t.own t.start).0 h) stands.own_stands))))

-- a session at this start is in a transaction
pub changed_as_told : (address : List ℕ → List ℕ) (draft : DraftParts) (start : Option Look) (look : Look) (own : BranchRecord) (t : Option Transaction) → RecordsFollow
    → start ≡ Some look → StartStands address draft start own t → not (same_record look.rec own) ≡ option_map_or is_changed_since t false
changed_as_told address draft None look own t follow is stands = absurd (cc)
changed_as_told address draft (Some other) look own None follow is stands = absurd stands
changed_as_told address draft (Some other) look own (Some t) follow is stands =
    ap (λ (l : Option Look). not (same_record (option_map_or (λ (x : Look). x.rec) l look.rec) own)) (sym is) ∙ changed_in address draft other own t follow stands
