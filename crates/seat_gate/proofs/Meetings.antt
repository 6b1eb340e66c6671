-- A gate is opened, seats are given out and taken in, and the gate is closed.
use Rattle.std.proofs.Common.{◌≡◌, ℕ, zero, suc, ◌+◌, ◌%◌, ◌<◌, ◌≤◌, ◌≢◌, Bool, true, false, not, ◌&&◌, List, [], ◌∷◌, ◌++◌, length, get_or, set, replicate, Option, Some, refl, sym, ap, ◌∙◌, subst, arith, length-set, length-append, ◌⊎◌, ⊎_elim}
use native.Mathlib.Decide.{ℕ_discrete}
use mathlib.Core.Logic.{dite}
use mathlib.Core.Option.{some, some-ne-none, some-injective}
use lib.ListN.{get_elem?, get_or-replicate, length-replicate}
use Rattle.std.specs.List.{AllByRecursion}
use Rattle.atomic_table.specs.Table.{State, opening, Splits, Joins, Final, Seen}
use Rattle.atomic_table.proofs.Lists.{set_else, set_here, at_longer}
use Rattle.seat_gate.specs.History.{Spelling, Entry, Past, entries_of, View, past_of, joined_with, OneOpening}
use Rattle.seat_gate.specs.Places.{first_place, giving, given_out, taking_in, gone, only, is_at_rest}
use Rattle.seat_gate.specs.Rule.{turn, waiting, PastFits, SeatFits, Rule, Ordered}
use Rattle.seat_gate.specs.declared.place.SeatState.{SeatState}
use Rattle.seat_gate.specs.Words.{HasJoined, StandsIn, IsWhole}
use Rattle.seat_gate.proofs.HistoryLemmas.{longest, entries_none, all_map, all_join, all_at}
use Rattle.seat_gate.proofs.PlaceLemmas.{off, inside, one_there, each_set, each_snoc, one_if, waiting_set, waiting_snoc, apart_set, apart_snoc, past_set, one_opening, none_before}
use Rattle.seat_gate.proofs.Moves.{carried}

-- the only place of a seat at rest neither waits nor serves, and is not joined away
pub record Rests (ps : List SeatState) (p : SeatState) : Type 0 where
  pub is : only ps ≡ p
  pub idle : p.waits ≡ false
  pub off_turn : p.serves ≡ false
  pub live : p.spent ≡ false

three : (a b c : Bool) → (not a && (not b && not c)) ≡ true → (a ≡ false) × (b ≡ false) × (c ≡ false)
three false false false h = (refl, refl, refl)
three true b c h = absurd (off refl h)
three false true c h = absurd (off refl h)
three false false true h = absurd (off refl h)

pub rests : (ps : List SeatState) (p : SeatState) → is_at_rest ps ≡ true → ps ≡ p ∷ [] → Rests ps p
rests ps p h e =
    let t = three p.waits p.serves p.spent (subst (λ l. is_at_rest l ≡ true) e h) in
    record { is = ap only e; idle = t.0; off_turn = t.1; live = t.2 }

three_off : (a b c : Bool) → a ≡ false → b ≡ false → c ≡ false → (not a && (not b && not c)) ≡ true
three_off a b c e f g = ap (λ (x : Bool × Bool × Bool). not x.0 && (not x.1 && not x.2)) (λ i. (e i, f i, g i))

pub rests_again : (ps : List SeatState) (p : SeatState) → ps ≡ p ∷ [] → p.waits ≡ false → p.serves ≡ false → p.spent ≡ false → is_at_rest ps ≡ true
rests_again ps p is e f g = ap is_at_rest is ∙ three_off p.waits p.serves p.spent e f g

-- the words of a new gate
zero_at : (k : ℕ) → k < 4 → get_or {A = ℕ} (replicate 4 0) k 0 ≡ 0
zero_at k within = get_or-replicate {A = ℕ} 4 k 0 0 within

module _ {T : Type 0} (fits : T → Spelling → List Entry → Type 0) (opened : Spelling) where
  only_first : (P : SeatState → Type 0) → P (first_place opened) → (i : ℕ) (p : SeatState) → get_elem? (first_place opened ∷ []) i ≡ some p → (i ≡ 0) × P p
  only_first P h zero p e = (refl, subst P (some-injective _ _ e) h)
  only_first P h (suc i) p e = absurd (some-ne-none p (sym e))

  pub opens : (value : T) → fits value opened [] → Ordered fits opened (opening (replicate 4 0) (Some value ∷ []) (first_place opened))
  opens value fit = (
    0,
    0,
    [],
    record {
      words = length-replicate {A = ℕ} 4 0;
      ticket_word = zero_at 0 (omega arith);
      serving_word = zero_at 1 (omega arith);
      count_word = zero_at 2 (omega arith);
      few = omega arith;
      seats = λ i p e. let t = only_first (SeatFits opened (first_place opened ∷ []) 0 0 [] 0) first_fits i p e in
          subst (λ k. SeatFits opened (first_place opened ∷ []) 0 0 [] k p) (sym t.0) t.1;
      apart = λ i j p q e f _ _ _. (only_first (λ _. Unit {0}) tt i p e).0 ∙ sym (only_first (λ _. Unit {0}) tt j q f).0;
      known = tt;
      value = λ _. (value, refl, fit);
    },
  )
    where
      first_fits : SeatFits opened (first_place opened ∷ []) 0 0 [] 0 (first_place opened)
      first_fits = record {
        prefix = ([], refl);
        recalled = ([], refl);
        in_line = λ w. absurd (off refl w);
        on_turn = λ w. absurd (off refl w);
        over = λ w. absurd (off refl w);
        number = λ _. refl;
        opened_as = λ _. refl;
        made = λ _. refl;
        given = λ _. (refl, refl);
        first = λ _ _. omega arith;
        joined = tt;
      }

  module _ (id : ℕ) (p : SeatState) where
    pub splits : p.spent ≡ false → p.view.number ≡ 0 → p.view.given + 1 < 4294967296 → Splits (Ordered fits opened) id p (giving p) (given_out p)
    splits live first few s o at =
        let serving : ℕ = o.0 in
        let keeper : ℕ = o.1 in
        let log : List Entry = o.2 in
        let r : Rule fits opened s serving keeper log = o.3 in
        let q : SeatState = giving p in
        let ps : List SeatState = set s.views id q in
        let qs : List SeatState = ps ++ given_out p ∷ [] in
        let mine = r.seats id p at in
        let some_given : 0 < p.view.given = mine.first live (sym (mine.number live) ∙ first) in
        let all_given : p.view.given ≡ length s.views = (mine.given some_given).0 in
        let here : id ≡ keeper = (mine.given some_given).1 in
        let set_long : length ps ≡ length s.views = length-set s.views id q in
        let long : length qs ≡ length s.views + 1 = length-append ps (given_out p ∷ []) ∙ ap (λ n. n + 1) set_long in
        let end : p.view.given ≡ length ps = all_given ∙ sym set_long in
        let set_of : waiting ps + one_if p.waits ≡ waiting s.views + one_if p.waits = waiting_set s.views id p q at in
        let as_set : waiting qs ≡ waiting ps = waiting_snoc ps (given_out p) refl in
        let as_many : waiting qs ≡ waiting s.views = omega arith in
        let line = λ (y : SeatState) (l : (serving ≤ y.ticket) × (y.ticket < serving + waiting s.views)). subst (λ n. (serving ≤ y.ticket) × (y.ticket < serving + n)) (sym as_many) l in
        let past = λ (a : Past) (h : PastFits opened s.views log a). past_longer opened ps (given_out p) log a (past_set opened s.views id p q log a at live h) in (
          serving,
          keeper,
          log,
          record {
            words = r.words;
            ticket_word = r.ticket_word ∙ ap (λ n. (serving + n) % turn) (sym as_many);
            serving_word = r.serving_word;
            count_word = r.count_word;
            few = subst (λ n. n < 4294967296) (ap (λ n. n + 1) all_given ∙ sym long) few;
            seats = each_snoc (SeatFits opened qs serving keeper log) ps (given_out p)
                (each_set (SeatFits opened qs serving keeper log) s.views id q
                (record {
                  prefix = mine.prefix;
                  recalled = mine.recalled;
                  in_line = λ w. line p (mine.in_line w);
                  on_turn = mine.on_turn;
                  over = λ w. absurd (off live w);
                  number = mine.number;
                  opened_as = mine.opened_as;
                  made = mine.made;
                  given = λ _. (ap (λ n. n + 1) all_given ∙ sym long, here);
                  first = λ _ _. omega arith;
                  joined = all_map (PastFits opened s.views log) (PastFits opened qs log) past p.view.joined mine.joined;
                })
                (λ j y ne e. let f = r.seats j y e in
                carried opened s.views qs serving serving keeper keeper log log j y f (λ w. line y (f.in_line w)) f.on_turn f.prefix (λ _. refl)
                (λ h. absurd (ne ((f.given h).1 ∙ sym here))) past))
                (record {
                  prefix = mine.prefix;
                  recalled = (p.view.seen, refl);
                  in_line = λ w. absurd (off refl w);
                  on_turn = λ w. absurd (off refl w);
                  over = λ w. absurd (off refl w);
                  number = λ _. end;
                  opened_as = λ _. mine.opened_as live;
                  made = λ _. entries_none (length s.views) (length ps) log r.known (omega arith);
                  given = λ h. absurd (omega arith);
                  first = λ _ is. absurd (omega arith);
                  joined = tt;
                });
            apart = apart_snoc ps (given_out p) (apart_set s.views id q r.apart (λ w j y ne e w' equal. ne (r.apart j id y p e at w' w (sym equal)))) refl;
            known = all_map (λ (e : Entry). e.seat < length s.views) (λ (e : Entry). e.seat < length qs) (λ e h. let lt : e.seat < length s.views = h in omega arith) log r.known;
            value = λ none. let before = λ (i : ℕ) (x : SeatState) (e : get_elem? ps i ≡ some x). none i x (at_longer ps (given_out p ∷ []) i x e) in
                r.value (none_before s.views id p q at (before id q (set_here s.views id q (inside s.views id p at))) before);
          },
        )
      where
        past_longer : (opened : Spelling) (ps : List SeatState) (q : SeatState) (log : List Entry) (past : Past) → PastFits opened ps log past → PastFits opened (ps ++ q ∷ []) log past
        past_longer opened ps q log past f = let g = f.gone in record { opened_as = f.opened_as; prefix = f.prefix; made = f.made; gone = (g.0, at_longer ps (q ∷ []) past.number g.0 g.1, g.2) }

    module _ (other : ℕ) (q : SeatState) where
      -- who knows, from now on, how many seats were given out: the taking seat where either knew
      new_keeper : (s : State (Option T) SeatState) (serving keeper : ℕ) (log : List Entry) → Rule fits opened s serving keeper log → get_elem? s.views id ≡ some p → get_elem? s.views other ≡ some q → ¬ (other ≡ id)
          → (keeper' : ℕ)
          × (0 < p.view.given + q.view.given → (p.view.given + q.view.given ≡ length s.views) × (id ≡ keeper'))
          × ((j : ℕ) (x : SeatState) → j ≢ id → j ≢ other → get_elem? s.views j ≡ some x → 0 < x.view.given → (x.view.given ≡ length s.views) × (j ≡ keeper'))
      new_keeper s serving keeper log r at there apart =
          let mine = r.seats id p at in
          let theirs = r.seats other q there in
          dite (ℕ_discrete q.view.given 0)
          (λ none. (
            keeper,
            (λ some_given. let g = mine.given (omega arith) in let all : p.view.given ≡ length s.views = g.0 in (omega arith, g.1)),
            (λ j x _ _ e some_given. (r.seats j x e).given some_given),
          ))
          (λ ne.
          let g = theirs.given (omega arith) in
          let all : q.view.given ≡ length s.views = g.0 in
          let none : p.view.given ≡ 0 = dite (ℕ_discrete p.view.given 0) (λ is. is) (λ some_given. absurd (apart (g.1 ∙ sym (mine.given (omega arith)).1))) in (
            id,
            (λ _. (omega arith, refl)),
            (λ j x _ ne e some_given. absurd (ne (((r.seats j x e).given some_given).1 ∙ sym g.1))),
          ))

      pub joins : p.waits ≡ false → p.serves ≡ false → p.spent ≡ false → q.waits ≡ false → q.serves ≡ false → q.spent ≡ false → Joins (Ordered fits opened) id p other q (taking_in p q) gone
      joins idle off_turn live idle_q off_q live_q s o at apart after =
          let serving : ℕ = o.0 in
          let log : List Entry = o.2 in
          let r : Rule fits opened s serving o.1 log = o.3 in
          let both : SeatState = taking_in p q in
          let ps : List SeatState = set s.views id both in
          let qs : List SeatState = set ps other gone in
          let there : get_elem? s.views other ≡ some q = sym (set_else s.views id other both apart) ∙ after in
          let mine = r.seats id p at in
          let theirs = r.seats other q there in
          let k = new_keeper s serving o.1 log r at there apart in
          let keeper : ℕ = k.0 in
          let long : length qs ≡ length s.views = length-set ps other gone ∙ length-set s.views id both in
          let first_set : waiting ps + one_if p.waits ≡ waiting s.views + one_if p.waits = waiting_set s.views id p both at in
          let second_set : waiting qs + one_if q.waits ≡ waiting ps + 0 = waiting_set ps other q gone after in
          let none_of : one_if q.waits ≡ 0 = ap one_if idle_q in
          let as_many : waiting qs ≡ waiting s.views = omega arith in
          let past = λ (a : Past) (h : PastFits opened s.views log a). past_set opened ps other q gone log a after live_q (past_set opened s.views id p both log a at live h) in
          let l = longest log p.view.seen q.view.seen mine.prefix theirs.prefix in
          let theirs_past : PastFits opened qs log (past_of q.view) = record {
            opened_as = theirs.opened_as live_q;
            prefix = theirs.prefix;
            made = ap (λ n. entries_of n log) (theirs.number live_q) ∙ theirs.made live_q;
            gone = (gone, ap (λ n. get_elem? qs n) (theirs.number live_q) ∙ set_here ps other gone (inside ps other q after), refl);
          } in (
            serving,
            keeper,
            log,
            record {
              words = r.words;
              ticket_word = r.ticket_word ∙ ap (λ n. (serving + n) % turn) (sym as_many);
              serving_word = r.serving_word;
              count_word = r.count_word;
              few = subst (λ n. n < 4294967296) (sym long) r.few;
              seats = each_set (SeatFits opened qs serving keeper log) ps other gone
                  (record {
                    prefix = (log, refl);
                    recalled = ([], refl);
                    in_line = λ w. absurd (off refl w);
                    on_turn = λ w. absurd (off refl w);
                    over = λ _. (refl, refl);
                    number = λ w. absurd (off w refl);
                    opened_as = λ w. absurd (off w refl);
                    made = λ w. absurd (off w refl);
                    given = λ h. absurd (omega arith);
                    first = λ w. absurd (off w refl);
                    joined = tt;
                  })
                  (λ i y away there_at. each_set (λ j x. j ≢ other → SeatFits opened qs serving keeper log j x) s.views id both
                  (λ _. record {
                    prefix = l.0;
                    recalled = l.1;
                    in_line = λ w. absurd (off idle w);
                    on_turn = λ w. absurd (off off_turn w);
                    over = λ w. absurd (off live w);
                    number = mine.number;
                    opened_as = mine.opened_as;
                    made = mine.made;
                    given = λ h. let g = k.1 h in (g.0 ∙ sym long, g.1);
                    first = λ w is. let some_given : 0 < p.view.given = mine.first w is in omega arith;
                    joined = all_join (PastFits opened qs log) p.view.joined (past_of q.view ∷ q.view.joined) (all_map (PastFits opened s.views log) (PastFits opened qs log) past p.view.joined mine.joined)
                        (theirs_past, all_map (PastFits opened s.views log) (PastFits opened qs log) past q.view.joined theirs.joined);
                  })
                  (λ j x ne e ne'. let f = r.seats j x e in
                  carried opened s.views qs serving serving o.1 keeper log log j x f
                  (λ w. subst (λ n. (serving ≤ x.ticket) × (x.ticket < serving + n)) (sym as_many) (f.in_line w)) f.on_turn f.prefix (λ _. refl)
                  (λ h. let g = k.2 j x ne ne' e h in (g.0 ∙ sym long, g.1)) past)
                  i y there_at away);
              apart = apart_set ps other gone (apart_set s.views id both r.apart (λ w. absurd (off idle w))) (λ w. absurd (off refl w));
              known = subst (λ n. AllByRecursion (λ (e : Entry). e.seat < n) log) (sym long) r.known;
              value = λ none. r.value (none_before s.views id p both at off_turn (none_before ps other q gone after off_q none));
            },
          )

    -- the last seat: each other was joined in, so the value is in the slot
    pub closes : (ws : List ℕ) (xs : List (Option T)) → p.serves ≡ false → p.spent ≡ false → 0 < p.view.given → ((k : ℕ) → k < p.view.given → k ≢ p.view.number → HasJoined k p.view)
        → Final (Seen (Ordered fits opened) id p) ws xs → (value : T) × (log : List Entry) × (get_elem? xs 0 ≡ some (Some value)) × IsWhole fits value p.view log
    closes ws xs off_turn live some_given all end =
        let s = end.0 in
        let o = end.1.0 in
        let at = end.1.1 in
        let log : List Entry = o.2 in
        let r : Rule fits opened s o.0 o.1 log = o.3 in
        let mine = r.seats id p at in
        let count : p.view.given ≡ length s.views = (mine.given some_given).0 in
        let v = r.value (λ i x e. dite (ℕ_discrete i id)
        (λ is. subst (λ (y : SeatState). y.serves ≡ false) (one_there s.views id p x at (subst (λ k. get_elem? s.views k ≡ some x) is e)) off_turn)
        (λ ne.
        let within : i < length s.views = inside s.views i x e in
        let h = all i (omega arith) (λ is. ne (is ∙ mine.number live)) in
        let g = (all_at (PastFits opened s.views log) p.view.joined mine.joined h.0 h.1 h.2).gone in
        let same : g.0 ≡ x = one_there s.views i g.0 x (subst (λ k. get_elem? s.views k ≡ some g.0) h.3 g.1) e in
        ((r.seats i x e).over (subst (λ (y : SeatState). y.spent ≡ true) same g.2)).1)) in (
          v.0,
          log,
          end.4 0 (Some v.0) v.1,
          record {
            fit = subst (λ z. fits v.0 z log) (sym (mine.opened_as live)) v.2;
            own = (mine.prefix, ap (λ n. entries_of n log) (mine.number live) ∙ mine.made live);
            joined = all_map (PastFits opened s.views log) (λ (a : Past). StandsIn log a.number a.seen a.made) (λ a f. (f.prefix, f.made)) p.view.joined mine.joined;
            opened_as = one_opening opened s.views log p.view (mine.opened_as live) mine.joined;
            known = subst (λ n. AllByRecursion (λ (e : Entry). e.seat < n) log) (sym count) r.known;
          },
        )

at_behind : (xs ys : List Past) (k : ℕ) (a : Past) → get_elem? ys k ≡ some a → (i : ℕ) × (get_elem? (xs ++ ys) i ≡ some a)
at_behind [] ys k a e = (k, e)
at_behind (x ∷ xs) ys k a e = let m = at_behind xs ys k a e in (suc m.0, m.1)

-- a seat that takes another in keeps it, and whom either had joined
pub joined_kept : (v w : View) (k : ℕ) → (k ≡ w.number) ⊎ (HasJoined k v ⊎ HasJoined k w) → HasJoined k (joined_with v w)
joined_kept v w k h =
    let more : List Past = past_of w ∷ w.joined in
    ⊎_elim
    (λ (is : k ≡ w.number). let m = at_behind v.joined more 0 (past_of w) refl in (m.0, past_of w, m.1, sym is))
    (λ (t : HasJoined k v ⊎ HasJoined k w). ⊎_elim
    (λ (a : HasJoined k v). (a.0, a.1, at_longer v.joined more a.0 a.1 a.2, a.3))
    (λ (b : HasJoined k w). let m = at_behind v.joined more (suc b.0) b.1 b.2 in (m.0, b.1, m.1, b.3))
    t)
    h

-- and both are of one opening
pub joined_opening : (v w : View) → OneOpening (joined_with v w) → w.opened ≡ v.opened
joined_opening v w h =
    let m = at_behind v.joined (past_of w ∷ w.joined) 0 (past_of w) refl in
    all_at (λ (p : Past). p.opened ≡ v.opened) (v.joined ++ (past_of w ∷ w.joined)) h m.0 (past_of w) m.1
