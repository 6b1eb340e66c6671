-- Each step of a turn keeps the gate's rule.
use Rattle.std.proofs.Common.{◌==◌, ◌≡◌, ℕ, ◌+◌, ◌%◌, ◌<◌, ◌≤◌, ◌≢◌, true, false, List, [], ◌∷◌, ◌++◌, length, get_or, set, Option, Some, refl, sym, ap, ◌∙◌, subst, arith, length-set, length-append, append-nil, get_or-set_same, get_or-set_other}
use native.Mathlib.Nat.{mod-add-mod}
use native.Mathlib.Decide.{ℕ_discrete}
use mathlib.Core.Logic.{dite}
use mathlib.Core.Option.{some}
use lib.ListN.{get_elem?}
use lib.Seq.{set-get_or}
use Rattle.std.specs.List.{AllByRecursion}
use Rattle.std.proofs.lemmas.Bool.{false_from_ne_true as not_true}
use prog.Atomic.{either}
use Rattle.atomic_table.specs.Table.{State, Me, Act, Valid, keeps, takes, gives, stepped, carried_after, Allows}
use Rattle.atomic_table.proofs.Lists.{exchanged, set_again, set_here, one_turn}
use Rattle.seat_gate.specs.History.{Spelling, Entry, Past, entries_of, StartsWith}
use Rattle.seat_gate.specs.Places.{drawn, served, marked, done}
use Rattle.seat_gate.specs.Rule.{turn, waiting, PastFits, SeatFits, Rule, Ordered, Drew, DrewWhere, Looked, Rose, Recalled}
use Rattle.seat_gate.specs.declared.place.SeatState.{SeatState}
use Rattle.seat_gate.proofs.HistoryLemmas.{starts_more, entries_mine, entries_other, all_map, all_join}
use Rattle.seat_gate.proofs.PlaceLemmas.{off, inside, one_there, each_set, one_if, waiting_few, waiting_set, apart_set, past_set, past_more, one_opening, none_before}

-- a seat that a step of another leaves as it is
pub carried : (opened : Spelling) (ps qs : List SeatState) (serving serving' keeper keeper' : ℕ) (log log' : List Entry) (j : ℕ) (p : SeatState)
    → SeatFits opened ps serving keeper log j p
    → (p.waits ≡ true → (serving' ≤ p.ticket) × (p.ticket < serving' + waiting qs))
    → (p.serves ≡ true → (p.waits ≡ true) × (p.ticket ≡ serving') × (p.view.seen ≡ log'))
    → StartsWith log' p.view.seen
    → (p.spent ≡ false → entries_of j log' ≡ entries_of j log)
    → (0 < p.view.given → (p.view.given ≡ length qs) × (j ≡ keeper'))
    → ((past : Past) → PastFits opened ps log past → PastFits opened qs log' past)
    → SeatFits opened qs serving' keeper' log' j p
carried opened ps qs serving serving' keeper keeper' log log' j p f line on prefix same given past = record {
  prefix = prefix;
  recalled = f.recalled;
  in_line = line;
  on_turn = on;
  over = f.over;
  number = f.number;
  opened_as = f.opened_as;
  made = λ live. same live ∙ f.made live;
  given = given;
  first = f.first;
  joined = all_map (PastFits opened ps log) (PastFits opened qs log') past p.view.joined f.joined;
}

pub given_set : (opened : Spelling) (ps : List SeatState) (serving keeper : ℕ) (log : List Entry) (id : ℕ) (q : SeatState) (j : ℕ) (p : SeatState)
    → SeatFits opened ps serving keeper log j p → 0 < p.view.given → (p.view.given ≡ length (set ps id q)) × (j ≡ keeper)
given_set opened ps serving keeper log id q j p f some_given = let g = f.given some_given in (g.0 ∙ sym (length-set ps id q), g.1)

module _ {T : Type 0} (fits : T → Spelling → List Entry → Type 0) (opened : Spelling) (slots id : ℕ) (m : Me (Option T) SeatState) where
  abbrev Fits : List SeatState → ℕ → ℕ → List Entry → ℕ → SeatState → Type 0
  Fits = SeatFits opened

  -- a word goes up by one, as the number does for which it stands
  raised : (words : List ℕ) (i n : ℕ) → i < length words → get_or words i 0 ≡ n % turn → get_or (set words i ((get_or words i 0 + 1) % turn)) i 0 ≡ (n + 1) % turn
  raised words i n lt is = get_or-set_same words i ((get_or words i 0 + 1) % turn) 0 lt ∙ (ap (λ k. (k + 1) % turn) is ∙ mod-add-mod n turn 1)

  -- only one seat has its turn
  alone : (s : State (Option T) SeatState) (serving keeper : ℕ) (log : List Entry) → Rule fits opened s serving keeper log → get_elem? s.views id ≡ some m.0 → m.0.waits ≡ true → m.0.ticket ≡ serving
      → (j : ℕ) (p : SeatState) → get_elem? s.views j ≡ some p → p.serves ≡ true → j ≡ id
  alone s serving keeper log r at waits here j p e on =
      let f = (r.seats j p e).on_turn on in
      r.apart j id p m.0 e at f.0 waits (f.1 ∙ sym here)

  pub draws : m.0.waits ≡ false → m.0.serves ≡ false → m.0.spent ≡ false → Allows (Ordered fits opened) slots id m 0 (λ n. (n + 1) % turn) (λ n w. Drew m n w)
  draws idle off_turn live s o _ at _ =
      let serving : ℕ = o.0 in
      let keeper : ℕ = o.1 in
      let log : List Entry = o.2 in
      let r : Rule fits opened s serving keeper log = o.3 in
      let p : SeatState = m.0 in
      let ticket : ℕ = serving + waiting s.views in
      let q : SeatState = drawn ticket p in
      let qs : List SeatState = set s.views id q in
      let x : ℕ = (get_or s.words 0 0 + 1) % turn in
      let long = r.words in
      let none_of : one_if p.waits ≡ 0 = ap one_if idle in
      let set_of : waiting qs + one_if p.waits ≡ waiting s.views + 1 = waiting_set s.views id p q at in
      let more : waiting qs ≡ waiting s.views + 1 = omega arith in
      let mine = r.seats id p at in
      let given = given_set opened s.views serving keeper log id q in
      let past = λ (a : Past) (h : PastFits opened s.views log a). past_set opened s.views id p q log a at live h in (
        q,
        keeps,
        tt,
        (
          serving,
          keeper,
          log,
          record {
            words = length-set s.words 0 x ∙ long;
            ticket_word = raised s.words 0 ticket (omega arith) r.ticket_word ∙ ap (λ n. n % turn) (omega arith);
            serving_word = get_or-set_other s.words 0 1 x 0 (λ e. omega arith) ∙ r.serving_word;
            count_word = get_or-set_other s.words 0 2 x 0 (λ e. omega arith) ∙ r.count_word;
            few = subst (λ n. n < 4294967296) (sym (length-set s.views id q)) r.few;
            seats = each_set (Fits qs serving keeper log) s.views id q
                (record {
                  prefix = mine.prefix;
                  recalled = mine.recalled;
                  in_line = λ _. (omega arith, omega arith);
                  on_turn = λ on. absurd (off off_turn on);
                  over = λ gone. absurd (off live gone);
                  number = mine.number;
                  opened_as = mine.opened_as;
                  made = mine.made;
                  given = given id p mine;
                  first = mine.first;
                  joined = all_map (PastFits opened s.views log) (PastFits opened qs log) past p.view.joined mine.joined;
                })
                (λ j y _ e. let f = r.seats j y e in
                carried opened s.views qs serving serving keeper keeper log log j y f
                (λ w. let l = f.in_line w in (l.0, let lt = l.1 in omega arith)) f.on_turn f.prefix (λ _. refl) (given j y f) past);
            apart = apart_set s.views id q r.apart (λ _ j y _ e w same. let l = (r.seats j y e).in_line w in let lt = l.1 in omega arith);
            known = subst (λ n. AllByRecursion (λ (e : Entry). e.seat < n) log) (sym (length-set s.views id q)) r.known;
            value = λ none. r.value (none_before s.views id p q at off_turn none);
          },
        ),
        (ticket, refl, r.ticket_word),
      )

  -- a read leaves the state as it is
  abbrev Same : (i : ℕ) → State (Option T) SeatState → Type 0
  Same i s = stepped s i (get_or s.words i 0) id m.1 m.0 keeps ≡ s

  same : (i : ℕ) (s : State (Option T) SeatState) → get_elem? s.views id ≡ some m.0 → Same i s
  same i s at = λ k. record { words = set-get_or s.words i 0 k; homes = s.homes; views = set_again s.views id m.0 at k }

  pub tries : m.0.waits ≡ false → m.0.serves ≡ false → m.0.spent ≡ false → (wanted : ℕ)
      → Allows (Ordered fits opened) slots id m 0 (λ n. either (n == wanted) ((wanted + 1) % turn) n) (λ n w. DrewWhere wanted m n w)
  tries idle off_turn live wanted s o long at low =
      let found : ℕ = get_or s.words 0 0 in
      exchanged found wanted ((wanted + 1) % turn)
      (λ n. (w : SeatState) × (a : Act (Option T)) × Valid s.homes m.1 a × Ordered fits opened (stepped s 0 n id m.1 w a) × DrewWhere wanted m found (w, carried_after m.1 a))
      (λ hit.
      let drew = draws idle off_turn live s o long at low in
      (drew.0, drew.1, drew.2, subst (λ n. Ordered fits opened (stepped s 0 ((n + 1) % turn) id m.1 drew.0 drew.1)) hit drew.3, ((λ _. drew.4), (λ missed. absurd (missed hit)))))
      (λ missed. (m.0, keeps, tt, subst (Ordered fits opened) (sym (same 0 s at)) o, ((λ hit. absurd (missed hit)), (λ _. refl))))

  turn_comes : m.0.waits ≡ true → m.0.serves ≡ false → (s : State (Option T) SeatState) (serving keeper : ℕ) (log : List Entry) → Rule fits opened s serving keeper log
      → get_elem? s.views id ≡ some m.0 → get_or s.words 1 0 ≡ m.0.ticket % turn
      → (value : T) × (get_elem? s.homes 0 ≡ some (some (Some value))) × fits value opened log × (m.0.ticket ≡ serving)
  turn_comes waits off_turn s serving keeper log r at found =
      let p : SeatState = m.0 in
      let mine = r.seats id p at in
      let line = mine.in_line waits in
      let low : serving ≤ p.ticket = line.0 in
      let high : p.ticket < serving + waiting s.views = line.1 in
      let few : waiting s.views ≤ length s.views = waiting_few s.views in
      let most : length s.views < 4294967296 = r.few in
      let here : serving ≡ p.ticket = one_turn serving p.ticket turn low (omega arith) (sym r.serving_word ∙ found) in
      let v = r.value (λ j u e. not_true u.serves (λ on.
      let is : j ≡ id = alone s serving keeper log r at waits (sym here) j u e on in
      off off_turn (subst (λ (y : SeatState). y.serves ≡ true) (one_there s.views id u p (subst (λ k. get_elem? s.views k ≡ some u) is e) at) on))) in
      (v.0, v.1, v.2, sym here)

  takes_turn : m.0.waits ≡ true → m.0.serves ≡ false → (s : State (Option T) SeatState) (serving keeper : ℕ) (log : List Entry) → Rule fits opened s serving keeper log
      → get_elem? s.views id ≡ some m.0 → (value : T) → m.0.ticket ≡ serving
      → Rule fits opened (stepped s 1 (get_or s.words 1 0) id m.1 (served log m.0) (takes 0 (Some value))) serving keeper log
  takes_turn waits off_turn s serving keeper log r at value here =
      let p : SeatState = m.0 in
      let q : SeatState = served log p in
      let qs : List SeatState = set s.views id q in
      let x : ℕ = get_or s.words 1 0 in
      let long = r.words in
      let mine = r.seats id p at in
      let live : p.spent ≡ false = not_true p.spent (λ gone. off (mine.over gone).0 waits) in
      let set_of : waiting qs + one_if p.waits ≡ waiting s.views + one_if p.waits = waiting_set s.views id p q at in
      let as_many : waiting qs ≡ waiting s.views = omega arith in
      let given = given_set opened s.views serving keeper log id q in
      let past = λ (a : Past) (h : PastFits opened s.views log a). past_set opened s.views id p q log a at live h in
      let line = λ (y : SeatState) (l : (serving ≤ y.ticket) × (y.ticket < serving + waiting s.views)). subst (λ n. (serving ≤ y.ticket) × (y.ticket < serving + n)) (sym as_many) l in
      record {
        words = length-set s.words 1 x ∙ long;
        ticket_word = get_or-set_other s.words 1 0 x 0 (λ e. omega arith) ∙ (r.ticket_word ∙ ap (λ n. (serving + n) % turn) (sym as_many));
        serving_word = get_or-set_same s.words 1 x 0 (omega arith) ∙ r.serving_word;
        count_word = get_or-set_other s.words 1 2 x 0 (λ e. omega arith) ∙ r.count_word;
        few = subst (λ n. n < 4294967296) (sym (length-set s.views id q)) r.few;
        seats = each_set (Fits qs serving keeper log) s.views id q
            (record {
              prefix = ([], sym (append-nil log));
              recalled = (log, refl);
              in_line = λ w. line p (mine.in_line w);
              on_turn = λ _. (waits, here, refl);
              over = λ gone. absurd (off live gone);
              number = mine.number;
              opened_as = mine.opened_as;
              made = mine.made;
              given = given id p mine;
              first = mine.first;
              joined = all_map (PastFits opened s.views log) (PastFits opened qs log) past p.view.joined mine.joined;
            })
            (λ j y _ e. let f = r.seats j y e in
            carried opened s.views qs serving serving keeper keeper log log j y f (λ w. line y (f.in_line w)) f.on_turn f.prefix (λ _. refl) (given j y f) past);
        apart = apart_set s.views id q r.apart (λ _ j y ne e w equal. ne (r.apart j id y p e at w waits (sym equal)));
        known = subst (λ n. AllByRecursion (λ (e : Entry). e.seat < n) log) (sym (length-set s.views id q)) r.known;
        value = λ none. absurd (off (none id q (set_here s.views id q (inside s.views id p at))) refl);
      }

  pub looks : m.0.waits ≡ true → m.0.serves ≡ false → Allows (Ordered fits opened) slots id m 1 (λ n. n) (λ n w. Looked fits m n w)
  looks waits off_turn s o _ at _ =
      let serving : ℕ = o.0 in
      let keeper : ℕ = o.1 in
      let log : List Entry = o.2 in
      let r : Rule fits opened s serving keeper log = o.3 in
      dite (ℕ_discrete (get_or s.words 1 0) (m.0.ticket % turn))
      (λ found.
      let mine = r.seats id m.0 at in
      let live : m.0.spent ≡ false = not_true m.0.spent (λ gone. off (mine.over gone).0 waits) in
      let v = turn_comes waits off_turn s serving keeper log r at found in (
        served log m.0,
        takes 0 (Some v.0),
        v.1,
        (serving, keeper, log, takes_turn waits off_turn s serving keeper log r at v.0 v.3),
        (
          (λ _. (
            v.0,
            log,
            refl,
            subst (λ o. fits v.0 o log) (sym (mine.opened_as live)) v.2,
            mine.prefix,
            subst (λ k. entries_of k log ≡ m.0.view.made) (sym (mine.number live)) (mine.made live),
          )),
          (λ ne. absurd (ne found)),
        ),
      ))
      (λ ne. (m.0, keeps, tt, subst (Ordered fits opened) (sym (same 1 s at)) o, ((λ found. absurd (ne found)), (λ _. refl))))

  -- a bed's word may be whatever it is
  lain : (s : State (Option T) SeatState) (serving keeper : ℕ) (log : List Entry) (i x : ℕ) → 3 ≤ i → Rule fits opened s serving keeper log
      → Rule fits opened (record { words = set s.words i x; homes = s.homes; views = s.views }) serving keeper log
  lain s serving keeper log i x behind r = record {
    words = length-set s.words i x ∙ r.words;
    ticket_word = get_or-set_other s.words i 0 x 0 (λ e. omega arith) ∙ r.ticket_word;
    serving_word = get_or-set_other s.words i 1 x 0 (λ e. omega arith) ∙ r.serving_word;
    count_word = get_or-set_other s.words i 2 x 0 (λ e. omega arith) ∙ r.count_word;
    few = r.few;
    seats = r.seats;
    apart = r.apart;
    known = r.known;
    value = r.value;
  }

  pub lies : (i : ℕ) (f : ℕ → ℕ) → 3 ≤ i → Allows (Ordered fits opened) slots id m i f (λ _ w. w ≡ m)
  lies i f behind s o _ at _ =
      let x : ℕ = f (get_or s.words i 0) in
      let as_it_was : stepped s i x id m.1 m.0 keeps ≡ record { words = set s.words i x; homes = s.homes; views = s.views }
      = λ k. record { words = set s.words i x; homes = s.homes; views = set_again s.views id m.0 at k } in
      (m.0, keeps, tt, subst (Ordered fits opened) (sym as_it_was) (o.0, o.1, o.2, lain s o.0 o.1 o.2 i x behind o.3), refl)

  pub recalls : m.0.spent ≡ false → Allows (Ordered fits opened) slots id m 0 (λ n. n) (λ _ w. Recalled m w)
  recalls live s o _ at _ =
      let serving : ℕ = o.0 in
      let keeper : ℕ = o.1 in
      let log : List Entry = o.2 in
      let r : Rule fits opened s serving keeper log = o.3 in
      let mine = r.seats id m.0 at in
      (m.0, keeps, tt, subst (Ordered fits opened) (sym (same 0 s at)) o, (refl, mine.recalled, one_opening opened s.views log m.0.view (mine.opened_as live) mine.joined))

  pub writes : (e : Entry) → m.0.serves ≡ true → e.seat ≡ m.0.view.number → Allows (Ordered fits opened) slots id m 2 (λ n. (n + 1) % turn) (λ _ w. w ≡ (marked e m.0, m.1))
  writes e on own s o _ at _ =
      let serving : ℕ = o.0 in
      let keeper : ℕ = o.1 in
      let log : List Entry = o.2 in
      let r : Rule fits opened s serving keeper log = o.3 in
      let p : SeatState = m.0 in
      let q : SeatState = marked e p in
      let qs : List SeatState = set s.views id q in
      let log' : List Entry = log ++ e ∷ [] in
      let x : ℕ = (get_or s.words 2 0 + 1) % turn in
      let long = r.words in
      let mine = r.seats id p at in
      let turns = mine.on_turn on in
      let live : p.spent ≡ false = not_true p.spent (λ gone. off (mine.over gone).1 on) in
      let is : e.seat ≡ id = own ∙ mine.number live in
      let set_of : waiting qs + one_if p.waits ≡ waiting s.views + one_if p.waits = waiting_set s.views id p q at in
      let as_many : waiting qs ≡ waiting s.views = omega arith in
      let given = given_set opened s.views serving keeper log id q in
      let past = λ (a : Past) (h : PastFits opened s.views log a). past_set opened s.views id p q log' a at live (past_more opened s.views id p log e a at live is h) in
      let line = λ (y : SeatState) (l : (serving ≤ y.ticket) × (y.ticket < serving + waiting s.views)). subst (λ n. (serving ≤ y.ticket) × (y.ticket < serving + n)) (sym as_many) l in
      let within : id < length s.views = inside s.views id p at in (
        q,
        keeps,
        tt,
        (
          serving,
          keeper,
          log',
          record {
            words = length-set s.words 2 x ∙ long;
            ticket_word = get_or-set_other s.words 2 0 x 0 (λ e. omega arith) ∙ (r.ticket_word ∙ ap (λ n. (serving + n) % turn) (sym as_many));
            serving_word = get_or-set_other s.words 2 1 x 0 (λ e. omega arith) ∙ r.serving_word;
            count_word = raised s.words 2 (length log) (omega arith) r.count_word ∙ ap (λ n. n % turn) (sym (length-append log (e ∷ [])));
            few = subst (λ n. n < 4294967296) (sym (length-set s.views id q)) r.few;
            seats = each_set (Fits qs serving keeper log') s.views id q
                (record {
                  prefix = ([], ap (λ l. l ++ e ∷ []) (sym turns.2) ∙ sym (append-nil (p.view.seen ++ e ∷ [])));
                  recalled = (p.view.seen ++ e ∷ [], refl);
                  in_line = λ w. line p (mine.in_line w);
                  on_turn = λ _. (turns.0, turns.1, ap (λ l. l ++ e ∷ []) turns.2);
                  over = λ gone. absurd (off live gone);
                  number = mine.number;
                  opened_as = mine.opened_as;
                  made = λ _. entries_mine id log e is ∙ ap (λ l. l ++ e ∷ []) (mine.made live);
                  given = given id p mine;
                  first = mine.first;
                  joined = all_map (PastFits opened s.views log) (PastFits opened qs log') past p.view.joined mine.joined;
                })
                (λ j y ne f_at. let f = r.seats j y f_at in
                carried opened s.views qs serving serving keeper keeper log log' j y f (λ w. line y (f.in_line w))
                (λ serves. absurd (ne (alone s serving keeper log r at turns.0 turns.1 j y f_at serves)))
                (starts_more log (e ∷ []) y.view.seen f.prefix) (λ _. entries_other j log e (λ k. ne (sym k ∙ is))) (given j y f) past);
            apart = apart_set s.views id q r.apart (λ _ j y ne f_at w equal. ne (r.apart j id y p f_at at w turns.0 (sym equal)));
            known = subst (λ n. AllByRecursion (λ (a : Entry). a.seat < n) log') (sym (length-set s.views id q))
                (all_join (λ (a : Entry). a.seat < length s.views) log (e ∷ []) r.known (subst (λ k. k < length s.views) (sym is) within, tt));
            value = λ none. absurd (off (none id q (set_here s.views id q within)) on);
          },
        ),
        refl,
      )

  gives_turn : (value : T) → m.0.serves ≡ true → fits value m.0.view.opened m.0.view.seen → (s : State (Option T) SeatState) (serving keeper : ℕ) (log : List Entry) → Rule fits opened s serving keeper log
      → get_elem? s.views id ≡ some m.0 → length s.homes ≡ 1
      → Rule fits opened (stepped s 1 ((get_or s.words 1 0 + 1) % turn) id ((0, Some value) ∷ []) (done m.0) gives) (serving + 1) keeper log
  gives_turn value on fit s serving keeper log r at wide =
      let p : SeatState = m.0 in
      let q : SeatState = done p in
      let qs : List SeatState = set s.views id q in
      let x : ℕ = (get_or s.words 1 0 + 1) % turn in
      let long = r.words in
      let mine = r.seats id p at in
      let turns = mine.on_turn on in
      let live : p.spent ≡ false = not_true p.spent (λ gone. off (mine.over gone).1 on) in
      let one_of : one_if p.waits ≡ 1 = ap one_if turns.0 in
      let set_of : waiting qs + one_if p.waits ≡ waiting s.views + 0 = waiting_set s.views id p q at in
      let fewer : waiting qs + 1 ≡ waiting s.views = omega arith in
      let given = given_set opened s.views serving keeper log id q in
      let past = λ (a : Past) (h : PastFits opened s.views log a). past_set opened s.views id p q log a at live h in
      record {
        words = length-set s.words 1 x ∙ long;
        ticket_word = get_or-set_other s.words 1 0 x 0 (λ e. omega arith) ∙ (r.ticket_word ∙ ap (λ n. n % turn) (omega arith));
        serving_word = raised s.words 1 serving (omega arith) r.serving_word;
        count_word = get_or-set_other s.words 1 2 x 0 (λ e. omega arith) ∙ r.count_word;
        few = subst (λ n. n < 4294967296) (sym (length-set s.views id q)) r.few;
        seats = each_set (Fits qs (serving + 1) keeper log) s.views id q
            (record {
              prefix = mine.prefix;
              recalled = mine.recalled;
              in_line = λ w. absurd (off refl w);
              on_turn = λ w. absurd (off refl w);
              over = λ gone. absurd (off live gone);
              number = mine.number;
              opened_as = mine.opened_as;
              made = mine.made;
              given = given id p mine;
              first = mine.first;
              joined = all_map (PastFits opened s.views log) (PastFits opened qs log) past p.view.joined mine.joined;
            })
            (λ j y ne e. let f = r.seats j y e in
            carried opened s.views qs serving (serving + 1) keeper keeper log log j y f
            (λ w. let l = f.in_line w in
            let low : serving ≤ y.ticket = l.0 in
            let high : y.ticket < serving + waiting s.views = l.1 in
            let later : y.ticket ≢ serving = λ is. ne (r.apart j id y p e at w turns.0 (is ∙ sym turns.1)) in
            let later' : serving < y.ticket = omega arith in
            (omega arith, omega arith))
            (λ serves. absurd (ne (alone s serving keeper log r at turns.0 turns.1 j y e serves)))
            f.prefix (λ _. refl) (given j y f) past);
        apart = apart_set s.views id q r.apart (λ w. absurd (off refl w));
        known = subst (λ n. AllByRecursion (λ (e : Entry). e.seat < n) log) (sym (length-set s.views id q)) r.known;
        value = λ _. (value, set_here s.homes 0 (some (Some value)) (omega arith), subst (λ (z : Spelling × List Entry). fits value z.0 z.1) (λ i. (mine.opened_as live i, turns.2 i)) fit);
      }

pub rises : {T : Type 0} (fits : T → Spelling → List Entry → Type 0) (opened : Spelling) (slots id : ℕ) (m : Me (Option T) SeatState) → slots ≡ 1 → m.0.serves ≡ true
    → (value : T) → m.1 ≡ (0, Some value) ∷ [] → fits value m.0.view.opened m.0.view.seen → Allows (Ordered fits opened) slots id m 1 (λ n. (n + 1) % turn) (λ _ w. Rose m w)
rises {T} fits opened slots id m one on value out fit =
    let me : Me (Option T) SeatState = (m.0, (0, Some value) ∷ []) in
    let is : me ≡ m = λ i. (m.0, sym out i) in
    let at_me : Allows (Ordered fits opened) slots id me 1 (λ n. (n + 1) % turn) (λ _ w. Rose me w) = λ s o wide at _.
    (done m.0, gives, tt, (o.0 + 1, o.1, o.2, gives_turn fits opened slots id me value on fit s o.0 o.1 o.2 o.3 at (wide ∙ one)), refl) in
    subst (λ (x : Me (Option T) SeatState). Allows (Ordered fits opened) slots id x 1 (λ n. (n + 1) % turn) (λ _ w. Rose x w)) is at_me
