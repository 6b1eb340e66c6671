use Rattle.std.proofs.Common.{◌≡◌, ℕ, zero, suc, ◌+◌, ◌-◌, ◌<◌, ◌≤◌, nat_le, nat_lt, Bool, true, false, cond, List, [], ◌∷◌, ◌++◌, length, take, drop, get_or, set, Option, Some, None, IsSome, sym, refl, ap, ◌∙◌, subst, arith, slice_get}
use Rattle.std.specs.Option.{option_and_then}
use Rattle.std.proofs.Math.Seq.{drop-append_seam, take-set-lt}
use Rattle.std.proofs.lemmas.List.{append-nil, append_assoc, length-append, length-take-le, get_or-take, take_all, take-append-le, drop-append-le, length-drop, length-take, drop-take, take-take, take-append-drop}
use Rattle.std.proofs.lemmas.Option.{cond_some}
use Rattle.std.proofs.lemmas.Bool.{and_from, leb-true, le-leb, lt-ltb, ltb-true, and_parts as and_both}
use Rattle.chunk_region.specs.declared.span.Span.{Span}
use Rattle.chunk_region.specs.declared.mark.Mark.{Mark}
use Rattle.chunk_region.specs.Pages.{Pages, span_bytes, part_of, Stands, has_room, on_last_page, mark_of, cut, cut_page, cut_pages, place_on, write_on_last, IsLater, IsLaterPage, IsBeforeMark, IsWritten, Keeps, WritesOn, behind}

page_itself : (pages : Pages) (page : List ℕ) → IsLaterPage pages page page
page_itself [] page = ([], sym (append-nil page))
page_itself (next ∷ pages) page = refl

pub later_itself : (pages : Pages) → IsLater pages pages
later_itself [] = tt
later_itself (page ∷ pages) = (page_itself pages page, later_itself pages)

-- a new page may come at the end
pub later_placed : (pages : Pages) (bytes : List ℕ) → IsLater pages (pages ++ bytes ∷ [])
later_placed [] bytes = tt
later_placed (page ∷ pages) bytes = (page_itself pages page, later_placed pages bytes)

page_steps : (ps qs : Pages) (p q r : List ℕ) → IsLater ps qs → IsLaterPage ps p q → IsLaterPage qs q r → IsLaterPage ps p r
page_steps [] [] p q r _ m n = (m.0 ++ n.0, n.1 ∙ ap (λ l. l ++ n.0) m.1 ∙ append_assoc p m.0 n.0)
page_steps [] (_ ∷ _) p q r _ m same = (m.0, same ∙ m.1)
page_steps (_ ∷ _) [] p q r none _ _ = absurd none
page_steps (_ ∷ _) (_ ∷ _) p q r _ same again = again ∙ same

pub later_steps : (old middle new : Pages) → IsLater old middle → IsLater middle new → IsLater old new
later_steps [] middle new _ _ = tt
later_steps (p ∷ ps) [] new none _ = absurd none
later_steps (p ∷ ps) (q ∷ qs) [] _ none = absurd none
later_steps (p ∷ ps) (q ∷ qs) (r ∷ rs) first second =
    (page_steps ps qs p q r first.1 first.0 second.0, later_steps ps qs rs first.1 second.1)

pub comes_back : (old new : Pages) → IsLater old new → cut_pages (length old) (on_last_page old) new ≡ old
comes_back [] new _ = refl
comes_back (p ∷ ps) [] none = absurd none
comes_back (p ∷ []) (q ∷ qs) later = ap (λ l. l ∷ []) (ap (λ l. take (length p) l) later.0.1 ∙ front p later.0.0)
  where
    front : (xs ys : List ℕ) → take (length xs) (xs ++ ys) ≡ xs
    front xs ys = take-append-le (length xs) xs ys (omega arith) ∙ take_all (length xs) xs (omega arith)
comes_back (p ∷ n ∷ ps) (q ∷ qs) later = cons p q _ _ later.0 (comes_back (n ∷ ps) qs later.1)
  where
    cons : (x y : List ℕ) (xs ys : Pages) → y ≡ x → ys ≡ xs → y ∷ ys ≡ x ∷ xs
    cons x y xs ys e f = ap (λ l. l ∷ ys) e ∙ ap (λ l. x ∷ l) f

-- what is written on a page stays where the page goes on
part_longer : (start len : ℕ) (page more bytes : List ℕ) → part_of start len page ≡ Some bytes → part_of start len (page ++ more) ≡ Some bytes
part_longer start len page more bytes held =
    let parts = cond_some _ _ _ held in
    let within = leb-true (start + len) (length page) parts.0 in
    let longer = length-append page more in
    let fits : start + len ≤ length (page ++ more) = omega arith in
    let rest = length-drop start page in
    let short : len ≤ length (drop start page) = omega arith in
    let front : start ≤ length page = omega arith in
    let same : take len (drop start (page ++ more)) ≡ bytes =
    ap (take len) (drop-append-le start page more front) ∙ take-append-le len (drop start page) more short ∙ parts.1 in
    ap (λ b. cond b (Some (take len (drop start (page ++ more)))) None) (le-leb (start + len) (length (page ++ more)) fits) ∙ ap Some same

page_keeps : (pages : Pages) (start len : ℕ) (old new bytes : List ℕ) → IsLaterPage pages old new → part_of start len old ≡ Some bytes → part_of start len new ≡ Some bytes
page_keeps [] start len old new bytes more held =
    let P : List ℕ → Type 0 = λ l. part_of start len l ≡ Some bytes in
    subst P (sym more.1) (part_longer start len old more.0 bytes held)
page_keeps (_ ∷ _) start len old new bytes same held =
    let P : List ℕ → Type 0 = λ l. part_of start len l ≡ Some bytes in subst P (sym same) held

part_keeps : (old new : Pages) (at start len : ℕ) (bytes : List ℕ) → IsLater old new → option_and_then (part_of start len) (slice_get old at) ≡ Some bytes
    → option_and_then (part_of start len) (slice_get new at) ≡ Some bytes
part_keeps [] new at start len bytes _ held = cc
part_keeps (p ∷ ps) [] at start len bytes none _ = absurd none
part_keeps (p ∷ ps) (q ∷ qs) zero start len bytes later held = page_keeps ps start len p q bytes later.0 held
part_keeps (p ∷ ps) (q ∷ qs) (suc at) start len bytes later held = part_keeps ps qs at start len bytes later.1 held

pub later_stands : (old new : Pages) (span : Span) (bytes : List ℕ) → IsLater old new → Stands old span bytes → Stands new span bytes
later_stands old new span bytes later held = part_keeps old new span.page span.start span.len bytes later held

-- a page put at the end is found by its number
placed_at : (pages : Pages) (bytes : List ℕ) → slice_get (pages ++ bytes ∷ []) (length pages) ≡ Some bytes
placed_at [] bytes = refl
placed_at (page ∷ pages) bytes = placed_at pages bytes

whole_page : (bytes : List ℕ) → part_of 0 (length bytes) bytes ≡ Some bytes
whole_page bytes =
    let fits : 0 + length bytes ≤ length bytes = omega arith in
    ap (λ b. cond b (Some (take (length bytes) bytes)) None) (le-leb (0 + length bytes) (length bytes) fits) ∙ ap Some (take_all (length bytes) bytes (omega arith))

pub placed_stands : (pages : Pages) (bytes : List ℕ) (at : ℕ) → at ≡ length pages → Stands (pages ++ bytes ∷ []) (record { page = at; start = 0; len = length bytes }) bytes
placed_stands pages bytes at is =
    let P : ℕ → Type 0 = λ n. option_and_then (part_of 0 (length bytes)) (slice_get (pages ++ bytes ∷ []) n) ≡ Some bytes in
    subst P (sym is) (ap (option_and_then (part_of 0 (length bytes))) (placed_at pages bytes) ∙ whole_page bytes)

-- a mark past the last page keeps all
pub cut_short : (pages : Pages) (n last : ℕ) → length pages < n → cut_pages n last pages ≡ pages
cut_short pages zero last short = absurd (omega arith)
cut_short [] (suc n) last short = refl
cut_short (page ∷ pages) (suc zero) last short = absurd (omega arith)
cut_short (page ∷ pages) (suc (suc n)) last short = ap (λ l. page ∷ l) (cut_short pages (suc n) last (omega arith))

-- a mark within the pages keeps so many, with the last of them cut
pub cut_last : (pages : Pages) (n last : ℕ) (page : List ℕ) → n < length pages → page ≡ get_or pages n page → cut_pages (suc n) last pages ≡ set (take (suc n) pages) n (take last page)
cut_last [] n last page within is = absurd (omega arith)
cut_last (p ∷ pages) zero last page within is = ap (λ l. take last l ∷ []) (sym is)
cut_last (p ∷ pages) (suc n) last page within is = ap (λ l. p ∷ l) (cut_last pages n last page (omega arith) is)

pub last_is : (pages : Pages) (n : ℕ) (page : List ℕ) → length pages ≡ suc n → page ≡ get_or pages n page → on_last_page pages ≡ length page
last_is [] n page is _ = absurd (omega arith)
last_is (p ∷ []) zero page _ is = ap length (sym is)
last_is (p ∷ []) (suc n) page is _ = absurd (omega arith)
last_is (p ∷ q ∷ pages) zero page is _ = absurd (omega arith)
last_is (p ∷ q ∷ pages) (suc n) page count is = last_is (q ∷ pages) n page (omega arith) is

pub is_written : (pages : Pages) (span : Span) (bytes : List ℕ) → Stands pages span bytes → IsWritten pages span
is_written pages span bytes held = rw held refl

-- the last of so many pages
pub last_taken : (pages : Pages) (used : ℕ) (page : List ℕ) → (used ≡ 0 → ⊥) → used ≤ length pages → page ≡ get_or pages (used - 1) page
    → on_last_page (take used pages) ≡ length page
last_taken pages zero page some _ _ = absurd (some refl)
last_taken pages (suc n) page _ within is =
    let before : suc n - 1 ≡ n = omega arith in
    let P : ℕ → Type 0 = λ k. page ≡ get_or pages k page in
    last_is (take (suc n) pages) n page (length-take-le (suc n) pages within) (subst P before is ∙ sym (get_or-take (suc n) pages n page (omega arith)))

-- so many pages, with the last of them cut
pub cut_taken_last : (pages : Pages) (used last : ℕ) (page cut_one : List ℕ) → (used ≡ 0 → ⊥) → used ≤ length pages → page ≡ get_or pages (used - 1) page
    → cut_one ≡ take last page → take used (set pages (used - 1) cut_one) ≡ cut_pages used last pages
cut_taken_last pages zero last page cut_one some _ _ _ = absurd (some refl)
cut_taken_last pages (suc n) last page cut_one _ within is cut_is =
    let before : suc n - 1 ≡ n = omega arith in
    let P : ℕ → Type 0 = λ k. page ≡ get_or pages k page in
    ap (λ k. take (suc n) (set pages k cut_one)) before ∙ take-set-lt (suc n) pages n cut_one (omega arith)
    ∙ ap (λ b. set (take (suc n) pages) n b) cut_is ∙ sym (cut_last pages n last page (omega arith) (subst P before is))

-- what is cut of more pages is cut of the first ones
pub cut_of_taken : (pages : Pages) (n used last : ℕ) → n ≤ used → cut_pages n last (take used pages) ≡ cut_pages n last pages
cut_of_taken pages zero used last _ = refl
cut_of_taken [] (suc n) zero last within = absurd (omega arith)
cut_of_taken [] (suc n) (suc used) last within = refl
cut_of_taken (p ∷ pages) (suc n) zero last within = absurd (omega arith)
cut_of_taken (p ∷ pages) (suc n) (suc used) last within = ap (λ l. cut_page n last p ∷ l) (cut_of_taken pages n used last (omega arith))

-- ---- writing on the last page

pub used_some : (pages : Pages) (used : ℕ) → 0 < length (take used pages) → used ≡ 0 → ⊥
used_some pages zero some _ = omega arith
used_some pages (suc n) some is = omega arith

pub room_is : (more : ℕ) (pages : Pages) → has_room more pages ≡ true → (0 < length pages) × (on_last_page pages + more ≤ 65536)
room_is more pages is =
    let parts = and_both (nat_lt 0 (length pages)) (nat_le (on_last_page pages + more) 65536) is in
    (ltb-true 0 (length pages) parts.0, leb-true (on_last_page pages + more) 65536 parts.1)

pub written_last : (pages : Pages) (n : ℕ) (page bytes : List ℕ) → n + 1 ≡ length pages → page ≡ get_or pages n page → set pages n (page ++ bytes) ≡ write_on_last bytes pages
written_last [] n page bytes count is = absurd (omega arith)
written_last (p ∷ []) zero page bytes count is = ap (λ l. (l ++ bytes) ∷ []) is
written_last (p ∷ []) (suc n) page bytes count is = absurd (omega arith)
written_last (p ∷ q ∷ pages) zero page bytes count is = absurd (omega arith)
written_last (p ∷ q ∷ pages) (suc n) page bytes count is = ap (λ l. p ∷ l) (written_last (q ∷ pages) n page bytes (omega arith) is)

pub written_taken : (pages : Pages) (used : ℕ) (page bytes written : List ℕ) → (used ≡ 0 → ⊥) → used ≤ length pages → page ≡ get_or pages (used - 1) page
    → written ≡ page ++ bytes → take used (set pages (used - 1) written) ≡ write_on_last bytes (take used pages)
written_taken pages zero page bytes written some _ _ _ = absurd (some refl)
written_taken pages (suc n) page bytes written _ within is here =
    let before : suc n - 1 ≡ n = omega arith in
    let count = length-take-le (suc n) pages within in
    let P : ℕ → Type 0 = λ k. page ≡ get_or pages k page in
    ap (λ k. take (suc n) (set pages k written)) before ∙ take-set-lt (suc n) pages n written (omega arith) ∙ ap (set (take (suc n) pages) n) here
    ∙ written_last (take (suc n) pages) n page bytes (omega arith) (subst P before is ∙ sym (get_or-take (suc n) pages n page (omega arith)))

pub later_written : (pages : Pages) (bytes : List ℕ) → IsLater pages (write_on_last bytes pages)
later_written [] bytes = tt
later_written (p ∷ []) bytes = ((bytes, refl), tt)
later_written (p ∷ q ∷ pages) bytes = (refl, later_written (q ∷ pages) bytes)

part_after : (page bytes : List ℕ) → part_of (length page) (length bytes) (page ++ bytes) ≡ Some bytes
part_after page bytes =
    let longer = length-append page bytes in
    let fits : length page + length bytes ≤ length (page ++ bytes) = omega arith in
    ap (λ b. cond b (Some (take (length bytes) (drop (length page) (page ++ bytes)))) None) (le-leb (length page + length bytes) (length (page ++ bytes)) fits)
    ∙ ap (λ l. Some (take (length bytes) l)) (drop-append_seam page bytes) ∙ ap Some (take_all (length bytes) bytes (omega arith))

part_written : (pages : Pages) (n : ℕ) (bytes : List ℕ) → n + 1 ≡ length pages
    → option_and_then (part_of (on_last_page pages) (length bytes)) (slice_get (write_on_last bytes pages) n) ≡ Some bytes
part_written [] n bytes count = absurd (omega arith)
part_written (p ∷ []) zero bytes count = part_after p bytes
part_written (p ∷ []) (suc n) bytes count = absurd (omega arith)
part_written (p ∷ q ∷ pages) zero bytes count = absurd (omega arith)
part_written (p ∷ q ∷ pages) (suc n) bytes count = part_written (q ∷ pages) n bytes (omega arith)

pub written_stands : (pages : Pages) (bytes : List ℕ) (span : Span) → 0 < length pages
    → span ≡ record { page = length pages - 1; start = on_last_page pages; len = length bytes } → Stands (write_on_last bytes pages) span bytes
written_stands pages bytes span some is =
    let P : Span → Type 0 = λ s. Stands (write_on_last bytes pages) s bytes in
    subst P (sym is) (part_written pages (length pages - 1) bytes (omega arith))

-- on a page that was just taken
pub written_new : (pages : Pages) (bytes : List ℕ) → write_on_last bytes (pages ++ [] ∷ []) ≡ pages ++ bytes ∷ []
written_new [] bytes = refl
written_new (p ∷ []) bytes = refl
written_new (p ∷ q ∷ pages) bytes = ap (λ l. p ∷ l) (written_new (q ∷ pages) bytes)

last_new : (pages : Pages) → on_last_page (pages ++ [] ∷ []) ≡ 0
last_new [] = refl
last_new (p ∷ []) = refl
last_new (p ∷ q ∷ pages) = last_new (q ∷ pages)

pub room_new : (more : ℕ) (pages : Pages) → more ≤ 65536 → has_room more (pages ++ [] ∷ []) ≡ true
room_new more pages fits =
    let count = length-append pages ([] ∷ []) in
    let last = last_new pages in
    let some : 0 < length (pages ++ [] ∷ []) = omega arith in
    let short : on_last_page (pages ++ [] ∷ []) + more ≤ 65536 = omega arith in
    and_from (nat_lt 0 (length (pages ++ [] ∷ []))) (nat_le (on_last_page (pages ++ [] ∷ []) + more) 65536) (lt-ltb 0 (length (pages ++ [] ∷ [])) some)
    (le-leb (on_last_page (pages ++ [] ∷ []) + more) 65536 short)

-- placing is to write on the last page, of those that there are or with a new one
placed_case : (t : Bool) (bytes : List ℕ) (pages opened : Pages) → opened ≡ cond t pages (pages ++ [] ∷ [])
    → write_on_last bytes opened ≡ cond t (write_on_last bytes pages) (pages ++ bytes ∷ [])
placed_case true bytes pages opened is = ap (write_on_last bytes) is
placed_case false bytes pages opened is = ap (write_on_last bytes) is ∙ written_new pages bytes

pub placed_is : (bytes : List ℕ) (pages opened : Pages) → opened ≡ cond (has_room (length bytes) pages) pages (pages ++ [] ∷ [])
    → write_on_last bytes opened ≡ place_on bytes pages
placed_is bytes pages opened is = placed_case (has_room (length bytes) pages) bytes pages opened is

later_case : (t : Bool) (bytes : List ℕ) (pages : Pages) → IsLater pages (cond t (write_on_last bytes pages) (pages ++ bytes ∷ []))
later_case true bytes pages = later_written pages bytes
later_case false bytes pages = later_placed pages bytes

pub later_place : (bytes : List ℕ) (pages : Pages) → IsLater pages (place_on bytes pages)
later_place bytes pages = later_case (has_room (length bytes) pages) bytes pages

-- ---- the pages in use, and free ones behind them

part_taken : (pages : Pages) (used at start len : ℕ) (bytes : List ℕ) → option_and_then (part_of start len) (slice_get (take used pages) at) ≡ Some bytes
    → option_and_then (part_of start len) (slice_get pages at) ≡ Some bytes
part_taken pages zero at start len bytes held = cc
part_taken [] (suc used) at start len bytes held = held
part_taken (p ∷ pages) (suc used) zero start len bytes held = held
part_taken (p ∷ pages) (suc used) (suc at) start len bytes held = part_taken pages used at start len bytes held

pub taken_stands : (pages : Pages) (used : ℕ) (span : Span) (bytes : List ℕ) → Stands (take used pages) span bytes → Stands pages span bytes
taken_stands pages used span bytes held = part_taken pages used span.page span.start span.len bytes held

some_is : (o : Option (List ℕ)) → IsSome o → (x : List ℕ) × (o ≡ Some x)
some_is None none = absurd (cc)
some_is (Some x) _ = (x, refl)

pub taken_written : (pages : Pages) (used : ℕ) (span : Span) → IsWritten (take used pages) span → IsWritten pages span
taken_written pages used span written =
    let found = some_is (span_bytes (take used pages) span) written in
    is_written pages span found.0 (taken_stands pages used span found.0 found.1)

pub stands_taken : (pages : Pages) (used : ℕ) (span : Span) (bytes : List ℕ) → IsWritten (take used pages) span → Stands pages span bytes → Stands (take used pages) span bytes
stands_taken pages used span bytes written held =
    let found = some_is (span_bytes (take used pages) span) written in
    found.1 ∙ sym (taken_stands pages used span found.0 found.1) ∙ held

-- a part of a page ends where the page does, or before
part_ends : (start len : ℕ) (page bytes : List ℕ) → part_of start len page ≡ Some bytes → start + len ≤ length page
part_ends start len page bytes held = leb-true (start + len) (length page) (cond_some _ _ _ held).0

-- a part that ends before a cut is there after it
part_cut : (start len last : ℕ) (page bytes : List ℕ) → start + len ≤ last → part_of start len page ≡ Some bytes → part_of start len (take last page) ≡ Some bytes
part_cut start len last page bytes before held =
    let parts = cond_some _ _ _ held in
    let within = leb-true (start + len) (length page) parts.0 in
    let kept = length-take last page in
    let fits : start + len ≤ length (take last page) = omega arith in
    let at : start + (last - start) ≡ last = omega arith in
    let short : len ≤ last - start = omega arith in
    let P : ℕ → Type 0 = λ n. take len (drop start (take n page)) ≡ bytes in
    let same : take len (drop start (take last page)) ≡ bytes =
    subst P at (ap (take len) (drop-take start (last - start) page) ∙ take-take len (last - start) (drop start page) short ∙ parts.1) in
    ap (λ b. cond b (Some (take len (drop start (take last page)))) None) (le-leb (start + len) (length (take last page)) fits) ∙ ap Some same

-- and what is there after a cut was there before
part_uncut : (start len last : ℕ) (page bytes : List ℕ) → part_of start len (take last page) ≡ Some bytes → part_of start len page ≡ Some bytes
part_uncut start len last page bytes held =
    let P : List ℕ → Type 0 = λ l. part_of start len l ≡ Some bytes in
    subst P (take-append-drop last page) (part_longer start len (take last page) (drop last page) bytes held)

ends_in : (pages : Pages) (at start len : ℕ) (bytes : List ℕ) → option_and_then (part_of start len) (slice_get pages at) ≡ Some bytes
    → (at < length pages) × (at + 1 ≡ length pages → start + len ≤ on_last_page pages)
ends_in [] at start len bytes held = cc
ends_in (p ∷ []) zero start len bytes held = (omega arith, λ _. part_ends start len p bytes held)
ends_in (p ∷ []) (suc at) start len bytes held = cc
ends_in (p ∷ q ∷ pages) zero start len bytes held = (omega arith, λ e. absurd (omega arith))
ends_in (p ∷ q ∷ pages) (suc at) start len bytes held =
    let more = ends_in (q ∷ pages) at start len bytes held in
    (let h = more.0 in omega arith, λ e. more.1 (omega arith))

stays_in : (pages : Pages) (n last at start len : ℕ) (bytes : List ℕ) → at < n → (at + 1 ≡ n → start + len ≤ last)
    → option_and_then (part_of start len) (slice_get pages at) ≡ Some bytes
    → option_and_then (part_of start len) (slice_get (cut_pages n last pages) at) ≡ Some bytes
stays_in pages zero last at start len bytes before end held = absurd (omega arith)
stays_in [] (suc n) last at start len bytes before end held = held
stays_in (p ∷ pages) (suc zero) last zero start len bytes before end held = part_cut start len last p bytes (end (omega arith)) held
stays_in (p ∷ pages) (suc (suc n)) last zero start len bytes before end held = held
stays_in (p ∷ pages) (suc n) last (suc at) start len bytes before end held =
    stays_in pages n last at start len bytes (omega arith) (λ e. end (omega arith)) held

stood_in : (pages : Pages) (n last at start len : ℕ) (bytes : List ℕ)
    → option_and_then (part_of start len) (slice_get (cut_pages n last pages) at) ≡ Some bytes
    → option_and_then (part_of start len) (slice_get pages at) ≡ Some bytes
stood_in pages zero last at start len bytes held = cc
stood_in [] (suc n) last at start len bytes held = held
stood_in (p ∷ pages) (suc zero) last zero start len bytes held = part_uncut start len last p bytes held
stood_in (p ∷ pages) (suc (suc n)) last zero start len bytes held = held
stood_in (p ∷ pages) (suc n) last (suc at) start len bytes held = stood_in pages n last at start len bytes held

pub ends_at : (pages : Pages) (span : Span) (bytes : List ℕ) → Stands pages span bytes → IsBeforeMark (mark_of pages) span
ends_at pages span bytes held = ends_in pages span.page span.start span.len bytes held

pub stays : (pages : Pages) (mark : Mark) (span : Span) (bytes : List ℕ) → IsBeforeMark mark span → Stands pages span bytes → Stands (cut mark pages) span bytes
stays pages mark span bytes before held = stays_in pages mark.pages mark.last span.page span.start span.len bytes before.0 before.1 held

pub stood : (pages : Pages) (mark : Mark) (span : Span) (bytes : List ℕ) → Stands (cut mark pages) span bytes → Stands pages span bytes
stood pages mark span bytes held = stood_in pages mark.pages mark.last span.page span.start span.len bytes held

-- ---- pages behind others

front_at : (xs ys : Pages) (at start len : ℕ) (bytes : List ℕ) → option_and_then (part_of start len) (slice_get xs at) ≡ Some bytes
    → option_and_then (part_of start len) (slice_get (xs ++ ys) at) ≡ Some bytes
front_at [] ys at start len bytes held = cc
front_at (x ∷ xs) ys zero start len bytes held = held
front_at (x ∷ xs) ys (suc at) start len bytes held = front_at xs ys at start len bytes held

-- what stands on pages stands there with others behind them
pub front_keeps : (xs ys : Pages) → Keeps xs (xs ++ ys)
front_keeps xs ys span bytes held = front_at xs ys span.page span.start span.len bytes held

behind_get : (xs ys : Pages) (at : ℕ) → slice_get (xs ++ ys) (at + length xs) ≡ slice_get ys at
behind_get [] ys at = let none : at + 0 ≡ at = omega arith in ap (slice_get ys) none
behind_get (x ∷ xs) ys at =
    let next : at + suc (length xs) ≡ suc (at + length xs) = omega arith in
    ap (slice_get (x ∷ xs ++ ys)) next ∙ behind_get xs ys at

-- what stands on pages stands there with others before them, so many pages further on
pub behind_is : (xs ys : Pages) (span : Span) → span_bytes (xs ++ ys) (behind (length xs) span) ≡ span_bytes ys span
behind_is xs ys span = ap (option_and_then (part_of span.start span.len)) (behind_get xs ys span.page)

page_within : (pages : Pages) (at start len : ℕ) → IsSome (option_and_then (part_of start len) (slice_get pages at)) → at < length pages
page_within [] at start len none = cc
page_within (p ∷ pages) zero start len some = omega arith
page_within (p ∷ pages) (suc at) start len some = let rest = page_within pages at start len some in omega arith

pub written_within : (pages : Pages) (span : Span) → IsWritten pages span → span.page < length pages
written_within pages span some = page_within pages span.page span.start span.len some

pub writes_on : WritesOn
writes_on = record {
  itself = later_itself;
  in_steps = later_steps;
  keeps = λ old new later span bytes held. later_stands old new span bytes later held;
  comes_back = comes_back;
  all_before = ends_at;
  stays = stays;
  none_new = stood;
  is_written = is_written;
}
