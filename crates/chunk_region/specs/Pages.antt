use Rattle.std.specs.Prelude.{◌≡◌, ℕ, zero, suc, ◌+◌, ◌<◌, ◌≤◌, nat_le, nat_lt, ◌&&◌, Bool, List, [], ◌∷◌, ◌++◌, length, take, drop, slice_get, Option, Some, None, IsSome, option_and_then, if◌then◌else◌}
use Rattle.chunk_region.specs.declared.span.Span.{Span}
use Rattle.chunk_region.specs.declared.mark.Mark.{Mark}

-- the bytes written on each page, in the order in which the pages were taken
abbrev pub Pages : Type 0
Pages = List (List ℕ)

-- the bytes of a page from one place on, so many of them, where that many are written there
abbrev pub part_of : ℕ → ℕ → List ℕ → Option (List ℕ)
part_of start len page = if nat_le (start + len) (length page) then Some (take len (drop start page)) else None

-- the bytes that a span names: None where nothing, or less, is written there
abbrev pub span_bytes : Pages → Span → Option (List ℕ)
span_bytes pages span = option_and_then (part_of span.start span.len) (slice_get pages span.page)

-- the span names these bytes
abbrev pub Stands : Pages → Span → List ℕ → Type 0
Stands pages span bytes = span_bytes pages span ≡ Some bytes

-- the span names some bytes
abbrev pub IsWritten : Pages → Span → Type 0
IsWritten pages span = IsSome (span_bytes pages span)

-- the span where so many pages come before those that it is of
abbrev pub behind : ℕ → Span → Span
behind pages span = record { page = span.page + pages; start = span.start; len = span.len }

-- how many bytes are written on the last page
abbrev pub on_last_page : Pages → ℕ
on_last_page [] = 0
on_last_page (page ∷ []) = length page
on_last_page (page ∷ next ∷ pages) = on_last_page (next ∷ pages)

-- so many bytes more have room on the last page, which holds 65,536
abbrev pub has_room : ℕ → Pages → Bool
has_room more pages = nat_lt 0 (length pages) && nat_le (on_last_page pages + more) 65536

-- the pages after bytes were written at the end of the last one
abbrev pub write_on_last : List ℕ → Pages → Pages
write_on_last bytes [] = []
write_on_last bytes (page ∷ []) = (page ++ bytes) ∷ []
write_on_last bytes (page ∷ next ∷ pages) = page ∷ write_on_last bytes (next ∷ pages)

-- the pages after a piece was placed: it lies on the last page where it has room there, and else on a page more
abbrev pub place_on : List ℕ → Pages → Pages
place_on bytes pages = if has_room (length bytes) pages then write_on_last bytes pages else pages ++ bytes ∷ []

-- the mark of a region with these pages: where its writing ends
abbrev pub mark_of : Pages → Mark
mark_of pages = record { pages = length pages; last = on_last_page pages }

-- a page, cut to so many bytes if no page of the kept ones comes after it
abbrev pub cut_page : ℕ → ℕ → List ℕ → List ℕ
cut_page zero last page = take last page
cut_page (suc more) last page = page

-- so many pages, and of the last of them so many bytes
abbrev pub cut_pages : ℕ → ℕ → Pages → Pages
cut_pages zero last pages = []
cut_pages (suc more) last [] = []
cut_pages (suc more) last (page ∷ pages) = cut_page more last page ∷ cut_pages more last pages

-- the pages up to a mark
abbrev pub cut : Mark → Pages → Pages
cut mark pages = cut_pages mark.pages mark.last pages

-- the span lies before the mark
abbrev pub IsBeforeMark : Mark → Span → Type 0
IsBeforeMark mark span = (span.page < mark.pages) × (span.page + 1 ≡ mark.pages → span.start + span.len ≤ mark.last)

-- a page as it was, or, if it was the last one, as the front of what it has become
abbrev pub IsLaterPage : Pages → List ℕ → List ℕ → Type 0
IsLaterPage [] old new = (more : List ℕ) × (new ≡ old ++ more)
IsLaterPage (next ∷ pages) old new = new ≡ old

-- pages after more was written: the last page may have gone on, and pages may have come after it
abbrev pub IsLater : Pages → Pages → Type 0
IsLater [] new = Unit {0}
IsLater (page ∷ pages) [] = ⊥
IsLater (page ∷ pages) (later ∷ new) = IsLaterPage pages page later × IsLater pages new

-- each span stands in the new pages for what it stood for in the old
abbrev pub Keeps : Pages → Pages → Type 0
Keeps old new = (span : Span) (bytes : List ℕ) → Stands old span bytes → Stands new span bytes

-- each span that stands lies before the mark
abbrev pub AllBefore : Mark → Pages → Type 0
AllBefore mark pages = (span : Span) (bytes : List ℕ) → Stands pages span bytes → IsBeforeMark mark span

-- each span before the mark stands in the new pages for what it stood for in the old
abbrev pub KeepsBefore : Mark → Pages → Pages → Type 0
KeepsBefore mark old new = (span : Span) (bytes : List ℕ) → IsBeforeMark mark span → Stands old span bytes → Stands new span bytes

-- the new pages are those at which the mark was taken, if the old ones came from them by writing on
abbrev pub LeadsBack : Mark → Pages → Pages → Type 0
LeadsBack mark old new = (before : Pages) → IsLater before old → mark ≡ mark_of before → new ≡ before

-- Writing on goes in steps and keeps what each span stands for, and the mark taken before leads back. A span that
-- stands lies before the mark taken then; where it lies before a mark it stays, and nothing new comes by going back.
pub record WritesOn : Type 0 where
  pub itself : (pages : Pages) → IsLater pages pages
  pub in_steps : (old middle new : Pages) → IsLater old middle → IsLater middle new → IsLater old new
  pub keeps : (old new : Pages) → IsLater old new → Keeps old new
  pub comes_back : (old new : Pages) → IsLater old new → cut (mark_of old) new ≡ old
  pub all_before : (pages : Pages) → AllBefore (mark_of pages) pages
  pub stays : (pages : Pages) (mark : Mark) → KeepsBefore mark pages (cut mark pages)
  pub none_new : (pages : Pages) (mark : Mark) → Keeps (cut mark pages) pages
  pub is_written : (pages : Pages) (span : Span) (bytes : List ℕ) → Stands pages span bytes → IsWritten pages span
