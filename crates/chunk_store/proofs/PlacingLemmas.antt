use Rattle.std.proofs.Common.{◌≡◌, ℕ, zero, suc, Bool, true, false, cond, List, [], ◌∷◌, ◌++◌, take, Option, Some, None, IsSome, is_some, option_map, unwrap_or, sym, refl, ap, ◌∙◌, subst, slice_get, bytes_eq}
use Rattle.std.specs.List.{AllByRecursion}
use Rattle.std.proofs.lemmas.List.{map-append, take-map}
use Rattle.std.proofs.lemmas.Option.{slice_get-map, same_Some}
use Rattle.tuple_codec.proofs.ByteLemmas.{same_bytes, bytes_same}
use Rattle.tuple_codec.proofs.Lists.{have_at as all_get}
use Rattle.chunk_region.specs.declared.span.Span.{Span}
use Rattle.chunk_region.specs.declared.mark.Mark.{Mark}
use Rattle.chunk_region.specs.Pages as region
use Rattle.chunk_region.specs.Pages.{Pages, Stands, IsWritten, IsBeforeMark, Keeps, KeepsBefore, AllBefore}
use Rattle.chunk_region.proofs.PageLemmas.{is_written}
use Rattle.chunk_store.specs.declared.index.Placed.{Placed}
use Rattle.chunk_store.specs.Chunks.{Chunk, chunk_bytes, IsSingle}
use Rattle.chunk_store.specs.Placing.{span_at, AreApart, IsIndex, written, chunk_of, chunks_in, AllWritten, InOrder}
use Rattle.chunk_store.proofs.ChunkLemmas.{listed_is, listed_at}

-- ---- each of a list

pub all_push : {X : Type 0} (P : X → Type 0) (xs : List X) (x : X) → AllByRecursion P xs → P x → AllByRecursion P (xs ++ x ∷ [])
all_push P [] x all is = (is, tt)
all_push P (y ∷ ys) x all is = (all.0, all_push P ys x all.1 is)

pub all_take : {X : Type 0} (P : X → Type 0) (n : ℕ) (xs : List X) → AllByRecursion P xs → AllByRecursion P (take n xs)
all_take P zero xs all = tt
all_take P (suc n) [] all = tt
all_take P (suc n) (x ∷ xs) all = (all.0, all_take P n xs all.1)

-- ---- finding by address

other_way : (a b : List ℕ) → bytes_eq a b ≡ false → bytes_eq b a ≡ false
other_way a b apart = by_test (bytes_eq b a) refl
  where
    by_test : (t : Bool) → bytes_eq b a ≡ t → t ≡ false
    by_test false is = refl
    by_test true is = let wrong : bytes_eq a b ≡ true = bytes_same a b (sym (same_bytes b a is)) in cc

absent_case : (t : Bool) (s : Span) (o : Option Span) → cond t (Some s) o ≡ None → (t ≡ false) × (o ≡ None)
absent_case true s o none = cc
absent_case false s o none = (refl, none)

absent_from : (t : Bool) (s : Span) (o : Option Span) → t ≡ false → o ≡ None → cond t (Some s) o ≡ None
absent_from true s o is none = cc
absent_from false s o is none = none

push_case : (p q : Bool) (x y : Span) (s t : Option Span) → (p ≡ true → q ≡ false) → s ≡ cond q (Some y) t
    → cond p (Some x) s ≡ cond q (Some y) (cond p (Some x) t)
push_case true true x y s t apart is = let wrong : true ≡ false = apart refl in cc
push_case true false x y s t apart is = refl
push_case false q x y s t apart is = is

pub span_push : (cs : List Placed) (c : Placed) (k : List ℕ) → span_at cs c.address.0 ≡ None
    → span_at (cs ++ c ∷ []) k ≡ cond (bytes_eq c.address.0 k) (Some c.span) (span_at cs k)
span_push [] c k absent = refl
span_push (d ∷ ds) c k absent =
    let parts = absent_case (bytes_eq d.address.0 c.address.0) d.span (span_at ds c.address.0) absent in
    push_case (bytes_eq d.address.0 k) (bytes_eq c.address.0 k) d.span c.span (span_at (ds ++ c ∷ []) k) (span_at ds k)
    (λ here. subst (λ (j : List ℕ). bytes_eq c.address.0 j ≡ false) (same_bytes d.address.0 k here) (other_way d.address.0 c.address.0 parts.0))
    (span_push ds c k parts.1)

pub absent_both : (xs ys : List Placed) (k : List ℕ) → span_at xs k ≡ None → span_at ys k ≡ None → span_at (xs ++ ys) k ≡ None
absent_both [] ys k one two = two
absent_both (x ∷ xs) ys k one two =
    let parts = absent_case (bytes_eq x.address.0 k) x.span (span_at xs k) one in
    absent_from (bytes_eq x.address.0 k) x.span (span_at (xs ++ ys) k) parts.0 (absent_both xs ys k parts.1 two)

pub absent_each : (xs ys : List Placed) (k : List ℕ) → span_at (xs ++ ys) k ≡ None → (span_at xs k ≡ None) × (span_at ys k ≡ None)
absent_each [] ys k none = (refl, none)
absent_each (x ∷ xs) ys k none =
    let parts = absent_case (bytes_eq x.address.0 k) x.span (span_at (xs ++ ys) k) none in
    let rest = absent_each xs ys k parts.1 in
    (absent_from (bytes_eq x.address.0 k) x.span (span_at xs k) parts.0 rest.0, rest.1)

pub absent_get : (cs : List Placed) (n : ℕ) (c : Placed) (k : List ℕ) → span_at cs k ≡ None → slice_get cs n ≡ Some c → bytes_eq c.address.0 k ≡ false
absent_get [] n c k none is = cc
absent_get (d ∷ ds) zero c k none is =
    ap (λ (e : Placed). bytes_eq e.address.0 k) (sym (same_Some d c is)) ∙ (absent_case (bytes_eq d.address.0 k) d.span (span_at ds k) none).0
absent_get (d ∷ ds) (suc n) c k none is = absent_get ds n c k (absent_case (bytes_eq d.address.0 k) d.span (span_at ds k) none).1 is

pub apart_front : (xs ys : List Placed) → AreApart (xs ++ ys) → AreApart xs
apart_front [] ys apart = tt
apart_front (x ∷ xs) ys apart = ((absent_each xs ys x.address.0 apart.0).0, apart_front xs ys apart.1)

pub apart_last : (xs : List Placed) (c : Placed) → AreApart (xs ++ c ∷ []) → span_at xs c.address.0 ≡ None
apart_last [] c apart = refl
apart_last (x ∷ xs) c apart =
    let last = (absent_each xs (c ∷ []) x.address.0 apart.0).1 in
    let other = (absent_case (bytes_eq c.address.0 x.address.0) c.span None last).0 in
    absent_from (bytes_eq x.address.0 c.address.0) x.span (span_at xs c.address.0) (other_way c.address.0 x.address.0 other) (apart_last xs c apart.1)

pub apart_push : (xs : List Placed) (c : Placed) → AreApart xs → span_at xs c.address.0 ≡ None → AreApart (xs ++ c ∷ [])
apart_push [] c apart absent = (refl, tt)
apart_push (x ∷ xs) c apart absent =
    let parts = absent_case (bytes_eq x.address.0 c.address.0) x.span (span_at xs c.address.0) absent in (
      absent_both xs (c ∷ []) x.address.0 apart.0
          (absent_from (bytes_eq c.address.0 x.address.0) c.span None (other_way x.address.0 c.address.0 parts.0) refl),
      apart_push xs c apart.1 parts.1,
    )

pub apart_get : (cs : List Placed) (n : ℕ) (c : Placed) → AreApart cs → slice_get cs n ≡ Some c → span_at (take n cs) c.address.0 ≡ None
apart_get [] n c apart is = cc
apart_get (d ∷ ds) zero c apart is = refl
apart_get (d ∷ ds) (suc n) c apart is =
    absent_from (bytes_eq d.address.0 c.address.0) d.span (span_at (take n ds) c.address.0)
    (other_way c.address.0 d.address.0 (absent_get ds n c d.address.0 apart.0 is)) (apart_get ds n c apart.1 is)

-- the table after one more chunk
-- a table that was changed at a key, by the address that the key is
pub changed_at : (key k : List ℕ) (put : Option Span) (old new : List ℕ → Option Span) → key ≡ k
    → ((q : List ℕ) → new q ≡ cond (bytes_eq key q) put (old q)) → (q : List ℕ) → new q ≡ cond (bytes_eq k q) put (old q)
changed_at key k put old new same changed = subst (λ (x : List ℕ). (q : List ℕ) → new q ≡ cond (bytes_eq x q) put (old q)) same changed

pub index_push : (cs : List Placed) (c : Placed) (t : Bool) (old new : List ℕ → Option Span) → IsIndex cs t old → span_at cs c.address.0 ≡ None
    → ((k : List ℕ) → new k ≡ cond (bytes_eq c.address.0 k) (Some c.span) (old k)) → IsIndex (cs ++ c ∷ []) t new
index_push cs c t old new index absent puts = record {
  finds = λ table k. puts k ∙ ap (λ o. cond (bytes_eq c.address.0 k) (Some c.span) o) (index.finds table k) ∙ sym (span_push cs c k absent);
  apart = apart_push cs c index.apart absent;
}

pop_case : (t : Bool) (s : Span) (o : Option Span) → (t ≡ true → o ≡ None) → cond t None (cond t (Some s) o) ≡ o
pop_case true s o none = sym (none refl)
pop_case false s o none = refl

-- the table without the last chunk
pub index_pop : (cs : List Placed) (c : Placed) (t : Bool) (old new : List ℕ → Option Span) → IsIndex (cs ++ c ∷ []) t old
    → ((k : List ℕ) → new k ≡ cond (bytes_eq c.address.0 k) None (old k)) → IsIndex cs t new
index_pop cs c t old new index takes =
    let absent = apart_last cs c index.apart in
    record {
      finds = λ table k. takes k ∙ ap (λ o. cond (bytes_eq c.address.0 k) None o) (index.finds table k ∙ span_push cs c k absent)
          ∙ pop_case (bytes_eq c.address.0 k) c.span (span_at cs k)
          (λ here. ap (span_at cs) (sym (same_bytes c.address.0 k here)) ∙ absent);
      apart = apart_front cs (c ∷ []) index.apart;
    }

-- the table is another one that finds the same
pub index_same : (cs : List Placed) (t : Bool) (old new : List ℕ → Option Span) → IsIndex cs t old → ((k : List ℕ) → new k ≡ old k) → IsIndex cs t new
index_same cs t old new index same = record { finds = λ table k. same k ∙ index.finds table k; apart = index.apart }

restored_case : (t : Bool) (s other : Span) (o : Option Span) → (t ≡ true → o ≡ Some s) → cond t (Some s) (cond t (Some other) o) ≡ o
restored_case true s other o there = sym (there refl)
restored_case false s other o there = refl

-- the table after another span was put at an address, and what was there put back
pub index_restored : (cs : List Placed) (t : Bool) (k : List ℕ) (s other : Span) (old between new : List ℕ → Option Span) → IsIndex cs t old → old k ≡ Some s
    → ((q : List ℕ) → between q ≡ cond (bytes_eq k q) (Some other) (old q)) → ((q : List ℕ) → new q ≡ cond (bytes_eq k q) (Some s) (between q)) → IsIndex cs t new
index_restored cs t k s other old between new index there first second =
    index_same cs t old new index (λ q.
    second q ∙ ap (λ o. cond (bytes_eq k q) (Some s) o) (first q)
    ∙ restored_case (bytes_eq k q) s other (old q) (λ same. ap old (sym (same_bytes k q same)) ∙ there))

pub absent_span : (f : Span → List ℕ) (o : Option Span) → option_map f o ≡ None → o ≡ None
absent_span f None none = refl
absent_span f (Some s) none = cc

-- ---- bytes on pages

some_is : (o : Option (List ℕ)) → IsSome o → o ≡ Some (unwrap_or o [])
some_is None none = cc
some_is (Some x) _ = refl

pub written_stands : (pages : Pages) (span : Span) → IsWritten pages span → Stands pages span (written pages span)
written_stands pages span is = some_is (region.span_bytes pages span) is

pub written_is : (pages : Pages) (span : Span) (bytes : List ℕ) → Stands pages span bytes → written pages span ≡ bytes
written_is pages span bytes held = ap (λ o. unwrap_or o []) held

map_case : (t : Bool) (f : Span → List ℕ) (s : Span) (o : Option Span) → cond t (Some (f s)) (option_map f o) ≡ option_map f (cond t (Some s) o)
map_case true f s o = refl
map_case false f s o = refl

-- the bytes at an address are those that the chunk's span names
pub found_at : (pages : Pages) (cs : List Placed) (k : List ℕ) → chunk_bytes (chunks_in pages cs) k ≡ option_map (written pages) (span_at cs k)
found_at pages [] k = refl
found_at pages (c ∷ cs) k =
    ap (λ o. cond (bytes_eq c.address.0 k) (Some (written pages c.span)) o) (found_at pages cs k)
    ∙ map_case (bytes_eq c.address.0 k) (written pages) c.span (span_at cs k)

some_map : (f : Span → List ℕ) (o : Option Span) → is_some (option_map f o) ≡ is_some o
some_map f None = refl
some_map f (Some s) = refl

-- bytes are found just where a chunk lies
pub same_found : (pages : Pages) (cs : List Placed) (k : List ℕ) → is_some (chunk_bytes (chunks_in pages cs) k) ≡ is_some (span_at cs k)
same_found pages cs k = ap (λ (o : Option (List ℕ)). is_some o) (found_at pages cs k) ∙ some_map (written pages) (span_at cs k)

found_case : (t : Bool) (P : Span → Type 0) (s found : Span) (o : Option Span) → cond t (Some s) o ≡ Some found → P s → (o ≡ Some found → P found) → P found
found_case true P s found o is here later = let same : s ≡ found = cc in subst P same here
found_case false P s found o is here later = later is

pub found_written : (pages : Pages) (cs : List Placed) (k : List ℕ) (found : Span) → AllWritten pages cs → span_at cs k ≡ Some found → IsWritten pages found
found_written pages [] k found all is = cc
found_written pages (c ∷ cs) k found all is =
    found_case (bytes_eq c.address.0 k) (IsWritten pages) c.span found (span_at cs k) is all.0 (found_written pages cs k found all.1)

pub chunk_get : (pages : Pages) (cs : List Placed) (n : ℕ) (c : Placed) (bytes : List ℕ) → slice_get cs n ≡ Some c → Stands pages c.span bytes
    → slice_get (chunks_in pages cs) n ≡ Some (c.address.0, bytes)
chunk_get pages cs n c bytes is held =
    slice_get-map (chunk_of pages) cs n ∙ ap (option_map (chunk_of pages)) is ∙ ap (λ b. Some (c.address.0, b)) (written_is pages c.span bytes held)

pub chunk_found : (pages : Pages) (cs : List Placed) (n : ℕ) (c : Placed) (bytes : List ℕ) → IsSingle (chunks_in pages cs) → slice_get cs n ≡ Some c
    → Stands pages c.span bytes → chunk_bytes (chunks_in pages cs) c.address.0 ≡ Some bytes
chunk_found pages cs n c bytes single is held =
    listed_is (chunks_in pages cs) c.address.0 bytes single (listed_at (chunks_in pages cs) n c.address.0 bytes (chunk_get pages cs n c bytes is held))

-- no chunk before a place has the address of the one there
pub first_get : (pages : Pages) (cs : List Placed) (n : ℕ) (c : Placed) → AreApart cs → slice_get cs n ≡ Some c
    → chunk_bytes (take n (chunks_in pages cs)) c.address.0 ≡ None
first_get pages cs n c apart is =
    ap (λ l. chunk_bytes l c.address.0) (take-map (chunk_of pages) n cs) ∙ found_at pages (take n cs) c.address.0
    ∙ ap (option_map (written pages)) (apart_get cs n c apart is)

-- ---- pages that changed

-- what a chunk's span named it names
abbrev pub StaysAt : Pages → Pages → Placed → Type 0
StaysAt old new c = (bytes : List ℕ) → Stands old c.span bytes → Stands new c.span bytes

pub all_stay : (old new : Pages) (cs : List Placed) → Keeps old new → AllByRecursion (StaysAt old new) cs
all_stay old new [] keeps = tt
all_stay old new (c ∷ cs) keeps = (keeps c.span, all_stay old new cs keeps)

pub before_stay : (mark : Mark) (old new : Pages) (cs : List Placed) → KeepsBefore mark old new → AllByRecursion (λ c. IsBeforeMark mark c.span) cs → AllByRecursion (StaysAt old new) cs
before_stay mark old new [] keeps before = tt
before_stay mark old new (c ∷ cs) keeps before = (λ bytes. keeps c.span bytes before.0, before_stay mark old new cs keeps before.1)

pub kept_chunks : (old new : Pages) (cs : List Placed) → AllWritten old cs → AllByRecursion (StaysAt old new) cs → chunks_in new cs ≡ chunks_in old cs
kept_chunks old new [] all stay = refl
kept_chunks old new (c ∷ cs) all stay =
    let same = written_is new c.span (written old c.span) (stay.0 (written old c.span) (written_stands old c.span all.0)) in
    cons (c.address.0, written new c.span) (c.address.0, written old c.span) _ _ (ap (λ b. (c.address.0, b)) same) (kept_chunks old new cs all.1 stay.1)
  where
    cons : (x y : Chunk) (xs ys : List Chunk) → x ≡ y → xs ≡ ys → x ∷ xs ≡ y ∷ ys
    cons x y xs ys e f = ap (λ z. z ∷ xs) e ∙ ap (λ l. y ∷ l) f

pub kept_written : (old new : Pages) (cs : List Placed) → AllWritten old cs → AllByRecursion (StaysAt old new) cs → AllWritten new cs
kept_written old new [] all stay = tt
kept_written old new (c ∷ cs) all stay =
    (is_written new c.span (written old c.span) (stay.0 (written old c.span) (written_stands old c.span all.0)), kept_written old new cs all.1 stay.1)

-- one more chunk
pub chunks_push : (old new : Pages) (cs : List Placed) (c : Placed) (bytes : List ℕ) → AllWritten old cs → AllByRecursion (StaysAt old new) cs → Stands new c.span bytes
    → chunks_in new (cs ++ c ∷ []) ≡ chunks_in old cs ++ (c.address.0, bytes) ∷ []
chunks_push old new cs c bytes all stay held =
    map-append (chunk_of new) cs (c ∷ []) ∙ ap (λ l. l ++ chunk_of new c ∷ []) (kept_chunks old new cs all stay)
    ∙ ap (λ b. chunks_in old cs ++ (c.address.0, b) ∷ []) (written_is new c.span bytes held)

-- ---- order

pub marks_before : (mark : Mark) (pages : Pages) (cs : List Placed) → AllBefore mark pages → AllWritten pages cs → AllByRecursion (λ c. IsBeforeMark mark c.span) cs
marks_before mark pages [] before all = tt
marks_before mark pages (c ∷ cs) before all =
    (before c.span (written pages c.span) (written_stands pages c.span all.0), marks_before mark pages cs before all.1)

pub order_push : (cs : List Placed) (d : Placed) → InOrder cs → AllByRecursion (λ c. IsBeforeMark d.before c.span) cs → InOrder (cs ++ d ∷ [])
order_push [] d order before = (tt, tt)
order_push (c ∷ cs) d order before =
    (all_push (λ later. IsBeforeMark later.before c.span) cs d order.0 before.0, order_push cs d order.1 before.1)

pub order_take : (n : ℕ) (cs : List Placed) → InOrder cs → InOrder (take n cs)
order_take zero cs order = tt
order_take (suc n) [] order = tt
order_take (suc n) (c ∷ cs) order = (all_take (λ later. IsBeforeMark later.before c.span) n cs order.0, order_take n cs order.1)

pub order_get : (cs : List Placed) (n : ℕ) (d : Placed) → InOrder cs → slice_get cs n ≡ Some d → AllByRecursion (λ c. IsBeforeMark d.before c.span) (take n cs)
order_get [] n d order is = cc
order_get (c ∷ cs) zero d order is = tt
order_get (c ∷ cs) (suc n) d order is = (all_get (λ later. IsBeforeMark later.before c.span) cs n d order.0 is, order_get cs n d order.1 is)
