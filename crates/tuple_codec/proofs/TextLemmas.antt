-- Texts behind their length, and texts with their zero bytes escaped.
use Rattle.std.proofs.Common.{◌≡◌, ℕ, zero, suc, ◌+◌, ◌*◌, ◌/◌, ◌%◌, ◌≤◌, Bool, true, false, cond, eqb, ltb, List, [], ◌∷◌, ◌++◌, length, take, drop, Option, Some, None, refl, sym, ap, subst, ◌∙◌, append_assoc, arith}
use Rattle.std.specs.List.{flat_map}
use Rattle.std.proofs.lemmas.Bool.{ltb-false, le-ltb, eqb-true}
use Rattle.std.proofs.Math.Dec.{eqb-suc-zero}
use Rattle.std.specs.Ordering.{nat_cmp, ordering_then}
use Rattle.std.specs.declared.cmp.Ordering.TheVariants.{Less, Greater}
use Rattle.std.specs.Cmp.{nat_cmp_is}
use Rattle.std.specs.Cmp.Lexicographic.{slice_cmp}
use Rattle.std.proofs.lemmas.List.{take_at, drop_at, take-append-drop, length-append, length-take}
use Rattle.tuple_codec.proofs.Options.{guard_some as passed}
use Rattle.tuple_codec.specs.KeyBytes.{escape, escaped}
use Rattle.tuple_codec.specs.RowBytes.{length_prefixed}
use Rattle.tuple_codec.specs.Fronts.{with_front, unescaped, length_prefixed_at}
use Rattle.tuple_codec.proofs.NumberLemmas.{AreBytes, AreBytes-drop, then_assoc}

pub AreBytes-rest : (b : ℕ) (bytes : List ℕ) → AreBytes (b ∷ bytes) → AreBytes bytes
AreBytes-rest b bytes h i = h (suc i)

pub counted_again : (text rest : List ℕ) → length_prefixed_at (length_prefixed text ++ rest) ≡ Some (text, rest)
counted_again text rest =
    let size : length text / 256 * 256 + length text % 256 ≡ length text = omega arith in
    let long : ltb (length (text ++ rest)) (length text) ≡ false = le-ltb _ _ (omega (arith, length-append text rest)) in
    rw (size, long, take_at text rest (length text) refl, drop_at text rest (length text) refl) refl

pub counted_takes : (bytes text rest : List ℕ) → AreBytes bytes → length_prefixed_at bytes ≡ Some (text, rest) → (bytes ≡ length_prefixed text ++ rest) × AreBytes rest
counted_takes [] text rest fits e = absurd cc
counted_takes (high ∷ []) text rest fits e = absurd cc
counted_takes (high ∷ low ∷ bytes) text rest fits e =
    let n = high * 256 + low in
    let g = passed (ltb (length bytes) n) (take n bytes, drop n bytes) (text, rest) e in
    let long : n ≤ length bytes = ltb-false _ _ g.0 in
    let text-is : take n bytes ≡ text = ap (λ (p : List ℕ × List ℕ). p.0) g.1 in
    let rest-is : drop n bytes ≡ rest = ap (λ (p : List ℕ × List ℕ). p.1) g.1 in
    let size : length text ≡ n = ap length (sym text-is) ∙ omega (arith, length-take n bytes) in
    let above : length text / 256 ≡ high = omega (arith, fits 0, fits 1) in
    let below : length text % 256 ≡ low = omega (arith, fits 0, fits 1) in
    (rw (above, below, ← text-is, ← rest-is) (ap (λ (t : List ℕ). high ∷ low ∷ t) (sym (take-append-drop n bytes))), rw (← rest-is) (AreBytes-drop n bytes (AreBytes-rest low bytes (AreBytes-rest high (low ∷ bytes) fits))))

-- ---- escaped

escape_again : (b : ℕ) (more : List ℕ) → unescaped false (escape b ++ more) ≡ with_front (b ∷ []) (unescaped false more)
escape_again zero more = refl
escape_again (suc b) more = rw (eqb-suc-zero b, eqb-suc-zero b) refl

escapes_again : (text rest : List ℕ) → unescaped false (flat_map escape text ++ 0 ∷ 0 ∷ rest) ≡ Some (text, rest)
escapes_again [] rest = refl
escapes_again (b ∷ text) rest =
    ap (unescaped false) (append_assoc (escape b) (flat_map escape text) (0 ∷ 0 ∷ rest)) ∙ escape_again b (flat_map escape text ++ 0 ∷ 0 ∷ rest) ∙ ap (with_front (b ∷ [])) (escapes_again text rest)

pub escaped_again : (text rest : List ℕ) → unescaped false (escaped text ++ rest) ≡ Some (text, rest)
escaped_again text rest = ap (unescaped false) (append_assoc (flat_map escape text) (0 ∷ 0 ∷ []) rest) ∙ escapes_again text rest

front_is : (b : ℕ) (o : Option (List ℕ × List ℕ)) (text rest : List ℕ) → with_front (b ∷ []) o ≡ Some (text, rest) → (p : List ℕ) × (o ≡ Some (p, rest)) × (text ≡ b ∷ p)
front_is b None text rest e = absurd cc
front_is b (Some p) text rest e =
    let q = passed false (b ∷ p.0, p.1) (text, rest) e in
    (p.0, ap (λ (r : List ℕ × List ℕ). Some (p.0, r.1)) q.1, sym (ap (λ (r : List ℕ × List ℕ). r.0) q.1))

-- what was read, with the zero byte that came before
before : Bool → List ℕ → List ℕ
before false bytes = bytes
before true bytes = 0 ∷ bytes

chosen : {A : Type 0} (c : Bool) (x : Option A) (y : A) → cond c x None ≡ Some y → (c ≡ true) × (x ≡ Some y)
chosen true x y e = (refl, e)
chosen false x y e = absurd cc

escaped_suc : (b : ℕ) (text rest : List ℕ) → escaped (suc b ∷ text) ++ rest ≡ suc b ∷ (escaped text ++ rest)
escaped_suc b text rest = rw (eqb-suc-zero b) refl

escaped_from : (after : Bool) (bytes text rest : List ℕ) → unescaped after bytes ≡ Some (text, rest) → before after bytes ≡ escaped text ++ rest
unfolding before
escaped_from false [] text rest e = absurd cc
escaped_from true [] text rest e = absurd cc
escaped_from false (zero ∷ bytes) text rest e = escaped_from true bytes text rest e
escaped_from false (suc b ∷ bytes) text rest e =
    let p = front_is (suc b) (unescaped false bytes) text rest (rw (eqb-suc-zero b) at e) in
    ap (λ (t : List ℕ). suc b ∷ t) (escaped_from false bytes p.0 rest p.1) ∙ sym (escaped_suc b p.0 rest) ∙ ap (λ (t : List ℕ). escaped t ++ rest) (sym p.2)
escaped_from true (zero ∷ bytes) text rest e =
    let q = passed false ([], bytes) (text, rest) e in
    subst (λ (p : List ℕ × List ℕ). 0 ∷ 0 ∷ bytes ≡ escaped p.0 ++ p.1) q.1 refl
escaped_from true (suc b ∷ bytes) text rest e =
    let c = chosen (eqb (suc b) 255) (with_front (0 ∷ []) (unescaped false bytes)) (text, rest) (rw (eqb-suc-zero b) at e) in
    let p = front_is 0 (unescaped false bytes) text rest c.1 in
    ap (λ (k : ℕ). 0 ∷ k ∷ bytes) (eqb-true _ _ c.0) ∙ ap (λ (t : List ℕ). 0 ∷ 255 ∷ t) (escaped_from false bytes p.0 rest p.1) ∙ ap (λ (t : List ℕ). escaped t ++ rest) (sym p.2)

pub escaped_takes : (bytes text rest : List ℕ) → unescaped false bytes ≡ Some (text, rest) → bytes ≡ escaped text ++ rest
unfolding before
escaped_takes bytes text rest e = escaped_from false bytes text rest e

-- ---- order

less : (b : ℕ) → nat_cmp 0 (suc b) ≡ Less
less b = sym (nat_cmp_is 0 (suc b) Less (omega arith))

greater : (b : ℕ) → nat_cmp (suc b) 0 ≡ Greater
greater b = sym (nat_cmp_is (suc b) 0 Greater (omega arith))

pub escaped_order : (a b x y : List ℕ) → slice_cmp nat_cmp (escaped a ++ x) (escaped b ++ y) ≡ ordering_then (slice_cmp nat_cmp a b) (slice_cmp nat_cmp x y)
escaped_order [] [] x y = refl
escaped_order [] (zero ∷ b) x y = refl
escaped_order [] (suc n ∷ b) x y = rw (escaped_suc n b y, less n) refl
escaped_order (zero ∷ a) [] x y = refl
escaped_order (suc m ∷ a) [] x y = rw (escaped_suc m a x, greater m) refl
escaped_order (zero ∷ a) (zero ∷ b) x y = escaped_order a b x y
escaped_order (zero ∷ a) (suc n ∷ b) x y = rw (escaped_suc n b y, less n) refl
escaped_order (suc m ∷ a) (zero ∷ b) x y = rw (escaped_suc m a x, greater m) refl
escaped_order (suc m ∷ a) (suc n ∷ b) x y = rw (escaped_suc m a x, escaped_suc n b y) (ap (ordering_then (nat_cmp (suc m) (suc n))) (escaped_order a b x y) ∙ then_assoc (nat_cmp (suc m) (suc n)) (slice_cmp nat_cmp a b) (slice_cmp nat_cmp x y))
