-- A part that is read has the bytes that were taken, and what was written is read again.
use Rattle.std.proofs.Common.{◌≡◌, ℕ, zero, suc, ◌+◌, ◌*◌, ◌/◌, ◌%◌, ◌≤◌, Bool, true, false, cond, eqb, ltb, List, [], ◌∷◌, ◌++◌, length, map, take, drop, Option, Some, None, refl, sym, ap, subst, ◌∙◌, append_assoc, arith, inl, inr, ◌⊎◌}
use Rattle.std.specs.List.{flat_map, list_all}
use Rattle.std.specs.Option.{option_map}
use Rattle.std.proofs.lemmas.Bool.{and_parts, eqb-true, ltb-false}
use Rattle.std.proofs.lemmas.List.{take_at, take-append-drop, length-take}
use Rattle.std.proofs.lemmas.List.Folds.{flat_map-map}
use Rattle.tuple_codec.proofs.Options.{guard_some as passed, mapped as map_some, some_is}
use Rattle.tuple_codec.specs.Fields.{short, bytes_at, short_at}
use Rattle.tuple_codec.specs.KeyBytes.{bit}
use Rattle.tuple_codec.specs.Limits.{is_type}
use Rattle.tuple_codec.specs.declared.addresses.Address.{Address}
use Rattle.tuple_codec.specs.declared.values.SqlType.{SqlType}
use Rattle.tuple_codec.specs.declared.values.SqlType.TheVariants as kind
use Rattle.tuple_codec.proofs.NumberLemmas.{AreBytes, AreBytes-after, AreBytes-take}
use Rattle.tuple_codec.proofs.TextLemmas.{AreBytes-rest}
use Rattle.tuple_codec.proofs.FieldLemmas.{bytes_again}
use Rattle.schema_model.specs.SchemaBytes.{flags, listed, type_bytes}
use Rattle.schema_model.specs.Reading.{◌>>=◌, address_at, allowed, as_address, bool_of, byte_at, coded_at, decimal_at, flags_of, items_at, list_at, most_at, two_at, type_at}

-- what a reader took from the front
pub record Takes (bytes text rest : List ℕ) : Type 0 where
  pub parts : bytes ≡ text ++ rest
  pub rest_fits : AreBytes rest

pub takes : (bytes text rest : List ℕ) → AreBytes bytes → bytes ≡ text ++ rest → Takes bytes text rest
takes bytes text rest fit e = record { parts = e; rest_fits = AreBytes-after text bytes rest fit e }

pub Takes-then : (a x b y c : List ℕ) → Takes a x b → Takes b y c → Takes a (x ++ y) c
Takes-then a x b y c p q = record { parts = p.parts ∙ ap (λ (t : List ℕ). x ++ t) q.parts ∙ sym (append_assoc x y c); rest_fits = q.rest_fits }

pub AreBytes-front : (front rest bytes : List ℕ) → AreBytes bytes → bytes ≡ front ++ rest → AreBytes front
AreBytes-front front rest bytes fit e =
    subst AreBytes (ap (λ (l : List ℕ). take (length front) l) e ∙ take_at front rest (length front) refl) (AreBytes-take (length front) bytes fit)

-- how a part is read and written
pub record IsReader {A : Type 0} (written : A → List ℕ) (allows : A → Bool) (front : List ℕ → Option (A × List ℕ)) : Type 0 where
  pub takes : (bytes : List ℕ) (x : A × List ℕ) → AreBytes bytes → front bytes ≡ Some x → Takes bytes (written x.0) x.1
  pub again : (a : A) (rest : List ℕ) → allows a ≡ true → front (written a ++ rest) ≡ Some (a, rest)

pub nothing : {A : Type 0} (x : A) → None ≡ Some x → ⊥
nothing x e = cc

-- the value of a step that found something
pub bind_some : {A B : Type 0} (r : Option A) (f : A → Option B) (y : B) → (r >>= f) ≡ Some y → (x : A) × (r ≡ Some x) × (f x ≡ Some y)
bind_some (Some x) f y e = (x, refl, e)
bind_some None f y e = absurd cc

pick : {A : Type 0} (b : Bool) (x y : Option A) (z : A) → cond b x y ≡ Some z → ((b ≡ true) × (x ≡ Some z)) ⊎ ((b ≡ false) × (y ≡ Some z))
pick true x y z e = inl (refl, e)
pick false x y z e = inr (refl, e)

-- ---- so many bytes

pub bytes_takes : (n : ℕ) (bytes : List ℕ) (x : List ℕ × List ℕ) → bytes_at n bytes ≡ Some x → (bytes ≡ x.0 ++ x.1) × (length x.0 ≡ n)
bytes_takes n bytes x e =
    let made : List ℕ × List ℕ = (take n bytes, drop n bytes) in
    let g = passed (ltb (length bytes) n) made x e in
    let long : n ≤ length bytes = ltb-false _ _ g.0 in
    subst (λ (y : List ℕ × List ℕ). (bytes ≡ y.0 ++ y.1) × (length y.0 ≡ n)) g.1
    (sym (take-append-drop n bytes), omega (arith, length-take n bytes))

short_takes : (bytes : List ℕ) (x : List ℕ × List ℕ) → AreBytes bytes → short_at bytes ≡ Some x → Takes bytes (short x.0) x.1
short_takes [] x fit e = absurd cc
short_takes (size ∷ bytes) x fit e =
    let t = bytes_takes size bytes x e in
    takes (size ∷ bytes) (short x.0) x.1 fit (ap (λ (l : List ℕ). size ∷ l) t.0 ∙ ap (λ (n : ℕ). n ∷ (x.0 ++ x.1)) (sym t.1))

pub short_again : (name rest : List ℕ) → short_at (short name ++ rest) ≡ Some (name, rest)
short_again name rest = bytes_again (length name) name rest refl

pub short_reader : (allows : List ℕ → Bool) → IsReader short allows short_at
short_reader allows = record { takes = short_takes; again = λ name rest h. short_again name rest }

-- ---- a byte that means something

pub byte_takes : {A : Type 0} (meaning : ℕ → Option A) (code : A → ℕ) → ((n : ℕ) (a : A) → meaning n ≡ Some a → n ≡ code a)
    → (bytes : List ℕ) (x : A × List ℕ) → AreBytes bytes → byte_at meaning bytes ≡ Some x → Takes bytes (code x.0 ∷ []) x.1
byte_takes meaning code means [] x fit e = absurd cc
byte_takes {A} meaning code means (byte ∷ bytes) x fit e =
    let m = map_some (meaning byte) (λ a. (a, bytes)) x e in
    let same : byte ≡ code m.0 = means byte m.0 m.1 in
    subst (λ (y : A × List ℕ). Takes (byte ∷ bytes) (code y.0 ∷ []) y.1) m.2
    (takes (byte ∷ bytes) (code m.0 ∷ []) bytes fit (ap (λ (n : ℕ). n ∷ bytes) same))

pub byte_again : {A : Type 0} (meaning : ℕ → Option A) (n : ℕ) (a : A) (rest : List ℕ) → meaning n ≡ Some a → byte_at meaning (n ∷ rest) ≡ Some (a, rest)
byte_again {A} meaning n a rest e = ap (λ (o : Option A). option_map (λ x. (x, rest)) o) e

pub bool_means : (n : ℕ) (b : Bool) → bool_of n ≡ Some b → n ≡ bit b
bool_means n b e =
    elim (pick (eqb n 0) (Some false) _ b e) [
      | inl h ↦ eqb-true n 0 h.0 ∙ ap bit (some_is false b h.1)
      | inr h ↦ elim (pick (eqb n 1) (Some true) None b h.1) [
        | inl k ↦ eqb-true n 1 k.0 ∙ ap bit (some_is true b k.1)
        | inr k ↦ absurd (nothing b k.1)
      ]
    ]

pub bool_again : (b : Bool) → bool_of (bit b) ≡ Some b
bool_again true = refl
bool_again false = refl

pub flags_mean : (n : ℕ) (f : Bool × Bool) → flags_of n ≡ Some f → n ≡ flags f.0 f.1
flags_mean n f e =
    let code : Bool × Bool → ℕ = λ g. flags g.0 g.1 in
    elim (pick (eqb n 0) (Some (false, false)) _ f e) [
      | inl h ↦ eqb-true n 0 h.0 ∙ ap code (some_is (false, false) f h.1)
      | inr h ↦ elim (pick (eqb n 1) (Some (true, false)) _ f h.1) [
        | inl k ↦ eqb-true n 1 k.0 ∙ ap code (some_is (true, false) f k.1)
        | inr k ↦ elim (pick (eqb n 2) (Some (false, true)) _ f k.1) [
          | inl m ↦ eqb-true n 2 m.0 ∙ ap code (some_is (false, true) f m.1)
          | inr m ↦ elim (pick (eqb n 3) (Some (true, true)) None f m.1) [
            | inl o ↦ eqb-true n 3 o.0 ∙ ap code (some_is (true, true) f o.1)
            | inr o ↦ absurd (nothing f o.1)
          ]
        ]
      ]
    ]

pub flags_again : (a b : Bool) → flags_of (flags a b) ≡ Some (a, b)
flags_again true true = refl
flags_again true false = refl
flags_again false true = refl
flags_again false false = refl

-- ---- types

-- the bytes after a code
IsType : ℕ → List ℕ → SqlType × List ℕ → Type 0
IsType code rest x = code ∷ rest ≡ type_bytes x.0 ++ x.1

two_takes : (bytes : List ℕ) (x : ℕ × List ℕ) → AreBytes bytes → two_at bytes ≡ Some x → bytes ≡ x.0 / 256 ∷ x.0 % 256 ∷ x.1
two_takes [] x fit e = absurd cc
two_takes (high ∷ []) x fit e = absurd cc
two_takes (high ∷ low ∷ rest) x fit e =
    let above : (high * 256 + low) / 256 ≡ high = omega (arith, fit 0, fit 1) in
    let below : (high * 256 + low) % 256 ≡ low = omega (arith, fit 0, fit 1) in
    let made : ℕ × List ℕ = (high * 256 + low, rest) in
    subst (λ (y : ℕ × List ℕ). high ∷ low ∷ rest ≡ y.0 / 256 ∷ y.0 % 256 ∷ y.1) (some_is made x e)
    (ap (λ (n : ℕ). n ∷ low ∷ rest) (sym above) ∙ ap (λ (n : ℕ). (high * 256 + low) / 256 ∷ n ∷ rest) (sym below))

two_again : (n : ℕ) (rest : List ℕ) → two_at (n / 256 ∷ n % 256 ∷ rest) ≡ Some (n, rest)
two_again n rest =
    let whole : n / 256 * 256 + n % 256 ≡ n = omega arith in
    ap (λ (k : ℕ). Some (k, rest)) whole

most_takes : (code : ℕ) (make : ℕ → SqlType) (bytes : List ℕ) (x : SqlType × List ℕ) → AreBytes bytes → ((n : ℕ) → type_bytes (make n) ≡ code ∷ n / 256 ∷ n % 256 ∷ [])
    → most_at make bytes ≡ Some x → IsType code bytes x
unfolding IsType
most_takes code make bytes x fit spelled e =
    let m = map_some (two_at bytes) (λ p. (make p.0, p.1)) x e in
    let t = two_takes bytes m.0 fit m.1 in
    subst (λ (y : SqlType × List ℕ). code ∷ bytes ≡ type_bytes y.0 ++ y.1) m.2
    (ap (λ (l : List ℕ). code ∷ l) t ∙ ap (λ (l : List ℕ). l ++ m.0.1) (sym (spelled m.0.0)))

decimal_takes : (bytes : List ℕ) (x : SqlType × List ℕ) → decimal_at bytes ≡ Some x → IsType 6 bytes x
unfolding IsType
decimal_takes [] x e = absurd cc
decimal_takes (digits ∷ []) x e = absurd cc
decimal_takes (digits ∷ scale ∷ rest) x e =
    subst (λ (y : SqlType × List ℕ). 6 ∷ digits ∷ scale ∷ rest ≡ type_bytes y.0 ++ y.1) (some_is (kind.Decimal digits scale, rest) x e) refl

plain_takes : (code : ℕ) (type : SqlType) (rest : List ℕ) (x : SqlType × List ℕ) → type_bytes type ≡ code ∷ [] → Some (type, rest) ≡ Some x → IsType code rest x
unfolding IsType
plain_takes code type rest x spelled e =
    subst (λ (y : SqlType × List ℕ). code ∷ rest ≡ type_bytes y.0 ++ y.1) (some_is (type, rest) x e) (ap (λ (l : List ℕ). l ++ rest) (sym spelled))

coded_takes : (code : ℕ) (rest : List ℕ) (x : SqlType × List ℕ) → AreBytes rest → coded_at code rest ≡ Some x → IsType code rest x
coded_takes code rest x fit e =
    let P : ℕ → Type 0 = λ n. IsType n rest x in
    elim (pick (eqb code 1) (Some (kind.BigInt, rest)) _ x e) [
      | inl h ↦ subst P (sym (eqb-true code 1 h.0)) (plain_takes 1 kind.BigInt rest x refl h.1)
      | inr h ↦ elim (pick (eqb code 2) (Some (kind.Int, rest)) _ x h.1) [
        | inl k ↦ subst P (sym (eqb-true code 2 k.0)) (plain_takes 2 kind.Int rest x refl k.1)
        | inr k ↦ elim (pick (eqb code 3) (Some (kind.Bool, rest)) _ x k.1) [
          | inl m ↦ subst P (sym (eqb-true code 3 m.0)) (plain_takes 3 kind.Bool rest x refl m.1)
          | inr m ↦ elim (pick (eqb code 4) (most_at (λ most. kind.Varchar most) rest) _ x m.1) [
            | inl o ↦ subst P (sym (eqb-true code 4 o.0)) (most_takes 4 (λ most. kind.Varchar most) rest x fit (λ n. refl) o.1)
            | inr o ↦ elim (pick (eqb code 5) (most_at (λ most. kind.Varbinary most) rest) _ x o.1) [
              | inl p ↦ subst P (sym (eqb-true code 5 p.0)) (most_takes 5 (λ most. kind.Varbinary most) rest x fit (λ n. refl) p.1)
              | inr p ↦ elim (pick (eqb code 6) (decimal_at rest) None x p.1) [
                | inl q ↦ subst P (sym (eqb-true code 6 q.0)) (decimal_takes rest x q.1)
                | inr q ↦ absurd (nothing x q.1)
              ]
            ]
          ]
        ]
      ]
    ]

allowed_is : (y x : SqlType × List ℕ) → allowed y ≡ Some x → (is_type y.0 ≡ true) × (y ≡ x)
allowed_is y x e =
    elim (pick (is_type y.0) (Some y) None x e) [
      | inl h ↦ (h.0, some_is y x h.1)
      | inr h ↦ absurd (nothing x h.1)
    ]

type_takes : (bytes : List ℕ) (x : SqlType × List ℕ) → AreBytes bytes → type_at bytes ≡ Some x → Takes bytes (type_bytes x.0) x.1
unfolding IsType
type_takes [] x fit e = absurd cc
type_takes (code ∷ rest) x fit e =
    let b = bind_some (coded_at code rest) allowed x e in
    let a = allowed_is b.0 x b.2 in
    let t = coded_takes code rest b.0 (AreBytes-rest code rest fit) b.1 in
    subst (λ (y : SqlType × List ℕ). Takes (code ∷ rest) (type_bytes y.0) y.1) a.1 (takes (code ∷ rest) (type_bytes b.0.0) b.0.1 fit t)

-- a type that is read is within its limits
pub type_within : (bytes : List ℕ) (x : SqlType × List ℕ) → type_at bytes ≡ Some x → is_type x.0 ≡ true
type_within [] x e = absurd cc
type_within (code ∷ rest) x e =
    let b = bind_some (coded_at code rest) allowed x e in
    let a = allowed_is b.0 x b.2 in
    subst (λ (y : SqlType × List ℕ). is_type y.0 ≡ true) a.1 a.0

allowed_again : (type : SqlType) (rest : List ℕ) → is_type type ≡ true → allowed (type, rest) ≡ Some (type, rest)
allowed_again type rest h = rw h refl

pub type_again : (type : SqlType) (rest : List ℕ) → is_type type ≡ true → type_at (type_bytes type ++ rest) ≡ Some (type, rest)
type_again kind.BigInt rest h = allowed_again kind.BigInt rest h
type_again kind.Int rest h = allowed_again kind.Int rest h
type_again kind.Bool rest h = allowed_again kind.Bool rest h
type_again (kind.Varchar most) rest h = ap (λ (o : Option (ℕ × List ℕ)). option_map (λ p. (kind.Varchar p.0, p.1)) o >>= allowed) (two_again most rest) ∙ allowed_again (kind.Varchar most) rest h
type_again (kind.Varbinary most) rest h = ap (λ (o : Option (ℕ × List ℕ)). option_map (λ p. (kind.Varbinary p.0, p.1)) o >>= allowed) (two_again most rest) ∙ allowed_again (kind.Varbinary most) rest h
type_again (kind.Decimal digits scale) rest h = allowed_again (kind.Decimal digits scale) rest h

pub type_reader : IsReader type_bytes is_type type_at
type_reader = record { takes = type_takes; again = type_again }

-- ---- items one after another

module _ {A : Type 0} (written : A → List ℕ) (allows : A → Bool) (front : List ℕ → Option (A × List ℕ)) (reader : IsReader written allows front) where
  pub items_take : (n : ℕ) (bytes : List ℕ) (x : List A × List ℕ) → AreBytes bytes → items_at front n bytes ≡ Some x → Takes bytes (flat_map written x.0) x.1 × (length x.0 ≡ n)
  unfolding items_at
  items_take zero bytes x fit e =
      subst (λ (y : List A × List ℕ). Takes bytes (flat_map written y.0) y.1 × (length y.0 ≡ 0)) (some_is ([], bytes) x e)
      (record { parts = refl; rest_fits = fit }, refl)
  items_take (suc n) bytes x fit e =
      let b = bind_some (front bytes) (λ y. option_map (λ ys. (y.0 ∷ ys.0, ys.1)) (items_at front n y.1)) x e in
      let m = map_some (items_at front n b.0.1) (λ ys. (b.0.0 ∷ ys.0, ys.1)) x b.2 in
      let t = reader.takes bytes b.0 fit b.1 in
      let more = items_take n b.0.1 m.0 t.rest_fits m.1 in
      let both = Takes-then bytes (written b.0.0) b.0.1 (flat_map written m.0.0) m.0.1 t more.0 in
      subst (λ (y : List A × List ℕ). Takes bytes (flat_map written y.0) y.1 × (length y.0 ≡ suc n)) m.2 (both, ap (λ (k : ℕ). suc k) more.1)

  pub items_again : (items : List A) (rest : List ℕ) → list_all allows items ≡ true → items_at front (length items) (flat_map written items ++ rest) ≡ Some (items, rest)
  unfolding items_at
  items_again [] rest h = refl
  items_again (item ∷ items) rest h =
      let both = and_parts (allows item) (list_all allows items) h in
      let go : A × List ℕ → Option (List A × List ℕ) = λ y. option_map (λ ys. (y.0 ∷ ys.0, ys.1)) (items_at front (length items) y.1) in
      ap (λ (l : List ℕ). front l >>= go) (append_assoc (written item) (flat_map written items) rest)
      ∙ ap (λ (o : Option (A × List ℕ)). o >>= go) (reader.again item (flat_map written items ++ rest) both.0)
      ∙ ap (λ (o : Option (List A × List ℕ)). option_map (λ ys. (item ∷ ys.0, ys.1)) o) (items_again items rest both.1)

  list_takes : (bytes : List ℕ) (x : List A × List ℕ) → AreBytes bytes → list_at front bytes ≡ Some x → Takes bytes (listed written x.0) x.1
  list_takes [] x fit e = absurd cc
  list_takes (count ∷ bytes) x fit e =
      let t = items_take count bytes x (AreBytes-rest count bytes fit) e in
      takes (count ∷ bytes) (listed written x.0) x.1 fit (ap (λ (l : List ℕ). count ∷ l) t.0.parts ∙ ap (λ (n : ℕ). n ∷ (flat_map written x.0 ++ x.1)) (sym t.1))

  pub list_reader : IsReader (listed written) (list_all allows) (list_at front)
  list_reader = record { takes = list_takes; again = items_again }

-- ---- addresses

pub address_again : (address : Address) (rest : List ℕ) → eqb (length address.0) 20 ≡ true → address_at (address.0 ++ rest) ≡ Some (address, rest)
address_again address rest h = ap (option_map as_address) (bytes_again 20 address.0 rest (eqb-true _ _ h))

pub address_takes : (bytes : List ℕ) (x : Address × List ℕ) → AreBytes bytes → address_at bytes ≡ Some x → Takes bytes x.0.0 x.1
address_takes bytes x fit e =
    let m = map_some (bytes_at 20 bytes) as_address x e in
    subst (λ (y : Address × List ℕ). Takes bytes y.0.0 y.1) m.2 (takes bytes m.0.0 m.0.1 fit (bytes_takes 20 bytes m.0 m.1).0)

address_reader : IsReader (λ (address : Address). address.0) (λ address. eqb (length address.0) 20) address_at
address_reader = record { takes = address_takes; again = address_again }

-- addresses whose bytes stand one after another
pub addresses_again : (n : ℕ) (addresses : List Address) (rest : List ℕ) → length addresses ≡ n → list_all (λ address. eqb (length address.0) 20) addresses ≡ true
    → items_at address_at n (flat_map (λ bytes. bytes) (map (λ (address : Address). address.0) addresses) ++ rest) ≡ Some (addresses, rest)
addresses_again n addresses rest count h =
    ap (λ (k : ℕ). items_at address_at k (flat_map (λ bytes. bytes) (map (λ (address : Address). address.0) addresses) ++ rest)) (sym count)
    ∙ ap (λ (l : List ℕ). items_at address_at (length addresses) (l ++ rest)) (flat_map-map (λ (bytes : List ℕ). bytes) (λ (address : Address). address.0) addresses)
    ∙ items_again (λ (address : Address). address.0) (λ address. eqb (length address.0) 20) address_at address_reader addresses rest h
