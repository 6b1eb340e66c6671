-- What is read from the front of bytes is what stands there.
use Rattle.std.proofs.Common.{◌≡◌, ℕ, zero, suc, Bool, true, eqb, List, [], ◌∷◌, length, Option, Some, Result, Ok, Err, refl, ap, subst, ◌∙◌}
use Rattle.std.specs.List.{list_all}
use Rattle.std.specs.Option.{option_map}
use Rattle.std.proofs.lemmas.Bool.{and_from, eqb-true}
use Rattle.std.proofs.lemmas.List.{nil_from_length}
use Rattle.tuple_codec.proofs.Options.{chosen_some, mapped, some_is}
use Rattle.tuple_codec.proofs.NumberLemmas.{AreBytes}
use Rattle.tuple_codec.specs.Fields.{bytes_at}
use Rattle.tuple_codec.specs.Fronts.{Gives}
use Rattle.tuple_codec.specs.declared.addresses.Address.{Address}
use Rattle.tuple_codec.specs.declared.unread.Unread.{Unread}
use Rattle.tuple_codec.specs.declared.unread.Unread.TheVariants.{Memory, Malformed}
use Rattle.schema_model.specs.Reading.{address_at, as_address, items_at}
use Rattle.schema_model.proofs.PartLemmas.{IsReader, address_again, address_takes, bind_some, bytes_takes}
use Rattle.table_root.specs.Finds.{Finds}
use Rattle.table_root.specs.Reading.{after_kind, alone}
use Rattle.table_root.specs.Spellings.{Reads}
use Rattle.table_root.specs.Tables.{is_address}

-- ---- what reading answers

-- a reader that reads what is there, and what it reads is there
pub reads : {A : Type 0} (Is : A → Type 0) (found : Option A) → ((thing : A) → found ≡ Some thing → Is thing) → ((thing : A) → Is thing → found ≡ Some thing) → Reads Is found
reads Is found there again = λ thing. (there thing, again thing)

-- code that gives what reading answers
pub finds : {A : Type 0} (Is : A → Type 0) (read : Result A Unread) (found : Option A) → Gives (λ x. x) read found → Reads Is found → Finds Is read
finds Is (Ok x) found e is = subst (Reads Is) e is
finds Is (Err Memory) found e is = tt
finds Is (Err Malformed) found e is = subst (Reads Is) e is

-- ---- parts

pub kind_takes : (kind : ℕ) (bytes rest : List ℕ) → after_kind kind bytes ≡ Some rest → bytes ≡ kind ∷ rest
kind_takes kind [] rest e = absurd cc
kind_takes kind (first ∷ more) rest e =
    let g = chosen_some (eqb first kind) more rest e in
    ap (λ (n : ℕ). n ∷ more) (eqb-true first kind g.0) ∙ ap (λ (l : List ℕ). kind ∷ l) g.1

pub alone_is : {A : Type 0} (x : A × List ℕ) (y : A) → alone x ≡ Some y → (x.1 ≡ []) × (x.0 ≡ y)
alone_is x y e = let g = chosen_some (eqb (length x.1) 0) x.0 y e in (nil_from_length x.1 (eqb-true _ _ g.0), g.1)

-- an address that is read has twenty bytes
pub address_long : (bytes : List ℕ) (x : Address × List ℕ) → AreBytes bytes → address_at bytes ≡ Some x → is_address x.0 ≡ true
address_long bytes x fit e =
    let m = mapped (bytes_at 20 bytes) as_address x e in
    let t = bytes_takes 20 bytes m.0 m.1 in
    subst (λ (y : Address × List ℕ). is_address y.0 ≡ true) m.2 (ap (λ (n : ℕ). eqb n 20) t.1)

pub address_reader : IsReader (λ (address : Address). address.0) is_address address_at
address_reader = record { takes = address_takes; again = address_again }

-- where each item that is read passes a test, all do
module _ {A : Type 0} (written : A → List ℕ) (allows : A → Bool) (front : List ℕ → Option (A × List ℕ)) (reader : IsReader written allows front) (test : A → Bool)
    (each : (bytes : List ℕ) (x : A × List ℕ) → AreBytes bytes → front bytes ≡ Some x → test x.0 ≡ true) where
  pub all_pass : (n : ℕ) (bytes : List ℕ) (x : List A × List ℕ) → AreBytes bytes → items_at front n bytes ≡ Some x → list_all test x.0 ≡ true
  unfolding items_at
  all_pass zero bytes x fit e = subst (λ (y : List A × List ℕ). list_all test y.0 ≡ true) (some_is ([], bytes) x e) refl
  all_pass (suc n) bytes x fit e =
      let b = bind_some (front bytes) (λ y. option_map (λ ys. (y.0 ∷ ys.0, ys.1)) (items_at front n y.1)) x e in
      let m = mapped (items_at front n b.0.1) (λ ys. (b.0.0 ∷ ys.0, ys.1)) x b.2 in
      let t = reader.takes bytes b.0 fit b.1 in
      subst (λ (y : List A × List ℕ). list_all test y.0 ≡ true) m.2
      (and_from (test b.0.0) (list_all test m.0.0) (each bytes b.0 fit b.1) (all_pass n b.0.1 m.0 t.rest_fits m.1))
