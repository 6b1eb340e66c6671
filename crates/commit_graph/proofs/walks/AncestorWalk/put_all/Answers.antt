use Rattle.std.proofs.Common.{◌≡◌, refl, sym, ◌∙◌, ap, subst, ℕ, zero, suc, ◌+◌, ◌<◌, Bool, true, List, ◌∷◌, [], ◌++◌, drop, length, map, take, get_or, Ok, Err, Result, arith}
use Rattle.std.specs.Prelude.{OnErr}
use Rattle.std.specs.List.{list_all}
use Rattle.std.proofs.lemmas.Bool.{and_parts}
use Rattle.std.proofs.lemmas.List.{take_more}
use Rattle.schema_model.specs.PlainCommits.{is_known}
use Rattle.tuple_codec.specs.declared.addresses.Address.{Address}
use Rattle.commit_graph.specs.Walks.{Waits, WaitsForSome}
use Rattle.commit_graph.specs.declared.walks.Rank.{Rank}
use Rattle.commit_graph.proofs.WalkLemmas.{waits_more, waits_none, waits_some}
use Rattle.commit_graph.proofs.walks.AncestorWalk.put_all.Goals as goal

bytes_of : List Address → List (List ℕ)
bytes_of addresses = map (λ (k : Address). k.0) addresses

at_index : (known : List ℕ → Bool) (xs : List Address) (i : ℕ) (d : Address) → i < length xs → list_all known (bytes_of xs) ≡ true → known (get_or xs i d).0 ≡ true
unfolding bytes_of
at_index known [] i d h all = absurd (omega (arith, h))
at_index known (x ∷ xs) zero d h all = (and_parts (known x.0) _ all).0
at_index known (x ∷ xs) (suc i) d h all = at_index known xs i d (omega (arith, h)) (and_parts (known x.0) _ all).1

with_last : (xs : List Address) (x : Address) → bytes_of (xs ++ x ∷ []) ≡ bytes_of xs ++ x.0 ∷ []
unfolding bytes_of
with_last [] x = refl
with_last (other ∷ xs) x = ap (λ ks. other.0 ∷ ks) (with_last xs x)

front_more : (xs : List Address) (i : ℕ) (d : Address) → i < length xs → bytes_of (take (i + 1) xs) ≡ bytes_of (take i xs) ++ (get_or xs i d).0 ∷ []
front_more xs i d h = ap bytes_of (take_more xs i d h) ∙ with_last (take i xs) (get_or xs i d)

front_and_rest : (xs : List Address) (i : ℕ) → bytes_of (take i xs) ++ bytes_of (drop i xs) ≡ bytes_of xs
unfolding bytes_of
front_and_rest [] zero = refl
front_and_rest [] (suc i) = refl
front_and_rest (x ∷ xs) zero = refl
front_and_rest (x ∷ xs) (suc i) = ap (λ ks. x.0 ∷ ks) (front_and_rest xs i)

on_err : {T E : Type 0} (r : Result T E) (P : Type 0) → P → OnErr r P
on_err (Ok x) P p = tt
on_err (Err e) P p = p

nothing : Address
nothing = record { 0 = [] }

pub put-requires-after_bounds : goal.put-requires-after_bounds
unfolding bytes_of nothing
put-requires-after_bounds g c κs within =
    let here : c.loop-address.address-index < length c.args.addresses.now = omega arith in
    (c.requires.0, c.requires.1, at_index (is_known c.requires.0) c.args.addresses.now c.loop-address.address-index nothing here c.requires.2)

pub loop-address-init : goal.loop-address-init
loop-address-init g c = λ commits stand ranks known. waits_none commits c.args.self.now ranks

pub loop-address-preserved : goal.loop-address-preserved
unfolding bytes_of nothing
loop-address-preserved g c = λ commits stand ranks known.
    let here : c.loop-address.address-index < length c.args.addresses.now = omega arith in
    let k = (get_or c.args.addresses.now c.loop-address.address-index nothing).0 in
    let so_far = c.loop-address.invariant commits stand ranks known in
    let one : Waits commits (k ∷ []) c.loop-address.self c.put.new.self =
    c.in_ok-put.ensures.ok commits stand so_far.ranks (at_index (is_known commits) c.args.addresses.now c.loop-address.address-index nothing here known) in
    subst (λ (ks : List (List ℕ)). Waits commits ks c.args.self.now c.put.new.self) (sym (front_more c.args.addresses.now c.loop-address.address-index nothing here))
    (waits_more commits (bytes_of (take c.loop-address.address-index c.args.addresses.now)) k c.args.self.now c.loop-address.self c.put.new.self so_far one)

pub returns-in_err-put-clause-err : goal.returns-in_err-put-clause-err
unfolding bytes_of
returns-in_err-put-clause-err g c = λ commits stand ranks known.
    let xs = c.args.addresses.now in
    let i = c.loop-address.address-index in
    let some = waits_some commits (bytes_of (take i xs)) (bytes_of (drop i xs)) (bytes_of xs) c.args.self.now c.loop-address.self (front_and_rest xs i)
    (c.loop-address.invariant commits stand ranks known) in
    on_err _ _ (subst (λ (new : List Rank). WaitsForSome commits (bytes_of xs) c.args.self.now new) (sym c.in_err-put.ensures.err) some)
