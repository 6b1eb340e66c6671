-- A commit that was written is read again, and how many bytes it has at most.
use Rattle.std.proofs.Common.{◌≡◌, ℕ, ℤ, T, pos, ◌*◌, ◌/◌, ◌^◌, ◌<◌, ◌≤◌, Bool, true, false, cond, eqb, leb, ltb, List, [], ◌∷◌, ◌++◌, get_or, length, map, take, drop, Option, Some, None, refl, sym, ap, subst, ◌∙◌, append_assoc, append-nil, arith}
use Rattle.std.specs.Prelude.{◌&&◌, ◌≤ℤ◌, int_le}
use Rattle.std.specs.List.{flat_map, list_all}
use Rattle.std.specs.Option.{option_map}
use Rattle.std.specs.Int.{w64, cast_signed, cast_unsigned, from_be_bytes, to_be_bytes}
use Rattle.std.proofs.lemmas.Bool.{and_from, and_parts, eqb-true, le-leb, leb-true}
use Rattle.std.proofs.lemmas.Bool.Decides.{nat_tests}
use Rattle.std.proofs.lemmas.Int.{ints}
use Rattle.std.proofs.lemmas.List.{length-append, length-map, nil_from_length}
use Rattle.std.proofs.lemmas.List.Folds.{flat_map-map, list_all-map}
use Rattle.std.proofs.lemmas.Nat.{be_bytes_8, from_be_bytes-to_be_bytes_8}
use Rattle.tuple_codec.proofs.Options.{chosen_some, mapped as mapped_is, some_is}
use Rattle.tuple_codec.specs.Rows.{fits_bits}
use Rattle.tuple_codec.specs.Fields.{bytes_at}
use Rattle.tuple_codec.specs.RowBytes.{length_prefixed}
use Rattle.tuple_codec.specs.Fronts.{length_prefixed_at}
use Rattle.tuple_codec.specs.declared.forms.Form.TheVariants as form
use Rattle.tuple_codec.proofs.NumberLemmas.{AreBytes, bits_back, bits_fit, number_back, wide}
use Rattle.tuple_codec.proofs.TextLemmas.{AreBytes-rest, counted_again, counted_takes}
use Rattle.schema_model.specs.Reading.{◌>>=◌, address_at, items_at, list_at}
use Rattle.schema_model.specs.WrittenForms.{CommitParts, commit_bytes}
use Rattle.schema_model.proofs.PartLemmas.{AreBytes-front, Takes, Takes-then, address_again, address_takes, addresses_again, bind_some, bytes_takes, items_take, takes}
use Rattle.table_root.specs.Spellings.{Reads}
use Rattle.table_root.specs.Tables as table
use Rattle.table_root.proofs.TakenLemmas.{address_long, address_reader, all_pass, reads}
use Rattle.commit_graph.specs.Commits.{FitsForm, HasOneSpelling, IsCommit, IsCommitIn, is_address, parts_of}
use Rattle.commit_graph.specs.declared.commits.CommitRecord.{CommitRecord}
use Rattle.tuple_codec.specs.declared.addresses.Address.{Address}
use Rattle.tuple_codec.proofs.FieldLemmas.{bytes_again}
use Rattle.commit_graph.specs.Reading.{after_kind, after_parents as parents_passed, commit_at, commit_of, height_in, if_commit, keeps_rules, number_at, root_in}

-- ---- addresses

abbrev address_of : List ℕ → Address
address_of bytes = record { 0 = bytes }

plain_again : (parents : List (List ℕ)) → map (λ (address : Address). address.0) (map address_of parents) ≡ parents
plain_again [] = refl
plain_again (parent ∷ parents) = ap (λ (l : List (List ℕ)). parent ∷ l) (plain_again parents)

addresses_length : (parents : List (List ℕ)) → list_all is_address parents ≡ true → length (flat_map (λ parent. parent) parents) ≡ 20 * length parents
addresses_length [] h = refl
addresses_length (parent ∷ parents) h =
    let both = and_parts (is_address parent) (list_all is_address parents) h in
    let one : length parent ≡ 20 = eqb-true _ _ both.0 in
    let more = addresses_length parents both.1 in
    length-append parent (flat_map (λ parent. parent) parents) ∙ omega (arith, one, more)

parents_again : (parents : List (List ℕ)) (rest : List ℕ) → list_all is_address parents ≡ true
    → list_at address_at (length parents ∷ (flat_map (λ parent. parent) parents ++ rest)) ≡ Some (map address_of parents, rest)
parents_again parents rest h =
    ap (λ (l : List (List ℕ)). items_at address_at (length parents) (flat_map (λ parent. parent) l ++ rest)) (sym (plain_again parents))
    ∙ addresses_again (length parents) (map address_of parents) rest (length-map parents address_of) (list_all-map (λ (address : Address). is_address address.0) address_of parents ∙ h)

mapped : {A B : Type 0} (f : A → B) (b : Bool) (y : A) → option_map f (cond b None (Some y)) ≡ cond b None (Some (f y))
mapped f true y = refl
mapped f false y = refl

abbrev as_number : List ℕ × List ℕ → ℕ × List ℕ
as_number x = (from_be_bytes w64 x.0, x.1)

number_is : (bytes : List ℕ) → number_at bytes ≡ option_map as_number (bytes_at 8 bytes)
number_is bytes = sym (mapped as_number (ltb (length bytes) 8) (take 8 bytes, drop 8 bytes))

number_again : (n : ℕ) (rest : List ℕ) → n < 2 ^ 64 → number_at (to_be_bytes w64 n ++ rest) ≡ Some (n, rest)
number_again n rest lt =
    number_is (to_be_bytes w64 n ++ rest) ∙ ap (option_map as_number) (bytes_again 8 (to_be_bytes w64 n) rest refl) ∙ ap (λ (k : ℕ). Some (k, rest)) (from_be_bytes-to_be_bytes_8 n lt)

-- ---- commits

abbrev made : List ℕ → List (List ℕ) → ℕ → ℕ → List ℕ → List ℕ → CommitParts
made root parents height date committer message = record {
  root = root;
  parents = parents;
  height = height;
  date = cast_signed w64 date;
  committer = committer;
  message = message;
}

abbrev after_message : List ℕ → List (List ℕ) → ℕ → ℕ → List ℕ → List ℕ × List ℕ → Option (CommitParts × List ℕ)
after_message root parents height date committer message = Some (made root parents height date committer message.0, message.1)

abbrev after_committer : List ℕ → List (List ℕ) → ℕ → ℕ → List ℕ × List ℕ → Option (CommitParts × List ℕ)
after_committer root parents height date committer = length_prefixed_at committer.1 >>= after_message root parents height date committer.0

abbrev after_date : List ℕ → List (List ℕ) → ℕ → ℕ × List ℕ → Option (CommitParts × List ℕ)
after_date root parents height date = length_prefixed_at date.1 >>= after_committer root parents height date.0

abbrev after_height : List ℕ → List (List ℕ) → ℕ × List ℕ → Option (CommitParts × List ℕ)
after_height root parents height = number_at height.1 >>= after_date root parents height.0

abbrev after_parents : List ℕ → List Address × List ℕ → Option (CommitParts × List ℕ)
after_parents root parents = number_at parents.1 >>= after_height root (map (λ parent. parent.0) parents.0)

abbrev after_root : Address × List ℕ → Option (CommitParts × List ℕ)
after_root root = list_at address_at root.1 >>= after_parents root.0.0

parts_again : (c : CommitParts) → FitsForm c → commit_at (commit_bytes c) ≡ Some (c, [])
unfolding commit_at
parts_again c h =
    let date = cast_unsigned w64 c.date in
    let fifth = length_prefixed c.message in
    let fourth = length_prefixed c.committer ++ fifth in
    let third = to_be_bytes w64 date ++ fourth in
    let second = to_be_bytes w64 c.height ++ third in
    let first = length c.parents ∷ (flat_map (λ parent. parent) c.parents ++ second) in
    ap (λ (o : Option (Address × List ℕ)). o >>= after_root) (address_again (address_of c.root) first h.addresses.root)
    ∙ ap (λ (o : Option (List Address × List ℕ)). o >>= after_parents c.root) (parents_again c.parents second h.addresses.parents)
    ∙ ap (λ (parents : List (List ℕ)). number_at second >>= after_height c.root parents) (plain_again c.parents)
    ∙ ap (λ (o : Option (ℕ × List ℕ)). o >>= after_height c.root c.parents) (number_again c.height third h.height)
    ∙ ap (λ (o : Option (ℕ × List ℕ)). o >>= after_date c.root c.parents c.height) (number_again date fourth (bits_fit form.Row c.date h.date_fits))
    ∙ ap (λ (o : Option (List ℕ × List ℕ)). o >>= after_committer c.root c.parents c.height date) (counted_again c.committer fifth)
    ∙ ap (λ (o : Option (List ℕ × List ℕ)). o >>= after_message c.root c.parents c.height date c.committer)
    (ap length_prefixed_at (sym (append-nil fifth)) ∙ counted_again c.message [])
    ∙ ap (λ (n : ℤ). Some (record { root = c.root; parents = c.parents; height = c.height; date = n; committer = c.committer; message = c.message }, []))
    (number_back form.Row c.date h.date_fits)

is_true : (b : Bool) → T b → b ≡ true
is_true true t = refl
is_true false t = absurd t

late : (n : ℤ) → pos 0 ≤ℤ n → int_le (pos 0) n ≡ true
late n h = is_true (int_le (pos 0) n) h.le

commit_again : (c : CommitParts) → FitsForm c → commit_of (commit_bytes c) ≡ Some c
commit_again c h =
    ap (λ (o : Option (CommitParts × List ℕ)). o >>= if_commit) (parts_again c h)
    ∙ ap (λ (b : Bool). cond b (Some c) None) (and_from (leb (length c.parents) 2) (int_le (pos 0) c.date) (le-leb _ _ h.few) (late c.date h.date))

-- what a commit is fits the form
in_form : (c : CommitParts) → IsCommit c → FitsForm c
in_form c h = record {
  addresses = h.addresses;
  few = h.limits.few;
  height = h.limits.height;
  date = h.limits.date;
  date_fits = h.limits.date_fits;
  committer = let few = h.limits.committer in omega (arith, few);
  message = let few = h.limits.message in omega (arith, few);
}

-- ---- what is read was there

number_takes : (bytes : List ℕ) (x : ℕ × List ℕ) → AreBytes bytes → number_at bytes ≡ Some x → Takes bytes (to_be_bytes w64 x.0) x.1 × (x.0 < 2 ^ 64)
number_takes bytes x fit e =
    let m = mapped_is (bytes_at 8 bytes) as_number x (sym (number_is bytes) ∙ e) in
    let t = bytes_takes 8 bytes m.0 m.1 in
    let small = AreBytes-front m.0.0 m.0.1 bytes fit t.0 in
    let back : to_be_bytes w64 (from_be_bytes w64 m.0.0) ≡ m.0.0 = be_bytes_8 m.0.0 _ t.1 small refl in
    subst (λ (y : ℕ × List ℕ). Takes bytes (to_be_bytes w64 y.0) y.1 × (y.0 < 2 ^ 64)) m.2
    (takes bytes (to_be_bytes w64 (from_be_bytes w64 m.0.0)) m.0.1 fit (t.0 ∙ ap (λ (l : List ℕ). l ++ m.0.1) (sym back)), wide m.0.0 small)

text_takes : (bytes : List ℕ) (x : List ℕ × List ℕ) → AreBytes bytes → length_prefixed_at bytes ≡ Some x → Takes bytes (length_prefixed x.0) x.1 × (length x.0 < 2 ^ 16)
text_takes bytes x fit e =
    let t = counted_takes bytes x.0 x.1 fit e in
    let first : get_or bytes 0 0 ≡ length x.0 / 256 = ap (λ (l : List ℕ). get_or l 0 0) t.0 in
    (record { parts = t.0; rest_fits = t.1 }, omega (arith, first, fit 0))

abbrev plain : List Address → List (List ℕ)
plain addresses = map (λ (address : Address). address.0) addresses

pub counted : (addresses : List Address) → length (map (λ (address : Address). address.0) addresses) ≡ length addresses
counted addresses = length-map addresses (λ (address : Address). address.0)

parents_take : (bytes : List ℕ) (x : List Address × List ℕ) → AreBytes bytes → list_at address_at bytes ≡ Some x
    → Takes bytes (length (plain x.0) ∷ flat_map (λ parent. parent) (plain x.0)) x.1 × (list_all is_address (plain x.0) ≡ true)
parents_take [] x fit e = absurd cc
parents_take (count ∷ rest) x fit e =
    let small = AreBytes-rest count rest fit in
    let t = items_take (λ (address : Address). address.0) table.is_address address_at address_reader count rest x small e in
    let long = all_pass (λ (address : Address). address.0) table.is_address address_at address_reader table.is_address address_long count rest x small e in
    let many : length (plain x.0) ≡ count = counted x.0 ∙ t.1 in
    let flat = flat_map-map (λ (parent : List ℕ). parent) (λ (address : Address). address.0) x.0 in (
      takes (count ∷ rest) (length (plain x.0) ∷ flat_map (λ parent. parent) (plain x.0)) x.1 fit (ap (λ (l : List ℕ). count ∷ l) t.0.parts
          ∙ ap (λ (n : ℕ). n ∷ (flat_map (λ (address : Address). address.0) x.0 ++ x.1)) (sym many)
          ∙ ap (λ (l : List ℕ). length (plain x.0) ∷ (l ++ x.1)) (sym flat)),
      list_all-map is_address (λ (address : Address). address.0) x.0 ∙ long,
    )

kind_takes : (bytes rest : List ℕ) → after_kind bytes ≡ Some rest → bytes ≡ 5 ∷ rest
kind_takes [] rest e = absurd cc
kind_takes (kind ∷ more) rest e =
    let g = chosen_some (eqb kind 5) more rest e in
    ap (λ (n : ℕ). n ∷ more) (eqb-true kind 5 g.0) ∙ ap (λ (l : List ℕ). 5 ∷ l) g.1

-- a date's bits, whose first is 0 where it is from 1970 on
is_from : (n : ℤ) → int_le (pos 0) n ≡ true → pos 0 ≤ℤ n
is_from n h = record { le = subst T (sym h) tt }

signed_fits : (n : ℕ) → n < 2 ^ 64 → fits_bits 63 (cast_signed w64 n) ≡ true
signed_fits n lt = grind (arith, nat_tests, ints)

-- what was read, but for the rules that are known only afterwards
record ArePartsOf (bytes : List ℕ) (x : CommitParts × List ℕ) : Type 0 where
  root : is_address x.0.root ≡ true
  parents : list_all is_address x.0.parents ≡ true
  height : x.0.height < 2 ^ 64
  date_fits : fits_bits 63 x.0.date ≡ true
  committer : length x.0.committer < 2 ^ 16
  message : length x.0.message < 2 ^ 16
  are : bytes ≡ commit_bytes x.0 ++ x.1

parts_take : (bytes : List ℕ) (x : CommitParts × List ℕ) → AreBytes bytes → commit_at bytes ≡ Some x → ArePartsOf bytes x
unfolding commit_at
parts_take bytes x fit e =
    let k = bind_some (after_kind bytes) (λ rest. address_at rest >>= after_root) x e in
    let r = bind_some (address_at k.0) after_root x k.2 in
    let p = bind_some (list_at address_at r.0.1) (after_parents r.0.0.0) x r.2 in
    let ps = plain p.0.0 in
    let h = bind_some (number_at p.0.1) (after_height r.0.0.0 ps) x p.2 in
    let d = bind_some (number_at h.0.1) (after_date r.0.0.0 ps h.0.0) x h.2 in
    let c = bind_some (length_prefixed_at d.0.1) (after_committer r.0.0.0 ps h.0.0 d.0.0) x d.2 in
    let m = bind_some (length_prefixed_at c.0.1) (after_message r.0.0.0 ps h.0.0 d.0.0 c.0.0) x c.2 in
    let kind = takes bytes (5 ∷ []) k.0 fit (kind_takes bytes k.0 k.1) in
    let root = address_takes k.0 r.0 kind.rest_fits r.1 in
    let parents = parents_take r.0.1 p.0 root.rest_fits p.1 in
    let height = number_takes p.0.1 h.0 parents.0.rest_fits h.1 in
    let date = number_takes h.0.1 d.0 height.0.rest_fits d.1 in
    let committer = text_takes d.0.1 c.0 date.0.rest_fits c.1 in
    let message = text_takes c.0.1 m.0 committer.0.rest_fits m.1 in
    let bits : cast_unsigned w64 (cast_signed w64 d.0.0) ≡ d.0.0 = bits_back form.Row d.0.0 date.1 in
    let found = made r.0.0.0 ps h.0.0 d.0.0 c.0.0 m.0.0 in
    let dated = subst (λ (n : ℕ). Takes h.0.1 (to_be_bytes w64 n) d.0.1) (sym bits) date.0 in
    let fifth = length_prefixed m.0.0 in
    let fourth = length_prefixed c.0.0 ++ fifth in
    let third = to_be_bytes w64 (cast_unsigned w64 found.date) ++ fourth in
    let second = to_be_bytes w64 h.0.0 ++ third in
    let first = flat_map (λ parent. parent) ps ++ second in
    let five = Takes-then d.0.1 (length_prefixed c.0.0) c.0.1 fifth m.0.1 committer.0 message.0 in
    let four = Takes-then h.0.1 (to_be_bytes w64 (cast_unsigned w64 found.date)) d.0.1 fourth m.0.1 dated five in
    let three = Takes-then p.0.1 (to_be_bytes w64 h.0.0) h.0.1 third m.0.1 height.0 four in
    let two = Takes-then r.0.1 (length ps ∷ flat_map (λ parent. parent) ps) p.0.1 second m.0.1 parents.0 three in
    let one = Takes-then k.0 r.0.0.0 r.0.1 (length ps ∷ first) m.0.1 root two in
    let all = Takes-then bytes (5 ∷ []) k.0 (r.0.0.0 ++ length ps ∷ first) m.0.1 kind one in
    subst (ArePartsOf bytes) (some_is (found, m.0.1) x m.2) (record {
      root = address_long k.0 r.0 kind.rest_fits r.1;
      parents = parents.1;
      height = height.1;
      date_fits = signed_fits d.0.0 date.1;
      committer = committer.1;
      message = message.1;
      are = all.parts;
    })

commit_there : (bytes : List ℕ) (c : CommitParts) → AreBytes bytes → commit_of bytes ≡ Some c → IsCommitIn bytes c
commit_there bytes c fit e =
    let a = bind_some (commit_at bytes) if_commit c e in
    let p = parts_take bytes a.0 fit a.1 in
    let g = chosen_some (eqb (length a.0.1) 0 && keeps_rules a.0.0) a.0.0 c a.2 in
    let end = and_parts (eqb (length a.0.1) 0) (keeps_rules a.0.0) g.0 in
    let rules = and_parts (leb (length a.0.0.parents) 2) (int_le (pos 0) a.0.0.date) end.1 in
    let nil = nil_from_length a.0.1 (eqb-true _ _ end.0) in
    let form : FitsForm a.0.0 = record {
      addresses = record { root = p.root; parents = p.parents };
      few = leb-true _ _ rules.0;
      height = p.height;
      date = is_from a.0.0.date rules.1;
      date_fits = p.date_fits;
      committer = p.committer;
      message = p.message;
    } in
    subst (IsCommitIn bytes) g.1 (form, sym (p.are ∙ ap (λ (l : List ℕ). commit_bytes a.0.0 ++ l) nil ∙ append-nil (commit_bytes a.0.0)))

pub commit_reads : (bytes : List ℕ) → AreBytes bytes → Reads (IsCommitIn bytes) (commit_of bytes)
commit_reads bytes fit =
    reads (IsCommitIn bytes) (commit_of bytes) (λ c e. commit_there bytes c fit e) (λ c held. ap commit_of (sym held.1) ∙ commit_again c held.0)

-- a commit that is found is the one that is read
pub read_again : (c : CommitParts) (bytes : List ℕ) (found : Option CommitParts) → IsCommit c → bytes ≡ commit_bytes c → Reads (IsCommitIn bytes) found → found ≡ Some c
read_again c bytes found h e is = (is c).1 (in_form c h, sym e)

-- ---- single parts

pub root_again : (c : CommitParts) → IsCommit c → root_in (commit_bytes c) ≡ Some c.root
unfolding root_in
root_again c h = ap (λ (o : Option (List ℕ × List ℕ)). o >>= λ root. Some root.0) (bytes_again 20 c.root _ (eqb-true _ _ h.addresses.root))

after_again : (parents : List (List ℕ)) (rest : List ℕ) → list_all is_address parents ≡ true
    → parents_passed (length parents ∷ (flat_map (λ parent. parent) parents ++ rest)) ≡ Some rest
after_again parents rest h = ap (option_map (λ (x : List ℕ × List ℕ). x.1)) (bytes_again (20 * length parents) (flat_map (λ parent. parent) parents) rest (addresses_length parents h))

abbrev found_height : List ℕ → Option ℕ
found_height rest = option_map (λ (x : ℕ × List ℕ). x.0) (number_at rest)

pub height_again : (c : CommitParts) → IsCommit c → height_in (commit_bytes c) ≡ Some c.height
unfolding height_in
height_again c h =
    let third = to_be_bytes w64 (cast_unsigned w64 c.date) ++ (length_prefixed c.committer ++ length_prefixed c.message) in
    ap (λ (o : Option (List ℕ × List ℕ)). o >>= λ root. parents_passed root.1 >>= found_height) (bytes_again 20 c.root _ (eqb-true _ _ h.addresses.root))
    ∙ ap (λ (o : Option (List ℕ)). o >>= found_height) (after_again c.parents (to_be_bytes w64 c.height ++ third) h.addresses.parents)
    ∙ ap (option_map (λ (x : ℕ × List ℕ). x.0)) (number_again c.height third h.limits.height)

pub one_spelling : HasOneSpelling
one_spelling a b ha hb same = some_is a b (sym (commit_again a (in_form a ha)) ∙ ap commit_of same ∙ commit_again b (in_form b hb))

pub commit_size : (c : CommitParts) → is_address c.root ≡ true → list_all is_address c.parents ≡ true → length c.parents ≤ 2 → length c.committer ≤ 32 → length c.message ≤ 8192
    → length (commit_bytes c) ≤ 65536
commit_size c root parents few committer message =
    let many = addresses_length c.parents parents in
    let date = cast_unsigned w64 c.date in
    let fifth = length_prefixed c.message in
    let fourth = length_prefixed c.committer ++ fifth in
    let third = to_be_bytes w64 date ++ fourth in
    let second = to_be_bytes w64 c.height ++ third in
    let a = length-append c.root (length c.parents ∷ (flat_map (λ parent. parent) c.parents ++ second)) in
    let b = length-append (flat_map (λ parent. parent) c.parents) second in
    let d = length-append (to_be_bytes w64 c.height) third in
    let e = length-append (to_be_bytes w64 date) fourth in
    let f = length-append (length_prefixed c.committer) fifth in
    let twenty : length c.root ≡ 20 = eqb-true _ _ root in
    omega (arith, a, b, d, e, f, many, twenty)

-- the parts in the order in which they are written
pub in_order : (root parents height date committer message : List ℕ) (n : ℕ)
    → (((5 ∷ []) ++ (root ++ n ∷ parents)) ++ (height ++ date)) ++ (committer ++ message) ≡ 5 ∷ (root ++ (n ∷ (parents ++ (height ++ (date ++ (committer ++ message))))))
in_order root parents height date committer message n = simp append_assoc

-- height and date, written one after the other
pub numbers_join : (a b c : List ℕ) (m n : ℕ) → b ≡ a ++ to_be_bytes w64 m → c ≡ b ++ to_be_bytes w64 n → c ≡ a ++ (to_be_bytes w64 m ++ to_be_bytes w64 n)
numbers_join a b c m n e f = f ∙ ap (λ (l : List ℕ). l ++ to_be_bytes w64 n) e ∙ append_assoc a (to_be_bytes w64 m) (to_be_bytes w64 n)

-- the parts written one after another are the commit's bytes
pub commit_join : (commit : CommitRecord) (a b d e f all : List ℕ) (bits : ℕ) → bits ≡ cast_unsigned w64 commit.date → a ≡ [] → b ≡ a ++ 5 ∷ []
    → d ≡ b ++ (commit.root.0 ++ length commit.parents ∷ flat_map (λ parent. parent) (map (λ (parent : Address). parent.0) commit.parents))
    → e ≡ d ++ (to_be_bytes w64 commit.height ++ to_be_bytes w64 bits)
    → f ≡ e ++ (length_prefixed commit.committer ++ length_prefixed commit.message) → all ≡ f → all ≡ commit_bytes (parts_of commit)
commit_join commit a b d e f all bits date_is at_first with_kind with_links with_numbers with_texts same =
    let flat = flat_map (λ parent. parent) (map (λ (parent : Address). parent.0) commit.parents) in
    let height = to_be_bytes w64 commit.height in
    let date = to_be_bytes w64 (cast_unsigned w64 commit.date) in
    let texts = length_prefixed commit.committer ++ length_prefixed commit.message in
    let one = with_kind ∙ ap (λ (l : List ℕ). l ++ 5 ∷ []) at_first in
    let two = with_links ∙ ap (λ (l : List ℕ). l ++ (commit.root.0 ++ length commit.parents ∷ flat)) one in
    let three = with_numbers ∙ ap (λ (n : ℕ). d ++ (height ++ to_be_bytes w64 n)) date_is ∙ ap (λ (l : List ℕ). l ++ (height ++ date)) two in
    same ∙ with_texts ∙ ap (λ (l : List ℕ). l ++ texts) three ∙ in_order commit.root.0 flat height date (length_prefixed commit.committer) (length_prefixed commit.message) (length commit.parents)
    ∙ ap (λ (n : ℕ). 5 ∷ (commit.root.0 ++ (n ∷ (flat ++ (height ++ (date ++ texts)))))) (sym (length-map commit.parents (λ (parent : Address). parent.0)))
