-- How drafts grow by chunks of one kind.
use Rattle.std.proofs.Common.{◌≡◌, ◌≤◌, ℕ, Bool, true, false, List, [], ◌∷◌, ◌++◌, ◌+◌, ◌||◌, cond, is_some, refl, sym, ap, ◌∙◌, subst, arith, Result, Ok, Err}
use Rattle.std.proofs.lemmas.List.{append-nil, append_assoc}
use Rattle.tuple_codec.specs.declared.addresses.Address.{Address}
use Rattle.chunk_store.specs.declared.faults.PutFault.{PutFault}
use Rattle.chunk_store.specs.Chunks.{Chunk}
use Rattle.chunk_store.specs.Drafts.{AreOfKind, Drafting, DraftParts, Grows, Puts, chunks_of, pages_in}
use Rattle.chunk_store.specs.Kinds.{is_either}
use Rattle.chunk_store.specs.Laws.{DraftsGrow}

kinds_join : (kind : List ℕ → Bool) (xs ys : List Chunk) → AreOfKind kind xs → AreOfKind kind ys → AreOfKind kind (xs ++ ys)
kinds_join kind [] ys one two = two
kinds_join kind (x ∷ xs) ys one two = (one.0, kinds_join kind xs ys one.1 two)

kinds_wider : (kind more : List ℕ → Bool) (xs : List Chunk) → ((bytes : List ℕ) → kind bytes ≡ true → more bytes ≡ true) → AreOfKind kind xs → AreOfKind more xs
kinds_wider kind more [] wider all = tt
kinds_wider kind more (x ∷ xs) wider all = (wider x.1 all.0, kinds_wider kind more xs wider all.1)

pub grows_itself : (kind : List ℕ → Bool) (d : Drafting) → Grows kind d d
grows_itself kind d = record { more = []; base = refl; own = sym (append-nil d.chunks.own); segments = refl; kinds = tt; pages = omega arith }

wider : (kind more : List ℕ → Bool) (d e : Drafting) → ((bytes : List ℕ) → kind bytes ≡ true → more bytes ≡ true) → Grows kind d e → Grows more d e
wider kind more d e is grows = record { more = grows.more; base = grows.base; own = grows.own; segments = grows.segments; kinds = kinds_wider kind more grows.more is grows.kinds; pages = grows.pages }

left_or : (t u : Bool) → t ≡ true → t || u ≡ true
left_or true u is = refl
left_or false u is = cc

right_or : (t u : Bool) → u ≡ true → t || u ≡ true
right_or true u is = refl
right_or false u is = is

-- a draft with other chunks and no fewer pages grew, if its chunks are those that were there or one more
grows_by : (kind : List ℕ → Bool) (k bytes : List ℕ) (d e : Drafting) (t : Bool) → kind bytes ≡ true
    → e.chunks ≡ cond t d.chunks (record { base = d.chunks.base; own = d.chunks.own ++ (k, bytes) ∷ [] }) → e.segments ≡ d.segments → pages_in d ≤ pages_in e → Grows kind d e
grows_by kind k bytes d e true is same over pages = record {
  more = [];
  base = ap (λ (p : DraftParts). p.base) same;
  own = ap (λ (p : DraftParts). p.own) same ∙ sym (append-nil d.chunks.own);
  segments = over;
  kinds = tt;
  pages = pages;
}
grows_by kind k bytes d e false is one over pages = record {
  more = (k, bytes) ∷ [];
  base = ap (λ (p : DraftParts). p.base) one;
  own = ap (λ (p : DraftParts). p.own) one;
  segments = over;
  kinds = (is, tt);
  pages = pages;
}

by_put : (kind : List ℕ → Bool) (a : List ℕ → List ℕ) (bytes : List ℕ) (d e : Drafting) (result : Result Address PutFault) → kind bytes ≡ true → Puts a bytes d e result → Grows kind d e
by_put kind a bytes d e (Ok k) is puts = grows_by kind (a bytes) bytes d e (is_some (chunks_of d.chunks (a bytes))) is puts.exact puts.segments puts.pages.none_lost
by_put kind a bytes d e (Err fault) is puts = subst (Grows kind d) (sym puts.same) (grows_itself kind d)

pub drafts_grow : DraftsGrow
drafts_grow = record {
  itself = grows_itself;
  in_steps = λ kind c d e one two. record {
    more = one.more ++ two.more;
    base = two.base ∙ one.base;
    own = two.own ∙ ap (λ l. l ++ two.more) one.own ∙ append_assoc c.chunks.own one.more two.more;
    segments = two.segments ∙ one.segments;
    kinds = kinds_join kind one.more two.more one.kinds two.kinds;
    pages = let first = one.pages in let second = two.pages in omega arith;
  };
  wider = wider;
  either_left = λ kind other d e. wider kind (is_either kind other) d e (λ bytes is. left_or (kind bytes) (other bytes) is);
  either_right = λ kind other d e. wider other (is_either kind other) d e (λ bytes is. right_or (kind bytes) (other bytes) is);
  is_longer = λ kind d e grows. record { more = grows.more; base = grows.base; own = grows.own };
  by_put = by_put;
}
