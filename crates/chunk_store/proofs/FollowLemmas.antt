use Rattle.std.proofs.Common.{◌≡◌, inl, inr, ℕ, Bool, true, false, List, [], ◌∷◌, ◌++◌, length, take, Option, Some, None, is_some, if◌then◌else◌, sym, refl, ap, ◌∙◌, subst}
use Rattle.std.proofs.lemmas.List.{append-nil, append_assoc, take_at}
use Rattle.chunk_store.specs.Chunks.{Chunk, chunk_bytes, Listed, Lists, Extends, Agree, AreNamed}
use Rattle.chunk_store.specs.Drafts.{DraftParts, chunks_of, Longer}
use Rattle.chunk_store.specs.Laws.{ChunksFollow, DraftsFollow}
use Rattle.chunk_store.proofs.ChunkLemmas.{either, either_some, at_join, left_first, found_listed, listed_is, listed_left, listed_right, single_join, single_agree}
use Rattle.chunk_store.proofs.DraftLemmas.{same_parts}

listed_named : (a : List ℕ → List ℕ) (cs : List Chunk) (k bytes : List ℕ) → AreNamed a cs → Listed cs k bytes → a bytes ≡ k
listed_named a [] k bytes named none = absurd none
listed_named a (c ∷ cs) k bytes named (inl here) = ap a (sym here.1) ∙ named.0 ∙ here.0
listed_named a (c ∷ cs) k bytes named (inr later) = listed_named a cs k bytes named.1 later

named_join : (a : List ℕ → List ℕ) (xs ys : List Chunk) → AreNamed a xs → AreNamed a ys → AreNamed a (xs ++ ys)
named_join a [] ys left right = right
named_join a (x ∷ xs) ys left right = (left.0, named_join a xs ys left.1 right)

named_fewer : (a : List ℕ → List ℕ) (xs ys : List Chunk) → Lists xs ys → AreNamed a ys → AreNamed a xs
named_fewer a [] ys lists named = tt
named_fewer a (x ∷ xs) ys lists named =
    (listed_named a ys x.0 x.1 named (lists x.0 x.1 (inl (refl, refl))), named_fewer a xs ys (λ k bytes listed. lists k bytes (inr listed)) named)

right_case : (o p : Option (List ℕ)) (bytes : List ℕ) → ((others : List ℕ) → o ≡ Some others → others ≡ bytes) → p ≡ Some bytes → either o p ≡ Some bytes
right_case None p bytes agrees held = held
right_case (Some x) p bytes agrees held = ap Some (agrees x refl)

extends_right : (xs ys : List Chunk) → Agree (chunk_bytes xs) (chunk_bytes ys) → Extends (chunk_bytes ys) (chunk_bytes (xs ++ ys))
extends_right xs ys agree k bytes held =
    at_join xs ys k ∙ right_case (chunk_bytes xs k) (chunk_bytes ys k) bytes (λ others other. agree k others bytes other held) held

joined_extends : (xs more ys : List Chunk) → Extends (chunk_bytes xs) (chunk_bytes more) → Agree (chunk_bytes more) (chunk_bytes ys)
    → Extends (chunk_bytes (xs ++ ys)) (chunk_bytes (more ++ ys))
joined_extends xs more ys extends agree k bytes held =
    elim (either_some (chunk_bytes xs k) (chunk_bytes ys k) bytes (sym (at_join xs ys k) ∙ held)) [
      | inl left ↦ left_first more ys k bytes (extends k bytes left)
      | inr right ↦ extends_right more ys agree k bytes right
    ]

pub chunks_follow : ChunksFollow
chunks_follow = record {
  is_listed = found_listed;
  is_found = listed_is;
  is_named = λ a cs k bytes named held. listed_named a cs k bytes named (found_listed cs k bytes held);
  named_join = named_join;
  named_fewer = named_fewer;
  listed_either = λ xs ys. (listed_left xs ys, listed_right xs ys);
  lists_extends = λ xs ys single lists k bytes held. listed_is ys k bytes single (lists k bytes (found_listed xs k bytes held));
  extends_left = left_first;
  extends_right = extends_right;
  joined_extends = joined_extends;
  single_join = single_join;
  single_agrees = single_agree;
}

put_case : (t : Bool) (d : DraftParts) (x : Chunk) → Longer d (if t then d else record { base = d.base; own = d.own ++ x ∷ [] })
put_case true d x = record { more = []; base = refl; own = sym (append-nil d.own) }
put_case false d x = record { more = x ∷ []; base = refl; own = refl }

longer_extends : (d e : DraftParts) → Longer d e → Extends (chunks_of d) (chunks_of e)
longer_extends d e longer k bytes held =
    ap (λ l. chunk_bytes (l ++ e.own) k) longer.base ∙ ap (λ l. chunk_bytes (d.base ++ l) k) longer.own
    ∙ ap (λ l. chunk_bytes l k) (sym (append_assoc d.base d.own longer.more)) ∙ left_first (d.base ++ d.own) longer.more k bytes held

pub drafts_follow : DraftsFollow
drafts_follow = record {
  longer_itself = λ d. record { more = []; base = refl; own = sym (append-nil d.own) };
  in_steps = λ c d e one two. record {
    more = one.more ++ two.more;
    base = two.base ∙ one.base;
    own = two.own ∙ ap (λ l. l ++ two.more) one.own ∙ append_assoc c.own one.more two.more;
  };
  longer_put = λ a bytes d. put_case (is_some (chunks_of d (a bytes))) d (a bytes, bytes);
  longer_extends = longer_extends;
  comes_back = λ d e longer. same_parts e.base (take (length d.own) e.own) d.base d.own longer.base
      (ap (take (length d.own)) longer.own ∙ take_at d.own longer.more (length d.own) refl);
  still_named = λ a d e longer named. subst (AreNamed a) (sym longer.base) named;
  all_named = λ a d named sound. named_join a d.base d.own named sound.named;
}
