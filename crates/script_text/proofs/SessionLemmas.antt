-- What is left of sessions behind the shorter of two lists.
use Rattle.std.proofs.Common.{◌≡◌, ℕ, ◌≤◌, ◌⊎◌, inl, inr, List, [], ◌∷◌, length, drop, refl, min}
use Rattle.std.proofs.lemmas.List.{drop_all}
use Rattle.script_text.specs.Output.{all_refused, session_lines}
use Rattle.script_text.specs.declared.replies.Reply.{Reply}
use Rattle.sql_text.proofs.CommaLemmas.{shorter}

-- a text of sessions, which ends with either list
record IsOfBoth (written : List (List ℕ) → List (List Reply) → List ℕ) : Type 0 where
  no_name : (replies : List (List Reply)) → written [] replies ≡ []
  no_reply : (names : List (List ℕ)) → written names [] ≡ []

past_one : (written : List (List ℕ) → List (List Reply) → List ℕ) (both : IsOfBoth written) (names : List (List ℕ)) (replies : List (List Reply)) (count : ℕ)
    → (length names ≤ count) ⊎ (length replies ≤ count) → written (drop count names) (drop count replies) ≡ []
past_one written both names replies count (inl past) = rw (drop_all count names past) (both.no_name (drop count replies))
past_one written both names replies count (inr past) = rw (drop_all count replies past) (both.no_reply (drop count names))

no_lines : (names : List (List ℕ)) → session_lines names [] ≡ []
no_lines [] = refl
no_lines (name ∷ names) = refl

no_refused : (names : List (List ℕ)) → all_refused names [] ≡ []
no_refused [] = refl
no_refused (name ∷ names) = refl

pub sessions_end : (names : List (List ℕ)) (replies : List (List Reply)) (count : ℕ) → count ≡ min (length names) (length replies)
    → session_lines (drop count names) (drop count replies) ≡ []
sessions_end names replies count end = past_one session_lines (record { no_name = λ replies. refl; no_reply = no_lines }) names replies count (shorter (length names) (length replies) count end)

pub refused_end : (names : List (List ℕ)) (replies : List (List Reply)) (count : ℕ) → count ≡ min (length names) (length replies)
    → all_refused (drop count names) (drop count replies) ≡ []
refused_end names replies count end = past_one all_refused (record { no_name = λ replies. refl; no_reply = no_refused }) names replies count (shorter (length names) (length replies) count end)
