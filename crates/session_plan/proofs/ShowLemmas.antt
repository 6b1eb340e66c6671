-- Plain replies, and what is due.
use Rattle.std.proofs.Common.{◌≡◌, refl, sym, ◌∙◌, ap, subst, inl, inr, ℕ, ◌==◌, true, false, is_some, nat_lt, List, None, arith}
use Rattle.std.proofs.lemmas.Bool.Decides.{nat_tests}
use Rattle.std.proofs.lemmas.Bool.{and_parts as both}
use Rattle.script_text.specs.Collisions.{TellsTruly}
use Rattle.script_text.specs.Output.{refusal_text, shortage, shortage_of}
use Rattle.script_text.specs.declared.replies.Reply.{Reply}
use Rattle.script_text.specs.declared.replies.Reply.TheVariants.{Done, Count, Rows, Refused, Syntax, Collided}
use Rattle.session_plan.specs.Showing.{IsDue, is_plain_reply}

apart_of : (number : ℕ) → nat_lt 3 number ≡ true → shortage_of number ≡ None
apart_of number h =
    let first : (number == 1) ≡ false = grind (arith, nat_tests) in
    let second : (number == 2) ≡ false = grind (arith, nat_tests) in
    rw (first, second) refl

-- a plain reply tells neither want of memory nor a collision
pub plain_told : (reply : Reply) → is_plain_reply reply ≡ true → shortage reply ≡ None
plain_told Done h = refl
plain_told (Count rows) h = refl
plain_told (Rows answer) h = refl
plain_told (Refused number) h = apart_of number (both (is_some (refusal_text number)) (nat_lt 3 number) h).1
plain_told (Syntax at) h = refl
plain_told (Collided clash) h = absurd (cc)

truly_plain : (address : List ℕ → List ℕ) (reply : Reply) → is_plain_reply reply ≡ true → TellsTruly address reply
truly_plain address Done h = tt
truly_plain address (Count rows) h = tt
truly_plain address (Rows answer) h = tt
truly_plain address (Refused number) h = tt
truly_plain address (Syntax at) h = tt
truly_plain address (Collided clash) h = absurd (cc)

-- what is due tells truly
pub due_truly : (address : List ℕ → List ℕ) (starved : ℕ) (due reply : Reply) → IsDue starved due reply → TellsTruly address reply
due_truly address starved due reply (inl plain) = subst (λ (r : Reply). TellsTruly address r) (sym plain.1) (truly_plain address due plain.0)
due_truly address starved due reply (inr is) = subst (λ (r : Reply). TellsTruly address r) (sym is) tt
