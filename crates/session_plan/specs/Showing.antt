-- Replies that can be printed and read back.
use Rattle.std.specs.Prelude.{◌≡◌, ◌⊎◌, ◌^◌, ℕ, Bool, true, false, ◌&&◌, length, nat_lt, is_some}
use Rattle.std.specs.List.{list_all}
use Rattle.script_text.specs.Output.{refusal_text}
use Rattle.script_text.specs.Shown.{is_one_line, is_printable_answer, is_printable_reply, is_shown_reply}
use Rattle.script_text.specs.declared.replies.Reply.{Reply}
use Rattle.script_text.specs.declared.replies.Reply.TheVariants.{Done, Count, Rows, Refused, Syntax, Collided}

abbrev pub is_sound_reply : Reply → Bool
is_sound_reply reply = is_printable_reply reply && is_shown_reply reply

-- a reply that can be printed and read back, and that tells neither want of memory nor a collision
abbrev pub is_plain_reply : Reply → Bool
is_plain_reply Done = true
is_plain_reply (Count rows) = true
is_plain_reply (Rows answer) = is_printable_answer answer && (nat_lt (length answer.rows) (2 ^ 64) && list_all is_one_line answer.names)
is_plain_reply (Refused number) = is_some (refusal_text number) && nat_lt 3 number
is_plain_reply (Syntax at) = true
is_plain_reply (Collided clash) = false

-- the reply that is due, which is plain; or want of memory, by this number
abbrev pub IsDue : ℕ → Reply → Reply → Type 0
IsDue number due reply = ((is_plain_reply due ≡ true) × (reply ≡ due)) ⊎ (reply ≡ Refused number)
