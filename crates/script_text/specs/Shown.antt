-- What can be printed, and what a text tells of the run that it was printed from.
use Rattle.std.specs.Prelude.{◌≡◌, ℕ, Bool, true, false, ◌==◌, ◌&&◌, ◌^◌, ◌<◌, List, [], ◌∷◌, length, map, is_some, nat_lt, not}
use Rattle.std.specs.Str.{bytes_eq}
use Rattle.std.specs.List.{list_all, IsDistinct}
use Rattle.tuple_codec.specs.declared.answers.Answer.{Answer}
use Rattle.tuple_codec.specs.declared.values.SqlType.{SqlType}
use Rattle.tuple_codec.specs.declared.values.SqlType.TheVariants as kind
use Rattle.tuple_codec.specs.declared.values.Value.{Value}
use Rattle.tuple_codec.specs.declared.values.Value.TheVariants as cell
use Rattle.script_text.specs.Input.{is_name_byte, is_name}
use Rattle.script_text.specs.Output.{reply_text, refusal_text, shortages_in, stop_text, text}
use Rattle.script_text.specs.declared.outputs.RunText.{RunText}
use Rattle.script_text.specs.declared.outputs.StopText.{StopText}
use Rattle.script_text.specs.declared.replies.Reply.{Reply}
use Rattle.script_text.specs.declared.replies.Reply.TheVariants.{Done, Count, Rows, Refused, Syntax, Collided}
use Rattle.script_text.specs.declared.scripts.Moment.{Moment}

-- a decimal stands only under a type that tells its scale
abbrev pub is_printable_value : SqlType → Value → Bool
is_printable_value (kind.Decimal digits scale) value = true
is_printable_value type (cell.Decimal number) = false
is_printable_value type value = true

-- a value for each column
abbrev pub is_printable_row : List SqlType → List Value → Bool
is_printable_row [] [] = true
is_printable_row (type ∷ kinds) (value ∷ values) = is_printable_value type value && is_printable_row kinds values
is_printable_row kinds values = false

-- one type for each name, and rows of these types
abbrev pub is_printable_answer : Answer → Bool
is_printable_answer answer = length answer.names == length answer.kinds && list_all (is_printable_row answer.kinds) answer.rows

abbrev pub is_printable_reply : Reply → Bool
is_printable_reply Done = true
is_printable_reply (Count rows) = true
is_printable_reply (Rows answer) = is_printable_answer answer
is_printable_reply (Refused number) = is_some (refusal_text number)
is_printable_reply (Syntax at) = true
is_printable_reply (Collided clash) = true

abbrev pub is_printable_moment : ℕ → Moment → Bool
is_printable_moment sessions moment = nat_lt moment.session sessions

-- what `print_output` asks of a run
pub record IsPrintable (run : RunText) : Type 0 where
  pub lists : length run.replies ≡ length run.names
  pub replies : list_all (list_all is_printable_reply) run.replies ≡ true
  pub moments : list_all (is_printable_moment (length run.names)) run.order ≡ true

-- without a line feed
abbrev pub is_one_line : List ℕ → Bool
is_one_line bytes = list_all (λ byte. not (byte == 10)) bytes

abbrev pub are_bytes : List ℕ → Bool
are_bytes bytes = list_all (λ byte. nat_lt byte 256) bytes

-- twenty bytes
abbrev pub is_whole_address : List ℕ → Bool
is_whole_address bytes = length bytes == 20 && are_bytes bytes

abbrev pub is_shown_reply : Reply → Bool
is_shown_reply Done = true
is_shown_reply (Count rows) = true
is_shown_reply (Rows answer) = nat_lt (length answer.rows) (2 ^ 64) && list_all is_one_line answer.names
is_shown_reply (Refused number) = is_some (refusal_text number)
is_shown_reply (Syntax at) = true
is_shown_reply (Collided clash) = is_whole_address clash.address.0 && are_bytes clash.first && are_bytes clash.second

abbrev pub is_shown_name : List ℕ → Bool
is_shown_name name = is_name name && list_all is_name_byte name

abbrev pub is_shown_moment : ℕ → Moment → Bool
is_shown_moment sessions moment = nat_lt moment.session sessions && nat_lt moment.statement (2 ^ 32)

-- what every printed run has, and by which its text is read back
pub record IsShown (run : RunText) : Type 0 where
  pub names : list_all is_shown_name run.names ≡ true
  pub distinct : IsDistinct bytes_eq run.names
  pub lists : length run.replies ≡ length run.names
  pub replies : list_all (list_all is_shown_reply) run.replies ≡ true
  pub moments : list_all (is_shown_moment (length run.names)) run.order ≡ true

-- the replies as they are printed
abbrev pub reply_texts : List (List Reply) → List (List (List ℕ))
reply_texts replies = map (λ session. map reply_text session) replies

-- two runs of one text have the same sessions, the same printed replies, the same statements refused for want of memory or
-- for a collision, with the same byte strings, and the same order of moments
pub record IsSameShown (a b : RunText) : Type 0 where
  pub names : a.names ≡ b.names
  pub replies : reply_texts a.replies ≡ reply_texts b.replies
  pub shortages : (session statement : ℕ) → shortages_in a.replies session statement ≡ shortages_in b.replies session statement
  pub order : a.order ≡ b.order

abbrev pub HasOneReading : Type 0
HasOneReading = (a b : RunText) → IsShown a → IsShown b → text a ≡ text b → IsSameShown a b

-- what a printed stop has, and by which its text is read back
pub record IsShownStop (stop : StopText) : Type 0 where
  pub item : stop.item < 2 ^ 64
  pub names : list_all is_shown_name stop.names ≡ true
  pub distinct : IsDistinct bytes_eq stop.names
  pub lists : length stop.replies ≡ length stop.names
  pub replies : list_all (list_all is_shown_reply) stop.replies ≡ true
  pub few : list_all (λ session. nat_lt (length session) (2 ^ 32)) stop.replies ≡ true

-- two stops of one text, of sessions with the same names, are at the same item, and the same statements before it were refused
-- for want of memory or for a collision, with the same byte strings
pub record IsSameStop (a b : StopText) : Type 0 where
  pub item : a.item ≡ b.item
  pub shortages : (session statement : ℕ) → shortages_in a.replies session statement ≡ shortages_in b.replies session statement

abbrev pub HasOneStop : Type 0
HasOneStop = (a b : StopText) → IsShownStop a → IsShownStop b → a.names ≡ b.names → stop_text a ≡ stop_text b → IsSameStop a b
