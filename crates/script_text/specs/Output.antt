-- The text of a run: replies by session, then the order of moments, then the branches.
use Rattle.std.specs.Prelude.{ℕ, ◌==◌, ◌+◌, ◌-◌, List, [], ◌∷◌, ◌++◌, length, codes, slice_get, slice_index_or, unwrap_or, Option, Some, None, if◌then◌else◌}
use Rattle.std.specs.List.{join_with_byte, flat_map}
use Rattle.std.specs.Option.{option_and_then}
use Rattle.std.specs.Fmt.{decimal}
use Rattle.hex.specs.Hex.{encode_lower}
use Rattle.tuple_codec.specs.AddressTexts.{address_text}
use Rattle.tuple_codec.specs.declared.addresses.Address.{Address}
use Rattle.tuple_codec.specs.declared.answers.Answer.{Answer}
use Rattle.tuple_codec.specs.declared.values.SqlType.{SqlType}
use Rattle.tuple_codec.specs.declared.values.Value.{Value}
use Rattle.chunk_store.specs.declared.faults.Clash.{Clash}
use Rattle.script_text.specs.declared.outputs.BranchLine.{BranchLine}
use Rattle.script_text.specs.declared.outputs.RunText.{RunText}
use Rattle.script_text.specs.declared.outputs.StopText.{StopText}
use Rattle.script_text.specs.declared.replies.Reply.{Reply}
use Rattle.script_text.specs.declared.replies.Reply.TheVariants.{Done, Count, Rows, Refused, Syntax, Collided}
use Rattle.script_text.specs.declared.scripts.Moment.{Moment}
use Rattle.sql_text.specs.Values.{row_text}

abbrev pub newline : List ℕ
newline = 10 ∷ []

-- a line feed and a row, for each row
abbrev pub row_lines : List SqlType → List (List Value) → List ℕ
row_lines kinds [] = []
row_lines kinds (row ∷ rows) = newline ++ row_text kinds row ++ row_lines kinds rows

abbrev pub answer_text : Answer → List ℕ
answer_text answer = codes "rows " ++ decimal (length answer.rows) ++ newline ++ join_with_byte 44 answer.names ++ row_lines answer.kinds answer.rows

-- the text of a refusal; none for a number that is no refusal
abbrev pub refusal_text : ℕ → Option (List ℕ)
refusal_text number =
    if number == 1 then Some (codes "out of memory") else (
    if number == 2 then Some (codes "out of memory after start") else (
    if number == 3 then Some (codes "collision") else (
    if number == 1048 then Some (codes "column cannot be null") else (
    if number == 1050 then Some (codes "table exists") else (
    if number == 1054 then Some (codes "unknown column") else (
    if number == 1062 then Some (codes "duplicate key") else (
    if number == 1064 then Some (codes "syntax") else (
    if number == 1136 then Some (codes "column count") else (
    if number == 1146 then Some (codes "no such table") else (
    if number == 1213 then Some (codes "retry transaction") else (
    if number == 1264 then Some (codes "out of range") else (
    if number == 1406 then Some (codes "data too long") else (
    if number == 1451 then Some (codes "parent row in use") else (
    if number == 1452 then Some (codes "no parent row") else (
    if number == 3819 then Some (codes "check violated") else (
    if number == 9001 then Some (codes "type mismatch") else (
    if number == 9002 then Some (codes "unresolved conflicts") else (
    if number == 9003 then Some (codes "constraint violations") else (
    if number == 9004 then Some (codes "no such branch or commit") else (
    if number == 9005 then Some (codes "branch exists") else (
    if number == 9006 then Some (codes "uncommitted changes") else (
    if number == 9007 then Some (codes "nothing to commit") else (
    if number == 9008 then Some (codes "bad procedure argument") else (
    if number == 9009 then Some (codes "schema conflict") else (
    if number == 9010 then Some (codes "limit") else (
    if number == 9011 then Some (codes "unsettled tables") else (
    if number == 9012 then Some (codes "no merge in progress") else (
    if number == 9013 then Some (codes "outside the subset") else (
    if number == 9014 then Some (codes "branch is checked out") else (
    if number == 9015 then Some (codes "commit has not one parent") else (
    if number == 9016 then Some (codes "pick conflicts") else (
    if number == 9017 then Some (codes "not a fast-forward") else
    None))))))))))))))))))))))))))))))))

-- the address that two byte strings have, and both of them, each behind a space
abbrev pub clash_text : Clash → List ℕ
clash_text clash = codes " " ++ address_text clash.address.0 ++ codes " " ++ encode_lower clash.first ++ codes " " ++ encode_lower clash.second

abbrev pub reply_text : Reply → List ℕ
reply_text Done = codes "ok"
reply_text (Count rows) = codes "ok " ++ decimal rows
reply_text (Rows answer) = answer_text answer
reply_text (Refused number) = codes "refused " ++ decimal number ++ codes " " ++ unwrap_or (refusal_text number) []
reply_text (Syntax at) = codes "refused 1064 syntax at byte " ++ decimal at
reply_text (Collided clash) = codes "refused 3 collision" ++ clash_text clash

-- the replies of a session, each behind its statement's number
abbrev pub reply_lines : ℕ → List Reply → List ℕ
reply_lines number [] = []
reply_lines number (reply ∷ replies) = decimal number ++ codes " " ++ reply_text reply ++ newline ++ reply_lines (number + 1) replies

abbrev pub session_lines : List (List ℕ) → List (List Reply) → List ℕ
session_lines [] replies = []
session_lines names [] = []
session_lines (name ∷ names) (replies ∷ more) = codes "session " ++ name ++ newline ++ reply_lines 1 replies ++ session_lines names more

-- the moments, each by its session's name and its statement's number
abbrev pub moment_text : List (List ℕ) → Moment → List ℕ
moment_text names moment = codes " " ++ slice_index_or names moment.session [] ++ codes "/" ++ decimal moment.statement

abbrev pub order_line : List (List ℕ) → List Moment → List ℕ
order_line names order = codes "order" ++ flat_map (moment_text names) order ++ newline

-- the commit of a merge in progress, if there is one
abbrev pub merging_text : Option Address → List ℕ
merging_text None = []
merging_text (Some commit) = codes " merging " ++ address_text commit.0

-- a branch's name, and the addresses of its newest commit, of its working and of its staged database
abbrev pub branch_line : BranchLine → List ℕ
branch_line branch =
    codes "branch " ++ branch.name ++ codes " " ++ address_text branch.rec.head.0 ++ codes " " ++ address_text branch.rec.working.0
    ++ codes " " ++ address_text branch.rec.staged.0 ++ merging_text branch.rec.merging ++ newline

abbrev pub text : RunText → List ℕ
text run = session_lines run.names run.replies ++ order_line run.names run.order ++ flat_map branch_line run.branches

-- what a statement met that no rule of SQL tells, as its reply says: a want of memory before it took a moment, one after
-- its start, or two byte strings of one address
pub data Shortage : Type 0 where
  AtOnce : Shortage
  AfterStart : Shortage
  Clashes : Clash → Shortage

abbrev pub shortage_of : ℕ → Option Shortage
shortage_of number = if number == 1 then Some AtOnce else (if number == 2 then Some AfterStart else None)

abbrev pub shortage : Reply → Option Shortage
shortage Done = None
shortage (Count rows) = None
shortage (Rows answer) = None
shortage (Refused number) = shortage_of number
shortage (Syntax at) = None
shortage (Collided clash) = Some (Clashes clash)

-- which statements were answered so, by session and by the statement's number
abbrev pub shortages_in : List (List Reply) → ℕ → ℕ → Option Shortage
shortages_in replies session statement = option_and_then shortage (slice_get (slice_index_or replies session []) (statement - 1))

-- ---- an order that can't be followed

abbrev pub shortage_text : Shortage → List ℕ
shortage_text AtOnce = codes "1"
shortage_text AfterStart = codes "2"
shortage_text (Clashes clash) =
    codes "3:" ++ address_text clash.address.0 ++ codes ":" ++ encode_lower clash.first ++ codes ":" ++ encode_lower clash.second

-- a statement that was answered so, by its session's name and its number
abbrev pub refused_text : List ℕ → ℕ → Option Shortage → List ℕ
refused_text name number None = []
refused_text name number (Some short) = codes " " ++ name ++ codes "/" ++ decimal number ++ codes ":" ++ shortage_text short

abbrev pub refused_texts : List ℕ → ℕ → List Reply → List ℕ
refused_texts name number [] = []
refused_texts name number (reply ∷ replies) = refused_text name number (shortage reply) ++ refused_texts name (number + 1) replies

abbrev pub all_refused : List (List ℕ) → List (List Reply) → List ℕ
all_refused [] replies = []
all_refused names [] = []
all_refused (name ∷ names) (replies ∷ more) = refused_texts name 1 replies ++ all_refused names more

-- the item that can't be followed, and what was answered before it by no rule
abbrev pub stop_text : StopText → List ℕ
stop_text stop = codes "order item " ++ decimal stop.item ++ newline ++ codes "refused" ++ all_refused stop.names stop.replies ++ newline
