-- What statements answer.
use Rattle.std.specs.Prelude.{ℕ, ◌==◌, pos, Bool, true, false, List, [], ◌∷◌, map, Ok, Err, if◌then◌else◌}
use Rattle.tuple_codec.specs.declared.answers.Answer.{Answer}
use Rattle.tuple_codec.specs.declared.values.SqlType.{SqlType}
use Rattle.tuple_codec.specs.declared.values.Value.{Value}
use Rattle.tuple_codec.specs.declared.values.Value.TheVariants as cell
use Rattle.script_text.specs.declared.replies.Reply.{Reply}
use Rattle.script_text.specs.declared.replies.Reply.TheVariants as print
use Rattle.sql_ast.specs.declared.faults.Refusal.{Refusal}
use Rattle.sql_values.specs.Kinds.{column_type}
use Rattle.sql_values.specs.declared.kinds.Kind.TheVariants as kind
use Rattle.expr_eval.specs.Binding.{Outcome}

abbrev pub done : Reply
done = print.Done

abbrev pub counted : ℕ → Reply
counted rows = print.Count rows

abbrev pub shown : Answer → Reply
shown answer = print.Rows answer

abbrev pub refused : ℕ → Reply
refused number = print.Refused number

-- a text that is no statement: 1064 tells at which byte
abbrev pub refused_by : Refusal → Reply
refused_by refusal = if refusal.number == 1064 then print.Syntax refusal.at else refused refusal.number

abbrev pub is_refusal : Reply → Bool
is_refusal print.Done = false
is_refusal (print.Count rows) = false
is_refusal (print.Rows answer) = false
is_refusal (print.Refused number) = true
is_refusal (print.Syntax place) = true
is_refusal (print.Collided clash) = true

abbrev pub shown_or_refused : Outcome Answer → Reply
shown_or_refused (Ok answer) = shown answer
shown_or_refused (Err number) = refused number

-- ---- what calls answer: one row

pub record Field : Type 0 where
  pub name : List ℕ
  pub kind : SqlType
  pub value : Value

abbrev pub number_field : List ℕ → ℕ → Field
number_field name number = record { name = name; kind = column_type kind.Int; value = cell.Int (pos number) }

abbrev pub text_field : List ℕ → List ℕ → Field
text_field name text = record { name = name; kind = column_type kind.Text; value = cell.Text text }

abbrev pub one_row : List Field → Reply
one_row fields = shown (record {
  names = map (λ field. field.name) fields;
  kinds = map (λ field. field.kind) fields;
  rows = map (λ field. field.value) fields ∷ [];
})
