-- Scripts as they are read.
use Rattle.std.specs.Prelude.{◌≡◌, ℕ, ◌≤◌, Bool, true, ◌&&◌, List, length, nat_le, nat_lt}
use Rattle.std.specs.List.{list_all, IsDistinct}
use Rattle.std.specs.Str.{bytes_eq}
use Rattle.tuple_codec.specs.Texts.{is_utf8}
use Rattle.script_text.specs.Input.{most_statement_bytes, most_statements}
use Rattle.script_text.specs.Shown.{is_shown_name}
use Rattle.script_text.specs.declared.scripts.Line.{Line}
use Rattle.script_text.specs.declared.scripts.Script.{Script}

abbrev pub is_line_within : Script → Line → Bool
is_line_within script line = nat_lt line.session (length script.names)

-- UTF-8 of no more bytes than a statement may have
abbrev pub is_statement_text : List ℕ → Bool
is_statement_text text = is_utf8 text && nat_le (length text) most_statement_bytes

abbrev pub has_statement : Line → Bool
has_statement line = is_statement_text line.statement

-- what is true of every script that is read
pub record IsSoundScript (script : Script) : Type 0 where
  pub names : list_all is_shown_name script.names ≡ true
  pub distinct : IsDistinct bytes_eq script.names
  pub sessions : list_all (is_line_within script) script.lines ≡ true
  pub statements : list_all has_statement script.lines ≡ true
  -- each session says something
  pub spoken : length script.names ≤ length script.lines
  pub few : length script.lines ≤ most_statements
