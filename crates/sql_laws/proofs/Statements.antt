-- Statements.
use Rattle.std.proofs.Common.{◌≡◌, ◌∙◌, sym, ap, refl, ℕ, Bool, true, false, cond, List, [], ◌∷◌, drop, Option, Some, Ok, Err, codes}
use Rattle.std.specs.List.{list_all}
use Rattle.std.proofs.lemmas.Bool.{and_from, and_parts, false≢true}
use Rattle.sql_ast.specs.declared.places.Last.TheVariants.{Other}
use Rattle.sql_ast.specs.declared.signs.Sign.TheVariants as sign
use Rattle.sql_ast.specs.declared.words.Keyword.TheVariants as word
use Rattle.sql_ast.specs.declared.pieces.Piece.{Piece}
use Rattle.sql_ast.specs.declared.pieces.Piece.TheVariants as piece
use Rattle.sql_grammar.specs.Pieces.{is_sign, same_sign}
use Rattle.sql_grammar.specs.Reading.{Outcome}
use Rattle.tuple_codec.specs.Texts.{is_utf8}
use Rattle.sql_laws.specs.Written.{is_given}
use Rattle.sql_laws.proofs.Readers.{Fine, filled_all, weaken, Gives, IsMinus, Sound, any_sound, anything, behind_piece, bind, by_pieces, chosen, eats, eats_keyword, eats_word, expects, expects_keyword, expects_word, gives, list_sound, names_one, some, strings_one, views, is_word_false as not_word}
use Rattle.sql_ast.specs.declared.statements.Assignment.{Assignment}
use Rattle.sql_ast.specs.declared.statements.Call.{Call}
use Rattle.sql_ast.specs.declared.statements.Delete.{Delete}
use Rattle.sql_ast.specs.declared.statements.InsertCell.{InsertCell}
use Rattle.sql_ast.specs.declared.statements.Insert.{Insert}
use Rattle.sql_ast.specs.declared.statements.Setting.{Setting}
use Rattle.sql_ast.specs.declared.statements.Statement.{Statement}
use Rattle.sql_ast.specs.declared.statements.Statement.TheVariants as statement
use Rattle.sql_ast.specs.declared.statements.Update.{Update}
use Rattle.sql_statements.specs.Heads.{begins_session, begins_session_point, opening_of, switch_of}
use Rattle.sql_statements.specs.Statements.{any_entry, any_statement, arguments, assignment, call, delete, finished, insert, named_columns, scope, scope_behind, scope_word, setting, statement_behind, statement_by, statement_of, tuple, update, whole_of, with_work}
use Rattle.sql_statements.specs.declared.heads.Opening.{Opening}
use Rattle.sql_statements.specs.declared.heads.Opening.TheVariants as opening
use Rattle.sql_laws.specs.Sound.{is_assignment, is_call, is_delete, is_entry, is_insert, is_names, is_perhaps, is_setting, is_sound, is_tuple, is_update}
use Rattle.sql_laws.proofs.Tables.{names_sound}
use Rattle.sql_grammar.specs.Pieces.{is_word}
use Rattle.sql_laws.specs.SoundLaws.{ReadsSound}
use Rattle.sql_laws.proofs.Selects.{filter_sound, selection_sound}
use Rattle.sql_laws.proofs.Tables.{alter_sound, create_sound, drop_sound}

entries_sound : Sound InsertCell is_entry any_entry
unfolding any_entry
entries_sound = bind (eats_keyword word.Default) (λ b a. chosen b (gives refl) (bind any_sound (λ x is. gives is)))

tuples_sound : Sound (List InsertCell) is_tuple tuple
unfolding tuple same_sign
tuples_sound = bind (expects sign.OpenParenthesis refl) (λ u a. bind (list_sound entries_sound) (λ found all. bind (expects sign.CloseParenthesis refl) (λ v b. gives all)))

columns_sound : Sound (Option (List (List ℕ))) (is_perhaps is_names) named_columns
unfolding named_columns
columns_sound = by_pieces _ (some names_sound) (gives refl)

insert_sound : Sound Insert is_insert insert
unfolding insert
insert_sound =
    bind (expects_keyword word.Into) (λ u a.
    bind names_one (λ n named.
    bind columns_sound (λ own columns.
    bind (expects_keyword word.Values) (λ v b.
    bind (list_sound tuples_sound) (λ found all.
    gives (and_from _ _ named (and_from _ _ columns all)))))))

assignment_sound : Sound Assignment is_assignment assignment
unfolding assignment same_sign
assignment_sound = bind names_one (λ n named. bind (expects sign.Equal refl) (λ u a. bind any_sound (λ x is. gives (and_from _ _ named is))))

update_sound : Sound Update is_update update
unfolding update
update_sound =
    bind names_one (λ n named. bind (expects_keyword word.Set) (λ u a. bind (list_sound assignment_sound) (λ found all. bind filter_sound (λ f is. gives (and_from _ _ named (and_from _ _ all is))))))

delete_sound : Sound Delete is_delete delete
unfolding delete
delete_sound = bind (expects_keyword word.From) (λ u a. bind names_one (λ n named. bind filter_sound (λ f is. gives (and_from _ _ named is))))

-- settings and calls

scope_behind_at : (ts : List Piece) → Fine ts → begins_session_point ts ≡ true → Fine (drop 1 (drop 1 ts))
unfolding begins_session_point same_sign
scope_behind_at (t ∷ u ∷ ts) fine is =
    let parts = and_parts (is_word (codes "session") t) (is_sign sign.Point u) is in
    behind_piece u ts (behind_piece t (u ∷ ts) fine (not_word (codes "session") t parts.0)) (λ minus. false≢true (ap (is_sign sign.Point) (sym minus) ∙ parts.1))
scope_behind_at (t ∷ []) fine is = refl
scope_behind_at [] fine is = refl

scope_behind_sound : Sound (Unit {0}) anything scope_behind
unfolding scope_behind
scope_behind_sound = record {
  runs = λ ts fine. elim (begins_session_point ts) as (λ b. begins_session_point ts ≡ b → Gives (Unit {0}) anything (cond b (Ok (tt, drop 1 (drop 1 ts))) (Ok (tt, ts)))) [
    | true ↦ λ is. (refl, scope_behind_at ts fine is)
    | false ↦ λ is. (refl, fine)
  ] refl;
}

scope_word_at : (ts : List Piece) → Fine ts → begins_session ts ≡ true → Fine (drop 1 ts)
unfolding begins_session
scope_word_at (t ∷ u ∷ ts) fine is = behind_piece t (u ∷ ts) fine (not_word (codes "session") t (and_parts (is_word (codes "session") t) _ is).0)
scope_word_at (t ∷ []) fine is = refl
scope_word_at [] fine is = refl

scope_word_sound : Sound (Unit {0}) anything scope_word
unfolding scope_word
scope_word_sound = record {
  runs = λ ts fine. elim (begins_session ts) as (λ b. begins_session ts ≡ b → Gives (Unit {0}) anything (cond b (Ok (tt, drop 1 ts)) (Ok (tt, ts)))) [
    | true ↦ λ is. (refl, scope_word_at ts fine is)
    | false ↦ λ is. (refl, fine)
  ] refl;
}

scope_sound : Sound (Unit {0}) anything scope
unfolding scope same_sign
scope_sound = bind (eats sign.AtAt refl) (λ b a. chosen b scope_behind_sound scope_word_sound)

switch_such : (t : Piece) (x : Bool) → is_given Other t ≡ true → switch_of t ≡ Some x → (anything x ≡ true) × (IsMinus t → ⊥)
switch_such (piece.Whole value) x given is = (refl, λ minus. cc)
switch_such (piece.Keyword w) x given is = (refl, λ minus. cc)
switch_such (piece.Word n) x given is = (refl, λ minus. cc)
switch_such t x given is = absurd (cc)

setting_sound : Sound Setting is_setting setting
unfolding setting same_sign
setting_sound = bind scope_sound (λ u a. bind names_one (λ n named. bind (expects sign.Equal refl) (λ v b. bind (views switch_of switch_such) (λ on c. gives named))))

arguments_sound : Sound (List (List ℕ)) (list_all is_utf8) arguments
unfolding arguments same_sign
arguments_sound =
    bind (eats sign.CloseParenthesis refl) (λ b a. chosen b (gives refl)
    (bind (weaken (filled_all is_utf8) (list_sound strings_one)) (λ found all. bind (expects sign.CloseParenthesis refl) (λ v c. gives all))))

call_sound : Sound Call is_call call
unfolding call same_sign
call_sound = bind names_one (λ n named. bind (expects sign.OpenParenthesis refl) (λ u a. bind arguments_sound (λ found all. gives (and_from _ _ named all))))

-- statements

with_work_sound : (x : Statement) → is_sound x ≡ true → Sound Statement is_sound (with_work x)
with_work_sound x is = bind (eats_word (codes "work")) (λ b a. gives is)

statement_by_sound : (o : Opening) → Sound Statement is_sound (statement_by o)
statement_by_sound opening.Create = bind create_sound (λ x is. gives is)
statement_by_sound opening.Drop = bind drop_sound (λ x is. gives is)
statement_by_sound opening.Alter = bind alter_sound (λ x is. gives is)
statement_by_sound opening.Insert = bind insert_sound (λ x is. gives is)
statement_by_sound opening.Update = bind update_sound (λ x is. gives is)
statement_by_sound opening.Delete = bind delete_sound (λ x is. gives is)
statement_by_sound opening.Select = bind selection_sound (λ x is. gives is)
statement_by_sound opening.Begin = with_work_sound statement.Begin refl
statement_by_sound opening.Start = bind (expects_word (codes "transaction")) (λ u a. gives refl)
statement_by_sound opening.Commit = with_work_sound statement.Commit refl
statement_by_sound opening.Rollback = with_work_sound statement.Rollback refl
statement_by_sound opening.Set = bind setting_sound (λ x is. gives is)
statement_by_sound opening.Call = bind call_sound (λ x is. gives is)

opening_such : (t : Piece) (x : Opening) → is_given Other t ≡ true → opening_of t ≡ Some x → (anything x ≡ true) × (IsMinus t → ⊥)
opening_such (piece.Keyword w) x given is = (refl, λ minus. cc)
opening_such (piece.Word n) x given is = (refl, λ minus. cc)
opening_such t x given is = absurd (cc)

any_statement_sound : Sound Statement is_sound any_statement
unfolding any_statement statement_behind
any_statement_sound = bind (views opening_of opening_such) (λ o a. statement_by_sound o)

finished_sound : (x s : Statement) (left : List Piece) → is_sound x ≡ true → finished x left ≡ Ok s → is_sound s ≡ true
finished_sound x s [] is e = let same : x ≡ s = cc in ap is_sound (sym same) ∙ is
finished_sound x s (t ∷ ts) is e = absurd (cc)

whole_sound : (o : Outcome Statement) (s : Statement) → Gives Statement is_sound o → whole_of o ≡ Ok s → is_sound s ≡ true
whole_sound (Ok read) s gave e = finished_sound read.0 s read.1 gave.0 e
whole_sound (Err left) s gave e = absurd (cc)

pub reads_sound : ReadsSound
unfolding statement_of
reads_sound pieces s given e = whole_sound (any_statement pieces) s (any_statement_sound.runs pieces given) e
