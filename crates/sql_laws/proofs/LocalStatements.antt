-- Statements: where reading one stops at a piece, it stops there whatever stands behind that piece.
use Rattle.std.proofs.Common.{◌≡◌, ◌∙◌, inl, inr, refl, sym, ap, ℕ, suc, Bool, true, false, cond, List, [], ◌∷◌, ◌++◌, length, drop, Option, Ok, Err, codes, arith}
use Rattle.std.proofs.lemmas.List.{append_assoc, length-append}
use Rattle.sql_ast.specs.declared.signs.Sign.TheVariants as sign
use Rattle.sql_ast.specs.declared.statements.Assignment.{Assignment}
use Rattle.sql_ast.specs.declared.statements.Call.{Call}
use Rattle.sql_ast.specs.declared.statements.Delete.{Delete}
use Rattle.sql_ast.specs.declared.statements.Insert.{Insert}
use Rattle.sql_ast.specs.declared.statements.InsertCell.{InsertCell}
use Rattle.sql_ast.specs.declared.statements.Setting.{Setting}
use Rattle.sql_ast.specs.declared.statements.Statement.{Statement}
use Rattle.sql_ast.specs.declared.statements.Update.{Update}
use Rattle.sql_ast.specs.declared.words.Keyword.TheVariants as word
use Rattle.sql_ast.specs.declared.pieces.Piece.{Piece}
use Rattle.sql_ast.specs.declared.pieces.Piece.TheVariants as piece
use Rattle.sql_grammar.specs.Pieces.{is_sign}
use Rattle.sql_grammar.specs.Reading.{Outcome, Reader, and_then, eat, expect, name, one, pure, sees}
use Rattle.sql_statements.specs.Heads.{begins_session, begins_session_point, opening_of, switch_of}
use Rattle.sql_statements.specs.Statements.{any_entry, any_statement, arguments, assignment, call, delete, finished, insert, named_columns, scope, scope_behind, scope_word, setting, statement_behind, statement_by, statement_of, tuple, update, whole_of, with_work}
use Rattle.sql_statements.specs.declared.heads.Opening.{Opening}
use Rattle.sql_statements.specs.declared.heads.Opening.TheVariants as opening
use Rattle.sql_laws.proofs.Local.{Alike, Short, after, as_another, chosen_by, shorter, shorter_still}
use Rattle.sql_laws.proofs.LocalRules.{behind_skip, eat_local}
use Rattle.sql_laws.specs.SoundLaws.{StatementsStop}
use Rattle.sql_laws.proofs.LocalSelects.{filter_local, selection_local}
use Rattle.sql_laws.proofs.LocalTables.{alter_local, create_local, drop_local, names_local}
use Rattle.sql_laws.proofs.LocalWords.{IsLocal, any_one, bind, by_first, chosen, eats, eats_keyword, eats_word, expects, expects_keyword, expects_word, gives, listed, name_one, mapped, short, string_one, views}

entries_local : IsLocal InsertCell any_entry
unfolding any_entry
entries_local = bind (eats_keyword word.Default) (λ b. chosen b gives (mapped _ any_one))

tuple_local : IsLocal (List InsertCell) tuple
unfolding tuple
tuple_local = bind (expects sign.OpenParenthesis) (λ u. bind (listed entries_local) (λ found. bind (expects sign.CloseParenthesis) (λ v. gives)))

columns_local : IsLocal (Option (List (List ℕ))) named_columns
unfolding named_columns sees
columns_local = by_first (is_sign sign.OpenParenthesis) (mapped _ names_local) gives

insert_local : IsLocal Insert insert
unfolding insert
insert_local =
    bind (expects_keyword word.Into) (λ u. bind name_one (λ n. bind columns_local (λ own. bind (expects_keyword word.Values) (λ v. bind (listed tuple_local) (λ found. gives)))))

assignment_local : IsLocal Assignment assignment
unfolding assignment
assignment_local = bind name_one (λ n. bind (expects sign.Equal) (λ u. bind any_one (λ x. gives)))

update_local : IsLocal Update update
unfolding update
update_local = bind name_one (λ n. bind (expects_keyword word.Set) (λ u. bind (listed assignment_local) (λ found. bind filter_local (λ f. gives))))

delete_local : IsLocal Delete delete
unfolding delete
delete_local = bind (expects_keyword word.From) (λ u. bind name_one (λ n. bind filter_local (λ f. gives)))

-- SET. Whether `session` is the scope or the variable shows by the piece behind it; either way it is taken.

abbrev behind_scope : Reader Setting
behind_scope = λ ts. and_then (name ts) (λ n us. and_then (expect sign.Equal us) (λ u vs. and_then (one switch_of vs) (λ on. pure (record { variable = n; on = on }))))

behind_name_local : (n : List ℕ) → IsLocal Setting (λ us. and_then (expect sign.Equal us) (λ u vs. and_then (one switch_of vs) (λ on. pure (record { variable = n; on = on }))))
behind_name_local n = bind (expects sign.Equal) (λ u. bind (views switch_of) (λ on. gives))

behind_scope_local : IsLocal Setting behind_scope
behind_scope_local = bind name_one behind_name_local

takes_word : (n : List ℕ) (ts : List Piece) → Short Setting (length ts) (behind_scope (piece.Word n ∷ ts))
unfolding name
takes_word n ts = short (behind_name_local n) ts

session_point_at : (shared behind other : List Piece)
    → Alike Setting shared behind other (cond (begins_session_point (shared ++ behind)) (behind_scope (drop 1 (drop 1 (shared ++ behind)))) (behind_scope (shared ++ behind)))
    (cond (begins_session_point (shared ++ other)) (behind_scope (drop 1 (drop 1 (shared ++ other)))) (behind_scope (shared ++ other)))
unfolding begins_session_point
session_point_at [] behind other =
    chosen_by Setting begins_session_point (λ ts. behind_scope (drop 1 (drop 1 ts))) behind_scope [] behind other
    (behind_skip Setting (λ ts. behind_scope (drop 1 ts)) (behind_skip Setting behind_scope behind_scope_local.runs)) behind_scope_local.runs
    (inr (shorter_still Setting _ (length behind) _ (omega (arith, shorter behind, shorter (drop 1 behind))) (short behind_scope_local (drop 1 (drop 1 behind))), short behind_scope_local behind))
session_point_at (piece.Word n ∷ []) behind other =
    chosen_by Setting begins_session_point (λ ts. behind_scope (drop 1 (drop 1 ts))) behind_scope (piece.Word n ∷ []) behind other
    (behind_skip Setting (λ ts. behind_scope (drop 1 ts)) (behind_skip Setting behind_scope behind_scope_local.runs)) behind_scope_local.runs
    (inr (shorter_still Setting _ (length behind) _ (shorter behind) (short behind_scope_local (drop 1 behind)), takes_word n behind))
session_point_at (t ∷ []) behind other =
    chosen_by Setting begins_session_point (λ ts. behind_scope (drop 1 (drop 1 ts))) behind_scope (t ∷ []) behind other
    (behind_skip Setting (λ ts. behind_scope (drop 1 ts)) (behind_skip Setting behind_scope behind_scope_local.runs)) behind_scope_local.runs (inl (none behind ∙ sym (none other)))
  where
    none : (ts : List Piece) → begins_session_point (t ∷ ts) ≡ false
    none [] = refl
    none (u ∷ ts) = refl
session_point_at (t ∷ u ∷ shared) behind other =
    chosen_by Setting begins_session_point (λ ts. behind_scope (drop 1 (drop 1 ts))) behind_scope (t ∷ u ∷ shared) behind other
    (behind_skip Setting (λ ts. behind_scope (drop 1 ts)) (behind_skip Setting behind_scope behind_scope_local.runs)) behind_scope_local.runs (inl refl)

session_at : (shared behind other : List Piece)
    → Alike Setting shared behind other (cond (begins_session (shared ++ behind)) (behind_scope (drop 1 (shared ++ behind))) (behind_scope (shared ++ behind)))
    (cond (begins_session (shared ++ other)) (behind_scope (drop 1 (shared ++ other))) (behind_scope (shared ++ other)))
unfolding begins_session
session_at [] behind other =
    chosen_by Setting begins_session (λ ts. behind_scope (drop 1 ts)) behind_scope [] behind other (behind_skip Setting behind_scope behind_scope_local.runs) behind_scope_local.runs
    (inr (shorter_still Setting _ (length behind) _ (shorter behind) (short behind_scope_local (drop 1 behind)), short behind_scope_local behind))
session_at (piece.Word n ∷ []) behind other =
    chosen_by Setting begins_session (λ ts. behind_scope (drop 1 ts)) behind_scope (piece.Word n ∷ []) behind other (behind_skip Setting behind_scope behind_scope_local.runs) behind_scope_local.runs
    (inr (short behind_scope_local behind, takes_word n behind))
session_at (t ∷ []) behind other =
    chosen_by Setting begins_session (λ ts. behind_scope (drop 1 ts)) behind_scope (t ∷ []) behind other (behind_skip Setting behind_scope behind_scope_local.runs) behind_scope_local.runs
    (inl (none behind ∙ sym (none other)))
  where
    none : (ts : List Piece) → begins_session (t ∷ ts) ≡ false
    none [] = refl
    none (u ∷ ts) = refl
session_at (t ∷ u ∷ shared) behind other =
    chosen_by Setting begins_session (λ ts. behind_scope (drop 1 ts)) behind_scope (t ∷ u ∷ shared) behind other (behind_skip Setting behind_scope behind_scope_local.runs) behind_scope_local.runs (inl refl)

abbrev scoped : Bool → Reader Setting
scoped b = cond b (λ ts. cond (begins_session_point ts) (behind_scope (drop 1 (drop 1 ts))) (behind_scope ts)) (λ ts. cond (begins_session ts) (behind_scope (drop 1 ts)) (behind_scope ts))

setting_is : (ts : List Piece) → setting ts ≡ and_then (eat sign.AtAt ts) scoped
unfolding setting scope scope_behind scope_word
setting_is ts = at (eat sign.AtAt ts)
  where
    point : (b : Bool) (us : List Piece) → and_then {A = Unit {0}} (cond b (Ok (tt, drop 1 (drop 1 us))) (Ok (tt, us))) (λ u. behind_scope) ≡ cond b (behind_scope (drop 1 (drop 1 us))) (behind_scope us)
    point true us = refl
    point false us = refl

    bare : (b : Bool) (us : List Piece) → and_then {A = Unit {0}} (cond b (Ok (tt, drop 1 us)) (Ok (tt, us))) (λ u. behind_scope) ≡ cond b (behind_scope (drop 1 us)) (behind_scope us)
    bare true us = refl
    bare false us = refl

    at : (o : Outcome Bool) → and_then (and_then o (λ b. cond b scope_behind scope_word)) (λ u. behind_scope) ≡ and_then o scoped
    at (Ok (true, us)) = point (begins_session_point us) us
    at (Ok (false, us)) = bare (begins_session us) us
    at (Err k) = refl

setting_local : IsLocal Setting setting
setting_local = record {
  runs = as_another Setting setting (λ ts. and_then (eat sign.AtAt ts) scoped) setting_is
      (after Bool Setting (eat sign.AtAt) scoped (eat_local sign.AtAt) (elim [ true ↦ session_point_at | false ↦ session_at ]));
}

arguments_local : IsLocal (List (List ℕ)) arguments
unfolding arguments
arguments_local = bind (eats sign.CloseParenthesis) (λ b. chosen b gives (bind (listed string_one) (λ found. bind (expects sign.CloseParenthesis) (λ v. gives))))

call_local : IsLocal Call call
unfolding call
call_local = bind name_one (λ n. bind (expects sign.OpenParenthesis) (λ u. bind arguments_local (λ found. gives)))

-- statements

with_work_local : (x : Statement) → IsLocal Statement (with_work x)
with_work_local x = bind (eats_word (codes "work")) (λ b. gives)

statement_by_local : (o : Opening) → IsLocal Statement (statement_by o)
statement_by_local opening.Create = mapped _ create_local
statement_by_local opening.Drop = mapped _ drop_local
statement_by_local opening.Alter = mapped _ alter_local
statement_by_local opening.Insert = mapped _ insert_local
statement_by_local opening.Update = mapped _ update_local
statement_by_local opening.Delete = mapped _ delete_local
statement_by_local opening.Select = mapped _ selection_local
statement_by_local opening.Begin = with_work_local _
statement_by_local opening.Start = bind (expects_word (codes "transaction")) (λ u. gives)
statement_by_local opening.Commit = with_work_local _
statement_by_local opening.Rollback = with_work_local _
statement_by_local opening.Set = mapped _ setting_local
statement_by_local opening.Call = mapped _ call_local

any_statement_local : IsLocal Statement any_statement
unfolding any_statement statement_behind
any_statement_local = bind (views opening_of) statement_by_local

-- two runs that are alike stop alike behind one piece
finished_length : (x : Statement) (left : List Piece) (n : ℕ) → finished x left ≡ Err (suc n) → length left ≡ suc n
finished_length x [] n is = absurd (cc)
finished_length x (t ∷ ts) n is = let same : suc (length ts) ≡ suc n = cc in same

unfinished : (x : Statement) (left : List Piece) (n : ℕ) → length left ≡ suc n → finished x left ≡ Err (suc n)
unfinished x [] n is = absurd (omega arith)
unfinished x (t ∷ ts) n is = ap (λ m. Err m) is

same_stop : (shared behind other : List Piece) (o two : Outcome Statement) → Alike Statement shared behind other o two → whole_of o ≡ Err (suc (length behind)) → whole_of two ≡ Err (suc (length other))
same_stop shared behind other (Ok read) two (inl w) is =
    let at : length read.1 ≡ suc (length behind) = finished_length read.0 read.1 (length behind) is in
    let left : length read.1 ≡ length (w.0 ++ behind) = ap length w.2 in
    let one_ : length (w.0 ++ other) ≡ suc (length other) = omega (arith, at, left, length-append w.0 behind, length-append w.0 other) in
    ap whole_of w.3 ∙ unfinished read.0 (w.0 ++ other) (length other) one_
same_stop shared behind other (Ok read) two (inr few) is =
    let at : length read.1 ≡ suc (length behind) = finished_length read.0 read.1 (length behind) is in
    absurd (omega arith)
same_stop shared behind other (Err n) two (inl w) is =
    let at : n ≡ suc (length behind) = cc in
    let one_ : length (w.0 ++ other) ≡ suc (length other) = omega (arith, w.2, length-append w.0 behind, length-append w.0 other) in
    ap whole_of w.3 ∙ ap (λ m. Err m) one_
same_stop shared behind other (Err n) two (inr few) is =
    let at : n ≡ suc (length behind) = cc in
    absurd (omega arith)

pub statements_stop : StatementsStop
unfolding statement_of
statements_stop front t behind other is =
    let shared = front ++ t ∷ [] in
    ap (λ ts. whole_of (any_statement ts)) (sym (append_assoc front (t ∷ []) other))
    ∙ same_stop shared behind other (any_statement (shared ++ behind)) (any_statement (shared ++ other)) (any_statement_local.runs shared behind other)
    (ap (λ ts. whole_of (any_statement ts)) (append_assoc front (t ∷ []) behind) ∙ is)
