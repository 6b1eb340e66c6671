-- SELECT.
use Rattle.std.proofs.Common.{◌≡◌, inl, inr, refl, sym, subst, ℕ, suc, Bool, true, false, cond, ◌||◌, List, [], ◌∷◌, ◌++◌, length, Option, Some, None, Ok, Err, codes}
use Rattle.sql_ast.specs.declared.expressions.Expr.{Expr}
use Rattle.sql_ast.specs.declared.selects.Clauses.{Clauses}
use Rattle.sql_ast.specs.declared.selects.ColumnName.{ColumnName}
use Rattle.sql_ast.specs.declared.selects.Direction.{Direction}
use Rattle.sql_ast.specs.declared.selects.FromClause.{FromClause}
use Rattle.sql_ast.specs.declared.selects.Items.{Items}
use Rattle.sql_ast.specs.declared.selects.Join.{Join}
use Rattle.sql_ast.specs.declared.selects.Limit.{Limit}
use Rattle.sql_ast.specs.declared.selects.NamedExpr.{NamedExpr}
use Rattle.sql_ast.specs.declared.selects.OrderKey.{OrderKey}
use Rattle.sql_ast.specs.declared.selects.Query.{Query}
use Rattle.sql_ast.specs.declared.selects.Select.{Select}
use Rattle.sql_ast.specs.declared.selects.Sorting.{Sorting}
use Rattle.sql_ast.specs.declared.selects.TableSource.{TableSource}
use Rattle.sql_ast.specs.declared.signs.Sign.TheVariants as sign
use Rattle.sql_ast.specs.declared.words.Keyword.TheVariants as word
use Rattle.sql_ast.specs.declared.pieces.Piece.{Piece}
use Rattle.sql_ast.specs.declared.pieces.Piece.TheVariants as piece
use Rattle.sql_grammar.specs.Expressions.{any}
use Rattle.sql_grammar.specs.Pieces.{is_keyword, is_sign, same_sign}
use Rattle.sql_grammar.specs.Reading.{Outcome, Reader, and_then, behind, eat, eat_keyword, expect_keyword, pure, name, sees, sees_keyword}
use Rattle.sql_statements.specs.Selects.{added, alias, all_of, all_of_shown, alone, alone_or_stop, begins_all_of, begins_join, bounds, clauses, column_name, direction, filter, first_of, from_clause, groups, item, items, join, joins, joins_from, key, keys, limit, listing, listing_from, named, named_in, offset, one_item, query, selection, sorting, source}
use Rattle.sql_statements.specs.declared.chosen.Choice.{Choice}
use Rattle.sql_statements.specs.declared.chosen.Listing.{Listing}
use Rattle.sql_statements.specs.declared.chosen.ShownItem.{ShownItem}
use Rattle.sql_laws.specs.Spelling.{mark}
use Rattle.sql_laws.proofs.Local.{Alike, Short, Takes, chosen_by, link_takes, loop_local, short_after, takes_of_short, turned}
use Rattle.sql_laws.proofs.LocalRules.{quoted_point_takes, quoted_takes, word_point_takes, word_takes}
use Rattle.sql_laws.proofs.LocalWords.{IsLocal, any_one, bind, chosen, eats, eats_keyword, eats_word, expects_keyword, gives, halts, listed, name_one, perhaps_name, mapped, short, skips, whole_one}

alias_local : IsLocal (Option (List ℕ)) alias
unfolding alias
alias_local = bind (eats_keyword word.As) (λ b. chosen b (mapped _ name_one) perhaps_name)

named_local : (x : Expr) → IsLocal ShownItem (named x)
unfolding named
named_local x = bind (eats_keyword word.As) (λ b. chosen b (mapped _ name_one) (mapped _ perhaps_name))

one_item_local : IsLocal ShownItem one_item
unfolding one_item
one_item_local = bind any_one named_local

all_of_local : IsLocal ShownItem all_of
unfolding all_of
all_of_local = bind name_one (λ n. bind skips (λ u. bind skips (λ v. gives {x = all_of_shown n})))

-- Whether `name . *` comes next shows by three pieces. Where fewer are shared, either reader takes all of them.

one_item_takes : (ts : List Piece) (n : ℕ) → Short Expr n (any ts) → Short ShownItem n (one_item ts)
unfolding one_item
one_item_takes ts n few = short_after Expr ShownItem n (any ts) named few (λ x. (named_local x).runs)

word_all : (n : List ℕ) (ts : List Piece) → Short ShownItem (length ts) (all_of (piece.Word n ∷ ts))
unfolding all_of name
word_all n ts = short {A = ShownItem} (bind skips (λ u. bind skips (λ v. gives {x = all_of_shown n}))) ts

quoted_all : (n : List ℕ) (ts : List Piece) → Short ShownItem (length ts) (all_of (piece.Quoted n ∷ ts))
unfolding all_of name
quoted_all n ts = short {A = ShownItem} (bind skips (λ u. bind skips (λ v. gives {x = all_of_shown n}))) ts

word_point_all : (n : List ℕ) (ts : List Piece) → Short ShownItem (length ts) (all_of (piece.Word n ∷ mark sign.Point ∷ ts))
unfolding all_of name
word_point_all n ts = short {A = ShownItem} (bind skips (λ v. gives {x = all_of_shown n})) ts

quoted_point_all : (n : List ℕ) (ts : List Piece) → Short ShownItem (length ts) (all_of (piece.Quoted n ∷ mark sign.Point ∷ ts))
unfolding all_of name
quoted_point_all n ts = short {A = ShownItem} (bind skips (λ v. gives {x = all_of_shown n})) ts

item_at : (shared behind_ other : List Piece) → Alike ShownItem shared behind_ other (item (shared ++ behind_)) (item (shared ++ other))
unfolding item any begins_all_of same_sign
item_at [] behind_ other = chosen_by ShownItem begins_all_of all_of one_item [] behind_ other all_of_local.runs one_item_local.runs (inr (short all_of_local behind_, short one_item_local behind_))
item_at (piece.Word n ∷ []) behind_ other =
    chosen_by ShownItem begins_all_of all_of one_item (piece.Word n ∷ []) behind_ other all_of_local.runs one_item_local.runs
    (inr (word_all n behind_, one_item_takes (piece.Word n ∷ behind_) (length behind_) (word_takes 64 n behind_)))
item_at (piece.Quoted n ∷ []) behind_ other =
    chosen_by ShownItem begins_all_of all_of one_item (piece.Quoted n ∷ []) behind_ other all_of_local.runs one_item_local.runs
    (inr (quoted_all n behind_, one_item_takes (piece.Quoted n ∷ behind_) (length behind_) (quoted_takes 64 n behind_)))
item_at (t ∷ []) behind_ other = chosen_by ShownItem begins_all_of all_of one_item (t ∷ []) behind_ other all_of_local.runs one_item_local.runs (inl (sure behind_ other))
  where
    none : (ts : List Piece) → begins_all_of (t ∷ ts) ≡ false
    none [] = refl
    none (u ∷ []) = refl
    none (u ∷ v ∷ ts) = refl

    sure : (ts us : List Piece) → begins_all_of (t ∷ ts) ≡ begins_all_of (t ∷ us)
    sure ts us = subst (λ b. begins_all_of (t ∷ ts) ≡ b) (sym (none us)) (none ts)
item_at (piece.Word n ∷ piece.Sign sign.Point ∷ []) behind_ other =
    chosen_by ShownItem begins_all_of all_of one_item (piece.Word n ∷ mark sign.Point ∷ []) behind_ other all_of_local.runs one_item_local.runs
    (inr (word_point_all n behind_, one_item_takes (piece.Word n ∷ mark sign.Point ∷ behind_) (length behind_) (word_point_takes 64 n behind_)))
item_at (piece.Quoted n ∷ piece.Sign sign.Point ∷ []) behind_ other =
    chosen_by ShownItem begins_all_of all_of one_item (piece.Quoted n ∷ mark sign.Point ∷ []) behind_ other all_of_local.runs one_item_local.runs
    (inr (quoted_point_all n behind_, one_item_takes (piece.Quoted n ∷ mark sign.Point ∷ behind_) (length behind_) (quoted_point_takes 64 n behind_)))
item_at (t ∷ u ∷ []) behind_ other = chosen_by ShownItem begins_all_of all_of one_item (t ∷ u ∷ []) behind_ other all_of_local.runs one_item_local.runs (inl (sure behind_ other))
  where
    none : (ts : List Piece) → begins_all_of (t ∷ u ∷ ts) ≡ false
    none [] = refl
    none (v ∷ ts) = refl

    sure : (ts us : List Piece) → begins_all_of (t ∷ u ∷ ts) ≡ begins_all_of (t ∷ u ∷ us)
    sure ts us = subst (λ b. begins_all_of (t ∷ u ∷ ts) ≡ b) (sym (none us)) (none ts)
item_at (t ∷ u ∷ v ∷ shared) behind_ other = chosen_by ShownItem begins_all_of all_of one_item (t ∷ u ∷ v ∷ shared) behind_ other all_of_local.runs one_item_local.runs (inl refl)

item_local : IsLocal ShownItem item
item_local = record { runs = item_at }

-- lists that are counted by the pieces

abbrev more_items : Reader (Option ShownItem)
more_items = behind (eat sign.Comma) item

listing_turns : (n : ℕ) (found : Listing) (ts : List Piece) → listing_from (suc n) found ts ≡ and_then (more_items ts) (turned (listing_from n) added found)
unfolding listing_from
listing_turns n found ts = at (eat sign.Comma ts)
  where
    behind_ : (o : Outcome ShownItem) → and_then o (λ x. listing_from n (added found x)) ≡ and_then (and_then o (λ x. pure (Some x))) (turned (listing_from n) added found)
    behind_ (Ok read) = refl
    behind_ (Err k) = refl

    at : (o : Outcome Bool) → and_then o (λ more. cond more (λ us. and_then (item us) (λ x. listing_from n (added found x))) (pure found))
        ≡ and_then (and_then o (λ more. cond more (λ us. and_then (item us) (λ x. pure (Some x))) (pure None))) (turned (listing_from n) added found)
    at (Ok (true, us)) = behind_ (item us)
    at (Ok (false, us)) = refl
    at (Err k) = refl

listing_local : IsLocal Listing listing
unfolding listing listing_from sees
listing_local =
    bind item_local (λ first. record {
      runs = loop_local Listing ShownItem listing_from added more_items (λ s ts. refl) listing_turns (bind (eats sign.Comma) (λ b. chosen b (bind item_local (λ x. gives)) gives)).runs
          (link_takes ShownItem (is_sign sign.Comma) item item_local.runs) refl (first_of first);
    })

items_local : IsLocal Choice items
unfolding items
items_local = bind (eats sign.Star) (λ b. chosen b gives (mapped _ listing_local))

source_local : IsLocal TableSource source
unfolding source
source_local = bind name_one (λ n. bind alias_local (λ m. gives))

join_local : IsLocal Join join
unfolding join
join_local = bind source_local (λ x. bind (expects_keyword word.On) (λ u. bind any_one (λ on. gives)))

begins_join_local : IsLocal Bool begins_join
unfolding begins_join
begins_join_local = bind (eats_keyword word.Inner) (λ b. chosen b (bind (expects_keyword word.Join) (λ u. gives)) (eats_keyword word.Join))

abbrev more_joins : Reader (Option Join)
more_joins = behind begins_join join

behind_join : (b : Bool) → IsLocal (Option Join) (cond b (λ us. and_then (join us) (λ x. pure (Some x))) (pure None))
behind_join b = chosen b (bind join_local (λ x. gives)) gives

abbrev inner_join : Bool → Reader Bool
inner_join b = cond b (λ us. and_then (expect_keyword word.Join us) (λ u. pure true)) (eat_keyword word.Join)

abbrev join_if : Bool → Reader (Option Join)
join_if b = cond b (λ us. and_then (join us) (λ x. pure (Some x))) (pure None)

joins_take : (ts : List Piece) → Takes Join (length ts) (more_joins ts)
unfolding begins_join sees_keyword
joins_take [] = tt
joins_take (t ∷ ts) =
    elim (is_keyword word.Inner t) as (λ b. Takes Join (suc (length ts)) (and_then {A = Bool} {B = Option Join} (and_then {A = Bool} {B = Bool} (cond b (Ok (true, ts)) (Ok (false, t ∷ ts))) inner_join) join_if)) [
      | true ↦ takes_of_short Join (length ts) _ (short (bind (bind (expects_keyword word.Join) (λ u. gives)) behind_join) ts)
      | false ↦ elim (is_keyword word.Join t) as (λ b. Takes Join (suc (length ts)) (and_then {A = Bool} {B = Option Join} (cond b (Ok (true, ts)) (Ok (false, t ∷ ts))) join_if)) [
        | true ↦ takes_of_short Join (length ts) _ (short (bind join_local (λ x. gives)) ts)
        | false ↦ tt
      ]
    ]

joins_turns : (n : ℕ) (found : List Join) (ts : List Piece) → joins_from (suc n) found ts ≡ and_then (more_joins ts) (turned (joins_from n) (λ xs x. xs ++ x ∷ []) found)
unfolding joins_from
joins_turns n found ts = at (begins_join ts)
  where
    behind_ : (o : Outcome Join) → and_then o (λ x. joins_from n (found ++ x ∷ [])) ≡ and_then (and_then o (λ x. pure (Some x))) (turned (joins_from n) (λ xs x. xs ++ x ∷ []) found)
    behind_ (Ok read) = refl
    behind_ (Err k) = refl

    at : (o : Outcome Bool) → and_then o (λ more. cond more (λ us. and_then (join us) (λ x. joins_from n (found ++ x ∷ []))) (pure found))
        ≡ and_then (and_then o (λ more. cond more (λ us. and_then (join us) (λ x. pure (Some x))) (pure None))) (turned (joins_from n) (λ xs x. xs ++ x ∷ []) found)
    at (Ok (true, us)) = behind_ (join us)
    at (Ok (false, us)) = refl
    at (Err k) = refl

joins_local : IsLocal (List Join) joins
unfolding joins joins_from begins_join sees_keyword
joins_local =
    record { runs = loop_local (List Join) Join joins_from (λ xs x. xs ++ x ∷ []) more_joins (λ s ts. refl) joins_turns (bind begins_join_local behind_join).runs joins_take refl [] }

from_local : IsLocal FromClause from_clause
unfolding from_clause
from_local = bind source_local (λ first. bind joins_local (λ others. gives))

pub filter_local : IsLocal (Option Expr) filter
unfolding filter
filter_local = bind (eats_keyword word.Where) (λ b. chosen b (mapped _ any_one) gives)

column_name_local : IsLocal ColumnName column_name
unfolding column_name
column_name_local = bind name_one (λ n. bind (eats sign.Point) (λ b. chosen b (mapped _ name_one) gives))

groups_local : IsLocal (List ColumnName) groups
unfolding groups
groups_local = bind (eats_keyword word.Group) (λ b. chosen b (bind (expects_keyword word.By) (λ u. listed column_name_local)) gives)

direction_local : IsLocal Direction direction
unfolding direction
direction_local = bind (eats_keyword word.Asc) (λ b. chosen b gives (bind (eats_keyword word.Desc) (λ c. gives)))

key_local : IsLocal OrderKey key
unfolding key
key_local = bind any_one (λ x. bind direction_local (λ d. gives))

keys_local : IsLocal (List OrderKey) keys
unfolding keys
keys_local = bind (eats_keyword word.Order) (λ b. chosen b (bind (expects_keyword word.By) (λ u. listed key_local)) gives)

offset_local : IsLocal (Option ℕ) offset
unfolding offset
offset_local = bind (eats_word (codes "offset")) (λ b. chosen b (mapped _ whole_one) gives)

bounds_local : IsLocal Limit bounds
unfolding bounds
bounds_local = bind whole_one (λ n. bind offset_local (λ m. gives))

limit_local : IsLocal (Option Limit) limit
unfolding limit
limit_local = bind (eats_keyword word.Limit) (λ b. chosen b (mapped _ bounds_local) gives)

sorting_local : IsLocal Sorting sorting
unfolding sorting
sorting_local = bind keys_local (λ ordered. bind limit_local (λ n. gives))

clauses_local : IsLocal Clauses clauses
unfolding clauses
clauses_local = bind filter_local (λ f. bind groups_local (λ g. bind sorting_local (λ s. gives)))

query_local : (distinct : Bool) (shown : Items) → IsLocal Query (query distinct shown)
unfolding query
query_local distinct shown = bind from_local (λ f. bind clauses_local (λ c. gives))

alone_or_stop_local : (o : Option (List NamedExpr)) → IsLocal Select (alone_or_stop o)
alone_or_stop_local (Some found) = gives
alone_or_stop_local None = halts

alone_local : (distinct : Bool) (choice : Choice) → IsLocal Select (alone distinct choice)
unfolding alone
alone_local distinct choice = chosen (distinct || choice.wants_from) halts (alone_or_stop_local (named_in choice.items))

pub selection_local : IsLocal Select selection
unfolding selection
selection_local =
    bind (eats_keyword word.Distinct) (λ distinct.
    bind items_local (λ choice.
    bind (eats_keyword word.From) (λ b. chosen b (mapped _ (query_local distinct choice.items)) (alone_local distinct choice))))
