-- SELECT.
use Rattle.std.proofs.Common.{◌≡◌, ◌∙◌, sym, ap, refl, ℕ, zero, suc, Bool, true, false, cond, ◌&&◌, ◌||◌, List, [], ◌∷◌, ◌++◌, length, Option, Some, None, codes}
use Rattle.std.specs.List.{list_all}
use Rattle.std.proofs.lemmas.Bool.{and_from, and_parts, false≢true}
use Rattle.sql_ast.specs.declared.expressions.Expr.{Expr}
use Rattle.sql_ast.specs.declared.places.Last.TheVariants.{Operand}
use Rattle.sql_ast.specs.declared.signs.Sign.TheVariants as sign
use Rattle.sql_ast.specs.declared.words.Keyword.TheVariants as word
use Rattle.sql_ast.specs.declared.pieces.Piece.{Piece}
use Rattle.sql_ast.specs.declared.pieces.Piece.TheVariants as piece
use Rattle.sql_grammar.specs.Pieces.{is_sign, same_sign}
use Rattle.sql_grammar.specs.Reading.{name}
use Rattle.sql_laws.specs.Written.{are_given, is_name}
use Rattle.sql_laws.proofs.Readers.{Fine, filled_all, stops, weaken, Gives, Sound, all_added, any_sound, anything, behind_piece, bind, chosen, eats, eats_keyword, eats_word, expects_keyword, filled_added, gives, list_sound, loosens, names_one, perhaps_named, some, wholes_one}
use Rattle.sql_ast.specs.declared.selects.Clauses.{Clauses}
use Rattle.sql_ast.specs.declared.selects.ColumnName.{ColumnName}
use Rattle.sql_ast.specs.declared.selects.Direction.{Direction}
use Rattle.sql_ast.specs.declared.selects.FromClause.{FromClause}
use Rattle.sql_ast.specs.declared.selects.SelectItem.{SelectItem}
use Rattle.sql_ast.specs.declared.selects.SelectItem.TheVariants.{AllOf, One}
use Rattle.sql_ast.specs.declared.selects.Items.{Items}
use Rattle.sql_ast.specs.declared.selects.Items.TheVariants.{All, Listed}
use Rattle.sql_ast.specs.declared.selects.Join.{Join}
use Rattle.sql_ast.specs.declared.selects.Limit.{Limit}
use Rattle.sql_ast.specs.declared.selects.NamedExpr.{NamedExpr}
use Rattle.sql_ast.specs.declared.selects.OrderKey.{OrderKey}
use Rattle.sql_ast.specs.declared.selects.Query.{Query}
use Rattle.sql_ast.specs.declared.selects.Select.{Select}
use Rattle.sql_ast.specs.declared.selects.Sorting.{Sorting}
use Rattle.sql_ast.specs.declared.selects.TableSource.{TableSource}
use Rattle.sql_statements.specs.Selects.{alias, all_of, alone, alone_or_stop, begins_all_of, begins_join, bounds, clauses, column_name, direction, filter, from_clause, groups, item, items, join, joins, joins_from, key, keys, limit, listing, listing_from, named, named_from, named_in, offset, one_item, query, selection, sorting, source, added, first_of}
use Rattle.sql_statements.specs.declared.chosen.Choice.{Choice}
use Rattle.sql_statements.specs.declared.chosen.Listing.{Listing}
use Rattle.sql_statements.specs.declared.chosen.ShownItem.{ShownItem}
use Rattle.sql_laws.specs.Sound.{is_clauses, is_column_name, is_expr, is_filled, is_from, is_item, is_items, is_join, is_key, is_named as is_named_expr, is_perhaps, is_query, is_select, is_sorting, is_source}

alias_sound : Sound (Option (List ℕ)) (is_perhaps is_name) alias
unfolding alias
alias_sound = bind (eats_keyword word.As) (λ b a. chosen b (some names_one) perhaps_named)

abbrev is_shown : ShownItem → Bool
is_shown x = is_item x.item

abbrev is_listing : Listing → Bool
is_listing x = is_filled is_item x.items

abbrev is_choice : Choice → Bool
is_choice x = is_items x.items

named_sound : (x : Expr) → is_expr x ≡ true → Sound ShownItem is_shown (named x)
unfolding named
named_sound x is =
    bind (eats_keyword word.As) (λ b a. chosen b (bind names_one (λ n one_. gives (and_from _ _ is one_))) (bind perhaps_named (λ n one_. gives (and_from _ _ is one_))))

-- `name . *`
point_star : (t u v : Piece) (ts : List Piece) → Fine (u ∷ v ∷ ts) → (is_sign sign.Point u && is_sign sign.Star v) ≡ true → Fine ts
unfolding same_sign
point_star t u v ts fine is =
    let parts = and_parts (is_sign sign.Point u) (is_sign sign.Star v) is in
    behind_piece v ts (behind_piece u (v ∷ ts) fine (λ minus. false≢true (ap (is_sign sign.Point) (sym minus) ∙ parts.0))) (λ minus. false≢true (ap (is_sign sign.Star) (sym minus) ∙ parts.1))

all_of_at : (ts : List Piece) → Fine ts → begins_all_of ts ≡ true → Gives ShownItem is_shown (all_of ts)
unfolding all_of name begins_all_of
all_of_at (piece.Word n ∷ u ∷ v ∷ ts) fine is =
    let parts = and_parts (is_name n) (are_given Operand (u ∷ v ∷ ts)) fine in
    (parts.0, point_star (piece.Word n) u v ts (loosens (u ∷ v ∷ ts) parts.1) is)
all_of_at (piece.Quoted n ∷ u ∷ v ∷ ts) fine is =
    let parts = and_parts (is_name n) (are_given Operand (u ∷ v ∷ ts)) fine in
    (parts.0, point_star (piece.Quoted n) u v ts (loosens (u ∷ v ∷ ts) parts.1) is)
all_of_at (piece.Word n ∷ u ∷ []) fine is = absurd (cc)
all_of_at (piece.Word n ∷ []) fine is = absurd (cc)
all_of_at (piece.Quoted n ∷ u ∷ []) fine is = absurd (cc)
all_of_at (piece.Quoted n ∷ []) fine is = absurd (cc)
all_of_at ts fine is = tt

one_item_sound : Sound ShownItem is_shown one_item
unfolding one_item
one_item_sound = bind any_sound (λ x is. named_sound x is)

item_sound : Sound ShownItem is_shown item
unfolding item
item_sound = record {
  runs = λ ts fine. elim (begins_all_of ts) as (λ b. begins_all_of ts ≡ b → Gives ShownItem is_shown (cond b (all_of ts) (one_item ts))) [
    | true ↦ λ is. all_of_at ts fine is
    | false ↦ λ is. one_item_sound.runs ts fine
  ] refl;
}

listing_from_sound : (n : ℕ) (found : Listing) → is_listing found ≡ true → Sound Listing is_listing (listing_from n found)
unfolding listing_from same_sign
listing_from_sound zero found all = gives all
listing_from_sound (suc n) found all =
    bind (eats sign.Comma refl) (λ b a. chosen b (bind item_sound (λ next is. listing_from_sound n (added found next) (filled_added is_item found.items next.item all is))) (gives all))

listing_sound : Sound Listing is_listing listing
unfolding listing
listing_sound = bind item_sound (λ first is. record { runs = λ ts fine. (listing_from_sound (length ts) (first_of first) (and_from _ true is refl)).runs ts fine })

items_sound : Sound Choice is_choice items
unfolding items same_sign
items_sound = bind (eats sign.Star refl) (λ b a. chosen b (gives refl) (bind listing_sound (λ found all. gives all)))

source_sound : Sound TableSource is_source source
unfolding source
source_sound = bind names_one (λ n one_. bind alias_sound (λ m two. gives (and_from _ _ one_ two)))

join_sound : Sound Join is_join join
unfolding join
join_sound = bind source_sound (λ x is. bind (expects_keyword word.On) (λ u a. bind any_sound (λ on such. gives (and_from _ _ is such))))

begins_join_sound : Sound Bool anything begins_join
unfolding begins_join
begins_join_sound = bind (eats_keyword word.Inner) (λ b a. chosen b (bind (expects_keyword word.Join) (λ u c. gives refl)) (eats_keyword word.Join))

joins_from_sound : (n : ℕ) (found : List Join) → list_all is_join found ≡ true → Sound (List Join) (list_all is_join) (joins_from n found)
unfolding joins_from
joins_from_sound zero found all = gives all
joins_from_sound (suc n) found all =
    bind begins_join_sound (λ b a. chosen b (bind join_sound (λ next is. joins_from_sound n (found ++ next ∷ []) (all_added is_join found next all is))) (gives all))

from_sound : Sound FromClause is_from from_clause
unfolding from_clause joins
from_sound = bind source_sound (λ first is. bind (record { runs = λ ts fine. (joins_from_sound (length ts) [] refl).runs ts fine }) (λ others all. gives (and_from _ _ is all)))

pub filter_sound : Sound (Option Expr) (is_perhaps is_expr) filter
unfolding filter
filter_sound = bind (eats_keyword word.Where) (λ b a. chosen b (some any_sound) (gives refl))

column_name_sound : Sound ColumnName is_column_name column_name
unfolding column_name same_sign
column_name_sound = bind names_one (λ n one_. bind (eats sign.Point refl) (λ b a. chosen b (bind names_one (λ m two. gives (and_from _ _ one_ two))) (gives one_)))

groups_sound : Sound (List ColumnName) (list_all is_column_name) groups
unfolding groups
groups_sound = bind (eats_keyword word.Group) (λ b a. chosen b (bind (expects_keyword word.By) (λ u c. weaken (filled_all is_column_name) (list_sound column_name_sound))) (gives refl))

direction_sound : Sound Direction anything direction
unfolding direction
direction_sound = bind (eats_keyword word.Asc) (λ b a. chosen b (gives refl) (bind (eats_keyword word.Desc) (λ c d. gives refl)))

key_sound : Sound OrderKey is_key key
unfolding key
key_sound = bind any_sound (λ x is. bind direction_sound (λ d a. gives is))

keys_sound : Sound (List OrderKey) (list_all is_key) keys
unfolding keys
keys_sound = bind (eats_keyword word.Order) (λ b a. chosen b (bind (expects_keyword word.By) (λ u c. weaken (filled_all is_key) (list_sound key_sound))) (gives refl))

offset_sound : Sound (Option ℕ) anything offset
unfolding offset
offset_sound = bind (eats_word (codes "offset")) (λ b a. chosen b (bind wholes_one (λ n c. gives refl)) (gives refl))

bounds_sound : Sound Limit anything bounds
unfolding bounds
bounds_sound = bind wholes_one (λ n a. bind offset_sound (λ m b. gives refl))

limit_sound : Sound (Option Limit) anything limit
unfolding limit
limit_sound = bind (eats_keyword word.Limit) (λ b a. chosen b (bind bounds_sound (λ n c. gives refl)) (gives refl))

sorting_sound : Sound Sorting is_sorting sorting
unfolding sorting
sorting_sound = bind keys_sound (λ ordered all. bind limit_sound (λ n a. gives all))

clauses_sound : Sound Clauses is_clauses clauses
unfolding clauses
clauses_sound = bind filter_sound (λ f one_. bind groups_sound (λ g two. bind sorting_sound (λ s three. gives (and_from _ _ one_ (and_from _ _ two three)))))

query_sound : (distinct : Bool) (shown : Items) → is_items shown ≡ true → Sound Query is_query (query distinct shown)
unfolding query
query_sound distinct shown is = bind from_sound (λ f one_. bind clauses_sound (λ c two. gives (and_from _ _ is (and_from _ _ one_ two))))

named_from_filled : (found : List NamedExpr) (rest : List SelectItem) → is_filled is_named_expr found ≡ true → list_all is_item rest ≡ true → is_perhaps (is_filled is_named_expr) (named_from found rest) ≡ true
unfolding named_from
named_from_filled found [] filled all = filled
named_from_filled found (AllOf n ∷ rest) filled all = refl
named_from_filled found (One x ∷ rest) filled all =
    let parts = and_parts (is_named_expr x) (list_all is_item rest) all in
    named_from_filled (found ++ x ∷ []) rest (filled_added is_named_expr found x filled parts.0) parts.1

named_in_filled : (shown : Items) → is_items shown ≡ true → is_perhaps (is_filled is_named_expr) (named_in shown) ≡ true
unfolding named_from
named_in_filled All is = refl
named_in_filled (Listed []) is = absurd (cc)
named_in_filled (Listed (AllOf n ∷ rest)) is = refl
named_in_filled (Listed (One x ∷ rest)) is =
    let parts = and_parts (is_named_expr x) (list_all is_item rest) is in
    named_from_filled (x ∷ []) rest (and_from (is_named_expr x) true parts.0 refl) parts.1

alone_or_stop_sound : (o : Option (List NamedExpr)) → is_perhaps (is_filled is_named_expr) o ≡ true → Sound Select is_select (alone_or_stop o)
alone_or_stop_sound (Some found) all = gives all
alone_or_stop_sound None all = stops

alone_sound : (distinct : Bool) (choice : Choice) → is_choice choice ≡ true → Sound Select is_select (alone distinct choice)
unfolding alone
alone_sound distinct choice is = chosen (distinct || choice.wants_from) stops (alone_or_stop_sound (named_in choice.items) (named_in_filled choice.items is))

pub selection_sound : Sound Select is_select selection
unfolding selection
selection_sound =
    bind (eats_keyword word.Distinct) (λ distinct a.
    bind items_sound (λ choice is.
    bind (eats_keyword word.From) (λ b c. chosen b (bind (query_sound distinct choice.items is) (λ q such. gives such)) (alone_sound distinct choice is))))
