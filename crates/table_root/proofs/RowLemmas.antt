-- Rows as items: one row has one item, and one address stands for one list of rows.
use Rattle.std.proofs.Common.{map, refl}
use Rattle.tuple_codec.specs.Spellings.{KeepsOrder}
use Rattle.schema_model.specs.PlainTables.{is_row, key_types, primary_key, row_item}
use Rattle.schema_model.proofs.FitLemmas.{key_types_fit, primary_key_fits}
use Rattle.schema_model.proofs.TellingLemmas.{all_by_items, items_tell}
use Rattle.prolly_tree.proofs.One.{one_tree}
use Rattle.table_root.specs.Rows.{RowItemsFollow}

pub items_follow : KeepsOrder → RowItemsFollow
items_follow ordered = record {
  order = λ s a b h fa fb. ordered (key_types s) (primary_key s a) (primary_key s b) (key_types_fit s h) (primary_key_fits s a h fa) (primary_key_fits s b h fb);
  one = items_tell.rows;
  small = λ s row key size. record { key = key; size = size; one = refl };
  same = λ address chunks k s some others h a b.
      all_by_items (row_item s) (is_row s) (λ x y p q. items_tell.rows s x y h p q) some others a.fit b.fit (one_tree address chunks k (map (row_item s) some) (map (row_item s) others) a.tree b.tree);
}
