-- A span of primary keys, and where a key stands beside it.
use Rattle.std.specs.Prelude.{Bool, false, if◌then◌else◌, [], ◌∷◌, ◌++◌, not}
use Rattle.std.specs.Ordering.{is_eq, is_lt, ordering_then}
use Rattle.std.specs.declared.cmp.Ordering.{Ordering}
use Rattle.std.specs.declared.cmp.Ordering.TheVariants.{Less, Equal, Greater}
use Rattle.tuple_codec.specs.Rows.{Cells, value_cmp}
use Rattle.tuple_codec.specs.declared.values.Value.{Value}
use Rattle.sql_select.specs.declared.spans.End.{End}
use Rattle.sql_select.specs.declared.spans.End.TheVariants as end
use Rattle.sql_select.specs.declared.spans.KeySpan.{KeySpan}

-- a value lies before the low end, or beyond the high one
abbrev pub is_before : End → Value → Bool
is_before end.Open value = false
is_before (end.With low) value = is_lt (value_cmp value low)
is_before (end.Without low) value = not (is_lt (value_cmp low value))

abbrev pub is_beyond : End → Value → Bool
is_beyond end.Open value = false
is_beyond (end.With high) value = is_lt (value_cmp high value)
is_beyond (end.Without high) value = not (is_lt (value_cmp value high))

abbrev pub side_of : End → End → Value → Ordering
side_of low high value = if is_before low value then Less else if is_beyond high value then Greater else Equal

-- a key stands before the span, in it, or behind it: it begins with the fixed cells, and the next cell lies between the ends
abbrev pub place_of : Cells → End → End → Cells → Ordering
place_of [] low high [] = Equal
place_of [] low high (value ∷ key) = side_of low high value
place_of (cell ∷ fixed) low high [] = Less
place_of (cell ∷ fixed) low high (value ∷ key) = ordering_then (value_cmp value cell) (place_of fixed low high key)

abbrev pub is_in : KeySpan → Cells → Bool
is_in span key = is_eq (place_of span.fixed span.low span.high key)

abbrev pub value_at : End → Cells
value_at end.Open = []
value_at (end.With value) = value ∷ []
value_at (end.Without value) = value ∷ []

-- no key of the span comes before these cells
abbrev pub start_of : KeySpan → Cells
start_of span = span.fixed ++ value_at span.low
