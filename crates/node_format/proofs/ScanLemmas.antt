-- Reading the items of a node as a loop does, with their marks.
use Rattle.std.proofs.Common.{◌≡◌, ℕ, suc, ◌+◌, ◌-◌, ◌*◌, ◌/◌, ◌<◌, ◌≤◌, List, [], ◌∷◌, length, drop, true, false, Option, Some, None, refl, sym, ap, subst, ◌∙◌, arith}
use Rattle.tuple_codec.specs.Nodes.{Item, item_bytes}
use Rattle.node_format.specs.Reading.{item_at, next_at, rest_of, skip, stop_at, stop_at_end}
use Rattle.node_format.specs.Marks.{AreMarked, IsPlace, noted}
use Rattle.node_format.proofs.FieldLemmas.{IsBytes, IsBytes-drop}
use Rattle.node_format.proofs.ItemLemmas.{next_takes, skip_more}
use Rattle.node_format.proofs.MarkLemmas.{left_after, marked_more, noted_length}
use Rattle.std.specs.Prelude.{◌==◌}
use Rattle.std.proofs.lemmas.Bool.{eqb-true}
use Rattle.std.proofs.lemmas.Nat.{div_below}

-- so many items have been read, the last with the key before, and this is left
pub record SoFar (level count : ℕ) (items : List ℕ) (number : ℕ) (before : Option (List ℕ)) (rest : List ℕ) (stride : ℕ) (places : List ℕ) : Type 0 where
  pub same : stop_at level (count - number) before rest ≡ stop_at level count None items
  pub at : rest ≡ skip level number items
  pub fits : length rest ≤ length items
  pub left : drop (length items - length rest) items ≡ rest
  pub marks : AreMarked level items stride places number
  pub step : 0 < stride
  pub room : count < 128 * stride
  pub many : length places ≡ 128

pub begins : (level count : ℕ) (items : List ℕ) (stride : ℕ) (places : List ℕ) → 0 < stride → count < 128 * stride → length places ≡ 128 → SoFar level count items 0 None items stride places
unfolding skip
begins level count items stride places step room many =
    let whole : count - 0 ≡ count = omega arith in
    let none : length items - length items ≡ 0 = omega arith in
    record {
      same = ap (λ (n : ℕ). stop_at level n None items) whole;
      at = refl;
      fits = omega arith;
      left = ap (λ (n : ℕ). drop n items) none;
      marks = λ k below. absurd (omega (arith, below));
      step = step;
      room = room;
      many = many;
    }

pub goes_on : (level count : ℕ) (items : List ℕ) (number : ℕ) (before : Option (List ℕ)) (rest : List ℕ) (stride : ℕ) (places more : List ℕ) (x : Item × List ℕ) → IsBytes items → number < count
    → next_at level before rest ≡ Some x → more ≡ noted stride number (length items - length rest) places
    → SoFar level count items number before rest stride places → SoFar level count items (number + 1) (Some x.0.key) x.1 stride more
unfolding stop_at
goes_on level count items number before rest stride places more x fits below next noting so_far =
    let room : number / stride < 128 = div_below number stride 128 so_far.step (omega (arith, below, so_far.room)) in
    let rest_fits : IsBytes rest = subst IsBytes so_far.left (IsBytes-drop (length items - length rest) items fits) in
    let n = next_takes level before rest x rest_fits next in
    let l = left_after items rest (item_bytes level x.0) x.1 so_far.fits so_far.left n.takes.parts in
    let k : count - number ≡ suc (count - (number + 1)) = omega arith in
    let one : stop_at level (count - number) before rest ≡ stop_at level (count - (number + 1)) (Some x.0.key) x.1 = rw (k, next) refl in
    let here : IsPlace level items number (length items - length rest) = (omega arith, so_far.left ∙ so_far.at) in
    let after : skip level (number + 1) items ≡ x.1 = skip_more level number items ∙ ap (λ (r : List ℕ). rest_of (item_at level r)) (sym so_far.at) ∙ ap (λ (o : Option (Item × List ℕ)). rest_of o) n.at in
    let marked : AreMarked level items stride (noted stride number (length items - length rest) places) (number + 1) =
    marked_more level items stride number (length items - length rest) places so_far.step (omega (arith, room, so_far.many)) here so_far.marks in
    record {
      same = sym one ∙ so_far.same;
      at = sym after;
      fits = l.0;
      left = l.1;
      marks = subst (λ (p : List ℕ). AreMarked level items stride p (number + 1)) (sym noting) marked;
      step = so_far.step;
      room = so_far.room;
      many = ap (λ (l : List ℕ). length l) noting ∙ noted_length stride number (length items - length rest) places ∙ so_far.many;
    }

pub stops_here : (level count : ℕ) (items : List ℕ) (number : ℕ) (before : Option (List ℕ)) (rest : List ℕ) (stride : ℕ) (places : List ℕ) → number < count → next_at level before rest ≡ None
    → SoFar level count items number before rest stride places → stop_at level count None items ≡ Some rest
unfolding stop_at
stops_here level count items number before rest stride places below next so_far =
    let k : count - number ≡ suc (count - (number + 1)) = omega arith in
    let one : stop_at level (count - number) before rest ≡ Some rest = rw (k, next) refl in
    sym so_far.same ∙ one

at_end : (rest : List ℕ) → (length rest == 0) ≡ true → stop_at_end rest ≡ None
at_end [] e = refl
at_end (b ∷ rest) e = absurd (omega (arith, eqb-true (length (b ∷ rest)) 0 e))

past_end : (rest : List ℕ) → (length rest == 0) ≡ false → stop_at_end rest ≡ Some rest
past_end [] e = absurd cc
past_end (b ∷ rest) e = refl

module _ (level count : ℕ) (items : List ℕ) (number : ℕ) (before : Option (List ℕ)) (rest : List ℕ) (stride : ℕ) (places : List ℕ) (done : count ≤ number) (so_far : SoFar level count items number before rest stride places) where
  ends : stop_at level count None items ≡ stop_at_end rest
  unfolding stop_at
  ends =
      let k : count - number ≡ 0 = omega arith in
      let one : stop_at level (count - number) before rest ≡ stop_at_end rest = rw k refl in
      sym so_far.same ∙ one

  pub is_whole : (length rest == 0) ≡ true → stop_at level count None items ≡ None
  is_whole e = ends ∙ at_end rest e

  pub has_more : (length rest == 0) ≡ false → stop_at level count None items ≡ Some rest
  has_more e = ends ∙ past_end rest e
