-- The definitions, computed on runs whose texts are known.
use Rattle.std.proofs.Common.{◌≡◌, refl, codes, ℕ, List, [], ◌∷◌, None, pos, replicate}
use Rattle.std.specs.Fmt.{digits}
use Rattle.tuple_codec.specs.AddressTexts.{letter}
use Rattle.tuple_codec.specs.declared.values.Value.TheVariants as cell
use Rattle.script_text.specs.declared.outputs.BranchLine.{BranchLine}
use Rattle.script_text.specs.declared.replies.Reply.TheVariants.{Count, Done, Refused}
use Rattle.program_run.specs.Loading.{load_rows_in, load_text}

abbrev at : List ℕ → ℕ → BranchLine
at name byte = record {
  name = name;
  rec = record {
    head = record { 0 = replicate 20 1 };
    working = record { 0 = replicate 20 byte };
    staged = record { 0 = replicate 20 1 };
    merging = None;
  };
}

-- nothing refused: six lines
quiet : load_text 7 (record { names = codes "w0" ∷ []; replies = (Done ∷ Count 1 ∷ []) ∷ []; order = record { session = 0; statement = 2 } ∷ []; branches = at (codes "b") 0 ∷ at (codes "main") 255 ∷ [] }) 4000
    ≡ codes "load 7\nsessions 8\nstatements 4968\nrefused 0\nrows 4000\nworking vvvvvvvvvvvvvvvvvvvvvvvvvvvvvvvv\n"
unfolding digits letter
quiet = refl

-- two refused, one of them by no rule: two lines more, and the second tells that one
troubled : load_text 0 (record {
  names = codes "w0" ∷ codes "w1" ∷ [];
  replies = (Done ∷ Refused 1062 ∷ []) ∷ (Refused 2 ∷ []) ∷ [];
  order = record { session = 1; statement = 1 } ∷ record { session = 0; statement = 2 } ∷ [];
  branches = at (codes "main") 0 ∷ [];
}) 3
    ≡ codes "load 0\nsessions 8\nstatements 4968\nrefused 2\nrows 3\nworking 00000000000000000000000000000000\norder w1/1 w0/2\nrefused w1/1:2\n"
unfolding digits letter
troubled = refl

-- the rows of the table of that name, and of no other
rows_told : load_rows_in (record { name = codes "load_row"; table = record { schema = record { columns = []; key = []; indexes = []; checks = []; foreign = [] }; rows = [] ∷ []; conflicts = []; violations = [] } }
    ∷ record { name = codes "load_rows"; table = record { schema = record { columns = []; key = []; indexes = []; checks = []; foreign = [] }; rows = (cell.Int (pos 1) ∷ []) ∷ [] ∷ []; conflicts = []; violations = [] } } ∷ [])
    ≡ 2
rows_told = refl

no_table : load_rows_in [] ≡ 0
no_table = refl
