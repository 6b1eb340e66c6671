-- A reply is read back by its first bytes: a brief one and a refusal end with their line, and rows are counted before they stand.
use Rattle.std.proofs.Common.{◌≡◌, refl, sym, ap, ◌∙◌, ℕ, ◌<◌, ◌^◌, ◌==◌, Bool, true, List, [], ◌∷◌, ◌++◌, codes, length, not, decimal, append_assoc, Some, None, drop, slice_index, arith, ltb-true}
use Rattle.std.specs.Option.{unwrap_or}
use Rattle.std.specs.List.{join_with_byte}
use Rattle.std.specs.Fmt.{digits}
use Rattle.std.proofs.lemmas.Bool.{and_parts}
use Rattle.std.proofs.lemmas.Fmt.{decimal_injective}
use Rattle.std.proofs.lemmas.List.{append_cancel_left}
use Rattle.chunk_store.specs.declared.faults.Clash.{Clash}
use Rattle.tuple_codec.specs.declared.answers.Answer.{Answer}
use Rattle.tuple_codec.specs.declared.values.SqlType.{SqlType}
use Rattle.tuple_codec.specs.declared.values.Value.{Value}
use Rattle.script_text.specs.declared.replies.Reply.{Reply}
use Rattle.script_text.specs.declared.replies.Reply.TheVariants.{Done, Count, Rows, Refused, Syntax, Collided}
use Rattle.script_text.specs.Output.{Clashes, answer_text, clash_text, refusal_text, reply_text, row_lines, shortage, shortage_of}
use Rattle.script_text.specs.Shown.{is_one_line, is_shown_reply}
use Rattle.sql_text.specs.Values.{row_text}
use Rattle.script_text.proofs.ClashLemmas.{IsShownClash, clash_in_line, one_clash, shown_clash, told_clash}
use Rattle.script_text.proofs.TextParts.{Stops, until, is_digit, decimal_in_digits, decimal_in_line, line_append}
use Rattle.script_text.proofs.LineParts.{joined_in_line, refusal_in_line, refusal_in_range, row_in_line}

abbrev in_line : ℕ → Bool
in_line byte = not (byte == 10)

at_line_end : (x : List ℕ) → Stops in_line (10 ∷ x)
at_line_end x = record { byte = 10; rest = x; is = refl; stops = refl }

-- two lines that end are the same, and so is what follows
pub line_part : (a b x y : List ℕ) → is_one_line a ≡ true → is_one_line b ≡ true → a ++ (10 ∷ x) ≡ b ++ (10 ∷ y) → (a ≡ b) × (x ≡ y)
line_part a b x y all each e =
    let parts = until in_line a b (10 ∷ x) (10 ∷ y) all each (at_line_end x) (at_line_end y) e in
    (parts.0, cc (parts.1))

-- two numbers before a byte that is no digit are the same, and so is what follows
pub number_part : (m n : ℕ) (x y : List ℕ) → m < 2 ^ 64 → n < 2 ^ 64 → Stops is_digit x → Stops is_digit y → decimal m ++ x ≡ decimal n ++ y → (m ≡ n) × (x ≡ y)
number_part m n x y low small ends stops e =
    let parts = until is_digit (decimal m) (decimal n) x y (decimal_in_digits m) (decimal_in_digits n) ends stops e in
    (decimal_injective m n low small parts.0, parts.1)

row_lines_more : (kinds : List SqlType) (row : List Value) (rows : List (List Value)) (x : List ℕ)
    → row_lines kinds (row ∷ rows) ++ x ≡ 10 ∷ (row_text kinds row ++ (row_lines kinds rows ++ x))
row_lines_more kinds row rows x = ap (λ rest. 10 ∷ rest) (append_assoc (row_text kinds row) (row_lines kinds rows) x)

pub record SameRows (kinds types : List SqlType) (rows others : List (List Value)) (head front x y : List ℕ) : Type 0 where
  pub heads : head ≡ front
  pub lines : row_lines kinds rows ≡ row_lines types others
  pub rest : x ≡ y

-- as many rows, behind a line before them
rows_part : (kinds types : List SqlType) (rows others : List (List Value)) (head front x y : List ℕ) → length rows ≡ length others
    → is_one_line head ≡ true → is_one_line front ≡ true
    → head ++ (row_lines kinds rows ++ (10 ∷ x)) ≡ front ++ (row_lines types others ++ (10 ∷ y)) → SameRows kinds types rows others head front x y
rows_part kinds types [] [] head front x y lengths all each e =
    let parts = line_part head front x y all each e in
    record { heads = parts.0; lines = refl; rest = parts.1 }
rows_part kinds types [] (other ∷ others) head front x y lengths all each e = absurd (omega arith)
rows_part kinds types (row ∷ rows) [] head front x y lengths all each e = absurd (omega arith)
rows_part kinds types (row ∷ rows) (other ∷ others) head front x y lengths all each e =
    let left = row_lines_more kinds row rows (10 ∷ x) in
    let right = row_lines_more types other others (10 ∷ y) in
    let parts = line_part head front (row_text kinds row ++ (row_lines kinds rows ++ (10 ∷ x))) (row_text types other ++ (row_lines types others ++ (10 ∷ y))) all each
    (sym (ap (λ rest. head ++ rest) left) ∙ e ∙ ap (λ rest. front ++ rest) right) in
    let more = rows_part kinds types rows others (row_text kinds row) (row_text types other) x y (omega arith) (row_in_line kinds row) (row_in_line types other) parts.1 in
    record { heads = parts.0; lines = cc (more.heads, more.lines); rest = more.rest }

-- what a reply's text can be
pub record IsBrief (reply : Reply) : Type 0 where
  pub end : List ℕ
  pub text : reply_text reply ≡ 111 ∷ 107 ∷ end
  pub line : is_one_line end ≡ true
  pub want : shortage reply ≡ None

-- what a refusal's text tells behind its number: the number's own text, or a collision's address and byte strings
pub record IsPlain (reply : Reply) (number : ℕ) (end : List ℕ) : Type 0 where
  -- without a collision's strings
  pub third : number ≡ 3 → end ≡ codes "collision"
  pub want : shortage reply ≡ shortage_of number

pub record IsClash (reply : Reply) (number : ℕ) (end : List ℕ) : Type 0 where
  pub clash : Clash
  pub shown : IsShownClash clash
  pub third : number ≡ 3
  pub text : end ≡ codes "collision" ++ clash_text clash
  pub want : shortage reply ≡ Some (Clashes clash)

pub data Cause (reply : Reply) (number : ℕ) (end : List ℕ) : Type 0 where
  plain : IsPlain reply number end → Cause reply number end
  clashes : IsClash reply number end → Cause reply number end

pub record IsRefusal (reply : Reply) : Type 0 where
  pub number : ℕ
  pub end : List ℕ
  pub small : number < 2 ^ 64
  pub text : reply_text reply ≡ codes "refused " ++ (decimal number ++ (32 ∷ end))
  pub line : is_one_line end ≡ true
  pub cause : Cause reply number end

pub record IsTable (reply : Reply) : Type 0 where
  pub answer : Answer
  pub small : length answer.rows < 2 ^ 64
  pub line : is_one_line (join_with_byte 44 answer.names) ≡ true
  pub text : reply_text reply ≡ answer_text answer
  pub want : shortage reply ≡ None

pub data Shape (reply : Reply) : Type 0 where
  brief : IsBrief reply → Shape reply
  refusal : IsRefusal reply → Shape reply
  table : IsTable reply → Shape reply

third_refusal : (end : List ℕ) → codes "refused 3 " ++ end ≡ codes "refused " ++ (decimal 3 ++ (32 ∷ end))
unfolding digits
third_refusal end = refl

syntax_refusal : (end : List ℕ) → codes "refused 1064 " ++ end ≡ codes "refused " ++ (decimal 1064 ++ (32 ∷ end))
unfolding digits
syntax_refusal end = refl

-- a new kind of reply is one line here
shape : (reply : Reply) → is_shown_reply reply ≡ true → Shape reply
shape Done shown = brief (record { end = []; text = refl; line = refl; want = refl })
shape (Count rows) shown = brief (record { end = 32 ∷ decimal rows; text = refl; line = decimal_in_line rows; want = refl })
shape (Rows answer) shown = table (record {
  answer = answer;
  small = ltb-true _ _ (and_parts _ _ shown).0;
  line = joined_in_line answer.names (and_parts _ _ shown).1;
  text = refl;
  want = refl;
})
shape (Refused number) shown = refusal (record {
  number = number;
  end = unwrap_or (refusal_text number) [];
  small = refusal_in_range number shown;
  text = simp append_assoc;
  line = refusal_in_line number;
  cause = plain (record { third = λ third. ap (λ n. unwrap_or (refusal_text n) []) third; want = refl });
})
shape (Syntax at) shown = refusal (record {
  number = 1064;
  end = codes "syntax at byte " ++ decimal at;
  small = omega arith;
  text = syntax_refusal (codes "syntax at byte " ++ decimal at);
  line = decimal_in_line at;
  cause = plain (record { third = λ third. absurd (omega arith); want = refl });
})
shape (Collided clash) shown = refusal (record {
  number = 3;
  end = codes "collision" ++ clash_text clash;
  small = omega arith;
  text = third_refusal (codes "collision" ++ clash_text clash);
  line = clash_in_line clash;
  cause = clashes (record { clash = clash; shown = shown_clash clash shown; third = refl; text = refl; want = refl });
})

-- two replies that print the same, and tell of the same want of memory or the same collision
pub record SameReply (a b : Reply) : Type 0 where
  pub text : reply_text a ≡ reply_text b
  pub want : shortage a ≡ shortage b

pub record ReadReply (a b : Reply) (x y : List ℕ) : Type 0 where
  pub same : SameReply a b
  pub rest : x ≡ y

opened : (a b front head x y : List ℕ) → a ≡ front → b ≡ head → a ++ x ≡ b ++ y → front ++ x ≡ head ++ y
opened a b front head x y left right e = sym (ap (λ text. text ++ x) left) ∙ e ∙ ap (λ text. text ++ y) right

refusal_line : (reply : Reply) → IsRefusal reply → is_one_line (reply_text reply) ≡ true
refusal_line reply told = ap is_one_line told.text ∙ line_append (decimal told.number) (32 ∷ told.end) (decimal_in_line told.number) told.line

brief_part : (a b : Reply) (x y : List ℕ) → IsBrief a → IsBrief b → reply_text a ++ (10 ∷ x) ≡ reply_text b ++ (10 ∷ y) → ReadReply a b x y
brief_part a b x y left right e =
    let parts = line_part (reply_text a) (reply_text b) x y (ap is_one_line left.text ∙ left.line) (ap is_one_line right.text ∙ right.line) e in
    record { same = record { text = parts.0; want = left.want ∙ sym right.want }; rest = parts.1 }

refusal_more : (number : ℕ) (end x : List ℕ) → (codes "refused " ++ (decimal number ++ (32 ∷ end))) ++ x ≡ codes "refused " ++ (decimal number ++ (32 ∷ (end ++ x)))
refusal_more number end x = ap (λ rest. codes "refused " ++ rest) (append_assoc (decimal number) (32 ∷ end) x)

at_space : (x : List ℕ) → Stops is_digit (32 ∷ x)
at_space x = record { byte = 32; rest = x; is = refl; stops = refl }

plain_or_clash : (clash : Clash) (end : List ℕ) → end ≡ codes "collision" → end ≡ codes "collision" ++ clash_text clash → ⊥
plain_or_clash clash end alone told = told_clash clash (ap (drop 9) (sym alone ∙ told))

-- what refusals of one number and one text tell is the same
same_cause : (a b : Reply) (m n : ℕ) (front head : List ℕ) → Cause a m front → Cause b n head → m ≡ n → front ≡ head → shortage a ≡ shortage b
same_cause a b m n front head (plain left) (plain right) numbers texts = left.want ∙ ap shortage_of numbers ∙ sym right.want
same_cause a b m n front head (clashes left) (clashes right) numbers texts =
    let clash = one_clash left.clash right.clash left.shown right.shown (ap (drop 9) (sym left.text ∙ texts ∙ right.text)) in
    left.want ∙ ap (λ x. Some (Clashes x)) clash ∙ sym right.want
same_cause a b m n front head (plain left) (clashes right) numbers texts = absurd (plain_or_clash right.clash front (left.third (numbers ∙ right.third)) (texts ∙ right.text))
same_cause a b m n front head (clashes left) (plain right) numbers texts = absurd (plain_or_clash left.clash head (right.third (sym numbers ∙ left.third)) (sym texts ∙ left.text))

refusal_part : (a b : Reply) (x y : List ℕ) → IsRefusal a → IsRefusal b → reply_text a ++ (10 ∷ x) ≡ reply_text b ++ (10 ∷ y) → ReadReply a b x y
refusal_part a b x y left right e =
    let parts = line_part (reply_text a) (reply_text b) x y (refusal_line a left) (refusal_line b right) e in
    let numbers = number_part left.number right.number (32 ∷ (left.end ++ (10 ∷ x))) (32 ∷ (right.end ++ (10 ∷ y))) left.small right.small (at_space _) (at_space _)
    (append_cancel_left (codes "refused ") _ _
    (sym (refusal_more left.number left.end (10 ∷ x)) ∙ opened (reply_text a) (reply_text b) _ _ (10 ∷ x) (10 ∷ y) left.text right.text e ∙ refusal_more right.number right.end (10 ∷ y))) in
    let ends = line_part left.end right.end x y left.line right.line (ap (drop 1) numbers.1) in
    record { same = record { text = parts.0; want = same_cause a b left.number right.number left.end right.end left.cause right.cause numbers.0 ends.0 }; rest = parts.1 }

answer_more : (answer : Answer) (x : List ℕ)
    → answer_text answer ++ x ≡ codes "rows " ++ (decimal (length answer.rows) ++ (10 ∷ (join_with_byte 44 answer.names ++ (row_lines answer.kinds answer.rows ++ x))))
answer_more answer x = simp append_assoc

at_digits_end : (x : List ℕ) → Stops is_digit (10 ∷ x)
at_digits_end x = record { byte = 10; rest = x; is = refl; stops = refl }

same_answer : (count others : ℕ) (names heads lines rows : List ℕ) → count ≡ others → names ≡ heads → lines ≡ rows
    → codes "rows " ++ decimal count ++ (10 ∷ []) ++ names ++ lines ≡ codes "rows " ++ decimal others ++ (10 ∷ []) ++ heads ++ rows
same_answer count others names heads lines rows p q r = cc

table_part : (a b : Reply) (x y : List ℕ) → IsTable a → IsTable b → reply_text a ++ (10 ∷ x) ≡ reply_text b ++ (10 ∷ y) → ReadReply a b x y
table_part a b x y left right e =
    let counts = number_part (length left.answer.rows) (length right.answer.rows) (10 ∷ (join_with_byte 44 left.answer.names ++ (row_lines left.answer.kinds left.answer.rows ++ (10 ∷ x))))
    (10 ∷ (join_with_byte 44 right.answer.names ++ (row_lines right.answer.kinds right.answer.rows ++ (10 ∷ y)))) left.small right.small (at_digits_end _) (at_digits_end _)
    (append_cancel_left (codes "rows ") _ _
    (sym (answer_more left.answer (10 ∷ x)) ∙ opened (reply_text a) (reply_text b) _ _ (10 ∷ x) (10 ∷ y) left.text right.text e ∙ answer_more right.answer (10 ∷ y))) in
    let rows = rows_part left.answer.kinds right.answer.kinds left.answer.rows right.answer.rows (join_with_byte 44 left.answer.names) (join_with_byte 44 right.answer.names) x y
    counts.0 left.line right.line (cc (counts.1)) in
    record {
      same = record { text = left.text ∙ same_answer _ _ _ _ _ _ counts.0 rows.heads rows.lines ∙ sym right.text; want = left.want ∙ sym right.want };
      rest = rows.rest;
    }

-- the shapes differ in their second byte
apart : (m n first other : ℕ) (front head a b x y : List ℕ) {P : Type 0} → (m ≡ n → ⊥) → a ≡ first ∷ m ∷ front → b ≡ other ∷ n ∷ head → a ++ x ≡ b ++ y → P
apart m n first other front head a b x y differ left right e = absurd (differ (ap (λ text. slice_index text 1) (opened a b (first ∷ m ∷ front) (other ∷ n ∷ head) x y left right e)))

shapes_part : (a b : Reply) (x y : List ℕ) → Shape a → Shape b → reply_text a ++ (10 ∷ x) ≡ reply_text b ++ (10 ∷ y) → ReadReply a b x y
shapes_part a b x y (brief left) (brief right) e = brief_part a b x y left right e
shapes_part a b x y (refusal left) (refusal right) e = refusal_part a b x y left right e
shapes_part a b x y (table left) (table right) e = table_part a b x y left right e
shapes_part a b x y (brief left) (refusal right) e = apart 107 101 _ _ _ _ (reply_text a) (reply_text b) (10 ∷ x) (10 ∷ y) (λ same. omega arith) left.text right.text e
shapes_part a b x y (brief left) (table right) e = apart 107 111 _ _ _ _ (reply_text a) (reply_text b) (10 ∷ x) (10 ∷ y) (λ same. omega arith) left.text right.text e
shapes_part a b x y (refusal left) (brief right) e = apart 101 107 _ _ _ _ (reply_text a) (reply_text b) (10 ∷ x) (10 ∷ y) (λ same. omega arith) left.text right.text e
shapes_part a b x y (refusal left) (table right) e = apart 101 111 _ _ _ _ (reply_text a) (reply_text b) (10 ∷ x) (10 ∷ y) (λ same. omega arith) left.text right.text e
shapes_part a b x y (table left) (brief right) e = apart 111 107 _ _ _ _ (reply_text a) (reply_text b) (10 ∷ x) (10 ∷ y) (λ same. omega arith) left.text right.text e
shapes_part a b x y (table left) (refusal right) e = apart 111 101 _ _ _ _ (reply_text a) (reply_text b) (10 ∷ x) (10 ∷ y) (λ same. omega arith) left.text right.text e

-- two replies that end their line are read the same, and so is what follows
pub reply_part : (a b : Reply) (x y : List ℕ) → is_shown_reply a ≡ true → is_shown_reply b ≡ true → reply_text a ++ (10 ∷ x) ≡ reply_text b ++ (10 ∷ y) → ReadReply a b x y
reply_part a b x y left right e = shapes_part a b x y (shape a left) (shape b right) e
