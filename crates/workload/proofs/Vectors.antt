-- Draws of seed 7, and the statements that they make. Those of `statements` are as another program wrote them.
use Rattle.std.proofs.Common.{◌≡◌, refl, [], ◌∷◌, map, take, drop}
use Rattle.std.specs.Fmt.{digits}
use Rattle.std.specs.Prelude.{codes}
use Rattle.workload.specs.Workload.{create_text, drawn, each, next, nothing_drawn, statements, steps_of, text_of, with_begin, with_insert, with_update}

first_draw : drawn (next 7) ≡ 2118330556
unfolding drawn next
first_draw = refl

-- a sum of seed and session past 2^64 begins again at 0
begins_again : (nothing_drawn 18446744073709551615 1).x ≡ 0
begins_again = refl

first_row : map text_of (with_insert 0 (nothing_drawn 7 0)).steps ≡ codes "INSERT INTO load_rows VALUES (0,556)" ∷ []
unfolding digits drawn next
first_row = refl

-- the row is drawn before its value
first_change : map text_of (with_update 3000 (nothing_drawn 7 0)).steps ≡ codes "UPDATE load_rows SET v = 463 WHERE id = 3006" ∷ []
unfolding digits drawn next
first_change = refl

first_begin : map text_of (with_begin 0 (nothing_drawn 7 0)).steps ≡ codes "BEGIN" ∷ create_text ∷ []
first_begin = refl

later_begin : map text_of (with_begin 9 (nothing_drawn 7 0)).steps ≡ codes "BEGIN" ∷ []
later_begin = refl

front_of_the_first : take 3 (statements 7 0) ≡ codes "BEGIN" ∷ create_text ∷ codes "INSERT INTO load_rows VALUES (0,556)" ∷ []
unfolding digits drawn each next steps_of
front_of_the_first = refl

rows_then_changes : take 2 (drop 51 (statements 7 0)) ≡ codes "INSERT INTO load_rows VALUES (49,981)" ∷ codes "UPDATE load_rows SET v = 308 WHERE id = 44" ∷ []
unfolding digits drawn each next steps_of
rows_then_changes = refl

batch_after_batch : take 4 (drop 61 (statements 7 0)) ≡ codes "UPDATE load_rows SET v = 77 WHERE id = 4" ∷ codes "COMMIT" ∷ codes "BEGIN" ∷ codes "INSERT INTO load_rows VALUES (1000,843)" ∷ []
unfolding digits drawn each next steps_of
batch_after_batch = refl

row_of_the_second : take 1 (drop 2 (statements 7 1)) ≡ codes "INSERT INTO load_rows VALUES (1000000,489)" ∷ []
unfolding digits drawn each next steps_of
row_of_the_second = refl

end_of_the_last : drop 619 (statements 7 7) ≡ codes "UPDATE load_rows SET v = 918 WHERE id = 7009017" ∷ codes "COMMIT" ∷ []
unfolding digits drawn each next steps_of
end_of_the_last = refl
