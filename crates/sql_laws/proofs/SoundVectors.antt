-- Statements that are sound, and ones that no text gives.
use Rattle.std.proofs.Common.{◌≡◌, refl, codes, true, false, None, Some, [], ◌∷◌}
use Rattle.sql_ast.specs.declared.statements.InsertCell.TheVariants as entry
use Rattle.sql_ast.specs.declared.statements.Statement.TheVariants as statement
use Rattle.sql_ast.specs.declared.statements.Write.TheVariants as write
use Rattle.sql_laws.specs.Sound.{is_sound}

-- INSERT INTO t (a, b) VALUES (DEFAULT, DEFAULT)
insert : is_sound (statement.Write (write.Insert (record { table = codes "t"; columns = Some (codes "a" ∷ codes "b" ∷ []); tuples = (entry.Default ∷ entry.Default ∷ []) ∷ [] }))) ≡ true
insert = refl

-- no column between the parentheses; no tuple; a tuple of nothing
no_column : is_sound (statement.Write (write.Insert (record { table = codes "t"; columns = Some []; tuples = (entry.Default ∷ []) ∷ [] }))) ≡ false
no_column = refl

no_tuple : is_sound (statement.Write (write.Insert (record { table = codes "t"; columns = None; tuples = [] }))) ≡ false
no_tuple = refl

empty_tuple : is_sound (statement.Write (write.Insert (record { table = codes "t"; columns = None; tuples = [] ∷ [] }))) ≡ false
empty_tuple = refl

-- a name in capitals; one without a byte
capitals : is_sound (statement.Write (write.Drop (record { if_exists = false; table = codes "T" }))) ≡ false
capitals = refl

nameless : is_sound (statement.Write (write.Drop (record { if_exists = false; table = [] }))) ≡ false
nameless = refl
