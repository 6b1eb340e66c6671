-- Sources and sinks in memory, computed call by call.
use Rattle.std.proofs.Common.{◌≡◌, ℕ, List, [], ◌∷◌, true, false, refl}
use Rattle.wire_io.specs.Memory.{Holding, Supply, after_read, after_write, holding, no_limit, read_count, read_fails, supply, write_fails}

abbrev letters : List ℕ
letters = 97 ∷ 98 ∷ 99 ∷ 100 ∷ 101 ∷ []

-- a steady source gives its bytes, and then its end
abbrev steady : Supply
steady = after_read (supply letters no_limit []) 3

what_is_left : steady.left ≡ 100 ∷ 101 ∷ []
what_is_left = refl

rest_of_it : read_count steady 3 ≡ 2
rest_of_it = refl

then_its_end : read_count (after_read steady 3) 3 ≡ 0
then_its_end = refl

-- a source with a limit of two bytes, whose second and third call fail
abbrev limited : Supply
limited = after_read (supply letters 2 (1 ∷ 2 ∷ [])) 8

two_at_most : limited.left ≡ 99 ∷ 100 ∷ 101 ∷ []
two_at_most = refl

second_fails : read_fails limited ≡ true
second_fails = refl

failing_moves_nothing : (after_read limited 8).left ≡ 99 ∷ 100 ∷ 101 ∷ []
failing_moves_nothing = refl

fourth_goes_on : (after_read (after_read (after_read limited 8) 8) 8).left ≡ 101 ∷ []
fourth_goes_on = refl

-- a sink with room for four bytes takes those, and then fails
abbrev filling : Holding
filling = after_write (after_write (holding 4 no_limit []) (97 ∷ 98 ∷ 99 ∷ [])) (100 ∷ 101 ∷ [])

what_it_holds : filling.held ≡ 97 ∷ 98 ∷ 99 ∷ 100 ∷ []
what_it_holds = refl

no_room_left : write_fails filling (101 ∷ []) ≡ true
no_room_left = refl

nothing_is_taken : write_fails filling [] ≡ false
nothing_is_taken = refl
