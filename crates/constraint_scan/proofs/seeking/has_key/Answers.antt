use Rattle.std.proofs.Common.{refl}
use Rattle.constraint_scan.proofs.FoundLemmas.{key_found}
use Rattle.constraint_scan.proofs.seeking.has_key.Goals as goal

pub returns-in-Some : goal.returns-in-Some
returns-in-Some g c = λ contents at.
    key_found c.has_key_by_bytes.result c.as_slice.result.now c.args.key.now c.args.places.now c.args.places.now contents.rows c.as_slice.ensures refl (c.has_key_by_bytes.ensures contents at)

pub returns-in-None : goal.returns-in-None
returns-in-None g c = λ contents at.
    key_found c.has_key_in_rows.result c.as_slice-in-None.result.now c.args.key.now c.args.places.now c.args.places.now contents.rows c.as_slice-in-None.ensures refl
    (c.has_key_in_rows.ensures contents at)
