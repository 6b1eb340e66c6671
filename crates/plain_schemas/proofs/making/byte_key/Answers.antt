use Rattle.std.proofs.Common.{◌≡◌, ◌∙◌, ap}
use Rattle.std.specs.List.{flat_map, list_all}
use Rattle.plain_schemas.specs.Lists.{fits_byte}
use Rattle.plain_schemas.specs.Made.{key_in}
use Rattle.plain_schemas.proofs.PlaceLemmas.{keys_fit}
use Rattle.plain_schemas.proofs.making.byte_key.Goals as goal

pub in_bytes-requires : goal.in_bytes-requires
in_bytes-requires c =
    let same : c.as_slice.result.now ≡ flat_map (key_in c.args.columns.now) c.args.elements.now = c.as_slice.ensures ∙ c.in_ok-wide.ensures in
    ap (list_all fits_byte) same ∙ keys_fit c.args.columns.now c.args.elements.now c.requires
