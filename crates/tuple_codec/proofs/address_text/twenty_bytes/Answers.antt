use Rattle.std.proofs.Common.{◌∙◌, ap}
use Rattle.tuple_codec.specs.AddressTexts.{five_bytes}
use Rattle.tuple_codec.proofs.AddressLemmas.{bytes_of}
use Rattle.tuple_codec.proofs.address_text.twenty_bytes.Goals as goal

pub returns : goal.returns
returns c = bytes_of c.args.text.now c.copy_from_slice.new.self c.copy_from_slice-2.new.self c.copy_from_slice-3.new.self c.copy_from_slice-4.new.self c.requires
    (c.copy_from_slice.ensures.after ∙ c.five_bytes.ensures ∙ ap five_bytes c.of_letters.ensures)
    (c.copy_from_slice-2.ensures.after ∙ c.five_bytes-2.ensures ∙ ap five_bytes c.of_letters-2.ensures)
    (c.copy_from_slice-3.ensures.after ∙ c.five_bytes-3.ensures ∙ ap five_bytes c.of_letters-3.ensures)
    (c.copy_from_slice-4.ensures.after ∙ c.five_bytes-4.ensures ∙ ap five_bytes c.of_letters-4.ensures)
