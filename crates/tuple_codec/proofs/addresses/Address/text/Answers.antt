use Rattle.std.proofs.Common.{◌∙◌, ap, rules}
use Rattle.tuple_codec.specs.AddressTexts.{letters}
use Rattle.tuple_codec.proofs.AddressLemmas.{text_of}
use Rattle.tuple_codec.proofs.addresses.Address.text.Goals as goal

pub returns : goal.returns
returns c = text_of c.args.self.now.0 c.copy_from_slice.new.self c.copy_from_slice-2.new.self c.copy_from_slice-3.new.self c.copy_from_slice-4.new.self (search rules)
    (c.copy_from_slice.ensures.after ∙ c.eight_letters.ensures ∙ ap (letters 8) c.forty_bits.ensures)
    (c.copy_from_slice-2.ensures.after ∙ c.eight_letters-2.ensures ∙ ap (letters 8) c.forty_bits-2.ensures)
    (c.copy_from_slice-3.ensures.after ∙ c.eight_letters-3.ensures ∙ ap (letters 8) c.forty_bits-3.ensures)
    (c.copy_from_slice-4.ensures.after ∙ c.eight_letters-4.ensures ∙ ap (letters 8) c.forty_bits-4.ensures)
