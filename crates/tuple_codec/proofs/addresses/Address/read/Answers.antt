use Rattle.std.proofs.Common.{◌≡◌, ◌∙◌, sym, ap, length, bytes_eq}
use Rattle.std.proofs.lemmas.Bool.{both_ways}
use Rattle.std.specs.Cmp.Lexicographic.{bytes_decides}
use Rattle.tuple_codec.specs.AddressTexts.{address_text}
use Rattle.tuple_codec.proofs.AddressLemmas.{text_length, one_address}
use Rattle.tuple_codec.proofs.addresses.Address.read.Goals as goal

pub returns-else-eq : goal.returns-else-eq
returns-else-eq c = λ bytes is same.
    let here : c.text.result ≡ c.args.text.now = c.text.ensures ∙ ap address_text c.twenty_bytes.ensures ∙ one_address bytes c.args.text.now is same in
    let decides = bytes_decides c.text.result c.args.text.now in
    both_ways (bytes_eq c.text.result c.args.text.now) (sym c.eq.ensures ∙ c.if-eq.false) (decides.1 here)

pub returns-then-text-ne32 : goal.returns-then-text-ne32
returns-then-text-ne32 c = λ bytes is same. c.if-text-ne32.true (ap length (sym same) ∙ text_length bytes is)
