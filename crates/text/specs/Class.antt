-- The class of a byte, by ranges: RFC 3629's first bytes, and the bytes of document 01's paths.
use Rattle.std.specs.Prelude.{ℕ, eqb, ltb}
use Rattle.meaning.specs.Text.{name_byte, pick}
use Rattle.text.specs.declared.Class.{Class}
use Rattle.text.specs.declared.Class.TheVariants.{Zero, Plain, Slash, Name, Never, Two, LowThree, Three, SurThree, LowFour, Four, TopFour}

unfoldable pub class_of : ℕ → Class
class_of b = pick (eqb b 0) Zero
    (pick (eqb b 47) Slash
    (pick (name_byte b) Name
    (pick (ltb b 0x80) Plain
    (pick (ltb b 0xc2) Never
    (pick (ltb b 0xe0) Two
    (pick (eqb b 0xe0) LowThree
    (pick (eqb b 0xed) SurThree
    (pick (ltb b 0xf0) Three
    (pick (eqb b 0xf0) LowFour
    (pick (ltb b 0xf4) Four
    (pick (eqb b 0xf4) TopFour Never)))))))))))
