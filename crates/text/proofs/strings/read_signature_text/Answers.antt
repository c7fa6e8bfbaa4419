-- It is `sized` with a length of one byte, which is the same number in both orders, and zeros allowed.
use native.Mathlib.Omega.{arith}
use mathlib.Core.Path.{refl}
use lib.ListN.{get_or}
use Rattle.meaning.specs.ReadValue.{read_sig}
use Rattle.util.proofs.integers.Loads.{single}
use Rattle.text.proofs.strings.Strings.{no_field}
use Rattle.text.proofs.strings.read_signature_text.Goals as goal

pub returns-then-buf-off : goal.returns-then-buf-off
unfolding read_sig
returns-then-buf-off c = λ o. no_field o _ _ _ _ c.requires (omega arith) _ c.refuse.ensures

pub overflow_cast-len : goal.overflow_cast-len
overflow_cast-len c = omega (arith, c.type_inv.buf c.args.off)

pub returns : goal.returns
unfolding read_sig
returns c =
    let a = c.args in
    λ o. c.sized.ensures o (single o a.buf.now a.off (get_or a.buf.now a.off 0) (omega arith) refl (omega (arith, c.type_inv.buf a.off))).is
