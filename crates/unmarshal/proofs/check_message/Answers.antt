-- Demands 2 and 3 of what `check_message` answers, and two messages back to back: of every call whose answer meets its contract, as the checker
-- generates it.
use mathlib.Core.List.{List, ◌++◌}
use Prim.Native.Nat.{ℕ}
use mathlib.Core.Path.{◌≡◌, ap, ◌∙◌}
use lib.ListN.{length, drop}
use lib.Seq.{drop-append_seam}
use Rattle.meaning.specs.Message.{Message, encode_message, Proper}
use Rattle.meaning.specs.ReadMessage.{check_message}
use Rattle.meaning.proofs.MessageDemands.{back-to-back}
use Rattle.meaning.proofs.Promises.{Told, accepts, told_of, Answered, MessageDemands, message-demands}
use Rattle.unmarshal.proofs.check_message.check_message.Reads as check-message

abbrev pub Call : Type 0
Call = Answered check-message.Learnt

abbrev pub asked : Call → List ℕ
asked c = c.args.0.now

abbrev pub told : Call → Told
told c = told_of c.answer

is : (c : Call) → told c ≡ told_of (check_message (asked c))
is c = ap told_of c.meets

pub demands : MessageDemands asked told
demands = message-demands asked told is

-- two messages in one read: the first ends at its own length, and from there on the second is found
pub one_by_one : (c d : Call) (m w : Message) (rest : List ℕ) → Proper m → Proper w
    → asked c ≡ encode_message m ++ (encode_message w ++ rest) → asked d ≡ drop (length (encode_message m)) (asked c)
    → (told c ≡ accepts (length (encode_message m))) × (told d ≡ accepts (length (encode_message w)))
one_by_one c d m w rest h k e f =
    let g : asked d ≡ encode_message w ++ rest = f ∙ ap (drop (length (encode_message m))) e ∙ drop-append_seam (encode_message m) (encode_message w ++ rest) in (
      is c ∙ ap (λ (b : List ℕ). told_of (check_message b)) e ∙ ap told_of (back-to-back m (encode_message w ++ rest) h),
      is d ∙ ap (λ (b : List ℕ). told_of (check_message b)) g ∙ ap told_of (back-to-back w rest k),
    )
