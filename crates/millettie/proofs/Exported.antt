-- Demands 2 and 3 of the functions that C and Rust call, in the numbers that they get: of every call whose answer meets the function's contract, as
-- the checker generates it.
use mathlib.Core.Path.{◌≡◌, refl, ap, ◌∙◌}
use Rattle.std.specs.Prelude.{Result, Ok, Err}
use Rattle.meaning.specs.declared.Length.{Length}
use Rattle.meaning.specs.declared.Refusal.{Refusal}
use Rattle.meaning.specs.declared.Header.{Header}
use Rattle.meaning.specs.ReadMessage.{check_message}
use Rattle.meaning.specs.Header.{read_header}
use Rattle.meaning.proofs.Promises.{Told, told_of, Answered, ValueAsked, check_of, ValueDemands, value-demands, MessageDemands, message-demands}
use Rattle.unmarshal.proofs.Demands.{told_header, header-told}
use Rattle.structs.specs.Answers.{order_of, answer_of, read_of}
use Rattle.structs.specs.declared.MtAnswer.{MtAnswer}
use Rattle.millettie.proofs.mt_check_value.Reads as mt-check-value
use Rattle.millettie.proofs.mt_check_message.Reads as mt-check-message
use Rattle.millettie.proofs.mt_read_header.Reads as mt-read-header

-- "number 0 is acceptance (length counts), else a refusal (position counts)"
abbrev pub told_in : MtAnswer → Told
told_in a = record { number = a.number; position = a.position; length = a.length }

told-checked : (c : Result Length Refusal) → told_in (answer_of c) ≡ told_of c
told-checked (Ok n) = refl
told-checked (Err x) = refl

told-header : (h : Result Header Refusal) → told_in (read_of h).answer ≡ told_header h
told-header (Ok h) = refl
told-header (Err x) = refl

abbrev pub ValueCall : Type 0
ValueCall = Answered mt-check-value.Learnt

abbrev pub value_asked : ValueCall → ValueAsked
value_asked c = record {
  order = order_of c.args.0;
  sig = c.args.1.1.1.0.now;
  buf = c.args.1.1.0.now;
  off = c.args.1.0;
}

pub values : ValueDemands value_asked (λ c. told_in c.answer)
values = value-demands value_asked (λ c. told_in c.answer) (λ c. ap told_in c.meets ∙ told-checked (check_of (value_asked c)))

pub messages : MessageDemands (λ (c : Answered mt-check-message.Learnt). c.args.0.now) (λ c. told_in c.answer)
messages =
    message-demands (λ c. c.args.0.now) (λ c. told_in c.answer) (λ c. ap told_in c.meets ∙ told-checked (check_message c.args.0.now))

pub headers : MessageDemands (λ (c : Answered mt-read-header.Learnt). c.args.0.now) (λ c. told_in c.answer.answer)
headers =
    message-demands (λ c. c.args.0.now) (λ c. told_in c.answer.answer)
    (λ c. ap (λ r. told_in r.answer) c.meets ∙ told-header (read_header c.args.0.now) ∙ header-told c.args.0.now)
