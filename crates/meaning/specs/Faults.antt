-- Document 01, "When the relay says no": the number of each refusal, and what a refusal is.
use Rattle.std.specs.Prelude.{ℕ, Bool, ◌||◌, eqb}
use Rattle.meaning.specs.declared.Fault.{Fault}
use Rattle.meaning.specs.declared.Fault.TheVariants.{BadOffset, NotEnoughBytes, NotEnoughBytesForCollection, PaddingContainedData, InvalidBoolean, InvalidUtf8, StringContainsNullByte, MissingTerminator, InvalidObjectPath, InvalidSignature, EmptySignature, EmptyStruct, SignatureTooLong, NestingTooDeep, WrongSignature, VariantTooDeep, InvalidByteOrder, InvalidMessageType, NoSignature, InvalidHeaderField, InvalidHeaderFields, BodyLeft, NoRoom, BadAlignment, TextTooLong, BadArgument}
use Rattle.meaning.specs.declared.Refusal.{Refusal}

-- the table's first column
abbrev pub number_of : Fault → ℕ
number_of BadOffset = 1
number_of NotEnoughBytes = 2
number_of NotEnoughBytesForCollection = 3
number_of PaddingContainedData = 4
number_of InvalidBoolean = 5
number_of InvalidUtf8 = 6
number_of StringContainsNullByte = 7
number_of MissingTerminator = 8
number_of InvalidObjectPath = 9
number_of InvalidSignature = 10
number_of EmptySignature = 11
number_of EmptyStruct = 12
number_of SignatureTooLong = 13
number_of NestingTooDeep = 14
number_of WrongSignature = 15
number_of VariantTooDeep = 16
number_of InvalidByteOrder = 17
number_of InvalidMessageType = 18
number_of NoSignature = 19
number_of InvalidHeaderField = 20
number_of InvalidHeaderFields = 21
number_of BodyLeft = 22
number_of NoRoom = 23
number_of BadAlignment = 24
number_of TextTooLong = 25
number_of BadArgument = 26

-- "Too short" means 2 and 3
abbrev pub is_short : Fault → Bool
is_short f = eqb (number_of f) 2 || eqb (number_of f) 3

-- "A refusal is a number and a position, and no value"
abbrev pub refusal : Fault → ℕ → Refusal
refusal f p = record { fault = f; place = record { 0 = p } }

-- the same refusal at another position: every other part of it is kept
abbrev pub moved : ℕ → Refusal → Refusal
moved p x = record { fault = x.fault; place = record { 0 = p } }
