-- The payload of a refusal (docs/FORMATS.md, "Payloads").
use Rattle.std.specs.Prelude.{ℕ, ◌<◌, ◌^◌, List, ◌∷◌, length, Option, Some, None, if◌then◌else◌, ◌==◌}
use Rattle.std.specs.Int.{w64, to_be_bytes}
use Rattle.frame_fields.specs.Fields.{◌>>=◌, byte_at, big_endian_at}
use Rattle.frame_payloads.specs.declared.refusals.Reason.{Reason}
use Rattle.frame_payloads.specs.declared.refusals.Reason.TheVariants.{NoSuchFrame, FirstCheck, SecondCheck, ThirdCheck, FourthCheck, NoAnswer}
use Rattle.frame_payloads.specs.declared.refusals.Refusal.{Refusal}

-- the byte of a reason: 0 for no such frame, the number of the check that fails, 5 for no answer
abbrev pub reason_byte : Reason → ℕ
reason_byte NoSuchFrame = 0
reason_byte FirstCheck = 1
reason_byte SecondCheck = 2
reason_byte ThirdCheck = 3
reason_byte FourthCheck = 4
reason_byte NoAnswer = 5

-- the reason that a byte is
abbrev pub reason_of : ℕ → Option Reason
reason_of byte =
    if byte == 0 then Some NoSuchFrame else
    (if byte == 1 then Some FirstCheck else
    (if byte == 2 then Some SecondCheck else
    (if byte == 3 then Some ThirdCheck else
    (if byte == 4 then Some FourthCheck else
    (if byte == 5 then Some NoAnswer else None)))))

-- a refusal has a number of eight bytes
abbrev pub IsRefusal : Refusal → Type 0
IsRefusal refusal = refusal.number < 2 ^ 64

-- a reason in one byte, and a number in eight
abbrev pub refusal_payload : Refusal → List ℕ
refusal_payload refusal = reason_byte refusal.reason ∷ to_be_bytes w64 refusal.number

-- a reason in one byte, and the bytes after it
unfoldable pub reason_at : List ℕ → Option (Reason × List ℕ)
reason_at bytes = do
  byte ← byte_at bytes
  reason ← reason_of byte.0
  Some (reason, byte.1)

-- a reason and a number that are all of the bytes
unfoldable pub refusal_at : List ℕ → Option Refusal
refusal_at bytes = do
  reason ← reason_at bytes
  number ← big_endian_at w64 reason.1
  if length number.1 == 0 then Some (record { reason = reason.0; number = number.0 }) else None
