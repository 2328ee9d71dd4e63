-- Counts that stop at an end, and how a call ended.
use Rattle.std.specs.Prelude.{◌≡◌, ℕ, ◌+◌, min, Ok, Err, Result}
use Rattle.da_io.specs.declared.inputs.LastCall.{LastCall}
use Rattle.da_io.specs.declared.inputs.LastCall.TheVariants.{Fine, PickFailed, ReadFailed}

-- the greatest count, 2 ^ 64 - 1: counts stop there
abbrev pub max_count : ℕ
max_count = 18446744073709551615

-- a count that rose by n, and stops at its end
abbrev pub count_on : ℕ → ℕ → ℕ
count_on before n = min (before + n) max_count

-- a failure is counted once, and a call that does not fail counts none
abbrev pub CountsFault : {T E : Type 0} → ℕ → ℕ → Result T E → Type 0
CountsFault before now (Ok _) = now ≡ before
CountsFault before now (Err _) = now ≡ count_on before 1

-- the bytes that a read gave are counted
abbrev pub GivesCounted : {E : Type 0} → ℕ → ℕ → Result ℕ E → Type 0
GivesCounted before now (Ok n) = now ≡ count_on before n
GivesCounted before now (Err _) = now ≡ before

-- how a pick ended
abbrev pub pick_end : {T E : Type 0} → Result T E → LastCall
pick_end (Ok _) = Fine
pick_end (Err _) = PickFailed

-- how a read ended
abbrev pub read_end : {T E : Type 0} → Result T E → LastCall
read_end (Ok _) = Fine
read_end (Err _) = ReadFailed
