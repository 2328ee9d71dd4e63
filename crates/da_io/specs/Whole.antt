-- Files that are read whole.
use Rattle.std.specs.Prelude.{◌≡◌, ℕ, ◌≤◌, ◌<◌, List, length, ⊤, Some, None, Ok, Err, Result, Vec}
use Rattle.std.specs.declared.option.Option.{Option}
use Rattle.std.specs.declared.alloc.Global.{Global}
use Rattle.std.specs.Io.KnownBytes.{Consumes}
use Rattle.da_io.specs.declared.inputs.LastCall.{LastCall}
use Rattle.da_io.specs.declared.inputs.LastCall.TheVariants as ended
use Rattle.da_io.specs.declared.whole.InputFault.{InputFault}
use Rattle.da_io.specs.declared.whole.InputFault.TheVariants.{ReadFailed, TooLong, NoMemory}
use Rattle.da_io.specs.Faults.{count_on}

-- how many failures an answer counts: one where a read failed
abbrev pub read_faults : Result (Vec ℕ Global) InputFault → ℕ
read_faults (Ok _) = 0
read_faults (Err ReadFailed) = 1
read_faults (Err (TooLong _)) = 0
read_faults (Err NoMemory) = 0

-- how the last read ended
abbrev pub last_end : Result (Vec ℕ Global) InputFault → LastCall
last_end (Ok _) = ended.Fine
last_end (Err ReadFailed) = ended.ReadFailed
last_end (Err (TooLong _)) = ended.Fine
last_end (Err NoMemory) = ended.Fine

-- what is left is answered whole where it is within the limit, and `TooLong` where it is not
abbrev pub ReadsWithin : List ℕ → ℕ → Result (Vec ℕ Global) InputFault → Type 0
ReadsWithin rest limit (Ok content) = (content.items ≡ rest) × (length rest ≤ limit)
ReadsWithin rest limit (Err (TooLong n)) = limit < length rest
ReadsWithin rest limit (Err ReadFailed) = ⊤
ReadsWithin rest limit (Err NoMemory) = ⊤

-- the same of what is left where it is told
abbrev pub ReadsAll : Option (List ℕ) → ℕ → Result (Vec ℕ Global) InputFault → Type 0
ReadsAll None limit result = ⊤
ReadsAll (Some rest) limit result = ReadsWithin rest limit result

-- what a file that is read whole answers of the bytes that its reads gave
abbrev pub AnswersTaken : List ℕ → ℕ → Result (Vec ℕ Global) InputFault → Type 0
AnswersTaken bytes limit (Ok content) = (content.items ≡ bytes) × (length bytes ≤ limit)
AnswersTaken bytes limit (Err (TooLong n)) = (n ≡ limit) × (limit < length bytes)
AnswersTaken bytes limit (Err ReadFailed) = length bytes ≤ limit
AnswersTaken bytes limit (Err NoMemory) = length bytes ≤ limit

-- with every answer the bytes that the reads gave are gone from the front of what was left, and they are counted
pub record TakesFromFront (old new : Option (List ℕ)) (before now limit : ℕ) (result : Result (Vec ℕ Global) InputFault) : Type 0 where
  pub bytes : List ℕ
  pub moved : Consumes old new bytes
  pub counted : now ≡ count_on before (length bytes)
  pub answer : AnswersTaken bytes limit result
