-- What the files of a list of names hold: they are read in its order, up to the first that can't be
-- used.
use Rattle.std.specs.Prelude.{◌≡◌, ℕ, suc, ◌+◌, ◌-◌, ◌<◌, ◌≤◌, nat_lt, List, [], ◌∷◌, ◌++◌, length, drop, ⊤, ◌⊎◌, Some, None, Ok, Err, Result, Vec, if◌then◌else◌}
use Rattle.std.specs.declared.option.Option.{Option}
use Rattle.std.specs.declared.alloc.Global.{Global}
use Rattle.da_io.specs.Faults.{count_on}
use Rattle.da_io.specs.Files.{Files}
use Rattle.da_io.specs.declared.inputs.LastCall.{LastCall}
use Rattle.da_io.specs.declared.inputs.LastCall.TheVariants as ended
use Rattle.da_cli.specs.declared.files.Stop.{Stop}
use Rattle.da_cli.specs.declared.files.Stop.TheVariants.{PickFault, ReadFault, TooLong, NoMemory}
use Rattle.da_files.specs.Contents.{contents_of, file_of}

-- the contents of all; or the first that is longer than its limit; or the first that isn't there
pub data Gathered : Type 0 where
  whole : List (List ℕ) → Gathered
  long : ℕ → Gathered
  absent : ℕ → Gathered

-- these contents, and then what is gathered after them
abbrev pub after : List (List ℕ) → Gathered → Gathered
after front (whole contents) = whole (front ++ contents)
after front (long i) = long i
after front (absent i) = absent i

-- one more file: the limits by the numbers of the files, its number, its content, and what the later ones give
abbrev pub gathered_one : (ℕ → ℕ) → ℕ → Option (List ℕ) → Gathered → Gathered
gathered_one limits i None later = absent i
gathered_one limits i (Some content) later =
    if nat_lt (limits i) (length content) then long i else after (content ∷ []) later

-- the first name has this number
unfoldable pub gathered_from : (ℕ → ℕ) → Files → ℕ → List (List ℕ) → Gathered
gathered_from limits files i [] = whole []
gathered_from limits files i (name ∷ names) = gathered_one limits i (files name) (gathered_from limits files (suc i) names)

-- what the files of these names hold, counted from 0
abbrev pub gathered : (ℕ → ℕ) → Files → List (List ℕ) → Gathered
gathered limits files names = gathered_from limits files 0 names

-- an answer as bytes: of one file, of some
abbrev pub bytes_read : Result (Vec ℕ Global) Stop → Result (List ℕ) Stop
bytes_read (Ok content) = Ok content.items
bytes_read (Err stop) = Err stop

-- the bytes of files that were read, or why reading them stopped
abbrev pub files_read : Result (Vec (Vec ℕ Global) Global) Stop → Result (List (List ℕ)) Stop
files_read (Ok contents) = Ok (contents_of contents.items)
files_read (Err stop) = Err stop

-- file word i is this name
abbrev pub IsWord : List (List ℕ) → ℕ → Option (List ℕ) → Type 0
IsWord names i None = ⊥
IsWord names i (Some name) = (i < length names) × (file_of names i ≡ name)

-- the last call was of the last of the first `count` names, and did not fail
abbrev pub IsLastOf : List (List ℕ) → ℕ → Option (List ℕ) → LastCall → Type 0
IsLastOf names count picked last = 0 < count → IsWord names (count - 1) picked × (last ≡ ended.Fine)

-- the last call was of the last of all names, and did not fail
abbrev pub IsLast : List (List ℕ) → Option (List ℕ) → LastCall → Type 0
IsLast names picked last = IsLastOf names (length names) picked last

-- each file before number i is there and within its limit, where files are told
abbrev pub AllRead : (ℕ → ℕ) → Option Files → List (List ℕ) → ℕ → Type 0
AllRead limits None names i = ⊤
AllRead limits (Some files) names i = (j : ℕ) → j < i →
    (content : List ℕ) × (files (file_of names j) ≡ Some content) × (length content ≤ limits j)

-- what reading the file of one name answers, where files are told
abbrev pub ReadsFile : ℕ → Option Files → List ℕ → Result (List ℕ) Stop → Type 0
ReadsFile limit None name result = ⊤
ReadsFile limit (Some files) name (Ok content) = (files name ≡ Some content) × (length content ≤ limit)
ReadsFile limit (Some files) name (Err (TooLong i)) = (content : List ℕ) × (files name ≡ Some content) × (limit < length content)
ReadsFile limit (Some files) name (Err (PickFault i)) = ⊤
ReadsFile limit (Some files) name (Err (ReadFault i)) = ⊤
ReadsFile limit (Some files) name (Err NoMemory) = ⊤

-- what reading the files of the first `count` names answers, where files are told: of all names these
-- contents are gathered, and then what the later names give
abbrev pub GathersFiles : (ℕ → ℕ) → Option Files → List (List ℕ) → ℕ → Result (List (List ℕ)) Stop → Type 0
GathersFiles limits None names count result = ⊤
GathersFiles limits (Some files) names count (Ok contents) = gathered limits files names ≡ after contents (gathered_from limits files count (drop count names))
GathersFiles limits (Some files) names count (Err (TooLong i)) = gathered limits files names ≡ long i
GathersFiles limits (Some files) names count (Err (PickFault i)) = ⊤
GathersFiles limits (Some files) names count (Err (ReadFault i)) = ⊤
GathersFiles limits (Some files) names count (Err NoMemory) = ⊤

-- why reading file i, which has this name, stopped: a failure was the last call, more than the limit
-- was given
abbrev pub StopsFile : ℕ → ℕ → LastCall → ℕ → Stop → Type 0
StopsFile limit i last given (PickFault j) = (j ≡ i) × (last ≡ ended.PickFailed)
StopsFile limit i last given (ReadFault j) = (j ≡ i) × (last ≡ ended.ReadFailed)
StopsFile limit i last given (TooLong j) = (j ≡ i) × (limit < given)
StopsFile limit i last given NoMemory = ⊤

-- why reading the files stopped: the last call was of the named word, and each file before it is there
-- and within its limit, where files are told
abbrev pub StopsIn : (ℕ → ℕ) → Option Files → List (List ℕ) → Option (List ℕ) → LastCall → ℕ → Stop → Type 0
StopsIn limits told names picked last given (PickFault i) = (last ≡ ended.PickFailed) × IsWord names i picked × AllRead limits told names i
StopsIn limits told names picked last given (ReadFault i) = (last ≡ ended.ReadFailed) × IsWord names i picked × AllRead limits told names i
StopsIn limits told names picked last given (TooLong i) = (limits i < given) × IsWord names i picked × AllRead limits told names i
StopsIn limits told names picked last given NoMemory = ⊤

-- the count of the inputs' failures after files were read: a stop at a failed pick or read counts it
abbrev pub count_after : {T : Type 0} → ℕ → Result T Stop → ℕ
count_after before (Ok _) = before
count_after before (Err (PickFault _)) = count_on before 1
count_after before (Err (ReadFault _)) = count_on before 1
count_after before (Err (TooLong _)) = before
count_after before (Err NoMemory) = before

-- how many files were picked: all, or those up to the one that stopped it
abbrev pub PicksIn : {T : Type 0} → ℕ → ℕ → ℕ → Result T Stop → Type 0
PicksIn before now count (Ok _) = now ≡ count_on before count
PicksIn before now count (Err (PickFault i)) = now ≡ count_on before (i + 1)
PicksIn before now count (Err (ReadFault i)) = now ≡ count_on before (i + 1)
PicksIn before now count (Err (TooLong i)) = now ≡ count_on before (i + 1)
PicksIn before now count (Err NoMemory) = (n : ℕ) × (n ≤ count) × (now ≡ count_on before n)

-- but for an excess of length, the file that was picked gave no more than the limit
abbrev pub WithinLimit : {T : Type 0} → ℕ → ℕ → Result T Stop → Type 0
WithinLimit limit given (Ok _) = given ≤ limit
WithinLimit limit given (Err (PickFault _)) = given ≤ limit
WithinLimit limit given (Err (ReadFault _)) = given ≤ limit
WithinLimit limit given (Err (TooLong _)) = ⊤
WithinLimit limit given (Err NoMemory) = given ≤ limit

-- the file that was picked last is a file word, and gave no more than its limit
abbrev pub IsWithinLimit : (ℕ → ℕ) → List (List ℕ) → Option (List ℕ) → ℕ → Type 0
IsWithinLimit limits names picked given = (i : ℕ) × IsWord names i picked × (given ≤ limits i)

-- but for an excess of length, the file that was picked last, of the first `count` names, gave no more than its
-- limit; Idle: where memory ran out, no file was picked
abbrev pub WithinLimits : (ℕ → ℕ) → List (List ℕ) → ℕ → Option (List ℕ) → ℕ → Type 0 → Result (List (List ℕ)) Stop → Type 0
WithinLimits limits names count picked given Idle (Ok _) = given ≤ limits (count - 1)
WithinLimits limits names count picked given Idle (Err (PickFault i)) = given ≤ limits i
WithinLimits limits names count picked given Idle (Err (ReadFault i)) = given ≤ limits i
WithinLimits limits names count picked given Idle (Err (TooLong i)) = ⊤
WithinLimits limits names count picked given Idle (Err NoMemory) = Idle ⊎ IsWithinLimit limits names picked given
