-- The limit of a payload, how its length is told, and what a reader of payloads answers (docs/FORMATS.md, "Frames").
use Rattle.std.specs.Prelude.{◌≡◌, ◌≤◌, ◌<◌, ◌^◌, ℕ, List, length, nat_lt, Bool, if◌then◌else◌, Ok, Err, Option, Some, None, MatchOption, IsSome, Result, MatchResult, ◌++◌, ◌+◌, map}

-- the greatest payload: 256 MiB
abbrev pub max_payload : ℕ
max_payload = 268435456

-- a payload so short that four bytes state its length, and count what it has
abbrev pub IsShort : List ℕ → Type 0
IsShort payload = length payload < 2 ^ 32

-- a length that is within the limit of a payload, none for one above it
abbrev pub IsWithin : ℕ → Option ℕ → Type 0
IsWithin size within = MatchOption within (max_payload < size) (λ n. (n ≡ size) × (n ≤ max_payload))

-- the payload that is written, none of a value that can't be written, and none that is above the limit
abbrev pub written : Bool → List ℕ → Option (List ℕ)
written unwritten payload =
    if unwritten then None else (if nat_lt max_payload (length payload) then None else Some payload)

-- the length of the payload that is written, where one is
abbrev pub IsSize : Bool → List ℕ → Option ℕ → Type 0
IsSize unwritten payload size = MatchOption size (written unwritten payload ≡ None)
    (λ n. (n ≡ length payload) × (written unwritten payload ≡ Some payload))

-- a call answers the value that a payload holds, or that memory ran out where there is one
abbrev pub GivesUnlessFull : {X E : Type 0} → Result (Option X) E → Option X → Type 0
GivesUnlessFull (Ok x) read = read ≡ x
GivesUnlessFull (Err e) read = IsSome read

-- bytes were put behind those that were held, as many more were taken, and no fewer can be; or more than can be
abbrev pub Puts : {O T E : Type 0} → (ℕ → ℕ) → (O → List ℕ) → (O → ℕ) → (O → ℕ) → O → O → List ℕ → Result T E → Type 0
Puts byte held taken limit old new bytes result = MatchResult result
    (λ _. (held new ≡ held old ++ map byte bytes) × (taken new ≡ taken old + length bytes) × (limit old ≤ limit new))
    (λ _. limit old < taken old + length bytes)
