-- What the steps of reading shares back answer.
use Rattle.std.specs.Prelude.{◌≡◌, ◌⊎◌, ℕ, ◌==◌, ◌&&◌, not, List, [], ◌∷◌, ◌++◌, Option, Some, None, Result, Ok, Err, if◌then◌else◌}
use Rattle.share_split.specs.declared.joining.JoinError.{JoinError}
use Rattle.share_split.specs.declared.joining.JoinError.TheVariants.{BadVarint, NoMemory}
use Rattle.share_split.specs.Blobs.{NamedBytes}
use Rattle.share_split.specs.Walks.{Sequence, is_complete, share_with}

-- a share that was taken into a sequence, unless a check refuses it or memory ran out
abbrev pub TakesShare : Result Sequence JoinError → Option JoinError → Sequence → Type 0
TakesShare (Ok s) refusal taken = (refusal ≡ None) × (s ≡ taken)
TakesShare (Err e) refusal taken = (e ≡ NoMemory) ⊎ (refusal ≡ Some e)

-- ---- blobs

-- what is left of a sequence when it is complete, and the blob that it then is
abbrev pub open_after : Sequence → Option Sequence
open_after s = if is_complete s then None else Some s

-- the blob that a sequence is when it is complete, none for padding
abbrev pub blobs_after : Sequence → List NamedBytes
blobs_after s =
    if is_complete s && not (s.size == 0)
    then record { namespace = s.name; bytes = s.content; signer = s.signer } ∷ []
    else []

-- blobs, and those that follow them
abbrev pub behind_blobs : List NamedBytes → Result (List NamedBytes) JoinError → Result (List NamedBytes) JoinError
behind_blobs blobs (Err e) = Err e
behind_blobs blobs (Ok more) = Ok (blobs ++ more)

-- ---- units

-- units, and those that follow them
abbrev pub behind_units : List (List ℕ) → Result (List (List ℕ)) ℕ → Result (List (List ℕ)) ℕ
behind_units units (Err at) = Err at
behind_units units (Ok more) = Ok (units ++ more)

-- the units of a text, or the share in which the first bad length begins
abbrev pub units_placed : Result (List (List ℕ)) ℕ → Result (List (List ℕ)) JoinError
units_placed (Err at) = Err (BadVarint (share_with at))
units_placed (Ok units) = Ok units
