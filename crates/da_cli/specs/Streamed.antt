-- A file that is picked and read to its end, whose bytes are not kept.
use Rattle.std.specs.Prelude.{◌≡◌, ℕ, ◌<◌, List, Some, None, Ok, Err, Result, IfErr, IfOk}
use Rattle.data_header.specs.Headers.{Roots}
use Rattle.axis_roots.specs.declared.message.messages.Message.{Message}
use Rattle.da_io.specs.declared.inputs.Inputs as inputs
use Rattle.da_io.specs.declared.inputs.LastCall.TheVariants as ended
use Rattle.da_io.specs.Faults.{count_on}
use Rattle.da_wire.specs.Frames.{frames_of, bad_frame}
use Rattle.da_cli.specs.declared.files.Stop.{Stop}
use Rattle.da_cli.specs.Limits.{stream_limit}
use Rattle.da_cli.specs.Gathered.{IsLastOf, PicksIn, StopsIn, AllRead, GathersFiles, ReadsFile, StopsFile, count_after, WithinLimit, WithinLimits}
use Rattle.da_cli.specs.Feeding.{proved_among, lies_among}

-- the file with this number and name, which may have so many bytes, was picked and read to its end, and these are its
-- bytes; or why not
pub record IsRead {I : Type 0} (i : inputs.Ghosts I) (limit number : ℕ) (name : List ℕ) (before now : I) (result : Result (List ℕ) Stop) : Type 0 where
  pub content : ReadsFile limit (i.files before) name result
  pub stop : IfErr result (StopsFile limit number (i.ended now) (i.given now))
  pub faults : i.faults now ≡ count_after (i.faults before) result
  pub within : WithinLimit limit (i.given now) result
  pub picks : i.picks now ≡ count_on (i.picks before) 1
  pub fine : IfOk result (λ (bytes : List ℕ). i.ended now ≡ ended.Fine)
  pub picked : i.picked now ≡ Some name
  pub files : i.files now ≡ i.files before

-- the file was read, and passed over
abbrev pub Skims : {I : Type 0} → inputs.Ghosts I → ℕ → List ℕ → I → I → Result (Unit {0}) Stop → Type 0
Skims i number name before now (Ok _) = (bytes : List ℕ) × IsRead i stream_limit number name before now (Ok bytes)
Skims i number name before now (Err stop) = IsRead i stream_limit number name before now (Err stop)

-- the file was read, and a session was fed with its proved samples, of which the others are lies; or it is no
-- list of frames, with the first place at which none stands
abbrev pub FeedsFile : {I : Type 0} → inputs.Ghosts I → ℕ → List ℕ → I → I → Roots → (List Message → Type 0) → Result (Result ℕ ℕ) Stop → Type 0
FeedsFile i number name before now header Grows (Ok (Ok lies)) =
    (bytes : List ℕ) × IsRead i stream_limit number name before now (Ok bytes) × (bad_frame bytes ≡ None)
    × (lies ≡ lies_among header (frames_of bytes)) × Grows (proved_among header (frames_of bytes))
FeedsFile i number name before now header Grows (Ok (Err at)) =
    (bytes : List ℕ) × IsRead i stream_limit number name before now (Ok bytes) × (bad_frame bytes ≡ Some at)
FeedsFile i number name before now header Grows (Err stop) = IsRead i stream_limit number name before now (Err stop)

-- how reading the files of the first names ended
pub record HasReadFiles {I : Type 0} (i : inputs.Ghosts I) (limits : ℕ → ℕ) (names : List (List ℕ)) (count : ℕ) (before now : I) (result : Result (List (List ℕ)) Stop) : Type 0 where
  pub contents : GathersFiles limits (i.files before) names count result
  pub stop : IfErr result (StopsIn limits (i.files before) names (i.picked now) (i.ended now) (i.given now))
  pub faults : i.faults now ≡ count_after (i.faults before) result
  pub within : 0 < count → WithinLimits limits names count (i.picked now) (i.given now) (now ≡ before) result
  pub last : IfOk result (λ (contents : List (List ℕ)). IsLastOf names count (i.picked now) (i.ended now))
  pub picks : PicksIn (i.picks before) (i.picks now) count result
  pub idle : count ≡ 0 → now ≡ before
  pub files : i.files now ≡ i.files before

-- and where it didn't stop, each of them was read
pub record HasCome {I : Type 0} (i : inputs.Ghosts I) (limits : ℕ → ℕ) (names : List (List ℕ)) (count : ℕ) (before now : I) (result : Result (List (List ℕ)) Stop) : Type 0 where
  pub gathered : HasReadFiles i limits names count before now result
  pub all : IfOk result (λ (contents : List (List ℕ)). AllRead limits (i.files before) names count)
