-- Which share a refusal names when shares are read back (docs/RULES.md, "Reading shares").
use Rattle.std.specs.Prelude.{◌≡◌, ◌≢◌, ◌⊎◌, ℕ, List, [], ◌∷◌, ◌++◌, length, false, Option, Some, None}
use Rattle.std.specs.List.{slice_get}
use Rattle.namespace_id.specs.declared.shares.Share.{Share}
use Rattle.share_split.specs.declared.joining.JoinError.{JoinError}
use Rattle.share_split.specs.declared.joining.JoinError.TheVariants.{Short}
use Rattle.share_split.specs.declared.walking.Form.{Form}
use Rattle.share_split.specs.declared.walking.Form.TheVariants.{Blobs, Units}
use Rattle.share_split.specs.Walks.{Sequence, is_complete, blob_share_refusal, unit_refusal, sequence_after, reserved_in}
use Rattle.share_split.specs.Units.{starts_from, reserved_of}
use Rattle.share_split.specs.Steps.{open_after}

-- why share i of this form is refused, where a sequence may be open before it
abbrev pub refusal_of : Form → ℕ → Option Sequence → Share → Option JoinError
refusal_of Blobs i so_far share = blob_share_refusal i so_far share
refusal_of Units i so_far share = unit_refusal i so_far share

-- what stands open behind a sequence as far as it was read: no blob that is complete; the one sequence of units always
abbrev pub open_behind : Form → Sequence → Option Sequence
open_behind Blobs s = open_after s
open_behind Units s = Some s

-- shares none of which is refused, each numbered by how many stand before it, and the sequence that is open behind them
pub data AreRead (form : Form) : List Share → Option Sequence → Type 0 where
  start : AreRead form [] None
  next : (before : List Share) (so_far : Option Sequence) (share : Share) → AreRead form before so_far
      → refusal_of form (length before) so_far share ≡ None
      → AreRead form (before ++ share ∷ []) (open_behind form (sequence_after form (length before) so_far share))

-- the first share that is refused, and why; its number is how many stand before it
pub record IsFirstRefused (form : Form) (shares : List Share) (why : JoinError) : Type 0 where
  pub before : List Share
  pub share : Share
  pub after : List Share
  pub so_far : Option Sequence
  pub parts : shares ≡ before ++ share ∷ after
  pub are_read : AreRead form before so_far
  pub refused : refusal_of form (length before) so_far share ≡ Some why

-- no share is refused, and a sequence that isn't complete is open behind the last one: it is named by its first share
pub record IsCutShort (form : Form) (shares : List Share) (why : JoinError) : Type 0 where
  pub sequence : Sequence
  pub are_read : AreRead form shares (Some sequence)
  pub incomplete : is_complete sequence ≡ false
  pub named : why ≡ Short sequence.first

-- what a refusal of shares of this form says
abbrev pub IsRefusedFor : Form → List Share → JoinError → Type 0
IsRefusedFor form shares why = IsFirstRefused form shares why ⊎ IsCutShort form shares why

-- ---- the units of a sequence

-- the first share whose reserved bytes don't state where its first unit starts, counted from 0
pub record IsFirstMisstated (units : List (List ℕ)) (shares : List Share) (i : ℕ) : Type 0 where
  pub before : List Share
  pub share : Share
  pub after : List Share
  pub parts : shares ≡ before ++ share ∷ after
  pub number : i ≡ length before
  pub stated : (j : ℕ) (one : Share) → slice_get before j ≡ Some one → reserved_in one ≡ reserved_of j (starts_from 0 units)
  pub misstated : reserved_in share ≢ reserved_of i (starts_from 0 units)
