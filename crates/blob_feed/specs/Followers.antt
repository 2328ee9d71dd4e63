-- What a follower keeps, and for which headers and answers it stands.
use Rattle.std.specs.Prelude.{◌≡◌, ℕ, ◌+◌, ◌-◌, ◌<◌, ◌^◌, List, [], ◌∷◌, ◌++◌, length, slice_get, Bool, true, false, Option, Some, None, is_some, if◌then◌else◌, Result, Ok, Err, ⊤}
use Rattle.std.specs.Option.{option_map}
use Rattle.std.specs.List.{AllZip}
use Rattle.std.specs.BTreeMap.{is_at}
use Rattle.std.specs.Map.{lookup}
use Rattle.namespace_id.specs.declared.namespaces.Namespace.{Namespace}
use Rattle.namespace_id.specs.Names.{namespace_cmp, namespace_refusal}
use Rattle.data_header.specs.Headers.{Roots}
use Rattle.axis_roots.specs.declared.answers.NsEntry.{NsEntry}
use Rattle.square_serve.specs.Answers.{answer_refusal}
use Rattle.share_split.specs.Walks.{blobs_joined}
use Rattle.blob_feed.specs.declared.entries.Entry.{Entry}
use Rattle.blob_feed.specs.declared.entries.FollowError.{FollowError}
use Rattle.blob_feed.specs.declared.entries.FollowError.TheVariants.{NotBlob, Unwanted, Refused, Twice, NoMemory}
use Rattle.blob_feed.specs.declared.followers.Last.{Last}
use Rattle.blob_feed.specs.Filters.{IsFilter}
use Rattle.blob_feed.specs.Feeds.{Item, AreItems, Height, heights_of, IsFedAt, shares_shown, read_of}

-- ---- what is kept

-- the entries of a height, by namespace
abbrev pub Feed : Type 0
Feed = List (Namespace × Entry)

-- whether the second namespace is the first
abbrev pub is_name : Namespace → Namespace → Bool
is_name name other = is_at (namespace_cmp name) other

-- the entry of a namespace, if there is one
abbrev pub entry_in : Feed → Namespace → Option Entry
entry_in feed name = lookup (is_name name) feed

-- whether there is one
abbrev pub has_entry : Feed → Namespace → Bool
has_entry feed name = is_some (entry_in feed name)

-- a follower as contracts see it: its filter, the entries of each height but the last, and the last height, if there
-- is one
pub record FollowerParts (F : Type 0) : Type 0 where
  pub filter : F
  pub past : List Feed
  pub last : Option Last

-- the entries of the last height, in a list
abbrev pub last_feed : Option Last → List Feed
last_feed None = []
last_feed (Some last) = last.feed ∷ []

-- the entries of all heights
abbrev pub feeds_of : {F : Type 0} → FollowerParts F → List Feed
feeds_of follower = follower.past ++ last_feed follower.last

-- how many heights there are
abbrev pub height_count : {F : Type 0} → FollowerParts F → ℕ
height_count follower = length (feeds_of follower)

-- what is kept of a namespace among the entries of a height, if there is such a height
abbrev pub kept_in : Option Feed → Namespace → Option Entry
kept_in None name = None
kept_in (Some feed) name = entry_in feed name

-- what is kept of a namespace at a height, counted from 0
abbrev pub kept_at : {F : Type 0} → FollowerParts F → ℕ → Namespace → Option Entry
kept_at follower number name = kept_in (slice_get (feeds_of follower) number) name

-- what holds of each follower: its filter may be asked, the number of its heights has four bytes, and there are
-- others only in front of a last one
pub record IsFollower {F : Type 0} (can_ask : F → Namespace → Type 0) (answers : F → Namespace → Bool → Type 0)
    (follower : FollowerParts F) : Type 0 where
  pub filter : IsFilter can_ask answers follower.filter
  pub few : length follower.past + 1 < 2 ^ 32
  pub first : follower.last ≡ None → follower.past ≡ []

-- ---- for what a follower stands

-- the entries are those of the height
abbrev pub AreFed : (Namespace → Type 0) → Feed → Height → Type 0
AreFed wants feed height = (name : Namespace) → IsFedAt wants height name (option_map read_of (entry_in feed name))

-- the header of the last height
abbrev pub last_header : List Height → Option Roots
last_header heights = option_map (λ h. h.header) (slice_get heights (length heights - 1))

-- a follower stands for the headers and answers that it was handed, in their order, but for those at which
-- memory ran out
pub record FollowerStands {F : Type 0} (wants : Namespace → Type 0) (follower : FollowerParts F) (items : List Item)
    : Type 0 where
  pub are_items : AreItems items
  pub feeds : AllZip (AreFed wants) (feeds_of follower) (heights_of items)
  pub header : option_map (λ last. last.header) follower.last ≡ last_header (heights_of items)

-- ---- refusals, in their order

-- an answer for a namespace is refused at the last height, for the first check that fails, where the filter may say
-- this of the namespace
abbrev pub IsAnswerRefusedFor : (Bool → Type 0) → Last → Namespace → List NsEntry → FollowError → Type 0
IsAnswerRefusedFor says last name answer (NotBlob why) = namespace_refusal name.0 ≡ Some why
IsAnswerRefusedFor says last name answer Unwanted = (namespace_refusal name.0 ≡ None) × says false
IsAnswerRefusedFor says last name answer (Refused why) =
    (namespace_refusal name.0 ≡ None) × says true × (answer_refusal last.header name answer ≡ Some why)
IsAnswerRefusedFor says last name answer Twice = (namespace_refusal name.0 ≡ None) × says true
    × (answer_refusal last.header name answer ≡ None)
    × (has_entry last.feed name ≡ true)
IsAnswerRefusedFor says last name answer NoMemory = ⊥

-- no check fails
pub record IsNew (says : Bool → Type 0) (last : Last) (name : Namespace) (answer : List NsEntry) : Type 0 where
  pub blob : namespace_refusal name.0 ≡ None
  pub wanted : says true
  pub complete : answer_refusal last.header name answer ≡ None
  pub first : has_entry last.feed name ≡ false

-- what the shares of an answer are is entered under its namespace, and all else stays
pub record IsEntered (old new : Feed) (name : Namespace) (answer : List NsEntry) : Type 0 where
  pub entry : Entry
  pub read : read_of entry ≡ blobs_joined (shares_shown answer)
  pub entries : (other : Namespace)
      → entry_in new other ≡ (if is_name name other then Some entry else entry_in old other)

-- what the shares of an answer are is the entry of its namespace at the last height
pub record IsLastEntry {F : Type 0} (follower : FollowerParts F) (name : Namespace) (answer : List NsEntry)
    : Type 0 where
  pub entry : Entry
  pub kept : kept_at follower (height_count follower - 1) name ≡ Some entry
  pub read : read_of entry ≡ blobs_joined (shares_shown answer)

-- a call wasn't out of memory
abbrev pub HadMemory : {T : Type 0} → Result T FollowError → Type 0
HadMemory (Ok t) = ⊤
HadMemory (Err (NotBlob why)) = ⊤
HadMemory (Err Unwanted) = ⊤
HadMemory (Err (Refused why)) = ⊤
HadMemory (Err Twice) = ⊤
HadMemory (Err NoMemory) = ⊥
