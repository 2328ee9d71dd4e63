-- What belongs to talks about wanted namespaces.
use Rattle.std.specs.Prelude.{◌≡◌, ℕ, ◌≤◌, List, ◌∷◌, ◌++◌, length, true, Some, None}
use Rattle.std.specs.declared.option.Option.{Option}
use Rattle.std.specs.List.{Contains}
use Rattle.std.specs.List.Sorted.{IsStrictlySortedBy}
use Rattle.namespace_id.specs.declared.namespaces.Namespace.{Namespace}
use Rattle.namespace_id.specs.Names.{namespace_cmp}
use Rattle.da_io.specs.Faults.{max_count}
use Rattle.blob_feed.specs.Feeds.{heights_of, IsFeedOf}
use Rattle.da_wire.specs.Reading.{Raw}
use Rattle.da_wire.specs.Frames.{frames_of, bad_frame}
use Rattle.da_status.specs.declared.status.Status.{Status}
use Rattle.da_files.specs.Requests.{failing_from}
use Rattle.da_following.specs.Follow.{is_followed, each_once, items_in, bad_feed, RunFeed, run_places, feed_lines, missing_count, Follows}
use Rattle.da_following.specs.Heights.{fed_by}
use Rattle.da_talk.specs.Talks.{IsBad}
use Rattle.da_talk.specs.Spoken.{AreReplies, IsUnfit}
use Rattle.da_attending.specs.Attended.{item_in, items_of, fits, EndsAttending, attending}
use Rattle.da_attending.specs.Orders.{AreLinesOf}

-- what was said to frames, with the last words behind them, are the lines of what their headers and answers feed, at each height those
-- of the wanted namespaces, each once, in some order
abbrev pub SaysLines : Type 0
SaysLines = (names : List Namespace) (kept status : Status) (frames : List Raw) (said text : List ℕ)
    → IsStrictlySortedBy namespace_cmp names → AreReplies (attending names) kept frames said → EndsAttending names frames text status
    → AreLinesOf (fed_by names (heights_of (items_of frames))) names (length (heights_of (items_of frames))) (said ++ text)

-- ---- files that follow takes

-- each of frames fits behind those before it
abbrev pub AllFit : List Raw → Type 0
AllFit frames = (before later : List Raw) (frame : Raw) → frames ≡ before ++ frame ∷ later → fits (items_of before) (item_in frame) ≡ true

-- a file that follow takes is a list of frames that all fit, and they are its headers and answers
abbrev pub TakesFiles : Type 0
TakesFiles = (bytes : List ℕ) → bad_feed bytes ≡ None
    → (bad_frame bytes ≡ None) × (items_of (frames_of bytes) ≡ items_in bytes) × AllFit (frames_of bytes)

-- what follow writes of wanted namespaces and a file, and what a talk about them says of it, are lines of one feed; with its status, up
-- to the greatest count
pub record SaysFeed (wanted : List Namespace) (bytes w : List ℕ) (status : Status) (said : List ℕ) (ended : Status) : Type 0 where
  pub feed : RunFeed
  pub is : IsFeedOf (Contains wanted) (items_in bytes) feed
  pub written : w ≡ feed_lines feed (run_places wanted (items_in bytes))
  pub lines : AreLinesOf feed (each_once wanted) (length (heights_of (items_in bytes))) said
  pub status_is : missing_count feed (run_places wanted (items_in bytes)) ≤ max_count → ended ≡ status

-- so it is where all of them can be followed
abbrev pub SaysFollowed : Type 0
SaysFollowed = (wanted : List Namespace) (bytes w : List ℕ) (status kept ended : Status) (said text : List ℕ)
    → failing_from is_followed 0 wanted ≡ None → bad_feed bytes ≡ None → Follows wanted (items_in bytes) w status
    → AreReplies (attending (each_once wanted)) kept (frames_of bytes) said → EndsAttending (each_once wanted) (frames_of bytes) text ended
    → SaysFeed wanted bytes w status (said ++ text) ended

-- ---- files that it refuses

-- where a talk ends at a frame that doesn't fit, follow refuses what was heard at the same offset
abbrev pub NamesUnfit : Type 0
NamesUnfit = (names : List Namespace) (kept : Status) (heard said : List ℕ) (at : ℕ) → IsUnfit (attending names) kept heard said at
    → bad_feed heard ≡ Some at

-- so it is where a talk ends at a place at which no frame stands
abbrev pub NamesBad : Type 0
NamesBad = (names : List Namespace) (kept : Status) (heard said : List ℕ) (rest : Option (List ℕ)) (at : ℕ)
    → AreReplies (attending names) kept (frames_of heard) said → IsBad heard rest at → bad_feed heard ≡ Some at
