-- Watchers, and their talks.
use Rattle.std.specs.Prelude.{◌≡◌, ◌⊎◌, ℕ, false, List, [], ◌∷◌, ◌++◌, slice_get, Option, Some, None, ⊤}
use Rattle.namespace_id.specs.declared.cells.Cell.{Cell}
use Rattle.data_header.specs.Headers.{Roots}
use Rattle.axis_roots.specs.Claims.{ClaimParts}
use Rattle.axis_roots.specs.declared.message.messages.Message.{Message}
use Rattle.axis_roots.specs.declared.message.messages.CheckRefusal.{CheckRefusal}
use Rattle.axis_roots.specs.Messages.{message_refusal}
use Rattle.axis_roots.specs.Openings.{IsProved}
use Rattle.light_node.specs.declared.events.Event.{Event}
use Rattle.light_node.specs.declared.events.Event.TheVariants.{Sample}
use Rattle.light_node.specs.declared.events.LightState.{LightState}
use Rattle.light_node.specs.Events.{IsFirstAccepted, IsState}
use Rattle.light_node.specs.Nodes.{NodeParts, NodeStands}
use Rattle.da_wire.specs.Reading.{Raw}
use Rattle.da_status.specs.declared.status.Status.{Status}
use Rattle.da_talk.specs.declared.line.Line as line
use Rattle.da_talk.specs.declared.talker.Talker as talker
use Rattle.da_talk.specs.declared.talk_end.TalkEnd.{TalkEnd}
use Rattle.da_talk.specs.Spoken.{HasConversed}
use Rattle.da_talk.specs.Replies.{refusal}
use Rattle.da_watching.specs.Sizes.{most_claim, most_said}
use Rattle.da_talk.specs.Reasons.{sample_reason}
use Rattle.da_watching.specs.Watched.{frame_events, said_unasked, BeginsWatching, RepliesWatching, Decides, EndsWatching}

-- ---- watchers

-- a watcher as contracts see it: the header, the drawn cells, the light node that planned them, the accepted claim that
-- ended its talk, if one did, and the status that goes with its last words
pub record WatchParts (F : Type 0) : Type 0 where
  pub header : Roots
  pub plan : List Cell
  pub node : NodeParts F
  pub claim : Option ClaimParts
  pub status : Status

-- a picker answers exactly these cells
abbrev pub PicksOf : {F : Type 0} → (F → ℕ → Cell → Type 0) → F → List Cell → Type 0
PicksOf picks pick plan = (number : ℕ) (cell : Cell) → picks pick number cell → slice_get plan number ≡ Some cell

-- nothing was said to it yet
pub record IsFreshWatcher {F : Type 0} (picks : F → ℕ → Cell → Type 0) (watcher : WatchParts F) : Type 0 where
  pub node : NodeStands picks watcher.node watcher.plan []
  pub claim : watcher.claim ≡ None

-- from the first watcher on these frames led to the second: it keeps the first claim that is accepted, and until one is, its
-- node stands for the frames
pub record HasFed {F : Type 0} (picks : F → ℕ → Cell → Type 0) (first now : WatchParts F) (frames : List Raw) : Type 0 where
  pub header : now.header ≡ first.header
  pub plan : now.plan ≡ first.plan
  pub node : now.claim ≡ None → NodeStands picks now.node first.plan (frame_events frames)
  pub claim : IsFirstAccepted first.header (frame_events frames) now.claim

-- a watcher took a sample with a number: one that isn't proved is refused, and changes nothing; another is taken by its node, and
-- said is what is due then
abbrev pub HasSeen : {F : Type 0} → (F → ℕ → Cell → Type 0) → WatchParts F → WatchParts F → Message → ℕ → List ℕ → Type 0
HasSeen picks old new m number text =
    ((why : CheckRefusal) × (message_refusal old.header m ≡ Some why) × (text ≡ refusal (sample_reason why) number) × (new ≡ old)
    × (IsProved old.header m → ⊥))
    ⊎ (IsProved old.header m × ((plan : List Cell) (events : List Event) → NodeStands picks old.node plan events
    → NodeStands picks new.node plan (events ++ Sample m ∷ []) × (before now : LightState)
    × IsState old.header plan events before × IsState old.header plan (events ++ Sample m ∷ []) now × (text ≡ said_unasked before now)))

-- ---- talks

-- what is due in a talk under a header where these cells were drawn, for a talker of which no more is seen than the status
-- that goes with its last words
abbrev pub watching : Roots → List Cell → talker.Ghosts Status
watching header plan = record {
  is_fresh = λ status. ⊤;
  led = λ first now frames. ⊤;
  is_over = λ status. false;
  longest = λ status. most_claim;
  most = λ status. most_said header.k;
  takes_memory = λ status. ⊥;
  begins = λ first text. BeginsWatching header plan text;
  replies = λ first frames frame text. RepliesWatching header plan frames frame text;
  refuses = λ first frames frame. ⊥;
  decides = λ first now frames text. Decides header frames text now;
  ends = λ first now frames text. EndsWatching header plan frames text now;
}

-- a talk with a watcher: what was said to its frames and when, how it ended, and the status that goes with its last words
abbrev pub HasWatched : {L : Type 0} → line.Ghosts L → L → L → Roots → List Cell → Status → TalkEnd → Type 0
HasWatched l old new header plan status ended = HasConversed l (watching header plan) old new status status ended
