-- gather HEADER TALK: what a repair replies to frames that come one after another (docs/FORMATS.md, "Talks").
use Rattle.std.specs.Prelude.{◌≡◌, ℕ, List, [], ◌∷◌, ◌++◌, length, Bool, true, false, ◌==◌, Option, Some, None, ⊤}
use Rattle.std.specs.List.{filter}
use Rattle.namespace_id.specs.Cells.{CellList}
use Rattle.data_header.specs.Headers.{Roots}
use Rattle.repair_queue.specs.SessionParts.{SessionParts, SessionStands}
use Rattle.repair_queue.specs.Verdicts.{missing, IsVerdict}
use Rattle.frame_payloads.specs.kinds.Message.{most_message}
use Rattle.frame_payloads.specs.declared.refusals.Reason.{Reason}
use Rattle.frame_payloads.specs.declared.refusals.Reason.TheVariants.{NoSuchFrame}
use Rattle.da_wire.specs.declared.frames.Frame.TheVariants as kinds
use Rattle.da_wire.specs.Spelling.{spelling, refusal_kind}
use Rattle.da_wire.specs.Reading.{Raw}
use Rattle.da_wire.specs.Frames.{frames_of}
use Rattle.da_status.specs.declared.status.Status.{Status}
use Rattle.da_status.specs.declared.status.Status.TheVariants.{Missing}
use Rattle.da_judging.specs.declared.check.Finding.{Finding}
use Rattle.da_judging.specs.declared.check.Finding.TheVariants as found
use Rattle.da_judging.specs.Check.{finding_of}
use Rattle.da_judging.specs.Repair.{messages_in, lies_in, Repairs}
use Rattle.da_talk.specs.declared.line.Line as line
use Rattle.da_talk.specs.declared.talker.Talker as talker
use Rattle.da_talk.specs.declared.talk_end.TalkEnd.{TalkEnd}
use Rattle.da_talk.specs.declared.talk_end.TalkEnd.TheVariants as ends
use Rattle.da_talk.specs.Handed.{asks_state, fed}
use Rattle.da_talk.specs.Reasons.{sample_reason}
use Rattle.da_talk.specs.Replies.{refusal}
use Rattle.da_talk.specs.Spoken.{AreReplies, HasConversed}
use Rattle.da_gathering.specs.Gatherings.{Gathering, most_gathered}

-- ---- frames

-- a repair was fed with those of these frames that don't ask
pub record HasGathered (header : Roots) (frames : List Raw) (g : Gathering) : Type 0 where
  pub header_is : g.header ≡ header
  pub session : SessionParts
  pub is : g.session ≡ Some session
  pub under : session.header ≡ header
  pub stands : SessionStands session (messages_in (fed frames))
  pub lies : g.lies ≡ lies_in header (fed frames)

-- a repair was fed with nothing yet
abbrev pub IsFreshGathering : Gathering → Type 0
IsFreshGathering g = HasGathered g.header [] g × (g.is_over ≡ false)

-- ---- replies

-- why a frame is refused: no sample of the grammar, or the first check of a sample that fails; none that is proved is
abbrev pub reason_for : Finding → Option Reason
reason_for found.Proved = None
reason_for found.NoMessage = Some NoSuchFrame
reason_for (found.Refused why) = Some (sample_reason why)

-- the cells that don't follow from the proved samples of frames; there are some, and nothing is wrong with the header
abbrev pub AreMissing : Roots → List Raw → CellList → Type 0
AreMissing header frames cells = IsVerdict header (messages_in (fed frames)) (missing cells)

-- the refusal of the frame with a number, nothing where there is no reason
abbrev pub refusal_for : Option Reason → ℕ → List ℕ
refusal_for None number = []
refusal_for (Some reason) number = refusal reason number

-- the reply to a frame behind others: to one that asks the missing cells, to a lie its refusal, to another none
abbrev pub IsReplyBy : Bool → Roots → List Raw → Raw → List ℕ → Type 0
IsReplyBy true header frames frame text =
    (cells : CellList) × AreMissing header frames cells × (spelling (kinds.Missing cells) ≡ Some text)
IsReplyBy false header frames frame text = text ≡ refusal_for (reason_for (finding_of header frame)) (length frames)

-- the reply to a frame, by whether it asks
abbrev pub IsReply : Roots → List Raw → Raw → List ℕ → Type 0
IsReply header frames frame text = IsReplyBy (asks_state frame) header frames frame text

-- the reply to a frame behind which the talk goes on: cells are missing still
abbrev pub RepliesOn : Roots → List Raw → Raw → List ℕ → Type 0
RepliesOn header frames frame text =
    IsReply header frames frame text × (cells : CellList) × AreMissing header (frames ++ frame ∷ []) cells

-- ---- last words

-- whether a status is that of missing cells
abbrev pub is_missing : Status → Bool
is_missing (Missing cells lies) = true
is_missing other = false

-- the last words behind frames: what `repair` may write of those that don't ask, whether cells are missing, and the status that
-- goes with it, which is kept
pub record AreLastWords (header : Roots) (frames : List Raw) (more : Bool) (text : List ℕ) (kept : Option Status) : Type 0 where
  pub status : Status
  pub repairs : Repairs header (fed frames) text status
  pub of : is_missing status ≡ more
  pub kept_is : kept ≡ Some status

-- a status is kept, that of missing cells or another
abbrev pub KeepsStatus : Bool → Option Status → Type 0
KeepsStatus more kept = (status : Status) × (kept ≡ Some status) × (is_missing status ≡ more)

-- the status that goes with the end of a talk: that of missing cells where the bytes were over, another where a frame ended it
abbrev pub GoesWith : TalkEnd → Option Status → Type 0
GoesWith ends.Over kept = KeepsStatus true kept
GoesWith ends.Decided kept = KeepsStatus false kept
GoesWith (ends.Bad at) kept = ⊤
GoesWith (ends.Unfit at) kept = ⊥
GoesWith ends.ReadFailed kept = ⊤
GoesWith ends.WriteFailed kept = ⊤
GoesWith ends.TooLong kept = ⊤
GoesWith ends.NoMemory kept = ⊥

-- ---- talks

-- what is due in a talk of a repair under a header, for a talker of which no more is seen than the status that goes with its
-- last words
abbrev pub gathering : Roots → talker.Ghosts (Option Status)
gathering header = record {
  is_fresh = λ kept. ⊤;
  led = λ first now frames. ⊤;
  is_over = λ kept. false;
  longest = λ kept. most_message;
  most = λ kept. most_gathered header.k;
  takes_memory = λ kept. ⊥;
  begins = λ first text. text ≡ [];
  replies = λ first frames frame text. RepliesOn header frames frame text;
  refuses = λ first frames frame. ⊥;
  decides = λ first now frames text. AreLastWords header frames false text now;
  ends = λ first now frames text. AreLastWords header frames true text now;
}

-- a talk of a repair: what was said to its frames and when, how it ended, and the status that goes with its last words
abbrev pub GathersTalk : {L : Type 0} → line.Ghosts L → L → L → Roots → Option Status → TalkEnd → Type 0
GathersTalk l old new header kept ended = HasConversed l (gathering header) old new kept kept ended

-- ---- what belongs to such talks

-- how many frames of bytes are refusals
abbrev pub refusals_in : List ℕ → ℕ
refusals_in bytes = length (filter (λ frame. frame.kind == refusal_kind) (frames_of bytes))

-- what was said to frames holds as many refusals as frames are lies
abbrev pub RefusesEachLie : Type 0
RefusesEachLie = (header : Roots) (kept : Option Status) (frames : List Raw) (said : List ℕ) → AreReplies (gathering header) kept frames said
    → refusals_in said ≡ lies_in header (fed frames)
