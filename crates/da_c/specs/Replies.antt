-- How a call ends, as C sees it (docs/C.md).
use Rattle.std.specs.Prelude.{◌≡◌, ◌⊎◌, ◌↔◌, ◌<◌, ◌≤◌, ℕ, List, [], ◌++◌, length, drop, MatchResult, Result}
use Rattle.std.specs.declared.option.Option.{Option}
use Rattle.std.specs.Option.{option_map_or}
use Rattle.da_files.specs.declared.frames.Unread.{Unread}
use Rattle.da_files.specs.declared.frames.Unread.TheVariants as unread
use Rattle.da_status.specs.declared.status.Asked.TheVariants as asked
use Rattle.da_status.specs.declared.status.Status.TheVariants as status
use Rattle.da_status.specs.Statuses.{status_number}
use Rattle.da_c.specs.declared.replies.Reply.{Reply}
use Rattle.da_c.specs.declared.replies.Reply.TheVariants.{Done, NoMemory, BadForm, NoHeader, Refused, Short}
use Rattle.da_c.specs.declared.replies.Detail.{Detail}

-- the reply to an argument that isn't read
abbrev pub unread_reply : ℕ → Unread → Reply
unread_reply argument (unread.BadForm at) = BadForm argument at
unread_reply argument unread.NoMemory = NoMemory

-- the reply to what the check of this number refuses, or none does
abbrev pub verdict : Option ℕ → Reply
verdict refusal = option_map_or Refused refusal (Done 0)

-- the number of a reply: that of the program's status which means the same, and 15 where a buffer is too short, which
-- no status means
abbrev pub reply_status : Reply → ℕ
reply_status (Done size) = status_number status.Done
reply_status NoMemory = status_number status.NoMemory
reply_status (BadForm argument at) = status_number (status.BadInput argument at)
reply_status NoHeader = status_number (status.BadRequest asked.NoHeader)
reply_status (Refused number) = status_number status.Refused
reply_status (Short size) = 15

-- what goes with the number of a reply
abbrev pub detail_of : Reply → Detail
detail_of (Done size) = record { argument = 0; at = 0; refusal = 0; size = size }
detail_of NoMemory = record { argument = 0; at = 0; refusal = 0; size = 0 }
detail_of (BadForm argument at) = record { argument = argument; at = at; refusal = 0; size = 0 }
detail_of NoHeader = record { argument = 0; at = 0; refusal = 0; size = 0 }
detail_of (Refused number) = record { argument = 0; at = 0; refusal = number; size = 0 }
detail_of (Short size) = record { argument = 0; at = 0; refusal = 0; size = size }

-- what the caller sees of a reply
abbrev pub Seen : ℕ → Detail → Reply → Type 0
Seen number detail reply = (number ≡ reply_status reply) × (detail ≡ detail_of reply)

-- ---- calls that judge

-- which replies belong to what a call was given
abbrev pub ReplyRelation : Type 1
ReplyRelation = Reply → Type 0

-- the reply to an argument: that to its value, in place of which memory may have run out, or that it isn't in its form
abbrev pub ReadsArgument : {A : Type 0} → ℕ → Result A ℕ → (A → ReplyRelation) → ReplyRelation
ReadsArgument argument read M reply = MatchResult read (λ x. M x reply ⊎ (reply ≡ NoMemory)) (λ at. reply ≡ BadForm argument at)

-- a call that judges ends with what is seen of such a reply
abbrev pub AnswersReply : ReplyRelation → ℕ → Detail → Type 0
AnswersReply M number detail = (reply : Reply) × M reply × Seen number detail reply

-- unless memory ran out, 0 is answered exactly where this is so
abbrev pub IsExact : Type 0 → ℕ → Type 0
IsExact Fact number = (number ≡ 5 → ⊥) → (number ≡ 0) ↔ Fact

-- ---- calls that write

-- which outputs and replies belong to what a call was given
abbrev pub OutputRelation : Type 1
OutputRelation = List ℕ → ReplyRelation

-- nothing is written, and the reply is this one
abbrev pub RefusesReply : Reply → OutputRelation
RefusesReply refusal w reply = (w ≡ []) × (reply ≡ refusal)

-- such an output, in place of which memory may have run out
abbrev pub OrFull : OutputRelation → OutputRelation
OrFull M w reply = M w reply ⊎ RefusesReply NoMemory w reply

-- the output for an argument: that for its value, in place of which memory may have run out, or none, for it isn't in its form
abbrev pub TakesArgument : {A : Type 0} → ℕ → Result A ℕ → (A → OutputRelation) → OutputRelation
TakesArgument argument read M w reply = MatchResult read (λ x. OrFull (M x) w reply) (λ at. RefusesReply (BadForm argument at) w reply)

-- a text is written whole where it fits in the buffer, and else not at all
abbrev pub FitsBuffer : List ℕ → ℕ → OutputRelation
FitsBuffer text room w reply =
    ((length text ≤ room) × (w ≡ text) × (reply ≡ Done (length text)))
    ⊎ ((room < length text) × RefusesReply (Short (length text)) w reply)

-- such an output stands at the front of a buffer, and what is behind it stays
abbrev pub LeavesBuffer : OutputRelation → List ℕ → List ℕ → ReplyRelation
LeavesBuffer M old new reply = (w : List ℕ) × M w reply × (new ≡ w ++ drop (length w) old)

-- a call that writes ends with what is seen of such a reply, and leaves such a buffer
abbrev pub WritesReply : OutputRelation → List ℕ → List ℕ → ℕ → Detail → Type 0
WritesReply M old new number detail = (reply : Reply) × LeavesBuffer M old new reply × Seen number detail reply
