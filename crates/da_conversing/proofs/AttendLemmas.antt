-- The status that goes with the last words of a talk about namespaces.
use Rattle.std.proofs.Common.{◌≡◌, ◌∙◌, ℕ, Bool, true, false, cond, eqb, List, Some, refl, ap}
use Rattle.namespace_id.specs.declared.namespaces.Namespace.{Namespace}
use Rattle.da_status.specs.declared.status.Status.{Status}
use Rattle.da_status.specs.declared.status.Status.TheVariants.{Done, Waiting}
use Rattle.da_status.specs.Statuses.{status_kind, output}
use Rattle.da_following.specs.Follow.{feed_status}
use Rattle.da_talk.specs.declared.line.Line as line
use Rattle.da_talk.specs.declared.talk_end.TalkEnd.{TalkEnd}
use Rattle.da_talk.specs.declared.talk_end.TalkEnd.TheVariants.{Over, Decided, Bad, Unfit, ReadFailed, WriteFailed, TooLong, NoMemory}
use Rattle.da_attending.specs.Attended.{Attends}
use Rattle.da_conversing.specs.Tellings.{IsKept}

-- lines of a feed come with a status of a complete output
output_by : (b : Bool) (missing : ℕ) → status_kind (cond b Done (Waiting missing)) ≡ output
output_by true missing = refl
output_by false missing = refl

feed_output : (missing : ℕ) → status_kind (feed_status missing) ≡ output
feed_output missing = output_by (eqb missing 0) missing

-- so do the last words
pub attends_kept : {L : Type 0} (l : line.Ghosts L) (old new : L) (names : List Namespace) (status : Status) (end : TalkEnd)
    → Attends l old new names status end → IsKept end (Some status)
attends_kept l old new names status Over s = (status, refl, ap status_kind s.end.due.counted ∙ feed_output _)
attends_kept l old new names status Decided s = absurd s.end.due
attends_kept l old new names status (Bad at) s = tt
attends_kept l old new names status (Unfit at) s = tt
attends_kept l old new names status ReadFailed s = tt
attends_kept l old new names status WriteFailed s = tt
attends_kept l old new names status TooLong s = tt
attends_kept l old new names status NoMemory s = tt
