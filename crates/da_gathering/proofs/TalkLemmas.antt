-- A talk with what replies as a repair does is a talk of a repair.
use Rattle.std.specs.declared.option.Option.{Option}
use Rattle.data_header.specs.Headers.{Roots}
use Rattle.da_status.specs.declared.status.Status.{Status}
use Rattle.da_talk.specs.declared.line.Line as line
use Rattle.da_talk.specs.declared.talker.Talker as talker
use Rattle.da_talk.specs.declared.talk_end.TalkEnd.{TalkEnd}
use Rattle.da_talk.specs.declared.talk_end.TalkEnd.TheVariants.{Over, Decided, Bad, Unfit, ReadFailed, WriteFailed, TooLong, NoMemory}
use Rattle.da_talk.specs.Spoken.{HasConversed}
use Rattle.da_talk.proofs.TellingLemmas.{RepliesAlike, talk_as}
use Rattle.da_gathering.specs.Gathered.{GoesWith, gathering, GathersTalk}

-- the status that goes with the last words is kept
pub goes_with : {L : Type 0} (l : line.Ghosts L) (old new : L) (header : Roots) (kept : Option Status) (ended : TalkEnd) → GathersTalk l old new header kept ended → GoesWith ended kept
goes_with l old new header kept Over h = (h.end.due.status, h.end.due.kept_is, h.end.due.of)
goes_with l old new header kept Decided h = (h.end.due.status, h.end.due.kept_is, h.end.due.of)
goes_with l old new header kept (Bad at) h = tt
goes_with l old new header kept (Unfit at) h = h.end.refused
goes_with l old new header kept ReadFailed h = tt
goes_with l old new header kept WriteFailed h = tt
goes_with l old new header kept TooLong h = tt
goes_with l old new header kept NoMemory h = h.end.takes

-- what replies as a repair does, as the talk with it says it
pub gathers : {T L : Type 0} {t : talker.Ghosts T} {l : line.Ghosts L} (old new : L) (first now : T) (ended : TalkEnd) → HasConversed l t old new first now ended
    → (header : Roots) (kept : Option Status) → RepliesAlike t (gathering header) first now kept kept → GathersTalk l old new header kept ended
gathers {t = t} {l = l} old new first now ended h header kept alike = talk_as t (gathering header) first now kept kept alike l old new ended h
