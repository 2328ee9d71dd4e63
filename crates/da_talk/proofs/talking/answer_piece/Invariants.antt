use Rattle.std.proofs.Common.{◌≡◌, ◌+◌, ◌≤◌, false, length, vec_capacity}
use Rattle.da_talk.proofs.TellLemmas.{StillTells}
use Rattle.da_talk.proofs.talking.answer_piece.Given as goal

-- what is due to the frames before the rest was said
abbrev pub invariant-loop-rest : goal.invariant-loop-rest
invariant-loop-rest g l = record {
  goes_on : g.T.Talker.is_over l.talker ≡ false;
  text : g.T.Talker.most l.talker ≤ vec_capacity l.text;
  size : l.frames.size ≡ 5 + g.T.Talker.longest l.talker;
  room : g.R.Room.fits l.room l.frames.size;
  tells : StillTells g.L.Line g.T.Talker l.fn.line l.line l.fn.talker l.talker l.fn.frames l.frames (g.R.Room.kept l.fn.room) (g.R.Room.kept l.room) l.piece l.rest;
  taken : l.frames.taken ≡ l.frames.stream.taken;
  bytes : l.frames.taken + length l.rest ≡ l.fn.frames.taken + length l.piece;
  few : l.frames.count ≤ l.frames.taken;
  ended : g.L.Line.ended l.line ≡ g.L.Line.ended l.fn.line;
  read_faults : g.L.Line.read_faults l.line ≡ g.L.Line.read_faults l.fn.line;
  write_faults : g.L.Line.write_faults l.line ≡ g.L.Line.write_faults l.fn.line;
}

-- how many bytes are left
abbrev pub decreases-loop-rest : goal.decreases-loop-rest
decreases-loop-rest g l = length l.rest
