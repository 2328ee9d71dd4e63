use Rattle.std.proofs.Common.{◌≡◌, ◌+◌, ◌≤◌, List, ℕ, [], false, vec_capacity}
use Rattle.da_talk.specs.Talks.{Does}
use Rattle.da_talk.specs.Steps.{spoken, IsTelling}
use Rattle.da_talk.proofs.talking.listen.Given as goal

-- what is due to all frames that ended with what was heard was said, and no call has failed
abbrev pub invariant-loop-count : goal.invariant-loop-count
invariant-loop-count g l = record {
  goes_on : g.T.Talker.is_over l.talker ≡ false;
  text : g.T.Talker.most l.talker ≤ vec_capacity l.text;
  size : l.frames.size ≡ 5 + g.T.Talker.longest l.talker;
  room : g.R.Room.fits l.room l.frames.size;
  telling : (old : _) (first : _) (began : List ℕ) → g.T.Talker.led first l.fn.talker [] → g.T.Talker.begins first began → Does g.L.Line old l.fn.line (spoken began)
      → IsTelling g.L.Line g.T.Talker old l.line first l.talker l.frames (g.R.Room.kept l.room) [];
  taken : l.frames.taken ≡ l.frames.stream.taken;
  bytes : l.frames.taken + l.left ≡ 18446744073709551615;
  few : l.frames.count ≤ l.frames.taken;
  read_faults : g.L.Line.read_faults l.line ≡ g.L.Line.read_faults l.fn.line;
  write_faults : g.L.Line.write_faults l.line ≡ g.L.Line.write_faults l.fn.line;
}

-- how many bytes may still come
abbrev pub decreases-loop-count : goal.decreases-loop-count
decreases-loop-count g l = l.left
