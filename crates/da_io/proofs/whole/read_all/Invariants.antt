use Rattle.da_io.specs.Faults.{count_on}
use Rattle.std.proofs.Common.{◌≡◌, ◌-◌, ◌≤◌, vec_len}
use Rattle.std.specs.Io.KnownBytes.{Consumes}
use Rattle.da_io.proofs.whole.read_all.Given as goal

-- what was read so far is gone from the front and counted, and no call has failed
abbrev pub invariant-loop-count : goal.invariant-loop-count
invariant-loop-count g l = record {
  content : Consumes (g.I.Inputs.rest l.fn.inputs) (g.I.Inputs.rest l.inputs) l.content.items;
  given : g.I.Inputs.given l.inputs ≡ count_on (g.I.Inputs.given l.fn.inputs) (vec_len l.content);
  limit : vec_len l.content ≤ l.limit;
  faults : g.I.Inputs.faults l.inputs ≡ g.I.Inputs.faults l.fn.inputs;
  picks : g.I.Inputs.picks l.inputs ≡ g.I.Inputs.picks l.fn.inputs;
  picked : g.I.Inputs.picked l.inputs ≡ g.I.Inputs.picked l.fn.inputs;
  files : g.I.Inputs.files l.inputs ≡ g.I.Inputs.files l.fn.inputs;
}

-- how many bytes may still come
abbrev pub decreases-loop-count : goal.decreases-loop-count
decreases-loop-count g l = l.limit - vec_len l.content
