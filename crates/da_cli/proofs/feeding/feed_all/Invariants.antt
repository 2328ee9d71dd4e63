use Rattle.std.proofs.Common.{◌≡◌, ◌-◌, ◌≤◌}
use Rattle.repair_queue.specs.SessionParts.{SessionStands}
use Rattle.da_cli.proofs.FeedingLemmas.{HasFed}
use Rattle.da_cli.proofs.feeding.feed_all.Given as goal

-- what was read so far was fed, and no call has failed
abbrev pub invariant-loop-count : goal.invariant-loop-count
invariant-loop-count g l = record {
  header : l.session.header ≡ l.header;
  fed : HasFed l.stream (g.I.Inputs.rest l.fn.inputs) (g.I.Inputs.rest l.inputs) (g.I.Inputs.given l.fn.inputs) (g.I.Inputs.given l.inputs) l.header l.lies
      (SessionStands l.fn.session) (SessionStands l.session);
  taken : l.stream.taken ≡ l.taken;
  few : l.lies ≤ l.taken;
  limit : l.taken ≤ l.limit;
  faults : g.I.Inputs.faults l.inputs ≡ g.I.Inputs.faults l.fn.inputs;
  picks : g.I.Inputs.picks l.inputs ≡ g.I.Inputs.picks l.fn.inputs;
  picked : g.I.Inputs.picked l.inputs ≡ g.I.Inputs.picked l.fn.inputs;
  files : g.I.Inputs.files l.inputs ≡ g.I.Inputs.files l.fn.inputs;
}

-- how many bytes may still come
abbrev pub decreases-loop-count : goal.decreases-loop-count
decreases-loop-count g l = l.limit - l.taken
