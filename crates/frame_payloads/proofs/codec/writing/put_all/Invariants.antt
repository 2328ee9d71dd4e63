use Rattle.std.proofs.Common.{◌≡◌, ◌+◌, ◌≤◌, ◌++◌, drop, length, map}
use Rattle.std.specs.List.{flat_map}
use Rattle.frame_payloads.proofs.codec.writing.put_all.Given as goal

-- what is held and what is left are all, and so are their lengths
abbrev pub invariant-loop-value : goal.invariant-loop-value
invariant-loop-value g l = record {
  held : g.O.Out.held l.out ++ map g.O.Out.byte (flat_map g.T.Text.text (drop l.value-index l.values)) ≡ g.O.Out.held l.fn.out ++ map g.O.Out.byte (flat_map g.T.Text.text l.values);
  taken : g.O.Out.taken l.out + length (flat_map g.T.Text.text (drop l.value-index l.values)) ≡ g.O.Out.taken l.fn.out + length (flat_map g.T.Text.text l.values);
  limit : g.O.Out.limit l.fn.out ≤ g.O.Out.limit l.out;
}
