use Rattle.std.proofs.Common.{◌≡◌, ◌*◌, length, take, drop}
use Rattle.nmt_tree.specs.Levels.{pairs}
use Rattle.nmt_tree.proofs.folding.join_pairs.Given as goal

-- the nodes so far, eight by eight, and what is left of the level
abbrev pub invariant-eights : goal.invariant-eights
invariant-eights l = record {
  count : length l.digests ≡ length l.fn.digests;
  done : take (8 * l.eight) l.digests ≡ pairs (take (2 * (8 * l.eight)) l.fn.digests);
  left : drop (2 * (8 * l.eight)) l.digests ≡ drop (2 * (8 * l.eight)) l.fn.digests;
}

-- the nodes so far, and what is left of the level
abbrev pub invariant-rest : goal.invariant-rest
invariant-rest l = record {
  count : length l.digests ≡ length l.fn.digests;
  done : take l.i l.digests ≡ pairs (take (2 * l.i) l.fn.digests);
  left : drop (2 * l.i) l.digests ≡ drop (2 * l.i) l.fn.digests;
}
