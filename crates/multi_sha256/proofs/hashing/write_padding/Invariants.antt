use Rattle.std.proofs.Common.{◌≡◌, ◌-◌, ◌+◌, ◌≤◌, ◌++◌, ◌∷◌, length, take, replicate}
use Rattle.multi_sha256.proofs.hashing.write_padding.Given as goal

-- the bytes so far
abbrev pub invariant-zeros : goal.invariant-zeros
invariant-zeros l = record {
  low : l.size + 1 ≤ l.i;
  count : length l.bytes ≡ length l.fn.bytes;
  done : take l.i l.bytes ≡ take l.size l.fn.bytes ++ 0x80 ∷ replicate (l.i - (l.size + 1)) 0;
}
