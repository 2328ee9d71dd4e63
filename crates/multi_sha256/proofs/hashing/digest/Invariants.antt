use Rattle.std.proofs.Common.{◌≡◌, ◌*◌, length, take}
use Rattle.sha2.specs.Sha256.{digest_bytes}
use Rattle.multi_sha256.specs.Lanes.{lane}
use Rattle.multi_sha256.proofs.hashing.digest.Given as goal

-- the bytes so far
abbrev pub invariant-words : goal.invariant-words
invariant-words l = (length l.out ≡ 32) × (take (4 * l.i) l.out ≡ digest_bytes (lane l.j l.states) l.i)
