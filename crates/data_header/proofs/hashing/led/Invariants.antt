use Rattle.std.proofs.Common.{◌≡◌, drop}
use Rattle.data_header.specs.DataRoots.{led}
use Rattle.data_header.proofs.hashing.led.Given as goal

-- the hashes that are left lead from here to where all lead
abbrev pub invariant-loop-hash : goal.invariant-loop-hash
invariant-loop-hash l = led l.place l.top (drop l.hash-index l.hashes) ≡ led l.fn.place l.fn.hash l.hashes
