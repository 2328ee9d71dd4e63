use Rattle.std.proofs.Common.{ℕ, ◌<◌, ◌≡◌, List, [], take, slice_index_or, arith}
use Rattle.sha2.specs.Sha256.{digest_bytes, sha256}
use Rattle.multi_sha256.specs.Lanes.{lane}
use Rattle.multi_sha256.proofs.DigestLemmas.{digest_of_padded}
use Rattle.multi_sha256.proofs.LaneLemmas.{below_eight}
use Rattle.multi_sha256.proofs.hashing.digests.Goals as goal

pub returns : goal.returns
returns g c =
    let old = c.args.messages.now in
    let states = c.final_states-states.result in
    let of : (j : ℕ) → j < 8 → (d : List ℕ) → d ≡ digest_bytes (lane j states) 8 → d ≡ sha256 (take c.args.size (slice_index_or old j [])) = λ j h d is.
    digest_of_padded (slice_index_or old j []) _ (lane j states) d g.row.N c.args.size
    c.requires.whole c.requires.room c.requires.tight (c.pad_all.ensures.count j h) (c.pad_all.ensures.padded j h) (c.final_states-states.ensures j h) is in
    below_eight _
    (of 0 (omega arith) _ c.digest.ensures)
    (of 1 (omega arith) _ c.digest-2.ensures)
    (of 2 (omega arith) _ c.digest-3.ensures)
    (of 3 (omega arith) _ c.digest-4.ensures)
    (of 4 (omega arith) _ c.digest-5.ensures)
    (of 5 (omega arith) _ c.digest-6.ensures)
    (of 6 (omega arith) _ c.digest-7.ensures)
    (of 7 (omega arith) _ c.digest-8.ensures)
