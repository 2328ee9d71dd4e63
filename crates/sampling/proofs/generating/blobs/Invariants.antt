use Rattle.std.proofs.Common.{◌≡◌, ◌+◌, ◌-◌, ◌*◌, ◌^◌, ◌≤◌, ℕ, List}
use Rattle.sampling.specs.Words.{words_at}
use Rattle.sampling.specs.Generated.{blobs_at}
use Rattle.sampling.proofs.BlobLemmas.{BlobsLeft}
use Rattle.sampling.proofs.generating.blobs.Given as goal

-- the blobs so far and those that are left are all
abbrev pub invariant-loop : goal.invariant-loop
invariant-loop l = record {
  all : (key : List ℕ) (place : ℕ) → l.fn.words ≡ words_at key place
      → BlobsLeft l.k key l.words l.blobs.items (l.count - l.counter) (blobs_at l.k key place l.count);
  near : l.words.word_pos ≤ l.fn.words.word_pos + 2 ^ 16 * l.counter;
}
