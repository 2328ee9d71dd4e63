use Rattle.std.proofs.Common.{◌≡◌, ◌+◌, ◌-◌, ◌++◌, ℕ, List}
use Rattle.sampling.specs.Words.{words_at, words_after}
use Rattle.sampling.specs.Generated.{word_bytes}
use Rattle.sampling.proofs.generating.bytes.Given as goal

-- the bytes of the words so far, and of those that are left, are all
abbrev pub invariant-loop : goal.invariant-loop
invariant-loop l = record {
  all : (key : List ℕ) (place : ℕ) → l.fn.words ≡ words_at key place
      → l.bytes.items ++ word_bytes key (place + l.counter) (l.count - l.counter) ≡ word_bytes key place l.count;
  words : l.words ≡ words_after l.fn.words l.counter;
}
