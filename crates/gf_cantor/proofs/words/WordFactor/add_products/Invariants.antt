use Rattle.std.proofs.Common.{◌≡◌, ℕ, ◌*◌, ◌<◌, ◌≤◌, get_or}
use Rattle.gf_cantor.proofs.WordLemmas.{IsAdded}
use Rattle.gf_cantor.proofs.words.WordFactor.add_products.Given as goal

-- the elements so far have gained their products, and the other bytes are as they were
abbrev pub invariant-loop-b : goal.invariant-loop-b
invariant-loop-b l = record {
  done : (i : ℕ) → i < 32 * l.b → IsAdded l.self l.fn.acc l.acc l.row i;
  left : (k : ℕ) → 64 * l.b ≤ k → get_or l.acc k 0 ≡ get_or l.fn.acc k 0;
}
