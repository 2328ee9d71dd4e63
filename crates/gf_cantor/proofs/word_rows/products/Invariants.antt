use Rattle.std.proofs.Common.{◌≡◌, ℕ, ◌<◌, get_or, drop}
use Rattle.std.specs.Prelude.{bit_xor}
use Rattle.gf_cantor.specs.Field.{combine}
use Rattle.gf_cantor.proofs.RowLemmas.{entries}
use Rattle.gf_cantor.proofs.word_rows.products.Given as goal

-- the sums so far, and those of the rows that are left, make the sums of all rows
abbrev pub invariant-loop-j : goal.invariant-loop-j
invariant-loop-j l = (i : ℕ) → i < 128 → bit_xor (get_or l.sums i 0) (combine (drop l.j (entries i)) l.left) ≡ combine (entries i) l.by
