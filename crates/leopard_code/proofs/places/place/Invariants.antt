use Rattle.std.proofs.Common.{◌≡◌, ◌≢◌, ℕ, ◌<◌, get_or}
use Rattle.std.specs.Prelude.{slice_get}
use Rattle.leopard_code.proofs.places.place.Given as goal

-- the shares so far stand at their positions, and the other positions are as they were
abbrev pub invariant-loop-i : goal.invariant-loop-i
invariant-loop-i l = record {
  known : (j : ℕ) → j < l.i → slice_get l.all (get_or l.known j 0) ≡ slice_get l.shares j;
  others : (pos : ℕ) → ((j : ℕ) → j < l.i → get_or l.known j 0 ≢ pos) → slice_get l.all pos ≡ slice_get l.fn.all pos;
}
