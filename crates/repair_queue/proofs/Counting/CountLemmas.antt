-- How many rows and columns aren't decided.
use Rattle.std.proofs.Common.{◌≡◌, ◌∙◌, ℕ, ◌+◌, ◌<◌, Bool, false, not, sym, ap, arith}
use Rattle.namespace_id.specs.declared.cells.Axis.{Axis}
use Rattle.namespace_id.specs.declared.cells.Axis.TheVariants.{Row, Col}
use Rattle.repair_queue.specs.Counting.{one_if, count_from}
use Rattle.repair_queue.specs.Slots.{Flags, IsFlagged}
use Rattle.repair_queue.proofs.Counting.CountedLemmas.{count_from-same, count_from-more}

-- how many of the first n rows or columns aren't decided
abbrev pub unset_below : ℕ → Flags → Axis → ℕ
unset_below n flag axis = count_from (λ i. not (flag axis i)) 0 n

abbrev pub undecided_count : ℕ → Flags → ℕ
undecided_count n flag = unset_below n flag Row + unset_below n flag Col

module _ (n : ℕ) (old new : Flags) (axis : Axis) (i : ℕ) (flagged : IsFlagged old new axis i) where
  -- of the crossing kind as many as before
  unset_same : (other : Axis) → (other ≡ axis → ⊥) → unset_below n new other ≡ unset_below n old other
  unset_same other apart =
      count_from-same (λ j. not (old other j)) (λ j. not (new other j)) n 0 (λ j low high. ap not (flagged.elsewhere other j (λ x. apart x.0)))

  -- of its kind one less
  unset_falls : i < n → old axis i ≡ false → unset_below n old axis ≡ unset_below n new axis + 1
  unset_falls below off =
      count_from-more (λ j. not (new axis j)) (λ j. not (old axis j)) n 0 i (omega arith) (omega arith) (ap not off)
      (λ j apart. ap not (sym (flagged.elsewhere axis j (λ x. apart x.1))))
      ∙ ap (λ (b : Bool). unset_below n new axis + one_if (not (not b))) flagged.here

-- deciding a row or a column leaves one less that isn't decided
pub undecided-falls : (n : ℕ) (old new : Flags) (axis : Axis) (i : ℕ) → i < n → old axis i ≡ false → IsFlagged old new axis i
    → undecided_count n new < undecided_count n old
undecided-falls n old new Row i below off flagged =
    omega (arith, unset_falls n old new Row i flagged below off, unset_same n old new Row i flagged Col (λ e. cc))
undecided-falls n old new Col i below off flagged =
    omega (arith, unset_falls n old new Col i flagged below off, unset_same n old new Col i flagged Row (λ e. cc))
