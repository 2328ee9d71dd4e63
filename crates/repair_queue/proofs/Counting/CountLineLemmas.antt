-- Counting the unknown cells of a row or a column for those that cross it.
use Rattle.std.proofs.Common.{◌≡◌, ◌∙◌, ℕ, ◌+◌, ◌*◌, ◌<◌, List, Bool, true, false, not, refl, sym, ap, subst, inl, inr, arith}
use Rattle.std.proofs.lemmas.Bool.{cases_lt, cases_Bool, true≢false}
use Rattle.namespace_id.specs.declared.cells.Cell.{Cell}
use Rattle.namespace_id.specs.declared.cells.Axis.{Axis}
use Rattle.namespace_id.specs.declared.cells.Axis.TheVariants.{Row, Col}
use Rattle.namespace_id.specs.Cells.{crossing}
use Rattle.axis_roots.specs.Lines.{cell_on}
use Rattle.repair_queue.specs.Slots.{Kept, Flags}
use Rattle.repair_queue.specs.Counting.{one_if}
use Rattle.repair_queue.specs.Counts.{Numbers, IsRaised, AreQueued}
use Rattle.repair_queue.specs.Boards.{is_lined, is_found, found_count, AreCounted}
use Rattle.repair_queue.specs.Keeping.{IsCountedTo}
use Rattle.repair_queue.proofs.Lines.LinedLemmas.{lined_on, found_lined}
use Rattle.repair_queue.proofs.Counting.CountedLemmas.{count_from-lt, crossing_cell}

-- an axis isn't the crossing one
not_crossing : (axis : Axis) → axis ≡ crossing axis → ⊥
not_crossing Row e = absurd cc
not_crossing Col e = absurd cc

-- none at first
pub none_so : (k : ℕ) (slot : Kept) (flag : Flags) (axis : Axis) (i : ℕ) (old : Numbers) (before : List (Axis × ℕ)) → IsCountedTo k slot flag axis i old old before before 0
none_so k slot flag axis i old before = record {
  across = λ pos h. absurd (omega arith);
  later = λ pos h. refl;
  own = λ j. refl;
  queued = record { stay = λ x at. at; come = λ other j few many. absurd (omega arith) };
}

module _ (k : ℕ) (slot : Kept) (flag : Flags) (axis : Axis) (i : ℕ) (old new : Numbers) (before after : List (Axis × ℕ)) (pos : ℕ) (cell : Cell)
    (is : cell ≡ cell_on axis i pos) (so : IsCountedTo k slot flag axis i old new before after pos) where
  -- a known cell isn't counted
  pub known_so : is_found slot flag cell ≡ true → IsCountedTo k slot flag axis i old new before after (pos + 1)
  known_so found = record {
    across = λ p h. elim (cases_lt p pos) [
      | inl earlier ↦ so.across p earlier
      | inr later ↦
          let last : pos ≡ p = omega arith in
          let none : one_if (not (is_found slot flag (cell_on axis i pos))) ≡ 0 = ap (λ (c : Cell). one_if (not (is_found slot flag c))) (sym is) ∙ ap (λ (b : Bool). one_if (not b)) found in
          let here : new (crossing axis) pos ≡ old (crossing axis) pos + one_if (not (is_found slot flag (cell_on axis i pos))) = omega (arith, so.later pos (omega arith), none) in
          subst (λ (q : ℕ). new (crossing axis) q ≡ old (crossing axis) q + one_if (not (is_found slot flag (cell_on axis i q)))) last here
    ];
    later = λ p h. so.later p (omega arith);
    own = so.own;
    queued = so.queued;
  }

  -- an unknown one is
  pub unknown_so : (cross : Axis) (newer : Numbers) (then : List (Axis × ℕ)) → cross ≡ crossing axis → is_found slot flag cell ≡ false → IsRaised new newer cross pos
      → AreQueued k new newer after then → IsCountedTo k slot flag axis i old newer before then (pos + 1)
  unknown_so cross newer then crosses unfound raised_cross queued =
      let raised : IsRaised new newer (crossing axis) pos = subst (λ (a : Axis). IsRaised new newer a pos) crosses raised_cross in
      record {
        across = λ p h. elim (cases_lt p pos) [
          | inl earlier ↦ raised.elsewhere (crossing axis) p (λ x. let e : p ≡ pos = x.1 in absurd (omega arith)) ∙ so.across p earlier
          | inr later ↦
              let last : pos ≡ p = omega arith in
              let one : one_if (not (is_found slot flag (cell_on axis i pos))) ≡ 1 = ap (λ (c : Cell). one_if (not (is_found slot flag c))) (sym is) ∙ ap (λ (b : Bool). one_if (not b)) unfound in
              let here : newer (crossing axis) pos ≡ old (crossing axis) pos + one_if (not (is_found slot flag (cell_on axis i pos))) =
              omega (arith, raised.here, so.later pos (omega arith), one) in
              subst (λ (q : ℕ). newer (crossing axis) q ≡ old (crossing axis) q + one_if (not (is_found slot flag (cell_on axis i q)))) last here
        ];
        later = λ p h. raised.elsewhere (crossing axis) p (λ x. let e : p ≡ pos = x.1 in absurd (omega arith)) ∙ so.later p (omega arith);
        own = λ j. raised.elsewhere axis j (λ x. absurd (not_crossing axis x.0)) ∙ so.own j;
        queued = record {
          stay = λ x at. queued.stay x (so.queued.stay x at);
          come = λ other j few many. elim (cases_lt (new other j) k) [
            | inl less ↦ queued.come other j less many
            | inr enough ↦ queued.stay (other, j) (so.queued.come other j few (omega arith))
          ];
        };
      }

  -- and its crossing row or column isn't known whole
  pub few_so : (cross : Axis) → cross ≡ crossing axis → i < 2 * k → pos < 2 * k → is_found slot flag cell ≡ false → AreCounted k slot flag old → new cross pos < 2 * k
  few_so cross crosses hi hp unfound counted =
      let own : cell_on (crossing axis) pos i ≡ cell = crossing_cell axis i pos ∙ sym is in
      let low : flag (crossing axis) pos ≡ false = elim (cases_Bool (flag (crossing axis) pos)) [
        | inr off ↦ off
        | inl on ↦
            let lined : is_lined flag cell ≡ true = ap (is_lined flag) (sym own) ∙ lined_on flag (crossing axis) pos i on in
            absurd (true≢false (sym (found_lined slot flag cell lined) ∙ unfound))
      ] in
      let few : found_count slot flag (crossing axis) pos (2 * k) < 2 * k =
      count_from-lt (λ p. is_found slot flag (cell_on (crossing axis) pos p)) (2 * k) 0 i (omega arith) (omega arith) (ap (is_found slot flag) own ∙ unfound) in
      subst (λ (a : Axis). new a pos < 2 * k) (sym crosses) (omega (arith, so.later pos (omega arith), counted (crossing axis) pos hp low, few))
