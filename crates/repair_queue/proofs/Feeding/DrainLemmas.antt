-- Deciding until nothing waits, and a step of a session.
use Rattle.std.proofs.Common.{◌≡◌, ◌∙◌, ℕ, ◌*◌, ◌<◌, ◌≤◌, List, [], ◌∷◌, ◌++◌, Bool, true, false, refl, sym, ap, subst, inl, inr}
use Rattle.std.specs.Prelude.{Option, Some, None, IsNone, is_some}
use Rattle.std.specs.List.{Contains}
use Rattle.namespace_id.specs.declared.cells.Axis.{Axis}
use Rattle.data_header.specs.Headers.{Roots}
use Rattle.axis_roots.specs.declared.message.messages.Message.{Message}
use Rattle.repair_queue.specs.declared.boards.Board.{Board}
use Rattle.repair_queue.specs.declared.counts.Counts.{Counts}
use Rattle.repair_queue.specs.declared.tools.Tools.{Tools}
use Rattle.repair_queue.specs.declared.ending.Ending.{Ending}
use Rattle.repair_queue.specs.Counts.{Numbers, count_of, pending}
use Rattle.repair_queue.specs.Boards.{given_of, decided_of, AreCounted, AreWaiting, AreAtRest, IsGood, HoldsFor}
use Rattle.repair_queue.specs.Tools.{AreTools}
use Rattle.repair_queue.specs.Moves.{IsKeptOn, TakesMessage, DecidesLine, Drains, Steps}
use Rattle.namespace_id.proofs.MemberLemmas.{contains_cons}
use Rattle.repair_queue.proofs.Counting.CountedLemmas.{rest_counted}

-- a look that tells none
pub none_is : {A : Type 0} (x : Option A) (b : Bool) → b ≡ is_some x → b ≡ false → IsNone x
none_is None b test is = refl
none_is (Some y) b test is = absurd (let e : true ≡ false = sym test ∙ is in cc)

-- what ends deciding ends all
pub ends_drains : (header : Roots) (s mid t : Board) (tools : Tools) (result : Option Ending) (b : Bool) → b ≡ is_some result → b ≡ true
    → ((ms : List Message) → HoldsFor header ms s → HoldsFor header ms mid) → DecidesLine header mid t tools result → Drains header s t tools result
ends_drains header s mid t tools (Some ended) b test is holds decides = λ ms stand. decides ms (holds ms stand)
ends_drains header s mid t tools None b test is holds decides = absurd (let e : false ≡ true = sym test ∙ is in cc)

-- a row or column that was decided
pub decided_none : (header : Roots) (s t : Board) (tools : Tools) (result : Option Ending) (b : Bool) → b ≡ is_some result → b ≡ false → DecidesLine header s t tools result
    → IsGood header t × AreTools header.k tools × ((ms : List Message) → HoldsFor header ms s → HoldsFor header ms t)
decided_none header s t tools None b test is decides = decides
decided_none header s t tools (Some ended) b test is decides = absurd (let e : true ≡ false = sym test ∙ is in cc)

-- a row or column that isn't due is passed
pub passed_good : (header : Roots) (b : Board) (counts : Counts) (axis : Axis) (i : ℕ) (rest : List (Axis × ℕ)) → IsGood header b → counts.k ≡ b.counts.k
    → count_of counts ≡ count_of b.counts → pending b.counts ≡ (axis, i) ∷ rest → pending counts ≡ rest
    → (i < 2 * header.k → decided_of b axis i ≡ false → header.k ≤ count_of b.counts axis i → ⊥)
    → IsGood header (record { pool = b.pool; marks = b.marks; counts = counts; grid = b.grid; leaves = b.leaves })
passed_good header b counts axis i rest good width same head tail past = record {
  width = good.width;
  parts = record {
    pool_width = good.parts.pool_width;
    marks_width = good.parts.marks_width;
    counts_width = width ∙ good.parts.counts_width;
    digests = good.parts.digests;
  };
  sound = good.sound;
  leaves = good.leaves;
  counted = subst (λ (c : Numbers). AreCounted header.k (given_of b) (decided_of b) c) (sym same) good.counted;
  queued = λ other j within low many.
      let enough : header.k ≤ count_of b.counts other j = subst (λ (c : Numbers). header.k ≤ c other j) same many in
      let waits : Contains ((axis, i) ∷ rest) (other, j) = subst (λ (l : List (Axis × ℕ)). Contains l (other, j)) head (good.queued other j within low enough) in
      elim (contains_cons (axis, i) (other, j) rest waits) [
        | inl e ↦
            let ea : axis ≡ other = ap (λ (x : Axis × ℕ). x.0) e in
            let ej : i ≡ j = ap (λ (x : Axis × ℕ). x.1) e in
            absurd (past (subst (λ (n : ℕ). n < 2 * header.k) (sym ej) within)
            (ap (λ (a : Axis). decided_of b a i) ea ∙ ap (decided_of b other) ej ∙ low)
            (subst (λ (n : ℕ). header.k ≤ n) (sym (ap (λ (a : Axis). count_of b.counts a i) ea ∙ ap (count_of b.counts other) ej)) enough))
        | inr later ↦ subst (λ (l : List (Axis × ℕ)). Contains l (other, j)) (sym tail) later
      ];
}

-- nothing waits
pub rested : (header : Roots) (b : Board) → IsGood header b → pending b.counts ≡ [] → AreAtRest header.k (given_of b) (decided_of b)
rested header b good none =
    rest_counted header.k (given_of b) (decided_of b) (count_of b.counts) good.counted
    (subst (λ (l : List (Axis × ℕ)). AreWaiting header.k (decided_of b) (count_of b.counts) l) none good.queued)

-- a sample that was taken in
pub taken_none : (header : Roots) (s t : Board) (tools : Tools) (m : Message) (result : Option Ending) (b : Bool) → b ≡ is_some result → b ≡ false
    → TakesMessage header s t tools m result → IsKeptOn header s t m × AreTools header.k tools
taken_none header s t tools m None b test is takes = takes
taken_none header s t tools m (Some ended) b test is takes = absurd (let e : true ≡ false = sym test ∙ is in cc)

-- and what it lets decide
pub steps_of : (header : Roots) (s mid t : Board) (tools : Tools) (m : Message) (result : Option Ending) → IsKeptOn header s mid m → Drains header mid t tools result
    → Steps header s t tools m result
steps_of header s mid t tools m None kept drains = (drains.0, drains.1, drains.2, λ ms stand. drains.3 (ms ++ m ∷ []) (kept.1 ms stand))
steps_of header s mid t tools m (Some ended) kept drains = λ ms stand. drains (ms ++ m ∷ []) (kept.1 ms stand)
