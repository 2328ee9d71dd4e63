-- Positions of a codeword and their points.
use Rattle.std.proofs.Common.{◌≡◌, ◌≢◌, ℕ, zero, suc, ◌*◌, ◌<◌, ◌≤◌, List, [], ◌∷◌, length, get_or, true, refl, arith, IsTrue, ◌-◌, ◌∙◌, sym, ap, inl, inr, length-append}
use Rattle.std.specs.Prelude.{nat_lt, bit_xor, ◌==◌}
use Rattle.std.specs.List.{list_all}
use Rattle.std.proofs.lemmas.Bool.{and_from, and_parts, ltb-true, eqb-true, cases_lt}
use Rattle.std.proofs.lemmas.Bool.Decides.{nat_tests}
use Rattle.gf_cantor.specs.Field.{Field, size}
use Rattle.namespace_id.specs.Lists.{holds_along, ascending}
use Rattle.namespace_id.proofs.TestLemmas.{passes_below, passes_below-at, where_holds, where_holds-true}
use Rattle.lch_fft.specs.Transforms.{is_count}
use Rattle.lch_fft.proofs.CountLemmas.{count-le}
use Rattle.label_polynomial.specs.Polynomial.{value_at, Avoids, ArePoints, PassesThrough}
use Rattle.leopard_code.specs.Codewords.{point, points_at, are_positions, points}
use Rattle.std.proofs.lemmas.List.{get_or_append_left, get_or-append_right}
use Rattle.namespace_id.proofs.AscendingLemmas.{length-ascending, get_or-ascending}

-- the point of a position is below 2k
pub point-lt : (k pos : ℕ) → pos < 2 * k → point k pos < 2 * k
point-lt k pos l = grind (arith, nat_tests)

-- an earlier position has another point
point_apart : (k p q : ℕ) → p < q → q < 2 * k → point k p ≢ point k q
point_apart k p q h l e = grind (arith, nat_tests)

-- what positions say of the first one and of the rest
pub positions_parts : (k p : ℕ) (rest : List ℕ) → IsTrue (are_positions k (p ∷ rest)) → (p < 2 * k) × IsTrue (are_positions k rest)
unfolding holds_along
positions_parts k p [] h =
    let inside = and_parts _ _ (and_parts _ _ h).0 in (ltb-true p (2 * k) inside.0, refl)
positions_parts k p (q ∷ rest) h =
    let both = and_parts _ _ h in
    let inside = and_parts _ _ both.0 in
    let along = and_parts _ _ both.1 in (ltb-true p (2 * k) inside.0, and_from (list_all (λ pos. nat_lt pos (2 * k)) (q ∷ rest)) (holds_along nat_lt (q ∷ rest)) inside.1 along.1)

-- of two positions the second is above the first
pub next_above : (k p q : ℕ) (rest : List ℕ) → IsTrue (are_positions k (p ∷ q ∷ rest)) → p < q
unfolding holds_along
next_above k p q rest h = ltb-true p q (and_parts _ _ (and_parts _ _ h).1).0

-- the point of a position is none of those of later ones
avoids_later : (k m p : ℕ) (rest : List ℕ) → m < p → IsTrue (are_positions k (p ∷ rest)) → Avoids (point k m) (points_at k (p ∷ rest))
unfolding Avoids
avoids_later k m p [] h positions = (point_apart k m p h (positions_parts k p [] positions).0, tt)
avoids_later k m p (q ∷ rest) h positions =
    let parts = positions_parts k p (q ∷ rest) positions in
    let further : p < q = next_above k p q rest positions in
    (point_apart k m p h parts.0, avoids_later k m q rest (omega arith) parts.1)

-- the point of the first position is none of the others
avoids_rest : (k p : ℕ) (rest : List ℕ) → IsTrue (are_positions k (p ∷ rest)) → Avoids (point k p) (points_at k rest)
unfolding Avoids
avoids_rest k p [] positions = tt
avoids_rest k p (q ∷ rest) positions =
    avoids_later k p q rest (next_above k p q rest positions) (positions_parts k p (q ∷ rest) positions).1

-- the points of different positions are different
pub points_differ : (f : Field) (k : ℕ) (known : List ℕ) → 2 * k ≤ size f → IsTrue (are_positions k known) → ArePoints f (points_at k known)
unfolding ArePoints
points_differ f k [] few positions = tt
points_differ f k (p ∷ rest) few positions =
    let parts = positions_parts k p rest positions in
    (omega (arith, point-lt k p parts.0), avoids_rest k p rest positions, points_differ f k rest few parts.1)

-- each position is below 2k
pub position-lt : (k : ℕ) (known : List ℕ) (i : ℕ) → i < length known → IsTrue (are_positions k known) → get_or known i 0 < 2 * k
position-lt k [] i h positions = absurd (omega arith)
position-lt k (p ∷ rest) zero h positions = (positions_parts k p rest positions).0
position-lt k (p ∷ rest) (suc i) h positions = position-lt k rest i (omega arith) (positions_parts k p rest positions).1

-- the values that a polynomial takes, place by place
pub takes-at : (f : Field) (cs xs ys : List ℕ) (i : ℕ) → i < length xs → PassesThrough f cs xs ys → value_at f cs (get_or xs i 0) ≡ get_or ys i 0
unfolding PassesThrough
takes-at f cs [] ys i h takes = absurd (omega arith)
takes-at f cs (x ∷ xs) [] i h takes = elim takes [ ]
takes-at f cs (x ∷ xs) (y ∷ ys) zero h takes = takes.0
takes-at f cs (x ∷ xs) (y ∷ ys) (suc i) h takes = takes-at f cs xs ys i (omega arith) takes.1

-- a polynomial that takes each value takes the list
pub takes_each : (f : Field) (cs xs ys : List ℕ) → length xs ≡ length ys → ((i : ℕ) → i < length xs → value_at f cs (get_or xs i 0) ≡ get_or ys i 0) → PassesThrough f cs xs ys
unfolding PassesThrough
takes_each f cs [] [] same h = tt
takes_each f cs [] (y ∷ ys) same h = absurd (omega arith)
takes_each f cs (x ∷ xs) [] same h = absurd (omega arith)
takes_each f cs (x ∷ xs) (y ∷ ys) same h = (h 0 (omega arith), takes_each f cs xs ys (omega arith) (λ i l. h (suc i) (omega arith)))

-- a test of all positions where twice the width is the length of a transform
moved_test : passes_below 513 (λ k. where_holds (is_count (2 * k)) (passes_below (2 * k) (λ pos. point k pos == bit_xor pos k))) ≡ true
unfolding passes_below
moved_test = refl

-- the point of a position is the sum of the position and k
pub point_moved : (k pos : ℕ) → IsTrue (is_count (2 * k)) → pos < 2 * k → point k pos ≡ bit_xor pos k
point_moved k pos count h =
    let test =
    passes_below-at 513 (λ m. where_holds (is_count (2 * m)) (passes_below (2 * m) (λ pos. point m pos == bit_xor pos m))) moved_test k (omega (arith, count-le (2 * k) count)) in
    eqb-true _ _ (passes_below-at (2 * k) (λ pos. point k pos == bit_xor pos k)
    (where_holds-true (is_count (2 * k)) (passes_below (2 * k) (λ pos. point k pos == bit_xor pos k)) test count) pos h)

-- there are as many points as positions
pub length-points_at : (k : ℕ) (known : List ℕ) → length (points_at k known) ≡ length known
length-points_at k [] = refl
length-points_at k (p ∷ known) = ap suc (length-points_at k known)

-- the points of all positions, one after another
pub get_or-points : (k pos : ℕ) → pos < 2 * k → get_or (points k) pos 0 ≡ point k pos
unfolding points
get_or-points k pos h = elim (cases_lt pos k) [
  | inl lt ↦ get_or_append_left (ascending k k) (ascending 0 k) 0 pos (omega (arith, length-ascending k k)) ∙ get_or-ascending k k pos lt ∙ grind (arith, nat_tests)
  | inr le ↦
      get_or-append_right (ascending k k) (ascending 0 k) k pos 0 (length-ascending k k) le
      ∙ get_or-ascending k 0 (pos - k) (omega arith) ∙ grind (arith, nat_tests)
]

-- a codeword has 2k points
pub length-points : (k : ℕ) → length (points k) ≡ 2 * k
unfolding points
length-points k = omega (arith, length-append (ascending k k) (ascending 0 k), length-ascending k k, length-ascending k 0)

-- the value at a position's point is the label there
pub value_at_position : (f : Field) (k pos : ℕ) (cs ys : List ℕ) → pos < 2 * k → PassesThrough f cs (points k) ys → value_at f cs (point k pos) ≡ get_or ys pos 0
value_at_position f k pos cs ys h takes =
    ap (value_at f cs) (sym (get_or-points k pos h)) ∙ takes-at f cs (points k) ys pos (omega (arith, length-points k)) takes
