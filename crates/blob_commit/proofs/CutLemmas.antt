-- The sizes into which shares are cut.
use Rattle.std.proofs.Common.{◌≡◌, ◌∙◌, ℕ, zero, suc, ◌+◌, ◌-◌, ◌*◌, ◌/◌, ◌%◌, ◌^◌, ◌<◌, ◌≤◌, List, [], ◌∷◌, ◌++◌, length, replicate, sym, ap, subst, arith, inl, inr, length-append, IsTrue}
use Rattle.std.specs.List.{AllByRecursion}
use Rattle.std.proofs.lemmas.List.{length-replicate, append_assoc, append-nil}
use Rattle.std.proofs.lemmas.Bool.{cases_lt}
use Rattle.std.proofs.lemmas.Nat.{div-add-mod', pow_pos}
use Rattle.std.proofs.Math.Nat.{pow-suc, mod-lt, mul-le-mul_right, mul-le-mul_left, min-le_right}
use Rattle.namespace_id.specs.Cells.{is_width}
use Rattle.namespace_id.proofs.WidthLemmas.{is_width-le}
use Rattle.blob_commit.specs.Proofs.{part_of_row}
use Rattle.nmt_tree.specs.Roots.{is_leaf_count, halvings}
use Rattle.std.proofs.Math.Pow.{pow_mono}
use Rattle.nmt_tree.proofs.CountLemmas.{leaf_count_power, power_halvings, leaf_count-pos}
use Rattle.share_split.specs.Widths.{subtree_width_of}
use Rattle.square_layout.specs.Refusals.{max_shares}
use Rattle.namespace_id.specs.Sizes.{greatest_width}
use Rattle.blob_commit.specs.Bounds.{most_halvings, most_levels, most_subtrees}
use Rattle.blob_commit.proofs.WidthLemmas.{width_count}
use Rattle.blob_commit.specs.Cuts.{cut_by, cut, levels_of}
use Rattle.nmt_proofs.proofs.Parts.ListLemmas.{each-append}

-- so often fits a number
pub fits_often : (n w m : ℕ) → 0 < w → n ≤ m * w → n / w ≤ m
fits_often n w m some h =
    elim (cases_lt m (n / w)) [
      | inl lt ↦
          let more : (m + 1) * w ≤ n / w * w = mul-le-mul_right w (omega (arith, lt)) in
          absurd (omega (arith, more, div-add-mod' n w, h, some))
      | inr ge ↦ ge
    ]

-- none up to the greatest width is halved more often
halvings_le : (w : ℕ) → IsTrue (is_leaf_count w) → w ≤ greatest_width → halvings w ≤ most_halvings
halvings_le w count h =
    elim (cases_lt (halvings w) most_levels) [
      | inl lt ↦ omega (arith, lt)
      | inr ge ↦ let up : 2 ^ most_levels ≤ 2 ^ halvings w = pow_mono ge in absurd (omega (arith, up, power_halvings w count, h))
    ]

-- how many shares pieces of these sizes have
abbrev pub total : List ℕ → ℕ
total [] = 0
total (size ∷ sizes) = size + total sizes

pub total-append : (xs ys : List ℕ) → total (xs ++ ys) ≡ total xs + total ys
total-append [] ys = omega arith
total-append (x ∷ xs) ys = omega (arith, total-append xs ys)

pub total-replicate : (n x : ℕ) → total (replicate n x) ≡ n * x
total-replicate zero x = omega arith
total-replicate (suc n) x = omega (arith, total-replicate n x)

-- of less than twice a number at most one fits
one_fits : (n z : ℕ) → 0 < z → n < z * 2 → n / z ≤ 1
one_fits n z some h =
    elim (cases_lt (n / z) 2) [
      | inl lt ↦ omega (arith, lt)
      | inr ge ↦
          let twice : 2 * z ≤ n / z * z = mul-le-mul_right z ge in
          absurd (omega (arith, twice, div-add-mod' n z, h))
    ]

-- below a power of two there is at most one piece a level
pub few_below : (levels n : ℕ) → n < 2 ^ levels → length (cut_by levels n) ≤ levels
unfolding cut_by
few_below zero n h = omega arith
few_below (suc l) n h =
    let some : 0 < 2 ^ l = pow_pos l in
    let one : n / 2 ^ l ≤ 1 = one_fits n (2 ^ l) some (omega (arith, pow-suc 2 l, h)) in
    let rest = few_below l (n % 2 ^ l) (mod-lt n some) in
    omega (arith, one, rest, length-append (replicate (n / 2 ^ l) (2 ^ l)) (cut_by l (n % 2 ^ l)), length-replicate (n / 2 ^ l) (2 ^ l))

-- so there are few, where the widest fits few times
pub few_pieces : (l n : ℕ) → length (cut_by (suc l) n) ≤ n / 2 ^ l + l
unfolding cut_by
few_pieces l n =
    let rest = few_below l (n % 2 ^ l) (mod-lt n (pow_pos l)) in
    omega (arith, rest, length-append (replicate (n / 2 ^ l) (2 ^ l)) (cut_by l (n % 2 ^ l)), length-replicate (n / 2 ^ l) (2 ^ l))

-- there are no more pieces than shares
pub pieces-le : (levels n : ℕ) → length (cut_by levels n) ≤ n
unfolding cut_by
pieces-le zero n = omega arith
pieces-le (suc l) n =
    let z : ℕ = 2 ^ l in
    let some : 0 < z = pow_pos l in
    let times : n / z * 1 ≤ n / z * z = mul-le-mul_left (n / z) some in
    let rest = pieces-le l (n % z) in
    omega (arith, times, rest, div-add-mod' n z, length-append (replicate (n / z) z) (cut_by l (n % z)), length-replicate (n / z) z)

-- nothing is left
pub whole_below : (levels n : ℕ) → n < 2 ^ levels → total (cut_by levels n) ≡ n
unfolding cut_by
whole_below zero n h = omega arith
whole_below (suc l) n h =
    let rest = whole_below l (n % 2 ^ l) (mod-lt n (pow_pos l)) in
    omega (arith, rest, total-append (replicate (n / 2 ^ l) (2 ^ l)) (cut_by l (n % 2 ^ l)), total-replicate (n / 2 ^ l) (2 ^ l), div-add-mod' n (2 ^ l))

pub total-cut : (l n : ℕ) → total (cut_by (suc l) n) ≡ n
unfolding cut_by
total-cut l n =
    let rest = whole_below l (n % 2 ^ l) (mod-lt n (pow_pos l)) in
    omega (arith, rest, total-append (replicate (n / 2 ^ l) (2 ^ l)) (cut_by l (n % 2 ^ l)), total-replicate (n / 2 ^ l) (2 ^ l), div-add-mod' n (2 ^ l))

-- a size of a piece: a count of leaves, at most the greatest width
abbrev pub IsPiece : ℕ → Type 0
IsPiece size = IsTrue (is_leaf_count size) × (size ≤ greatest_width)

-- what holds of one holds of each of so many
each-replicate : {A : Type 0} (P : A → Type 0) (n : ℕ) (x : A) → P x → AllByRecursion P (replicate n x)
each-replicate P zero x h = tt
each-replicate P (suc n) x h = (h, each-replicate P n x h)

-- a power up to the greatest width
power_le : (l : ℕ) → l < most_levels → 2 ^ l ≤ greatest_width
power_le l h =
    let le : l ≤ most_halvings = omega (arith, h) in
    pow_mono le

power_piece : (l : ℕ) → l < most_levels → IsPiece (2 ^ l)
power_piece l h = ((leaf_count_power l (omega (arith, h))).0, power_le l h)

-- each size is one of a piece
pub pieces-cut : (levels n : ℕ) → levels ≤ most_levels → AllByRecursion IsPiece (cut_by levels n)
unfolding cut_by
pieces-cut zero n h = tt
pieces-cut (suc l) n h =
    each-append IsPiece (replicate (n / 2 ^ l) (2 ^ l)) (cut_by l (n % 2 ^ l))
    (each-replicate IsPiece (n / 2 ^ l) (2 ^ l) (power_piece l (omega (arith, h)))) (pieces-cut l (n % 2 ^ l) (omega (arith, h)))

-- ---- level by level

-- below 2 ^ 0 nothing is cut
pub cut_none : (sizes : List ℕ) (levels n : ℕ) → levels ≡ 0 → sizes ≡ sizes ++ cut_by levels n
unfolding cut_by
cut_none sizes zero n h = sym (append-nil sizes)
cut_none sizes (suc l) n h = absurd (omega arith)

-- so many of the widest and then the rest
pub cut_next : (levels n : ℕ) → 0 < levels → cut_by levels n ≡ replicate (n / 2 ^ (levels - 1)) (2 ^ (levels - 1)) ++ cut_by (levels - 1) (n % 2 ^ (levels - 1))
unfolding cut_by
cut_next zero n h = absurd (omega arith)
cut_next (suc l) n h = let low : l ≡ suc l - 1 = omega arith in ap (λ (k : ℕ). replicate (n / 2 ^ k) (2 ^ k) ++ cut_by k (n % 2 ^ k)) low

pub length-next : (levels n : ℕ) → 0 < levels → length (cut_by levels n) ≡ n / 2 ^ (levels - 1) + length (cut_by (levels - 1) (n % 2 ^ (levels - 1)))
length-next levels n h =
    ap length (cut_next levels n h) ∙ length-append (replicate (n / 2 ^ (levels - 1)) (2 ^ (levels - 1))) (cut_by (levels - 1) (n % 2 ^ (levels - 1)))
    ∙ ap (λ (k : ℕ). k + length (cut_by (levels - 1) (n % 2 ^ (levels - 1)))) (length-replicate (n / 2 ^ (levels - 1)) (2 ^ (levels - 1)))

-- their number, by what is handed over
pub count_next : (levels n w rest : ℕ) → 0 < levels → w ≡ 2 ^ (levels - 1) → rest ≡ length (cut_by (levels - 1) (n % w)) → n / w + rest ≡ length (cut_by levels n)
count_next levels n w rest some width is =
    ap (λ (m : ℕ). n / w + m) is ∙ ap (λ (z : ℕ). n / z + length (cut_by (levels - 1) (n % z))) width ∙ sym (length-next levels n some)

-- one more of the widest fits
pub room_more : (old sizes : List ℕ) (levels n w counter : ℕ) → 0 < levels → w ≡ 2 ^ (levels - 1) → length old + length (cut_by levels n) ≤ most_subtrees
    → sizes ≡ old ++ replicate counter w → counter < n / w → length sizes < most_subtrees
room_more old sizes levels n w counter some width room so_far more =
    let count : length sizes ≡ length old + counter = ap length so_far ∙ length-append old (replicate counter w) ∙ ap (λ (k : ℕ). length old + k) (length-replicate counter w) in
    let same : n / w ≡ n / 2 ^ (levels - 1) = ap (λ (k : ℕ). n / k) width in
    omega (arith, count, same, length-next levels n some, room, more)

-- and then for the rest
pub room_rest : (old sizes : List ℕ) (levels n w counter : ℕ) → 0 < levels → w ≡ 2 ^ (levels - 1) → length old + length (cut_by levels n) ≤ most_subtrees
    → sizes ≡ old ++ replicate counter w → counter ≡ n / w → length sizes + length (cut_by (levels - 1) (n % w)) ≤ most_subtrees
room_rest old sizes levels n w counter some width room so_far end =
    let count : length sizes ≡ length old + counter = ap length so_far ∙ length-append old (replicate counter w) ∙ ap (λ (k : ℕ). length old + k) (length-replicate counter w) in
    let same : n / w ≡ n / 2 ^ (levels - 1) = ap (λ (k : ℕ). n / k) width in
    let rest : length (cut_by (levels - 1) (n % w)) ≡ length (cut_by (levels - 1) (n % 2 ^ (levels - 1))) = ap (λ (k : ℕ). length (cut_by (levels - 1) (n % k))) width in
    omega (arith, count, same, rest, length-next levels n some, room, end)

-- that is all
pub all_of : (old sizes new : List ℕ) (levels n w counter : ℕ) → 0 < levels → w ≡ 2 ^ (levels - 1) → sizes ≡ old ++ replicate counter w → counter ≡ n / w
    → new ≡ sizes ++ cut_by (levels - 1) (n % w) → new ≡ old ++ cut_by levels n
all_of old sizes new levels n w counter some width so_far end last =
    last ∙ ap (λ (l : List ℕ). l ++ cut_by (levels - 1) (n % w)) so_far ∙ append_assoc old (replicate counter w) (cut_by (levels - 1) (n % w))
    ∙ ap (λ (l : List ℕ). old ++ l)
    (ap (λ (k : ℕ). replicate k w ++ cut_by (levels - 1) (n % w)) end ∙ ap (λ (k : ℕ). replicate (n / k) k ++ cut_by (levels - 1) (n % k)) width ∙ sym (cut_next levels n some))

-- ---- of a count

-- there are few pieces
pub few-cut : (n : ℕ) → 1 ≤ n → n ≤ max_shares → length (cut n) ≤ most_subtrees
few-cut n some most =
    let w : ℕ = subtree_width_of n in
    let facts = width_count n most in
    let power : 2 ^ halvings w ≡ w = power_halvings w facts.0 in
    let deep : halvings w ≤ most_halvings = halvings_le w facts.0 facts.1 in
    let fits : n / w ≤ greatest_width = fits_often n w greatest_width (leaf_count-pos w facts.0) (omega (arith, facts.2)) in
    let same : n / 2 ^ halvings w ≡ n / w = ap (λ (k : ℕ). n / k) power in
    omega (arith, few_pieces (halvings w) n, deep, fits, same)

-- its levels are few
pub levels_le : (n : ℕ) → 1 ≤ n → n ≤ max_shares → levels_of n ≤ most_levels
levels_le n some most =
    let facts = width_count n most in
    omega (arith, halvings_le (subtree_width_of n) facts.0 facts.1)

-- pieces of shares are some
pub some_pieces : (sizes : List ℕ) → 1 ≤ total sizes → 1 ≤ length sizes
some_pieces [] h = absurd (omega arith)
some_pieces (z ∷ sizes) h = omega arith

-- the pieces of a count have as many shares
pub total-of : (n : ℕ) → total (cut n) ≡ n
total-of n = total-cut (halvings (subtree_width_of n)) n

-- ---- of a row

-- a row has few pieces
pub few_in_row : (k levels at left n : ℕ) → IsTrue (is_width k) → 1 ≤ levels → levels ≤ most_levels → n ≡ part_of_row k at left → length (cut_by levels n) ≤ most_subtrees
few_in_row k levels at left n width some deep e =
    let small : k ≤ greatest_width = is_width-le k width in
    let within : n ≤ k - at % k = subst (λ (m : ℕ). m ≤ k - at % k) (sym e) (min-le_right left (k - at % k)) in
    let l : ℕ = levels - 1 in
    let next : suc l ≡ levels = omega (arith, some) in
    let one : 0 < 2 ^ l = pow_pos l in
    let times : n * 1 ≤ n * 2 ^ l = mul-le-mul_left n one in
    let often : n / 2 ^ l ≤ n = fits_often n (2 ^ l) n one (omega (arith, times)) in
    let few = few_pieces l n in
    let same : length (cut_by levels n) ≡ length (cut_by (suc l) n) = ap (λ (m : ℕ). length (cut_by m n)) (sym next) in
    omega (arith, few, often, same, within, small, deep, next)
