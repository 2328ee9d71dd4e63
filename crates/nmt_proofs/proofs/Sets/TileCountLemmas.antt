-- How many intervals neighboring subtrees leave out.
use Rattle.std.proofs.Common.{◌≡◌, ◌∙◌, ℕ, zero, suc, ◌+◌, ◌*◌, ◌-◌, ◌%◌, ◌^◌, ◌<◌, ◌≤◌, List, [], ◌∷◌, ◌++◌, length, map, take, drop, Bool, true, false, cond, ltb, IsTrue, refl, sym, ap, subst, inl, inr, arith, length-append}
use Rattle.std.proofs.lemmas.Bool.{cases_Bool, cases_lt, eq-eqb, ltb-true, ltb-false, le-ltb, lt-ltb}
use Rattle.std.proofs.lemmas.Nat.{pow_pos}
use Rattle.std.proofs.Math.Nat.{pow-suc}
use Rattle.namespace_id.specs.declared.digests.Digest.{Digest}
use Rattle.namespace_id.specs.Digests.{no_digest}
use Rattle.namespace_id.specs.Sizes.{most_depth}
use Rattle.nmt_tree.specs.Roots.{is_leaf_count}
use Rattle.nmt_tree.proofs.CountLemmas.{leaf_count-pos}
use Rattle.nmt_proofs.specs.Parts.{Part, given}
use Rattle.nmt_proofs.specs.Making.{interval_digests}
use Rattle.nmt_proofs.specs.Openings.{Shown, begun, is_interval, outside, intervals_from}
use Rattle.nmt_proofs.specs.Places.{AreAligned}
use Rattle.nmt_proofs.proofs.Parts.ShadowLemmas.{with_part, outside-parts}
use Rattle.nmt_proofs.proofs.Agreement.PutLemmas.{left_aligned, right_aligned}
use Rattle.nmt_proofs.proofs.Parts.SingleLemmas.{outside_empty}
use Rattle.nmt_proofs.proofs.Sets.SetLemmas.{end_of}
use Rattle.nmt_proofs.proofs.Sets.TileLemmas.{ends_in_half, zero_mod}

-- subtrees side by side, from one place on to another
abbrev pub IsRow : ℕ → ℕ → List Shown → Type 0
IsRow low high [] = low ≡ high
IsRow low high (s ∷ ss) = (s.from ≡ low) × IsTrue (is_leaf_count s.size) × (low % s.size ≡ 0) × IsRow (low + s.size) high ss

row-le : (low high : ℕ) (ss : List Shown) → IsRow low high ss → low ≤ high
row-le low high [] h = omega (arith, h)
row-le low high (s ∷ ss) h = let rest = row-le (low + s.size) high ss h.3 in omega (arith, rest)

-- a row that ends at or before a middle, or is cut there
record IsCut (low m high : ℕ) (ss : List Shown) : Type 0 where
  pub all : high ≤ m → (take (begun m ss) ss ≡ ss) × (drop (begun m ss) ss ≡ [])
  pub cut : m ≤ high → IsRow low m (take (begun m ss) ss) × IsRow m high (drop (begun m ss) ss)

row-cut : (first m high : ℕ) → ((f z : ℕ) → first ≤ f → IsTrue (is_leaf_count z) → f % z ≡ 0 → f + z ≤ high → f < m → f + z ≤ m)
    → (f : ℕ) (ss : List Shown) → first ≤ f → f ≤ m → IsRow f high ss → IsCut f m high ss
unfolding begun
row-cut first m high ends f [] lo hi h = record { all = λ le. (refl, refl); cut = λ le. (omega (arith, h, le, hi), omega (arith, h, le, hi)) }
row-cut first m high ends f (s ∷ ss) lo hi h =
    let Goal : Bool → Type 0 = λ b. (high ≤ m → (take (cond b (suc (begun m ss)) 0) (s ∷ ss) ≡ s ∷ ss) × (drop (cond b (suc (begun m ss)) 0) (s ∷ ss) ≡ []))
    × (m ≤ high → IsRow f m (take (cond b (suc (begun m ss)) 0) (s ∷ ss)) × IsRow m high (drop (cond b (suc (begun m ss)) 0) (s ∷ ss))) in
    let within : f + s.size ≤ high = row-le (f + s.size) high ss h.3 in
    let some : 0 < s.size = leaf_count-pos s.size h.1 in
    let both : Goal (ltb s.from m) = elim (cases_Bool (ltb s.from m)) [
      | inl t ↦
          let lt : f < m = omega (arith, ltb-true s.from m t, h.0) in
          let rest : IsCut (f + s.size) m high ss = row-cut first m high ends (f + s.size) ss (omega (arith, lo)) (ends f s.size lo h.1 h.2 within lt) h.3 in
          subst Goal (sym t) (
            λ le. let r = rest.all le in (ap (λ (l : List Shown). s ∷ l) r.0, r.1),
            λ le. let r = rest.cut le in ((h.0, h.1, h.2, r.0), r.1),
          )
      | inr past ↦
          let ge : m ≤ f = omega (arith, ltb-false s.from m past, h.0) in
          let at : f ≡ m = omega (arith, ge, hi) in
          subst Goal (sym past) (
            λ le. absurd (omega (arith, le, within, some, ge)),
            λ le. (at, subst (λ (n : ℕ). IsRow n high (s ∷ ss)) at h),
          )
    ] in
    record { all = both.0; cut = both.1 }

-- those behind the middle
row-behind : (m low high : ℕ) (ss : List Shown) → m ≤ low → IsRow low high ss → begun m ss ≡ 0
unfolding begun
row-behind m low high [] le h = refl
row-behind m low high (s ∷ ss) le h = ap (λ b. cond b (suc (begun m ss)) 0) (le-ltb s.from m (omega (arith, le, h.0)))

one_outside : (d st : ℕ) (ss : List Shown) → ss ≡ [] → length (outside d st ss) ≡ 1
one_outside d st ss e = ap (λ (l : List Shown). length (outside d st l)) e ∙ ap length (outside_empty d st)

-- a row that begins before the middle of an interval that is none of it
head_cut : (d st low high : ℕ) (s : Shown) (ss : List Shown) → suc d ≤ most_depth → st % 2 ^ suc d ≡ 0 → s.size < 2 ^ suc d → st ≤ low → high ≤ st + 2 ^ suc d → low < st + 2 ^ d
    → IsRow low high (s ∷ ss) → 2 ^ suc d ≡ 2 ^ d + 2 ^ d → IsCut low (st + 2 ^ d) high (s ∷ ss)
unfolding begun
head_cut d st low high s ss deep aligned small lo hi before row twice =
    let m : ℕ = st + 2 ^ d in
    let first : low + s.size ≤ m = ends_in_half d st low s.size aligned row.1 row.2 small before in
    let some : 0 < s.size = leaf_count-pos s.size row.1 in
    let rest : IsCut (low + s.size) m high ss =
    row-cut (st + 1) m high (λ f z at count begins fits lt. ends_in_half d st f z aligned count begins (omega (arith, at, fits, hi)) lt)
    (low + s.size) ss (omega (arith, lo, some)) first row.3 in
    let here : ltb s.from m ≡ true = lt-ltb s.from m (omega (arith, before, row.0)) in
    let Goal : Bool → Type 0 = λ b. (high ≤ m → (take (cond b (suc (begun m ss)) 0) (s ∷ ss) ≡ s ∷ ss) × (drop (cond b (suc (begun m ss)) 0) (s ∷ ss) ≡ []))
    × (m ≤ high → IsRow low m (take (cond b (suc (begun m ss)) 0) (s ∷ ss)) × IsRow m high (drop (cond b (suc (begun m ss)) 0) (s ∷ ss))) in
    let both : Goal (ltb s.from m) = subst Goal (sym here) (
      λ le. let r = rest.all le in (ap (λ (l : List Shown). s ∷ l) r.0, r.1),
      λ le. let r = rest.cut le in ((row.0, row.1, row.2, r.0), r.1),
    ) in
    record { all = both.0; cut = both.1 }

-- a row leaves out at most one interval a level on either side, and none where it reaches that end
pub row_few : (a b d st low high : ℕ) (ss : List Shown) → d ≤ most_depth → st % 2 ^ d ≡ 0 → low < high → st ≤ low → high ≤ st + 2 ^ d → IsRow low high ss
    → (st < low → d ≤ a) → (high < st + 2 ^ d → d ≤ b) → length (outside d st ss) ≤ a + b
unfolding outside is_interval
row_few a b d st low high [] deep aligned some lo hi row left right = absurd (omega (arith, row, some))
row_few a b zero st low high (s ∷ ss) deep aligned some lo hi row left right = omega arith
row_few a b (suc d) st low high (s ∷ ss) deep aligned some lo hi row left right =
    let xs : List Shown = s ∷ ss in
    let m : ℕ = st + 2 ^ d in
    let twice : 2 ^ suc d ≡ 2 ^ d + 2 ^ d = omega (arith, pow-suc 2 d) in
    let Goal : Bool → Type 0 = λ w. length (cond w [] (outside d st (take (begun m xs) xs) ++ outside d m (drop (begun m xs) xs))) ≤ a + b in
    elim (cases_Bool (is_interval (suc d) s)) [
      | inl t ↦ subst Goal (sym t) (omega arith)
      | inr f ↦
          let apart : s.size ≡ 2 ^ suc d → ⊥ = λ e. absurd (let x : true ≡ false = sym (eq-eqb s.size (2 ^ suc d) e) ∙ f in cc) in
          let within : low + s.size ≤ high = row-le (low + s.size) high ss row.3 in
          let small : s.size < 2 ^ suc d = elim (cases_lt s.size (2 ^ suc d)) [ inl lt ↦ lt | inr ge ↦ absurd (apart (omega (arith, ge, within, lo, hi))) ] in
          let low_d : suc d - 1 ≡ d = omega arith in
          let al : st % 2 ^ d ≡ 0 = ap (λ (n : ℕ). st % 2 ^ n) (sym low_d) ∙ left_aligned (suc d) st (omega arith) aligned in
          let ar : m % 2 ^ d ≡ 0 = ap (λ (n : ℕ). m % 2 ^ n) (sym low_d) ∙ right_aligned (suc d) st m (omega arith) aligned (ap (λ (n : ℕ). st + 2 ^ n) (sym low_d)) in
          let sum : length (outside d st (take (begun m xs) xs) ++ outside d m (drop (begun m xs) xs)) ≡ length (outside d st (take (begun m xs) xs)) + length (outside d m (drop (begun m xs) xs)) =
          length-append (outside d st (take (begun m xs) xs)) (outside d m (drop (begun m xs) xs)) in
          subst Goal (sym f) (elim (cases_lt low m) [
            | inr past ↦
                let none : begun m xs ≡ 0 = row-behind m low high xs past row in
                let ls : length (outside d st (take (begun m xs) xs)) ≡ 1 = one_outside d st (take (begun m xs) xs) (ap (λ (n : ℕ). take n xs) none) in
                let rs : length (outside d m (drop (begun m xs) xs)) ≤ d + b =
                subst (λ (n : ℕ). length (outside d m (drop n xs)) ≤ d + b) (sym none)
                (row_few d b d m low high xs (omega (arith, deep)) ar some past (omega (arith, hi, twice)) row (λ lt. omega arith) (λ lt. omega (arith, right (omega (arith, lt, twice))))) in
                let wide : suc d ≤ a = left (omega (arith, past, pow_pos d)) in
                omega (arith, sum, ls, rs, wide)
            | inl before ↦
                let cut : IsCut low m high xs = head_cut d st low high s ss deep aligned small lo hi before row twice in
                elim (cases_lt m high) [
                  | inr all_left ↦
                      let whole = cut.all all_left in
                      let rs : length (outside d m (drop (begun m xs) xs)) ≡ 1 = one_outside d m (drop (begun m xs) xs) whole.1 in
                      let ls : length (outside d st (take (begun m xs) xs)) ≤ a + d =
                      subst (λ (l : List Shown). length (outside d st l) ≤ a + d) (sym whole.0)
                      (row_few a d d st low high xs (omega (arith, deep)) al some lo all_left row (λ lt. omega (arith, left lt)) (λ lt. omega arith)) in
                      let wide : suc d ≤ b = right (omega (arith, all_left, twice, pow_pos d)) in
                      omega (arith, sum, ls, rs, wide)
                  | inl both ↦
                      let halves = cut.cut (omega (arith, both)) in
                      let ls : length (outside d st (take (begun m xs) xs)) ≤ a + 0 =
                      row_few a 0 d st low m (take (begun m xs) xs) (omega (arith, deep)) al before lo (omega arith) halves.0 (λ lt. omega (arith, left lt)) (λ lt. absurd (omega (arith, lt))) in
                      let rs : length (outside d m (drop (begun m xs) xs)) ≤ 0 + b =
                      row_few 0 b d m m high (drop (begun m xs) xs) (omega (arith, deep)) ar both (omega arith) (omega (arith, hi, twice)) halves.1 (λ lt. absurd (omega (arith, lt))) (λ lt. omega (arith, right (omega (arith, lt, twice)))) in
                      omega (arith, sum, ls, rs)
                ]
          ])
    ]

-- ---- neighboring intervals

-- they are a row
intervals_row : (from high : ℕ) (sizes : List ℕ) (ds : List Digest) → length ds ≡ length sizes → AreAligned from high sizes → IsRow from (end_of from sizes) (intervals_from from sizes ds)
unfolding intervals_from
intervals_row from high [] ds e h = refl
intervals_row from high (z ∷ sizes) [] e h = absurd (omega arith)
intervals_row from high (z ∷ sizes) (d ∷ ds) e h = (refl, h.0, h.1, intervals_row (from + z) high sizes ds (omega arith) h.2)

-- they end within
ends_within : (from high : ℕ) (sizes : List ℕ) → AreAligned from high sizes → end_of from sizes ≤ high
ends_within from high [] h = h
ends_within from high (z ∷ sizes) h = ends_within (from + z) high sizes h.2

-- and behind where they begin
ends_behind : (from high : ℕ) (sizes : List ℕ) → AreAligned from high sizes → from ≤ end_of from sizes
ends_behind from high [] h = omega arith
ends_behind from high (z ∷ sizes) h = let rest = ends_behind (from + z) high sizes h.2 in omega (arith, rest)

-- so they leave out at most two intervals a level
pub intervals_few : (d from : ℕ) (sizes : List ℕ) (ds : List Digest) → d ≤ most_depth → 0 < length sizes → length ds ≡ length sizes → AreAligned from (2 ^ d) sizes → length (outside d 0 (intervals_from from sizes ds)) ≤ 2 * most_depth
intervals_few d from [] ds deep some e h = absurd (omega arith)
intervals_few d from (z ∷ sizes) ds deep some e h =
    let behind : from < end_of from (z ∷ sizes) = omega (arith, leaf_count-pos z h.0, ends_behind (from + z) (2 ^ d) sizes h.2) in
    let few = row_few d d d 0 from (end_of from (z ∷ sizes)) (intervals_from from (z ∷ sizes) ds) deep (zero_mod (2 ^ d)) behind (omega arith) (omega (arith, ends_within from (2 ^ d) (z ∷ sizes) h))
    (intervals_row from (2 ^ d) (z ∷ sizes) ds e h) (λ lt. omega arith) (λ lt. omega arith) in
    omega (arith, few, deep)

-- ---- whatever digests are shown

-- intervals with one part in place of each digest
same_intervals : (p : Part) (from : ℕ) (sizes : List ℕ) (ds es : List Digest) → length ds ≡ length sizes → length es ≡ length sizes
    → map (with_part (λ x. p)) (intervals_from from sizes ds) ≡ map (with_part (λ x. p)) (intervals_from from sizes es)
unfolding intervals_from
same_intervals p from [] ds es h k = refl
same_intervals p from (z ∷ sizes) [] es h k = absurd (omega arith)
same_intervals p from (z ∷ sizes) (d ∷ ds) [] h k = absurd (omega arith)
same_intervals p from (z ∷ sizes) (d ∷ ds) (e ∷ es) h k =
    let one : Shown = record { from = from; size = z; part = p } in
    ap (λ (l : List Shown). one ∷ l) (same_intervals p (from + z) sizes ds es (omega arith) (omega arith))

-- the same intervals hold none of them
pub outside_intervals : (d st from : ℕ) (sizes : List ℕ) (ds es : List Digest) → length ds ≡ length sizes → length es ≡ length sizes
    → outside d st (intervals_from from sizes ds) ≡ outside d st (intervals_from from sizes es)
outside_intervals d st from sizes ds es h k =
    sym (outside-parts (λ x. given no_digest) d st (intervals_from from sizes ds)) ∙ ap (outside d st) (same_intervals (given no_digest) from sizes ds es h k)
    ∙ outside-parts (λ x. given no_digest) d st (intervals_from from sizes es)

-- there are as many digests as sizes
pub length-interval_digests : (leaves : List Digest) (from : ℕ) (sizes : List ℕ) → length (interval_digests leaves from sizes) ≡ length sizes
unfolding interval_digests
length-interval_digests leaves from [] = refl
length-interval_digests leaves from (z ∷ sizes) = ap suc (length-interval_digests leaves (from + z) sizes)
