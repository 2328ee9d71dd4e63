-- Neighboring subtrees: the digests of the intervals outside open them.
use Rattle.std.proofs.Common.{◌≡◌, ◌∙◌, ℕ, zero, suc, ◌+◌, ◌-◌, ◌*◌, ◌/◌, ◌%◌, ◌^◌, ◌<◌, ◌≤◌, List, [], ◌∷◌, ◌++◌, length, take, drop, Bool, true, false, cond, ltb, IsTrue, refl, sym, ap, ap₂, subst, inl, inr, arith}
use Rattle.std.proofs.lemmas.Bool.{cases_Bool, cases_lt, eq-eqb, eqb-true, ltb-true, ltb-false}
use Rattle.std.proofs.lemmas.List.{map-append, length-map}
use Rattle.std.proofs.lemmas.Nat.{div-add-mod', pow-add}
use Rattle.std.proofs.lemmas.Slice.Eq.{bytes_eq-Decides}
use Rattle.std.proofs.Math.Nat.{pow-suc, mul_assoc, mul-mod_left, mul-le-mul_right}
use Rattle.std.proofs.Math.Pow.{pow_mono}
use Rattle.namespace_id.specs.declared.digests.Digest.{Digest}
use Rattle.namespace_id.proofs.StringLemmas.{front, behind}
use Rattle.namespace_id.specs.Sizes.{most_depth}
use Rattle.nmt_tree.specs.Digests.{node_digest, is_ordered_join}
use Rattle.nmt_tree.specs.Roots.{is_leaf_count, halvings}
use Rattle.nmt_tree.specs.Levels.{span, HasOrderedJoins}
use Rattle.nmt_tree.proofs.CountLemmas.{leaf_count-pos, leaf_count_power, power_halvings}
use Rattle.nmt_proofs.specs.Parts.{Part, join, digest_of, is_in_order}
use Rattle.nmt_proofs.specs.Openings.{Shown, begun, is_interval, outside, opened, intervals_from, Opens}
use Rattle.nmt_proofs.specs.Places.{AreAligned}
use Rattle.nmt_proofs.specs.Making.{spans, interval_digests}
use Rattle.nmt_proofs.proofs.Agreement.PutLemmas.{left_aligned, right_aligned}
use Rattle.nmt_proofs.proofs.Agreement.MadeLemmas.{IsMade, and_true}

-- ---- multiples

-- the next multiple is no later than any later one
next_multiple : (f m z : ℕ) → f % z ≡ 0 → m % z ≡ 0 → f < m → f + z ≤ m
next_multiple f m z ef em lt =
    let p : ℕ = f / z in
    let q : ℕ = m / z in
    let fs : f ≡ p * z = sym (omega (arith, div-add-mod' f z, ef)) in
    let ms : m ≡ q * z = sym (omega (arith, div-add-mod' m z, em)) in
    elim (cases_lt p q) [
      | inl less ↦ let more : (p + 1) * z ≤ q * z = mul-le-mul_right z (omega (arith, less)) in omega (arith, more, fs, ms)
      | inr no_less ↦ let fewer : q * z ≤ p * z = mul-le-mul_right z no_less in absurd (omega (arith, fewer, fs, ms, lt))
    ]

-- a multiple of a multiple
twice_multiple : (m w z : ℕ) → m % w ≡ 0 → w % z ≡ 0 → m % z ≡ 0
twice_multiple m w z em ew =
    let a : ℕ = m / w in
    let b : ℕ = w / z in
    let ms : m ≡ a * w = sym (omega (arith, div-add-mod' m w, em)) in
    let ws : w ≡ b * z = sym (omega (arith, div-add-mod' w z, ew)) in
    ap (λ (k : ℕ). k % z) (ms ∙ ap (λ (k : ℕ). a * k) ws ∙ sym (mul_assoc a b z)) ∙ mul-mod_left (a * b) z

-- a subtree that is smaller than an interval divides its half
divides_half : (d z : ℕ) → IsTrue (is_leaf_count z) → z < 2 ^ suc d → 2 ^ d % z ≡ 0
divides_half d z count small =
    let h : ℕ = halvings z in
    let power : 2 ^ h ≡ z = power_halvings z count in
    let less : h ≤ d = elim (cases_lt d h) [
      | inl above ↦ let next : suc d ≤ h = omega (arith, above) in let more : 2 ^ suc d ≤ 2 ^ h = pow_mono next in absurd (omega (arith, more, power, small))
      | inr within ↦ within
    ] in
    let sum : d ≡ d - h + h = omega (arith, less) in
    let times : 2 ^ d ≡ 2 ^ (d - h) * z = ap (λ (n : ℕ). 2 ^ n) sum ∙ pow-add 2 (d - h) h ∙ ap (λ (n : ℕ). 2 ^ (d - h) * n) power in
    ap (λ (n : ℕ). n % z) times ∙ mul-mod_left (2 ^ (d - h)) z

-- a subtree that begins before the middle ends at or before it
pub ends_in_half : (d st f z : ℕ) → st % 2 ^ suc d ≡ 0 → IsTrue (is_leaf_count z) → f % z ≡ 0 → z < 2 ^ suc d → f < st + 2 ^ d → f + z ≤ st + 2 ^ d
ends_in_half d st f z aligned count begins small lt =
    let low : suc d - 1 ≡ d = omega arith in
    let half : (st + 2 ^ d) % 2 ^ d ≡ 0 =
    ap (λ (n : ℕ). (st + 2 ^ d) % 2 ^ n) (sym low) ∙ right_aligned (suc d) st (st + 2 ^ d) (omega arith) aligned (ap (λ (n : ℕ). st + 2 ^ n) (sym low)) in
    next_multiple f (st + 2 ^ d) z begins (twice_multiple (st + 2 ^ d) (2 ^ d) z half (divides_half d z count small)) lt

-- ---- subtrees side by side

-- subtrees from a place on, each behind the one before it, end at or before `high`; a fact holds of each
abbrev pub IsTiled : (Shown → Type 0) → ℕ → ℕ → List Shown → Type 0
IsTiled P from high [] = from ≤ high
IsTiled P from high (s ∷ ss) = (s.from ≡ from) × IsTrue (is_leaf_count s.size) × (from % s.size ≡ 0) × P s × IsTiled P (from + s.size) high ss

-- they begin at or behind `low`
pub record IsTiledIn (P : Shown → Type 0) (low high : ℕ) (ss : List Shown) : Type 0 where
  pub from : ℕ
  pub behind_low : low ≤ from
  pub tiled : IsTiled P from high ss

pub tiled-le : (P : Shown → Type 0) (from high : ℕ) (ss : List Shown) → IsTiled P from high ss → from ≤ high
tiled-le P from high [] h = h
tiled-le P from high (s ∷ ss) h = let rest = tiled-le P (from + s.size) high ss h.4 in omega (arith, rest)

-- those before a middle that none of them crosses, and those behind it
tiled-split : (P : Shown → Type 0) (low m high : ℕ) → ((f z : ℕ) → low ≤ f → IsTrue (is_leaf_count z) → f % z ≡ 0 → f + z ≤ high → f < m → f + z ≤ m) → m ≤ high
    → (f : ℕ) (ss : List Shown) → low ≤ f → f ≤ m → IsTiled P f high ss
    → IsTiled P f m (take (begun m ss) ss) × IsTiledIn P m high (drop (begun m ss) ss)
unfolding begun
tiled-split P low m high ends le f [] lo hi h = (hi, record { from = m; behind_low = omega arith; tiled = le })
tiled-split P low m high ends le f (s ∷ ss) lo hi h =
    let Goal : Bool → Type 0 = λ b. IsTiled P f m (take (cond b (suc (begun m ss)) 0) (s ∷ ss)) × IsTiledIn P m high (drop (cond b (suc (begun m ss)) 0) (s ∷ ss)) in
    elim (cases_Bool (ltb s.from m)) [
      | inl t ↦
          let lt : f < m = omega (arith, ltb-true s.from m t, h.0) in
          let within : f + s.size ≤ m = ends f s.size lo h.1 h.2 (tiled-le P (f + s.size) high ss h.4) lt in
          let rest = tiled-split P low m high ends le (f + s.size) ss (omega (arith, lo)) within h.4 in
          subst Goal (sym t) ((h.0, h.1, h.2, h.3, rest.0), rest.1)
      | inr past ↦
          let ge : m ≤ f = omega (arith, ltb-false s.from m past, h.0) in
          subst Goal (sym past) (hi, record { from = f; behind_low = ge; tiled = h })
    ]

-- the halves of an interval that isn't itself the first subtree
pub record TiledHalves (P : Shown → Type 0) (d st : ℕ) (ss : List Shown) : Type 0 where
  pub left : IsTiledIn P st (st + 2 ^ d) (take (begun (st + 2 ^ d) ss) ss)
  pub right : IsTiledIn P (st + 2 ^ d) (st + 2 ^ d + 2 ^ d) (drop (begun (st + 2 ^ d) ss) ss)

pub tiled-halves : (P : Shown → Type 0) (d st from : ℕ) (s : Shown) (ss : List Shown) → suc d ≤ most_depth → st % 2 ^ suc d ≡ 0 → st ≤ from → IsTiled P from (st + 2 ^ suc d) (s ∷ ss)
    → is_interval (suc d) s ≡ false → TiledHalves P d st (s ∷ ss)
unfolding begun is_interval
tiled-halves P d st from s ss deep aligned low h whole =
    let m : ℕ = st + 2 ^ d in
    let twice : 2 ^ suc d ≡ 2 ^ d + 2 ^ d = omega (arith, pow-suc 2 d) in
    let end : st + 2 ^ suc d ≡ m + 2 ^ d = omega (arith, twice) in
    let within : from + s.size ≤ st + 2 ^ suc d = tiled-le P (from + s.size) (st + 2 ^ suc d) ss h.4 in
    let apart : s.size ≡ 2 ^ suc d → ⊥ = λ e. absurd (let x : true ≡ false = sym (eq-eqb s.size (2 ^ suc d) e) ∙ whole in cc) in
    let small : s.size < 2 ^ suc d = elim (cases_lt s.size (2 ^ suc d)) [ inl lt ↦ lt | inr ge ↦ absurd (apart (omega (arith, ge, within, low))) ] in
    let some : 0 < s.size = leaf_count-pos s.size h.1 in
    let Goal : Bool → Type 0 = λ b. (IsTiledIn P st m (take (cond b (suc (begun m ss)) 0) (s ∷ ss))) × (IsTiledIn P m (m + 2 ^ d) (drop (cond b (suc (begun m ss)) 0) (s ∷ ss))) in
    let both : Goal (ltb s.from m) = elim (cases_Bool (ltb s.from m)) [
      | inl t ↦
          let lt : from < m = omega (arith, ltb-true s.from m t, h.0) in
          let first : from + s.size ≤ m = ends_in_half d st from s.size aligned h.1 h.2 small lt in
          let rest = tiled-split P (st + 1) m (m + 2 ^ d)
          (λ f z lo count begins fits before. ends_in_half d st f z aligned count begins (omega (arith, lo, fits, end)) before)
          (omega arith) (from + s.size) ss (omega (arith, low, some)) first (subst (λ (n : ℕ). IsTiled P (from + s.size) n ss) end h.4) in
          subst Goal (sym t) (record { from = from; behind_low = low; tiled = (h.0, h.1, h.2, h.3, rest.0) }, rest.1)
      | inr past ↦
          let ge : m ≤ from = omega (arith, ltb-false s.from m past, h.0) in
          subst Goal (sym past) (
            record { from = st; behind_low = omega arith; tiled = omega arith },
            record { from = from; behind_low = ge; tiled = subst (λ (n : ℕ). IsTiled P from n (s ∷ ss)) end h },
          )
    ] in
    record { left = both.0; right = both.1 }

-- ---- what they and the digests outside make

-- a subtree has the digest over the leaves at its place
abbrev pub IsOf : List Digest → Shown → Type 0
IsOf leaves s = digest_of s.part ≡ span leaves s.from (halvings s.size)

-- and its joins are ordered
abbrev pub IsMadeOf : List Digest → Shown → Type 0
IsMadeOf leaves s = IsOf leaves s × (is_in_order s.part ≡ true)

-- the subtree that is the whole interval
made_whole : (leaves : List Digest) (d st from : ℕ) (s : Shown) (ss : List Shown) → d ≤ most_depth → st ≤ from → IsTiled (IsMadeOf leaves) from (st + 2 ^ d) (s ∷ ss) → s.size ≡ 2 ^ d
    → (digest_of s.part ≡ span leaves st d) × (is_in_order s.part ≡ true)
made_whole leaves d st from s ss deep low h e =
    let within : from + s.size ≤ st + 2 ^ d = tiled-le (IsMadeOf leaves) (from + s.size) (st + 2 ^ d) ss h.4 in
    let place : s.from ≡ st = omega (arith, low, within, e, h.0) in
    (h.3.0 ∙ (λ i. span leaves (place i) (halvings (e i))) ∙ ap (span leaves st) (leaf_count_power d deep).1, h.3.1)

-- such a subtree has the interval's size
pub whole_size : (d : ℕ) (s : Shown) → is_interval (suc d) s ≡ true → s.size ≡ 2 ^ suc d
unfolding is_interval
whole_size d s t = eqb-true s.size (2 ^ suc d) t

made_tiles : (leaves : List Digest) (d st : ℕ) (ss : List Shown) → d ≤ most_depth → st % 2 ^ d ≡ 0 → IsTiledIn (IsMadeOf leaves) st (st + 2 ^ d) ss → HasOrderedJoins leaves st d
    → IsMade leaves d st (opened d st ss (spans leaves (outside d st ss)))
unfolding opened outside HasOrderedJoins span
made_tiles leaves zero st [] deep aligned of j = record { digest = refl; order = refl }
made_tiles leaves zero st (s ∷ ss) deep aligned of j =
    let within = tiled-le (IsMadeOf leaves) (of.from + s.size) (st + 2 ^ 0) ss of.tiled.4 in
    let one : s.size ≡ 2 ^ 0 = omega (arith, within, of.behind_low, leaf_count-pos s.size of.tiled.1) in
    let w = made_whole leaves 0 st of.from s ss (omega arith) of.behind_low of.tiled one in
    record { digest = w.0; order = w.1 }
made_tiles leaves (suc d) st [] deep aligned of j = record { digest = refl; order = refl }
made_tiles leaves (suc d) st (s ∷ ss) deep aligned of j =
    let xs : List Shown = s ∷ ss in
    let m : ℕ = st + 2 ^ d in
    let i : ℕ = begun m xs in
    let lo : List (ℕ × ℕ) = outside d st (take i xs) in
    let ro : List (ℕ × ℕ) = outside d m (drop i xs) in
    let Of : Bool → List Digest → Part = λ b ns. cond b s.part (join (opened d st (take i xs) (take (length lo) ns)) (opened d m (drop i xs) (drop (length lo) ns))) in
    let Goal : Bool → Type 0 = λ b. IsMade leaves (suc d) st (Of b (spans leaves (cond b [] (lo ++ ro)))) in
    elim (cases_Bool (is_interval (suc d) s)) [
      | inl t ↦
          let w = made_whole leaves (suc d) st of.from s ss deep of.behind_low of.tiled (whole_size d s t) in
          subst Goal (sym t) (record { digest = w.0; order = w.1 })
      | inr f ↦
          let halves : TiledHalves (IsMadeOf leaves) d st xs = tiled-halves (IsMadeOf leaves) d st of.from s ss deep aligned of.behind_low of.tiled f in
          let low : suc d - 1 ≡ d = omega arith in
          let al : st % 2 ^ d ≡ 0 = ap (λ (n : ℕ). st % 2 ^ n) (sym low) ∙ left_aligned (suc d) st (omega arith) aligned in
          let ar : m % 2 ^ d ≡ 0 = ap (λ (n : ℕ). m % 2 ^ n) (sym low) ∙ right_aligned (suc d) st m (omega arith) aligned (ap (λ (n : ℕ). st + 2 ^ n) (sym low)) in
          let nodes : spans leaves (lo ++ ro) ≡ spans leaves lo ++ spans leaves ro = map-append (λ (x : ℕ × ℕ). span leaves x.0 x.1) lo ro in
          let count : length (spans leaves lo) ≡ length lo = length-map lo (λ (x : ℕ × ℕ). span leaves x.0 x.1) in
          let l : IsMade leaves d st (opened d st (take i xs) (spans leaves lo)) = made_tiles leaves d st (take i xs) (omega (arith, deep)) al halves.left j.0 in
          let r : IsMade leaves d m (opened d m (drop i xs) (spans leaves ro)) = made_tiles leaves d m (drop i xs) (omega (arith, deep)) ar halves.right j.1 in
          let whole : Of false (spans leaves (lo ++ ro)) ≡ join (opened d st (take i xs) (spans leaves lo)) (opened d m (drop i xs) (spans leaves ro)) =
          ap (Of false) nodes
          ∙ ap₂ (λ (x y : List Digest). join (opened d st (take i xs) x) (opened d m (drop i xs) y)) (front (spans leaves lo) (spans leaves ro) (length lo) count) (behind (spans leaves lo) (spans leaves ro) (length lo) count) in
          subst Goal (sym f) (record {
            digest = ap digest_of whole ∙ ap₂ node_digest l.digest r.digest;
            order = ap is_in_order whole ∙ and_true _ _ _ l.order r.order (ap₂ (λ (x y : Digest). is_ordered_join x y) l.digest r.digest ∙ j.2);
          })
    ]

-- ---- the law

-- neighboring intervals, with the digests over their leaves
pub intervals_tiled : (leaves : List Digest) (from high : ℕ) (sizes : List ℕ) → AreAligned from high sizes → IsTiled (IsMadeOf leaves) from high (intervals_from from sizes (interval_digests leaves from sizes))
unfolding intervals_from interval_digests
intervals_tiled leaves from high [] h = h
intervals_tiled leaves from high (size ∷ sizes) h = (refl, h.0, h.1, (refl, refl), intervals_tiled leaves (from + size) high sizes h.2)

-- the first place is a multiple of each size
pub zero_mod : (n : ℕ) → 0 % n ≡ 0
zero_mod n = let none : 0 ≡ 0 * n = omega arith in ap (λ (k : ℕ). k % n) none ∙ mul-mod_left 0 n

-- are opened by the digests of the intervals outside
pub intervals_open : (d from : ℕ) (leaves : List Digest) (sizes : List ℕ) → d ≤ most_depth → AreAligned from (2 ^ d) sizes → HasOrderedJoins leaves 0 d
    → Opens d (intervals_from from sizes (interval_digests leaves from sizes)) (spans leaves (outside d 0 (intervals_from from sizes (interval_digests leaves from sizes)))) (span leaves 0 d)
intervals_open d from leaves sizes deep aligned joins =
    let ss : List Shown = intervals_from from sizes (interval_digests leaves from sizes) in
    let zero_first : 2 ^ d ≡ 0 + 2 ^ d = omega arith in
    let of : IsTiledIn (IsMadeOf leaves) 0 (0 + 2 ^ d) ss =
    record { from = from; behind_low = omega arith; tiled = subst (λ (n : ℕ). IsTiled (IsMadeOf leaves) from n ss) zero_first (intervals_tiled leaves from (2 ^ d) sizes aligned) } in
    let m : IsMade leaves d 0 (opened d 0 ss (spans leaves (outside d 0 ss))) = made_tiles leaves d 0 ss deep (zero_mod (2 ^ d)) of joins in
    record {
      count = eq-eqb _ _ (length-map (outside d 0 ss) (λ (x : ℕ × ℕ). span leaves x.0 x.1));
      order = m.order;
      value = (bytes_eq-Decides _ _).1 (ap (λ (x : Digest). x.0) m.digest);
    }
