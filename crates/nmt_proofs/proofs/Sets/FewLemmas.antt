-- How many intervals hold none of some single places.
use Rattle.std.proofs.Common.{◌≡◌, ◌∙◌, ℕ, zero, suc, ◌+◌, ◌^◌, ◌<◌, ◌≤◌, List, [], ◌∷◌, ◌++◌, length, take, drop, Bool, false, cond, refl, sym, ap, subst, inl, inr, arith, length-append}
use Rattle.std.proofs.lemmas.Bool.{cases_lt}
use Rattle.std.proofs.lemmas.List.{take-append-drop}
use Rattle.std.proofs.lemmas.Nat.{pow_pos}
use Rattle.std.proofs.Math.Nat.{pow-suc}
use Rattle.namespace_id.specs.declared.namespaces.Namespace.{Namespace}
use Rattle.namespace_id.specs.declared.shares.Share.{Share}
use Rattle.nmt_proofs.specs.Openings.{Shown, begun, is_interval, outside, leaves_at}
use Rattle.nmt_proofs.specs.Clashes.{ArePlacesBetween}
use Rattle.nmt_proofs.specs.Places.{AreAscending}
use Rattle.nmt_proofs.proofs.Parts.BegunLemmas.{places-halves}
use Rattle.nmt_proofs.proofs.Parts.SingleLemmas.{single, outside_empty}
use Rattle.nmt_proofs.proofs.Neighbors.RunLemmas.{outside_one}
use Rattle.nmt_proofs.proofs.Sets.SetLawLemmas.{set_places}

-- an interval of one place leaves itself out, where it isn't shown
flat : (st : ℕ) (ys : List Shown) → (0 < length ys → length (outside 0 st ys) ≡ 0) × (length (outside 0 st ys) ≤ 1)
flat st [] = (λ h. absurd (omega arith), omega (arith, ap length (outside_empty 0 st)))
flat st (y ∷ ys) = (λ h. ap length (outside_one st y ys), omega (arith, ap length (outside_one st y ys)))

-- an interval that holds none is left out
none_left : (d st : ℕ) (ys : List Shown) → length ys ≡ 0 → length (outside d st ys) ≡ 1
none_left d st [] e = ap length (outside_empty d st)
none_left d st (y ∷ ys) e = absurd (omega arith)

-- the intervals outside of one that isn't shown are those of its halves
halves_count : (b : Bool) (left right : List (ℕ × ℕ)) → b ≡ false → length (cond b [] (left ++ right)) ≡ length left + length right
halves_count b left right f = ap (λ (c : Bool). length (cond c [] (left ++ right))) f ∙ length-append left right

-- single places leave out at most half as many intervals as there are places
pub half_few : (d st : ℕ) (ss : List Shown) → 0 < length ss → ArePlacesBetween st (st + 2 ^ suc d) ss → length (outside (suc d) st ss) ≤ 2 ^ d
unfolding outside
half_few d st [] some of = absurd (omega arith)
half_few zero st (s ∷ ss) some of =
    let xs : List Shown = s ∷ ss in
    let m : ℕ = st + 2 ^ 0 in
    let i : ℕ = begun m xs in
    let sum = halves_count (is_interval 1 s) (outside 0 st (take i xs)) (outside 0 m (drop i xs)) (single 0 s of.0) in
    let parts : length (take i xs) + length (drop i xs) ≡ length xs = sym (length-append (take i xs) (drop i xs)) ∙ ap length (take-append-drop i xs) in
    let l = flat st (take i xs) in
    let r = flat m (drop i xs) in
    elim (cases_lt 0 (length (take i xs))) [
      | inl in_left ↦ omega (arith, sum, l.0 in_left, r.1)
      | inr none ↦ omega (arith, sum, l.1, r.0 (omega (arith, parts, none)))
    ]
half_few (suc d) st (s ∷ ss) some of =
    let xs : List Shown = s ∷ ss in
    let m : ℕ = st + 2 ^ suc d in
    let i : ℕ = begun m xs in
    let twice : 2 ^ suc (suc d) ≡ 2 ^ suc d + 2 ^ suc d = omega (arith, pow-suc 2 (suc d)) in
    let half : 2 ^ suc d ≡ 2 ^ d + 2 ^ d = omega (arith, pow-suc 2 d) in
    let end : st + 2 ^ suc (suc d) ≡ m + 2 ^ suc d = omega (arith, twice) in
    let sum = halves_count (is_interval (suc (suc d)) s) (outside (suc d) st (take i xs)) (outside (suc d) m (drop i xs)) (single (suc d) s of.0) in
    let both = places-halves st m (m + 2 ^ suc d) xs (omega arith) (subst (λ (n : ℕ). ArePlacesBetween st n xs) end of) in
    let l : length (outside (suc d) st (take i xs)) ≤ 2 ^ d = elim (cases_lt 0 (length (take i xs))) [
      | inl some_left ↦ half_few d st (take i xs) some_left both.0
      | inr none ↦ omega (arith, none_left (suc d) st (take i xs) (omega (arith, none)), pow_pos d)
    ] in
    let r : length (outside (suc d) m (drop i xs)) ≤ 2 ^ d = elim (cases_lt 0 (length (drop i xs))) [
      | inl some_right ↦ half_few d m (drop i xs) some_right both.1
      | inr none ↦ omega (arith, none_left (suc d) m (drop i xs) (omega (arith, none)), pow_pos d)
    ] in
    omega (arith, sum, l, r, half)

-- a set shows as many leaves as it has places
length-leaves_at : (places : List ℕ) (names : List Namespace) (shares : List Share) → length names ≡ length places → length shares ≡ length places → length (leaves_at places names shares) ≡ length places
unfolding leaves_at
length-leaves_at [] names shares h k = refl
length-leaves_at (p ∷ places) [] shares h k = absurd (omega arith)
length-leaves_at (p ∷ places) (n ∷ names) [] h k = absurd (omega arith)
length-leaves_at (p ∷ places) (n ∷ names) (s ∷ shares) h k = ap suc (length-leaves_at places names shares (omega arith) (omega arith))

-- so a set of places takes at most half as many nodes as there are leaves
pub set_few : (d : ℕ) (places : List ℕ) (names : List Namespace) (shares : List Share) → 0 < length places → length names ≡ length places → length shares ≡ length places
    → AreAscending 0 (2 ^ suc d) places → length (outside (suc d) 0 (leaves_at places names shares)) ≤ 2 ^ d
set_few d places names shares some h k up =
    let zero_first : 2 ^ suc d ≡ 0 + 2 ^ suc d = omega arith in
    half_few d 0 (leaves_at places names shares) (omega (arith, length-leaves_at places names shares h k, some))
    (subst (λ (n : ℕ). ArePlacesBetween 0 n (leaves_at places names shares)) zero_first (set_places 0 (2 ^ suc d) places names shares up))
