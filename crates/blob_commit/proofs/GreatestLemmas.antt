-- Shares are cut by greatest powers of two, and so are the hashes of a plain root.
use Rattle.std.proofs.Common.{◌≡◌, ℕ, zero, suc, ◌+◌, ◌-◌, ◌*◌, ◌/◌, ◌%◌, ◌^◌, ◌<◌, ◌≤◌, List, [], ◌∷◌, ◌++◌, length, take, drop, replicate, refl, sym, ap₂, subst, arith, inl, inr, length-drop, take-append-drop}
use Rattle.std.specs.Int.{IsPowerOfTwo}
use Rattle.std.proofs.lemmas.List.{length-take-le}
use Rattle.std.proofs.lemmas.Bool.{cases_lt}
use Rattle.std.proofs.lemmas.Nat.{div-add-mod', pow_pos}
use Rattle.std.proofs.Math.Nat.{pow-suc, mod-lt}
use Rattle.std.proofs.Math.Pow.{pow_mono}
use Rattle.namespace_id.specs.Sizes.{most_leaves, most_depth}
use Rattle.nmt_tree.specs.Roots.{halvings}
use Rattle.nmt_tree.proofs.CountLemmas.{power_halvings}
use Rattle.data_header.specs.DataRoots.{inner_hash}
use Rattle.share_split.specs.Widths.{subtree_width_of}
use Rattle.square_layout.specs.Refusals.{max_shares}
use Rattle.blob_commit.specs.Cuts.{cut_by, cut, IsCut}
use Rattle.blob_commit.specs.Commitments.{root_over, IsSplit, IsPlainRoot, one, more}
use Rattle.blob_commit.proofs.WidthLemmas.{width_count}
use Rattle.blob_commit.proofs.RootLemmas.{root_over-few, root_over-halves}

-- ---- powers of two

-- of what is below twice a power of two, that power is the greatest
power_below : (l n other : ℕ) → n < 2 ^ suc l → IsPowerOfTwo other → other ≤ n → other ≤ 2 ^ l
power_below l n other h power fits =
    elim (cases_lt l power.0) [
      | inl lt ↦
          let up : 2 ^ suc l ≤ 2 ^ power.0 = pow_mono (omega (arith, lt)) in
          absurd (omega (arith, up, power.1, fits, h))
      | inr ge ↦ let up : 2 ^ power.0 ≤ 2 ^ l = pow_mono ge in omega (arith, up, power.1)
    ]

-- a power of two isn't 0
power_some : (n : ℕ) → IsPowerOfTwo n → 0 < n
power_some n power = omega (arith, power.1, pow_pos power.0)

-- ---- cuts

-- pieces of one size, and what is cut of the rest
pieces : (q l n r width : ℕ) → n ≡ q * 2 ^ l + r → r < 2 ^ l → 2 ^ l ≤ width
    → ((other : ℕ) → IsPowerOfTwo other → other ≤ width → other ≤ n → other ≤ 2 ^ l) → IsCut width r (cut_by l r)
    → IsCut width n (replicate q (2 ^ l) ++ cut_by l r)
pieces zero l n r width parts small narrow greatest rest =
    let same : r ≡ n = omega (arith, parts) in subst (λ (m : ℕ). IsCut width m (cut_by l r)) same rest
pieces (suc q) l n r width parts small narrow greatest rest =
    let fewer : n - 2 ^ l ≡ q * 2 ^ l + r = omega (arith, parts) in (
      record {
        power = (l, refl);
        within = narrow;
        fits = omega (arith, parts);
        greatest = greatest;
      },
      pieces q l (n - 2 ^ l) r width fewer small narrow
          (λ other power within fits. greatest other power within (omega (arith, fits))) rest,
    )

-- what is below a power of two
cut_below : (levels n width : ℕ) → n < 2 ^ levels → 2 ^ levels ≤ 2 * width → IsCut width n (cut_by levels n)
unfolding cut_by
cut_below zero n width h wide = omega (arith, h)
cut_below (suc l) n width h wide =
    let two : 2 ^ suc l ≡ 2 ^ l * 2 = pow-suc 2 l in
    let small : n % 2 ^ l < 2 ^ l = mod-lt n (pow_pos l) in
    pieces (n / 2 ^ l) l n (n % 2 ^ l) width (sym (div-add-mod' n (2 ^ l))) small (omega (arith, two, wide))
    (λ other power within fits. power_below l n other h power fits)
    (cut_below l (n % 2 ^ l) width small (omega (arith, two, wide)))

-- as often as the width fits, and then the rest
cut_whole : (l n : ℕ) → IsCut (2 ^ l) n (cut_by (suc l) n)
unfolding cut_by
cut_whole l n =
    let small : n % 2 ^ l < 2 ^ l = mod-lt n (pow_pos l) in
    pieces (n / 2 ^ l) l n (n % 2 ^ l) (2 ^ l) (sym (div-add-mod' n (2 ^ l))) small (omega arith)
    (λ other power within fits. within) (cut_below l (n % 2 ^ l) (2 ^ l) small (omega arith))

-- the subtrees over shares are so cut
pub cut_is : (count : ℕ) → 1 ≤ count → count ≤ max_shares → IsCut (subtree_width_of count) count (cut count)
cut_is count some most =
    subst (λ (width : ℕ). IsCut width count (cut count)) (power_halvings (subtree_width_of count) (width_count count most).0)
    (cut_whole (halvings (subtree_width_of count)) count)

-- and there is one such cut
pub one_cut : (width left : ℕ) (sizes others : List ℕ) → IsCut width left sizes → IsCut width left others → sizes ≡ others
one_cut width left [] [] is are = refl
one_cut width left [] (o ∷ os) is are = absurd (omega (arith, is, are.0.fits, power_some o are.0.power))
one_cut width left (s ∷ ss) [] is are = absurd (omega (arith, are, is.0.fits, power_some s is.0.power))
one_cut width left (s ∷ ss) (o ∷ os) is are =
    let up = is.0.greatest o are.0.power are.0.within are.0.fits in
    let down = are.0.greatest s is.0.power is.0.within is.0.fits in
    let same : s ≡ o = omega (arith, up, down) in
    ap₂ (λ (x : ℕ) (xs : List ℕ). x ∷ xs) same
    (one_cut width (left - s) ss os is.1 (subst (λ (x : ℕ). IsCut width (left - x) os) (sym same) are.1))

-- ---- plain roots

-- of hashes that are at most as many as a power of two
plain : (depth : ℕ) (hashes : List (List ℕ)) → 1 ≤ length hashes → length hashes ≤ 2 ^ depth → IsPlainRoot hashes (root_over depth hashes)
unfolding root_over
plain zero [] some few = absurd (omega (arith, some))
plain zero (hash ∷ []) some few = one hash
plain zero (hash ∷ other ∷ later) some few = absurd (omega (arith, few))
plain (suc d) hashes some few =
    elim (cases_lt (2 ^ d) (length hashes)) [
      | inl many ↦
          let two : 2 ^ suc d ≡ 2 ^ d * 2 = pow-suc 2 d in
          let front : length (take (2 ^ d) hashes) ≡ 2 ^ d = length-take-le (2 ^ d) hashes (omega (arith, many)) in
          let back : length (drop (2 ^ d) hashes) ≡ length hashes - 2 ^ d = length-drop (2 ^ d) hashes in
          let all : length (take (2 ^ d) hashes) + length (drop (2 ^ d) hashes) ≡ length hashes = omega (arith, front, back, many) in
          let split : IsSplit (length (take (2 ^ d) hashes) + length (drop (2 ^ d) hashes)) (length (take (2 ^ d) hashes)) = record {
            power = (d, front);
            below = omega (arith, front, all, many);
            greatest = λ other power below.
                let most : other ≤ 2 ^ d = power_below d (length hashes - 1) other (omega (arith, few, many)) power (omega (arith, below, all)) in
                omega (arith, most, front);
          } in
          subst (IsPlainRoot hashes) (sym (root_over-halves d hashes many))
          (subst (λ (l : List (List ℕ)). IsPlainRoot l (inner_hash (root_over d (take (2 ^ d) hashes)) (root_over d (drop (2 ^ d) hashes))))
          (take-append-drop (2 ^ d) hashes)
          (more (take (2 ^ d) hashes) (drop (2 ^ d) hashes) (root_over d (take (2 ^ d) hashes)) (root_over d (drop (2 ^ d) hashes)) split
          (plain d (take (2 ^ d) hashes) (omega (arith, front, pow_pos d)) (omega (arith, front)))
          (plain d (drop (2 ^ d) hashes) (omega (arith, back, many)) (omega (arith, back, few, two)))))
      | inr small ↦ subst (IsPlainRoot hashes) (sym (root_over-few d hashes small)) (plain d hashes some small)
    ]

-- of up to 1,024
pub plain_root_is : (hashes : List (List ℕ)) → 1 ≤ length hashes → length hashes ≤ most_leaves → IsPlainRoot hashes (root_over most_depth hashes)
plain_root_is hashes some few = plain most_depth hashes some few
