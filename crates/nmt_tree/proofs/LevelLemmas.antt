-- All levels over leaves: written one after another, and read.
use Rattle.std.proofs.Common.{◌≡◌, ◌∙◌, ℕ, zero, suc, ◌+◌, ◌*◌, ◌/◌, ◌%◌, ◌^◌, ◌<◌, ◌≤◌, List, [], ◌∷◌, ◌++◌, length, take, drop, get_or, set, refl, sym, ap, ap₂, arith, IsTrue}
use Rattle.std.proofs.lemmas.List.{get_or-take, take_more, take_more_set, length-take-le, take_all}
use Rattle.std.proofs.Math.Nat.{mul-add, mul-mod_left}
use Rattle.std.proofs.lemmas.Nat.{div-add-mod'}
use Rattle.namespace_id.specs.declared.namespaces.Namespace.{Namespace}
use Rattle.namespace_id.specs.declared.shares.Share.{Share}
use Rattle.namespace_id.specs.declared.digests.Digest.{Digest}
use Rattle.namespace_id.specs.Digests.{no_digest}
use Rattle.namespace_id.proofs.StringLemmas.{front, behind}
use Rattle.nmt_tree.specs.Digests.{leaf_digest}
use Rattle.nmt_tree.specs.Roots.{is_leaf_count, halvings}
use Rattle.nmt_tree.specs.Levels.{leaf_digests, pairs, levels, span}
use Rattle.namespace_id.proofs.PowerLemmas.{power-half, halvings_half, power_halvings}
use Rattle.nmt_tree.proofs.PairLemmas.{length-pairs, span-pairs}

-- one more leaf gives one more digest
pub leaf_digests-append : (ns : List Namespace) (ss : List Share) (n : Namespace) (s : Share) → length ns ≡ length ss
    → leaf_digests (ns ++ n ∷ []) (ss ++ s ∷ []) ≡ leaf_digests ns ss ++ leaf_digest n s ∷ []
unfolding leaf_digests
leaf_digests-append [] [] n s e = refl
leaf_digests-append [] (t ∷ ss) n s e = absurd (omega arith)
leaf_digests-append (m ∷ ns) [] n s e = absurd (omega arith)
leaf_digests-append (m ∷ ns) (t ∷ ss) n s e = ap (λ (l : List Digest). leaf_digest m t ∷ l) (leaf_digests-append ns ss n s (omega arith))

-- one more leaf
pub leaves_more : (ns : List Namespace) (ss : List Share) (ls : List Digest) (i : ℕ) (n : Namespace) (s : Share) (d : Digest) → i < length ns → i < length ss → i < length ls
    → d ≡ leaf_digest (get_or ns i n) (get_or ss i s) → take i ls ≡ leaf_digests (take i ns) (take i ss)
    → take (i + 1) (set ls i d) ≡ leaf_digests (take (i + 1) ns) (take (i + 1) ss)
leaves_more ns ss ls i n s d hn hs hl ed so_far =
    take_more_set ls i d hl
    ∙ ap₂ (λ (l : List Digest) (x : Digest). l ++ x ∷ []) so_far ed
    ∙ sym (ap₂ leaf_digests (take_more ns i n hn) (take_more ss i s hs)
    ∙ leaf_digests-append (take i ns) (take i ss) (get_or ns i n) (get_or ss i s) (length-take-le i ns (omega arith) ∙ sym (length-take-le i ss (omega arith))))

-- a level is followed by those above it
levels-suc : (d e : ℕ) (leaves : List Digest) → d ≡ suc e → levels d leaves ≡ leaves ++ levels e (pairs leaves)
unfolding levels
levels-suc d e leaves h = ap (λ (k : ℕ). levels k leaves) h

-- one leaf is its only level
pub levels_one : (n : ℕ) (leaves : List Digest) → n ≡ 1 → levels (halvings n) leaves ≡ leaves
unfolding levels
levels_one n leaves h = ap (λ (k : ℕ). levels (halvings k) leaves) h

-- a level with those above it
pub levels_step : (n : ℕ) (digests level above rest new : List Digest) → IsTrue (is_leaf_count n) → (n ≡ 1 → ⊥)
    → level ≡ take n digests → above ≡ pairs level → length above ≡ n / 2 → new ≡ levels (halvings (n / 2)) (take (n / 2) (above ++ rest))
    → level ++ new ≡ levels (halvings n) (take n digests)
levels_step n digests level above rest new is several el ea len eq =
    let upper : new ≡ levels (halvings (n / 2)) (pairs level) = eq ∙ ap (levels (halvings (n / 2))) (front above rest (n / 2) len ∙ ea) in
    ap (λ (l : List Digest). level ++ l) upper
    ∙ sym (ap (levels (halvings n)) (sym el) ∙ levels-suc (halvings n) (halvings (n / 2)) level (halvings_half n is several))

-- the first level is that of the leaves
levels-front : (d : ℕ) (leaves : List Digest) → length leaves ≡ 2 ^ d → take (2 ^ d) (levels d leaves) ≡ leaves
unfolding levels
levels-front zero leaves h = take_all (2 ^ 0) leaves (omega arith)
levels-front (suc d) leaves h = front leaves (levels d (pairs leaves)) (2 ^ suc d) h

-- the leaves come first
pub levels_leaves : (n : ℕ) (leaves : List Digest) → IsTrue (is_leaf_count n) → length leaves ≡ n → take n (levels (halvings n) leaves) ≡ leaves
levels_leaves n leaves is len =
    let power : 2 ^ halvings n ≡ n = power_halvings n is in
    sym (ap (λ (k : ℕ). take k (levels (halvings n) leaves)) power) ∙ levels-front (halvings n) leaves (len ∙ sym power)

-- reading a leaf
pub read_leaf : (n from : ℕ) (digests leaves : List Digest) (o : Digest) (size : ℕ) → IsTrue (is_leaf_count n) → size ≡ 1 → from < n → length leaves ≡ n
    → digests ≡ levels (halvings n) leaves → o ≡ no_digest → get_or digests from o ≡ span leaves from (halvings size)
unfolding span
read_leaf n from digests leaves o size is one within len e eo =
    sym (get_or-take n digests from o within)
    ∙ (λ i. get_or ((ap (λ (l : List Digest). take n l) e ∙ levels_leaves n leaves is len) i) from (eo i))
    ∙ ap (λ (k : ℕ). span leaves from (halvings k)) (sym one)

-- half of a multiple of an even number
pub halved_multiple : (from size : ℕ) → size / 2 + size / 2 ≡ size → from % size ≡ 0 → (2 * (from / 2) ≡ from) × (from / 2 % (size / 2) ≡ 0)
halved_multiple from size even aligned =
    let h : ℕ = size / 2 in
    let q : ℕ = from / size in
    let whole : from ≡ q * (h + h) = sym (omega (arith, div-add-mod' from size, aligned)) ∙ ap (λ (k : ℕ). q * k) (sym even) in
    let sum : q * (h + h) ≡ q * h + q * h = mul-add q h h in
    let half : from / 2 ≡ q * h = omega (arith, whole, sum) in
    (omega (arith, whole, sum), ap (λ (k : ℕ). k % h) half ∙ mul-mod_left q h)

-- what reading a higher level asks
pub read_halves : (n from size : ℕ) → IsTrue (is_leaf_count n) → IsTrue (is_leaf_count size) → (size ≡ 1 → ⊥) → from % size ≡ 0 → from + size ≤ n
    → IsTrue (is_leaf_count (n / 2)) × (IsTrue (is_leaf_count (size / 2)) × (from / 2 % (size / 2) ≡ 0 × ((from / 2 + size / 2 ≤ n / 2) × (n / 2 + n / 2 ≡ n))))
read_halves n from size is_n is_size several aligned within =
    let halves = power-half size is_size several in
    let some : 0 < size = halves.1 in
    let even : size / 2 + size / 2 ≡ size = halves.2 in
    let whole = power-half n is_n (λ one. several (omega arith)) in
    let even_n : n / 2 + n / 2 ≡ n = whole.2 in
    let place = halved_multiple from size even aligned in
    (whole.0, (halves.0, (place.1, (omega (arith, place.0), even_n))))

-- reading a higher level
pub read_above : (n from size : ℕ) (digests leaves : List Digest) (result : Digest) → IsTrue (is_leaf_count n) → IsTrue (is_leaf_count size) → (size ≡ 1 → ⊥)
    → from % size ≡ 0 → from + size ≤ n → length leaves ≡ n → digests ≡ levels (halvings n) leaves
    → ((ls : List Digest) → length ls ≡ n / 2 → drop n digests ≡ levels (halvings (n / 2)) ls → result ≡ span ls (from / 2) (halvings (size / 2)))
    → result ≡ span leaves from (halvings size)
read_above n from size digests leaves result is_n is_size several aligned within len e above =
    let halves = power-half size is_size several in
    let some : 0 < size = halves.1 in
    let even : size / 2 + size / 2 ≡ size = halves.2 in
    let more : n ≡ 1 → ⊥ = λ one. several (omega arith) in
    let whole = power-half n is_n more in
    let even_n : n / 2 + n / 2 ≡ n = whole.2 in
    let place = halved_multiple from size even aligned in
    let deeper : halvings size ≡ suc (halvings (size / 2)) = halvings_half size is_size several in
    let power : 2 ^ suc (halvings (size / 2)) ≡ size = sym (ap (λ (k : ℕ). 2 ^ k) deeper) ∙ power_halvings size is_size in
    let rest : drop n digests ≡ levels (halvings (n / 2)) (pairs leaves) =
    ap (λ (l : List Digest). drop n l) (e ∙ levels-suc (halvings n) (halvings (n / 2)) leaves (halvings_half n is_n more))
    ∙ behind leaves (levels (halvings (n / 2)) (pairs leaves)) n len in
    above (pairs leaves) (length-pairs (n / 2) leaves (omega arith)) rest
    ∙ span-pairs (halvings (size / 2)) (from / 2) leaves (omega (arith, place.0, power))
    ∙ ap₂ (λ (j k : ℕ). span leaves j k) place.0 (sym deeper)
