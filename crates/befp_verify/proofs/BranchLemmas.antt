-- The nodes that openings at their places give together, interval by interval.
use Rattle.std.proofs.Common.{◌≡◌, ◌∙◌, ℕ, zero, suc, ◌+◌, ◌-◌, ◌^◌, ◌<◌, ◌≤◌, List, [], ◌∷◌, ◌++◌, length, take, drop, get_or, cond, ltb, refl, sym, ap, append_assoc, arith}
use Rattle.std.specs.List.{AllByRecursion}
use Rattle.std.proofs.lemmas.Bool.{lt-ltb, le-ltb}
use Rattle.std.proofs.lemmas.List.{take-map, drop-map, drop_all}
use Rattle.namespace_id.specs.declared.digests.Digest.{Digest}
use Rattle.namespace_id.specs.Digests.{no_digest}
use Rattle.nmt_proofs.specs.Openings.{begun}
use Rattle.nmt_proofs.specs.Merging.{leaves_of, merged_nodes}
use Rattle.befp_verify.specs.declared.compacting.Placed.{Placed}
use Rattle.befp_verify.specs.Placed.{placed_of, placed_branches, HasNodes}

-- how many of them begin before a place
abbrev pub before : ℕ → List Placed → ℕ
before m ps = begun m (leaves_of (placed_branches ps))

-- the count from one on: that behind it and one more, if it begins before
before_next : (m : ℕ) (ps : List Placed) (i : ℕ) (d : Placed) → i < length ps
    → before m (drop i ps) ≡ cond (ltb (get_or ps i d).pos m) (suc (before m (drop (suc i) ps))) 0
unfolding begun
before_next m [] i d h = absurd (omega arith)
before_next m (p ∷ ps) zero d h = refl
before_next m (p ∷ ps) (suc i) d h = before_next m ps i d (omega arith)

-- one more begins before the place
pub before_more : (m : ℕ) (ps : List Placed) (i : ℕ) (d : Placed) → i < length ps → (get_or ps i d).pos < m
    → before m ps ≡ i + before m (drop i ps) → before m ps ≡ i + 1 + before m (drop (i + 1) ps)
before_more m ps i d h lt so_far =
    let next : suc i ≡ i + 1 = omega arith in
    let here : before m (drop i ps) ≡ suc (before m (drop (i + 1) ps)) =
    before_next m ps i d h ∙ ap (λ b. cond b (suc (before m (drop (suc i) ps))) 0) (lt-ltb (get_or ps i d).pos m lt) ∙ ap (λ k. suc (before m (drop k ps))) next in
    omega (arith, so_far, here)

-- the first that doesn't
pub before_end : (m : ℕ) (ps : List Placed) (i : ℕ) (d : Placed) → i < length ps → m ≤ (get_or ps i d).pos
    → before m ps ≡ i + before m (drop i ps) → i ≡ before m ps
before_end m ps i d h le so_far =
    let here : before m (drop i ps) ≡ 0 =
    before_next m ps i d h ∙ ap (λ b. cond b (suc (before m (drop (suc i) ps))) 0) (le-ltb (get_or ps i d).pos m le) in
    omega (arith, so_far, here)

-- all do
pub before_past : (m : ℕ) (ps : List Placed) (i : ℕ) → length ps ≤ i → i ≤ length ps → before m ps ≡ i + before m (drop i ps) → length ps ≡ before m ps
unfolding begun
before_past m ps i low high so_far =
    let here : before m (drop i ps) ≡ 0 = ap (before m) (drop_all i ps low) in
    omega (arith, so_far, here)

-- ---- the nodes of an interval

-- that holds none
pub nodes_none : (d st t : ℕ) (g : Digest) (ps : List Placed) → length ps ≡ 0 → merged_nodes d st t g (placed_branches ps) ≡ g ∷ []
unfolding merged_nodes
nodes_none zero st t g [] h = refl
nodes_none (suc d) st t g [] h = refl
nodes_none d st t g (p ∷ ps) h = absurd (omega arith)

-- of one place
pub nodes_one : (d st t : ℕ) (g : Digest) (ps : List Placed) → 0 < length ps → d ≡ 0 → merged_nodes d st t g (placed_branches ps) ≡ []
unfolding merged_nodes
nodes_one d st t g [] h e = absurd (omega arith)
nodes_one zero st t g (p ∷ ps) h e = refl
nodes_one (suc d) st t g (p ∷ ps) h e = absurd (omega arith)

-- of several, by its halves
pub nodes_halved : (d st t m k : ℕ) (g a b : Digest) (o : Placed) (ps l r : List Placed) → 0 < length ps → (d ≡ 0 → ⊥) → m ≡ st + 2 ^ (d - 1) → k ≡ before m ps → l ≡ take k ps → r ≡ drop k ps
    → a ≡ get_or (get_or ps 0 o).opening.path t no_digest → b ≡ get_or (get_or ps 0 o).opening.path (t + (d - 1)) no_digest
    → merged_nodes d st t g (placed_branches ps) ≡ merged_nodes (d - 1) st t a (placed_branches l) ++ merged_nodes (d - 1) m (t + 1) b (placed_branches r)
unfolding merged_nodes
nodes_halved d st t m k g a b o [] l r h several em ek el er ea eb = absurd (omega arith)
nodes_halved zero st t m k g a b o (p ∷ ps) l r h several em ek el er ea eb = absurd (several refl)
nodes_halved (suc d) st t m k g a b o (p ∷ ps) l r h several em ek el er ea eb =
    let low : d ≡ suc d - 1 = omega arith in
    let more : suc t ≡ t + 1 = omega arith in
    let xs : List Placed = p ∷ ps in
    let middle : st + 2 ^ d ≡ m = ap (λ (n : ℕ). st + 2 ^ n) low ∙ sym em in
    let count : before (st + 2 ^ d) xs ≡ k = ap (λ (n : ℕ). before n xs) middle ∙ sym ek in
    let left : take (before (st + 2 ^ d) xs) (placed_branches xs) ≡ placed_branches l = ap (λ (n : ℕ). take n (placed_branches xs)) count ∙ take-map placed_of k xs ∙ ap placed_branches (sym el) in
    let right : drop (before (st + 2 ^ d) xs) (placed_branches xs) ≡ placed_branches r = ap (λ (n : ℕ). drop n (placed_branches xs)) count ∙ drop-map placed_of k xs ∙ ap placed_branches (sym er) in
    (λ i. merged_nodes d st t (get_or p.opening.path t no_digest) (left i) ++ merged_nodes d (middle i) (more i) (get_or p.opening.path (t + d) no_digest) (right i))
    ∙ (λ i. merged_nodes (low i) st t (sym ea i) (placed_branches l) ++ merged_nodes (low i) m (t + 1) ((ap (λ (n : ℕ). get_or p.opening.path (t + n) no_digest) low ∙ sym eb) i) (placed_branches r))

-- ---- how many nodes are there

-- fewer are there too
pub have_fewer : (n k : ℕ) (ps : List Placed) → k ≤ n → AllByRecursion (HasNodes n) ps → AllByRecursion (HasNodes k) ps
have_fewer n k [] le h = tt
have_fewer n k (p ∷ ps) le h = (omega (arith, le, h.0), have_fewer n k ps le h.1)

-- so are those of the first
pub first_has : (n : ℕ) (ps : List Placed) (o : Placed) → 0 < length ps → AllByRecursion (HasNodes n) ps → n ≤ length (get_or ps 0 o).opening.path
first_has n [] o h all = absurd (omega arith)
first_has n (p ∷ ps) o h all = all.0

-- what both halves append
pub joined_nodes : (x y old left right whole : List Digest) → whole ≡ left ++ right → y ≡ old ++ left → x ≡ y ++ right → x ≡ old ++ whole
joined_nodes x y old left right whole e f g = g ∙ ap (λ (l : List Digest). l ++ right) f ∙ append_assoc old left right ∙ ap (λ (l : List Digest). old ++ l) (sym e)
