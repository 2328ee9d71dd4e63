-- Partial trees: the halves of a node, and what is opened in them.
use Rattle.std.specs.Vec.{with_items}
use Rattle.std.proofs.Common.{◌≡◌, ◌∙◌, ℕ, zero, suc, ◌+◌, ◌-◌, ◌*◌, ◌^◌, ◌≤◌, ◌<◌, List, [], ◌∷◌, length, take, drop, get_or, Bool, ltb, true, false, cond, refl, sym, ap, ap₂, subst, arith, Some, None, Result, length-drop, Vec, Global}
use Rattle.std.proofs.lemmas.Bool.{eq-eqb}
use Rattle.std.proofs.lemmas.Bool.Decides.{nat_tests}
use Rattle.std.specs.Str.{bytes_eq}
use Rattle.std.proofs.lemmas.List.{with_items_is, get_or-drop, take_all, length-take-le}
use Rattle.std.proofs.lemmas.Nat.{pow_pos}
use Rattle.std.proofs.Math.Nat.{pow-suc, mul_assoc, mul_comm}
use Rattle.namespace_id.specs.declared.namespaces.Namespace.{Namespace}
use Rattle.namespace_id.specs.declared.shares.Share.{Share}
use Rattle.namespace_id.specs.declared.digests.Digest.{Digest}
use Rattle.namespace_id.specs.Digests.{no_digest}
use Rattle.namespace_id.specs.Sizes.{most_depth, most_leaves}
use Rattle.nmt_tree.specs.Digests.{is_ordered_join, node_digest, leaf_digest}
use Rattle.nmt_tree.specs.Roots.{halvings}
use Rattle.nmt_proofs.specs.Parts.{given, join, ordered_digest}
use Rattle.nmt_proofs.specs.Openings.{Shown, opened, one_digest, one_leaf, has_count, has_order, has_root}
use Rattle.nmt_proofs.proofs.Parts.SingleLemmas.{opened_left, opened_right, length-outside-one}
use Rattle.nmt_proofs.proofs.Parts.StepLemmas.{twice_half}
use Rattle.nmt_proofs.specs.declared.partial.Node.{Node}
use Rattle.nmt_proofs.specs.Partial.{digest_at, AreHalves, AreJoined, IsPartial, KeepsPartial, RootedTree, rooted_tree}
use Rattle.nmt_proofs.specs.declared.opening.OpenRefusal.{OpenRefusal}
use Rattle.nmt_proofs.specs.Causes.{HasCause}
use Rattle.nmt_proofs.proofs.Parts.PublicLemmas.{same_cause}
use Rattle.nmt_proofs.proofs.Parts.ValueLemmas.{some_ordered}

-- twice as many times half as much
product : (i x : ℕ) → (i + 1) * (x * 2) ≡ (2 * i + 1 + 1) * x
product i x =
    let twice : (i + 1) * 2 ≡ 2 * i + 1 + 1 = omega arith in
    ap (λ (k : ℕ). (i + 1) * k) (mul_comm x 2) ∙ sym (mul_assoc (i + 1) 2 x) ∙ ap (λ (k : ℕ). k * x) twice

-- below the right half of a node are nodes
pub right_bound : (i d n : ℕ) → 0 < d → (i + 1) * 2 ^ d ≤ n → (2 * i + 1 + 1) * 2 ^ (d - 1) ≤ n
right_bound i d n h within =
    let lower : d ≡ suc (d - 1) = omega arith in
    let twice : 2 ^ d ≡ 2 ^ (d - 1) * 2 = ap (λ (k : ℕ). 2 ^ k) lower ∙ pow-suc 2 (d - 1) in
    omega (arith, ap (λ (k : ℕ). (i + 1) * k) twice, product i (2 ^ (d - 1)))

-- and below the left half
pub left_bound : (i d n : ℕ) → 0 < d → (i + 1) * 2 ^ d ≤ n → (2 * i + 1) * 2 ^ (d - 1) ≤ n
left_bound i d n h within =
    let both = right_bound i d n h within in omega arith

-- a number is at most its product
under : (a x : ℕ) → 0 < x → a ≤ a * x
under a zero h = absurd (omega arith)
under a (suc x) h = omega arith

-- both halves of a node are nodes
pub right_index : (i d n : ℕ) → 0 < d → (i + 1) * 2 ^ d ≤ n → 2 * i + 1 < n
right_index i d n h within =
    omega (arith, right_bound i d n h within, under (2 * i + 1 + 1) (2 ^ (d - 1)) (pow_pos (d - 1)))

-- a place of one leaf shows its digest
pub leaf_value : (d st pos : ℕ) (leaf : Digest) (ns : List Digest) → d ≡ 0 → Some leaf ≡ ordered_digest (opened d st (one_digest pos leaf) ns)
unfolding opened ordered_digest
leaf_value zero st pos leaf ns h = refl
leaf_value (suc d) st pos leaf ns h = absurd (omega arith)

-- what is opened at a place in the left half of a node: the last node of the path stands beside
pub left_half : (d st m pos : ℕ) (leaf : Digest) (ns : List Digest) → 0 < d → m ≡ 2 ^ (d - 1) → pos < st + m → length ns ≡ d
    → opened d st (one_digest pos leaf) ns ≡ join (opened (d - 1) st (one_digest pos leaf) (take (length ns - 1) ns)) (given (get_or ns (length ns - 1) no_digest))
left_half zero st m pos leaf ns h em left count = absurd (omega arith)
left_half (suc d) st m pos leaf ns h em left count =
    let low : suc d - 1 ≡ d = omega arith in
    let last : d ≡ length ns - 1 = omega arith in
    let half : m ≡ 2 ^ d = em ∙ ap (λ (k : ℕ). 2 ^ k) low in
    let below : pos < st + 2 ^ d = omega arith in
    let test : ltb pos (st + 2 ^ d) ≡ true = grind (arith, nat_tests) in
    let end : d + 0 ≡ length ns - 1 = omega arith in
    opened_left d st pos (given leaf) ns test
    ∙ ap (λ (x : Digest). join (opened d st (one_digest pos leaf) (take d ns)) (given x))
    (get_or-drop d ns 0 no_digest ∙ ap (λ (k : ℕ). get_or ns k no_digest) end)
    ∙ ap (λ (k : ℕ). join (opened d st (one_digest pos leaf) (take k ns)) (given (get_or ns (length ns - 1) no_digest))) last
    ∙ ap (λ (k : ℕ). join (opened k st (one_digest pos leaf) (take (length ns - 1) ns)) (given (get_or ns (length ns - 1) no_digest))) (sym low)

-- the first of a list is that of its first one
first_one : (ns : List Digest) → get_or (take 1 ns) 0 no_digest ≡ get_or ns 0 no_digest
first_one [] = refl
first_one (n ∷ ns) = refl

-- and at one in the right half: the first node does
pub right_half : (d st m pos : ℕ) (leaf : Digest) (ns : List Digest) → 0 < d → m ≡ 2 ^ (d - 1) → st + m ≤ pos → length ns ≡ d
    → opened d st (one_digest pos leaf) ns ≡ join (given (get_or ns 0 no_digest)) (opened (d - 1) (st + m) (one_digest pos leaf) (take (length ns - 1) (drop 1 ns)))
right_half zero st m pos leaf ns h em right count = absurd (omega arith)
right_half (suc d) st m pos leaf ns h em right count =
    let low : suc d - 1 ≡ d = omega arith in
    let half : m ≡ 2 ^ d = em ∙ ap (λ (k : ℕ). 2 ^ k) low in
    let above : st + 2 ^ d ≤ pos = omega arith in
    let test : ltb pos (st + 2 ^ d) ≡ false = grind (arith, nat_tests) in
    let rest : length (drop 1 ns) ≤ length ns - 1 = omega (arith, length-drop 1 ns) in
    opened_right d st pos (given leaf) ns test
    ∙ ap (λ (x : Digest). join (given x) (opened d (st + 2 ^ d) (one_digest pos leaf) (drop 1 ns))) (first_one ns)
    ∙ ap (λ (x : List Digest). join (given (get_or ns 0 no_digest)) (opened d (st + 2 ^ d) (one_digest pos leaf) x)) (sym (take_all (length ns - 1) (drop 1 ns) rest))
    ∙ ap₂ (λ (k x : ℕ). join (given (get_or ns 0 no_digest)) (opened k (st + x) (one_digest pos leaf) (take (length ns - 1) (drop 1 ns)))) (sym low) (sym half)

-- two halves of an interval fit where it does
pub half_interval : (st d : ℕ) → 0 < d → st + 2 ^ d ≤ most_leaves → st + 2 ^ (d - 1) + 2 ^ (d - 1) ≤ most_leaves
half_interval st d h within = omega (arith, twice_half d h)

-- the left half has the nodes of the path before the last
pub length-front : (ns : List Digest) (d : ℕ) → length ns ≡ d → length (take (length ns - 1) ns) ≡ d - 1
length-front ns d count = length-take-le (length ns - 1) ns (omega arith) ∙ ap (λ (k : ℕ). k - 1) count

-- and the right half those behind the first
pub length-back : (ns : List Digest) (d : ℕ) → length ns ≡ d → length (take (length ns - 1) (drop 1 ns)) ≡ d - 1
length-back ns d count = length-take-le (length ns - 1) (drop 1 ns) (omega (arith, length-drop 1 ns)) ∙ ap (λ (k : ℕ). k - 1) count

-- what a fold asks of a node is so of its left half: a shorter interval, with a node of the path less
pub left_asked : (i d start : ℕ) (nodes : List Node) (path : List Digest) → 0 < d → 0 < i → d ≤ most_depth → start + 2 ^ d ≤ most_leaves
    → (i + 1) * 2 ^ d ≤ length nodes → length nodes ≤ 2 * most_leaves → length path ≡ d → AreJoined nodes
    → (0 < 2 * i) × ((d - 1 ≤ most_depth) × ((start + 2 ^ (d - 1) ≤ most_leaves)
    × (((2 * i + 1) * 2 ^ (d - 1) ≤ length nodes) × ((length nodes ≤ 2 * most_leaves) × ((length (take (length path - 1) path) ≡ d - 1) × (AreJoined nodes))))))
left_asked i d start nodes path deep place few within bound memory count joined =
    let half = half_interval start d deep within in
    (omega arith, (omega arith, (omega arith, (left_bound i d (length nodes) deep bound, (memory, (length-front path d count, joined))))))

-- and of its right half
pub right_asked : (i d start m : ℕ) (nodes : List Node) (path : List Digest) → 0 < d → m ≡ 2 ^ (d - 1) → d ≤ most_depth → start + 2 ^ d ≤ most_leaves
    → (i + 1) * 2 ^ d ≤ length nodes → length nodes ≤ 2 * most_leaves → length path ≡ d → AreJoined nodes
    → (0 < 2 * i + 1) × ((d - 1 ≤ most_depth) × ((start + m + 2 ^ (d - 1) ≤ most_leaves)
    × (((2 * i + 1 + 1) * 2 ^ (d - 1) ≤ length nodes) × ((length nodes ≤ 2 * most_leaves) × ((length (take (length path - 1) (drop 1 path)) ≡ d - 1) × (AreJoined nodes))))))
right_asked i d start m nodes path deep half few within bound memory count joined =
    let halves = half_interval start d deep within in
    (omega arith, (omega arith, (omega (arith, halves, half), (right_bound i d (length nodes) deep bound, (memory, (length-back path d count, joined))))))

-- the node that is kept over its halves is the one over these digests, where they are the halves
pub kept_node : (nodes : List Node) (i : ℕ) (l r : Digest) → AreHalves nodes i (digest_at nodes i) → l ≡ digest_at nodes (2 * i) → r ≡ digest_at nodes (2 * i + 1)
    → Some (digest_at nodes i) ≡ cond (is_ordered_join l r) (Some (node_digest l r)) None
kept_node nodes i l r halves el er =
    sym (ap (λ (t : Bool). cond t (Some (digest_at nodes i)) None) (ap₂ is_ordered_join el er ∙ halves.ordered))
    ∙ ap (λ (x : Digest). cond (is_ordered_join l r) (Some x) None) (sym (ap₂ node_digest el er ∙ halves.value))

-- a place has as many nodes as halvings
pub single_count : (d pos : ℕ) (leaf : Digest) (ns : List Digest) → length ns ≡ d → has_count d (one_digest pos leaf) ns ≡ true
single_count d pos leaf ns count = eq-eqb _ _ (count ∙ sym (length-outside-one d 0 pos (given leaf)))

-- a place that folds to a digest is in order, and is compared with the root
pub single_folded : (d n pos : ℕ) (leaf value kept root : Digest) (ns : List Digest) (t b : Bool) → d ≡ n → length ns ≡ d
    → Some value ≡ ordered_digest (opened d 0 (one_digest pos leaf) ns) → kept ≡ root → t ≡ bytes_eq value.0 kept.0 → t ≡ b
    → (has_count n (one_digest pos leaf) ns ≡ true) × (has_order n (one_digest pos leaf) ns ≡ true) × (has_root n (one_digest pos leaf) ns root ≡ b)
single_folded d n pos leaf value kept root ns t b same count folds stays test is =
    let ordered = some_ordered (opened d 0 (one_digest pos leaf) ns) value folds in (
      single_count n pos leaf ns (count ∙ same),
      ap (λ (k : ℕ). has_order k (one_digest pos leaf) ns) (sym same) ∙ ordered.0,
      ap (λ (k : ℕ). has_root k (one_digest pos leaf) ns root) (sym same)
          ∙ ap (λ (x : Digest). bytes_eq x.0 root.0) (sym ordered.1) ∙ ap (λ (x : Digest). bytes_eq value.0 x.0) (sym stays) ∙ sym test ∙ is,
    )

-- the cause of an answer, in terms of the leaf
pub leaf_cause : (d pos : ℕ) (name : Namespace) (share : Share) (leaf root : Digest) (ns : List Digest) (r : Result (Unit {0}) OpenRefusal) → leaf ≡ leaf_digest name share
    → HasCause r (has_count d (one_digest pos leaf) ns) (has_order d (one_digest pos leaf) ns) (has_root d (one_digest pos leaf) ns root) None
    → HasCause r (has_count d (one_leaf pos name share) ns) (has_order d (one_leaf pos name share) ns) (has_root d (one_leaf pos name share) ns root) None
leaf_cause d pos name share leaf root ns r e h =
    same_cause d (record { from = pos; size = 1; digest = leaf } ∷ []) (one_leaf pos name share) ns root None r
    (ap (λ (x : Digest). let s : Shown = record { from = pos; size = 1; part = given x } in s ∷ []) e) (refl, tt) h

-- and in terms of what contracts see of the partial tree, of which nodes may have been written below the root
pub tree_cause : (tree : RootedTree) (n : ℕ) (kept written nodes : List Node) (pos : ℕ) (name : Namespace) (share : Share) (leaf : Digest) (ns : List Digest) (r : Result (Unit {0}) OpenRefusal)
    → rooted_tree n kept ≡ tree → nodes ≡ written → digest_at written 1 ≡ digest_at kept 1 → leaf ≡ leaf_digest name share
    → HasCause r (has_count (halvings n) (one_digest pos leaf) ns) (has_order (halvings n) (one_digest pos leaf) ns) (has_root (halvings n) (one_digest pos leaf) ns (digest_at nodes 1)) None
    → HasCause r (has_count (halvings tree.count) (one_leaf pos name share) ns) (has_order (halvings tree.count) (one_leaf pos name share) ns)
    (has_root (halvings tree.count) (one_leaf pos name share) ns tree.root) None
tree_cause tree n kept written nodes pos name share leaf ns r seen same root e h =
    let of : RootedTree → Type 0 = λ t. HasCause r (has_count (halvings t.count) (one_leaf pos name share) ns) (has_order (halvings t.count) (one_leaf pos name share) ns)
    (has_root (halvings t.count) (one_leaf pos name share) ns t.root) None in
    subst of (ap (rooted_tree n) same ∙ ap (λ (d : Digest). let t : RootedTree = record { count = n; root = d } in t) root ∙ seen) (leaf_cause (halvings n) pos name share leaf (digest_at nodes 1) ns r e h)

-- all nodes that were lent come back into their list
pub keeps_all : (count : ℕ) (kept : Vec Node Global) (nodes : List Node) → KeepsPartial count kept → IsPartial count kept.items → IsPartial count nodes → KeepsPartial count (with_items kept nodes)
keeps_all count kept nodes keeps before after =
    let size : length nodes ≡ kept.len = after.room ∙ sym before.room ∙ sym kept.ok.0 in
    let back : (with_items kept nodes).items ≡ nodes = with_items_is kept nodes size in
    record {
      is_count = after.is_count;
      capacity = keeps.capacity;
      root = omega (arith, ap length back, after.room, keeps.root, keeps.room);
      room = omega (arith, ap length back, after.room);
      unwritten = λ few. absurd (omega (arith, ap length back, after.room, few));
      joined = subst AreJoined (sym back) after.joined;
    }
