-- What is written into a partial tree: a node, and that no halves are kept of it, nor of the node over it.
use Rattle.std.proofs.Common.{◌≡◌, ◌≢◌, ◌∙◌, ℕ, ◌+◌, ◌-◌, ◌*◌, ◌/◌, ◌<◌, ◌≤◌, List, ◌++◌, length, take, set, replicate, true, false, refl, sym, ap, ap₂, subst, inl, inr, arith, true≢false}
use Rattle.std.proofs.lemmas.Bool.{cases_eq, cases_lt}
use Rattle.std.proofs.lemmas.List.{get_or-set_same, get_or-set_other, length-set, get_or_append_left, get_or-append_right, get_or-replicate, get_or_past, length-replicate, length-append, take_all}
use Rattle.namespace_id.specs.declared.digests.Digest.{Digest}
use Rattle.nmt_tree.specs.Digests.{is_ordered_join, node_digest}
use Rattle.nmt_proofs.specs.declared.partial.Node.{Node}
use Rattle.nmt_proofs.specs.Partial.{no_node, digest_at, is_node_marked, AreHalves, AreJoined, AreUnmarked}

-- a node that is not marked
abbrev pub bare : Digest → Node
bare digest = record { digest = digest; is_joined = false }

-- the nodes where a mark is taken away
abbrev unmarked : List Node → ℕ → List Node
unmarked nodes i = set nodes i (bare (digest_at nodes i))

-- the nodes after a digest was written
abbrev pub written : List Node → ℕ → Digest → List Node
written nodes i digest = unmarked (set nodes i (bare digest)) (i / 2)

-- they are as many
pub length-written : (nodes : List Node) (i : ℕ) (digest : Digest) → length (written nodes i digest) ≡ length nodes
length-written nodes i digest =
    length-set (set nodes i (bare digest)) (i / 2) (bare (digest_at (set nodes i (bare digest)) (i / 2)))
    ∙ length-set nodes i (bare digest)

-- the digests stay where a mark is taken away
digest_at-unmarked : (nodes : List Node) (i j : ℕ) → i < length nodes → digest_at (unmarked nodes i) j ≡ digest_at nodes j
digest_at-unmarked nodes i j h = elim (cases_eq j i) [
  | inl same ↦
      ap (digest_at (unmarked nodes i)) same
      ∙ ap (λ (n : Node). n.digest) (get_or-set_same nodes i (bare (digest_at nodes i)) no_node h)
      ∙ ap (digest_at nodes) (sym same)
  | inr apart ↦ ap (λ (n : Node). n.digest) (get_or-set_other nodes i j (bare (digest_at nodes i)) no_node apart)
]

-- the node over one that is there is there too
half_bound : (nodes : List Node) (i : ℕ) (digest : Digest) → i < length nodes → i / 2 < length (set nodes i (bare digest))
half_bound nodes i digest h = omega (arith, length-set nodes i (bare digest))

-- the digest that was written
pub digest_at-written : (nodes : List Node) (i : ℕ) (digest : Digest) → i < length nodes
    → digest_at (written nodes i digest) i ≡ digest
digest_at-written nodes i digest h =
    digest_at-unmarked (set nodes i (bare digest)) (i / 2) i (half_bound nodes i digest h)
    ∙ ap (λ (n : Node). n.digest) (get_or-set_same nodes i (bare digest) no_node h)

-- and the others
pub digest_at-other : (nodes : List Node) (i : ℕ) (digest : Digest) → i < length nodes → (j : ℕ) → (j ≡ i → ⊥)
    → digest_at (written nodes i digest) j ≡ digest_at nodes j
digest_at-other nodes i digest h j apart =
    digest_at-unmarked (set nodes i (bare digest)) (i / 2) j (half_bound nodes i digest h)
    ∙ ap (λ (n : Node). n.digest) (get_or-set_other nodes i j (bare digest) no_node apart)

-- what is marked beside a bare node was marked
marked_beside : (nodes : List Node) (i j : ℕ) (digest : Digest) → i < length nodes
    → is_node_marked (set nodes i (bare digest)) j ≡ true → (j ≢ i) × (is_node_marked nodes j ≡ true)
marked_beside nodes i j digest h is =
    let apart : j ≢ i = λ (e : j ≡ i).
    true≢false (sym is ∙ ap (is_node_marked (set nodes i (bare digest))) e
    ∙ ap (λ (n : Node). n.is_joined) (get_or-set_same nodes i (bare digest) no_node h)) in
    (apart, ap (λ (n : Node). n.is_joined) (sym (get_or-set_other nodes i j (bare digest) no_node apart)) ∙ is)

-- what is still marked has the halves that it had
pub joined_still : (nodes : List Node) (i : ℕ) (digest : Digest) → i < length nodes → AreJoined nodes
    → AreJoined (written nodes i digest)
joined_still nodes i digest h joined j is =
    let over = marked_beside (set nodes i (bare digest)) (i / 2) j _ (half_bound nodes i digest h) is in
    let was = marked_beside nodes i j digest h over.1 in
    let above : j ≢ i / 2 = over.0 in
    let left : 2 * j ≢ i = λ (e : 2 * j ≡ i). above (omega arith) in
    let right : 2 * j + 1 ≢ i = λ (e : 2 * j + 1 ≡ i). above (omega arith) in
    let el = digest_at-other nodes i digest h (2 * j) left in
    let er = digest_at-other nodes i digest h (2 * j + 1) right in
    let halves : AreHalves nodes j (digest_at nodes j) = joined j was.1 in
    record {
      ordered = ap₂ is_ordered_join el er ∙ halves.ordered;
      value = ap₂ node_digest el er ∙ halves.value ∙ sym (digest_at-other nodes i digest h j was.0);
    }

-- nodes that aren't marked, one as often as one likes
unmarked_copies : (n i : ℕ) (digest : Digest) → is_node_marked (replicate n (bare digest)) i ≡ false
unmarked_copies n i digest = elim (cases_lt i n) [
  | inl below ↦ ap (λ (x : Node). x.is_joined) (get_or-replicate n i (bare digest) no_node below)
  | inr past ↦ ap (λ (x : Node). x.is_joined) (get_or_past (replicate n (bare digest)) i no_node (omega (arith, length-replicate n (bare digest))))
]

-- behind nodes that aren't marked they leave none marked
pub unmarked_behind : (nodes : List Node) (n : ℕ) (digest : Digest) → AreUnmarked nodes → AreUnmarked (nodes ++ replicate n (bare digest))
unmarked_behind nodes n digest none i = elim (cases_lt i (length nodes)) [
  | inl below ↦ ap (λ (x : Node). x.is_joined) (get_or_append_left nodes (replicate n (bare digest)) no_node i below) ∙ none i
  | inr past ↦
      ap (λ (x : Node). x.is_joined) (get_or-append_right nodes (replicate n (bare digest)) (length nodes) i no_node refl past)
      ∙ unmarked_copies n (i - length nodes) digest
]

-- where no node is marked all that are marked are joined
pub unmarked_joined : (nodes : List Node) → AreUnmarked nodes → AreJoined nodes
unmarked_joined nodes none i mark = absurd (true≢false (sym mark ∙ none i))

-- what is there after nodes that aren't marked were written behind the first ones
pub record AreFilled (all : ℕ) (before after : List Node) : Type 0 where
  pub count : length after ≡ all
  pub unmarked : AreUnmarked after
  pub root : digest_at after 1 ≡ digest_at before 1

pub filled : (all len : ℕ) (before : List Node) (digest : Digest) → len ≡ length before → 2 ≤ length before → length before ≤ all → AreUnmarked before
    → AreFilled all before (take all before ++ replicate (all - len) (bare digest))
filled all len before digest same some few none =
    let whole : take all before ≡ before = take_all all before few in
    let row : List Node = replicate (all - len) (bare digest) in
    subst (λ (front : List Node). AreFilled all before (front ++ row)) (sym whole) (record {
      count = omega (arith, same, length-append before row, length-replicate (all - len) (bare digest));
      unmarked = unmarked_behind before (all - len) digest none;
      root = ap (λ (x : Node). x.digest) (get_or_append_left before row no_node 1 (omega arith));
    })
