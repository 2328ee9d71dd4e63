-- Openings of single leaves under one root, put together to one opening of all of them.
use Rattle.std.specs.Prelude.{◌≡◌, ℕ, zero, suc, ◌+◌, ◌^◌, List, [], ◌∷◌, ◌++◌, map, take, drop, get_or, None}
use Rattle.std.specs.List.{AllByRecursion}
use Rattle.namespace_id.specs.declared.namespaces.Namespace.{Namespace}
use Rattle.namespace_id.specs.declared.shares.Share.{Share}
use Rattle.namespace_id.specs.declared.digests.Digest.{Digest}
use Rattle.namespace_id.specs.Digests.{no_digest}
use Rattle.nmt_proofs.specs.Parts.{Part, leaf}
use Rattle.nmt_proofs.specs.Openings.{Shown, begun, opened, one_leaf, Opens}
use Rattle.nmt_proofs.specs.Clashes.{clash_at, IsOpening}
use Rattle.nmt_proofs.specs.Places.{AreAscending}

-- an opening of one leaf: its place, what stands there, and the nodes
pub record Branch : Type 0 where
  pub pos : ℕ
  pub name : Namespace
  pub share : Share
  pub nodes : List Digest

-- the tree that a branch opens
abbrev pub branch_tree : ℕ → Branch → Part
branch_tree depth b = opened depth 0 (one_leaf b.pos b.name b.share) b.nodes

-- what branches show, without their nodes
abbrev pub branch_shown : Branch → Shown
branch_shown b = record { from = b.pos; size = 1; part = leaf b.name b.share }

-- their places
abbrev pub places_of_branches : List Branch → List ℕ
places_of_branches branches = map (λ b. b.pos) branches

-- their names
abbrev pub names_of_branches : List Branch → List Namespace
names_of_branches branches = map (λ b. b.name) branches

-- their shares
abbrev pub shares_of_branches : List Branch → List Share
shares_of_branches branches = map (λ b. b.share) branches

-- the leaves of branches, at their places
abbrev pub leaves_of : List Branch → List Shown
leaves_of branches = map branch_shown branches

-- the nodes that open the leaves of branches of an interval, which lies behind `turns` right turns: each interval
-- in it that holds none of them takes its node from the first branch of the interval twice as large; `beside` is
-- the node of the interval itself, for where it holds none
unfoldable pub merged_nodes : ℕ → ℕ → ℕ → Digest → List Branch → List Digest
merged_nodes zero start turns beside [] = beside ∷ []
merged_nodes zero start turns beside (b ∷ branches) = []
merged_nodes (suc depth) start turns beside [] = beside ∷ []
merged_nodes (suc depth) start turns beside (b ∷ branches) =
    merged_nodes depth start turns (get_or b.nodes turns no_digest)
    (take (begun (start + 2 ^ depth) (leaves_of (b ∷ branches))) (b ∷ branches))
    ++ merged_nodes depth (start + 2 ^ depth) (suc turns) (get_or b.nodes (turns + depth) no_digest)
    (drop (begun (start + 2 ^ depth) (leaves_of (b ∷ branches))) (b ∷ branches))

-- a relation holds from one element to the first of a list, and from each to the one after it
abbrev pub HoldsFrom : {A : Type 0} → (A → A → Type 0) → A → List A → Type 0
HoldsFrom R x [] = Unit {0}
HoldsFrom R x (y ∷ ys) = R x y × HoldsFrom R y ys

-- and along a list
abbrev pub HoldsAlong : {A : Type 0} → (A → A → Type 0) → List A → Type 0
HoldsAlong R [] = Unit {0}
HoldsAlong R (x ∷ xs) = HoldsFrom R x xs

-- two branches name no collision
abbrev pub BranchesAgree : ℕ → Branch → Branch → Type 0
BranchesAgree depth x y = clash_at (branch_tree depth x) (branch_tree depth y) ≡ None

-- a branch opens its leaf under the root
pub record IsBranch (depth : ℕ) (root : Digest) (b : Branch) : Type 0 where
  pub opening : IsOpening depth (one_leaf b.pos b.name b.share) b.nodes
  pub opens : Opens depth (one_leaf b.pos b.name b.share) b.nodes root

-- branches at ascending places, each under the root, of which no two neighbors name a collision
pub record AreBranches (depth : ℕ) (root : Digest) (branches : List Branch) : Type 0 where
  pub places : AreAscending 0 (2 ^ depth) (places_of_branches branches)
  pub each : AllByRecursion (IsBranch depth root) branches
  pub alike : HoldsAlong (BranchesAgree depth) branches
