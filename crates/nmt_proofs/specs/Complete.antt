-- When an opening leaves no other place for a namespace (Celestia specifications, "Data Structures", namespace proofs;
-- docs/RULES.md, "Namespace proofs").
use Rattle.std.specs.Prelude.{◌≡◌, ◌≢◌, ◌⊎◌, ◌<◌, ◌≤◌, ℕ, suc, List, [], ◌∷◌, ◌++◌, length, Bool, true, false, nat_lt, Option, Some, None, if◌then◌else◌}
use Rattle.namespace_id.specs.declared.namespaces.Namespace.{Namespace}
use Rattle.namespace_id.specs.declared.shares.Share.{Share}
use Rattle.namespace_id.specs.declared.digests.Digest.{Digest}
use Rattle.namespace_id.specs.Names.{is_below, is_parity}
use Rattle.namespace_id.specs.Digests.{least_of, greatest_of}
use Rattle.nmt_tree.specs.Spans.{name_at}
use Rattle.nmt_proofs.specs.Openings.{outside, leaves_from, one_digest}

-- whether a node leaves no place for the namespace: left of what is opened its greatest namespace is below it,
-- right of that its least is above it
abbrev pub excludes : Namespace → Bool → Digest → Bool
excludes name is_left node = if is_left then is_below (greatest_of node) name else is_below name (least_of node)

-- the number of the first node that leaves a place, none where no node does; what is opened begins at `from`, so an
-- interval that begins before lies left of it
unfoldable pub first_break : Namespace → ℕ → ℕ → List (ℕ × ℕ) → List Digest → Option ℕ
first_break name from number [] nodes = None
first_break name from number (interval ∷ intervals) [] = None
first_break name from number (interval ∷ intervals) (node ∷ nodes) =
    if excludes name (nat_lt interval.0 from) node then first_break name from (suc number) intervals nodes else Some number

-- that of a range of leaves of the namespace
abbrev pub range_break : ℕ → ℕ → Namespace → List Share → List Digest → Option ℕ
range_break depth from name shares nodes =
    first_break name from 0 (outside depth 0 (leaves_from from name shares)) nodes

-- that of an absence: the opened digest counts as one more node, behind the others, and isn't left
abbrev pub absence_break : ℕ → ℕ → Namespace → Digest → List Digest → Option ℕ
absence_break depth pos name leaf nodes =
    first_break name pos 0 (outside depth 0 (one_digest pos leaf) ++ (pos, 0) ∷ []) (nodes ++ leaf ∷ [])

-- the namespaces before one place are below a namespace, and those from another place on are above it
pub record IsBetween (name : Namespace) (names : List Namespace) (from to : ℕ) : Type 0 where
  pub below : (i : ℕ) → i < from → is_below (name_at names i) name ≡ true
  pub above : (i : ℕ) → to ≤ i → i < length names → is_below name (name_at names i) ≡ true

-- the namespaces before one place are below a namespace or PARITY, and those from another place on are above it
pub record StandsBetween (name : Namespace) (names : List Namespace) (from to : ℕ) : Type 0 where
  pub below : (i : ℕ) → i < length names → i < from → is_parity (name_at names i) ≡ false → is_below (name_at names i) name ≡ true
  pub above : (i : ℕ) → to ≤ i → i < length names → is_below name (name_at names i) ≡ true

-- no leaf before one place, and none from another place on, has the namespace
abbrev pub IsNowhereElse : Namespace → List Namespace → ℕ → ℕ → Type 0
IsNowhereElse name names from to =
    (i : ℕ) → i < length names → (i < from) ⊎ (to ≤ i) → name_at names i ≢ name
