-- The openings along the axis of a claim that is accepted and has no set.
use Rattle.std.proofs.Common.{◌≡◌, ◌∙◌, ℕ, zero, suc, ◌+◌, ◌*◌, ◌^◌, ◌<◌, List, [], ◌∷◌, length, map, Bool, true, false, cond, refl, sym, ap, subst, inl, inr, arith}
use Rattle.std.specs.Prelude.{Option, Some, None}
use Rattle.std.specs.Option.{is_some}
use Rattle.std.specs.List.{AllByRecursion, Contains, list_any}
use Rattle.std.proofs.lemmas.Bool.{cases_Bool}
use Rattle.namespace_id.specs.declared.cells.Axis.{Axis}
use Rattle.namespace_id.specs.declared.digests.Digest.{Digest}
use Rattle.namespace_id.specs.Cells.{is_width, is_in_square, leaf_namespace}
use Rattle.namespace_id.proofs.PowerLemmas.{double_halvings}
use Rattle.nmt_tree.specs.Roots.{halvings}
use Rattle.nmt_proofs.specs.Openings.{opened, one_leaf}
use Rattle.nmt_proofs.specs.Clashes.{clash_at}
use Rattle.nmt_proofs.specs.Places.{AreAscending}
use Rattle.nmt_proofs.specs.Merging.{Branch, branch_tree, IsBranch, places_of_branches}
use Rattle.nmt_proofs.proofs.Agreement.TwinLemmas.{length-nodes}
use Rattle.hash_clash.specs.Collisions.{Strings}
use Rattle.data_header.specs.Headers.{Roots}
use Rattle.axis_roots.specs.declared.message.messages.Message.{Message}
use Rattle.axis_roots.specs.Messages.{position}
use Rattle.axis_roots.specs.Openings.{IsProved}
use Rattle.axis_roots.specs.Own.{opened_by}
use Rattle.axis_roots.specs.Sets.{is_along, along_in}
use Rattle.axis_roots.specs.Claims.{ClaimParts, ShowsBad, claimed_root, Accepts}
use Rattle.axis_roots.proofs.Messages.ClaimLemmas.{shape_of}
use Rattle.axis_roots.proofs.Messages.ProofLemmas.{plain_accepted}
use Rattle.axis_roots.proofs.Messages.SetLemmas.{each_by}
use Rattle.befp_verify.specs.declared.compacting.Placed.{Placed}
use Rattle.befp_verify.specs.Placed.{placed_branches, HasNodes, AreUnderOne, NamesTwoOf}
use Rattle.befp_verify.specs.Compacting.{is_compacted, branch_of, branches_of, NamesTwo}
use Rattle.befp_verify.proofs.CompactLemmas.{one_axis, are_branches, branch_places}

-- a claim that isn't compact has no set, and a cell along its axis
pub wide_claim : (claim : ClaimParts) → is_compacted claim ≡ false → (claim.set ≡ None) × (list_any (is_along claim.axis) claim.cells ≡ true)
wide_claim claim e = parts claim.set (list_any (is_along claim.axis) claim.cells) e
  where
    parts : (set : Option (List Digest)) (b : Bool) → cond (is_some set) true (cond b false true) ≡ false → (set ≡ None) × (b ≡ true)
    parts None true e = (refl, refl)
    parts None false e = absurd (let x : true ≡ false = e in cc)
    parts (Some nodes) b e = absurd (let x : true ≡ false = e in cc)

-- its cells are proved, and so are in the square
pub wide_proved : (header : Roots) (claim : ClaimParts) → Accepts header claim → is_compacted claim ≡ false → AllByRecursion (IsProved header) claim.cells × ShowsBad header.k claim (claimed_root header claim)
wide_proved header claim accepts wide = (plain_accepted header claim (wide_claim claim wide).0).1 accepts

pub wide_inside : (header : Roots) (claim : ClaimParts) → Accepts header claim → is_compacted claim ≡ false → AllByRecursion (λ m. is_in_square header.k m.cell ≡ true) claim.cells
wide_inside header claim accepts wide = each_by (IsProved header) (λ m. is_in_square header.k m.cell ≡ true) claim.cells (λ m p. p.inside) (wide_proved header claim accepts wide).0

-- ascending places are below the end
below_end : (low high : ℕ) (ps : List Placed) → AreAscending low high (places_of_branches (placed_branches ps)) → AllByRecursion (λ p. p.pos < high) ps
below_end low high [] h = tt
below_end low high (p ∷ ps) h = (h.1, below_end (p.pos + 1) high ps h.2)

-- a branch has a node a halving
nodes_many : (d : ℕ) (root : Digest) (ps : List Placed) → AllByRecursion (IsBranch d root) (placed_branches ps) → AllByRecursion (HasNodes d) ps
nodes_many d root [] h = tt
nodes_many d root (p ∷ ps) h =
    (omega (arith, length-nodes d p.pos p.opening.name p.opening.share p.opening.path h.0.opening.count), nodes_many d root ps h.1)

-- what the steps of making a set want to know of the openings
pub record Ready (k : ℕ) (ps : List Placed) : Type 0 where
  pub places : AllByRecursion (λ p. p.pos < 2 * k) ps
  pub open_all : AreUnderOne (halvings (2 * k)) (placed_branches ps)
  pub paths : AllByRecursion (HasNodes (halvings (2 * k))) ps

pub ready : (header : Roots) (claim : ClaimParts) (ps : List Placed) → is_width header.k ≡ true → Accepts header claim → is_compacted claim ≡ false
    → placed_branches ps ≡ branches_of header.k claim.axis claim.cells → Ready header.k ps
ready header claim ps width accepts wide is =
    let k : ℕ = header.k in
    let both = wide_proved header claim accepts wide in
    let shape = shape_of k claim both.1.shape in
    let root : Digest = claimed_root header claim in
    let branches : AllByRecursion (IsBranch (halvings (2 * k)) root) (placed_branches ps) =
    subst (AllByRecursion (IsBranch (halvings (2 * k)) root)) (sym is) (are_branches header claim.axis claim.index claim.cells both.0 shape.on) in
    let places : AreAscending 0 (2 * k) (places_of_branches (placed_branches ps)) =
    subst (λ (n : ℕ). AreAscending 0 n (places_of_branches (placed_branches ps))) (sym (sym (double_halvings k width)))
    (subst (λ (bs : List Branch). AreAscending 0 (2 ^ halvings (2 * k)) (places_of_branches bs)) (sym is)
    (branch_places k claim.axis claim.cells width (wide_inside header claim accepts wide) shape.rising)) in
    record {
      places = below_end 0 (2 * k) ps places;
      open_all = (root, branches);
      paths = nodes_many (halvings (2 * k)) root ps branches;
    }

-- ---- two that differ

-- what is among values of a list is the value of one of it
from_map : {A B : Type 0} (f : A → B) (xs : List A) (y : B) → Contains (map f xs) y → (x : A) × (Contains xs x × (f x ≡ y))
from_map f [] y h = absurd (omega (arith, h.1))
from_map f (x ∷ xs) y (zero, lt, e) = (x, ((0, omega arith, refl), e))
from_map f (x ∷ xs) y (suc n, lt, e) =
    let rest = from_map f xs y (n, omega (arith, lt), e) in
    let place = rest.1.0 in
    let within : place.0 < length xs = place.1 in
    (rest.0, ((suc place.0, omega (arith, within), place.2), rest.1.1))

-- those along an axis are along it
along_all : (axis : Axis) (cells : List Message) → AllByRecursion (λ m. is_along axis m ≡ true) (along_in axis cells)
unfolding along_in
along_all axis [] = tt
along_all axis (m ∷ cells) =
    let Goal : Bool → Type 0 = λ b. AllByRecursion (λ m. is_along axis m ≡ true) (cond b (m ∷ along_in axis cells) (along_in axis cells)) in
    elim (cases_Bool (is_along axis m)) [
      | inl t ↦ subst Goal (sym t) (t, along_all axis cells)
      | inr f ↦ subst Goal (sym f) (along_all axis cells)
    ]

each_in : (P : Message → Type 0) (cells : List Message) (m : Message) → AllByRecursion P cells → Contains cells m → P m
each_in P [] m h at = absurd (omega (arith, at.1))
each_in P (c ∷ cells) m h (zero, lt, e) = subst P e h.0
each_in P (c ∷ cells) m h (suc n, lt, e) = each_in P cells m h.1 (n, omega (arith, lt), e)

-- the tree of a sample along the axis
tree_of : (k : ℕ) (axis : Axis) (m : Message) → is_along axis m ≡ true → branch_tree (halvings (2 * k)) (branch_of k axis m) ≡ opened_by k m
tree_of k axis m along =
    ap (λ (a : Axis). opened (halvings (2 * k)) 0 (one_leaf (position a m.cell) (leaf_namespace k m.cell m.share) m.share) m.path) (one_axis axis m.axis along)

-- two openings that name a collision are of two cells
pub two_named : (k : ℕ) (claim : ClaimParts) (bs : List Branch) (clash : Strings) → bs ≡ branches_of k claim.axis claim.cells → NamesTwoOf (halvings (2 * k)) bs clash → NamesTwo k claim clash
two_named k claim bs clash is two =
    let ms : List Message = along_in claim.axis claim.cells in
    let l = from_map (branch_of k claim.axis) ms two.left (subst (λ (l : List Branch). Contains l two.left) is two.left_in) in
    let r = from_map (branch_of k claim.axis) ms two.right (subst (λ (l : List Branch). Contains l two.right) is two.right_in) in
    let tree : (m : Message) → Contains ms m → branch_tree (halvings (2 * k)) (branch_of k claim.axis m) ≡ opened_by k m = λ m at.
    tree_of k claim.axis m (each_in (λ x. is_along claim.axis x ≡ true) ms m (along_all claim.axis claim.cells) at) in
    record {
      left = l.0;
      right = r.0;
      left_in = l.1.0;
      right_in = r.1.0;
      found = (λ i. clash_at ((sym (tree l.0 l.1.0) ∙ ap (branch_tree (halvings (2 * k))) l.1.1) i) ((sym (tree r.0 r.1.0) ∙ ap (branch_tree (halvings (2 * k))) r.1.1) i)) ∙ two.found;
    }
