-- A root proof under the data root of a square's header.
use Rattle.std.proofs.Common.{◌≡◌, ◌∙◌, ℕ, ◌*◌, ◌<◌, List, [], ◌∷◌, ◌++◌, Bool, true, false, Some, None, refl, sym, ap, subst, inl, inr, arith}
use Rattle.std.specs.Option.{option_or}
use Rattle.std.proofs.lemmas.Option.{none-some}
use Rattle.namespace_id.specs.declared.cells.Axis.{Axis}
use Rattle.namespace_id.specs.declared.digests.Digest.{Digest}
use Rattle.nmt_proofs.specs.Parts.{Part, given, leaf, join, digest_of}
use Rattle.nmt_proofs.specs.Clashes.{clash_at, leaf_text, join_text}
use Rattle.nmt_proofs.proofs.Agreement.AgreeLemmas.{compared, or_found}
use Rattle.data_header.specs.Headers.{Roots}
use Rattle.data_header.specs.DataRoots.{data_root_of, root_halvings, root_place}
use Rattle.square_layout.specs.Blocks.{SquareShares}
use Rattle.axis_roots.specs.Messages.{index, root_for}
use Rattle.axis_roots.specs.Openings.{OpensAt, IsProved}
use Rattle.axis_roots.specs.Own.{NamesAt, opened_by}
use Rattle.axis_roots.specs.Grids.{IsHeaderOf, axis_tree}
use Rattle.axis_roots.proofs.Grids.HeaderLemmas.{header_width}
use Rattle.axis_roots.proofs.Messages.OwnLemmas.{accepted_own}
use Rattle.blob_commit.specs.DataTrees.{ending, climbed, full}
use Rattle.blob_commit.specs.Proofs.{RootedParts, RootedHolds, IsRooted}
use Rattle.blob_commit.specs.Places.{AxisText, PlacesNameClash, IsOwnRooted, tree_string, turns_for}
use Rattle.blob_commit.proofs.DataTreeLemmas.{Clashes}
use Rattle.blob_commit.proofs.HeaderLemmas.{header_whole, root_own}

-- at some turns two parts have these strings
pub record StringsAt (p q : Part) (left right : List ℕ) : Type 0 where
  pub turns : List Bool
  pub left_at : tree_string turns p ≡ Some left
  pub right_at : tree_string turns q ≡ Some right

-- what was found stands at a place in both
pub strings_found : (p q : Part) (a b : List ℕ) → clash_at p q ≡ Some (a, b) → StringsAt p q a b
unfolding clash_at
strings_found (given d) q a b f = absurd (none-some _ f)
strings_found (leaf n s) (given d) a b f = absurd (none-some _ f)
strings_found (leaf n s) (leaf m t) a b f = elim (compared (leaf_text n s) (leaf_text m t) a b None f) [
  | inl x ↦ absurd (none-some _ x.1)
  | inr x ↦ record { turns = []; left_at = ap Some x.1; right_at = ap Some x.2 }
]
strings_found (leaf n s) (join u v) a b f = absurd (none-some _ f)
strings_found (join l r) (given d) a b f = absurd (none-some _ f)
strings_found (join l r) (leaf m t) a b f = absurd (none-some _ f)
strings_found (join l r) (join u v) a b f =
    elim (compared (join_text (digest_of l) (digest_of r)) (join_text (digest_of u) (digest_of v)) a b (option_or (clash_at l u) (clash_at r v)) f) [
      | inl x ↦ elim (or_found (clash_at l u) (clash_at r v) (a, b) x.1) [
        | inl y ↦ let c = strings_found l u a b y in record { turns = false ∷ c.turns; left_at = c.left_at; right_at = c.right_at }
        | inr y ↦ let c = strings_found r v a b y in record { turns = true ∷ c.turns; left_at = c.left_at; right_at = c.right_at }
      ]
      | inr x ↦ record { turns = []; left_at = ap Some x.1; right_at = ap Some x.2 }
    ]

-- a collision in the data tree is one at a place
pub clash_above : (header : Roots) (S : SquareShares) (k : ℕ) (axis : Axis) (i : ℕ) (digest : Digest) (hashes : List (List ℕ)) (part : Part) → IsHeaderOf header S
    → Clashes (climbed (root_place k axis i) (ending digest) hashes) (full (root_halvings header.k) (header.rows ++ header.cols))
    → PlacesNameClash (AxisText k axis i digest hashes part) S
clash_above header S k axis i digest hashes part own c =
    (record { up = c.turns; inner = None }, c.left, c.right, inl (refl, c.left_at), inl (header, own, refl, c.right_at), c.clash)

-- a collision in the tree of an axis is one at a place
pub clash_inside : (S : SquareShares) (k : ℕ) (axis : Axis) (i : ℕ) (digest : Digest) (hashes : List (List ℕ)) (part : Part) → k ≡ S.k → i < 2 * S.k
    → NamesAt part S axis i → PlacesNameClash (AxisText k axis i digest hashes part) S
clash_inside S k axis i digest hashes part width lt names =
    let c = strings_found part (axis_tree S.k names.grid axis i) names.left names.right names.found in (
      record { up = turns_for k axis i; inner = Some c.turns },
      names.left,
      names.right,
      inr (c.turns, refl, refl, c.left_at),
      inr (axis, i, names.grid, c.turns, lt, names.extends, refl, ap (λ (n : ℕ). turns_for n axis i) width, c.right_at),
      names.clash,
    )

-- a root proof that holds under the data root of a square's header shows the share of the square's extension, or they
-- name a collision
pub rooted_own : (header : Roots) (proof : RootedParts) → IsRooted proof → RootedHolds (data_root_of header) proof → IsOwnRooted header proof
rooted_own header proof sized holds S own =
    let axis : Axis = proof.message.axis in
    let i : ℕ = index axis proof.message.cell in
    elim (root_own header proof.k axis i proof.root proof.up (header_whole header S own) holds.lead sized.root sized.up) [
      | inr clash ↦ inr (clash_above header S proof.k axis i proof.root proof.up (opened_by proof.k proof.message) own clash)
      | inl root ↦
          let width : proof.k ≡ S.k = root.width ∙ header_width S.k own.grid header own.roots in
          let proved : IsProved header proof.message =
          subst (λ (n : ℕ). OpensAt n proof.message (root_for header proof.message)) root.width (subst (OpensAt proof.k proof.message) root.own holds.opens) in
          elim (accepted_own header proof.message proved S own) [
            | inl shows ↦ inl (record { width = width; grid = shows.grid; extends = shows.extends; share = shows.share })
            | inr names ↦
                inr (clash_inside S proof.k axis i proof.root proof.up (opened_by proof.k proof.message) width (let lt : i < 2 * proof.k = holds.lead.place in omega (arith, lt, width))
                (subst (λ (n : ℕ). NamesAt (opened_by n proof.message) S axis i) (sym width) names))
          ]
    ]
