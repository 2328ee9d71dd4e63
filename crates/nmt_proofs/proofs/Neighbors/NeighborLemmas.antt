-- The nodes made for neighboring leaves.
use Rattle.std.proofs.Common.{◌≡◌, ◌∙◌, ℕ, zero, suc, ◌+◌, ◌*◌, ◌^◌, ◌<◌, ◌≤◌, List, [], ◌∷◌, ◌++◌, length, take, drop, get_or, replicate, None, refl, sym, ap, ap₂, subst, arith, length-drop}
use Rattle.std.proofs.lemmas.List.{map-append, length-replicate, length-take-le}
use Rattle.namespace_id.specs.declared.namespaces.Namespace.{Namespace}
use Rattle.namespace_id.specs.declared.shares.Share.{Share}
use Rattle.namespace_id.specs.declared.digests.Digest.{Digest}
use Rattle.namespace_id.specs.Digests.{no_digest}
use Rattle.namespace_id.specs.Sizes.{most_depth}
use Rattle.nmt_tree.specs.Digests.{leaf_digest}
use Rattle.nmt_tree.specs.Levels.{leaf_digests, span, HasOrderedJoins}
use Rattle.nmt_proofs.specs.declared.joining.Piece.{Piece}
use Rattle.nmt_proofs.specs.Parts.{given}
use Rattle.nmt_proofs.specs.Openings.{Shown, outside, leaves_from, digests_from, Opens}
use Rattle.nmt_proofs.specs.Making.{spans, AreAtLeaves}
use Rattle.nmt_proofs.specs.Clashes.{AreLeaves}
use Rattle.nmt_proofs.specs.Complete.{range_break, IsBetween}
use Rattle.nmt_proofs.specs.Pieces.{shown_pieces, shown_of}
use Rattle.nmt_proofs.proofs.Neighbors.RunLemmas.{run_leaves, length-leaves_from, run_digests, length-digests_from, outside-run}
use Rattle.nmt_proofs.proofs.Neighbors.BesideLemmas.{outside_few}
use Rattle.nmt_proofs.proofs.Agreement.MadeLemmas.{made_opens}
use Rattle.nmt_proofs.proofs.Agreement.OtherLeafLemmas.{made_range}

-- one more digest at the place behind the others
digests_from-append : (from : ℕ) (ds : List Digest) (d : Digest)
    → digests_from from (ds ++ d ∷ []) ≡ digests_from from ds ++ record { from = from + length ds; size = 1; part = given d } ∷ []
unfolding digests_from
digests_from-append from [] d = let e : from ≡ from + 0 = omega arith in ap (λ (k : ℕ). let x : Shown = record { from = k; size = 1; part = given d } in x ∷ []) e
digests_from-append from (c ∷ ds) d =
    let e : suc from + length ds ≡ from + suc (length ds) = omega arith in
    let head : Shown = record { from = from; size = 1; part = given c } in
    ap (λ (l : List Shown). head ∷ l) (digests_from-append (suc from) ds d
    ∙ ap (λ (k : ℕ). digests_from (suc from) ds ++ (let x : Shown = record { from = k; size = 1; part = given d } in x ∷ [])) e)

-- one more piece for one more place
pub place_more : (from i : ℕ) (so_far next : List Piece) (ds : List Digest) (p : Piece)
    → next ≡ so_far ++ p ∷ [] → length ds ≡ i → p.from ≡ from + i → p.size ≡ 1
    → shown_pieces so_far ≡ digests_from from ds → shown_pieces next ≡ digests_from from (ds ++ p.digest ∷ [])
place_more from i so_far next ds p en el ef ez h =
    ap shown_pieces en
    ∙ map-append shown_of so_far (p ∷ [])
    ∙ ap₂ (λ (a b : List Shown). a ++ b) h (λ k. let x : Shown = record { from = (ef ∙ ap (λ (n : ℕ). from + n) (sym el)) k; size = ez k; part = given p.digest } in x ∷ [])
    ∙ sym (digests_from-append from ds p.digest)

-- so many pieces are so many places
places_of : (from count : ℕ) (room ps : List Piece) (digest : Digest) → count ≤ length room → shown_pieces ps ≡ digests_from from (replicate (length (take count room)) digest)
    → shown_pieces ps ≡ digests_from from (replicate count digest)
places_of from count room ps digest fits e = e ∙ ap (λ (k : ℕ). digests_from from (replicate k digest)) (length-take-le count room fits)

-- neighboring places leave out at most two intervals a level
pub few_beside : (d from count : ℕ) (room ps : List Piece) (digest : Digest) → d ≤ most_depth → 0 < count → from + count ≤ 2 ^ d → count ≤ length room
    → shown_pieces ps ≡ digests_from from (replicate (length (take count room)) digest) → length (outside d 0 (shown_pieces ps)) ≤ 2 * most_depth
few_beside d from count room ps digest deep some fits room_fits e =
    let ss : List Shown = digests_from from (replicate count digest) in
    let len : length ss ≡ count = length-digests_from from (replicate count digest) ∙ length-replicate count digest in
    let few : length (outside d 0 ss) ≤ d + d = outside_few d d d 0 from ss (omega (arith, len, some)) (run_digests from (replicate count digest)) (omega arith) (omega (arith, len, fits))
    (λ lt. omega arith) (λ lt. omega arith) in
    omega (arith, few, deep, ap (λ (l : List Shown). length (outside d 0 l)) (places_of from count room ps digest room_fits e))

-- they leave out the same intervals, whatever digests are shown there
pub outside_places : (d from count : ℕ) (room ps : List Piece) (digest : Digest) (leaves : List Digest) → count ≤ length room → from + count ≤ length leaves
    → shown_pieces ps ≡ digests_from from (replicate (length (take count room)) digest) → outside d 0 (shown_pieces ps) ≡ outside d 0 (digests_from from (take count (drop from leaves)))
outside_places d from count room ps digest leaves room_fits fits e =
    let front : length (take count (drop from leaves)) ≡ count = length-take-le count (drop from leaves) (omega (arith, length-drop from leaves)) in
    ap (outside d 0) (places_of from count room ps digest room_fits e)
    ∙ outside-run (given no_digest) d 0 from _ _ (run_digests from (replicate count digest)) (run_digests from (take count (drop from leaves)))
    (length-digests_from from (replicate count digest) ∙ length-replicate count digest ∙ sym (length-digests_from from (take count (drop from leaves)) ∙ front))

-- so do leaves at these places
outside_leaves : (d from : ℕ) (xs : List Digest) (name : Namespace) (shares : List Share) → length xs ≡ length shares
    → outside d 0 (digests_from from xs) ≡ outside d 0 (leaves_from from name shares)
outside_leaves d from xs name shares e =
    outside-run (given no_digest) d 0 from (digests_from from xs) (leaves_from from name shares) (run_digests from xs) (run_leaves from name shares)
    (length-digests_from from xs ∙ e ∙ sym (length-leaves_from from name shares))

-- the first of the leaves from a place on stands there
first_from : (k from : ℕ) (d : Digest) (ds leaves : List Digest) → d ∷ ds ≡ take (suc k) (drop from leaves)
    → (d ≡ get_or leaves from no_digest) × (ds ≡ take k (drop (suc from) leaves))
first_from k zero d ds [] e = absurd cc
first_from k zero d ds (l ∷ leaves) e = (cc, cc)
first_from k (suc from) d ds [] e = absurd cc
first_from k (suc from) d ds (l ∷ leaves) e = first_from k from d ds leaves e

-- leaves with the digests from a place on stand there
at_leaves_from : (leaves : List Digest) (low from high : ℕ) (name : Namespace) (shares : List Share) → low ≤ from → from + length shares ≤ high
    → leaf_digests (replicate (length shares) name) shares ≡ take (length shares) (drop from leaves) → AreAtLeaves leaves low high (leaves_from from name shares)
unfolding leaves_from AreAtLeaves leaf_digests
at_leaves_from leaves low from high name [] le fits e = tt
at_leaves_from leaves low from high name (s ∷ shares) le fits e =
    let first = first_from (length shares) from (leaf_digest name s) (leaf_digests (replicate (length shares) name) shares) leaves e in
    (refl, le, omega arith, first.0, refl, at_leaves_from leaves (from + 1) (suc from) high name shares (omega arith) (omega arith) first.1)

-- the nodes made for a range open each range of leaves that has its digests
pub range_opens : (d from count : ℕ) (leaves nodes : List Digest) (name : Namespace) (shares : List Share) → from + count ≤ 2 ^ d → length leaves ≡ 2 ^ d
    → HasOrderedJoins leaves 0 d → nodes ≡ spans leaves (outside d 0 (digests_from from (take count (drop from leaves)))) → length shares ≡ count
    → leaf_digests (replicate count name) shares ≡ take count (drop from leaves) → Opens d (leaves_from from name shares) nodes (span leaves 0 d)
range_opens d from count leaves nodes name shares fits len joins en same e =
    let front : length (take count (drop from leaves)) ≡ count = length-take-le count (drop from leaves) (omega (arith, length-drop from leaves)) in
    let at : AreAtLeaves leaves 0 (2 ^ d) (leaves_from from name shares) = at_leaves_from leaves 0 from (2 ^ d) name shares (omega arith) (omega (arith, same))
    (subst (λ (k : ℕ). leaf_digests (replicate k name) shares ≡ take k (drop from leaves)) (sym same) e) in
    subst (λ (ns : List Digest). Opens d (leaves_from from name shares) ns (span leaves 0 d))
    (sym (en ∙ ap (spans leaves) (outside_leaves d from (take count (drop from leaves)) name shares (front ∙ sym same))))
    (made_opens d leaves (leaves_from from name shares) at joins)

-- and leave no place for a namespace of which all leaves stand in the range
pub range_complete : (d from count : ℕ) (leaves nodes : List Digest) (name : Namespace) (names : List Namespace) (shares shown_pieces : List Share) → 0 < count
    → from + count ≤ 2 ^ d → length leaves ≡ 2 ^ d → nodes ≡ spans leaves (outside d 0 (digests_from from (take count (drop from leaves))))
    → AreLeaves d names shares → leaves ≡ leaf_digests names shares → IsBetween name names from (from + count) → length shown_pieces ≡ count
    → range_break d from name shown_pieces nodes ≡ None
range_complete d from count leaves nodes name names shares shown_pieces some fits len en of el between same =
    let front : length (take count (drop from leaves)) ≡ count = length-take-le count (drop from leaves) (omega (arith, length-drop from leaves)) in
    ap (range_break d from name shown_pieces)
    (en ∙ ap (spans leaves) (outside_leaves d from (take count (drop from leaves)) name shown_pieces (front ∙ sym same))
    ∙ ap (λ (l : List Digest). spans l (outside d 0 (leaves_from from name shown_pieces))) el)
    ∙ made_range d from name names shares shown_pieces of (omega (arith, same, some)) (omega (arith, same, fits))
    (subst (λ (k : ℕ). IsBetween name names from (from + k)) (sym same) between)
