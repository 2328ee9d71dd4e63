-- From pieces to what is shown.
use Rattle.std.proofs.Common.{◌≡◌, ◌∙◌, ℕ, List, Bool, ap, subst, length, ◌==◌, Option, Some, None, Result, IsOk, refl}
use Rattle.std.specs.Prelude.{IsErrOf}
use Rattle.std.specs.Str.{bytes_eq}
use Rattle.namespace_id.specs.declared.digests.Digest.{Digest}
use Rattle.nmt_proofs.specs.declared.joining.Piece.{Piece}
use Rattle.namespace_id.specs.declared.namespaces.Namespace.{Namespace}
use Rattle.namespace_id.specs.declared.shares.Share.{Share}
use Rattle.nmt_proofs.specs.declared.opening.OpenRefusal.{OpenRefusal}
use Rattle.nmt_proofs.specs.declared.opening.OpenRefusal.TheVariants.{Incomplete}
use Rattle.nmt_proofs.specs.Openings.{Shown, has_count, has_order, has_root, Opens, shadow, leaves_from, one_digest}
use Rattle.nmt_proofs.specs.Pieces.{shown_pieces}
use Rattle.nmt_proofs.specs.Causes.{HasCause, OpensRange, OpensAbsence}
use Rattle.nmt_proofs.specs.Complete.{range_break, absence_break}
use Rattle.nmt_proofs.proofs.Parts.ShadowLemmas.{AreInOrder, given_alone, outside-parts, alike-shadow}
use Rattle.nmt_proofs.proofs.Parts.CauseLemmas.{accepts, incomplete}

-- the checks see the same where pieces have the digests of what is shown
pub same_cause : (d : ℕ) (ps : List Piece) (ss : List Shown) (ns : List Digest) (root : Digest) (b : Option ℕ) (r : Result (Unit {0}) OpenRefusal)
    → shown_pieces ps ≡ shadow ss → AreInOrder ss
    → HasCause r (has_count d (shown_pieces ps) ns) (has_order d (shown_pieces ps) ns) (has_root d (shown_pieces ps) ns root) b
    → HasCause r (has_count d ss ns) (has_order d ss ns) (has_root d ss ns root) b
same_cause d ps ss ns root b r e o h =
    let alike = alike-shadow d 0 ss ns o in
    let count : has_count d (shown_pieces ps) ns ≡ has_count d ss ns =
    ap (λ (l : List Shown). has_count d l ns) e ∙ ap (λ (l : List (ℕ × ℕ)). length ns == length l) (outside-parts given_alone d 0 ss) in
    let order : has_order d (shown_pieces ps) ns ≡ has_order d ss ns = ap (λ (l : List Shown). has_order d l ns) e ∙ alike.order in
    let value : has_root d (shown_pieces ps) ns root ≡ has_root d ss ns root =
    ap (λ (l : List Shown). has_root d l ns root) e ∙ ap (λ (x : Digest). bytes_eq x.0 root.0) alike.digest in
    subst (λ (x : Bool × Bool × Bool). HasCause r x.0 x.1 x.2 b) (λ i. (count i, order i, value i)) h

-- the answer is `Ok` exactly where the nodes open what is shown
pub opens : (d : ℕ) (ss : List Shown) (ns : List Digest) (root : Digest) (r : Result (Unit {0}) OpenRefusal)
    → HasCause r (has_count d ss ns) (has_order d ss ns) (has_root d ss ns root) None
    → (IsOk r → Opens d ss ns root) × (Opens d ss ns root → IsOk r)
opens d ss ns root r h =
    let both = accepts r (has_count d ss ns) (has_order d ss ns) (has_root d ss ns root) None h in
    (λ k. let x = both.0 k in record { count = x.0; order = x.1; value = x.2 }, λ k. both.1 (k.count, k.order, k.value, refl))

-- so it is where a range is complete too
pub opens_range : (d from : ℕ) (name : Namespace) (shares : List Share) (ns : List Digest) (root : Digest) (r : Result (Unit {0}) OpenRefusal)
    → HasCause r (has_count d (leaves_from from name shares) ns) (has_order d (leaves_from from name shares) ns) (has_root d (leaves_from from name shares) ns root)
    (range_break d from name shares ns) → (IsOk r → OpensRange d from name shares ns root) × (OpensRange d from name shares ns root → IsOk r)
opens_range d from name shares ns root r h =
    let both = accepts r _ _ _ _ h in
    (λ k. let x = both.0 k in record { opens = record { count = x.0; order = x.1; value = x.2 }; complete = x.3 }, λ k. both.1 (k.opens.count, k.opens.order, k.opens.value, k.complete))

-- and an absence
pub opens_absence : (d pos : ℕ) (name : Namespace) (leaf : Digest) (ns : List Digest) (root : Digest) (r : Result (Unit {0}) OpenRefusal)
    → HasCause r (has_count d (one_digest pos leaf) ns) (has_order d (one_digest pos leaf) ns) (has_root d (one_digest pos leaf) ns root)
    (absence_break d pos name leaf ns) → (IsOk r → OpensAbsence d pos name leaf ns root) × (OpensAbsence d pos name leaf ns root → IsOk r)
opens_absence d pos name leaf ns root r h =
    let both = accepts r _ _ _ _ h in
    (λ k. let x = both.0 k in record { opens = record { count = x.0; order = x.1; value = x.2 }; complete = x.3 }, λ k. both.1 (k.opens.count, k.opens.order, k.opens.value, k.complete))

-- it names a node exactly where the nodes open and that one is the first that leaves a place
pub breaks_with : (d : ℕ) (ss : List Shown) (ns : List Digest) (root : Digest) (b : Option ℕ) (r : Result (Unit {0}) OpenRefusal)
    → HasCause r (has_count d ss ns) (has_order d ss ns) (has_root d ss ns root) b → (i : ℕ)
    → (IsErrOf r (Incomplete i) → Opens d ss ns root × (b ≡ Some i)) × (Opens d ss ns root × (b ≡ Some i) → IsErrOf r (Incomplete i))
breaks_with d ss ns root b r h i =
    let both = incomplete r (has_count d ss ns) (has_order d ss ns) (has_root d ss ns root) b h i in
    (λ k. let x = both.0 k in (record { count = x.0; order = x.1; value = x.2 }, x.3), λ k. both.1 (k.0.count, k.0.order, k.0.value, k.1))
