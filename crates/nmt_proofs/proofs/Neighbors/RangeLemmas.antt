-- The leaves of a range as pieces.
use Rattle.std.proofs.Common.{◌≡◌, ◌∙◌, ℕ, suc, ◌+◌, List, [], ◌∷◌, ◌++◌, Option, Result, refl, sym, ap, ap₂, subst, arith, length}
use Rattle.std.proofs.lemmas.List.{map-append}
use Rattle.namespace_id.specs.declared.namespaces.Namespace.{Namespace}
use Rattle.namespace_id.specs.declared.shares.Share.{Share}
use Rattle.namespace_id.specs.declared.digests.Digest.{Digest}
use Rattle.nmt_tree.specs.Digests.{leaf_digest}
use Rattle.nmt_proofs.specs.declared.joining.Piece.{Piece}
use Rattle.nmt_proofs.specs.declared.opening.OpenRefusal.{OpenRefusal}
use Rattle.nmt_proofs.specs.Parts.{given, leaf}
use Rattle.nmt_proofs.specs.Openings.{Shown, outside, has_count, has_order, has_root, leaves_from, shadow, shadow_of}
use Rattle.nmt_proofs.specs.Complete.{first_break, range_break}
use Rattle.nmt_proofs.specs.Causes.{HasCause}
use Rattle.nmt_proofs.specs.Pieces.{shown_pieces, shown_of}
use Rattle.nmt_proofs.proofs.Parts.ShadowLemmas.{AreInOrder, given_alone, outside-parts}
use Rattle.nmt_proofs.proofs.Parts.PublicLemmas.{same_cause}

-- one more share gives one more leaf
leaves_from-append : (from : ℕ) (name : Namespace) (shares : List Share) (s : Share)
    → leaves_from from name (shares ++ s ∷ []) ≡ leaves_from from name shares ++ record { from = from + length shares; size = 1; part = leaf name s } ∷ []
unfolding leaves_from
leaves_from-append from name [] s = let e : from ≡ from + 0 = omega arith in ap (λ (k : ℕ). let x : Shown = record { from = k; size = 1; part = leaf name s } in x ∷ []) e
leaves_from-append from name (t ∷ shares) s =
    let e : suc from + length shares ≡ from + suc (length shares) = omega arith in
    let head : Shown = record { from = from; size = 1; part = leaf name t } in
    ap (λ (l : List Shown). head ∷ l) (leaves_from-append (suc from) name shares s
    ∙ ap (λ (k : ℕ). leaves_from (suc from) name shares ++ (let x : Shown = record { from = k; size = 1; part = leaf name s } in x ∷ [])) e)

-- leaves alone are in order
leaves_in_order : (from : ℕ) (name : Namespace) (shares : List Share) → AreInOrder (leaves_from from name shares)
unfolding leaves_from
leaves_in_order from name [] = tt
leaves_in_order from name (s ∷ shares) = (refl, leaves_in_order (suc from) name shares)

-- one more piece for one more share
pub leaf_more : (from : ℕ) (name : Namespace) (i : ℕ) (so_far next : List Piece) (ss ss' : List Share) (s : Share) (p : Piece)
    → next ≡ so_far ++ p ∷ [] → ss' ≡ ss ++ s ∷ [] → length ss ≡ i → p.from ≡ from + i → p.size ≡ 1 → p.digest ≡ leaf_digest name s
    → shown_pieces so_far ≡ shadow (leaves_from from name ss) → shown_pieces next ≡ shadow (leaves_from from name ss')
leaf_more from name i so_far next ss ss' s p en es el ef ez ed h =
    ap shown_pieces en
    ∙ map-append shown_of so_far (p ∷ [])
    ∙ ap₂ (λ (a b : List Shown). a ++ b) h (λ k. let x : Shown = record { from = (ef ∙ ap (λ (n : ℕ). from + n) (sym el)) k; size = ez k; part = given (ed k) } in x ∷ [])
    ∙ sym (ap (λ (l : List Share). shadow (leaves_from from name l)) es
    ∙ ap shadow (leaves_from-append from name ss s)
    ∙ map-append shadow_of (leaves_from from name ss) (record { from = from + length ss; size = 1; part = leaf name s } ∷ []))

-- the cause of an answer to a range, from its pieces
pub range_cause : (d from : ℕ) (name : Namespace) (shares : List Share) (ps : List Piece) (ns : List Digest) (root : Digest) (r : Result (Unit {0}) OpenRefusal)
    → shown_pieces ps ≡ shadow (leaves_from from name shares)
    → HasCause r (has_count d (shown_pieces ps) ns) (has_order d (shown_pieces ps) ns) (has_root d (shown_pieces ps) ns root) (first_break name from 0 (outside d 0 (shown_pieces ps)) ns)
    → HasCause r (has_count d (leaves_from from name shares) ns) (has_order d (leaves_from from name shares) ns) (has_root d (leaves_from from name shares) ns root)
    (range_break d from name shares ns)
range_cause d from name shares ps ns root r e h =
    let leaves : List Shown = leaves_from from name shares in
    let same : first_break name from 0 (outside d 0 (shown_pieces ps)) ns ≡ range_break d from name shares ns =
    ap (λ (l : List Shown). first_break name from 0 (outside d 0 l) ns) e ∙ ap (λ (l : List (ℕ × ℕ)). first_break name from 0 l ns) (outside-parts given_alone d 0 leaves) in
    same_cause d ps leaves ns root (range_break d from name shares ns) r e (leaves_in_order from name shares)
    (subst (λ (b : Option ℕ). HasCause r (has_count d (shown_pieces ps) ns) (has_order d (shown_pieces ps) ns) (has_root d (shown_pieces ps) ns root) b) same h)
