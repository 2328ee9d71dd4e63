-- The leaves of a set, and neighboring subtrees, as pieces.
use Rattle.std.proofs.Common.{◌≡◌, ◌∙◌, ℕ, suc, zero, ◌+◌, ◌<◌, ◌≤◌, List, [], ◌∷◌, ◌++◌, refl, sym, ap, ap₂, arith, length, take, get_or}
use Rattle.std.proofs.lemmas.List.{map-append, take_more}
use Rattle.namespace_id.specs.declared.namespaces.Namespace.{Namespace}
use Rattle.namespace_id.specs.declared.shares.Share.{Share}
use Rattle.namespace_id.specs.declared.digests.Digest.{Digest}
use Rattle.nmt_tree.specs.Digests.{leaf_digest}
use Rattle.nmt_tree.proofs.CountLemmas.{leaf_count-pos}
use Rattle.nmt_proofs.specs.declared.joining.Piece.{Piece}
use Rattle.nmt_proofs.specs.Parts.{given, leaf}
use Rattle.nmt_proofs.specs.Openings.{Shown, leaves_at, intervals_from, shadow, shadow_of}
use Rattle.nmt_proofs.specs.Places.{AreAscending, AreAligned}
use Rattle.nmt_proofs.specs.Pieces.{shown_pieces, shown_of}
use Rattle.nmt_proofs.proofs.Parts.ShadowLemmas.{AreInOrder}

-- one more place gives one more leaf
leaves_at-append : (places : List ℕ) (names : List Namespace) (shares : List Share) (pos : ℕ) (n : Namespace) (s : Share) → length names ≡ length places → length shares ≡ length places
    → leaves_at (places ++ pos ∷ []) (names ++ n ∷ []) (shares ++ s ∷ []) ≡ leaves_at places names shares ++ record { from = pos; size = 1; part = leaf n s } ∷ []
unfolding leaves_at
leaves_at-append [] [] [] pos n s h k = refl
leaves_at-append [] (m ∷ names) shares pos n s h k = absurd (omega arith)
leaves_at-append [] [] (t ∷ shares) pos n s h k = absurd (omega arith)
leaves_at-append (p ∷ places) [] shares pos n s h k = absurd (omega arith)
leaves_at-append (p ∷ places) (m ∷ names) [] pos n s h k = absurd (omega arith)
leaves_at-append (p ∷ places) (m ∷ names) (t ∷ shares) pos n s h k =
    let head : Shown = record { from = p; size = 1; part = leaf m t } in
    ap (λ (l : List Shown). head ∷ l) (leaves_at-append places names shares pos n s (omega arith) (omega arith))

-- leaves alone are in order
pub set_in_order : (places : List ℕ) (names : List Namespace) (shares : List Share) → AreInOrder (leaves_at places names shares)
unfolding leaves_at
set_in_order [] names shares = tt
set_in_order (p ∷ places) [] shares = tt
set_in_order (p ∷ places) (n ∷ names) [] = tt
set_in_order (p ∷ places) (n ∷ names) (s ∷ shares) = (refl, set_in_order places names shares)

-- one more piece for one more place
pub set_more : (so_far next : List Piece) (ps ps' : List ℕ) (ns ns' : List Namespace) (ss ss' : List Share) (pos : ℕ) (n : Namespace) (s : Share) (p : Piece)
    → next ≡ so_far ++ p ∷ [] → ps' ≡ ps ++ pos ∷ [] → ns' ≡ ns ++ n ∷ [] → ss' ≡ ss ++ s ∷ [] → length ns ≡ length ps → length ss ≡ length ps
    → p.from ≡ pos → p.size ≡ 1 → p.digest ≡ leaf_digest n s
    → shown_pieces so_far ≡ shadow (leaves_at ps ns ss) → shown_pieces next ≡ shadow (leaves_at ps' ns' ss')
set_more so_far next ps ps' ns ns' ss ss' pos n s p en ep em es ln ls ef ez ed h =
    ap shown_pieces en
    ∙ map-append shown_of so_far (p ∷ [])
    ∙ ap₂ (λ (a b : List Shown). a ++ b) h (λ k. let x : Shown = record { from = ef k; size = ez k; part = given (ed k) } in x ∷ [])
    ∙ sym ((λ k. shadow (leaves_at (ep k) (em k) (es k)))
    ∙ ap shadow (leaves_at-append ps ns ss pos n s ln ls)
    ∙ map-append shadow_of (leaves_at ps ns ss) (record { from = pos; size = 1; part = leaf n s } ∷ []))

-- ascending places are no more than there are
pub ascending_few : (low high : ℕ) (places : List ℕ) → low ≤ high → AreAscending low high places → low + length places ≤ high
ascending_few low high [] le h = omega (arith, le)
ascending_few low high (p ∷ places) le h = omega (arith, h.0, h.1, ascending_few (p + 1) high places (omega (arith, h.1)) h.2)

-- where neighboring intervals end
abbrev pub end_of : ℕ → List ℕ → ℕ
end_of from [] = from
end_of from (size ∷ sizes) = end_of (from + size) sizes

-- one more interval begins where the others end
intervals_from-append : (from : ℕ) (sizes : List ℕ) (ds : List Digest) (size : ℕ) (d : Digest) → length ds ≡ length sizes
    → intervals_from from (sizes ++ size ∷ []) (ds ++ d ∷ []) ≡ intervals_from from sizes ds ++ record { from = end_of from sizes; size = size; part = given d } ∷ []
unfolding intervals_from
intervals_from-append from [] [] size d h = refl
intervals_from-append from [] (e ∷ ds) size d h = absurd (omega arith)
intervals_from-append from (z ∷ sizes) [] size d h = absurd (omega arith)
intervals_from-append from (z ∷ sizes) (e ∷ ds) size d h =
    let head : Shown = record { from = from; size = z; part = given e } in
    ap (λ (l : List Shown). head ∷ l) (intervals_from-append (from + z) sizes ds size d (omega arith))

-- and ends behind it
pub end_of-append : (from : ℕ) (sizes : List ℕ) (size : ℕ) → end_of from (sizes ++ size ∷ []) ≡ end_of from sizes + size
end_of-append from [] size = refl
end_of-append from (z ∷ sizes) size = end_of-append (from + z) sizes size

-- the end of one more of them
pub next_end : (from at : ℕ) (sizes : List ℕ) (i : ℕ) → i < length sizes → at ≡ end_of from (take i sizes) → at + get_or sizes i 0 ≡ end_of from (take (i + 1) sizes)
next_end from at sizes i h e =
    ap (λ (k : ℕ). k + get_or sizes i 0) e
    ∙ sym (end_of-append from (take i sizes) (get_or sizes i 0))
    ∙ sym (ap (end_of from) (take_more sizes i 0 h))

-- one more piece for one more interval
pub interval_more : (from : ℕ) (so_far next : List Piece) (zs zs' : List ℕ) (ds ds' : List Digest) (size : ℕ) (d : Digest) (p : Piece)
    → next ≡ so_far ++ p ∷ [] → zs' ≡ zs ++ size ∷ [] → ds' ≡ ds ++ d ∷ [] → length ds ≡ length zs
    → p.from ≡ end_of from zs → p.size ≡ size → p.digest ≡ d
    → shown_pieces so_far ≡ intervals_from from zs ds → shown_pieces next ≡ intervals_from from zs' ds'
interval_more from so_far next zs zs' ds ds' size d p en ez eds el ef es ed h =
    ap shown_pieces en
    ∙ map-append shown_of so_far (p ∷ [])
    ∙ ap₂ (λ (a b : List Shown). a ++ b) h (λ k. let x : Shown = record { from = ef k; size = es k; part = given (ed k) } in x ∷ [])
    ∙ sym ((λ k. intervals_from from (ez k) (eds k)) ∙ intervals_from-append from zs ds size d el)

-- aligned intervals take a place each
pub aligned_few : (from high : ℕ) (sizes : List ℕ) → AreAligned from high sizes → from + length sizes ≤ high
aligned_few from high [] h = omega (arith, h)
aligned_few from high (z ∷ sizes) h = omega (arith, leaf_count-pos z h.0, aligned_few (from + z) high sizes h.2)

-- those at the front end within
pub aligned_end : (from high i : ℕ) (sizes : List ℕ) → AreAligned from high sizes → end_of from (take i sizes) ≤ high
aligned_end from high zero sizes h = omega (arith, aligned_few from high sizes h)
aligned_end from high (suc i) [] h = h
aligned_end from high (suc i) (z ∷ sizes) h = aligned_end (from + z) high i sizes h.2

-- a greater end is one too
pub aligned_within : (from high higher : ℕ) (sizes : List ℕ) → high ≤ higher → AreAligned from high sizes → AreAligned from higher sizes
aligned_within from high higher [] le h = omega (arith, le, h)
aligned_within from high higher (z ∷ sizes) le h = (h.0, h.1, aligned_within (from + z) high higher sizes le h.2)
