-- Two openings of one place.
use Rattle.std.proofs.Common.{◌≡◌, ◌∙◌, ℕ, zero, suc, ◌+◌, ◌^◌, List, length, take, drop, true, ltb, sym, subst₂, arith, length-drop, inl, inr}
use Rattle.std.proofs.lemmas.List.{length-take-le, nil_from_length}
use Rattle.std.proofs.lemmas.Bool.{cases_Bool, eqb-true}
use Rattle.namespace_id.specs.declared.namespaces.Namespace.{Namespace}
use Rattle.namespace_id.specs.declared.shares.Share.{Share}
use Rattle.namespace_id.specs.declared.digests.Digest.{Digest}
use Rattle.nmt_proofs.specs.Parts.{Part, leaf, digest_of}
use Rattle.namespace_id.specs.Digests.{no_digest}
use Rattle.nmt_proofs.specs.Openings.{opened, one_leaf, has_count}
use Rattle.nmt_proofs.specs.Clashes.{Agree, ClashOr, IsOpening}
use Rattle.nmt_proofs.proofs.Parts.ListLemmas.{same_halves, same_one}
use Rattle.nmt_proofs.proofs.Parts.SingleLemmas.{one_place, length-outside-one, opened_left, opened_right}
use Rattle.nmt_proofs.proofs.Agreement.AgreeLemmas.{agree_or}
use Rattle.nmt_proofs.proofs.Parts.ShownLemmas.{opening-sized, opening-deep}

-- two openings of one place that agree show one part, and have the same nodes
pub one_opening : (d st pos : ℕ) (p q : Part) (ns ms : List Digest) → length ns ≡ d → length ms ≡ d → Agree (opened d st (one_place pos p) ns) (opened d st (one_place pos q) ms)
    → Agree p q × (ns ≡ ms)
unfolding opened
one_opening zero st pos p q ns ms h k a = (a, nil_from_length ns h ∙ sym (nil_from_length ms k))
one_opening (suc d) st pos p q ns ms h k a =
    elim (cases_Bool (ltb pos (st + 2 ^ d))) [
      | inl t ↦
          let both = subst₂ Agree (opened_left d st pos p ns t) (opened_left d st pos q ms t) a in
          let l = one_opening d st pos p q (take d ns) (take d ms) (length-take-le d ns (omega arith)) (length-take-le d ms (omega arith)) both.0 in
          (l.0, same_halves d ns ms l.1 (same_one (drop d ns) (drop d ms) no_digest (omega (arith, length-drop d ns)) (omega (arith, length-drop d ms)) both.1))
      | inr f ↦
          let both = subst₂ Agree (opened_right d st pos p ns f) (opened_right d st pos q ms f) a in
          let r = one_opening d (st + 2 ^ d) pos p q (drop 1 ns) (drop 1 ms) (omega (arith, length-drop 1 ns)) (omega (arith, length-drop 1 ms)) both.1 in
          (r.0, same_halves 1 ns ms (same_one (take 1 ns) (take 1 ms) no_digest (length-take-le 1 ns (omega arith)) (length-take-le 1 ms (omega arith)) both.0) r.1)
    ]

-- the number of nodes of an opening of one leaf
pub length-nodes : (d pos : ℕ) (n : Namespace) (s : Share) (nodes : List Digest) → has_count d (one_leaf pos n s) nodes ≡ true → length nodes ≡ d
length-nodes d pos n s nodes h = eqb-true _ _ h ∙ length-outside-one d 0 pos (leaf n s)

-- the law of two openings of one leaf place under one root
pub twins_law : (d pos : ℕ) (n m : Namespace) (s t : Share) (ns ms : List Digest) → IsOpening d (one_leaf pos n s) ns → IsOpening d (one_leaf pos m t) ms
    → digest_of (opened d 0 (one_leaf pos n s) ns) ≡ digest_of (opened d 0 (one_leaf pos m t) ms)
    → ClashOr (opened d 0 (one_leaf pos n s) ns) (opened d 0 (one_leaf pos m t) ms) ((n ≡ m) × (s ≡ t) × (ns ≡ ms))
twins_law d pos n m s t ns ms h g e =
    agree_or d (opened d 0 (one_leaf pos n s) ns) (opened d 0 (one_leaf pos m t) ms) ((n ≡ m) × (s ≡ t) × (ns ≡ ms))
    (opening-deep d (one_leaf pos n s) ns h) (opening-deep d (one_leaf pos m t) ms g)
    (opening-sized d (one_leaf pos n s) ns h) (opening-sized d (one_leaf pos m t) ms g) e
    (λ same.
    let one = one_opening d 0 pos (leaf n s) (leaf m t) ns ms (length-nodes d pos n s ns h.count) (length-nodes d pos m t ms g.count) same in
    (one.0.0, one.0.1, one.1))
