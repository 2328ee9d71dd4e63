-- The answers to an absence, by the nodes and by the digest of its leaf.
use Rattle.std.proofs.Common.{◌≡◌, ◌∙◌, ℕ, ◌+◌, List, [], ◌∷◌, ◌++◌, Bool, true, false, cond, Option, Some, None, Result, Ok, Err, ap, ap₂, sym, subst, refl, length, take, drop, arith}
use Rattle.std.specs.Option.{option_or}
use Rattle.std.proofs.Math.Seq.{take-append_seam, drop-append_seam}
use Rattle.std.proofs.lemmas.Bool.{eqb-true, le-ltb}
use Rattle.namespace_id.specs.declared.namespaces.Namespace.{Namespace}
use Rattle.namespace_id.specs.declared.digests.Digest.{Digest}
use Rattle.nmt_proofs.specs.declared.opening.OpenRefusal.{OpenRefusal}
use Rattle.nmt_proofs.specs.Openings.{outside, has_count, has_order, has_root, one_digest}
use Rattle.nmt_proofs.specs.Complete.{excludes, first_break, absence_break}
use Rattle.nmt_proofs.specs.Causes.{HasCause}
use Rattle.nmt_proofs.proofs.Agreement.BreakLemmas.{first_break-append, first_break-one}
use Rattle.nmt_proofs.proofs.Parts.CauseLemmas.{still_refused}

-- the first break of an absence's nodes alone
abbrev pub nodes_break : ℕ → ℕ → Namespace → Digest → List Digest → Option ℕ
nodes_break d pos name leaf ns = first_break name pos 0 (outside d 0 (one_digest pos leaf)) ns

-- that of an absence, by that of its nodes
absence_break-is : (d pos : ℕ) (name : Namespace) (leaf : Digest) (ns : List Digest) → has_count d (one_digest pos leaf) ns ≡ true
    → absence_break d pos name leaf ns ≡ option_or (nodes_break d pos name leaf ns) (cond (excludes name false leaf) None (Some (length ns)))
absence_break-is d pos name leaf ns h =
    let xs : List (ℕ × ℕ) = outside d 0 (one_digest pos leaf) in
    let e : length ns ≡ length xs = eqb-true (length ns) (length xs) h in
    let number : 0 + length xs ≡ length ns = omega (arith, e) in
    let Front : List Digest → Option ℕ = λ l. first_break name pos 0 xs l in
    first_break-append name pos 0 xs ((pos, 0) ∷ []) (ns ++ leaf ∷ [])
    ∙ ap (λ (k : ℕ). option_or (Front (take k (ns ++ leaf ∷ []))) (first_break name pos (0 + length xs) ((pos, 0) ∷ []) (drop k (ns ++ leaf ∷ [])))) (sym e)
    ∙ ap₂ (λ (x y : List Digest). option_or (Front x) (first_break name pos (0 + length xs) ((pos, 0) ∷ []) y)) (take-append_seam ns (leaf ∷ [])) (drop-append_seam ns (leaf ∷ []))
    ∙ ap (λ (o : Option ℕ). option_or (Front ns) o) (first_break-one name pos (0 + length xs) (pos, 0) (leaf ∷ []) leaf refl)
    ∙ ap₂ (λ (b : Bool) (k : ℕ). option_or (Front ns) (cond (excludes name b leaf) None (Some k))) (le-ltb pos pos (omega arith)) number

-- an answer to an absence has its cause
abbrev pub IsAnswer : ℕ → ℕ → Namespace → Digest → List Digest → Digest → Result (Unit {0}) OpenRefusal → Type 0
IsAnswer d pos name leaf ns root r =
    HasCause r (has_count d (one_digest pos leaf) ns) (has_order d (one_digest pos leaf) ns) (has_root d (one_digest pos leaf) ns root) (absence_break d pos name leaf ns)

-- an answer that the nodes alone give has its cause
abbrev pub IsNodesAnswer : ℕ → ℕ → Namespace → Digest → List Digest → Digest → Result (Unit {0}) OpenRefusal → Type 0
IsNodesAnswer d pos name leaf ns root r =
    HasCause r (has_count d (one_digest pos leaf) ns) (has_order d (one_digest pos leaf) ns) (has_root d (one_digest pos leaf) ns root) (nodes_break d pos name leaf ns)

-- a refusal by the nodes is one of the absence
pub absence_refused : (d pos : ℕ) (name : Namespace) (leaf : Digest) (ns : List Digest) (root : Digest) (e : OpenRefusal) (r result : Result (Unit {0}) OpenRefusal)
    → IsNodesAnswer d pos name leaf ns root r → r ≡ Err e → result ≡ Err e → IsAnswer d pos name leaf ns root result
absence_refused d pos name leaf ns root e r result h refused passed =
    subst (IsAnswer d pos name leaf ns root) (refused ∙ sym passed) (still_refused e r _ _ _ _ _ h refused (λ i count b.
    absence_break-is d pos name leaf ns count ∙ ap (λ (o : Option ℕ). option_or o (cond (excludes name false leaf) None (Some (length ns)))) b))

-- where the nodes are accepted all checks hold, and the leaf decides
pub absence_by_leaf : (d pos : ℕ) (name : Namespace) (leaf : Digest) (ns : List Digest) (root : Digest) (r : Result (Unit {0}) OpenRefusal) (b : Bool)
    → IsNodesAnswer d pos name leaf ns root r → r ≡ Ok tt → b ≡ excludes name false leaf
    → (has_count d (one_digest pos leaf) ns ≡ true) × (has_order d (one_digest pos leaf) ns ≡ true) × (has_root d (one_digest pos leaf) ns root ≡ true)
    × (absence_break d pos name leaf ns ≡ cond b None (Some (length ns)))
absence_by_leaf d pos name leaf ns root r b h opened test =
    let all = subst (IsNodesAnswer d pos name leaf ns root) opened h in (
      all.0,
      all.1,
      all.2,
      absence_break-is d pos name leaf ns all.0
          ∙ ap (λ (o : Option ℕ). option_or o (cond (excludes name false leaf) None (Some (length ns)))) all.3
          ∙ ap (λ (c : Bool). cond c None (Some (length ns))) (sym test),
    )
