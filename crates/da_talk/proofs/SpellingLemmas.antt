-- The spelling of missing cells, as it is appended.
use Rattle.std.proofs.Common.{◌≡◌, ◌∙◌, ℕ, ◌+◌, ◌*◌, true, false, Bool, cond, List, ◌∷◌, ◌++◌, length, Some, None, IsSome, refl, ap, append_assoc}
use Rattle.std.specs.Int.{w16, w32, to_be_bytes}
use Rattle.std.specs.List.{flat_map}
use Rattle.namespace_id.specs.Cells.{CellList}
use Rattle.frame_payloads.specs.codec.Texts.{cell_bytes}
use Rattle.frame_payloads.specs.kinds.Missing.{missing_payload}
use Rattle.frame_payloads.proofs.Forms.MissingForm.{length-missing}
use Rattle.da_wire.specs.Spelling.{frame, missing_kind}

-- what stands behind two tests that pass
pub some_is : {A : Type 0} (a b : Bool) (x : A) → IsSome (cond a None (cond b None (Some x))) → cond a None (cond b None (Some x)) ≡ Some x
some_is true b x h = absurd cc
some_is false true x h = absurd cc
some_is false false x h = refl

-- a head, a width, a count and cells, one after another, are the frame
pub missing_parts : (cells : CellList) (old headed wide counted all : List ℕ)
    → headed ≡ old ++ (missing_kind ∷ to_be_bytes w32 (6 + 4 * length cells.list)) → wide ≡ headed ++ to_be_bytes w16 cells.k
    → counted ≡ wide ++ to_be_bytes w32 (length cells.list) → all ≡ counted ++ flat_map cell_bytes cells.list
    → all ≡ old ++ frame missing_kind (missing_payload cells)
missing_parts cells old headed wide counted all a b c d =
    let front : List ℕ = old ++ (missing_kind ∷ to_be_bytes w32 (6 + 4 * length cells.list)) in
    let width : List ℕ = to_be_bytes w16 cells.k in
    let count : List ℕ = to_be_bytes w32 (length cells.list) in
    let text : List ℕ = flat_map cell_bytes cells.list in
    d ∙ ap (λ (l : List ℕ). l ++ text) (c ∙ ap (λ (l : List ℕ). l ++ count) (b ∙ ap (λ (l : List ℕ). l ++ width) a) ∙ append_assoc front width count)
    ∙ append_assoc front (width ++ count) text
    ∙ append_assoc old (missing_kind ∷ to_be_bytes w32 (6 + 4 * length cells.list)) (missing_payload cells)
    ∙ ap (λ (n : ℕ). old ++ (missing_kind ∷ to_be_bytes w32 n ++ missing_payload cells)) (length-missing cells)
