-- A fraud claim that is read of a payload is what the payload spells, and the payload that one has is read.
use Rattle.std.proofs.Common.{◌≡◌, ◌∙◌, ℕ, ◌^◌, ◌<◌, ◌≤◌, nat_lt, Bool, true, false, not, ◌&&◌, List, ◌++◌, length, Option, None, Some, refl, sym, ap, subst, inl, inr, arith, append_assoc, ltb-false, le-ltb}
use Rattle.std.specs.Prelude.{◌⊎◌}
use Rattle.std.specs.Int.{w16}
use Rattle.std.specs.List.{list_all, list_any}
use Rattle.std.proofs.lemmas.Bool.{and_parts, and_from, or_parts, or_from, not-true, not-false, not_from_true, not_from_false}
use Rattle.namespace_id.specs.declared.digests.Digest.{Digest}
use Rattle.namespace_id.specs.Bytes.{AreBytes}
use Rattle.axis_roots.specs.Sets.{is_along}
use Rattle.axis_roots.specs.Claims.{ClaimParts, IsClaim}
use Rattle.frame_payloads.specs.codec.Texts.{list_bytes, digest_list}
use Rattle.frame_payloads.specs.kinds.Fraud.{most_cells, most_set_nodes, is_cell_placed, fits_form, is_unwritten, cell_payload, plain_payload, set_payload, payload_by, fraud_payload, accused_at, plain_at, with_set_at, either, fraud_at}
use Rattle.frame_payloads.proofs.Forms.AccusedForm.{text, accused_other}
use Rattle.frame_payloads.proofs.Forms.PlainForm.{IsPlain, plain_takes, plain_again}
use Rattle.frame_payloads.proofs.Forms.PlainForm.{claim as plain_claim}
use Rattle.frame_payloads.proofs.Forms.SetForm.{claim as set_claim}
use Rattle.frame_payloads.proofs.Forms.SetForm.{IsWith, with_set_takes, with_set_again}
use Rattle.frame_payloads.proofs.Forms.Form.{IsForm}

-- ---- two grammars

-- what is read is read by one grammar or the other
pub either_one : {A : Type 0} (r other : Option A) (x : A) → either r other ≡ Some x → (r ≡ Some x) ⊎ (other ≡ Some x)
either_one None other x e = inr e
either_one (Some y) other x e = inl e

-- what the first can't read is left to the second
pub either_second : {A : Type 0} (r other : Option A) → r ≡ None → either r other ≡ other
either_second {A} r other e = ap (λ (o : Option A). either o other) e

-- ---- claims that can be written

-- the cells of a claim that can be written fit its set, and aren't too many
pub written_parts : (claim : ClaimParts) → is_unwritten claim ≡ false → (fits_form claim claim.set ≡ true) × (length claim.cells ≤ most_cells)
written_parts claim e =
    let parts = or_parts (not (fits_form claim claim.set)) (nat_lt most_cells (length claim.cells)) e in
    (not-false (fits_form claim claim.set) parts.0, ltb-false most_cells (length claim.cells) parts.1)

-- a claim whose cells fit its set and aren't too many can be written
pub written_from : (claim : ClaimParts) → fits_form claim claim.set ≡ true → length claim.cells ≤ most_cells → is_unwritten claim ≡ false
written_from claim fits few =
    or_from (not (fits_form claim claim.set)) (nat_lt most_cells (length claim.cells)) (not_from_true (fits_form claim claim.set) fits) (le-ltb most_cells (length claim.cells) few)

-- what cells that fit a set tell
pub record Fits (claim : ClaimParts) (nodes : List Digest) : Type 0 where
  pub placed : list_all (is_cell_placed claim) claim.cells ≡ true
  pub some : list_any (is_along claim.axis) claim.cells ≡ true
  pub few : length nodes ≤ most_set_nodes

-- cells that fit a set are placed, the set shows one, and it has few nodes
pub fits_parts : (claim : ClaimParts) (nodes : List Digest) → fits_form claim (Some nodes) ≡ true → Fits claim nodes
fits_parts claim nodes e =
    let placed : Bool = list_all (is_cell_placed claim) claim.cells in
    let some : Bool = list_any (is_along claim.axis) claim.cells in
    let last = and_parts (placed && some) (not (nat_lt most_set_nodes (length nodes))) e in
    let both = and_parts placed some last.0 in
    record { placed = both.0; some = both.1; few = ltb-false most_set_nodes (length nodes) (not-true (nat_lt most_set_nodes (length nodes)) last.1) }

-- and such cells fit it
pub fits_from : (claim : ClaimParts) (nodes : List Digest) → Fits claim nodes → fits_form claim (Some nodes) ≡ true
fits_from claim nodes h =
    let placed : Bool = list_all (is_cell_placed claim) claim.cells in
    let some : Bool = list_any (is_along claim.axis) claim.cells in
    and_from (placed && some) (not (nat_lt most_set_nodes (length nodes))) (and_from placed some h.placed h.some) (not_from_false (nat_lt most_set_nodes (length nodes)) (le-ltb most_set_nodes (length nodes) h.few))

-- ---- claims

-- what a payload that is read as a claim tells
abbrev IsRead : List ℕ → ClaimParts → Type 0
IsRead payload x = IsClaim x × (payload ≡ fraud_payload x) × (is_unwritten x ≡ false)

-- a claim without a set is what its payload spells
plain_read : (payload : List ℕ) (x : ClaimParts) → IsPlain payload x → IsRead payload x
plain_read payload x h =
    let spelled : fraud_payload x ≡ plain_payload x = ap (payload_by x) h.plain in
    let fits : fits_form x x.set ≡ true = ap (fits_form x) h.plain in
    (h.is, h.spelled ∙ sym spelled, written_from x fits h.few)

-- so is a claim with one
with_set_read : (payload : List ℕ) (x : ClaimParts) (nodes : List Digest) → IsWith payload x nodes → IsRead payload x
with_set_read payload x nodes h =
    let spelled : fraud_payload x ≡ set_payload x nodes = ap (payload_by x) h.has in
    let fits : fits_form x x.set ≡ true = ap (fits_form x) h.has ∙ fits_from x nodes (record { placed = h.placed; some = h.some; few = h.few_nodes }) in
    (h.is, h.spelled ∙ sym spelled, written_from x fits h.few)

-- a claim that is read of a payload is what the payload spells
fraud_takes : (payload : List ℕ) (x : ClaimParts) → AreBytes payload → fraud_at payload ≡ Some x → IsRead payload x
fraud_takes payload x fits e = elim (either_one (plain_at payload) (with_set_at payload) x e) [
  | inl first ↦ plain_read payload x (plain_takes payload x fits first)
  | inr second ↦ let r = with_set_takes payload x fits second in with_set_read payload x r.0 r.1
]

-- the payload of a claim with a set is none of a claim without one
other_form : (claim : ClaimParts) (nodes : List Digest) → plain_at (set_payload claim nodes) ≡ None
unfolding plain_at
other_form claim nodes =
    let list : List ℕ = list_bytes w16 (cell_payload claim.axis) claim.cells in
    let front : List ℕ = text 2 (claim.axis, claim.index) in
    let none : accused_at 1 (set_payload claim nodes) ≡ None =
    ap (accused_at 1) (append_assoc front list (digest_list nodes)) ∙ accused_other 1 2 (claim.axis, claim.index) (list ++ digest_list nodes) refl in
    rw none refl

-- the payload of a claim that can be written is read as the claim, by whether it has a set
again_by : (x : ClaimParts) (set : Option (List Digest)) → x.set ≡ set → IsClaim x → fits_form x set ≡ true → length x.cells ≤ most_cells → length (payload_by x set) < 2 ^ 32
    → fraud_at (payload_by x set) ≡ Some x
again_by x None same is fits few small =
    let made : ClaimParts = plain_claim (x.axis, x.index) x.cells in
    let whole : made ≡ x = ap (λ (s : Option (List Digest)). record { axis = x.axis; index = x.index; cells = x.cells; set = s }) (sym same) in
    let read : plain_at (plain_payload x) ≡ Some made =
    plain_again (x.axis, x.index) x.cells (record { index_bytes = is.index_bytes; messages = is.messages; digests = tt }) few small in
    ap (λ (o : Option ClaimParts). either o (with_set_at (plain_payload x))) read ∙ ap (λ (y : ClaimParts). Some y) whole
again_by x (Some nodes) same is fits few small =
    let made : ClaimParts = set_claim (x.axis, x.index) x.cells nodes in
    let whole : made ≡ x = ap (λ (s : Option (List Digest)). record { axis = x.axis; index = x.index; cells = x.cells; set = s }) (sym same) in
    let parts = fits_parts x nodes fits in
    let are : IsClaim made = subst (λ (y : ClaimParts). IsClaim y) (sym whole) is in
    let read : with_set_at (set_payload x nodes) ≡ Some made =
    with_set_again (x.axis, x.index) x.cells nodes are parts.placed parts.some parts.few few small in
    either_second (plain_at (set_payload x nodes)) (with_set_at (set_payload x nodes)) (other_form x nodes) ∙ read ∙ ap (λ (y : ClaimParts). Some y) whole

-- the payload of a claim that can be written is read as the claim
fraud_again : (x : ClaimParts) → IsClaim x → is_unwritten x ≡ false → length (fraud_payload x) < 2 ^ 32 → fraud_at (fraud_payload x) ≡ Some x
fraud_again x is written small =
    let parts = written_parts x written in
    again_by x x.set refl is parts.0 parts.1 small

-- the form of this kind
pub fraud_form : IsForm IsClaim fraud_at fraud_payload is_unwritten
fraud_form = record {
  takes = fraud_takes;
  again = λ x is written few. fraud_again x is written (omega arith);
}
