-- The first cell that isn't proved, and why.
use Rattle.std.proofs.Common.{◌≡◌, ◌∙◌, ◌↔◌, ℕ, suc, ◌+◌, ◌<◌, ◌≤◌, List, [], ◌∷◌, length, drop, get_or, Bool, false, cond, Option, Some, None, refl, sym, ap, inl, inr, arith}
use Rattle.std.specs.List.{AllByRecursion}
use Rattle.std.specs.Option.{option_map_or}
use Rattle.std.proofs.lemmas.Bool.{cases_Bool}
use Rattle.std.proofs.lemmas.List.{at_drop_more, at_drop_all}
use Rattle.data_header.specs.Headers.{Roots}
use Rattle.axis_roots.specs.declared.message.messages.Message.{Message}
use Rattle.axis_roots.specs.declared.message.messages.CheckRefusal.{CheckRefusal}
use Rattle.axis_roots.specs.Messages.{IsMessage, message_refusal}
use Rattle.axis_roots.specs.Openings.{IsProved}
use Rattle.axis_roots.specs.Claims.{ClaimParts, is_set_cell, AreProved}
use Rattle.befp_verify.specs.Refusals.{cell_refusal, refused_from}
use Rattle.namespace_id.proofs.RefusalLemmas.{both_none, none_both}

-- the first refused cell from one on: that one, or one of the later ones
refused_next : (refusal : Message → Option CheckRefusal) (cells : List Message) (i : ℕ) (m : Message) → i < length cells → m ≡ get_or cells i m
    → refused_from refusal i (drop i cells)
    ≡ option_map_or (λ why. Some (i, why)) (refusal m) (refused_from refusal (i + 1) (drop (i + 1) cells))
unfolding refused_from
refused_next refusal cells i m h is =
    let next : suc i ≡ i + 1 = omega arith in
    at_drop_more (refused_from refusal i) cells i m h
    ∙ ap (λ (x : Message). option_map_or (λ why. Some (i, why)) (refusal x) (refused_from refusal (suc i) (drop (i + 1) cells))) (sym is)
    ∙ ap (λ (n : ℕ). option_map_or (λ why. Some (i, why)) (refusal m) (refused_from refusal n (drop (i + 1) cells))) next

-- a cell that is refused
pub refused_here : (refusal : Message → Option CheckRefusal) (cells : List Message) (i : ℕ) (m : Message) (why : CheckRefusal) → i < length cells
    → m ≡ get_or cells i m → Some why ≡ refusal m → Some (i, why) ≡ refused_from refusal i (drop i cells)
refused_here refusal cells i m why h is refused =
    ap (λ (o : Option CheckRefusal). option_map_or (λ x. Some (i, x)) o (refused_from refusal (i + 1) (drop (i + 1) cells))) refused
    ∙ sym (refused_next refusal cells i m h is)

-- one that isn't is passed over
pub passed_here : (refusal : Message → Option CheckRefusal) (cells : List Message) (i : ℕ) (m : Message) → i < length cells
    → m ≡ get_or cells i m → None ≡ refusal m
    → refused_from refusal (i + 1) (drop (i + 1) cells) ≡ refused_from refusal i (drop i cells)
passed_here refusal cells i m h is passed =
    ap (λ (o : Option CheckRefusal). option_map_or (λ x. Some (i, x)) o (refused_from refusal (i + 1) (drop (i + 1) cells))) passed
    ∙ sym (refused_next refusal cells i m h is)

-- behind the last cell all have passed
pub refused_none : (refusal : Message → Option CheckRefusal) (cells : List Message) (i : ℕ) → length cells ≤ i → None ≡ refused_from refusal i (drop i cells)
unfolding refused_from
refused_none refusal cells i h = sym (at_drop_all (refused_from refusal i) cells i h)

-- ---- all cells

-- a cell that isn't the set's is proved where it isn't refused
pub cell_proved : (header : Roots) (claim : ClaimParts) (m : Message) → (message_refusal header m ≡ None) ↔ IsProved header m → cell_refusal header claim m ≡ None
    → is_set_cell claim m ≡ false → IsProved header m
cell_proved header claim m law e f = law.0 (sym (ap (λ (b : Bool). cond b None (message_refusal header m)) f) ∙ e)

-- and the other way round
cell_passed : (header : Roots) (claim : ClaimParts) (m : Message) → ((is_set_cell claim m ≡ false) → message_refusal header m ≡ None) → cell_refusal header claim m ≡ None
cell_passed header claim m h = elim (cases_Bool (is_set_cell claim m)) [
  | inl t ↦ ap (λ (b : Bool). cond b None (message_refusal header m)) t
  | inr f ↦ ap (λ (b : Bool). cond b None (message_refusal header m)) f ∙ h f
]

-- where none is refused, all are proved
pub all_proved : (header : Roots) (claim : ClaimParts) → ((m : Message) → IsMessage m → (message_refusal header m ≡ None) ↔ IsProved header m)
    → (number : ℕ) (cells : List Message) → AllByRecursion IsMessage cells → refused_from (cell_refusal header claim) number cells ≡ None
    → AreProved header claim cells
unfolding refused_from
all_proved header claim law number [] sized e = tt
all_proved header claim law number (m ∷ cells) sized e =
    let both = both_none (λ why. (number, why)) (cell_refusal header claim m) (refused_from (cell_refusal header claim) (suc number) cells) e in
    (cell_proved header claim m (law m sized.0) both.0, all_proved header claim law (suc number) cells sized.1 both.1)

-- and the other way round
pub none_refused : (header : Roots) (claim : ClaimParts) → ((m : Message) → IsMessage m → (message_refusal header m ≡ None) ↔ IsProved header m)
    → (number : ℕ) (cells : List Message) → AreProved header claim cells → refused_from (cell_refusal header claim) number cells ≡ None
unfolding refused_from
none_refused header claim law number [] all = refl
none_refused header claim law number (m ∷ cells) all =
    none_both (λ why. (number, why)) (cell_refusal header claim m) (refused_from (cell_refusal header claim) (suc number) cells)
    (cell_passed header claim m (λ f. (law m (all.0 f).sized).1 (all.0 f)))
    (none_refused header claim law (suc number) cells all.1)
