-- The first cell that isn't proved: what stands before it, and why it isn't.
use Rattle.std.proofs.Common.{◌≡◌, ◌∙◌, ◌↔◌, ℕ, suc, ◌+◌, List, [], ◌∷◌, ◌++◌, length, Bool, false, cond, Option, Some, None, refl, sym, ap, inl, inr, arith}
use Rattle.std.specs.List.{AllByRecursion}
use Rattle.std.specs.Option.{option_map_or}
use Rattle.std.proofs.lemmas.Option.{none-some}
use Rattle.std.proofs.lemmas.Bool.{cases_Bool}
use Rattle.data_header.specs.Headers.{Roots}
use Rattle.axis_roots.specs.declared.message.messages.Message.{Message}
use Rattle.axis_roots.specs.declared.message.messages.CheckRefusal.{CheckRefusal}
use Rattle.axis_roots.specs.Messages.{IsMessage, message_refusal}
use Rattle.axis_roots.specs.Openings.{IsProved}
use Rattle.axis_roots.specs.Claims.{ClaimParts, IsClaim, is_set_cell, AreProved}
use Rattle.befp_verify.specs.Refusals.{cell_refusal, refused_from, first_unproved, IsFirstUnproved}
use Rattle.befp_verify.proofs.UnprovedLemmas.{cell_proved}

-- the first one, where the cells are counted from some number on
record FoundFrom (header : Roots) (claim : ClaimParts) (number : ℕ) (cells : List Message) (i : ℕ) (why : CheckRefusal) : Type 0 where
  pub before : List Message
  pub cell : Message
  pub after : List Message
  pub parts : cells ≡ before ++ cell ∷ after
  pub number_is : i ≡ number + length before
  pub proved : AreProved header claim before
  pub refused : cell_refusal header claim cell ≡ Some why

-- a cell that is refused is the first itself; one that isn't stands before the first of the others
found_at : (header : Roots) (claim : ClaimParts) (number : ℕ) (m : Message) (cells : List Message) (i : ℕ) (why : CheckRefusal) (o : Option CheckRefusal)
    → (message_refusal header m ≡ None) ↔ IsProved header m → cell_refusal header claim m ≡ o
    → (refused_from (cell_refusal header claim) (suc number) cells ≡ Some (i, why) → FoundFrom header claim (suc number) cells i why)
    → option_map_or (λ x. Some (number, x)) o (refused_from (cell_refusal header claim) (suc number) cells) ≡ Some (i, why)
    → FoundFrom header claim number (m ∷ cells) i why
found_at header claim number m cells i why None law is later e =
    let rest = later e in
    record {
      before = m ∷ rest.before;
      cell = rest.cell;
      after = rest.after;
      parts = ap (λ (l : List Message). m ∷ l) rest.parts;
      number_is = omega (arith, rest.number_is);
      proved = (cell_proved header claim m law is, rest.proved);
      refused = rest.refused;
    }
found_at header claim number m cells i why (Some w) law is later e =
    let one : number ≡ i = ap (λ (x : Option (ℕ × CheckRefusal)). option_map_or (λ p. p.0) x 0) e in
    record {
      before = [];
      cell = m;
      after = cells;
      parts = refl;
      number_is = omega (arith, one);
      proved = tt;
      refused = is ∙ ap (λ (x : Option (ℕ × CheckRefusal)). option_map_or (λ p. Some p.1) x None) e;
    }

-- of cells
found_from : (header : Roots) (claim : ClaimParts) → ((m : Message) → IsMessage m → (message_refusal header m ≡ None) ↔ IsProved header m)
    → (number : ℕ) (cells : List Message) (i : ℕ) (why : CheckRefusal) → AllByRecursion IsMessage cells
    → refused_from (cell_refusal header claim) number cells ≡ Some (i, why) → FoundFrom header claim number cells i why
unfolding refused_from
found_from header claim law number [] i why sized e = absurd (none-some _ e)
found_from header claim law number (m ∷ cells) i why sized e =
    found_at header claim number m cells i why (cell_refusal header claim m) (law m sized.0) refl
    (λ later. found_from header claim law (suc number) cells i why sized.1 later) e

-- a cell that is refused isn't the set's
refused_own : (header : Roots) (claim : ClaimParts) (m : Message) (why : CheckRefusal) → cell_refusal header claim m ≡ Some why
    → (is_set_cell claim m ≡ false) × (message_refusal header m ≡ Some why)
refused_own header claim m why e = elim (cases_Bool (is_set_cell claim m)) [
  | inl t ↦ absurd (none-some why (sym (ap (λ (b : Bool). cond b None (message_refusal header m)) t) ∙ e))
  | inr f ↦ (f, sym (ap (λ (b : Bool). cond b None (message_refusal header m)) f) ∙ e)
]

-- the one that a refusal names
pub first_cell : (header : Roots) (claim : ClaimParts) (i : ℕ) (why : CheckRefusal) → ((m : Message) → IsMessage m → (message_refusal header m ≡ None) ↔ IsProved header m)
    → IsClaim claim → first_unproved header claim ≡ Some (i, why) → IsFirstUnproved header claim i why
first_cell header claim i why law is e =
    let found = found_from header claim law 0 claim.cells i why is.messages e in
    let own = refused_own header claim found.cell why found.refused in
    record {
      before = found.before;
      cell = found.cell;
      after = found.after;
      parts = found.parts;
      number = omega (arith, found.number_is);
      proved = found.proved;
      own = own.0;
      refused = own.1;
    }
