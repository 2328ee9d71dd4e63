-- k positions of a row or a column, and the codeword through their shares.
use Rattle.std.proofs.Common.{◌≡◌, ◌∙◌, ℕ, zero, suc, ◌-◌, ◌*◌, ◌<◌, ◌≤◌, List, [], ◌∷◌, ◌++◌, length, get_or, Bool, true, refl, sym, ap, subst, arith, IsTrue, length-append, inl, inr}
use Rattle.std.specs.Prelude.{Some, nat_lt, if◌then◌else◌}
use Rattle.std.specs.List.{Contains, list_all}
use Rattle.std.proofs.lemmas.Bool.{cases_Bool, and_from, and_parts}
use Rattle.std.proofs.lemmas.Bool.Decides.{nat_tests}
use Rattle.std.proofs.lemmas.List.{get_or_default}
use Rattle.std.proofs.lemmas.Option.{slice_get-get_or, get_or_from_slice_get}
use Rattle.namespace_id.specs.declared.shares.Share.{Share}
use Rattle.namespace_id.specs.Shares.{IsShare, AreShares}
use Rattle.namespace_id.specs.Cells.{is_width}
use Rattle.namespace_id.specs.Lists.{holds_along, ascending}
use Rattle.namespace_id.proofs.AscendingLemmas.{length-ascending}
use Rattle.leopard_code.specs.Codewords.{IsCodeword}
use Rattle.leopard_code.proofs.LawLemmas.{one_codeword, through_shares}
use Rattle.leopard_code.proofs.PositionLemmas.{position-lt}
use Rattle.axis_roots.specs.Lines.{blank, entry}
use Rattle.axis_roots.proofs.Grids.WordLemmas.{first_positions}
use Rattle.befp_maker.specs.Conflicts.{positions_with}
use Rattle.repair_queue.specs.Closures.{AreChosen}
use Rattle.namespace_id.proofs.MemberLemmas.{contains_head, contains_tail}
use Rattle.namespace_id.proofs.AscentLemmas.{along_then}
use Rattle.namespace_id.proofs.RoomLemmas.{all_next}

-- a number of a list that stands at a place of it
at_place : (chosen : List ℕ) (i : ℕ) → i < length chosen → Contains chosen (get_or chosen i 0)
at_place chosen i h = (i, h, get_or_default chosen i (get_or chosen i 0) 0 h)

-- chosen positions are below 2k
pub chosen-lt : (k : ℕ) (chosen : List ℕ) → AreChosen k chosen → (p : ℕ) → Contains chosen p → p < 2 * k
chosen-lt k chosen are p (i, h, e) =
    subst (λ (q : ℕ). q < 2 * k) (get_or_default chosen i 0 p h ∙ e) (position-lt k chosen i h are.positions)

-- the first k positions may be chosen
pub first_chosen : (k : ℕ) → AreChosen k (ascending 0 k)
first_chosen k = record { count = length-ascending k 0; positions = first_positions k }

-- numbers below one are below a greater one
pub below_most : (n m : ℕ) (known : List ℕ) → n ≤ m → list_all (λ p. nat_lt p n) known ≡ true → list_all (λ p. nat_lt p m) known ≡ true
below_most n m [] le e = refl
below_most n m (p ∷ known) le e =
    let both = and_parts (nat_lt p n) (list_all (λ q. nat_lt q n) known) e in
    let low : nat_lt p n ≡ true = both.0 in
    let here : nat_lt p m ≡ true = grind (arith, nat_tests) in
    and_from (nat_lt p m) (list_all (λ q. nat_lt q m) known) here (below_most n m known le both.1)

-- a position and the first k - 1 others may be chosen
pub with_chosen : (k pos : ℕ) → 0 < k → pos < 2 * k → AreChosen k (positions_with k pos)
unfolding positions_with
with_chosen k pos some below = elim (cases_Bool (nat_lt pos k)) [
  | inl among ↦ subst (λ (b : Bool). AreChosen k (if b then ascending 0 k else ascending 0 (k - 1) ++ pos ∷ [])) (sym among) (first_chosen k)
  | inr behind ↦
      let past : k ≤ pos = grind (arith, nat_tests) in
      let here : nat_lt pos (2 * k) ≡ true = grind (arith, nat_tests) in
      let first = and_parts (list_all (λ p. nat_lt p (2 * (k - 1))) (ascending 0 (k - 1))) (holds_along nat_lt (ascending 0 (k - 1))) (first_positions (k - 1)) in
      let chosen : AreChosen k (ascending 0 (k - 1) ++ pos ∷ []) = record {
        count = omega (arith, length-append (ascending 0 (k - 1)) (pos ∷ []), length-ascending (k - 1) 0);
        positions = and_from (list_all (λ p. nat_lt p (2 * k)) (ascending 0 (k - 1) ++ pos ∷ [])) (holds_along nat_lt (ascending 0 (k - 1) ++ pos ∷ []))
            (all_next (λ p. nat_lt p (2 * k)) (ascending 0 (k - 1)) pos (below_most (2 * (k - 1)) (2 * k) (ascending 0 (k - 1)) (omega arith) first.0) here)
            (along_then (k - 1) 0 pos (omega arith));
      } in
      subst (λ (b : Bool). AreChosen k (if b then ascending 0 k else ascending 0 (k - 1) ++ pos ∷ [])) (sym behind) chosen
]

-- where k isn't 0 some position is chosen
pub some_chosen : (k : ℕ) (chosen : List ℕ) → 0 < k → AreChosen k chosen → (p : ℕ) × Contains chosen p
some_chosen k [] some are = absurd (omega (arith, are.count))
some_chosen k (p ∷ chosen) some are = (p, contains_head p chosen)

-- shares that are there for each of some positions, as a list
gathered : (P : ℕ → Share → Type 0) (chosen : List ℕ) → ((p : ℕ) → Contains chosen p → (share : Share) × IsShare share × P p share)
    → (shares : List Share) × (length shares ≡ length chosen) × AreShares shares × ((i : ℕ) → i < length chosen → P (get_or chosen i 0) (get_or shares i blank))
gathered P [] each = ([], refl, tt, λ i h. absurd (omega arith))
gathered P (p ∷ chosen) each =
    let one = each p (contains_head p chosen) in
    let rest = gathered P chosen (λ q at. each q (contains_tail p q chosen at)) in
    (one.0 ∷ rest.0, ap suc rest.1, (one.1, rest.2), gathered_next P p chosen one.0 rest.0 one.2 rest.3)
  where
    gathered_next : (P : ℕ → Share → Type 0) (p : ℕ) (chosen : List ℕ) (share : Share) (shares : List Share) → P p share
        → ((i : ℕ) → i < length chosen → P (get_or chosen i 0) (get_or shares i blank))
        → (i : ℕ) → i < length (p ∷ chosen) → P (get_or (p ∷ chosen) i 0) (get_or (share ∷ shares) i blank)
    gathered_next P p chosen share shares here rest zero h = here
    gathered_next P p chosen share shares here rest (suc i) h = rest i (omega arith)

-- through shares at k positions goes a codeword
pub codeword_through : (k : ℕ) (chosen : List ℕ) (P : ℕ → Share → Type 0) → IsTrue (is_width k) → AreChosen k chosen
    → ((p : ℕ) → Contains chosen p → (share : Share) × IsShare share × P p share)
    → (word : List Share) × IsCodeword k word × ((p : ℕ) → Contains chosen p → P p (entry word p))
codeword_through k chosen P width are each =
    let known = gathered P chosen each in
    let shares : List Share = known.0 in
    let made = through_shares k chosen shares width are.count are.positions (known.1 ∙ are.count) known.2 in
    let word : List Share = made.0 in (
      word,
      made.1,
      λ p at.
          let i : ℕ = at.0 in
          let h : i < length chosen = at.1 in
          let place : get_or chosen i 0 ≡ p = get_or_default chosen i 0 p h ∙ at.2 in
          let same : get_or word (get_or chosen i 0) blank ≡ get_or shares i blank =
          get_or_from_slice_get word (get_or chosen i 0) (get_or shares i blank) blank
          (made.2 i h ∙ slice_get-get_or shares i blank (omega (arith, known.1))) in
          subst (λ (q : ℕ). P q (entry word q)) place (subst (P (get_or chosen i 0)) (sym same) (known.3 i h)),
    )

-- two codewords with the same shares at k positions are one
pub codeword_once : (k : ℕ) (chosen : List ℕ) (word other : List Share) → IsTrue (is_width k) → AreChosen k chosen → IsCodeword k word → IsCodeword k other
    → ((p : ℕ) → Contains chosen p → entry word p ≡ entry other p) → word ≡ other
codeword_once k chosen word other width are first second same =
    one_codeword k chosen word other width are.count are.positions first second (λ i h.
    let known : i < length chosen = omega (arith, are.count) in
    let p : ℕ = get_or chosen i 0 in
    let below : p < 2 * k = position-lt k chosen i known are.positions in
    slice_get-get_or word p blank (omega (arith, first.count)) ∙ ap Some (same p (at_place chosen i known))
    ∙ sym (slice_get-get_or other p blank (omega (arith, second.count))))
