-- For which plan and events a node stands after a call.
use Rattle.std.proofs.Common.{◌≡◌, ◌∙◌, ℕ, ◌*◌, List, [], ◌∷◌, ◌++◌, length, take, Bool, true, false, true≢false, Option, Some, None, is_some, slice_get, refl, sym, subst, ap, inl, inr, arith}
use Rattle.std.specs.Prelude.{◌↔◌, ◌⊎◌}
use Rattle.namespace_id.proofs.RoomLemmas.{all_each}
use Rattle.light_node.proofs.ListLemmas.{listed_at}
use Rattle.namespace_id.specs.declared.cells.Cell.{Cell}
use Rattle.std.specs.List.{list_all}
use Rattle.namespace_id.specs.Cells.{is_width, is_in_square}
use Rattle.namespace_id.proofs.StringLemmas.{front}
use Rattle.data_header.specs.Headers.{Roots}
use Rattle.axis_roots.specs.declared.message.messages.Message.{Message}
use Rattle.axis_roots.specs.Openings.{IsProved}
use Rattle.axis_roots.specs.Claims.{ClaimParts, Accepts}
use Rattle.light_node.specs.declared.events.Event.{Event}
use Rattle.light_node.specs.declared.events.Event.TheVariants.{Sample, Claim}
use Rattle.light_node.specs.Events.{NoneAccepted, IsFirstAccepted}
use Rattle.light_node.specs.Plans.{PicksInside}
use Rattle.light_node.specs.Nodes.{NodeParts, IsNode, NodeStands, is_marked, AreMarkedBefore, IsUnmarkedAt}
use Rattle.light_node.proofs.EventLemmas.{stays_shown, claim_shows, sample_shows, shows_cell, first_kept, first_by_sample, first_by_claim, none_by_claim}

-- ---- the first accepted claim

-- a kept claim stays
pub kept_first : (header : Roots) (events : List Event) (event : Event) (kept : Option ClaimParts) → is_some kept ≡
    true
    → IsFirstAccepted header events kept → IsFirstAccepted header (events ++ event ∷ []) kept
kept_first header events event None some first = absurd (true≢false (sym some))
kept_first header events event (Some claim) some first = first_kept header events event claim first

-- where none is kept, none was accepted
pub none_kept : (header : Roots) (events : List Event) (kept : Option ClaimParts) → is_some kept ≡ false
    → IsFirstAccepted header events kept → NoneAccepted header events
none_kept header events None none first = first
none_kept header events (Some claim) none first = absurd (true≢false none)

-- one that isn't accepted isn't kept
pub refused_first : (header : Roots) (events : List Event) (claim : ClaimParts) (kept : Option ClaimParts) → is_some
    kept ≡ false
    → IsFirstAccepted header events kept → (Accepts header claim → ⊥)
    → IsFirstAccepted header (events ++ Claim claim ∷ []) kept
refused_first header events claim None none first refused = none_by_claim header events claim first refused
refused_first header events claim (Some other) none first refused = absurd (true≢false none)

-- one that is accepted is, where none was
pub accepted_first : (header : Roots) (events : List Event) (claim : ClaimParts) (kept new : Option ClaimParts)
    → is_some kept ≡ false → IsFirstAccepted header events kept → Accepts header claim → new ≡ Some claim
    → IsFirstAccepted header (events ++ Claim claim ∷ []) new
accepted_first header events claim kept new none first accepts is =
    subst (IsFirstAccepted header (events ++ Claim claim ∷ [])) (sym is)
    (first_by_claim header events claim (none_kept header events kept none first) accepts)

-- ---- marks

-- the marks of a list and that of one more cell
abbrev pub AreMarkedToo : ℕ → List Bool → List Bool → Cell → Type 0
AreMarkedToo k old new cell = (other : Cell) → is_in_square k other ≡ true
    → (is_marked k new other ≡ true) ↔ ((is_marked k old other ≡ true) ⊎ (cell ≡ other))

-- also by other names
marked_too_at : (k m : ℕ) (old same new : List Bool) (cell : Cell) → k ≡ m → old ≡ same
    → AreMarkedToo k old new cell → AreMarkedToo m same new cell
marked_too_at k m old same new cell e f are =
    subst (λ (l : List Bool). AreMarkedToo m l new cell) f (subst (λ (n : ℕ). AreMarkedToo n old new cell) e are)

-- and where the marks were lent whole
pub lent_marks : (k m n : ℕ) (old same new rest : List Bool) (cell : Cell) → k ≡ m → old ≡ same → length new ≡ n
    → AreMarkedToo k old new cell → AreMarkedToo m same (take n (new ++ rest)) cell
lent_marks k m n old same new rest cell e f count are =
    subst (λ (l : List Bool). AreMarkedToo m same l cell) (sym (front new rest n count))
    (marked_too_at k m old same new cell e f are)

-- the cells in front of a place are marked, also by other names
pub before_at : (k m : ℕ) (marks same : List Bool) (cells listed : List Cell) (next : ℕ) → k ≡ m → marks ≡ same → cells
    ≡ listed
    → AreMarkedBefore m same listed next → AreMarkedBefore k marks cells next
before_at k m marks same cells listed next e f g before =
    subst (λ (n : ℕ). AreMarkedBefore n marks cells next) (sym e)
    (subst (λ (l : List Bool). AreMarkedBefore m l cells next) (sym f)
    (subst (λ (l : List Cell). AreMarkedBefore m same l next) (sym g) before))

-- and the cell at a place isn't
pub unmarked_at : (k m : ℕ) (marks same : List Bool) (cells listed : List Cell) (next : ℕ) → k ≡ m → marks ≡ same →
    cells ≡ listed
    → IsUnmarkedAt m same listed next → IsUnmarkedAt k marks cells next
unmarked_at k m marks same cells listed next e f g unmarked =
    subst (λ (n : ℕ). IsUnmarkedAt n marks cells next) (sym e)
    (subst (λ (l : List Bool). IsUnmarkedAt m l cells next) (sym f)
    (subst (λ (l : List Cell). IsUnmarkedAt m same l next) (sym g) unmarked))

-- ---- what a node stands for

module _ {F : Type 0} (picks : F → ℕ → Cell → Type 0) (node : NodeParts F) (plan : List Cell) (events : List Event)
    (stands : NodeStands picks node plan events) where
  -- a claim shows no cell
  pub stands_claim : (claim : ClaimParts) (kept : Option ClaimParts)
      → IsFirstAccepted node.header (events ++ Claim claim ∷ []) kept
      → NodeStands picks (record node { claim = kept }) plan (events ++ Claim claim ∷ [])
  stands_claim claim kept first = record {
    count = stands.count;
    picked = stands.picked;
    wanted = stands.wanted;
    shown = λ cell within. (
      λ marked. stays_shown node.header events (Claim claim) cell ((stands.shown cell within).0 marked),
      λ shown. (stands.shown cell within).1 (claim_shows node.header events claim cell shown),
    );
    claim = first;
  }

  -- a sample that isn't proved shows none either
  pub stands_refused : (m : Message) → (IsProved node.header m → ⊥) → NodeStands picks node plan (events ++ Sample m ∷
      [])
  stands_refused m refused = record {
    count = stands.count;
    picked = stands.picked;
    wanted = stands.wanted;
    shown = λ cell within. (
      λ marked. stays_shown node.header events (Sample m) cell ((stands.shown cell within).0 marked),
      λ shown. elim (sample_shows node.header events m cell shown) [
        | inl before ↦ (stands.shown cell within).1 before
        | inr is ↦ absurd (refused is.0)
      ],
    );
    claim = first_by_sample node.header events m node.claim stands.claim;
  }

  -- nor does one of a cell that is marked show another
  pub stands_marked : (m : Message) → is_in_square node.header.k m.cell ≡ true
      → is_marked node.header.k node.shown m.cell ≡ true → NodeStands picks node plan (events ++ Sample m ∷ [])
  stands_marked m inside marked = record {
    count = stands.count;
    picked = stands.picked;
    wanted = stands.wanted;
    shown = λ cell within. (
      λ is. stays_shown node.header events (Sample m) cell ((stands.shown cell within).0 is),
      λ shown. elim (sample_shows node.header events m cell shown) [
        | inl before ↦ (stands.shown cell within).1 before
        | inr is ↦ subst (λ (c : Cell). is_marked node.header.k node.shown c ≡ true) is.1 marked
      ],
    );
    claim = first_by_sample node.header events m node.claim stands.claim;
  }

  -- one that is proved shows its cell
  pub stands_sample : (m : Message) (marks : List Bool) (next : ℕ) → IsProved node.header m
      → AreMarkedToo node.header.k node.shown marks m.cell
      → NodeStands picks (record node { shown = marks; next = next }) plan (events ++ Sample m ∷ [])
  stands_sample m marks next proved marked_too = record {
    count = stands.count;
    picked = stands.picked;
    wanted = stands.wanted;
    shown = λ cell within. (
      λ marked. elim ((marked_too cell within).0 marked) [
        | inl before ↦ stays_shown node.header events (Sample m) cell ((stands.shown cell within).0 before)
        | inr is ↦ shows_cell node.header events m cell proved is
      ],
      λ shown. elim (sample_shows node.header events m cell shown) [
        | inl before ↦ (marked_too cell within).1 (inl ((stands.shown cell within).1 before))
        | inr is ↦ (marked_too cell within).1 (inr is.1)
      ],
    );
    claim = first_by_sample node.header events m node.claim stands.claim;
  }

-- ---- what holds of a node

module _ {F : Type 0} (can_pick : F → ℕ → Type 0) (picks : F → ℕ → Cell → Type 0) (node : NodeParts F)
    (good : IsNode can_pick picks node) where
  -- what was marked in front stays so
  pub still_marked : (marks : List Bool) (one : Cell) → AreMarkedToo node.header.k node.shown marks one
      → AreMarkedBefore node.header.k marks node.wanted node.next
  still_marked marks one too = λ i cell below e.
      (too cell (all_each (is_in_square node.header.k) node.wanted good.inside cell (listed_at node.wanted i cell
      e))).1
      (inl (good.before i cell below e))

-- a node that has planned nothing
pub good_new : {F : Type 0} (can_pick : F → ℕ → Type 0) (picks : F → ℕ → Cell → Type 0) (pick : F) (limit : ℕ) (header
    : Roots)
    (wanted : List Cell) (marks : List Bool) → is_width header.k ≡ true → PicksInside can_pick picks pick limit
    header.k
    → length marks ≡ 2 * header.k * (2 * header.k) → wanted ≡ []
    → IsNode can_pick picks (record {
      header = header;
      limit = limit;
      pick = pick;
      planned = 0;
      wanted = wanted;
      shown = marks;
      next = 0;
      claim = None;
    })
good_new can_pick picks pick limit header wanted marks width picker count none = record {
  width = width;
  picker = picker;
  within = omega arith;
  marks = count;
  inside = subst (λ (l : List Cell). list_all (is_in_square header.k) l ≡ true) (sym none) refl;
  next = omega arith;
  before = λ i cell below e. absurd (omega arith);
  waiting = λ cell e. let no : None ≡ Some cell = ap (λ (l : List Cell). slice_get l 0) (sym none) ∙ e in cc;
}
