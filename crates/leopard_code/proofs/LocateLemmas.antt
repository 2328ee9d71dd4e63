-- The locator's values as they are made, one missing position after another, and shares as they are placed.
use Rattle.std.proofs.Common.{◌≡◌, ◌≢◌, ◌∙◌, ℕ, zero, suc, ◌+◌, ◌<◌, List, [], ◌∷◌, length, drop, get_or, get_or-set_same, get_or-set_other, set, refl, sym, ap, ap₂, arith, inl, inr}
use Rattle.std.specs.Prelude.{Some, slice_get}
use Rattle.std.proofs.lemmas.Bool.{cases_lt}
use Rattle.std.proofs.lemmas.List.{drop_all}
use Rattle.std.proofs.Math.Seq.{drop-cons}
use Rattle.gf_cantor.specs.Field.{Field, product, size}
use Rattle.gf_cantor.specs.Laws.{AreFieldLaws}
use Rattle.gf_cantor.proofs.Laws.{product_comm, product_assoc, one-product}
use Rattle.namespace_id.specs.declared.shares.Share.{Share}
use Rattle.lch_fft.specs.Readings.{LabelReading}
use Rattle.lch_fft.proofs.ColumnLemmas.{byte}
use Rattle.leopard_code.specs.Locators.{missing_from, difference, apart_from}
use Rattle.leopard_code.proofs.LocatorLemmas.{apart_from-lt}
use Rattle.leopard_code.proofs.MissingLemmas.{missing-known, missing-other}

-- where no known position is left, the next one is missing
missing-none : (first n : ℕ) → missing_from first (suc n) [] ≡ first ∷ missing_from (suc first) n []
unfolding missing_from
missing-none first n = refl

-- the next position is the next known one
missing_on : (known : List ℕ) (pos next left : ℕ) → next < length known → get_or known next 0 ≡ pos
    → missing_from pos (suc left) (drop next known) ≡ missing_from (suc pos) left (drop (suc next) known)
missing_on known pos next left h here =
    ap (missing_from pos (suc left)) (drop-cons known next 0 h) ∙ missing-known (get_or known next 0) pos left (drop (suc next) known) here

-- it is missing
missing_past : (known : List ℕ) (pos next left : ℕ) → (next < length known → get_or known next 0 ≢ pos)
    → missing_from pos (suc left) (drop next known) ≡ pos ∷ missing_from (suc pos) left (drop next known)
missing_past known pos next left h = elim (cases_lt next (length known)) [
  | inl lt ↦
      ap (missing_from pos (suc left)) (drop-cons known next 0 lt)
      ∙ missing-other (get_or known next 0) pos left (drop (suc next) known) (h lt)
      ∙ ap (λ (l : List ℕ). pos ∷ missing_from (suc pos) left l) (sym (drop-cons known next 0 lt))
  | inr le ↦
      ap (missing_from pos (suc left)) (drop_all next known le) ∙ missing-none pos left
      ∙ ap (λ (l : List ℕ). pos ∷ missing_from (suc pos) left l) (sym (drop_all next known le))
]

-- a share that is written stands at its place
pub slice_get-set_same : (all : List Share) (pos : ℕ) (share : Share) → pos < length all → slice_get (set all pos share) pos ≡ Some share
slice_get-set_same [] pos share h = absurd (omega arith)
slice_get-set_same (s ∷ all) zero share h = refl
slice_get-set_same (s ∷ all) (suc pos) share h = slice_get-set_same all pos share (omega arith)

-- and no other is changed
pub slice_get-set_other : (all : List Share) (pos q : ℕ) (share : Share) → q ≢ pos → slice_get (set all pos share) q ≡ slice_get all q
slice_get-set_other [] pos q share h = refl
slice_get-set_other (s ∷ all) zero zero share h = absurd (h refl)
slice_get-set_other (s ∷ all) zero (suc q) share h = refl
slice_get-set_other (s ∷ all) (suc pos) zero share h = refl
slice_get-set_other (s ∷ all) (suc pos) (suc q) share h = slice_get-set_other all pos q share (λ e. h (ap suc e))

-- the labels of a share that is written
pub byte-set_same : (r : LabelReading) (all : List Share) (pos b : ℕ) (share : Share) → pos < length all
    → byte r (set all pos share) pos b ≡ r.label_at share.0 b
byte-set_same r all pos b share h =
    ap (λ (s : Share). r.label_at s.0 b) (get_or-set_same all pos share (record { 0 = [] }) h)

-- and those of any other
pub byte-set_other : (r : LabelReading) (all : List Share) (pos q b : ℕ) (share : Share) → q ≢ pos
    → byte r (set all pos share) q b ≡ byte r all q b
byte-set_other r all pos q b share h =
    ap (λ (s : Share). r.label_at s.0 b) (get_or-set_other all pos q share (record { 0 = [] }) h)

module _ (F : Field) (L : AreFieldLaws F) where
  -- the product over none is 1
  apart_none : (first x : ℕ) (known : List ℕ) → apart_from F (missing_from first 0 known) x ≡ 1
  unfolding missing_from apart_from
  apart_none first x known = refl

  -- the product over one more
  apart_more : (r x : ℕ) (rs : List ℕ) → apart_from F (r ∷ rs) x ≡ product F (difference x r) (apart_from F rs x)
  unfolding apart_from
  apart_more r x rs = refl

  -- at the beginning all is left
  pub located_none : (known : List ℕ) (n left x v : ℕ) → 0 + left ≡ n → v ≡ 1
      → product F v (apart_from F (missing_from 0 left known) x) ≡ apart_from F (missing_from 0 n known) x
  located_none known n left x v e one =
      let whole : left ≡ n = omega arith in
      ap₂ (λ (y m : ℕ). product F y (apart_from F (missing_from 0 m known) x)) one whole
      ∙ one-product F L (apart_from F (missing_from 0 n known) x) (apart_from-lt F L (missing_from 0 n known) x)

  -- a known position changes no value
  pub located_on : (known : List ℕ) (pos next after left x v new whole : ℕ) → next < length known → get_or known next 0 ≡ pos → after ≡ next + 1 → new ≡ v
      → product F v (apart_from F (missing_from pos (suc left) (drop next known)) x) ≡ whole
      → product F new (apart_from F (missing_from (pos + 1) left (drop after known)) x) ≡ whole
  located_on known pos next after left x v new whole h here on same before =
      let p : pos + 1 ≡ suc pos = omega arith in
      let q : after ≡ suc next = omega arith in
      ap₂ (λ (a b : ℕ). product F new (apart_from F (missing_from a left (drop b known)) x)) p q
      ∙ ap₂ (λ (y : ℕ) (l : List ℕ). product F y (apart_from F l x)) same (sym (missing_on known pos next left h here)) ∙ before

  -- a missing one multiplies each by the difference to it
  pub located_past : (known : List ℕ) (pos next after left x v new whole : ℕ) → (next < length known → get_or known next 0 ≢ pos) → after ≡ next
      → new ≡ product F v (difference x pos)
      → product F v (apart_from F (missing_from pos (suc left) (drop next known)) x) ≡ whole
      → product F new (apart_from F (missing_from (pos + 1) left (drop after known)) x) ≡ whole
  located_past known pos next after left x v new whole h same made before =
      let p : pos + 1 ≡ suc pos = omega arith in
      let rest : List ℕ = missing_from (suc pos) left (drop next known) in
      ap₂ (λ (a b : ℕ). product F new (apart_from F (missing_from a left (drop b known)) x)) p same
      ∙ ap (λ (y : ℕ). product F y (apart_from F rest x)) made
      ∙ product_assoc F L v (difference x pos) (apart_from F rest x)
      ∙ ap (product F v) (sym (apart_more pos x rest))
      ∙ ap (λ (l : List ℕ). product F v (apart_from F l x)) (sym (missing_past known pos next left h))
      ∙ before

  -- at the end nothing is left
  pub located_all : (known : List ℕ) (pos next x v whole : ℕ) → v < size F → product F v (apart_from F (missing_from pos 0 (drop next known)) x) ≡ whole → v ≡ whole
  located_all known pos next x v whole byte made =
      sym (one-product F L v byte) ∙ product_comm F L 1 v ∙ ap (product F v) (sym (apart_none pos x (drop next known))) ∙ made
