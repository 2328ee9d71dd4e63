-- The cells of a square that pass a test, row-major.
use Rattle.std.proofs.Common.{◌≡◌, Bool, true, false, cond, List, [], ◌∷◌, refl, ap, subst, inl, inr}
use Rattle.std.specs.List.{Contains, filter}
use Rattle.std.proofs.lemmas.Bool.{and_parts, and_from}
use Rattle.std.proofs.lemmas.Bool.Decides.{nat_tests}
use Rattle.std.proofs.Common.{arith}
use Rattle.namespace_id.specs.declared.cells.Cell.{Cell}
use Rattle.namespace_id.specs.Cells.{is_before}
use Rattle.namespace_id.specs.Lists.{holds_along}
use Rattle.namespace_id.proofs.MemberLemmas.{contains_head, contains_tail, contains_none, contains_cons}

-- ---- members

module _ {A : Type 0} (p : A → Bool) where
  -- a member that passes stays
  kept : (b : Bool) (x y : A) (xs rest : List A) → p x ≡ b → p y ≡ true → (Contains xs y → Contains rest y) → Contains (x ∷ xs) y → Contains (cond b (x ∷ rest) rest) y
  kept true x y xs rest is passes on at = elim (contains_cons x y xs at) [
    | inl e ↦ subst (λ (z : A). Contains (x ∷ rest) z) e (contains_head x rest)
    | inr later ↦ contains_tail x y rest (on later)
  ]
  kept false x y xs rest is passes on at = elim (contains_cons x y xs at) [
    | inl e ↦ let same : p x ≡ p y = ap p e in absurd cc
    | inr later ↦ on later
  ]

  pub filter_keeps : (xs : List A) (y : A) → p y ≡ true → Contains xs y → Contains (filter p xs) y
  filter_keeps [] y passes at = absurd (contains_none y at)
  filter_keeps (x ∷ xs) y passes at = kept (p x) x y xs (filter p xs) refl passes (filter_keeps xs y passes) at

  -- and each that stays is a member that passes
  held : (b : Bool) (x y : A) (xs rest : List A) → p x ≡ b → (Contains rest y → Contains xs y × (p y ≡ true)) → Contains (cond b (x ∷ rest) rest) y
      → Contains (x ∷ xs) y × (p y ≡ true)
  held true x y xs rest is on at = elim (contains_cons x y rest at) [
    | inl e ↦ (subst (λ (z : A). Contains (x ∷ xs) z) e (contains_head x xs), subst (λ (z : A). p z ≡ true) e is)
    | inr later ↦ let behind = on later in (contains_tail x y xs behind.0, behind.1)
  ]
  held false x y xs rest is on at = let behind = on at in (contains_tail x y xs behind.0, behind.1)

  pub filter_holds : (xs : List A) (y : A) → Contains (filter p xs) y → Contains xs y × (p y ≡ true)
  filter_holds [] y at = absurd (contains_none y at)
  filter_holds (x ∷ xs) y at = held (p x) x y xs (filter p xs) refl (filter_holds xs y) at

-- ---- order

-- a cell before one that is before a third is before the third
before_trans : (a b c : Cell) → is_before a b ≡ true → is_before b c ≡ true → is_before a c ≡ true
before_trans a b c h k = grind (arith, nat_tests)

-- the first cell of a row-major list is before each other
before_each : (a : Cell) (cells : List Cell) → holds_along is_before (a ∷ cells) ≡ true → (c : Cell) → Contains cells c → is_before a c ≡ true
unfolding holds_along
before_each a [] rising c at = absurd (contains_none c at)
before_each a (b ∷ cells) rising c at =
    let both = and_parts (is_before a b) (holds_along is_before (b ∷ cells)) rising in
    elim (contains_cons b c cells at) [
      | inl e ↦ subst (λ (x : Cell). is_before a x ≡ true) e both.0
      | inr later ↦ before_trans a b c both.0 (before_each b cells both.1 c later)
    ]

-- and the others are row-major
rising_rest : (a : Cell) (cells : List Cell) → holds_along is_before (a ∷ cells) ≡ true → holds_along is_before cells ≡ true
unfolding holds_along
rising_rest a [] rising = refl
rising_rest a (b ∷ cells) rising = (and_parts (is_before a b) (holds_along is_before (b ∷ cells)) rising).1

-- a cell before each of a row-major list
in_front : (a : Cell) (cells : List Cell) → ((c : Cell) → Contains cells c → is_before a c ≡ true) → holds_along is_before cells ≡ true
    → holds_along is_before (a ∷ cells) ≡ true
unfolding holds_along
in_front a [] each rising = refl
in_front a (b ∷ cells) each rising = and_from (is_before a b) (holds_along is_before (b ∷ cells)) (each b (contains_head b cells)) rising

-- those that pass a test are row-major
rises_by : (b : Bool) (a : Cell) (cells : List Cell) → ((c : Cell) → Contains cells c → is_before a c ≡ true) → holds_along is_before cells ≡ true
    → holds_along is_before (cond b (a ∷ cells) cells) ≡ true
rises_by true a cells each rising = in_front a cells each rising
rises_by false a cells each rising = rising

pub filter_rises : (p : Cell → Bool) (cells : List Cell) → holds_along is_before cells ≡ true → holds_along is_before (filter p cells) ≡ true
unfolding holds_along
filter_rises p [] rising = refl
filter_rises p (a ∷ cells) rising =
    rises_by (p a) a (filter p cells) (λ c at. before_each a cells rising c (filter_holds p cells c at).0) (filter_rises p cells (rising_rest a cells rising))
