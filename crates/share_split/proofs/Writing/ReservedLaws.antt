-- What the reserved bytes of compact shares state.
use Rattle.std.proofs.Common.{◌≡◌, ◌∙◌, ℕ, suc, ◌+◌, ◌-◌, ◌<◌, ◌≤◌, ◌==◌, ◌||◌, Bool, true, false, List, [], ◌∷◌, length, sym, ap, inl, inr, arith}
use Rattle.std.specs.List.{list_any, AllByRecursion}
use Rattle.std.proofs.lemmas.Bool.{cases_lt, cases_Bool, true≢false}
use Rattle.std.proofs.lemmas.Bool.Decides.{nat_tests}
use Rattle.share_split.specs.Units.{unit_text, starts_from, content_start, content_place, place_in, first_place, reserved_of}
use Rattle.share_split.specs.UnitLaws.{is_in_content, IsFirstInside}
use Rattle.share_split.proofs.Writing.Starts.{starts_on-before, starts_on-at, starts_on-none}
use Rattle.share_split.proofs.Writing.Places.{place_in-within, place_in-behind}

-- ---- the content of a share

-- a place inside a share is not before its content
inside_from : (i at : ℕ) → is_in_content i at ≡ true → content_start i ≤ at
inside_from i at h = grind (arith, nat_tests)

-- a place inside a share is before the content of the next
inside_below : (i at : ℕ) → is_in_content i at ≡ true → at < content_start (suc i)
inside_below i at h = grind (arith, nat_tests)

-- a place from the content of a share up to that of the next is inside it
is_inside_where : (i at : ℕ) → content_start i ≤ at → at < content_start (suc i) → is_in_content i at ≡ true
is_inside_where i at low high = grind (arith, nat_tests)

-- ---- units start one after another

-- none starts before the first
starts_above : (at start : ℕ) (units : List (List ℕ)) → list_any (λ other. other == start) (starts_from at units) ≡ true → at ≤ start
unfolding starts_from
starts_above at start [] h = absurd cc
starts_above at start (unit ∷ units) h = elim (cases_Bool (at == start)) [
  | inl same ↦ grind (arith, nat_tests)
  | inr other ↦
      let rest : list_any (λ other. other == start) (starts_from (at + length (unit_text unit)) units) ≡ true =
      sym (ap (λ (b : Bool). b || list_any (λ other. other == start) (starts_from (at + length (unit_text unit)) units)) other) ∙ h in
      omega (arith, starts_above (at + length (unit_text unit)) start units rest)
]

-- ---- the first that starts in the content

-- a unit that starts before a share is not stated in it
reserved_before : (i at : ℕ) (starts : List ℕ) → at < content_start i → reserved_of i (at ∷ starts) ≡ reserved_of i starts
reserved_before i at starts lt = ap (first_place i) (starts_on-before (content_start i) at starts lt)

-- the first unit that starts in a share, or behind it, decides what is stated
reserved_at : (i at : ℕ) (starts : List ℕ) → content_start i ≤ at → reserved_of i (at ∷ starts) ≡ place_in i at
reserved_at i at starts le = ap (first_place i) (starts_on-at (content_start i) at starts le)

-- no start is stated where no unit starts in the share
pub reserved_is_none : (i at : ℕ) (units : List (List ℕ)) → AllByRecursion (λ start. is_in_content i start ≡ false) (starts_from at units)
    → reserved_of i (starts_from at units) ≡ 0
unfolding starts_from
reserved_is_none i at [] none = ap (first_place i) (starts_on-none (content_start i))
reserved_is_none i at (unit ∷ units) none =
    let rest : List ℕ = starts_from (at + length (unit_text unit)) units in
    elim (cases_lt at (content_start i)) [
      | inl lt ↦ reserved_before i at rest lt ∙ reserved_is_none i (at + length (unit_text unit)) units none.1
      | inr le ↦
          reserved_at i at rest le
          ∙ elim (cases_lt at (content_start (suc i))) [
            | inl inside ↦ absurd (true≢false (sym (is_inside_where i at le inside) ∙ none.0))
            | inr behind ↦ place_in-behind i at behind
          ]
    ]

-- the first start in a share is stated
pub reserved_is_first : (i at start : ℕ) (units : List (List ℕ)) → IsFirstInside i (starts_from at units) start
    → reserved_of i (starts_from at units) ≡ content_place i + (start - content_start i)
unfolding starts_from
reserved_is_first i at start [] first = absurd (true≢false (sym first.among))
reserved_is_first i at start (unit ∷ units) first =
    let next : ℕ = at + length (unit_text unit) in
    let rest : List ℕ = starts_from next units in
    let from : content_start i ≤ start = inside_from i start first.inside in
    let below : start < content_start (suc i) = inside_below i start first.inside in
    elim (cases_lt at (content_start i)) [
      | inl lt ↦
          let other : (at == start) ≡ false = grind (arith, nat_tests) in
          let among : list_any (λ s. s == start) rest ≡ true = sym (ap (λ (b : Bool). b || list_any (λ s. s == start) rest) other) ∙ first.among in
          reserved_before i at rest lt
          ∙ reserved_is_first i next start units (record { inside = first.inside; among = among; least = first.least.1 })
      | inr le ↦
          let above : at ≤ start = starts_above at start (unit ∷ units) first.among in
          let least : start ≤ at = first.least.0 (is_inside_where i at le (omega arith)) in
          let same : at ≡ start = omega arith in
          reserved_at i at rest le ∙ ap (place_in i) same ∙ place_in-within i start below
    ]
