-- Lemmas on where units start in their text.
use Rattle.std.proofs.Common.{◌≡◌, ◌∙◌, ℕ, ◌+◌, ◌<◌, ◌≤◌, nat_lt, true, false, List, [], ◌∷◌, ◌++◌, length, get_or, drop, sym, ap, refl, inl, inr, arith, length-append}
use Rattle.std.proofs.lemmas.Bool.{cases_lt}
use Rattle.std.proofs.lemmas.Bool.Decides.{nat_tests}
use Rattle.std.proofs.lemmas.List.{drop_more, drop_all, get_or_default}
use Rattle.share_split.specs.Units.{unit_text, units_text, starts_from, starts_on, content_start, place_in, first_place, reserved_of}

-- ---- the starts from a place on

-- a start before a place is left out
pub starts_on-before : (from start : ℕ) (starts : List ℕ) → start < from → starts_on from (start ∷ starts) ≡ starts_on from starts
unfolding starts_on
starts_on-before from start starts h = let e : nat_lt start from ≡ true = grind (arith, nat_tests) in rw e refl

-- the first start that is not before a place is kept, with all others
pub starts_on-at : (from start : ℕ) (starts : List ℕ) → from ≤ start → starts_on from (start ∷ starts) ≡ start ∷ starts
unfolding starts_on
starts_on-at from start starts h = let e : nat_lt start from ≡ false = grind (arith, nat_tests) in rw e refl

-- no starts leave none
pub starts_on-none : (from : ℕ) → starts_on from [] ≡ []
unfolding starts_on
starts_on-none from = refl

-- a place behind them is as well passed from an earlier one
pub starts_on-on : (from earlier : ℕ) (starts : List ℕ) → earlier ≤ from → starts_on from (starts_on earlier starts) ≡ starts_on from starts
starts_on-on from earlier [] h = ap (λ (l : List ℕ). starts_on from l) (starts_on-none earlier)
starts_on-on from earlier (start ∷ starts) h =
    elim (cases_lt start earlier) [
      | inl lt ↦
          ap (λ (l : List ℕ). starts_on from l) (starts_on-before earlier start starts lt)
          ∙ starts_on-on from earlier starts h
          ∙ sym (starts_on-before from start starts (omega arith))
      | inr le ↦ ap (λ (l : List ℕ). starts_on from l) (starts_on-at earlier start starts le)
    ]

-- one start more is passed
pub on_more : (from i : ℕ) (starts : List ℕ) → i < length starts → get_or starts i 0 < from
    → starts_on from (drop (i + 1) starts) ≡ starts_on from (drop i starts)
on_more from i starts lt before =
    sym (starts_on-before from (get_or starts i 0) (drop (i + 1) starts) before)
    ∙ sym (ap (starts_on from) (drop_more starts i 0 lt))

-- the next start isn't passed
pub on_stop : (from i : ℕ) (starts : List ℕ) → i < length starts → from ≤ get_or starts i 0
    → drop i starts ≡ starts_on from (drop i starts)
on_stop from i starts lt le =
    drop_more starts i 0 lt
    ∙ sym (starts_on-at from (get_or starts i 0) (drop (i + 1) starts) le)
    ∙ sym (ap (starts_on from) (drop_more starts i 0 lt))

-- all starts are passed
pub on_end : (from i : ℕ) (starts : List ℕ) → length starts ≤ i → drop i starts ≡ starts_on from (drop i starts)
on_end from i starts le = drop_all i starts le ∙ sym (starts_on-none from) ∙ sym (ap (starts_on from) (drop_all i starts le))

-- ---- the next unit

-- it is the first of the units that are left
pub units-next : (units : List (List ℕ)) (unit : List ℕ) (index : ℕ) → index < length units → unit ≡ get_or units index unit
    → drop index units ≡ unit ∷ drop (index + 1) units
units-next units unit index h e = drop_more units index unit h ∙ ap (λ (u : List ℕ). u ∷ drop (index + 1) units) (sym e)

-- the start of the next unit, and then those of the others
pub starts_from-next : (start : ℕ) (units : List (List ℕ)) (unit : List ℕ) (index : ℕ) → index < length units → unit ≡ get_or units index unit
    → starts_from start (drop index units) ≡ start ∷ starts_from (start + length (unit_text unit)) (drop (index + 1) units)
unfolding starts_from
starts_from-next start units unit index h e = ap (λ (l : List (List ℕ)). starts_from start l) (units-next units unit index h e)

-- the starts of the units from one on begin with its own
pub starts_from-front : (start : ℕ) (units : List (List ℕ)) (index : ℕ) → index < length units
    → starts_from start (drop index units) ≡ start ∷ starts_from (start + length (unit_text (get_or units index []))) (drop (index + 1) units)
starts_from-front start units index h =
    starts_from-next start units (get_or units index []) index h (get_or_default units index [] (get_or units index []) h)

-- behind the last unit no start is left
pub starts_from-none : (start : ℕ) (units : List (List ℕ)) (index : ℕ) → length units ≤ index → starts_from start (drop index units) ≡ []
unfolding starts_from
starts_from-none start units index h = ap (λ (l : List (List ℕ)). starts_from start l) (drop_all index units h)

-- the text of the next unit, and then that of the others
pub units_text-next : (units : List (List ℕ)) (unit : List ℕ) (index : ℕ) → index < length units → unit ≡ get_or units index unit
    → units_text (drop index units) ≡ unit_text unit ++ units_text (drop (index + 1) units)
units_text-next units unit index h e = ap units_text (units-next units unit index h e)

-- the length of the text of the next unit, and that of the others
pub length-units_text-next : (units : List (List ℕ)) (unit : List ℕ) (index : ℕ) → index < length units → unit ≡ get_or units index unit
    → length (units_text (drop index units)) ≡ length (unit_text unit) + length (units_text (drop (index + 1) units))
length-units_text-next units unit index h e =
    ap length (units_text-next units unit index h e) ∙ length-append (unit_text unit) (units_text (drop (index + 1) units))

-- a unit that starts before the place is passed
pub starts-pass : (from start size : ℕ) (units : List (List ℕ)) (unit : List ℕ) (index : ℕ) (whole : List ℕ)
    → index < length units → unit ≡ get_or units index unit → start < from → size ≡ length (unit_text unit)
    → starts_on from (starts_from start (drop index units)) ≡ whole
    → starts_on from (starts_from (start + size) (drop (index + 1) units)) ≡ whole
starts-pass from start size units unit index whole h e lt s before =
    let behind : List ℕ = starts_from (start + length (unit_text unit)) (drop (index + 1) units) in
    ap (λ (n : ℕ). starts_on from (starts_from (start + n) (drop (index + 1) units))) s
    ∙ sym (starts_on-before from start behind lt)
    ∙ sym (ap (λ (l : List ℕ). starts_on from l) (starts_from-next start units unit index h e))
    ∙ before

-- one that doesn't is not
pub starts-stay : (from start : ℕ) (units : List (List ℕ)) (index : ℕ) → (index < length units → from ≤ start)
    → starts_on from (starts_from start (drop index units)) ≡ starts_from start (drop index units)
starts-stay from start units index h =
    elim (cases_lt index (length units)) [
      | inl lt ↦
          let next = starts_from-front start units index lt in
          ap (λ (l : List ℕ). starts_on from l) next ∙ starts_on-at from start _ (h lt) ∙ sym next
      | inr le ↦
          let none = starts_from-none start units index le in
          ap (λ (l : List ℕ). starts_on from l) none ∙ starts_on-none from ∙ sym none
    ]

-- ---- the first unit that starts in a share

-- starts before the share's content don't matter
pub reserved_of-on : (earlier i : ℕ) (starts : List ℕ) → earlier ≤ content_start i
    → reserved_of i (starts_on earlier starts) ≡ reserved_of i starts
reserved_of-on earlier i starts h = ap (first_place i) (starts_on-on (content_start i) earlier starts h)

-- where they were passed, the first of the others decides
pub reserved_of-left : (i start : ℕ) (units : List (List ℕ)) (index : ℕ) → (index < length units → content_start i ≤ start)
    → reserved_of i (starts_from start (drop index units)) ≡ first_place i (starts_from start (drop index units))
reserved_of-left i start units index h = ap (first_place i) (starts-stay (content_start i) start units index h)

-- no unit is left
pub place-none : (i start : ℕ) (units : List (List ℕ)) (index : ℕ) → length units ≤ index
    → first_place i (starts_from start (drop index units)) ≡ 0
place-none i start units index h = ap (first_place i) (starts_from-none start units index h)

-- the next unit is the first
pub place-next : (i start : ℕ) (units : List (List ℕ)) (index : ℕ) → index < length units
    → first_place i (starts_from start (drop index units)) ≡ place_in i start
place-next i start units index h = ap (first_place i) (starts_from-front start units index h)
