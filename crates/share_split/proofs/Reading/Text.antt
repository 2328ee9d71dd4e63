-- Walking over the units of a text.
use Rattle.std.proofs.Common.{◌≡◌, ◌∙◌, ℕ, zero, suc, ◌+◌, ◌-◌, ◌<◌, ◌≤◌, List, [], ◌∷◌, ◌++◌, length, drop, Option, Some, None, Result, Ok, Err, refl, sym, ap, ap₂, arith, append_assoc, append-nil}
use Rattle.std.specs.Option.{option_map_or}
use Rattle.namespace_id.proofs.StringLemmas.{drop_one}
use Rattle.share_split.specs.Units.{unit_text, starts_from}
use Rattle.share_split.specs.Walks.{text_unit, with_unit, units_from, share_with}
use Rattle.share_split.specs.declared.joining.JoinError.TheVariants.{BadVarint}
use Rattle.share_split.specs.Steps.{behind_units, units_placed}

-- ---- one step of the walk

-- the bytes of a unit before are passed over
units_skip : (n at : ℕ) (bytes : List ℕ) → units_from n at bytes ≡ units_from 0 (at + n) (drop n bytes)
unfolding units_from
units_skip zero at bytes = let e : at ≡ at + 0 = omega arith in ap (λ (k : ℕ). units_from 0 k bytes) e
units_skip (suc n) at [] = refl
units_skip (suc n) at (b ∷ bytes) =
    let e : suc at + n ≡ at + suc n = omega arith in
    units_skip n (suc at) bytes ∙ ap (λ (k : ℕ). units_from 0 k (drop n bytes)) e

-- the byte at the front decides
pub units_here : (at : ℕ) (bytes : List ℕ) (o : Option (List ℕ × ℕ)) → 0 < length bytes → text_unit bytes ≡ o
    → units_from 0 at bytes ≡ option_map_or (λ unit. with_unit unit.0 (units_from (unit.1 - 1) (suc at) (drop 1 bytes))) o (Err at)
unfolding units_from
units_here at [] o h e = absurd (omega arith)
units_here at (b ∷ bytes) o h e = ap (λ (x : Option (List ℕ × ℕ)). option_map_or (λ unit. with_unit unit.0 (units_from (unit.1 - 1) (suc at) bytes)) x (Err at)) e

-- a unit stands here, and then the others
pub units_on : (at : ℕ) (bytes unit : List ℕ) (size : ℕ) → text_unit bytes ≡ Some (unit, size) → 0 < size → 0 < length bytes
    → units_from 0 at bytes ≡ with_unit unit (units_from 0 (at + size) (drop size bytes))
units_on at bytes unit size e some h =
    let next : suc at + (size - 1) ≡ at + size = omega arith in
    units_here at bytes (Some (unit, size)) h e
    ∙ ap (with_unit unit) (units_skip (size - 1) (suc at) (drop 1 bytes) ∙ ap₂ (λ (k : ℕ) (l : List ℕ). units_from 0 k l) next (drop_one size bytes some h))

-- none stands here
pub units_stop : (at : ℕ) (bytes : List ℕ) → text_unit bytes ≡ None → 0 < length bytes → units_from 0 at bytes ≡ Err at
units_stop at bytes e h = units_here at bytes None h e

-- no byte is left
pub units_end : (at : ℕ) (bytes : List ℕ) → length bytes ≤ 0 → units_from 0 at bytes ≡ Ok []
unfolding units_from
units_end at [] h = refl
units_end at (b ∷ bytes) h = absurd (omega arith)

-- ---- the loop over a text

-- what a text is read as
abbrev pub Units : Type 0
Units = Result (List (List ℕ)) ℕ

-- units before it stay before it
with_unit-behind : (units : List (List ℕ)) (unit : List ℕ) (r : Units) → behind_units units (with_unit unit r) ≡ behind_units (units ++ unit ∷ []) r
with_unit-behind units unit (Err at) = refl
with_unit-behind units unit (Ok more) = ap Ok (sym (append_assoc units (unit ∷ []) more))

-- one unit more was read
pub text_more : (at : ℕ) (bytes unit after : List ℕ) (size : ℕ) (units new : List (List ℕ)) (whole : Units)
    → text_unit bytes ≡ Some (unit, size) → 0 < size → 0 < length bytes → after ≡ drop size bytes → new ≡ units ++ unit ∷ []
    → behind_units units (units_from 0 at bytes) ≡ whole → behind_units new (units_from 0 (at + size) after) ≡ whole
text_more at bytes unit after size units new whole e some h after_is new_is before =
    ap₂ (λ (n : List (List ℕ)) (l : List ℕ). behind_units n (units_from 0 (at + size) l)) new_is after_is
    ∙ sym (with_unit-behind units unit (units_from 0 (at + size) (drop size bytes)))
    ∙ sym (ap (behind_units units) (units_on at bytes unit size e some h))
    ∙ before

-- no unit stands here
pub text_stop : (at share : ℕ) (bytes : List ℕ) (units : List (List ℕ)) (whole : Units) → text_unit bytes ≡ None → 0 < length bytes → share ≡ share_with at
    → behind_units units (units_from 0 at bytes) ≡ whole → units_placed whole ≡ Err (BadVarint share)
text_stop at share bytes units whole e h share_is before =
    sym (ap units_placed before) ∙ ap (λ (r : Units). units_placed (behind_units units r)) (units_stop at bytes e h) ∙ ap (λ (i : ℕ). Err (BadVarint i)) (sym share_is)

-- no byte is left
pub text_end : (at : ℕ) (bytes : List ℕ) (units : List (List ℕ)) (whole : Units) → length bytes ≤ 0
    → behind_units units (units_from 0 at bytes) ≡ whole → units_placed whole ≡ Ok units
text_end at bytes units whole le before =
    sym (ap units_placed before) ∙ ap (λ (r : Units). units_placed (behind_units units r)) (units_end at bytes le) ∙ ap Ok (append-nil units)

-- the first unit starts here
starts_from-cons : (at : ℕ) (unit : List ℕ) (units : List (List ℕ)) → starts_from at (unit ∷ units) ≡ at ∷ starts_from (at + length (unit_text unit)) units
unfolding starts_from
starts_from-cons at unit units = refl

-- no units have no starts
starts_from-nil : (at : ℕ) → starts_from at [] ≡ []
unfolding starts_from
starts_from-nil at = refl

-- one start more, of the unit that was read
pub starts_more : (at size : ℕ) (unit : List ℕ) (units new more : List (List ℕ)) (starts after : List ℕ)
    → size ≡ length (unit_text unit) → new ≡ units ++ unit ∷ [] → after ≡ starts ++ at ∷ []
    → starts ++ starts_from at (unit ∷ more) ≡ starts_from 0 (units ++ unit ∷ more)
    → after ++ starts_from (at + size) more ≡ starts_from 0 (new ++ more)
starts_more at size unit units new more starts after size_is new_is after_is before =
    ap₂ (λ (l : List ℕ) (k : ℕ). l ++ starts_from (at + k) more) after_is size_is
    ∙ append_assoc starts (at ∷ []) (starts_from (at + length (unit_text unit)) more)
    ∙ sym (ap (λ (l : List ℕ). starts ++ l) (starts_from-cons at unit more))
    ∙ before
    ∙ ap (starts_from 0) (sym (append_assoc units (unit ∷ []) more))
    ∙ sym (ap (λ (l : List (List ℕ)). starts_from 0 (l ++ more)) new_is)

-- no unit is left
pub starts_end : (at : ℕ) (units : List (List ℕ)) (starts : List ℕ) → starts ++ starts_from at [] ≡ starts_from 0 (units ++ []) → starts ≡ starts_from 0 units
starts_end at units starts e =
    sym (append-nil starts) ∙ sym (ap (λ (l : List ℕ). starts ++ l) (starts_from-nil at)) ∙ e ∙ ap (starts_from 0) (append-nil units)
