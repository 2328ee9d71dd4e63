-- A text is read as the units that it spells, and no others.
use Rattle.std.proofs.Common.{◌≡◌, ◌∙◌, ℕ, zero, suc, ◌+◌, ◌-◌, ◌^◌, ◌<◌, ◌≤◌, List, [], ◌∷◌, ◌++◌, length, drop, Option, Some, None, Ok, Err, refl, sym, ap, subst, arith, length-append, length-drop}
use Rattle.std.specs.Option.{option_map_or}
use Rattle.std.specs.List.{AllByRecursion}
use Rattle.std.proofs.lemmas.List.{drop_at}
use Rattle.namespace_id.specs.Bytes.{AreBytes}
use Rattle.namespace_id.proofs.StringLemmas.{AreBytes-drop}
use Rattle.proto_fields.specs.Varints.{varint}
use Rattle.share_split.specs.Units.{unit_text, units_text}
use Rattle.share_split.specs.Walks.{text_unit, with_unit, units_from}
use Rattle.share_split.proofs.Reading.Unit.{read_unit, unit_back, unit_again}
use Rattle.share_split.proofs.Reading.Text.{Units, units_here, units_on, units_end}

-- the text of units is read as these
pub units_again : (at : ℕ) (units : List (List ℕ)) → length (units_text units) < 2 ^ 32 → units_from 0 at (units_text units) ≡ Ok units
units_again at [] few = units_end at [] (omega arith)
units_again at (unit ∷ units) few =
    let size : ℕ = length (unit_text unit) in
    let rest : List ℕ = units_text units in
    let all : length (unit_text unit ++ rest) ≡ size + length rest = length-append (unit_text unit) rest in
    let own : size ≡ length (varint (length unit)) + length unit = length-append (varint (length unit)) unit in
    let read : text_unit (unit_text unit ++ rest) ≡ Some (unit, size) = unit_again unit rest (omega arith) in
    let r = read_unit (unit_text unit ++ rest) unit size read in
    units_on at (unit_text unit ++ rest) unit size read (omega (arith, r.size_is, r.shorter)) (omega (arith, r.shorter))
    ∙ ap (λ (l : List ℕ). with_unit unit (units_from 0 (at + size) l)) (drop_at (unit_text unit) rest size refl)
    ∙ ap (with_unit unit) (units_again (at + size) units (omega arith))

-- a walk that didn't fail found a unit
found : (f : List ℕ × ℕ → Units) (o : Option (List ℕ × ℕ)) (at : ℕ) (units : List (List ℕ)) → option_map_or f o (Err at) ≡ Ok units → (x : List ℕ × ℕ) × (o ≡ Some x)
found f None at units e = absurd cc
found f (Some x) at units e = (x, refl)

-- a unit was followed by other units
others : (unit : List ℕ) (r : Units) (units : List (List ℕ)) → with_unit unit r ≡ Ok units → (more : List (List ℕ)) × (r ≡ Ok more) × (unit ∷ more ≡ units)
others unit (Err at) units e = absurd cc
others unit (Ok more) units e = let same : unit ∷ more ≡ units = cc in (more, refl, same)

-- the text is that of these units
abbrev pub AreUnitsOf : List ℕ → List (List ℕ) → Type 0
AreUnitsOf text units = (units_text units ≡ text) × AllByRecursion AreBytes units

-- a text that is read as units is theirs
pub units_back : (n at : ℕ) (text : List ℕ) (units : List (List ℕ)) → length text ≤ n → AreBytes text → units_from 0 at text ≡ Ok units → AreUnitsOf text units
units_back n at [] units le fits e =
    let none : [] ≡ units = let end = units_end at [] (omega arith) in cc in
    subst (λ (l : List (List ℕ)). AreUnitsOf [] l) none (refl, tt)
units_back zero at (b ∷ bytes) units le fits e = absurd (omega arith)
units_back (suc n) at (b ∷ bytes) units le fits e =
    let text : List ℕ = b ∷ bytes in
    let here = units_here at text (text_unit text) (omega arith) refl in
    let x = found (λ unit. with_unit unit.0 (units_from (unit.1 - 1) (suc at) (drop 1 text))) (text_unit text) at units (sym here ∙ e) in
    let u = unit_back text x.0.0 x.0.1 fits x.1 in
    let behind : List ℕ = drop x.0.1 text in
    let o = others x.0.0 (units_from 0 (at + x.0.1) behind) units (sym (units_on at text x.0.0 x.0.1 x.1 u.some (omega arith)) ∙ e) in
    let rest = units_back n (at + x.0.1) behind o.0 (omega (arith, length-drop x.0.1 text, u.some)) (AreBytes-drop x.0.1 text fits) o.1 in
    subst (λ (l : List (List ℕ)). AreUnitsOf text l) o.2
    (ap (λ (l : List ℕ). unit_text x.0.0 ++ l) rest.0 ∙ sym u.parts, (u.fits, rest.1))
