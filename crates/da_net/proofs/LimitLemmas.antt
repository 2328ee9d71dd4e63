-- For how many nodes, items and steps a network is made.
use Rattle.std.proofs.Common.{◌≡◌, ◌↔◌, ℕ, ◌≤◌, ◌||◌, Bool, true, false, nat_lt, refl, ap₂}
use Rattle.std.proofs.lemmas.Bool.{le-ltb, ltb-false}
use Rattle.da_net.specs.Nets.{is_too_many}

-- neither of two holds where one of them doesn't and the other doesn't
neither : (a b : Bool) → (a || b) ≡ false → (a ≡ false) × (b ≡ false)
neither false b e = (refl, e)
neither true b e = absurd (let no : true ≡ false = e in cc)

-- for as many as the four limits allow
pub limits_are : (fulls lights items steps : ℕ)
    → (is_too_many fulls lights items steps ≡ false) ↔ ((fulls ≤ 8) × (lights ≤ 64) × (items ≤ 65536) × (steps ≤ 1048576))
limits_are fulls lights items steps = (
  λ e.
      let one = neither (nat_lt 8 fulls || nat_lt 64 lights || nat_lt 65536 items) (nat_lt 1048576 steps) e in
      let two = neither (nat_lt 8 fulls || nat_lt 64 lights) (nat_lt 65536 items) one.0 in
      let three = neither (nat_lt 8 fulls) (nat_lt 64 lights) two.0 in
      (ltb-false 8 fulls three.0, ltb-false 64 lights three.1, ltb-false 65536 items two.1, ltb-false 1048576 steps one.1),
  λ h.
      ap₂ (λ (x y : Bool). x || y)
      (ap₂ (λ (x y : Bool). x || y) (ap₂ (λ (x y : Bool). x || y) (le-ltb 8 fulls h.0) (le-ltb 64 lights h.1)) (le-ltb 65536 items h.2))
      (le-ltb 1048576 steps h.3),
)
