-- How many cells are drawn at most.
use Rattle.std.proofs.Common.{◌≡◌, ◌↔◌, ℕ, ◌*◌, ◌≤◌, Bool, nat_le, cond, ap, inl, inr, arith}
use Rattle.std.proofs.lemmas.Bool.{cases_Bool, leb-true, leb-false}
use Rattle.sampling.specs.Draws.{draw_limit}

-- all cells, and no more than 4,096
pub drawn_most : (k count : ℕ) → (count ≤ draw_limit k) ↔ ((count ≤ 4 * k * k) × (count ≤ 4096))
drawn_most k count = elim (cases_Bool (nat_le (4 * k * k) 4096)) [
  | inl t ↦
      let few : 4 * k * k ≤ 4096 = leb-true (4 * k * k) 4096 t in
      let is : draw_limit k ≡ 4 * k * k = ap (λ (b : Bool). cond b (4 * k * k) 4096) t in
      (λ h. (omega (arith, h, is, few), omega (arith, h, is, few)), λ h. omega (arith, h.0, is))
  | inr f ↦
      let many : 4096 ≤ 4 * k * k = omega (arith, leb-false (4 * k * k) 4096 f) in
      let is : draw_limit k ≡ 4096 = ap (λ (b : Bool). cond b (4 * k * k) 4096) f in
      (λ h. (omega (arith, h, is, many), omega (arith, h, is, many)), λ h. omega (arith, h.1, is))
]
