use Rattle.std.proofs.Common.{◌≡◌, ◌+◌, ◌*◌, ◌<◌, ◌≤◌, ◌∙◌, List, ℕ, get_or, ap, subst, arith}
use Rattle.std.specs.Prelude.{bit_xor}
use Rattle.gf_cantor.specs.Field.{product, byte_field}
use Rattle.gf_cantor.proofs.LaneLemmas.{below_more_by}
use Rattle.gf_cantor.proofs.bytes.ByteFactor.add_products.Goals as goal

-- the bytes below a place have gained their products, and those from it on are as they were
record Gains (by : ℕ) (old now row : List ℕ) (at : ℕ) : Type 0 where
  done : (k : ℕ) → k < at → get_or now k 0 ≡ bit_xor (get_or old k 0) (product byte_field by (get_or row k 0))
  left : (k : ℕ) → at ≤ k → get_or now k 0 ≡ get_or old k 0

-- the next 32 gain theirs
abbrev Adds : (by : ℕ) (now next row : List ℕ) (at : ℕ) → Type 0
Adds by now next row at =
    (k : ℕ) → k < 32 → get_or next (at + k) 0 ≡ bit_xor (get_or now (at + k) 0) (product byte_field by (get_or row (at + k) 0))

-- then so have 32 more
more : (by : ℕ) (old now next row : List ℕ) (at : ℕ) → Gains by old now row at
    → Adds by now next row at
    → ((k : ℕ) → k < at → get_or next k 0 ≡ get_or now k 0)
    → ((k : ℕ) → at + 32 ≤ k → get_or next k 0 ≡ get_or now k 0)
    → Gains by old next row (at + 32)
more by old now next row at gains sums before behind = record {
  done = λ k h.
      below_more_by (λ k. get_or next k 0 ≡ bit_xor (get_or old k 0) (product byte_field by (get_or row k 0))) at 32
      (λ k l. before k l ∙ gains.done k l)
      (λ k l. sums k l ∙ ap (λ x. bit_xor x (product byte_field by (get_or row (at + k) 0))) (gains.left (at + k) (omega arith)))
      k h;
  left = λ k h. behind k h ∙ gains.left k (omega arith);
}

-- the next 64 bytes gain their products, in two halves; no other byte changes
pub loop-i-preserved : goal.loop-i-preserved
loop-i-preserved c =
    let at : ℕ = 64 * c.loop-i.i in
    let start : Gains c.args.self.now c.args.acc.now c.loop-i.acc c.args.row.now at =
    record { done = c.loop-i.invariant.done; left = c.loop-i.invariant.left } in
    let half : Gains c.args.self.now c.args.acc.now c.add_lanes.new.acc c.args.row.now (at + 32) =
    more c.args.self.now c.args.acc.now c.loop-i.acc c.add_lanes.new.acc c.args.row.now at start
    (subst (λ (by : ℕ). Adds by c.loop-i.acc c.add_lanes.new.acc c.args.row.now at) c.self.view_is c.add_lanes.ensures.sums) c.add_lanes.ensures.before c.add_lanes.ensures.behind in
    let whole : Gains c.args.self.now c.args.acc.now c.add_lanes-in-loop-i.new.acc c.args.row.now (at + 32 + 32) =
    more c.args.self.now c.args.acc.now c.add_lanes.new.acc c.add_lanes-in-loop-i.new.acc c.args.row.now (at + 32) half
    (subst (λ (by : ℕ). Adds by c.add_lanes.new.acc c.add_lanes-in-loop-i.new.acc c.args.row.now (at + 32)) c.self.view_is c.add_lanes-in-loop-i.ensures.sums) c.add_lanes-in-loop-i.ensures.before c.add_lanes-in-loop-i.ensures.behind in
    record {
      done = λ k h. whole.done k (omega (arith, h));
      left = λ k h. whole.left k (omega (arith, h));
    }
