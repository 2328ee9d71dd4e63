-- Lemmas on plans: the places are the least, and what stands in a square is no more than it is for.
use Rattle.std.proofs.Common.{true, false, if◌then◌else◌, ◌≡◌, ◌∙◌, ℕ, ◌+◌, ◌-◌, ◌*◌, ◌%◌, ◌/◌, ◌<◌, ◌≤◌, ◌==◌, Bool, Bor, List, [], ◌∷◌, ◌++◌, Option, None, length, replicate, min, refl, sym, ap, ap₂, subst, arith, inl, inr, length-append}
use Rattle.std.proofs.Math.Nat.{mod-eq-sub-div-mul, div-mul-le_self}
use Rattle.std.proofs.lemmas.Bool.{cases_lt, eqb-true, eq-eqb}
use Rattle.std.proofs.lemmas.List.{length-replicate, length-map, append-nil, nil_from_length}
use Rattle.std.proofs.lemmas.Nat.{mul-le}
use Rattle.std.specs.Int.{div_ceil}
use Rattle.namespace_id.specs.declared.shares.Share.{Share}
use Rattle.namespace_id.specs.Names.{is_at_most, transaction, pay_for_blob, primary_reserved_padding, tail_padding}
use Rattle.share_split.specs.Widths.{subtree_width_of}
use Rattle.share_split.specs.Blobs.{NamedBytes, version_of, blob_shares_of}
use Rattle.share_split.specs.Units.{unit_shares_of, unit_share_count}
use Rattle.share_split.specs.Joined.{padding_of, padding_share}
use Rattle.share_split.proofs.Writing.UnitLaws.{unit_shares_are_counted}
use Rattle.std.specs.List.{AllByRecursion}
use Rattle.square_layout.specs.Blocks.{BlockParts, HaveBytes, SquareShares}
use Rattle.square_layout.specs.Layout.{put_in, in_order, share_count_of, start_after, end_of, gap_behind, placed_behind, holding_from, laid}
use Rattle.square_layout.specs.Refusals.{max_shares, most_named}
use Rattle.square_layout.specs.Plans.{PlanParts, starts_after, ArePlaces, AreAtMost, blobs_bound, bound, front, lead, planned, plan_width, square_of_plan, plan_of}
use Rattle.square_layout.proofs.BlobOrderLemmas.{All-in_order}
use Rattle.square_layout.proofs.CountLemmas.{lent}
use Rattle.square_layout.proofs.PlaceLemmas.{width_of-some, start_after-near, length-placed}

-- a plan of these parts
abbrev pub plan_in : List (List ℕ) → List (List ℕ) → List NamedBytes → ℕ → PlanParts
plan_in units pay_units blobs reserve = record { units = units; pay_units = pay_units; blobs = blobs; reserve = reserve }

-- ---- the least places

-- a multiple isn't below a lesser one by less than a step
multiple-le : (m n step : ℕ) → m * step < n * step + step → m * step ≤ n * step
multiple-le m n step near = elim (cases_lt n m) [
  | inl more ↦ (let grown : (n + 1) * step ≤ m * step = mul-le (n + 1) step m step (omega (arith, more)) (omega arith) in
      let next : (n + 1) * step ≡ n * step + step = omega arith in omega (arith, grown, next, near))
  | inr few ↦ mul-le m step n step few (omega arith)
]

-- no place of a blob is before its start
start_after-least : (end at : ℕ) (blob : NamedBytes) → end ≤ at → at % subtree_width_of (share_count_of blob) ≡ 0 → start_after end blob ≤ at
start_after-least end at blob h aligned =
    let step : ℕ = subtree_width_of (share_count_of blob) in
    let is : at ≡ at / step * step = omega (arith, mod-eq-sub-div-mul at step, div-mul-le_self at step, aligned) in
    let near : start_after end blob < at / step * step + step = omega (arith, start_after-near end blob, h, is) in
    let least : start_after end blob ≤ at / step * step = multiple-le (div_ceil end step) (at / step) step near in
    omega (arith, least, is)

-- no places of blobs are before their starts
pub starts-least : (end from : ℕ) (blobs : List NamedBytes) (places : List ℕ) → end ≤ from → ArePlaces from blobs places
    → AreAtMost (starts_after end blobs) places
unfolding starts_after ArePlaces AreAtMost
starts-least end from [] places h are = tt
starts-least end from (blob ∷ blobs) [] h are = are
starts-least end from (blob ∷ blobs) (at ∷ places) h are =
    let first : start_after end blob ≤ at = start_after-least end at blob (omega (arith, h, are.0)) are.1 in
    (first, starts-least (start_after end blob + share_count_of blob) (at + share_count_of blob) blobs places (omega (arith, first)) are.2)

-- ---- how many shares

-- blobs end within the most shares that they may take
pub end_of-bound : (end : ℕ) (blobs : List NamedBytes) → end_of end blobs ≤ end + blobs_bound blobs
unfolding end_of blobs_bound
end_of-bound end [] = omega arith
end_of-bound end (blob ∷ blobs) =
    omega (arith, start_after-near end blob, width_of-some (share_count_of blob), end_of-bound (start_after end blob + share_count_of blob) blobs)

-- in any order they may take as many
most-put_in : (blob : NamedBytes) (blobs : List NamedBytes) → blobs_bound (put_in blob blobs) ≡ blobs_bound (blob ∷ blobs)
unfolding put_in blobs_bound
most-put_in blob [] = refl
most-put_in blob (other ∷ others) = elim (is_at_most blob.namespace other.namespace) as (λ b. blobs_bound (if b then blob ∷ other ∷ others else other ∷ put_in blob others) ≡ blobs_bound (blob ∷ other ∷ others)) [
  | true ↦ refl
  | false ↦ omega (arith, most-put_in blob others)
]

pub most-in_order : (blobs : List NamedBytes) → blobs_bound (in_order blobs) ≡ blobs_bound blobs
unfolding in_order blobs_bound
most-in_order [] = refl
most-in_order (blob ∷ blobs) = omega (arith, most-put_in blob (in_order blobs), most-in_order blobs)

-- the blobs of a plan end within what the width is for
pub plan_fits : (plan : PlanParts) → end_of plan.reserve (in_order plan.blobs) ≤ bound plan
plan_fits plan = omega (arith, end_of-bound plan.reserve (in_order plan.blobs), most-in_order plan.blobs)

-- one blob more is counted
pub bound_on : (most new whole : ℕ) (blob : NamedBytes) (blobs others : List NamedBytes) → blobs ≡ blob ∷ others
    → new ≡ min (most + (share_count_of blob + (subtree_width_of (share_count_of blob) - 1))) most_named
    → min (most + blobs_bound blobs) most_named ≡ whole → min (new + blobs_bound others) most_named ≡ whole
unfolding blobs_bound
bound_on most new whole blob blobs others left is so_far =
    let next : blobs_bound blobs ≡ share_count_of blob + (subtree_width_of (share_count_of blob) - 1) + blobs_bound others = ap blobs_bound left in
    omega (arith, next, is, so_far)

-- all blobs are counted
pub bound_all : (most whole : ℕ) (blobs : List NamedBytes) → blobs ≡ [] → most ≤ most_named → min (most + blobs_bound blobs) most_named ≡ whole → most ≡ whole
unfolding blobs_bound
bound_all most whole blobs none fits so_far =
    let zero : blobs_bound blobs ≡ 0 = ap blobs_bound none in omega (arith, zero, fits, so_far)

-- what the width is for is told, where it isn't more than the greatest square has
pub bound_told : (plan : PlanParts) (blobs : List NamedBytes) (most : ℕ) → blobs ≡ plan.blobs → most ≡ min (plan.reserve + blobs_bound blobs) most_named
    → bound plan ≤ max_shares → most ≡ bound plan
bound_told plan blobs most same is few = omega (arith, is, ap blobs_bound same, few)

-- how many compact shares a plan has
pub length-front : (plan : PlanParts) → length (front plan) ≡ unit_share_count plan.units + unit_share_count plan.pay_units
length-front plan =
    length-append (unit_shares_of transaction plan.units) (unit_shares_of pay_for_blob plan.pay_units)
    ∙ ap₂ (λ (m n : ℕ). m + n) (unit_shares_are_counted transaction plan.units) (unit_shares_are_counted pay_for_blob plan.pay_units)

-- ordering blobs leaves none out
put_in-some : (count : ℕ) (blob : NamedBytes) (blobs : List NamedBytes) → lead count (put_in blob blobs) ≡ lead count (blob ∷ blobs)
unfolding put_in lead
put_in-some count blob [] = refl
put_in-some count blob (other ∷ others) = elim (is_at_most blob.namespace other.namespace) as (λ b. lead count (if b then blob ∷ other ∷ others else other ∷ put_in blob others) ≡ lead count (blob ∷ other ∷ others)) [
  | true ↦ refl
  | false ↦ refl
]

-- so the padding before the first is the same
pub lead-in_order : (count : ℕ) (blobs : List NamedBytes) → lead count blobs ≡ lead count (in_order blobs)
unfolding in_order lead
lead-in_order count [] = refl
lead-in_order count (blob ∷ blobs) = sym (put_in-some count blob (in_order blobs))

-- ---- what is put behind the compact shares

-- a length that is tested is 0, or isn't
is_none : (n : ℕ) (b : Bool) → b ≡ (n == 0) → b ≡ true → n ≡ 0
is_none n b e h = eqb-true n 0 (sym e ∙ h)

is_some : (n : ℕ) (b : Bool) → b ≡ (n == 0) → b ≡ false → 0 < n
is_some n b e h = elim (cases_lt 0 n) [
  | inl more ↦ more
  | inr none ↦ (let zero_is : n ≡ 0 = omega (arith, none) in absurd (let clash : true ≡ false = sym (e ∙ eq-eqb n 0 zero_is) ∙ h in cc))
]

-- no blobs are lent, or some
pub lent_none : (blobs : List (Bor NamedBytes)) (b : Bool) → b ≡ (length blobs == 0) → b ≡ true → lent blobs ≡ []
lent_none blobs b e h = nil_from_length (lent blobs) (length-map blobs (λ (x : Bor NamedBytes). x.now) ∙ is_none (length blobs) b e h)

pub lent_some : (blobs : List (Bor NamedBytes)) (b : Bool) → b ≡ (length blobs == 0) → b ≡ false → 0 < length (lent blobs)
lent_some blobs b e h = omega (arith, length-map blobs (λ (x : Bor NamedBytes). x.now), is_some (length blobs) b e h)

-- the padding before the first blob
abbrev pub gap : Share
gap = padding_share primary_reserved_padding

-- the padding before the first blob, and the blobs
abbrev pub behind : ℕ → ℕ → List NamedBytes → List Share
behind count reserve order = lead count order ++ placed_behind true gap reserve order

-- nothing is put behind where there is no blob
pub behind_none : (count reserve : ℕ) (order : List NamedBytes) (out : List Share) → order ≡ []
    → out ≡ out ++ lead count order ++ placed_behind true gap reserve order
unfolding lead placed_behind
behind_none count reserve order out none =
    sym (ap (λ (l : List NamedBytes). out ++ lead count l ++ placed_behind true gap reserve l) none
    ∙ append-nil (out ++ []) ∙ append-nil out)

-- the padding where there is a blob
lead_some : (count : ℕ) (order : List NamedBytes) → 0 < length order → lead count order ≡ replicate count gap
unfolding lead
lead_some count [] some = absurd (omega (arith, some))
lead_some count (blob ∷ blobs) some = refl

-- padding up to the place that is reserved
pub gap_fills : (reserve : ℕ) (out full : List Share) → length out ≤ reserve → full ≡ out ++ replicate (reserve - length out) gap → length full ≡ reserve
gap_fills reserve out full room is =
    omega (arith, ap length is, length-append out (replicate (reserve - length out) gap), length-replicate (reserve - length out) gap, room)

-- it and the blobs are put behind
pub behind_some : (reserve : ℕ) (order : List NamedBytes) (out full new : List Share) → 0 < length order → length out ≤ reserve
    → full ≡ out ++ replicate (reserve - length out) gap → new ≡ full ++ placed_behind true gap (length full) order
    → new ≡ out ++ lead (reserve - length out) order ++ placed_behind true gap reserve order
behind_some reserve order out full new some room f n =
    n ∙ ap (λ (e : ℕ). full ++ placed_behind true gap e order) (gap_fills reserve out full room f)
    ∙ ap (λ (l : List Share). l ++ placed_behind true gap reserve order)
    (f ∙ ap (λ (l : List Share). out ++ l) (sym (lead_some (reserve - length out) order some)))

-- ---- the square

-- in order each blob has bytes too
pub order_has_bytes : (blobs order : List NamedBytes) → order ≡ in_order blobs → HaveBytes blobs → HaveBytes order
order_has_bytes blobs order is some =
    subst HaveBytes (sym is) (All-in_order (λ (blob : NamedBytes). 1 ≤ length blob.bytes) blobs some)

-- the blobs fit where the most shares do
pub order_fits : (plan : PlanParts) (order : List NamedBytes) (most top : ℕ) → order ≡ in_order plan.blobs → most ≡ bound plan → most ≤ top
    → end_of plan.reserve order ≤ top
order_fits plan order most top is e few = omega (arith, ap (end_of plan.reserve) is, plan_fits plan, e, few)

-- the padding before the first blob and the blobs reach up to their end
length-behind : (reserve count : ℕ) (order : List NamedBytes) → reserve ≤ count → length (behind (count - reserve) count order) + reserve ≤ end_of count order
unfolding lead placed_behind end_of
length-behind reserve count [] room = omega (arith, room)
length-behind reserve count (blob ∷ blobs) room =
    omega (
      arith,
      length-append (replicate (count - reserve) gap) (placed_behind true gap count (blob ∷ blobs)),
      length-replicate (count - reserve) gap,
      length-placed true gap count (blob ∷ blobs),
      room,
    )

-- a plan has no more shares than its width is for
pub planned_fits : (plan : PlanParts) → length (front plan) ≤ plan.reserve → length (planned plan) ≤ bound plan
planned_fits plan room =
    let order : List NamedBytes = in_order plan.blobs in
    let same : lead (plan.reserve - length (front plan)) plan.blobs ≡ lead (plan.reserve - length (front plan)) order =
    lead-in_order (plan.reserve - length (front plan)) plan.blobs in
    let grouped : length (planned plan) ≡ length (front plan) + length (behind (plan.reserve - length (front plan)) plan.reserve order) =
    length-append (front plan ++ lead (plan.reserve - length (front plan)) plan.blobs) (placed_behind true gap plan.reserve order)
    ∙ ap (λ (n : ℕ). n + length (placed_behind true gap plan.reserve order)) (length-append (front plan) (lead (plan.reserve - length (front plan)) plan.blobs)
    ∙ ap (λ (l : List Share). length (front plan) + length l) same)
    ∙ omega (arith, length-append (lead (plan.reserve - length (front plan)) order) (placed_behind true gap plan.reserve order)) in
    omega (arith, grouped, length-behind (length (front plan)) plan.reserve order room, plan_fits plan)

-- first the compact shares
pub front_there : (compact none out : List Share) → none ≡ [] → out ≡ none ++ compact → out ≡ compact
front_there compact none out n o = o ∙ ap (λ (l : List Share). l ++ compact) n

-- then the padding up to the place that is reserved, and the blobs
pub planned_there : (plan : PlanParts) (out new : List Share) (order : List NamedBytes) → out ≡ front plan → order ≡ in_order plan.blobs
    → new ≡ out ++ lead (plan.reserve - length out) order ++ placed_behind true gap plan.reserve order → new ≡ planned plan
planned_there plan out new order o b n =
    n ∙ ap₂ (λ (l : List Share) (x : List NamedBytes). l ++ lead (plan.reserve - length l) x ++ placed_behind true gap plan.reserve x) o b
    ∙ ap (λ (l : List Share). front plan ++ l ++ placed_behind true gap plan.reserve (in_order plan.blobs))
    (sym (lead-in_order (plan.reserve - length (front plan)) plan.blobs))

-- and the padding behind them
pub tail_there : (whole before all : List Share) (pad : Share) (size to : ℕ) → pad ≡ padding_share tail_padding → before ≡ whole → to ≡ size
    → all ≡ before ++ replicate (to - length before) pad → all ≡ whole ++ replicate (size - length whole) (padding_share tail_padding)
tail_there whole before all pad size to p b t a =
    a ∙ ap (λ (s : Share). before ++ replicate (to - length before) s) p
    ∙ ap₂ (λ (l : List Share) (n : ℕ). l ++ replicate (n - length l) (padding_share tail_padding)) b t

-- a width and shares
abbrev pub made : ℕ → List Share → SquareShares
made k shares = record { k = k; shares = shares }

-- the square of a plan is there
pub plan_there : (plan : PlanParts) (k most : ℕ) (all : List Share) → k ≡ holding_from 9 1 most → most ≡ bound plan
    → all ≡ planned plan ++ replicate (k * k - length (planned plan)) (padding_share tail_padding) → made k all ≡ square_of_plan plan
plan_there plan k most all w m a =
    let width : k ≡ plan_width plan = w ∙ ap (λ (n : ℕ). holding_from 9 1 n) m in
    ap₂ made width (a ∙ ap (λ (n : ℕ). planned plan ++ replicate (n * n - length (planned plan)) (padding_share tail_padding)) width)

-- ---- beside the layout of a block

-- padding behind blobs without signers has version 0 anyhow
placed-unsigned : (before : Share) (end : ℕ) (blobs : List NamedBytes) → AllByRecursion (λ blob. blob.signer ≡ None) blobs
    → placed_behind true before end blobs ≡ placed_behind false before end blobs
unfolding placed_behind
placed-unsigned before end [] none = refl
placed-unsigned before end (blob ∷ blobs) none =
    let next : ℕ = start_after end blob + share_count_of blob in
    let own : List Share = replicate (start_after end blob - end) before ++ blob_shares_of blob.namespace blob.signer blob.bytes in
    let same : gap_behind true blob ≡ gap_behind false blob = ap (λ (s : Option (List ℕ)). padding_of (version_of s) blob.namespace) none.0 in
    ap (λ (l : List Share). own ++ l)
    (placed-unsigned (gap_behind true blob) next blobs none.1 ∙ ap (λ (s : Share). placed_behind false s next blobs) same)

-- no padding in front of the first blob
lead_zero : (blobs : List NamedBytes) → lead 0 blobs ≡ []
unfolding lead
lead_zero [] = refl
lead_zero (blob ∷ blobs) = refl

-- a block without signers is laid out as the plan whose blobs may start behind its compact shares
pub planned_is_laid : (block : BlockParts) → AllByRecursion (λ blob. blob.signer ≡ None) block.blobs → planned (plan_of block) ≡ laid block
planned_is_laid block none =
    let plan : PlanParts = plan_of block in
    let zero : plan.reserve - length (front plan) ≡ 0 = omega (arith, length-front plan) in
    ap (λ (l : List Share). front plan ++ l ++ placed_behind true gap plan.reserve (in_order plan.blobs))
    (ap (λ (n : ℕ). lead n plan.blobs) zero ∙ lead_zero plan.blobs)
    ∙ ap (λ (l : List Share). l ++ placed_behind true gap plan.reserve (in_order plan.blobs)) (append-nil (front plan))
    ∙ ap (λ (l : List Share). front plan ++ l)
    (placed-unsigned gap plan.reserve (in_order plan.blobs) (All-in_order (λ (blob : NamedBytes). blob.signer ≡ None) block.blobs none))
