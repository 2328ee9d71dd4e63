-- What is written of payments takes no more shares than are reserved for them.
use Rattle.std.proofs.Common.{◌≡◌, ℕ, zero, suc, ◌+◌, ◌-◌, ◌*◌, ◌/◌, ◌<◌, ◌≤◌, List, [], ◌∷◌, ◌++◌, length, take, drop, replicate, codes, ap, arith, inl, inr, length-append}
use Rattle.std.specs.List.{flat_map, AllByRecursion}
use Rattle.std.specs.Int.{div_ceil}
use Rattle.std.proofs.lemmas.Bool.{cases_lt}
use Rattle.std.proofs.lemmas.Bool.Decides.{nat_tests}
use Rattle.std.proofs.lemmas.Grind.{div_ceil_times}
use Rattle.proto_fields.specs.Varints.{varint_within, varint}
use Rattle.proto_fields.specs.Spelled.{text}
use Rattle.proto_fields.proofs.Varint.Bytes.{varint_within-low, varint_within-high}
use Rattle.share_split.specs.Units.{unit_text, units_text, compact_count, unit_share_count}
use Rattle.square_layout.specs.Plans.{AreAtMost}
use Rattle.tx_list.specs.Payments.{PaymentParts}
use Rattle.tx_list.specs.Wrapped.{some_field, wrapped, wrap_all}
use Rattle.tx_list.specs.Reserves.{full_place}
use Rattle.tx_list.proofs.UnitTextLemmas.{unit_text-is}

-- ---- varints

-- a lesser number has no longer varint
varint_within-le : (more m n : ℕ) → m ≤ n → length (varint_within more m) ≤ length (varint_within more n)
unfolding varint_within
varint_within-le zero m n h = omega arith
varint_within-le (suc more) m n h = elim (cases_lt n 128) [
  | inl lt ↦ omega (arith, ap length (varint_within-low more n lt), ap length (varint_within-low more m (omega (arith, h, lt))))
  | inr le ↦ elim (cases_lt m 128) [
    | inl low ↦ omega (arith, ap length (varint_within-high more n le), ap length (varint_within-low more m low))
    | inr high ↦ omega (
      arith,
      ap length (varint_within-high more n le),
      ap length (varint_within-high more m high),
      varint_within-le more (m / 128) (n / 128) (omega (arith, h)),
    )
  ]
]

varint-le : (m n : ℕ) → m ≤ n → length (varint m) ≤ length (varint n)
varint-le m n h = varint_within-le 10 m n h

-- so it is with bytes behind their length
text-le : (a b : List ℕ) → length a ≤ length b → length (text a) ≤ length (text b)
text-le a b h = omega (arith, length-append (varint (length a)) a, length-append (varint (length b)) b, varint-le (length a) (length b) h, h)

-- ---- places

-- lesser places take no more bytes
packed-le : (places others : List ℕ) → AreAtMost places others → length (flat_map varint places) ≤ length (flat_map varint others)
unfolding AreAtMost
packed-le [] others h = omega arith
packed-le (place ∷ places) [] h = absurd h
packed-le (place ∷ places) (other ∷ others) h =
    omega (
      arith,
      length-append (varint place) (flat_map varint places),
      length-append (varint other) (flat_map varint others),
      varint-le place other h.0,
      packed-le places others h.1,
    )

AreAtMost-take : (count : ℕ) (places others : List ℕ) → AreAtMost places others → AreAtMost (take count places) (take count others)
unfolding AreAtMost
AreAtMost-take zero places others h = tt
AreAtMost-take (suc count) [] others h = tt
AreAtMost-take (suc count) (place ∷ places) [] h = absurd h
AreAtMost-take (suc count) (place ∷ places) (other ∷ others) h = (h.0, AreAtMost-take count places others h.1)

AreAtMost-drop : (count : ℕ) (places others : List ℕ) → AreAtMost places others → AreAtMost (drop count places) (drop count others)
unfolding AreAtMost
AreAtMost-drop zero places others h = h
AreAtMost-drop (suc count) [] others h = tt
AreAtMost-drop (suc count) (place ∷ places) [] h = absurd h
AreAtMost-drop (suc count) (place ∷ places) (other ∷ others) h = AreAtMost-drop count places others h.1

-- places are at most the one that is counted
pub at_most_full : (places : List ℕ) (count : ℕ) → length places ≡ count → AllByRecursion (λ place. place < full_place) places
    → AreAtMost places (replicate count full_place)
unfolding AreAtMost
at_most_full [] count size low = tt
at_most_full (place ∷ places) zero size low = absurd (omega (arith, size))
at_most_full (place ∷ places) (suc count) size low = (omega (arith, low.0), at_most_full places count (omega (arith, size)) low.1)

-- ---- what is wrapped

-- a field of fewer bytes is no longer
field-le : (n : ℕ) (a b : List ℕ) → length a ≤ length b → length (some_field n a) ≤ length (some_field n b)
field-le n [] b h = omega arith
field-le n (x ∷ xs) [] h = absurd (omega (arith, h))
field-le n (x ∷ xs) (y ∷ ys) h =
    omega (
      arith,
      length-append (varint (8 * n + 2)) (text (x ∷ xs)),
      length-append (varint (8 * n + 2)) (text (y ∷ ys)),
      text-le (x ∷ xs) (y ∷ ys) h,
    )

-- a transaction that is wrapped with lesser places is no longer
wrapped-le : (tx places others : List ℕ) → AreAtMost places others → length (wrapped tx places) ≤ length (wrapped tx others)
wrapped-le tx places others h =
    let here : List ℕ = some_field 2 (flat_map varint places) in
    let there : List ℕ = some_field 2 (flat_map varint others) in
    let mark : List ℕ = some_field 3 (codes "INDX") in
    omega (
      arith,
      length-append (some_field 1 tx) (here ++ mark),
      length-append here mark,
      length-append (some_field 1 tx) (there ++ mark),
      length-append there mark,
      field-le 2 (flat_map varint places) (flat_map varint others) (packed-le places others h),
    )

-- ---- how many shares

-- a shorter unit has no longer text
unit_text-le : (a b : List ℕ) → length a ≤ length b → length (unit_text a) ≤ length (unit_text b)
unit_text-le a b h = omega (arith, ap length (unit_text-is a), ap length (unit_text-is b), text-le a b h)

-- so it is with all payments
texts-le : (payments : List PaymentParts) (places others : List ℕ) → AreAtMost places others
    → length (units_text (wrap_all payments places)) ≤ length (units_text (wrap_all payments others))
unfolding wrap_all
texts-le [] places others h = omega arith
texts-le (payment ∷ payments) places others h =
    let count : ℕ = length payment.blobs in
    let one : List ℕ = wrapped payment.tx (take count places) in
    let other : List ℕ = wrapped payment.tx (take count others) in
    omega (
      arith,
      length-append (unit_text one) (units_text (wrap_all payments (drop count places))),
      length-append (unit_text other) (units_text (wrap_all payments (drop count others))),
      unit_text-le one other (wrapped-le payment.tx (take count places) (take count others) (AreAtMost-take count places others h)),
      texts-le payments (drop count places) (drop count others) (AreAtMost-drop count places others h),
    )

-- each text takes a share
compact_count-some : (n : ℕ) → 1 ≤ compact_count n
compact_count-some n = elim (cases_lt 474 n) [
  | inl long ↦ (let is : compact_count n ≡ 1 + div_ceil (n - 474) 478 = grind (arith, nat_tests, long) in omega (arith, is))
  | inr short ↦ (let is : compact_count n ≡ 1 = grind (arith, nat_tests, short) in omega (arith, is))
]

-- a shorter text takes no more compact shares
compact_count-le : (a b : ℕ) → a ≤ b → compact_count a ≤ compact_count b
compact_count-le a b h = elim (cases_lt 474 a) [
  | inl long ↦
      let here : compact_count a ≡ 1 + div_ceil (a - 474) 478 = grind (arith, nat_tests, long) in
      let there : compact_count b ≡ 1 + div_ceil (b - 474) 478 = grind (arith, nat_tests, long, h) in
      omega (arith, here, there, h, long, div_ceil_times (a - 474) 478 (omega arith), div_ceil_times (b - 474) 478 (omega arith))
  | inr short ↦
      let here : compact_count a ≡ 1 = grind (arith, nat_tests, short) in
      let some : 1 ≤ compact_count b = compact_count-some b in omega (arith, here, some)
]

-- payments that are wrapped with lesser places take no more shares
pub shares-le : (payments : List PaymentParts) (places others : List ℕ) → AreAtMost places others
    → unit_share_count (wrap_all payments places) ≤ unit_share_count (wrap_all payments others)
unfolding wrap_all
shares-le [] places others h = omega arith
shares-le (payment ∷ payments) places others h =
    compact_count-le (length (units_text (wrap_all (payment ∷ payments) places))) (length (units_text (wrap_all (payment ∷ payments) others)))
    (texts-le (payment ∷ payments) places others h)
