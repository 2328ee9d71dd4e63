-- Squares as their shares alone, written and read.
use Rattle.std.proofs.Common.{◌≡◌, ◌∙◌, ℕ, ◌*◌, ◌/◌, ◌%◌, ◌<◌, ◌≤◌, ◌==◌, nat_lt, Bool, true, false, cond, eqb, eqb-true, eq-eqb, List, length, Option, Some, None, Result, Ok, Err, refl, sym, ap, ap₂, subst, arith}
use Rattle.std.proofs.lemmas.Bool.Decides.{nat_tests}
use Rattle.std.proofs.lemmas.Nat.{mul-le}
use Rattle.std.proofs.lemmas.Option.{cond_some}
use Rattle.namespace_id.specs.declared.shares.Share.{Share}
use Rattle.namespace_id.specs.Bytes.{AreBytes}
use Rattle.namespace_id.specs.Cells.{is_width}
use Rattle.namespace_id.specs.Doublings.{least_doubling}
use Rattle.namespace_id.specs.Shares.{AreShares}
use Rattle.namespace_id.proofs.TestLemmas.{passes_below, passes_below-at, where_holds, where_holds-true}
use Rattle.namespace_id.proofs.WidthLemmas.{is_width-le}
use Rattle.square_layout.specs.Blocks.{SquareShares, IsSquare}
use Rattle.square_layout.proofs.SquareLemmas.{least_is_width}
use Rattle.celestia_pb.specs.ShareLists.{share_behind, shares_behind}
use Rattle.celestia_pb.proofs.EntryListLemmas.{length-entries}
use Rattle.celestia_pb.specs.Ods.{ods_text, least_width, square_width, ods_of, ods_value}
use Rattle.celestia_pb.proofs.Steps.{same_ok}
use Rattle.celestia_pb.proofs.ShareListLemmas.{shares_behind-are, share_bytes-behind, length-share_bytes, behind_share_bytes}

-- ---- widths

-- a test of all widths
widths_test : passes_below 513 (λ k. where_holds (is_width k) (least_width (k * k) == k)) ≡ true
unfolding passes_below least_doubling
widths_test = refl

-- the least square that holds the shares of a square is that square
least_of_square : (k : ℕ) → is_width k ≡ true → least_width (k * k) ≡ k
least_of_square k width =
    let test = passes_below-at 513 (λ k. where_holds (is_width k) (least_width (k * k) == k)) widths_test k (omega (arith, is_width-le k width)) in
    eqb-true _ _ (where_holds-true (is_width k) (least_width (k * k) == k) test width)

-- so its width is found
pub square_width-of : (k count : ℕ) → is_width k ≡ true → count ≡ k * k → square_width count ≡ Some k
square_width-of k count width full =
    ap (λ (n : ℕ). square_width n) full
    ∙ ap (λ (w : ℕ). cond (eqb (w * w) (k * k)) (Some w) None) (least_of_square k width)
    ∙ ap (λ (b : Bool). cond b (Some k) None) (eq-eqb (k * k) (k * k) refl)

-- a width that is found is one, of so many shares
pub square_width-back : (k count : ℕ) → square_width count ≡ Some k → (is_width k ≡ true) × (k * k ≡ count)
square_width-back k count e =
    let test = cond_some (eqb (least_width count * least_width count) count) (least_width count) k e in
    (subst (λ (w : ℕ). is_width w ≡ true) test.1 (least_is_width count), subst (λ (w : ℕ). w * w ≡ count) test.1 (eqb-true _ _ test.0))

-- no width has more shares than the greatest
few_shares : (k : ℕ) → is_width k ≡ true → k * k ≤ 262144
few_shares k width = mul-le k k 512 512 (is_width-le k width) (is_width-le k width)

-- ---- the tests of the length

-- what is read behind both tests
abbrev after_tests : List ℕ → Bool → Bool → Result SquareShares ℕ
after_tests bytes many whole =
    cond many (Err 134217728) (cond whole (ods_of bytes (square_width (length bytes / 512))) (Err (512 * (length bytes / 512))))

-- too many
pub ods_many : (bytes : List ℕ) → 134217728 < length bytes → ods_value bytes ≡ Err 134217728
ods_many bytes many =
    let test : nat_lt 134217728 (length bytes) ≡ true = grind (arith, nat_tests) in
    ap (λ (b : Bool). after_tests bytes b (eqb (length bytes % 512) 0)) test

-- no more than there may be
few_bytes : (bytes : List ℕ) → length bytes ≤ 134217728 → nat_lt 134217728 (length bytes) ≡ false
few_bytes bytes few = grind (arith, nat_tests)

-- the last share isn't whole
pub ods_cut : (bytes : List ℕ) → length bytes ≤ 134217728 → (length bytes % 512 ≡ 0 → ⊥) → ods_value bytes ≡ Err (512 * (length bytes / 512))
ods_cut bytes few cut =
    let test : eqb (length bytes % 512) 0 ≡ false = grind (arith, nat_tests) in
    ap₂ (after_tests bytes) (few_bytes bytes few) test

-- whole shares
pub ods_whole : (bytes : List ℕ) → length bytes ≤ 134217728 → length bytes % 512 ≡ 0 → ods_value bytes ≡ ods_of bytes (square_width (length bytes / 512))
ods_whole bytes few whole = ap₂ (after_tests bytes) (few_bytes bytes few) (eq-eqb _ _ whole)

-- ---- what is written is read

pub ods_is_read : (s : SquareShares) → IsSquare s → AreShares s.shares → ods_value (ods_text s) ≡ Ok s
ods_is_read s is are =
    let size : length (ods_text s) ≡ 512 * (s.k * s.k) = length-share_bytes s.shares are ∙ ap (λ (n : ℕ). 512 * n) is.count in
    let few : s.k * s.k ≤ 262144 = few_shares s.k is.width in
    let count : length (ods_text s) / 512 ≡ s.k * s.k = omega arith in
    ods_whole (ods_text s) (omega arith) (omega arith)
    ∙ ap (ods_of (ods_text s)) (square_width-of s.k (length (ods_text s) / 512) is.width count)
    ∙ ap (λ (l : List Share). Ok (record { k = s.k; shares = l }))
    (ap (λ (n : ℕ). shares_behind 0 n (ods_text s)) (sym is.count) ∙ behind_share_bytes s.shares are)

-- ---- what is read was written

-- a test that didn't refuse
passed : {A : Type 0} (b : Bool) (at : ℕ) (r : Result A ℕ) (x : A) → cond b (Err at) r ≡ Ok x → (b ≡ false) × (r ≡ Ok x)
passed true at r x e = absurd cc
passed false at r x e = (refl, e)

held : {A : Type 0} (b : Bool) (at : ℕ) (r : Result A ℕ) (x : A) → cond b r (Err at) ≡ Ok x → (b ≡ true) × (r ≡ Ok x)
held true at r x e = (refl, e)
held false at r x e = absurd cc

-- the width was found
of_back : (bytes : List ℕ) (o : Option ℕ) (s : SquareShares) → ods_of bytes o ≡ Ok s → (k : ℕ) × (o ≡ Some k) × (record { k = k; shares = shares_behind 0 (k * k) bytes } ≡ s)
of_back bytes None s e = absurd cc
of_back bytes (Some k) s e = (k, refl, same_ok (record { k = k; shares = shares_behind 0 (k * k) bytes }) s e)

pub read_is_ods : (bytes : List ℕ) (s : SquareShares) → AreBytes bytes → ods_value bytes ≡ Ok s → (IsSquare s × AreShares s.shares) × (bytes ≡ ods_text s)
read_is_ods bytes s fits e =
    let few = passed (nat_lt 134217728 (length bytes)) 134217728 (after_tests bytes false (eqb (length bytes % 512) 0)) s e in
    let whole = held (eqb (length bytes % 512) 0) (512 * (length bytes / 512)) (ods_of bytes (square_width (length bytes / 512))) s few.1 in
    let found = of_back bytes (square_width (length bytes / 512)) s whole.1 in
    let k : ℕ = found.0 in
    let width = square_width-back k (length bytes / 512) found.1 in
    let none : length bytes % 512 ≡ 0 = eqb-true _ _ whole.0 in
    let full : k * k ≡ length bytes / 512 = width.1 in
    let size : 512 * (k * k) ≡ length bytes = omega arith in
    subst (λ (s : SquareShares). (IsSquare s × AreShares s.shares) × (bytes ≡ ods_text s)) found.2 (
      (
        record { width = width.0; count = length-entries (share_behind 0) 512 (k * k) bytes },
        shares_behind-are (k * k) bytes fits size,
      ),
      sym (share_bytes-behind (k * k) bytes size),
    )
