-- How long the payloads of samples and fraud claims are at most, whatever their numbers.
use Rattle.std.proofs.Common.{◌≡◌, ◌∙◌, ℕ, zero, suc, ◌+◌, ◌*◌, ◌≤◌, Bool, true, false, ◌&&◌, ◌||◌, cond, eqb, List, [], ◌∷◌, length, Option, None, Some, sym, ap, subst, arith, inl, inr, ⊎_elim, true≢false, eqb-true}
use Rattle.std.specs.Prelude.{◌⊎◌}
use Rattle.std.specs.Int.{w16}
use Rattle.std.specs.List.{list_any}
use Rattle.std.proofs.Math.Nat.{mul-suc}
use Rattle.std.proofs.lemmas.Bool.{and_parts, cases_Bool}
use Rattle.std.proofs.lemmas.Option.{same_Some}
use Rattle.namespace_id.specs.declared.cells.Axis.{Axis}
use Rattle.namespace_id.specs.declared.cells.Axis.TheVariants.{Row, Col}
use Rattle.namespace_id.specs.declared.digests.Digest.{Digest}
use Rattle.namespace_id.specs.Cells.{crossing}
use Rattle.axis_roots.specs.declared.message.messages.Message.{Message}
use Rattle.axis_roots.specs.Sets.{is_along, is_one_axis}
use Rattle.axis_roots.specs.Claims.{ClaimParts, IsClaim}
use Rattle.frame_fields.specs.Fields.{byte_at, string_at, big_endian_at, axis_at, cell_at, path_at, count_at, digest_list_at, many_at, list_at}
use Rattle.frame_fields.specs.Messages.{message_front, message_at}
use Rattle.frame_payloads.specs.kinds.Message.{most_message}
use Rattle.frame_payloads.specs.kinds.Fraud.{accused_at, claim_cells_at, plain_at, tag_at, cell_path_at, set_cell_at, set_cells_at, with_set_at, fraud_at, fraud_payload, is_unwritten}
use Rattle.frame_payloads.proofs.Fields.Readers.{bind_some, if_true}
use Rattle.frame_payloads.proofs.Fields.ReadLengths.{TakesFew, left_of, byte_few, front_few, number_few, digests_few, path_few, counted_few, many_few, list_few}
use Rattle.frame_payloads.proofs.Forms.FraudForm.{either_one, fraud_form}
use Rattle.frame_payloads.proofs.Forms.FraudSizes.{fraud_few}
use Rattle.da_watching.specs.Sizes.{most_claim}

-- ---- readers

-- what one of two tests gave
one_of : {A : Type 0} (a b : Bool) (x y r : A) → cond a (Some x) (cond b (Some y) None) ≡ Some r → (x ≡ r) ⊎ (y ≡ r)
one_of true b x y r e = inl (same_Some x r e)
one_of false true x y r e = inr (same_Some y r e)
one_of false false x y r e = absurd cc

-- a value by a byte, one of two
abbrev by_byte : {A : Type 0} → A → A → ℕ × List ℕ → Option (A × List ℕ)
by_byte x y byte = cond (eqb byte.0 0) (Some (x, byte.1)) (cond (eqb byte.0 1) (Some (y, byte.1)) None)

by_byte_few : {A : Type 0} (x y : A) (byte : ℕ × List ℕ) (r : A × List ℕ) → by_byte x y byte ≡ Some r → length byte.1 ≡ length r.1
by_byte_few {A} x y byte r e = ⊎_elim
    (λ (h : (x, byte.1) ≡ r). ap (λ (p : A × List ℕ). length p.1) h)
    (λ (h : (y, byte.1) ≡ r). ap (λ (p : A × List ℕ). length p.1) h)
    (one_of (eqb byte.0 0) (eqb byte.0 1) (x, byte.1) (y, byte.1) r e)

axis_few : TakesFew 1 axis_at
unfolding axis_at
axis_few bytes r e =
    let byte = bind_some (byte_at bytes) (by_byte Row Col) r e in
    omega (arith, byte_few bytes byte.0 byte.1, by_byte_few Row Col byte.0 r byte.2)

tag_few : (axis : Axis) → TakesFew 1 (tag_at axis)
unfolding tag_at
tag_few axis bytes r e =
    let byte = bind_some (byte_at bytes) (by_byte (crossing axis) axis) r e in
    omega (arith, byte_few bytes byte.0 byte.1, by_byte_few (crossing axis) axis byte.0 r byte.2)

cell_few : TakesFew 4 cell_at
unfolding cell_at
cell_few bytes r e =
    let row = bind_some (big_endian_at w16 bytes) _ r e in
    let col = bind_some (big_endian_at w16 row.0.1) _ r row.2 in
    omega (arith, number_few bytes row.0 row.1, number_few row.0.1 col.0 col.1, left_of _ r col.2)

-- ---- samples

message_front_few : TakesFew 1418 message_front
unfolding message_front
message_front_few bytes r e =
    let cell = bind_some (cell_at bytes) _ r e in
    let axis = bind_some (axis_at cell.0.1) _ r cell.2 in
    let share = bind_some (string_at 512 axis.0.1) _ r axis.2 in
    let path = bind_some (path_at 10 share.0.1) _ r share.2 in
    omega (
      arith,
      cell_few bytes cell.0 cell.1,
      axis_few cell.0.1 axis.0 axis.1,
      front_few (λ l. l) 512 axis.0.1 share.0 share.1,
      path_few 10 share.0.1 path.0 path.1,
      left_of _ r path.2,
    )

-- no sample is longer than the longest
pub message_few : (payload : List ℕ) (m : Message) → message_at payload ≡ Some m → length payload ≤ most_message
unfolding message_at
message_few payload m e =
    let front = bind_some (message_front payload) _ m e in
    let whole = if_true (eqb (length front.0.1) 0) _ m front.2 in
    omega (arith, message_front_few payload front.0 front.1, eqb-true (length front.0.1) 0 whole.0)

-- ---- lists

-- where one of them passes a test, with which it takes less, all take less
many_less : {A : Type 0} (most less : ℕ) (one : List ℕ → Option (A × List ℕ)) (test : A → Bool) → TakesFew most one
    → ((bytes : List ℕ) (r : A × List ℕ) → one bytes ≡ Some r → test r.0 ≡ true → length bytes + less ≤ most + length r.1)
    → (count : ℕ) (bytes : List ℕ) (r : List A × List ℕ) → many_at one count bytes ≡ Some r → list_any test r.0 ≡ true → length bytes + less ≤ most * count + length r.1
unfolding many_at
many_less {A} most less one test few fewer zero bytes r e some =
    let none : list_any test r.0 ≡ false = sym (ap (λ (x : List A × List ℕ). list_any test x.0) (same_Some ([], bytes) r e)) in
    absurd (true≢false (sym some ∙ none))
many_less {A} most less one test few fewer (suc count) bytes r e some =
    let first = bind_some (one bytes) _ r e in
    let others = bind_some (many_at one count first.0.1) _ r first.2 in
    let made : (first.0.0 ∷ others.0.0, others.0.1) ≡ r = same_Some (first.0.0 ∷ others.0.0, others.0.1) r others.2 in
    let left : length others.0.1 ≡ length r.1 = ap (λ (x : List A × List ℕ). length x.1) made in
    let any : list_any test (first.0.0 ∷ others.0.0) ≡ true = ap (λ (x : List A × List ℕ). list_any test x.0) made ∙ some in
    elim (cases_Bool (test first.0.0)) [
      | inl t ↦ omega (arith, fewer bytes first.0 first.1 t, many_few most one few count first.0.1 others.0 others.1, left, mul-suc most count)
      | inr f ↦
          let later : list_any test others.0.0 ≡ true = sym (ap (λ (b : Bool). b || list_any test others.0.0) f) ∙ any in
          omega (arith, few bytes first.0 first.1, many_less most less one test few fewer count first.0.1 others.0 others.1 later, left, mul-suc most count)
    ]

digest_list_few : (limit : ℕ) (bytes : List ℕ) (r : List Digest × List ℕ) → digest_list_at limit bytes ≡ Some r → length bytes ≤ 2 + 90 * limit + length r.1
unfolding digest_list_at
digest_list_few limit bytes r e =
    let count = bind_some (count_at w16 limit bytes) _ r e in
    let few = counted_few limit bytes count.0 count.1 in
    omega (arith, few.0, few.1, digests_few count.0.0 count.0.1 r count.2)

-- ---- claims

accused_few : (form : ℕ) → TakesFew 4 (accused_at form)
unfolding accused_at
accused_few form bytes r e =
    let byte = bind_some (byte_at bytes) _ r e in
    let axis = bind_some (cond (eqb byte.0.0 form) (axis_at byte.0.1) None) _ r byte.2 in
    let same = if_true (eqb byte.0.0 form) (axis_at byte.0.1) axis.0 axis.1 in
    let index = bind_some (big_endian_at w16 axis.0.1) _ r axis.2 in
    omega (arith, byte_few bytes byte.0 byte.1, axis_few byte.0.1 axis.0 same.1, number_few axis.0.1 index.0 index.1, left_of _ r index.2)

claim_cells_few : TakesFew 726018 claim_cells_at
claim_cells_few = list_few 1418 512 message_front message_front_few

plain_few : (payload : List ℕ) (claim : ClaimParts) → plain_at payload ≡ Some claim → length payload ≤ 726022
unfolding plain_at
plain_few payload claim e =
    let accused = bind_some (accused_at 1 payload) _ claim e in
    let cells = bind_some (claim_cells_at accused.0.1) _ claim accused.2 in
    let whole = if_true (eqb (length cells.0.1) 0) _ claim cells.2 in
    omega (arith, accused_few 1 payload accused.0 accused.1, claim_cells_few accused.0.1 cells.0 cells.1, eqb-true (length cells.0.1) 0 whole.0)

-- a cell of a claim with a set takes less where the set shows it
cell_path_few : (along : Bool) (bytes : List ℕ) (r : List Digest × List ℕ) → cell_path_at along bytes ≡ Some r → length bytes ≤ cond along 0 901 + length r.1
cell_path_few true bytes r e = omega (arith, left_of ([], bytes) r e)
cell_path_few false bytes r e = path_few 10 bytes r e

set_cell_read : (axis : Axis) (index : ℕ) (bytes : List ℕ) (r : Message × List ℕ) → set_cell_at axis index bytes ≡ Some r
    → length bytes ≤ 515 + cond (is_along axis r.0) 0 901 + length r.1
unfolding set_cell_at
set_cell_read axis index bytes r e =
    let pos = bind_some (big_endian_at w16 bytes) _ r e in
    let tag = bind_some (tag_at axis pos.0.1) _ r pos.2 in
    let share = bind_some (string_at 512 tag.0.1) _ r tag.2 in
    let path = bind_some (cell_path_at (is_one_axis axis tag.0.0) share.0.1) _ r share.2 in
    let made = same_Some _ r path.2 in
    let along : is_one_axis axis tag.0.0 ≡ is_along axis r.0 = ap (λ (x : Message × List ℕ). is_along axis x.0) made in
    let rest : length path.0.1 ≡ length r.1 = ap (λ (x : Message × List ℕ). length x.1) made in
    let few : length share.0.1 ≤ cond (is_along axis r.0) 0 901 + length path.0.1 =
    subst (λ (b : Bool). length share.0.1 ≤ cond b 0 901 + length path.0.1) along (cell_path_few (is_one_axis axis tag.0.0) share.0.1 path.0 path.1) in
    omega (arith, number_few bytes pos.0 pos.1, tag_few axis pos.0.1 tag.0 tag.1, front_few (λ l. l) 512 tag.0.1 share.0 share.1, few, rest)

path_most : (b : Bool) → cond b 0 901 ≤ 901
path_most true = omega arith
path_most false = omega arith

set_cell_few : (axis : Axis) (index : ℕ) → TakesFew 1416 (set_cell_at axis index)
set_cell_few axis index bytes r e = omega (arith, set_cell_read axis index bytes r e, path_most (is_along axis r.0))

set_cell_less : (axis : Axis) (index : ℕ) (bytes : List ℕ) (r : Message × List ℕ) → set_cell_at axis index bytes ≡ Some r → is_along axis r.0 ≡ true → length bytes + 901 ≤ 1416 + length r.1
set_cell_less axis index bytes r e along =
    let none : ◌≡◌ {A = ℕ} (cond (is_along axis r.0) 0 901) 0 = ap (λ (b : Bool). cond b 0 901) along in
    omega (arith, set_cell_read axis index bytes r e, none)

set_cells_few : (axis : Axis) (index : ℕ) (bytes : List ℕ) (r : List Message × List ℕ) → set_cells_at axis index bytes ≡ Some r → list_any (is_along axis) r.0 ≡ true
    → length bytes ≤ 724093 + length r.1
unfolding list_at
set_cells_few axis index bytes r e some =
    let count = bind_some (count_at w16 512 bytes) _ r e in
    let few = counted_few 512 bytes count.0 count.1 in
    omega (
      arith,
      few.0,
      few.1,
      many_less 1416 901 (set_cell_at axis index) (is_along axis) (set_cell_few axis index) (set_cell_less axis index) count.0.0 count.0.1 r count.2 some,
    )

with_set_few : (payload : List ℕ) (claim : ClaimParts) → with_set_at payload ≡ Some claim → length payload ≤ most_claim
unfolding with_set_at
with_set_few payload claim e =
    let accused = bind_some (accused_at 2 payload) _ claim e in
    let cells = bind_some (set_cells_at accused.0.0.0 accused.0.0.1 accused.0.1) _ claim accused.2 in
    let nodes = bind_some (digest_list_at 512 cells.0.1) _ claim cells.2 in
    let test = if_true (eqb (length nodes.0.1) 0 && list_any (is_along accused.0.0.0) cells.0.0) _ claim nodes.2 in
    let both = and_parts (eqb (length nodes.0.1) 0) (list_any (is_along accused.0.0.0) cells.0.0) test.0 in
    omega (
      arith,
      accused_few 2 payload accused.0 accused.1,
      set_cells_few accused.0.0.0 accused.0.0.1 accused.0.1 cells.0 cells.1 both.1,
      digest_list_few 512 cells.0.1 nodes.0 nodes.1,
      eqb-true (length nodes.0.1) 0 both.0,
    )

-- no claim is longer than the longest
pub claim_few : (payload : List ℕ) (claim : ClaimParts) → fraud_at payload ≡ Some claim → length payload ≤ most_claim
claim_few payload claim e = elim (either_one (plain_at payload) (with_set_at payload) claim e) [
  | inl plain ↦ omega (arith, plain_few payload claim plain)
  | inr set ↦ with_set_few payload claim set
]

-- nor is one that is written
pub claim_size : (claim : ClaimParts) → IsClaim claim → is_unwritten claim ≡ false → length (fraud_payload claim) ≤ most_claim
claim_size claim is written = claim_few (fraud_payload claim) claim (fraud_form.again claim is written (fraud_few claim is written))
