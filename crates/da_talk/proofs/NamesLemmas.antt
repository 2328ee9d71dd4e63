-- How long the entries of a namespace answer are, and those of the rows from one on.
use Rattle.std.proofs.Common.{◌≡◌, ◌∙◌, ℕ, suc, ◌+◌, ◌-◌, ◌*◌, ◌<◌, ◌≤◌, Bool, true, false, cond, List, [], ◌∷◌, ◌++◌, length, take, drop, map, refl, sym, ap, arith, append_assoc, append-nil}
use Rattle.std.specs.Int.{w32, to_be_bytes}
use Rattle.std.specs.List.{flat_map}
use Rattle.std.proofs.Math.Nat.{mul-suc, mul-le-mul_left}
use Rattle.std.proofs.lemmas.List.{length-append}
use Rattle.namespace_id.specs.declared.shares.Share.{Share}
use Rattle.namespace_id.specs.declared.digests.Digest.{Digest}
use Rattle.namespace_id.specs.Shares.{AreShares, share_bytes}
use Rattle.namespace_id.specs.Digests.{IsDigest, AreDigests}
use Rattle.axis_roots.specs.declared.answers.Found.TheVariants.{Range, Absence}
use Rattle.axis_roots.specs.declared.answers.NsEntry.{NsEntry}
use Rattle.namespace_id.specs.Sizes.{most_nodes}
use Rattle.square_serve.proofs.PassingLemmas.{passing_from, passing-step, passing-end}
use Rattle.frame_payloads.specs.codec.Texts.{path_bytes}
use Rattle.frame_payloads.specs.kinds.Names.{entry_bytes}
use Rattle.frame_payloads.proofs.Fields.Digests.{length-digest_bytes}
use Rattle.frame_payloads.proofs.Fields.Shares.{length-share_bytes}
use Rattle.namespace_id.specs.Cells.{is_width}
use Rattle.namespace_id.proofs.WidthLemmas.{is_width-le}
use Rattle.da_talk.specs.Replies.{most_entry, most_names}

-- ---- one entry

-- a range of at most k shares
pub range_few : (k row start : ℕ) (shares : List Share) (nodes : List Digest) → AreShares shares → AreDigests nodes → length shares ≤ k → length nodes ≤ most_nodes
    → length (entry_bytes (record { row = row; found = Range start shares nodes })) ≤ most_entry k
range_few k row start shares nodes are digests few short =
    omega (arith, few, short, length-append (share_bytes shares) (path_bytes nodes), length-share_bytes shares are, length-digest_bytes nodes digests)

-- an absence
pub absence_few : (k row pos : ℕ) (leaf : Digest) (nodes : List Digest) → IsDigest leaf → AreDigests nodes → row < k → length nodes ≤ most_nodes
    → length (entry_bytes (record { row = row; found = Absence pos leaf nodes })) ≤ most_entry k
absence_few k row pos leaf nodes is digests within short =
    omega (arith, within, short, is.size_is, length-append leaf.0 (path_bytes nodes), length-digest_bytes nodes digests)

-- ---- the rows from one on

module _ (p : ℕ → Bool) (g : ℕ → NsEntry) (k row : ℕ) where
  -- the bytes of the entries of rows
  abbrev bytes_of : List ℕ → List ℕ
  bytes_of rows = flat_map entry_bytes (map g rows)

  -- by whether a row has an entry
  step : (b : Bool) (text more all : List ℕ) → row < k → p row ≡ b → more ≡ text ++ cond b (entry_bytes (g row)) [] → text ++ bytes_of (passing_from p k row) ≡ all
      → more ++ bytes_of (passing_from p k (row + 1)) ≡ all
  step true text more all h wanted is so_far =
      ap (λ (l : List ℕ). l ++ bytes_of (passing_from p k (row + 1))) is ∙ append_assoc text (entry_bytes (g row)) (bytes_of (passing_from p k (row + 1)))
      ∙ ap (λ (rows : List ℕ). text ++ bytes_of rows) (sym (passing-step p true k row h wanted)) ∙ so_far
  step false text more all h other is so_far =
      ap (λ (l : List ℕ). l ++ bytes_of (passing_from p k (row + 1))) (is ∙ append-nil text)
      ∙ ap (λ (rows : List ℕ). text ++ bytes_of rows) (sym (passing-step p false k row h other)) ∙ so_far

  -- one row more was written
  pub rows_on : (text more all : List ℕ) → row < k → more ≡ text ++ cond (p row) (entry_bytes (g row)) [] → text ++ bytes_of (passing_from p k row) ≡ all
      → more ++ bytes_of (passing_from p k (row + 1)) ≡ all
  rows_on text more all h is so_far = step (p row) text more all h refl is so_far

  -- all were
  pub rows_end : (text all : List ℕ) → k ≤ row → text ++ bytes_of (passing_from p k row) ≡ all → text ≡ all
  rows_end text all h so_far = sym (append-nil text) ∙ ap (λ (rows : List ℕ). text ++ bytes_of rows) (sym (passing-end p k row h)) ∙ so_far

  -- one entry more was counted
  pub count_on_row : (count all : ℕ) → row < k → p row ≡ true → count + length (map g (passing_from p k row)) ≡ all → count + 1 + length (map g (passing_from p k (row + 1))) ≡ all
  count_on_row count all h wanted so_far =
      omega (arith, so_far, ap (λ (rows : List ℕ). length (map g rows)) (passing-step p true k row h wanted))

  -- none more was
  pub count_off_row : (count all : ℕ) → row < k → p row ≡ false → count + length (map g (passing_from p k row)) ≡ all → count + length (map g (passing_from p k (row + 1))) ≡ all
  count_off_row count all h other so_far =
      omega (arith, so_far, ap (λ (rows : List ℕ). length (map g rows)) (passing-step p false k row h other))

  -- all were counted
  pub count_end : (count all : ℕ) → k ≤ row → count + length (map g (passing_from p k row)) ≡ all → count ≡ all
  count_end count all h so_far = omega (arith, so_far, ap (λ (rows : List ℕ). length (map g rows)) (passing-end p k row h))

-- before the first row none is passed
pub passing_all : (p : ℕ → Bool) (k n : ℕ) → n ≡ k → passing_from p k 0 ≡ passing_from p n 0
passing_all p k n same = ap (λ (m : ℕ). passing_from p m 0) (sym same)

-- room for one row more, and for those behind it
pub room_on : (most k row : ℕ) → row < k → most * (k - row) ≡ most * (k - (row + 1)) + most
room_on most k row h =
    let left : k - row ≡ suc (k - (row + 1)) = omega (arith, h) in
    omega (arith, ap (λ (n : ℕ). most * n) left, mul-suc most (k - (row + 1)))

-- ---- the frame

-- an answer from a square has a length of four bytes
pub names_short : (k : ℕ) → is_width k ≡ true → most_names k < 4294967291
names_short k width =
    let le : k ≤ 512 = is_width-le k width in
    let by_k : most_entry k * k ≤ most_entry k * 512 = mul-le-mul_left (most_entry k) le in
    omega (arith, by_k, le)

-- a head, and its length written over
pub sized_frame : (kind size : ℕ) (payload text : List ℕ) → text ≡ kind ∷ 0 ∷ 0 ∷ 0 ∷ 0 ∷ payload → size ≡ length payload
    → take 1 text ++ to_be_bytes w32 size ++ drop 5 text ≡ kind ∷ to_be_bytes w32 (length payload) ++ payload
sized_frame kind size payload text is same =
    ap (λ (l : List ℕ). take 1 l ++ to_be_bytes w32 size ++ drop 5 l) is
    ∙ ap (λ (n : ℕ). kind ∷ (to_be_bytes w32 n ++ payload)) same
