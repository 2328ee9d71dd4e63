-- What is found in a row and read is what was written, and what was written is read.
use Rattle.std.proofs.Common.{◌≡◌, ℕ, ◌^◌, ◌<◌, ◌≤◌, false, List, ◌++◌, length, Some, refl, inl, inr, sym, subst, arith, ltb-false, le-ltb}
use Rattle.std.specs.Prelude.{◌⊎◌}
use Rattle.std.specs.Int.{w16, to_be_bytes}
use Rattle.namespace_id.specs.declared.digests.Digest.{Digest}
use Rattle.namespace_id.specs.declared.shares.Share.{Share}
use Rattle.namespace_id.specs.Bytes.{AreBytes}
use Rattle.namespace_id.specs.Shares.{AreShares, share_bytes}
use Rattle.axis_roots.specs.declared.answers.Found.{Found}
use Rattle.axis_roots.specs.declared.answers.Found.TheVariants.{Range, Absence}
use Rattle.axis_roots.specs.Answers.{IsFound}
use Rattle.frame_fields.specs.Fields.{count_at}
use Rattle.namespace_id.specs.Sizes.{most_nodes}
use Rattle.frame_payloads.specs.kinds.Names.{most_shares_shown, is_long_found, share_list_bytes, found_bytes, share_list_at, range_at, absence_at, found_at}
use Rattle.frame_payloads.proofs.Fields.Readers.{bind_some, Takes, Takes-then}
use Rattle.frame_payloads.proofs.Fields.Numbers.{wide16, count_takes, count_again}
use Rattle.frame_payloads.proofs.Fields.Shares.{shares_take, shares_again}
use Rattle.frame_payloads.proofs.Fields.Fields.{Fields, ◌▸◌, one, either, as_field, field_of}
use Rattle.frame_payloads.proofs.Fields.Bases.{number16, digest90, path, with_both}
use Rattle.frame_payloads.proofs.Fields.Texts.{IsField}

-- what is found in a row, and can be written
abbrev pub IsWritable : Found → Type 0
IsWritable found = IsFound found × (is_long_found found ≡ false)

-- ---- shares behind their count

-- shares that are read behind their count are those that were written, and are within the limit
share_list_takes : (bytes : List ℕ) (shares : List Share) (rest : List ℕ) → AreBytes bytes → share_list_at bytes ≡ Some (shares, rest)
    → Takes bytes (share_list_bytes shares) rest × AreShares shares × (length shares ≤ most_shares_shown)
unfolding share_list_at
share_list_takes bytes shares rest fits e =
    let a = bind_some (count_at w16 most_shares_shown bytes) _ (shares, rest) e in
    let t = count_takes w16 (2 ^ 16) wide16 most_shares_shown bytes a.0.0 a.0.1 fits a.1 in
    let u = shares_take a.0.0 a.0.1 shares rest t.0.rest_fits a.2 in
    let both = Takes-then bytes (to_be_bytes w16 a.0.0) a.0.1 (share_bytes shares) rest t.0 u.0 in
    (subst (λ (n : ℕ). Takes bytes (to_be_bytes w16 n ++ share_bytes shares) rest) (sym u.1) both, u.2, subst (λ (n : ℕ). n ≤ most_shares_shown) (sym u.1) t.1)

-- shares within the limit that were written behind their count are read, whatever follows them
share_list_again : (shares : List Share) (rest : List ℕ) → AreShares shares → length shares ≤ most_shares_shown → share_list_at (share_list_bytes shares ++ rest) ≡ Some (shares, rest)
unfolding share_list_at
share_list_again shares rest all few =
    rw (count_again w16 (2 ^ 16) wide16 most_shares_shown (length shares) (share_bytes shares ++ rest) (omega arith) few) (shares_again shares rest all)

-- ---- what is found

-- shares behind their count are a field
abbrev shares : {R : Type 0} → Fields R (List Share)
shares = one share_list_at share_list_bytes (λ shares. AreShares shares × (length shares ≤ most_shares_shown)) (λ bytes shares rest fits e. with_both (share_list_takes bytes shares rest fits e))
    (λ shares rest is few. share_list_again shares rest is.0 is.1)

-- a start, shares and nodes, or a place, a leaf and nodes
abbrev Parts : Type 0
Parts = ((ℕ × List Share) × List Digest) ⊎ ((ℕ × Digest) × List Digest)

-- the fields of what is found
abbrev fields : Fields (Found × List ℕ) Parts
fields = either (number16 ▸ shares ▸ path most_nodes) (number16 ▸ digest90 ▸ path most_nodes)

-- what is found, of these fields
abbrev make : Parts → Found
make (inl x) = Range x.0.0 x.0.1 x.1
make (inr x) = Absence x.0.0 x.0.1 x.1

-- its fields
abbrev parts : Found → Parts
parts (Range start found nodes) = inl ((start, found), nodes)
parts (Absence pos leaf nodes) = inr ((pos, leaf), nodes)

-- there
there : (x : Parts) → fields.Is x → IsWritable (make x) × (parts (make x) ≡ x)
there (inl x) is = (((is.0.0, is.0.1.0, is.1.0, is.1.1), le-ltb _ _ is.0.1.1), refl)
there (inr x) is = (((is.0.0, is.0.1, is.1.0, is.1.1), refl), refl)

-- and back
back : (x : Found) → IsWritable x → fields.Is (parts x) × (make (parts x) ≡ x)
back (Range start found nodes) is = (((is.0.0, (is.0.1, ltb-false _ _ is.1)), (is.0.2, is.0.3)), refl)
back (Absence pos leaf nodes) is = (((is.0.0, is.0.1), (is.0.2, is.0.3)), refl)

-- it is written as its fields
text_is : (x : Found) → found_bytes x ≡ fields.text (parts x)
text_is (Range start found nodes) = refl
text_is (Absence pos leaf nodes) = refl

-- some bytes are written
some : (x : Found) → 0 < length (found_bytes x)
some (Range start found nodes) = omega arith
some (Absence pos leaf nodes) = omega arith

-- what is found is a field
pub found_field : IsField found_at found_bytes IsWritable
unfolding found_at range_at absence_at
found_field = field_of (as_field fields make parts IsWritable (record { there = there; back = back })) found_at found_bytes (λ bytes. refl) text_is some
