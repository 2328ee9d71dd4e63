-- The later shares of a sequence.
use Rattle.std.proofs.Common.{◌≡◌, ◌∙◌, ℕ, zero, suc, ◌-◌, ◌<◌, ◌≤◌, inl, inr, Bool, true, false, cond, eqb, eqb-true, eq-eqb, List, [], ◌∷◌, ◌++◌, length, take, drop, Option, Some, None, refl, sym, ap, ap₂, arith, length-drop, append-nil}
use Rattle.std.specs.Int.{div_ceil}
use Rattle.std.proofs.lemmas.Bool.{cases_lt}
use Rattle.std.proofs.lemmas.Bool.Decides.{nat_tests}
use Rattle.std.proofs.lemmas.List.{nil_from_length, drop_at, drop_all}
use Rattle.namespace_id.specs.Shares.{AreShares}
use Rattle.namespace_id.specs.declared.namespaces.Namespace.{Namespace}
use Rattle.namespace_id.specs.declared.shares.Share.{Share}
use Rattle.share_split.specs.Blobs.{first_blob_content, later_shares, share_count}
use Rattle.share_split.specs.Units.{compact_count, reserved_of, later_compact_share, later_compact_shares}
use Rattle.share_split.specs.Walks.{reserved_in, bad_reserved}
use Rattle.share_split.proofs.Writing.Later.{later_shares-none, later_shares-next}
use Rattle.share_split.proofs.Reading.Fields.{later_room, IsLater, later_share_is_later, is_later_share}
use Rattle.share_split.specs.declared.walking.Form.{Form}
use Rattle.share_split.specs.declared.walking.Form.TheVariants.{Blobs, Units}
use Rattle.share_split.proofs.Reading.CompactFields.{later_compact_is, is_later_compact}
use Rattle.share_split.proofs.Reading.Reserved.{bad_reserved-cons, bad_reserved-nil}
use Rattle.share_split.proofs.Writing.Places.{reserved_of-small}
use Rattle.share_split.proofs.Writing.LaterCompact.{later_compact_shares-none, later_compact_shares-next}

-- shares that go on with a sequence to its end, of whose content this text is left
abbrev pub AreLater : Form → Namespace → ℕ → List ℕ → List Share → Type 0
AreLater form name version text [] = length text ≡ 0
AreLater form name version text (share ∷ shares) =
    (0 < length text) × IsLater form name version text share × AreLater form name version (drop (later_room form) text) shares

-- none where no text is left
pub none_later : (form : Form) (name : Namespace) (version : ℕ) (text : List ℕ) (shares : List Share) → AreLater form name version text shares → length text ≡ 0
    → shares ≡ []
none_later form name version text [] later none = refl
none_later form name version text (share ∷ shares) later none = absurd (omega (arith, later.0))

-- what is behind a part that is full, or the last
pub drop-parted : (n : ℕ) (part text : List ℕ) → length part ≤ n → (length part < n → length text ≡ 0) → drop n (part ++ text) ≡ text
drop-parted n part text few last =
    elim (cases_lt (length part) n) [
      | inl short ↦
          let none : text ≡ [] = nil_from_length text (last short) in
          ap (λ (l : List ℕ). drop n (part ++ l)) none ∙ ap (drop n) (append-nil part) ∙ drop_all n part few ∙ sym none
      | inr full ↦ drop_at part text n (omega arith)
    ]

-- ---- blobs

-- one share takes 482 bytes
ceil-more : (n : ℕ) → 0 < n → div_ceil n 482 ≡ suc (div_ceil (n - 482) 482)
ceil-more n some = omega arith

-- the later shares of a blob are those of the bytes after the first share's
pub later_count : (size : ℕ) (signed : Bool) → share_count size signed - 1 ≡ div_ceil (size - first_blob_content signed) 482
later_count size true = grind (arith, nat_tests)
later_count size false = grind (arith, nat_tests)

-- the later shares of a blob go on with it to its end
pub later_are : (count : ℕ) (name : Namespace) (version : ℕ) (text : List ℕ) → length name.0 ≡ 29 → count ≡ div_ceil (length text) 482
    → AreLater Blobs name version text (later_shares count name version text)
unfolding later_shares
later_are zero name version text len e = omega arith
later_are (suc count) name version text len e =
    let some : 0 < length text = omega arith in (
      some,
      later_share_is_later name version text len,
      later_are count name version (drop 482 text) len (omega (arith, length-drop 482 text, ceil-more (length text) some)),
    )

-- shares that go on with a blob to its end are its later shares
pub later_only : (name : Namespace) (version : ℕ) (text : List ℕ) (shares : List Share) → AreShares shares → AreLater Blobs name version text shares
    → shares ≡ later_shares (div_ceil (length text) 482) name version text
later_only name version text [] whole later = sym (later_shares-none name version text (div_ceil (length text) 482) (omega (arith, later)))
later_only name version text (share ∷ shares) whole later =
    let rest : List ℕ = drop 482 text in
    let next : div_ceil (length text) 482 ≡ suc (div_ceil (length rest) 482) = ceil-more (length text) later.0 ∙ ap (λ (n : ℕ). suc (div_ceil n 482)) (sym (length-drop 482 text)) in
    ap₂ (λ (s : Share) (l : List Share). s ∷ l) (is_later_share name version text share whole.0 later.1) (later_only name version rest shares whole.1 later.2)
    ∙ sym (later_shares-next name version text (div_ceil (length text) 482) (div_ceil (length rest) 482) next)

-- ---- units

-- one compact share takes 478 bytes
compact_ceil-more : (n : ℕ) → 0 < n → div_ceil n 478 ≡ suc (div_ceil (n - 478) 478)
compact_ceil-more n some = omega arith

-- the later compact shares are those of the bytes after the first 474
pub later_compact_count : (size : ℕ) → compact_count size - 1 ≡ div_ceil (size - 474) 478
later_compact_count size = grind (arith, nat_tests)

-- the later compact shares go on with the sequence to its end
pub later_compact_are : (count : ℕ) (name : Namespace) (i : ℕ) (starts text : List ℕ) → length name.0 ≡ 29 → count ≡ div_ceil (length text) 478
    → AreLater Units name 0 text (later_compact_shares count name i starts text)
unfolding later_compact_shares
later_compact_are zero name i starts text len e = omega arith
later_compact_are (suc count) name i starts text len e =
    let some : 0 < length text = omega arith in (
      some,
      (later_compact_is name (reserved_of i starts) text len (reserved_of-small i starts)).0,
      later_compact_are count name (suc i) starts (drop 478 text) len (omega (arith, length-drop 478 text, compact_ceil-more (length text) some)),
    )

-- their reserved bytes are the rule's
pub later_compact_good : (count : ℕ) (name : Namespace) (i : ℕ) (starts text : List ℕ) → length name.0 ≡ 29
    → bad_reserved i starts (later_compact_shares count name i starts text) ≡ None
unfolding later_compact_shares
later_compact_good zero name i starts text len = bad_reserved-nil i starts
later_compact_good (suc count) name i starts text len =
    let share : Share = later_compact_share name (reserved_of i starts) (take 478 text) in
    let rest : List Share = later_compact_shares count name (suc i) starts (drop 478 text) in
    bad_reserved-cons i starts share rest
    ∙ ap (λ (b : Bool). cond b (bad_reserved (suc i) starts rest) (Some i)) (eq-eqb _ _ (later_compact_is name (reserved_of i starts) text len (reserved_of-small i starts)).1)
    ∙ later_compact_good count name (suc i) starts (drop 478 text) len

-- a test of one share that passed
good_of : (n m : ℕ) (o : Option ℕ) (i : ℕ) (b : Bool) → eqb n m ≡ b → cond b o (Some i) ≡ None → (n ≡ m) × (o ≡ None)
good_of n m o i true is h = (eqb-true n m is, h)
good_of n m o i false is h = absurd cc

-- a share whose reserved bytes pass, and the others
pub good_cons : (i : ℕ) (starts : List ℕ) (share : Share) (shares : List Share) → bad_reserved i starts (share ∷ shares) ≡ None
    → (reserved_in share ≡ reserved_of i starts) × (bad_reserved (suc i) starts shares ≡ None)
good_cons i starts share shares e =
    good_of (reserved_in share) (reserved_of i starts) (bad_reserved (suc i) starts shares) i _ refl (sym (bad_reserved-cons i starts share shares) ∙ e)

-- shares that go on with the sequence to its end by the rule are its later shares
pub later_compact_only : (name : Namespace) (i : ℕ) (starts text : List ℕ) (shares : List Share) → AreShares shares → AreLater Units name 0 text shares
    → bad_reserved i starts shares ≡ None → shares ≡ later_compact_shares (div_ceil (length text) 478) name i starts text
later_compact_only name i starts text [] whole later good = sym (later_compact_shares-none name i starts text (div_ceil (length text) 478) (omega (arith, later)))
later_compact_only name i starts text (share ∷ shares) whole later good =
    let rest : List ℕ = drop 478 text in
    let g = good_cons i starts share shares good in
    let next : div_ceil (length text) 478 ≡ suc (div_ceil (length rest) 478) = compact_ceil-more (length text) later.0 ∙ ap (λ (n : ℕ). suc (div_ceil n 478)) (sym (length-drop 478 text)) in
    ap₂ (λ (s : Share) (l : List Share). s ∷ l) (is_later_compact name (reserved_of i starts) text share whole.0 (later.1, g.0)) (later_compact_only name (suc i) starts rest shares whole.1 later.2 g.1)
    ∙ sym (later_compact_shares-next name i starts text (div_ceil (length text) 478) (div_ceil (length rest) 478) next)
