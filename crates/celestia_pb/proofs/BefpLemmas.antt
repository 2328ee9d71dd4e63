-- Bad encoding proofs, written and read.
use Rattle.std.proofs.Common.{◌≡◌, ◌∙◌, ℕ, suc, ◌+◌, ◌*◌, ◌/◌, ◌^◌, ◌<◌, ◌≤◌, Bool, true, false, cond, ◌&&◌, ◌||◌, ◌==◌, eqb, eqb-true, lt-ltb, List, [], ◌∷◌, ◌++◌, length, Option, Some, None, option_and_then, Result, Ok, Err, refl, sym, ap, ap₂, subst, arith, append-nil}
use Rattle.std.specs.Prelude.{nat_lt}
use Rattle.std.specs.List.{AllByRecursion, list_all}
use Rattle.std.specs.Str.{bytes_eq}
use Rattle.std.proofs.lemmas.Bool.{and_parts, and_from, true≢false}
use Rattle.std.proofs.lemmas.Bool.Decides.{nat_tests}
use Rattle.std.proofs.lemmas.List.{nil_from_length}
use Rattle.std.proofs.lemmas.Option.{cond_some, none-some}
use Rattle.std.proofs.lemmas.Slice.Eq.{bytes_eq-Decides}
use Rattle.namespace_id.specs.declared.cells.Axis.{Axis}
use Rattle.namespace_id.specs.declared.digests.Digest.{Digest}
use Rattle.namespace_id.specs.Bytes.{AreBytes}
use Rattle.namespace_id.specs.Cells.{is_width}
use Rattle.namespace_id.specs.Lists.{holds_along}
use Rattle.namespace_id.proofs.WidthLemmas.{is_width-le, is_width-pos}
use Rattle.proto_fields.specs.Spelled.{bytes_field}
use Rattle.proto_fields.specs.Canonical.{number_text, begins, begins_part, canonical_part}
use Rattle.proto_fields.proofs.Options.{and_then_parts}
use Rattle.proto_fields.proofs.CanonicalVarints.{behind_fits}
use Rattle.proto_fields.proofs.CanonicalLemmas.{part_read_back, read_is_part_field}
use Rattle.axis_roots.specs.declared.message.messages.Message.{Message}
use Rattle.axis_roots.specs.Messages.{IsMessage, position}
use Rattle.axis_roots.specs.Claims.{ClaimParts, IsClaim, positions_of, is_on, has_shape}
use Rattle.axis_roots.proofs.Messages.ClaimLemmas.{shape_of}
use Rattle.celestia_pb.specs.declared.sample.Sample.{Sample}
use Rattle.celestia_pb.specs.declared.befp_entries.Accused.{Accused}
use Rattle.celestia_pb.specs.declared.befp_entries.Seen.{Seen}
use Rattle.celestia_pb.specs.declared.befp.Outline.{Outline}
use Rattle.celestia_pb.specs.Reading.{then_read, or_left, with_offset}
use Rattle.celestia_pb.specs.Messages.{number_left}
use Rattle.celestia_pb.specs.Samples.{axis_number}
use Rattle.celestia_pb.specs.BefpEntries.{axis_field, places_text, places_of, places_at, none_seen, cells_of, seen_read}
use Rattle.celestia_pb.specs.Befp.{has_no_set, claim_has_message, befp_text, is_index, accused_end, accused_kind, accused_left, if_accused, outline_of, outline_at, has_places, claim_of_places, claim_read as claim_seen, befp_end, befp_axis, places_by, befp_places, is_height, befp_height, if_this_hash, hash_matches, befp_left, befp_value}
use Rattle.celestia_pb.specs.BefpLaws.{ClaimHasMessage, IsBefp}
use Rattle.celestia_pb.proofs.Steps.{same_ok, cond_ok, then_ok, placed_ok}
use Rattle.celestia_pb.proofs.Fronts.{begins_own}
use Rattle.celestia_pb.proofs.MessageLemmas.{begins_number, number_left_is_read, number_left_back, number_left_passes}
use Rattle.celestia_pb.proofs.SampleLemmas.{or_left_some}
use Rattle.celestia_pb.proofs.AxisLemmas.{axis_in_is_read, axis_in_back, begins_last}
use Rattle.celestia_pb.proofs.PlaceCells.{RiseFrom, rise_from_tests, tests_rise, tests_below, bare_all, AreLaid, cells_laid, length-places_of, messages_of, cells_rise, cells_on, cell_fits, places_back}
use Rattle.celestia_pb.proofs.PlaceLemmas.{begins_places, places_are_counted, AreRead, places_are_read, places_agree, flag_of, AreSamples, ArePlacesRead, places_were_written}

-- a number is itself
eqb_self : (n : ℕ) → eqb n n ≡ true
eqb_self n = grind (arith, nat_tests)

-- it is 0 or itself
or_self : (n : ℕ) → ((n == 0) || (n == n)) ≡ true
or_self n = grind (arith, nat_tests)

-- ---- claims that have a message

-- what the test of a claim says
pub record IsTested (k : ℕ) (claim : ClaimParts) : Type 0 where
  pub width : is_width k ≡ true
  pub plain : claim.set ≡ None
  pub index_lt : claim.index < 2 * k
  pub count : length claim.cells ≡ k
  pub on : list_all (is_on claim) claim.cells ≡ true
  pub rise : RiseFrom claim.axis 0 (2 * k) claim.cells

-- nothing is there
no_set : (o : Option (List Digest)) → has_no_set o ≡ true → o ≡ None
no_set None e = refl
no_set (Some nodes) e = absurd (true≢false (sym e))

pub tested : (k : ℕ) (claim : ClaimParts) → claim_has_message k claim ≡ true → IsTested k claim
tested k claim test =
    let below : Bool = list_all (λ m. nat_lt (position claim.axis m.cell) (2 * k)) claim.cells in
    let a = and_parts (is_width k) (has_no_set claim.set && (has_shape k claim && below)) test in
    let b = and_parts (has_no_set claim.set) (has_shape k claim && below) a.1 in
    let c = and_parts (has_shape k claim) below b.1 in
    let shape = shape_of k claim c.0 in
    record {
      width = a.0;
      plain = no_set claim.set b.0;
      index_lt = shape.index;
      count = shape.count;
      on = shape.on;
      rise = rise_from_tests claim.axis (2 * k) claim.cells shape.rising c.1;
    }

-- the axis that a claim accuses
abbrev pub accused_by : ClaimParts → Accused
accused_by claim = record { axis = claim.axis; index = claim.index }

-- its cells are laid on the places of the axis
pub claim_laid : (k : ℕ) (claim : ClaimParts) → IsClaim claim → IsTested k claim → AreLaid (accused_by claim) 0 (places_of claim.axis (2 * k) 0 claim.cells) claim.cells
claim_laid k claim is test =
    let end : 2 * k ≡ 0 + 2 * k = omega arith in
    cells_laid (accused_by claim) (2 * k) 0 claim.cells is.messages test.on (subst (λ (n : ℕ). RiseFrom claim.axis 0 n claim.cells) end test.rise)

-- so a claim of cells that rise has one
has_tested : (k : ℕ) (claim : ClaimParts) → IsTested k claim → claim_has_message k claim ≡ true
has_tested k claim is =
    let below : Bool = list_all (λ m. nat_lt (position claim.axis m.cell) (2 * k)) claim.cells in
    let many : eqb (length claim.cells) k ≡ true = ap (λ (n : ℕ). eqb n k) is.count ∙ eqb_self k in
    let first : (nat_lt claim.index (2 * k) && (length claim.cells == k)) ≡ true =
    and_from (nat_lt claim.index (2 * k)) (length claim.cells == k) (lt-ltb claim.index (2 * k) is.index_lt) many in
    let second : (nat_lt claim.index (2 * k) && (length claim.cells == k) && list_all (is_on claim) claim.cells) ≡ true =
    and_from (nat_lt claim.index (2 * k) && (length claim.cells == k)) (list_all (is_on claim) claim.cells) first is.on in
    let shape : has_shape k claim ≡ true =
    and_from (nat_lt claim.index (2 * k) && (length claim.cells == k) && list_all (is_on claim) claim.cells) (holds_along nat_lt (positions_of claim)) second
    (tests_rise claim.axis 0 (2 * k) claim.cells is.rise) in
    and_from (is_width k) (has_no_set claim.set && (has_shape k claim && below)) is.width
    (and_from (has_no_set claim.set) (has_shape k claim && below) (ap has_no_set is.plain)
    (and_from (has_shape k claim) below shape (tests_below claim.axis 0 (2 * k) claim.cells is.rise)))

-- ---- the accused axis

-- an index of a place may be there
index_passes : (count i : ℕ) → i < count → is_index count i ≡ true
index_passes count i lt = grind (arith, nat_tests)

-- one that may be there is one of a place
index_below : (count i : ℕ) → 0 < count → is_index count i ≡ true → i < count
index_below count i some test = grind (arith, nat_tests)

-- the axis is read back
accused_is_read : (count : ℕ) (accused : Accused) → accused.index < count → accused.index < 2 ^ 64
    → accused_left count (number_text 4 accused.index ++ number_text 5 (axis_number accused.axis)) ≡ Ok (accused, [])
accused_is_read count accused lt short =
    let kind : List ℕ = number_text 5 (axis_number accused.axis) in
    ap (then_read accused_kind)
    (number_left_is_read (is_index count) 4 accused.index kind (index_passes count accused.index lt) (omega arith) short (begins_last 32 5 (axis_number accused.axis) (omega arith) refl))
    ∙ ap (λ (o : Option (Axis × List ℕ)). then_read (accused_end accused.index) (or_left kind o)) (axis_in_is_read 5 accused.axis (omega arith))

-- what is read as the axis was written so
record IsAccusedRead (count : ℕ) (bytes : List ℕ) (accused : Accused) : Type 0 where
  passes : is_index count accused.index ≡ true
  text : bytes ≡ number_text 4 accused.index ++ number_text 5 (axis_number accused.axis)

accused_back : (count : ℕ) (bytes : List ℕ) (x : Accused × List ℕ) → AreBytes bytes → accused_left count bytes ≡ Ok x → IsAccusedRead count bytes x.0
accused_back count bytes x fits e =
    let a = then_ok accused_kind (number_left (is_index count) 4 bytes) x e in
    let i : ℕ = a.0.0 in
    let n = number_left_back (is_index count) 4 bytes a.0 (omega arith) fits a.1 in
    let b = then_ok (accused_end i) (or_left a.0.1 (axis_field 5 a.0.1)) x a.2 in
    let axis : Axis = b.0.0 in
    let test = cond_ok (length b.0.1 == 0) (record { axis = axis; index = i }, b.0.1) x (length b.0.1) b.2 in
    let none : b.0.1 ≡ [] = nil_from_length b.0.1 (eqb-true (length b.0.1) 0 test.0) in
    let kind : a.0.1 ≡ number_text 5 (axis_number axis) =
    axis_in_back 5 a.0.1 b.0 (omega arith) n.fits (or_left_some a.0.1 (axis_field 5 a.0.1) b.0 b.1)
    ∙ ap (λ (l : List ℕ). number_text 5 (axis_number axis) ++ l) none ∙ append-nil (number_text 5 (axis_number axis)) in
    subst (λ (y : Accused × List ℕ). IsAccusedRead count bytes y.0) test.1 (record {
      passes = number_left_passes (is_index count) 4 bytes a.0 a.1;
      text = n.parts ∙ ap (λ (l : List ℕ). number_text 4 i ++ l) kind;
    })

-- ---- the hash

-- it is read back
hash_is_read : (hash rest : List ℕ) → length hash < 2 ^ 64 → hash_matches hash (bytes_field 1 hash ++ rest) ≡ Ok (true, rest)
hash_is_read hash rest short =
    let bytes : List ℕ = bytes_field 1 hash ++ rest in
    ap (λ (b : Bool). cond b (or_left bytes (option_and_then (if_this_hash hash) (canonical_part 1 bytes))) (Ok (false, bytes))) (begins_own 1 hash rest (omega arith))
    ∙ ap (λ (o : Option (List ℕ × List ℕ)). or_left bytes (option_and_then (if_this_hash hash) o)) (part_read_back 1 hash rest (omega arith) short)
    ∙ ap (λ (b : Bool). or_left bytes (cond b (Some (true, rest)) None)) ((bytes_eq-Decides hash hash).1 refl)

-- what is read as the hash was written so
hash_back : (hash bytes rest : List ℕ) (b told : Bool) → AreBytes bytes → told ≡ true
    → cond b (or_left bytes (option_and_then (if_this_hash hash) (canonical_part 1 bytes))) (Ok (false, bytes)) ≡ Ok (told, rest)
    → (length hash < 2 ^ 64) × (bytes ≡ bytes_field 1 hash ++ rest) × AreBytes rest
hash_back hash bytes rest false told fits is_told e =
    absurd (true≢false (sym (ap (λ (p : Bool × List ℕ). p.0) (same_ok (false, bytes) (told, rest) e) ∙ is_told)))
hash_back hash bytes rest true told fits is_told e =
    let found = and_then_parts (if_this_hash hash) (canonical_part 1 bytes) (told, rest) (or_left_some bytes (option_and_then (if_this_hash hash) (canonical_part 1 bytes)) (told, rest) e) in
    let part : List ℕ = found.0.0 in
    let test = cond_some (bytes_eq part hash) (true, found.0.1) (told, rest) found.2 in
    let same : part ≡ hash = (bytes_eq-Decides part hash).0 test.0 in
    let after : found.0.1 ≡ rest = ap (λ (p : Bool × List ℕ). p.1) test.1 in
    let spelled = read_is_part_field 1 bytes part found.0.1 (omega arith) fits found.1 in
    let text : bytes ≡ bytes_field 1 hash ++ rest = spelled.1 ∙ ap₂ (λ (l r : List ℕ). bytes_field 1 l ++ r) same after in
    (subst (λ (l : List ℕ). length l < 2 ^ 64) same spelled.0, text, behind_fits (bytes_field 1 hash) rest (subst (λ (l : List ℕ). AreBytes l) text fits))

-- ---- what is written is read

-- half of twice a number
half_of : (k : ℕ) → (2 * k) / 2 ≡ k
half_of k = omega arith

-- 2k places with k shares
places_pass : (k : ℕ) → is_width k ≡ true → has_places (2 * k) k ≡ true
places_pass k width =
    ap (λ (h : ℕ). is_width h && ((2 * k == 2 * h) && (k == h))) (half_of k)
    ∙ and_from (is_width k) ((2 * k == 2 * k) && (k == k)) width (and_from (2 * k == 2 * k) (k == k) (eqb_self (2 * k)) (eqb_self k))

module _ (flag k height : ℕ) (hash : List ℕ) (claim : ClaimParts) (one : flag ≤ 1) (short : height < 2 ^ 64) (is : IsClaim claim) (test : IsTested k claim) where
  -- the axis that the claim accuses
  abbrev accused : Accused
  accused = accused_by claim

  -- its places
  abbrev places : List (Option Message)
  places = places_of claim.axis (2 * k) 0 claim.cells

  -- what follows them
  abbrev tail : List ℕ
  tail = number_text 4 claim.index ++ number_text 5 (axis_number claim.axis)

  -- they and what follows
  abbrev behind : List ℕ
  behind = places_text flag places ++ tail

  -- what was looked up
  abbrev known : Outline
  known = record { most = k; accused = Some accused }

  -- its cells are laid on them
  laid : AreLaid accused 0 places claim.cells
  laid = claim_laid k claim is test

  -- there are as many as have to be
  many : length places ≡ 2 * k
  many = length-places_of claim.axis (2 * k) 0 claim.cells

  few : 2 * k ≤ 1024
  few = let le : k ≤ 512 = is_width-le k test.width in omega arith

  -- no place follows them
  tail_front : (tag : ℕ) → eqb 32 tag ≡ false → eqb 40 tag ≡ false → begins tag tail ≡ false
  tail_front tag a b =
      begins_number tag 4 claim.index (number_text 5 (axis_number claim.axis)) (omega arith) a (begins_last tag 5 (axis_number claim.axis) (omega arith) b)

  axis_read : (count : ℕ) → count ≡ 2 * k → accused_left count tail ≡ Ok (accused, [])
  axis_read count e =
      let lt : claim.index < 2 * k = test.index_lt in
      let bytes : claim.index < 2 ^ 16 = is.index_bytes in
      accused_is_read count accused (omega arith) (omega arith)

  outline_read : outline_at behind ≡ known
  outline_read =
      let all : 0 + length places ≡ 2 * k = omega (arith, many) in
      ap outline_of (places_are_counted accused 0 flag 0 1024 places tail laid.stand (omega (arith, many, few)) (tail_front 26 refl refl))
      ∙ ap (λ (n : ℕ). outline_of (Ok (n, tail))) all
      ∙ ap₂ (λ (m : ℕ) (r : Result (Accused × List ℕ) ℕ). record { most = m; accused = if_accused r }) (half_of k) (axis_read (2 * k) refl)

  read : AreRead accused k 1024 none_seen behind places tail
  read = places_are_read accused k flag 1024 none_seen places tail one refl laid.stand (omega (arith, many, few)) (omega (arith, laid.many, test.count)) (tail_front 26 refl refl)

  -- the claim is that of its cells
  claim_read : claim_of_places accused (bare_all places) ≡ claim
  claim_read =
      ap₂ (λ (cells : List Message) (set : Option (List Digest)). record { axis = claim.axis; index = claim.index; cells = cells; set = set }) laid.cells_are (sym test.plain)

  -- 2k places with k shares were seen
  seen_pass : ((height == height) && has_places read.after.place read.after.shares) ≡ true
  seen_pass =
      let place : read.after.place ≡ 2 * k = omega (arith, read.place, many) in
      let shares : read.after.shares ≡ k = omega (arith, read.shares, laid.many, test.count) in
      and_from (height == height) (has_places read.after.place read.after.shares) (eqb_self height)
      (ap₂ has_places place shares ∙ places_pass k test.width)

  axis_is_read : befp_axis (height == height) (bare_all places, read.after) tail ≡ Ok claim
  axis_is_read =
      ap (then_read (befp_end (height == height) (bare_all places, read.after))) (axis_read read.after.place (omega (arith, read.place, many)))
      ∙ ap (λ (b : Bool). cond b (Ok (claim_of_places accused (bare_all places))) (Err 0)) seen_pass
      ∙ ap (λ (c : ClaimParts). Ok c) claim_read

  left_is_read : length hash ≡ 32 → befp_left hash height (befp_text flag k hash height claim) ≡ Ok claim
  left_is_read size =
      let none16 : begins 16 behind ≡ false = begins_places 16 flag places tail refl (tail_front 16 refl refl) in
      ap (then_read (befp_height height)) (hash_is_read hash (number_text 2 height ++ behind) (omega arith))
      ∙ ap (then_read (befp_places height true)) (number_left_is_read (is_height height) 2 height behind (or_self height) (omega arith) short none16)
      ∙ ap (λ (o : Outline). then_read (befp_axis (height == height)) (places_by o behind)) outline_read
      ∙ ap (then_read (befp_axis (height == height))) read.read
      ∙ axis_is_read

pub befp_is_read : (flag k : ℕ) (hash : List ℕ) (height : ℕ) (claim : ClaimParts) → flag ≤ 1 → length hash ≡ 32 → height < 2 ^ 64 → ClaimHasMessage k claim
    → befp_value hash height (befp_text flag k hash height claim) ≡ Ok claim
befp_is_read flag k hash height claim one size short has =
    ap (with_offset (length (befp_text flag k hash height claim))) (left_is_read flag k height hash claim one short has.is (tested k claim has.has) size)

-- ---- what is read was written

-- cells of places that were read are samples
are_messages : (accused : Accused) (place : ℕ) (places : List (Option Sample)) → accused.index < 2 ^ 16 → place + length places ≤ 2 ^ 16 → AreSamples places
    → AllByRecursion IsMessage (cells_of accused place places)
are_messages accused place [] low few are = tt
are_messages accused place (None ∷ places) low few are = are_messages accused (suc place) places low (omega (arith, few)) are.1
are_messages accused place (Some s ∷ places) low few are =
    let cell = cell_fits accused.axis accused.index place low (omega (arith, few)) in
    (record { row = cell.0; col = cell.1; share = are.0.share; few = are.0.few; nodes = are.0.nodes }, are_messages accused (suc place) places low (omega (arith, few)) are.1)

-- the parts of a message, one behind another
pub record AreParts (hash : List ℕ) (height : ℕ) (bytes : List ℕ) (claim : ClaimParts) : Type 0 where
  pub hash_few : length hash < 2 ^ 64
  pub height_few : height < 2 ^ 64
  pub places : List (Option Sample)
  pub seen : Seen
  pub accused : Accused
  pub rest : List ℕ
  pub read : ArePlacesRead accused none_seen rest places seen (number_text 4 accused.index ++ number_text 5 (axis_number accused.axis))
  pub text : bytes ≡ bytes_field 1 hash ++ (number_text 2 height ++ rest)
  pub passes : is_index seen.place accused.index ≡ true
  pub has : has_places seen.place seen.shares ≡ true
  pub claim_is : claim_of_places accused places ≡ claim

parts_back : (hash : List ℕ) (height : ℕ) (bytes : List ℕ) (claim : ClaimParts) → AreBytes bytes → befp_left hash height bytes ≡ Ok claim → AreParts hash height bytes claim
parts_back hash height bytes claim fits e =
    let a = then_ok (befp_height height) (hash_matches hash bytes) claim e in
    let b = then_ok (befp_places height a.0.0) (number_left (is_height height) 2 a.0.1) claim a.2 in
    let told : Bool = a.0.0 && (b.0.0 == height) in
    let rest : List ℕ = b.0.1 in
    let c = then_ok (befp_axis told) (places_by (outline_at rest) rest) claim b.2 in
    let places : List (Option Sample) = c.0.0.0 in
    let seen : Seen = c.0.0.1 in
    let d = then_ok (befp_end told (places, seen)) (accused_left seen.place c.0.1) claim c.2 in
    let accused : Accused = d.0.0 in
    let test = cond_ok (told && has_places seen.place seen.shares) (claim_of_places accused places) claim (length d.0.1) d.2 in
    let all = and_parts told (has_places seen.place seen.shares) test.0 in
    let both = and_parts a.0.0 (b.0.0 == height) all.0 in
    let first = hash_back hash bytes a.0.1 (begins_part 1 bytes) a.0.0 fits both.0 a.1 in
    let second = number_left_back (is_height height) 2 a.0.1 b.0 (omega arith) first.2 b.1 in
    let same : b.0.0 ≡ height = eqb-true b.0.0 height both.1 in
    let outline : outline_at rest ≡ record { most = seen.place / 2; accused = Some accused } =
    ap outline_of (places_agree (outline_at rest).accused (outline_at rest).most 1024 none_seen rest c.0 c.1)
    ∙ ap (λ (r : Result (Accused × List ℕ) ℕ). record { most = seen.place / 2; accused = if_accused r }) d.1 in
    let found : places_at (Some accused) (seen.place / 2) 1024 none_seen rest ≡ Ok c.0 = sym (ap (λ (o : Outline). places_by o rest) outline) ∙ c.1 in
    let third = places_were_written accused (seen.place / 2) 1024 none_seen rest c.0 second.fits (λ flag e. absurd (none-some flag e)) found in
    let last = accused_back seen.place c.0.1 d.0 third.fits d.1 in
    record {
      hash_few = first.0;
      height_few = subst (λ (n : ℕ). n < 2 ^ 64) same second.few;
      places = places;
      seen = seen;
      accused = accused;
      rest = rest;
      read = subst (λ (l : List ℕ). ArePlacesRead accused none_seen rest places seen l) last.text third;
      text = first.1 ∙ ap (λ (l : List ℕ). bytes_field 1 hash ++ l) (second.parts ∙ ap (λ (n : ℕ). number_text 2 n ++ rest) same);
      passes = last.passes;
      has = all.1;
      claim_is = test.1;
    }

-- the flag is none or one
flag_few : (mark : Option ℕ) → ((flag : ℕ) → mark ≡ Some flag → flag ≤ 1) → flag_of mark ≤ 1
flag_few None small = omega arith
flag_few (Some flag) small = small flag refl

-- the claim of these parts has a message, which the bytes are
pub parts_spelled : (hash : List ℕ) (height : ℕ) (bytes : List ℕ) (claim : ClaimParts) → AreParts hash height bytes claim → IsBefp hash height bytes claim
parts_spelled hash height bytes claim p =
    let accused : Accused = p.accused in
    let k : ℕ = p.seen.place / 2 in
    let cells : List Message = cells_of accused 0 p.places in
    let flag : ℕ = flag_of p.seen.mark in
    let a = and_parts (is_width k) ((p.seen.place == 2 * k) && (p.seen.shares == k)) p.has in
    let b = and_parts (p.seen.place == 2 * k) (p.seen.shares == k) a.1 in
    let twice : p.seen.place ≡ 2 * k = eqb-true p.seen.place (2 * k) b.0 in
    let shares : p.seen.shares ≡ k = eqb-true p.seen.shares k b.1 in
    let le : k ≤ 512 = is_width-le k a.0 in
    let pos : 0 < k = is_width-pos k a.0 in
    let many : length p.places ≡ 2 * k = omega (arith, p.read.place, twice) in
    let end : 0 + length p.places ≡ 2 * k = omega (arith, many) in
    let low : accused.index < 2 * k = subst (λ (n : ℕ). accused.index < n) twice (index_below p.seen.place accused.index (omega (arith, twice, pos)) p.passes) in
    let messages = are_messages accused 0 p.places (omega (arith, low, le)) (omega (arith, many, le)) p.read.are in
    let is_tested : IsTested k (claim_of_places accused p.places) = record {
      width = a.0;
      plain = refl;
      index_lt = low;
      count = omega (arith, p.read.shares, shares);
      on = cells_on accused 0 p.places;
      rise = subst (λ (n : ℕ). RiseFrom accused.axis 0 n cells) end (cells_rise accused 0 p.places);
    } in
    let laid : messages_of accused 0 p.places ≡ places_of accused.axis (2 * k) 0 cells =
    sym (places_back accused 0 p.places) ∙ ap (λ (n : ℕ). places_of accused.axis n 0 cells) many in
    let tail : List ℕ = number_text 4 accused.index ++ number_text 5 (axis_number accused.axis) in
    let rest : p.rest ≡ places_text flag (places_of accused.axis (2 * k) 0 cells) ++ tail =
    p.read.text p.seen.mark (λ flag e. e) ∙ ap (λ (l : List (Option Message)). places_text flag l ++ tail) laid in
    subst (λ (c : ClaimParts). IsBefp hash height bytes c) p.claim_is (record {
      flag = flag;
      k = k;
      marked = flag_few p.seen.mark p.read.small;
      has = record {
        is = record { index_bytes = omega (arith, low, le); messages = messages; digests = tt };
        has = has_tested k (claim_of_places accused p.places) is_tested;
      };
      text = p.text ∙ ap (λ (l : List ℕ). bytes_field 1 hash ++ (number_text 2 height ++ l)) rest;
    })

-- what is read as a claim was written so
pub befp_back : (hash : List ℕ) (height : ℕ) (bytes : List ℕ) (claim : ClaimParts) → AreBytes bytes → befp_value hash height bytes ≡ Ok claim → AreParts hash height bytes claim
befp_back hash height bytes claim fits e = parts_back hash height bytes claim fits (placed_ok (length bytes) (befp_left hash height bytes) claim e)

pub read_is_befp : (hash : List ℕ) (height : ℕ) (bytes : List ℕ) (claim : ClaimParts) → AreBytes bytes → befp_value hash height bytes ≡ Ok claim
    → IsBefp hash height bytes claim
read_is_befp hash height bytes claim fits e = parts_spelled hash height bytes claim (befp_back hash height bytes claim fits e)

-- ---- the places, read step by step

-- one is wrong
pub place_wrong : (told : Bool) (read : Result ((List (Option Sample) × Seen) × List ℕ) ℕ) (left : ℕ) → seen_read read ≡ Err left
    → then_read (befp_axis told) read ≡ Err left
place_wrong told (Ok read) left e = absurd cc
place_wrong told (Err other) left e =
    let both : ◌≡◌ {A = Result (Seen × List ℕ) ℕ} (Err other) (Err left) = e in
    let same : other ≡ left = cc in
    ap (λ (n : ℕ). Err n) same

-- the fields behind them are wrong
pub axis_wrong : (told : Bool) (read : Result ((List (Option Sample) × Seen) × List ℕ) ℕ) (seen : Seen × List ℕ) (left : ℕ)
    → seen_read read ≡ Ok seen → accused_left seen.0.place seen.1 ≡ Err left → then_read (befp_axis told) read ≡ Err left
axis_wrong told (Ok read) seen left e wrong =
    let same : (read.0.1, read.1) ≡ seen = same_ok (read.0.1, read.1) seen e in
    ap (then_read (befp_end told read.0)) (ap (λ (s : Seen × List ℕ). accused_left s.0.place s.1) same ∙ wrong)
axis_wrong told (Err other) seen left e wrong = absurd cc

-- all were read
pub places_end : (told : Bool) (read : Result ((List (Option Sample) × Seen) × List ℕ) ℕ) (seen : Seen × List ℕ) (accused : Accused × List ℕ) (all : Bool)
    → seen_read read ≡ Ok seen → accused_left seen.0.place seen.1 ≡ Ok accused → (told && has_places seen.0.place seen.0.shares) ≡ all
    → then_read (befp_axis told) read ≡ cond all (Ok (claim_seen accused.0 read)) (Err (length accused.1))
places_end told (Ok read) seen accused all e right test =
    let same : (read.0.1, read.1) ≡ seen = same_ok (read.0.1, read.1) seen e in
    let axis : accused_left read.0.1.place read.1 ≡ Ok accused = ap (λ (s : Seen × List ℕ). accused_left s.0.place s.1) same ∙ right in
    let tested : (told && has_places read.0.1.place read.0.1.shares) ≡ all = ap (λ (s : Seen × List ℕ). told && has_places s.0.place s.0.shares) same ∙ test in
    ap (then_read (befp_end told read.0)) axis ∙ ap (λ (b : Bool). cond b (Ok (claim_of_places accused.0 read.0.0)) (Err (length accused.1))) tested
places_end told (Err other) seen accused all e right test = absurd cc
