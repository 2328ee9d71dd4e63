-- The places of bad encoding proofs, written and read.
use Rattle.std.proofs.Common.{◌≡◌, ◌∙◌, ℕ, zero, suc, ◌+◌, ◌^◌, ◌<◌, ◌≤◌, Bool, true, false, cond, ◌==◌, eqb, eqb-true, lt-ltb, List, [], ◌∷◌, ◌++◌, length, Option, Some, None, option_map, IfSome, Result, Ok, Err, refl, sym, ap, ap₂, subst, arith, append_assoc}
use Rattle.std.specs.Prelude.{nat_lt}
use Rattle.std.specs.List.{AllByRecursion}
use Rattle.std.proofs.lemmas.List.{nil_from_length}
use Rattle.std.proofs.lemmas.Option.{same_Some, none-some}
use Rattle.namespace_id.specs.declared.cells.Cell.{Cell}
use Rattle.namespace_id.specs.Bytes.{AreBytes}
use Rattle.proto_fields.specs.Spelled.{bytes_field}
use Rattle.proto_fields.specs.Canonical.{begins, begins_part, canonical_part}
use Rattle.proto_fields.proofs.CanonicalVarints.{front_fits, behind_fits}
use Rattle.proto_fields.proofs.CanonicalLemmas.{part_read_back, read_is_part_field}
use Rattle.axis_roots.specs.declared.message.messages.Message.{Message}
use Rattle.axis_roots.specs.Messages.{IsMessage}
use Rattle.axis_roots.specs.Lines.{cell_on}
use Rattle.celestia_pb.specs.declared.sample.Sample.{Sample}
use Rattle.celestia_pb.specs.declared.befp_entries.Accused.{Accused}
use Rattle.celestia_pb.specs.declared.befp_entries.Seen.{Seen}
use Rattle.celestia_pb.specs.Reading.{then_read, or_left}
use Rattle.celestia_pb.specs.Messages.{before_rest}
use Rattle.celestia_pb.specs.Inclusions.{place_stated}
use Rattle.celestia_pb.specs.Samples.{IsSample}
use Rattle.celestia_pb.specs.BefpEntries.{befp_entry, befp_place, places_text, entry_left, accused_cell, seen_place, step_of, part_left, step_left, with_place, before_places, places_at, cells_of}
use Rattle.celestia_pb.specs.Befp.{count_at}
use Rattle.celestia_pb.proofs.Fronts.{begins_own, begins_other}
use Rattle.celestia_pb.proofs.Steps.{same_ok, then_ok}
use Rattle.celestia_pb.proofs.DigestLemmas.{field_fits}
use Rattle.celestia_pb.proofs.SampleLemmas.{or_left_some}
use Rattle.celestia_pb.proofs.PlaceLoops.{if_counted, count_at-none, count_at-next, count_at-end, if_place, places_at-none, places_at-next, places_at-end, places_at-there}
use Rattle.celestia_pb.proofs.FlagLemmas.{IsFlag, IsSmall, flag_is}
use Rattle.celestia_pb.proofs.PlaceEntries.{bare, with_cell, entry_few, entry_some, entry_is_read, entry_back}
use Rattle.celestia_pb.proofs.PlaceCells.{shown, bare_all, StandAt, cell_at, messages_of}

-- ---- texts

-- the field of a place, and those of the others
pub places_text-next : (flag : ℕ) (place : Option Message) (places : List (Option Message)) (rest : List ℕ)
    → places_text flag (place ∷ places) ++ rest ≡ bytes_field 3 (befp_place flag place) ++ (places_text flag places ++ rest)
places_text-next flag place places rest = append_assoc (bytes_field 3 (befp_place flag place)) (places_text flag places) rest

-- none of another tag is in front of them
pub begins_places : (tag flag : ℕ) (places : List (Option Message)) (rest : List ℕ) → eqb 26 tag ≡ false → begins tag rest ≡ false
    → begins tag (places_text flag places ++ rest) ≡ false
begins_places tag flag [] rest other none = none
begins_places tag flag (place ∷ places) rest other none =
    ap (begins tag) (places_text-next flag place places rest) ∙ begins_other tag 3 (befp_place flag place) (places_text flag places ++ rest) (omega arith) other

-- ---- places that were written are counted

-- what stands at a place isn't long
pub first_short : (accused : Accused) (place flag : ℕ) (o : Option Message) (places : List (Option Message)) → StandAt accused place (o ∷ places)
    → (length (befp_place flag o) < 2 ^ 64) × StandAt accused (suc place) places
first_short accused place flag None places stand = (omega arith, stand)
first_short accused place flag (Some m) places stand = (omega (arith, entry_few flag m stand.0.0), stand.1)

-- all are counted, where no other field of theirs follows
pub places_are_counted : (accused : Accused) (place flag count most : ℕ) (places : List (Option Message)) (rest : List ℕ) → StandAt accused place places
    → length places ≤ most → begins_part 3 rest ≡ false → count_at count most (places_text flag places ++ rest) ≡ Ok (count + length places, rest)
places_are_counted accused place flag count most [] rest stand few none =
    let e : count ≡ count + 0 = omega arith in
    count_at-end count most rest none ∙ ap (λ (n : ℕ). Ok (n, rest)) e
places_are_counted accused place flag count zero (o ∷ places) rest stand few none = absurd (omega arith)
places_are_counted accused place flag count (suc most) (o ∷ places) rest stand few none =
    let first = first_short accused place flag o places stand in
    let part : List ℕ = befp_place flag o in
    let behind : List ℕ = places_text flag places ++ rest in
    let bytes : List ℕ = bytes_field 3 part ++ behind in
    let e : suc count + length places ≡ count + suc (length places) = omega arith in
    ap (count_at count (suc most)) (places_text-next flag o places rest)
    ∙ count_at-next count most bytes
    ∙ ap (if_counted count most bytes) (begins_own 3 part behind (omega arith))
    ∙ ap (λ (x : Option (List ℕ × List ℕ)). then_read (λ (part rest : List ℕ). count_at (suc count) most rest) (or_left bytes x)) (part_read_back 3 part behind (omega arith) first.0)
    ∙ places_are_counted accused (suc place) flag (suc count) most places rest first.1 (omega arith) none
    ∙ ap (λ (n : ℕ). Ok (n, rest)) e

-- ---- places that were written are read

module _ (accused : Accused) (most : ℕ) where
  -- the test of a place's bytes
  abbrev if_share : Seen → List ℕ → List ℕ → List ℕ → Bool → Bool → Result (Option (Sample × ℕ) × List ℕ) ℕ
  if_share seen bytes part rest none few =
      cond none (Ok (None, rest)) (cond few (before_rest rest (entry_left (Some (cell_on accused.axis accused.index seen.place)) seen.mark part)) (Err (length bytes)))

  -- a place with nothing
  none_is_read : (seen : Seen) (rest : List ℕ) → step_left (Some accused) most seen (bytes_field 3 [] ++ rest) ≡ Ok ((None, seen_place seen None), rest)
  none_is_read seen rest =
      let bytes : List ℕ = bytes_field 3 [] ++ rest in
      ap (λ (x : Option (List ℕ × List ℕ)). then_read (step_of seen) (then_read (part_left (Some accused) most seen bytes) (or_left bytes x))) (part_read_back 3 [] rest (omega arith) (omega arith))

  -- one with a share
  some_is_read : (flag : ℕ) (seen : Seen) (m : Message) (rest : List ℕ) → IsMessage m → m.cell ≡ cell_on accused.axis accused.index seen.place → IsFlag seen.mark flag
      → seen.shares < most → step_left (Some accused) most seen (bytes_field 3 (befp_entry flag m) ++ rest) ≡ Ok ((Some (bare m), seen_place seen (Some (bare m, flag))), rest)
  some_is_read flag seen m rest is at marked few =
      let part : List ℕ = befp_entry flag m in
      let bytes : List ℕ = bytes_field 3 part ++ rest in
      let short : length part < 2 ^ 64 = omega (arith, entry_few flag m is) in
      ap (λ (x : Option (List ℕ × List ℕ)). then_read (step_of seen) (then_read (part_left (Some accused) most seen bytes) (or_left bytes x))) (part_read_back 3 part rest (omega arith) short)
      ∙ ap₂ (λ (a b : Bool). then_read (step_of seen) (if_share seen bytes part rest a b)) (entry_some flag m is) (lt-ltb seen.shares most few)
      ∙ ap (λ (c : Cell). then_read (step_of seen) (before_rest rest (entry_left (Some c) seen.mark part))) (sym at)
      ∙ ap (λ (x : Result (Sample × ℕ) ℕ). then_read (step_of seen) (before_rest rest x)) (entry_is_read seen.mark flag m is marked)

  -- what is read of places
  pub record AreRead (count : ℕ) (seen : Seen) (bytes : List ℕ) (places : List (Option Message)) (rest : List ℕ) : Type 0 where
    pub after : Seen
    pub read : places_at (Some accused) most count seen bytes ≡ Ok ((bare_all places, after), rest)
    pub place : after.place ≡ seen.place + length places
    pub shares : after.shares ≡ seen.shares + shown places

  -- behind one that was read
  behind_one : (flag count : ℕ) (seen next : Seen) (o : Option Message) (places : List (Option Message)) (rest : List ℕ)
      → step_left (Some accused) most seen (bytes_field 3 (befp_place flag o) ++ (places_text flag places ++ rest)) ≡ Ok ((option_map bare o, next), places_text flag places ++ rest)
      → next.place ≡ suc seen.place → next.shares + shown places ≡ seen.shares + shown (o ∷ places) → AreRead count next (places_text flag places ++ rest) places rest
      → AreRead (suc count) seen (places_text flag (o ∷ places) ++ rest) (o ∷ places) rest
  behind_one flag count seen next o places rest step one more others =
      let behind : List ℕ = places_text flag places ++ rest in
      let bytes : List ℕ = bytes_field 3 (befp_place flag o) ++ behind in
      record {
        after = others.after;
        read = ap (places_at (Some accused) most (suc count) seen) (places_text-next flag o places rest)
            ∙ places_at-there (Some accused) most count seen bytes (Ok ((option_map bare o, next), behind)) (begins_own 3 (befp_place flag o) behind (omega arith)) step
            ∙ ap (with_place (option_map bare o)) others.read;
        place = omega (arith, others.place, one);
        shares = others.shares ∙ more;
      }

  -- all are read, where no other field of theirs follows
  pub places_are_read : (flag count : ℕ) (seen : Seen) (places : List (Option Message)) (rest : List ℕ) → flag ≤ 1 → place_stated seen.mark flag ≡ flag
      → StandAt accused seen.place places → length places ≤ count → seen.shares + shown places ≤ most → begins_part 3 rest ≡ false
      → AreRead count seen (places_text flag places ++ rest) places rest
  places_are_read flag count seen [] rest one same stand few fits none = record {
    after = seen;
    read = places_at-end (Some accused) most count seen rest none;
    place = omega arith;
    shares = omega arith;
  }
  places_are_read flag zero seen (o ∷ places) rest one same stand few fits none = absurd (omega arith)
  places_are_read flag (suc count) seen (None ∷ places) rest one same stand few fits none =
      behind_one flag count seen (seen_place seen None) None places rest (none_is_read seen (places_text flag places ++ rest)) refl refl
      (places_are_read flag count (seen_place seen None) places rest one same stand (omega arith) fits none)
  places_are_read flag (suc count) seen (Some m ∷ places) rest one same stand few fits none =
      let marked : IsFlag seen.mark flag = record { few = one; same = same } in
      let next : Seen = seen_place seen (Some (bare m, flag)) in
      let lt : seen.shares < most = omega (arith, fits) in
      let more : suc seen.shares + shown places ≡ seen.shares + suc (shown places) = omega arith in
      behind_one flag count seen next (Some m) places rest (some_is_read flag seen m (places_text flag places ++ rest) stand.0.0 stand.0.1 marked lt) refl more
      (places_are_read flag count next places rest one refl stand.1 (omega arith) (omega (arith, fits)) none)

-- ---- places that are read are counted

-- what the bytes of a place are
pub record IsPart (cell : Option Cell) (mark : Option ℕ) (part : List ℕ) (entry : Option (Sample × ℕ)) : Type 0 where
  pub none : entry ≡ None → part ≡ []
  pub some : (x : Sample × ℕ) → entry ≡ Some x → entry_left cell mark part ≡ Ok x

-- of what was read of them
part_parts : (cell : Option Cell) (mark : Option ℕ) (wrong : ℕ) (part rest : List ℕ) (none few : Bool) (r : Result (Sample × ℕ) ℕ) (w : Option (Sample × ℕ) × List ℕ)
    → (length part == 0) ≡ none → entry_left cell mark part ≡ r → cond none (Ok (None, rest)) (cond few (before_rest rest r) (Err wrong)) ≡ Ok w
    → IsPart cell mark part w.0 × (w.1 ≡ rest)
part_parts cell mark wrong part rest true few r w empty_is is e =
    let same : ◌≡◌ {A = Option (Sample × ℕ) × List ℕ} (None, rest) w = same_ok (None, rest) w e in
    let empty : part ≡ [] = nil_from_length part (eqb-true (length part) 0 empty_is) in (
      record {
        none = λ _. empty;
        some = λ x there. absurd (none-some x (ap (λ (p : Option (Sample × ℕ) × List ℕ). p.0) same ∙ there));
      },
      sym (ap (λ (p : Option (Sample × ℕ) × List ℕ). p.1) same),
    )
part_parts cell mark wrong part rest false false r w empty_is is e = absurd cc
part_parts cell mark wrong part rest false true (Err left) w empty_is is e = absurd cc
part_parts cell mark wrong part rest false true (Ok found) w empty_is is e =
    let same : ◌≡◌ {A = Option (Sample × ℕ) × List ℕ} (Some found, rest) w = same_ok (Some found, rest) w e in (
      record {
        none = λ absent. absurd (none-some found (sym (ap (λ (p : Option (Sample × ℕ) × List ℕ). p.0) same ∙ absent)));
        some = λ x there. is ∙ ap (λ (y : Sample × ℕ). Ok y) (same_Some found x (ap (λ (p : Option (Sample × ℕ) × List ℕ). p.0) same ∙ there));
      },
      sym (ap (λ (p : Option (Sample × ℕ) × List ℕ). p.1) same),
    )

-- what is read as a place
pub record IsStep (known : Option Accused) (seen : Seen) (bytes : List ℕ) (step : Option Sample × Seen) (rest : List ℕ) : Type 0 where
  pub part : List ℕ
  pub entry : Option (Sample × ℕ)
  pub there : canonical_part 3 bytes ≡ Some (part, rest)
  pub is : IsPart (accused_cell known seen.place) seen.mark part entry
  pub sample_is : step.0 ≡ option_map (λ (x : Sample × ℕ). x.0) entry
  pub next_is : step.1 ≡ seen_place seen entry

pub step_parts : (known : Option Accused) (most : ℕ) (seen : Seen) (bytes : List ℕ) (y : (Option Sample × Seen) × List ℕ) → step_left known most seen bytes ≡ Ok y
    → IsStep known seen bytes y.0 y.1
step_parts known most seen bytes y e =
    let w = then_ok (step_of seen) (then_read (part_left known most seen bytes) (or_left bytes (canonical_part 3 bytes))) y e in
    let p = then_ok (part_left known most seen bytes) (or_left bytes (canonical_part 3 bytes)) w.0 w.1 in
    let cell : Option Cell = accused_cell known seen.place in
    let part : List ℕ = p.0.0 in
    let is = part_parts cell seen.mark (length bytes) part p.0.1 (length part == 0) (nat_lt seen.shares most) (entry_left cell seen.mark part) w.0 refl refl p.2 in
    let same = same_ok ((option_map (λ (x : Sample × ℕ). x.0) w.0.0, seen_place seen w.0.0), w.0.1) y w.2 in
    let after : p.0.1 ≡ y.1 = sym is.1 ∙ ap (λ (z : (Option Sample × Seen) × List ℕ). z.1) same in
    record {
      part = part;
      entry = w.0.0;
      there = or_left_some bytes (canonical_part 3 bytes) p.0 p.1 ∙ ap (λ (l : List ℕ). Some (part, l)) after;
      is = is.0;
      sample_is = sym (ap (λ (z : (Option Sample × Seen) × List ℕ). z.0.0) same);
      next_is = sym (ap (λ (z : (Option Sample × Seen) × List ℕ). z.0.1) same);
    }

-- one place more
passed_place : (seen : Seen) (entry : Option (Sample × ℕ)) → (seen_place seen entry).place ≡ suc seen.place
passed_place seen None = refl
passed_place seen (Some entry) = refl

-- a place that was read, and those behind it
record HasOthers (known : Option Accused) (most count : ℕ) (seen : Seen) (bytes : List ℕ) (x : (List (Option Sample) × Seen) × List ℕ) : Type 0 where
  first : Option Sample
  next : Seen
  behind : List ℕ
  others : List (Option Sample)
  step : step_left known most seen bytes ≡ Ok ((first, next), behind)
  read : places_at known most count next behind ≡ Ok ((others, x.0.1), x.1)
  all : x.0.0 ≡ first ∷ others

-- what was put before others
with_place_parts : (first : Option Sample) (r : Result ((List (Option Sample) × Seen) × List ℕ) ℕ) (x : (List (Option Sample) × Seen) × List ℕ) → with_place first r ≡ Ok x
    → (others : List (Option Sample)) × (r ≡ Ok ((others, x.0.1), x.1)) × (x.0.0 ≡ first ∷ others)
with_place_parts first (Err left) x e = absurd cc
with_place_parts first (Ok z) x e =
    let same = same_ok ((first ∷ z.0.0, z.0.1), z.1) x e in (
      z.0.0,
      ap (λ (y : (List (Option Sample) × Seen) × List ℕ). Ok ((z.0.0, y.0.1), y.1)) same,
      sym (ap (λ (y : (List (Option Sample) × Seen) × List ℕ). y.0.0) same),
    )

others_of : (known : Option Accused) (most count : ℕ) (seen : Seen) (bytes : List ℕ) (x : (List (Option Sample) × Seen) × List ℕ)
    → if_place known most count seen bytes true ≡ Ok x → HasOthers known most count seen bytes x
others_of known most count seen bytes x e =
    let y = then_ok (before_places (places_at known most count)) (step_left known most seen bytes) x e in
    let z = with_place_parts y.0.0.0 (places_at known most count y.0.0.1 y.0.1) x y.2 in
    record { first = y.0.0.0; next = y.0.0.1; behind = y.0.1; others = z.0; step = y.1; read = z.1; all = z.2 }

-- places are counted as they are read
abbrev Agrees : Option Accused → ℕ → ℕ → Type 0
Agrees known most count = (seen : Seen) (bytes : List ℕ) (x : (List (Option Sample) × Seen) × List ℕ) → places_at known most count seen bytes ≡ Ok x
    → count_at seen.place count bytes ≡ Ok (x.0.1.place, x.1)

-- nothing was read
none_counted : (seen : Seen) (bytes : List ℕ) (x : (List (Option Sample) × Seen) × List ℕ)
    → ◌≡◌ {A = Result ((List (Option Sample) × Seen) × List ℕ) ℕ} (Ok (([], seen), bytes)) (Ok x)
    → ◌≡◌ {A = Result (ℕ × List ℕ) ℕ} (Ok (seen.place, bytes)) (Ok (x.0.1.place, x.1))
none_counted seen bytes x e = ap (λ (y : (List (Option Sample) × Seen) × List ℕ). Ok (y.0.1.place, y.1)) (same_ok (([], seen), bytes) x e)

-- one was read, or none was
test_counted : (known : Option Accused) (most count : ℕ) (seen : Seen) (bytes : List ℕ) (x : (List (Option Sample) × Seen) × List ℕ) (b : Bool) → Agrees known most count
    → if_place known most count seen bytes b ≡ Ok x → if_counted seen.place count bytes b ≡ Ok (x.0.1.place, x.1)
test_counted known most count seen bytes x false agrees e = none_counted seen bytes x e
test_counted known most count seen bytes x true agrees e =
    let h = others_of known most count seen bytes x e in
    let s = step_parts known most seen bytes ((h.first, h.next), h.behind) h.step in
    let one : suc seen.place ≡ h.next.place = sym (ap (λ (n : Seen). n.place) s.next_is ∙ passed_place seen s.entry) in
    ap (λ (o : Option (List ℕ × List ℕ)). then_read (λ (part rest : List ℕ). count_at (suc seen.place) count rest) (or_left bytes o)) s.there
    ∙ ap (λ (n : ℕ). count_at n count h.behind) one
    ∙ agrees h.next h.behind ((h.others, x.0.1), x.1) h.read

pub places_agree : (known : Option Accused) (most count : ℕ) (seen : Seen) (bytes : List ℕ) (x : (List (Option Sample) × Seen) × List ℕ)
    → places_at known most count seen bytes ≡ Ok x → count_at seen.place count bytes ≡ Ok (x.0.1.place, x.1)
places_agree known most zero seen bytes x e = count_at-none seen.place bytes ∙ none_counted seen bytes x (sym (places_at-none known most seen bytes) ∙ e)
places_agree known most (suc count) seen bytes x e =
    count_at-next seen.place count bytes
    ∙ test_counted known most count seen bytes x (begins_part 3 bytes) (λ some list y is. places_agree known most count some list y is)
    (sym (places_at-next known most count seen bytes) ∙ e)

-- ---- places that are read were written

-- the flag of proofs, none where there are no proofs
abbrev pub flag_of : Option ℕ → ℕ
flag_of None = 0
flag_of (Some flag) = flag

-- a flag that proofs have the later ones have too
abbrev pub IsKept : Option ℕ → Option ℕ → Type 0
IsKept mark last = (flag : ℕ) → mark ≡ Some flag → last ≡ Some flag

-- each of these is a sample, if there is one
abbrev pub AreSamples : List (Option Sample) → Type 0
AreSamples places = AllByRecursion (λ o. IfSome o IsSample) places

-- what is read as a place
record IsPlaceRead (accused : Accused) (seen : Seen) (bytes : List ℕ) (o : Option Sample) (next : Seen) (rest : List ℕ) : Type 0 where
  fits : AreBytes rest
  place : next.place ≡ suc seen.place
  shares : next.shares ≡ seen.shares + length (cells_of accused seen.place (o ∷ []))
  is : IfSome o IsSample
  small : IsSmall next.mark
  kept : IsKept seen.mark next.mark
  text : (last : Option ℕ) → IsKept next.mark last → bytes ≡ bytes_field 3 (befp_place (flag_of last) (cell_at accused seen.place o)) ++ rest

-- the flag of the proofs before is that of this one
same_flag : (mark : Option ℕ) (flag : ℕ) → place_stated mark flag ≡ flag → IsKept mark (Some flag)
same_flag None flag same before e = absurd (none-some before e)
same_flag (Some other) flag same before e = ap (λ (n : ℕ). Some n) (sym same) ∙ e

-- nothing, or a share with its proof
entry_parts : (accused : Accused) (seen : Seen) (bytes part rest : List ℕ) (entry : Option (Sample × ℕ)) → AreBytes part → AreBytes rest → IsSmall seen.mark
    → bytes ≡ bytes_field 3 part ++ rest → IsPart (Some (cell_on accused.axis accused.index seen.place)) seen.mark part entry
    → IsPlaceRead accused seen bytes (option_map (λ (x : Sample × ℕ). x.0) entry) (seen_place seen entry) rest
entry_parts accused seen bytes part rest None part_fits fits small parts is = record {
  fits = fits;
  place = refl;
  shares = omega arith;
  is = tt;
  small = small;
  kept = λ flag e. e;
  text = λ last kept. parts ∙ ap (λ (l : List ℕ). bytes_field 3 l ++ rest) (is.none refl);
}
entry_parts accused seen bytes part rest (Some x) part_fits fits small parts is =
    let cell : Cell = cell_on accused.axis accused.index seen.place in
    let was = entry_back cell seen.mark part x part_fits (is.some x refl) in
    let marked = flag_is seen.mark x.1 small was.passes was.same in
    record {
      fits = fits;
      place = refl;
      shares = omega arith;
      is = was.is;
      small = λ flag e. subst (λ (n : ℕ). n ≤ 1) (same_Some x.1 flag e) marked.few;
      kept = same_flag seen.mark x.1 was.same;
      text = λ last kept. parts ∙ ap (λ (l : List ℕ). bytes_field 3 l ++ rest) (was.text
          ∙ ap (λ (m : Option ℕ). befp_entry (flag_of m) (with_cell cell x.0)) (sym (kept x.1 refl)));
    }

-- it was written so
place_back : (accused : Accused) (most : ℕ) (seen : Seen) (bytes : List ℕ) (y : (Option Sample × Seen) × List ℕ) → AreBytes bytes → IsSmall seen.mark
    → step_left (Some accused) most seen bytes ≡ Ok y → IsPlaceRead accused seen bytes y.0.0 y.0.1 y.1
place_back accused most seen bytes y fits small e =
    let s = step_parts (Some accused) most seen bytes y e in
    let h = read_is_part_field 3 bytes s.part y.1 (omega arith) fits s.there in
    let all : AreBytes (bytes_field 3 s.part ++ y.1) = subst (λ (l : List ℕ). AreBytes l) h.1 fits in
    let part_fits : AreBytes s.part = field_fits 3 s.part (front_fits (bytes_field 3 s.part) y.1 all) in
    let rest_fits : AreBytes y.1 = behind_fits (bytes_field 3 s.part) y.1 all in
    let is = entry_parts accused seen bytes s.part y.1 s.entry part_fits rest_fits small h.1 s.is in
    subst (λ (o : Option Sample). IsPlaceRead accused seen bytes o y.0.1 y.1) (sym s.sample_is)
    (subst (λ (n : Seen). IsPlaceRead accused seen bytes (option_map (λ (x : Sample × ℕ). x.0) s.entry) n y.1) (sym s.next_is) is)

-- what is read as places
pub record ArePlacesRead (accused : Accused) (seen : Seen) (bytes : List ℕ) (places : List (Option Sample)) (after : Seen) (rest : List ℕ) : Type 0 where
  pub fits : AreBytes rest
  pub place : after.place ≡ seen.place + length places
  pub shares : after.shares ≡ seen.shares + length (cells_of accused seen.place places)
  pub are : AreSamples places
  pub small : IsSmall after.mark
  pub kept : IsKept seen.mark after.mark
  pub text : (last : Option ℕ) → IsKept after.mark last → bytes ≡ places_text (flag_of last) (messages_of accused seen.place places) ++ rest

-- no place was read
none_back : (accused : Accused) (seen : Seen) (bytes : List ℕ) (x : (List (Option Sample) × Seen) × List ℕ) → AreBytes bytes → IsSmall seen.mark
    → ◌≡◌ {A = Result ((List (Option Sample) × Seen) × List ℕ) ℕ} (Ok (([], seen), bytes)) (Ok x) → ArePlacesRead accused seen bytes x.0.0 x.0.1 x.1
none_back accused seen bytes x fits small e =
    subst (λ (y : (List (Option Sample) × Seen) × List ℕ). ArePlacesRead accused seen bytes y.0.0 y.0.1 y.1) (same_ok (([], seen), bytes) x e) (record {
      fits = fits;
      place = omega arith;
      shares = omega arith;
      are = tt;
      small = small;
      kept = λ flag e. e;
      text = λ last kept. refl;
    })

-- the cells of one place more
cells_first : (accused : Accused) (place : ℕ) (o : Option Sample) (places : List (Option Sample))
    → length (cells_of accused place (o ∷ places)) ≡ length (cells_of accused place (o ∷ [])) + length (cells_of accused (suc place) places)
cells_first accused place None places = omega arith
cells_first accused place (Some s) places = omega arith

-- whether what is read as at most so many places was written so
abbrev Back : Accused → ℕ → ℕ → Type 0
Back accused most count = (seen : Seen) (bytes : List ℕ) (x : (List (Option Sample) × Seen) × List ℕ) → AreBytes bytes → IsSmall seen.mark
    → places_at (Some accused) most count seen bytes ≡ Ok x → ArePlacesRead accused seen bytes x.0.0 x.0.1 x.1

-- one was read, or none was
test_back : (accused : Accused) (most count : ℕ) (seen : Seen) (bytes : List ℕ) (x : (List (Option Sample) × Seen) × List ℕ) (b : Bool) → Back accused most count
    → AreBytes bytes → IsSmall seen.mark → if_place (Some accused) most count seen bytes b ≡ Ok x → ArePlacesRead accused seen bytes x.0.0 x.0.1 x.1
test_back accused most count seen bytes x false back fits small e = none_back accused seen bytes x fits small e
test_back accused most count seen bytes x true back fits small e =
    let h = others_of (Some accused) most count seen bytes x e in
    let p = place_back accused most seen bytes ((h.first, h.next), h.behind) fits small h.step in
    let others = back h.next h.behind ((h.others, x.0.1), x.1) p.fits p.small h.read in
    let one : h.next.place ≡ suc seen.place = p.place in
    let many : length (cells_of accused h.next.place h.others) ≡ length (cells_of accused (suc seen.place) h.others) =
    ap (λ (n : ℕ). length (cells_of accused n h.others)) one in
    subst (λ (l : List (Option Sample)). ArePlacesRead accused seen bytes l x.0.1 x.1) (sym h.all) (record {
      fits = others.fits;
      place = omega (arith, others.place, one);
      shares = omega (arith, others.shares, p.shares, many, cells_first accused seen.place h.first h.others);
      are = (p.is, others.are);
      small = others.small;
      kept = λ flag e. others.kept flag (p.kept flag e);
      text = λ last kept.
          p.text last (λ flag e. kept flag (others.kept flag e))
          ∙ ap (λ (l : List ℕ). bytes_field 3 (befp_place (flag_of last) (cell_at accused seen.place h.first)) ++ l)
          (others.text last kept ∙ ap (λ (n : ℕ). places_text (flag_of last) (messages_of accused n h.others) ++ x.1) one)
          ∙ sym (places_text-next (flag_of last) (cell_at accused seen.place h.first) (messages_of accused (suc seen.place) h.others) x.1);
    })

-- what is read as places was written so
pub places_were_written : (accused : Accused) (most count : ℕ) (seen : Seen) (bytes : List ℕ) (x : (List (Option Sample) × Seen) × List ℕ) → AreBytes bytes
    → IsSmall seen.mark → places_at (Some accused) most count seen bytes ≡ Ok x → ArePlacesRead accused seen bytes x.0.0 x.0.1 x.1
places_were_written accused most zero seen bytes x fits small e =
    none_back accused seen bytes x fits small (sym (places_at-none (Some accused) most seen bytes) ∙ e)
places_were_written accused most (suc count) seen bytes x fits small e =
    test_back accused most count seen bytes x (begins_part 3 bytes) (λ some list y f s is. places_were_written accused most count some list y f s is) fits small
    (sym (places_at-next (Some accused) most count seen bytes) ∙ e)
