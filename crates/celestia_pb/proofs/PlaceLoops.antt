-- The loops along the places of a message BadEncoding: what was read and what is read of the rest are all.
use Rattle.std.proofs.Common.{◌≡◌, ◌∙◌, ℕ, zero, suc, ◌+◌, ◌-◌, ◌≤◌, ◌<◌, Bool, true, false, cond, List, [], ◌∷◌, ◌++◌, Option, Some, None, Result, Ok, Err, refl, sym, ap, arith, append_assoc, append-nil}
use Rattle.proto_fields.specs.Canonical.{begins_part, canonical_part}
use Rattle.axis_roots.specs.declared.message.messages.Message.{Message}
use Rattle.celestia_pb.specs.declared.sample.Sample.{Sample}
use Rattle.celestia_pb.specs.declared.befp_entries.Accused.{Accused}
use Rattle.celestia_pb.specs.declared.befp_entries.Seen.{Seen}
use Rattle.celestia_pb.specs.Reading.{then_read, or_left}
use Rattle.celestia_pb.specs.BefpEntries.{with_place, before_places, step_left, places_at, cells_of, cells_read, seen_read, has_read}
use Rattle.celestia_pb.specs.Befp.{count_at}

-- ---- fields that are counted

-- no more may be there
pub count_at-none : (count : ℕ) (bytes : List ℕ) → count_at count zero bytes ≡ Ok (count, bytes)
unfolding count_at
count_at-none count bytes = refl

-- what is counted behind a test whether one is there
abbrev pub if_counted : ℕ → ℕ → List ℕ → Bool → Result (ℕ × List ℕ) ℕ
if_counted count most bytes b =
    cond b (then_read (λ (part rest : List ℕ). count_at (suc count) most rest) (or_left bytes (canonical_part 3 bytes))) (Ok (count, bytes))

-- one more may be there
pub count_at-next : (count most : ℕ) (bytes : List ℕ) → count_at count (suc most) bytes ≡ if_counted count most bytes (begins_part 3 bytes)
unfolding count_at
count_at-next count most bytes = refl

-- none is there
pub count_at-end : (count most : ℕ) (bytes : List ℕ) → begins_part 3 bytes ≡ false → count_at count most bytes ≡ Ok (count, bytes)
count_at-end count zero bytes none = count_at-none count bytes
count_at-end count (suc most) bytes none = count_at-next count most bytes ∙ ap (if_counted count most bytes) none

-- so many may still be there
still_more : (count : ℕ) → count < 1024 → 1024 - count ≡ suc (1024 - (count + 1))
still_more count lt = omega arith

-- one is there, or is wrong
pub count_at-one : (count : ℕ) (bytes : List ℕ) (o : Option (List ℕ × List ℕ)) → count < 1024 → begins_part 3 bytes ≡ true → canonical_part 3 bytes ≡ o
    → count_at count (1024 - count) bytes ≡ then_read (λ (part rest : List ℕ). count_at (suc count) (1024 - (count + 1)) rest) (or_left bytes o)
count_at-one count bytes o lt there is =
    ap (λ (n : ℕ). count_at count n bytes) (still_more count lt)
    ∙ count_at-next count (1024 - (count + 1)) bytes
    ∙ ap (if_counted count (1024 - (count + 1)) bytes) there
    ∙ ap (λ (x : Option (List ℕ × List ℕ)). then_read (λ (part rest : List ℕ). count_at (suc count) (1024 - (count + 1)) rest) (or_left bytes x)) is

-- all were counted
pub count_at-full : (count : ℕ) (bytes : List ℕ) → 1024 ≤ count → count_at count (1024 - count) bytes ≡ Ok (count, bytes)
count_at-full count bytes full =
    let e : 1024 - count ≡ 0 = omega arith in
    ap (λ (n : ℕ). count_at count n bytes) e ∙ count_at-none count bytes

-- one more was counted
pub count_at-more : (count : ℕ) (bytes part after : List ℕ) → count < 1024 → begins_part 3 bytes ≡ true → canonical_part 3 bytes ≡ Some (part, after)
    → count_at count (1024 - count) bytes ≡ count_at (count + 1) (1024 - (count + 1)) after
count_at-more count bytes part after lt there is =
    let e : suc count ≡ count + 1 = omega arith in
    count_at-one count bytes (Some (part, after)) lt there is ∙ ap (λ (n : ℕ). count_at n (1024 - (count + 1)) after) e

-- ---- places

module _ (accused : Option Accused) (most : ℕ) where
  -- no more may be there
  pub places_at-none : (seen : Seen) (bytes : List ℕ) → places_at accused most zero seen bytes ≡ Ok (([], seen), bytes)
  unfolding places_at
  places_at-none seen bytes = refl

  -- what is read behind a test whether one is there
  abbrev pub if_place : ℕ → Seen → List ℕ → Bool → Result ((List (Option Sample) × Seen) × List ℕ) ℕ
  if_place count seen bytes b =
      cond b (then_read (before_places (places_at accused most count)) (step_left accused most seen bytes)) (Ok (([], seen), bytes))

  -- one more may be there
  pub places_at-next : (count : ℕ) (seen : Seen) (bytes : List ℕ) → places_at accused most (suc count) seen bytes ≡ if_place count seen bytes (begins_part 3 bytes)
  unfolding places_at
  places_at-next count seen bytes = refl

  -- none is there
  pub places_at-end : (count : ℕ) (seen : Seen) (bytes : List ℕ) → begins_part 3 bytes ≡ false → places_at accused most count seen bytes ≡ Ok (([], seen), bytes)
  places_at-end zero seen bytes none = places_at-none seen bytes
  places_at-end (suc count) seen bytes none = places_at-next count seen bytes ∙ ap (if_place count seen bytes) none

  -- one is there
  pub places_at-there : (count : ℕ) (seen : Seen) (bytes : List ℕ) (step : Result ((Option Sample × Seen) × List ℕ) ℕ) → begins_part 3 bytes ≡ true
      → step_left accused most seen bytes ≡ step → places_at accused most (suc count) seen bytes ≡ then_read (before_places (places_at accused most count)) step
  places_at-there count seen bytes step there is =
      places_at-next count seen bytes
      ∙ ap (if_place count seen bytes) there
      ∙ ap (then_read (before_places (places_at accused most count))) is

  -- one is there, of those of the whole
  pub places_at-one : (seen : Seen) (bytes : List ℕ) (step : Result ((Option Sample × Seen) × List ℕ) ℕ) → seen.place < 1024 → begins_part 3 bytes ≡ true
      → step_left accused most seen bytes ≡ step
      → places_at accused most (1024 - seen.place) seen bytes ≡ then_read (before_places (places_at accused most (1024 - (seen.place + 1)))) step
  places_at-one seen bytes step lt there is =
      ap (λ (n : ℕ). places_at accused most n seen bytes) (still_more seen.place lt) ∙ places_at-there (1024 - (seen.place + 1)) seen bytes step there is

  -- one more was read
  pub places_at-more : (seen : Seen) (bytes : List ℕ) (sample : Option Sample) (next : Seen) (after : List ℕ) → seen.place < 1024 → begins_part 3 bytes ≡ true
      → step_left accused most seen bytes ≡ Ok ((sample, next), after) → next.place ≡ seen.place + 1
      → places_at accused most (1024 - seen.place) seen bytes ≡ with_place sample (places_at accused most (1024 - next.place) next after)
  places_at-more seen bytes sample next after lt there is one =
      places_at-one seen bytes (Ok ((sample, next), after)) lt there is
      ∙ ap (λ (n : ℕ). with_place sample (places_at accused most (1024 - n) next after)) (sym one)

  -- all were read
  pub places_at-full : (seen : Seen) (bytes : List ℕ) → 1024 ≤ seen.place → places_at accused most (1024 - seen.place) seen bytes ≡ Ok (([], seen), bytes)
  places_at-full seen bytes full =
      let e : 1024 - seen.place ≡ 0 = omega arith in
      ap (λ (n : ℕ). places_at accused most n seen bytes) e ∙ places_at-none seen bytes

-- what is seen doesn't depend on the samples
pub seen_with : (sample : Option Sample) (r : Result ((List (Option Sample) × Seen) × List ℕ) ℕ) → seen_read (with_place sample r) ≡ seen_read r
seen_with sample (Ok x) = refl
seen_with sample (Err left) = refl

-- others were read behind a place that was
pub read_with : (sample : Option Sample) (r : Result ((List (Option Sample) × Seen) × List ℕ) ℕ) → has_read (with_place sample r) ≡ has_read r
read_with sample (Ok x) = refl
read_with sample (Err left) = refl

-- the samples of a place and of those behind it
pub cells_with : (accused : Accused) (place : ℕ) (sample : Option Sample) (r : Result ((List (Option Sample) × Seen) × List ℕ) ℕ) → has_read r ≡ true
    → cells_read accused place (with_place sample r) ≡ cells_of accused place (sample ∷ []) ++ cells_read accused (suc place) r
cells_with accused place None (Ok x) is = refl
cells_with accused place (Some s) (Ok x) is = refl
cells_with accused place sample (Err left) is = absurd cc

-- all samples were read
pub cells_ended : (accused : Accused) (place : ℕ) (items all : List Message) (r : Result ((List (Option Sample) × Seen) × List ℕ) ℕ) (seen : Seen) (rest : List ℕ)
    → all ≡ items ++ cells_read accused place r → r ≡ Ok (([], seen), rest) → items ≡ all
cells_ended accused place items all r seen rest e is =
    sym (e ∙ ap (λ (x : Result ((List (Option Sample) × Seen) × List ℕ) ℕ). items ++ cells_read accused place x) is ∙ append-nil items)

module _ (known : Option Accused) (most : ℕ) (seen : Seen) (bytes : List ℕ) (sample : Option Sample) (next : Seen) (after : List ℕ)
    (lt : seen.place < 1024) (there : begins_part 3 bytes ≡ true) (is : step_left known most seen bytes ≡ Ok ((sample, next), after)) (one : next.place ≡ seen.place + 1) where
  -- what is read of the rest
  abbrev left : Result ((List (Option Sample) × Seen) × List ℕ) ℕ
  left = places_at known most (1024 - next.place) next after

  -- the rest is right too
  pub right_more : has_read (places_at known most (1024 - seen.place) seen bytes) ≡ true → has_read left ≡ true
  right_more right = sym (read_with sample left) ∙ sym (ap has_read (places_at-more known most seen bytes sample next after lt there is one)) ∙ right

  -- the samples of one more place were read
  pub cells_more : (accused : Accused) (items new all : List Message) → has_read (places_at known most (1024 - seen.place) seen bytes) ≡ true
      → all ≡ items ++ cells_read accused seen.place (places_at known most (1024 - seen.place) seen bytes)
      → new ≡ items ++ cells_of accused seen.place (sample ∷ []) → all ≡ new ++ cells_read accused next.place left
  cells_more accused items new all right e made =
      let more : suc seen.place ≡ next.place = omega (arith, one) in
      let here : List Message = cells_of accused seen.place (sample ∷ []) in
      e
      ∙ ap (λ (x : Result ((List (Option Sample) × Seen) × List ℕ) ℕ). items ++ cells_read accused seen.place x) (places_at-more known most seen bytes sample next after lt there is one)
      ∙ ap (λ (l : List Message). items ++ l) (cells_with accused seen.place sample left (right_more right))
      ∙ sym (append_assoc items here (cells_read accused (suc seen.place) left))
      ∙ ap (λ (l : List Message). l ++ cells_read accused (suc seen.place) left) (sym made)
      ∙ ap (λ (n : ℕ). new ++ cells_read accused n left) more

  -- what is seen of one more place was read
  pub seen_more : (all : Result (Seen × List ℕ) ℕ) → all ≡ seen_read (places_at known most (1024 - seen.place) seen bytes) → all ≡ seen_read left
  seen_more all e =
      e ∙ ap seen_read (places_at-more known most seen bytes sample next after lt there is one) ∙ seen_with sample left
