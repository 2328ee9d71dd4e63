-- Events, one after another.
use Rattle.std.proofs.Common.{◌≡◌, ◌∙◌, ℕ, ◌≤◌, List, [], ◌∷◌, ◌++◌, length, length-append, Option, Some, None, Result, Ok, Err, sym, ap, subst, arith, append_assoc, append-nil}
use Rattle.std.proofs.lemmas.Grind.{flat_map-append}
use Rattle.std.specs.Io.KnownBytes.{Appends, Consumes}
use Rattle.std.proofs.KnownBytes.{Appends-nil, Appends-trans, Consumes-nil, Consumes-trans}
use Rattle.da_io.specs.Faults.{max_count, count_on}
use Rattle.da_io.specs.Sinks.{IsProperPrefix}
use Rattle.da_talk.specs.declared.line.Line as line
use Rattle.da_talk.specs.Events.{Event, heard, said, heard_by, said_by, heard_in, said_in, Grows, GivesBytes}
use Rattle.da_talk.specs.Talks.{Does}
use Rattle.da_talk.specs.Steps.{Waits}

-- ---- what was told

-- nothing came
grows_none : (a : Option (List Event)) → Grows a a []
grows_none None = tt
grows_none (Some x) = sym (append-nil x)

-- some came, and then more
grows_on : (a b c : Option (List Event)) (xs ys : List Event) → Grows a b xs → Grows b c ys → Grows a c (xs ++ ys)
grows_on None None None xs ys p q = tt
grows_on None None (Some z) xs ys p q = absurd q
grows_on None (Some y) c xs ys p q = absurd p
grows_on (Some x) None None xs ys p q = tt
grows_on (Some x) None (Some z) xs ys p q = absurd q
grows_on (Some x) (Some y) None xs ys p q = tt
grows_on (Some x) (Some y) (Some z) xs ys p q = q ∙ ap (λ (l : List Event). l ++ ys) p ∙ append_assoc x xs ys

pub heard_on : (xs ys : List Event) → heard_in (xs ++ ys) ≡ heard_in xs ++ heard_in ys
heard_on xs ys = flat_map-append heard_by xs ys

pub said_on : (xs ys : List Event) → said_in (xs ++ ys) ≡ said_in xs ++ said_in ys
said_on xs ys = flat_map-append said_by xs ys

-- ---- what a line did

-- what holds of each line
pub record IsLine {L : Type 0} (l : line.Ghosts L) : Type 0 where
  pub few : (x : L) → l.given x ≤ max_count
  pub none : (x : L) → l.stays x x
  pub on : (a b c : L) → l.stays a b → l.stays b c → l.stays a c

-- a line did nothing
pub does_none : {L : Type 0} (l : line.Ghosts L) → IsLine l → (old : L) → Does l old old []
does_none l is old = record {
  grows = grows_none (l.events old);
  rest = Consumes-nil (l.rest old);
  taken = Appends-nil (l.taken old);
  given = omega (arith, is.few old);
  stays = is.none old;
}

-- a line did something, and then more
pub does_on : {L : Type 0} (l : line.Ghosts L) → IsLine l → (old mid new : L) (xs ys : List Event) → Does l old mid xs → Does l mid new ys → Does l old new (xs ++ ys)
does_on l is old mid new xs ys p q = record {
  grows = grows_on _ _ _ xs ys p.grows q.grows;
  rest = subst (Consumes (l.rest old) (l.rest new)) (sym (heard_on xs ys)) (Consumes-trans _ _ _ _ _ p.rest q.rest);
  taken = subst (Appends (l.taken old) (l.taken new)) (sym (said_on xs ys)) (Appends-trans _ _ _ _ _ p.taken q.taken);
  given = omega (arith, p.given, q.given, ap length (heard_on xs ys), length-append (heard_in xs) (heard_in ys));
  stays = is.on old mid new p.stays q.stays;
}

-- waiting for bytes is one event
pub does_heard : {L : Type 0} (l : line.Ghosts L) (old new : L) (bytes : List ℕ) → Grows (l.events old) (l.events new) (heard bytes ∷ [])
    → Consumes (l.rest old) (l.rest new) bytes → Appends (l.taken old) (l.taken new) [] → l.given new ≡ count_on (l.given old) (length bytes)
    → l.stays old new → Does l old new (heard bytes ∷ [])
does_heard l old new bytes grows rest taken given stays = record {
  grows = grows;
  rest = subst (Consumes (l.rest old) (l.rest new)) (sym (append-nil bytes)) rest;
  taken = taken;
  given = given ∙ ap (λ (x : List ℕ). count_on (l.given old) (length x)) (sym (append-nil bytes));
  stays = stays;
}

-- saying is one event
does_part : {L T E : Type 0} (l : line.Ghosts L) → IsLine l → (old new : L) (bytes : List ℕ) (result : Result T E)
    → (g : GivesBytes (l.events old) (l.events new) (l.rest old) (l.rest new) (l.taken old) (l.taken new) bytes result)
    → l.given new ≡ l.given old → l.stays old new → Does l old new (said g.part ∷ [])
does_part l is old new bytes result g given stays = record {
  grows = g.grows;
  rest = g.kept;
  taken = subst (Appends (l.taken old) (l.taken new)) (sym (append-nil g.part)) g.taken;
  given = omega (arith, given, is.few old);
  stays = stays;
}

-- all of it was said
pub does_whole : {L T E : Type 0} (l : line.Ghosts L) → IsLine l → (old new : L) (bytes text : List ℕ) (x : T)
    → GivesBytes {T = T} {E = E} (l.events old) (l.events new) (l.rest old) (l.rest new) (l.taken old) (l.taken new) bytes (Ok x)
    → l.given new ≡ l.given old → l.stays old new → bytes ≡ text → Does l old new (said text ∷ [])
does_whole {L} {T} {E} l is old new bytes text x g given stays same =
    subst (λ (b : List ℕ). Does l old new (said b ∷ [])) (g.is ∙ same) (does_part {L = L} {T = T} {E = E} l is old new bytes (Ok x) g given stays)

-- a part of it was said
pub does_some : {L T E : Type 0} (l : line.Ghosts L) → IsLine l → (old new : L) (bytes text : List ℕ) (why : E)
    → GivesBytes {T = T} {E = E} (l.events old) (l.events new) (l.rest old) (l.rest new) (l.taken old) (l.taken new) bytes (Err why)
    → l.given new ≡ l.given old → l.stays old new → bytes ≡ text → (part : List ℕ) × IsProperPrefix part text × Does l old new (said part ∷ [])
does_some {L} {T} {E} l is old new bytes text why g given stays same =
    (g.part, subst (IsProperPrefix g.part) same g.is, does_part {L = L} {T = T} {E = E} l is old new bytes (Err why) g given stays)

-- ---- where bytes are waited for

-- events, and then more
pub waits_on : (Holds : List ℕ → List ℕ → Type 0) (came went : List ℕ) (xs ys : List Event) → Waits Holds came went xs
    → Waits Holds (came ++ heard_in xs) (went ++ said_in xs) ys → Waits Holds came went (xs ++ ys)
waits_on Holds came went [] ys p q =
    subst (λ (w : List ℕ). Waits Holds came w ys) (append-nil went) (subst (λ (c : List ℕ). Waits Holds c (went ++ []) ys) (append-nil came) q)
waits_on Holds came went (heard bytes ∷ xs) ys p q = (
  p.0,
  waits_on Holds (came ++ bytes) went xs ys p.1
      (subst (λ (c : List ℕ). Waits Holds c (went ++ said_in xs) ys) (sym (append_assoc came bytes (heard_in xs))) q),
)
waits_on Holds came went (said bytes ∷ xs) ys p q =
    waits_on Holds came (went ++ bytes) xs ys p
    (subst (λ (w : List ℕ). Waits Holds (came ++ heard_in xs) w ys) (sym (append_assoc went bytes (said_in xs))) q)

-- what holds whenever bytes are waited for holds at this place
waits_here : (Holds : List ℕ → List ℕ → Type 0) (came went : List ℕ) (before later : List Event) (bytes : List ℕ) → Waits Holds came went (before ++ heard bytes ∷ later)
    → Holds (came ++ heard_in before) (went ++ said_in before)
waits_here Holds came went [] later bytes p =
    subst (λ (w : List ℕ). Holds (came ++ []) w) (sym (append-nil went)) (subst (λ (c : List ℕ). Holds c went) (sym (append-nil came)) p.0)
waits_here Holds came went (heard some ∷ before) later bytes p =
    subst (λ (c : List ℕ). Holds c (went ++ said_in before)) (append_assoc came some (heard_in before)) (waits_here Holds (came ++ some) went before later bytes p.1)
waits_here Holds came went (said some ∷ before) later bytes p =
    subst (λ (w : List ℕ). Holds (came ++ heard_in before) w) (append_assoc went some (said_in before)) (waits_here Holds came (went ++ some) before later bytes p)

-- at each place
pub waits_each : (Holds : List ℕ → List ℕ → Type 0) (events : List Event) → Waits Holds [] [] events
    → (before later : List Event) (bytes : List ℕ) → events ≡ before ++ heard bytes ∷ later → Holds (heard_in before) (said_in before)
waits_each Holds events p before later bytes e = waits_here Holds [] [] before later bytes (subst (Waits Holds [] []) e p)

-- ---- counts

-- a count that doesn't rise
pub count_none : (n : ℕ) → n ≤ max_count → n ≡ count_on n 0
count_none n few = omega (arith, few)
