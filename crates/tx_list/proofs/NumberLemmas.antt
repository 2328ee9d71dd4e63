-- Varints, read one behind another as places.
use Rattle.std.proofs.Common.{true, false, cond, ◌≡◌, ◌∙◌, ℕ, zero, suc, ◌^◌, ◌<◌, ◌≤◌, ◌&&◌, nat_lt, Bool, List, [], ◌∷◌, ◌++◌, length, Option, Some, None, refl, sym, ap, ap₂, arith, length-append}
use Rattle.std.specs.Option.{is_some, option_map_or}
use Rattle.std.specs.Str.{bytes_eq}
use Rattle.std.proofs.lemmas.Bool.{true≢false}
use Rattle.std.proofs.lemmas.Bool.Decides.{nat_tests}
use Rattle.std.proofs.lemmas.List.{nil_from_length}
use Rattle.proto_fields.specs.Varints.{is_marked, number_at}
use Rattle.proto_fields.specs.Fields.{FieldParts, fields_of, last_of, last_bytes}
use Rattle.proto_fields.proofs.Varint.Read.{marked-none, number_back}
use Rattle.tx_list.specs.Reads.{are_fields}
use Rattle.tx_list.specs.Wrapped.{wrapped}
use Rattle.tx_list.specs.Unwrapped.{numbers_within, numbers_in, wrapped_tx, wrapped_places, are_small, small_numbers, are_places, is_wrapper}
use Rattle.tx_list.proofs.UnwrapLemmas.{numbers_none}

-- ---- one number

-- a varint has a byte
some_front : (front : List ℕ) → is_marked front ≡ true → 1 ≤ length front
some_front [] h = absurd (true≢false (sym h ∙ marked-none))
some_front (byte ∷ front) h = omega arith

-- what follows it is shorter
pub number_shorter : (bytes rest : List ℕ) (n : ℕ) → number_at bytes ≡ Some (n, rest) → length rest < length bytes
number_shorter bytes rest n e =
    let b = number_back bytes rest n e in omega (arith, ap length b.1, length-append b.0 rest, some_front b.0 b.2.marked)

-- ---- all numbers

-- what is read of the rest is alike
numbers_by : (more other : ℕ) (o : Option (ℕ × List ℕ)) → ((n : ℕ) (rest : List ℕ) → o ≡ Some (n, rest) → numbers_within more rest ≡ numbers_within other rest)
    → option_map_or (λ read. read.0 ∷ numbers_within more read.1) o [] ≡ option_map_or (λ read. read.0 ∷ numbers_within other read.1) o []
numbers_by more other None same = refl
numbers_by more other (Some read) same = ap (λ (l : List ℕ). read.0 ∷ l) (same read.0 read.1 refl)

-- no matter how many may be read, where all may
numbers_same : (more other : ℕ) (bytes : List ℕ) → length bytes ≤ more → length bytes ≤ other → numbers_within more bytes ≡ numbers_within other bytes
unfolding numbers_within
numbers_same zero other bytes h k =
    let none : bytes ≡ [] = nil_from_length bytes (omega (arith, h)) in ap (numbers_within zero) none ∙ sym (ap (numbers_within other) none ∙ numbers_none other)
numbers_same (suc more) zero bytes h k =
    let none : bytes ≡ [] = nil_from_length bytes (omega (arith, k)) in ap (numbers_within (suc more)) none ∙ numbers_none (suc more) ∙ sym (ap (numbers_within zero) none)
numbers_same (suc more) (suc other) bytes h k =
    numbers_by more other (number_at bytes)
    (λ n rest e. numbers_same more other rest (omega (arith, number_shorter bytes rest n e, h)) (omega (arith, number_shorter bytes rest n e, k)))

numbers_once : (bytes : List ℕ) → numbers_in bytes ≡ option_map_or (λ read. read.0 ∷ numbers_within (length bytes) read.1) (number_at bytes) []
unfolding numbers_within
numbers_once bytes = numbers_same (length bytes) (suc (length bytes)) bytes (omega arith) (omega arith)

-- the next number, and those that follow
pub numbers_next : (bytes rest : List ℕ) (n : ℕ) → number_at bytes ≡ Some (n, rest) → numbers_in bytes ≡ n ∷ numbers_in rest
numbers_next bytes rest n e =
    numbers_once bytes
    ∙ ap (λ (o : Option (ℕ × List ℕ)). option_map_or (λ read. read.0 ∷ numbers_within (length bytes) read.1) o []) e
    ∙ ap (λ (l : List ℕ). n ∷ l) (numbers_same (length bytes) (length rest) rest (omega (arith, number_shorter bytes rest n e)) (omega arith))

-- none is left
pub numbers_end : (bytes : List ℕ) → number_at bytes ≡ None → numbers_in bytes ≡ []
numbers_end bytes e =
    numbers_once bytes ∙ ap (λ (o : Option (ℕ × List ℕ)). option_map_or (λ read. read.0 ∷ numbers_within (length bytes) read.1) o []) e

-- ---- numbers of 32 bits

small-append : (xs ys : List ℕ) → are_small (xs ++ ys) ≡ (are_small xs && are_small ys)
small-append [] ys = refl
small-append (x ∷ xs) ys = elim (nat_lt x (2 ^ 32)) as (λ b. (b && are_small (xs ++ ys)) ≡ ((b && are_small xs) && are_small ys)) [
  | true ↦ small-append xs ys
  | false ↦ refl
]

is_small : (n : ℕ) → n < 2 ^ 32 → nat_lt n (2 ^ 32) ≡ true
is_small n h = grind (arith, nat_tests)

is_great : (n : ℕ) → 2 ^ 32 ≤ n → nat_lt n (2 ^ 32) ≡ false
is_great n h = grind (arith, nat_tests)

-- one more
pub small_more : (new places : List ℕ) (n : ℕ) → new ≡ places ++ n ∷ [] → are_small places ≡ true → n < 2 ^ 32 → are_small new ≡ true
small_more new places n is small lt =
    ap are_small is ∙ small-append places (n ∷ []) ∙ ap₂ (λ (a b : Bool). a && (b && true)) small (is_small n lt)

last_false : (a : Bool) → (a && false) ≡ false
last_false true = refl
last_false false = refl

-- one that hasn't
pub too_great : (all places others : List ℕ) (n : ℕ) → all ≡ places ++ n ∷ others → 2 ^ 32 ≤ n → small_numbers all ≡ None
too_great all places others n is h =
    let no : are_small all ≡ false =
    ap are_small is ∙ small-append places (n ∷ others) ∙ ap (λ (b : Bool). are_small places && (b && are_small others)) (is_great n h)
    ∙ last_false (are_small places) in
    ap (λ (b : Bool). cond b (Some all) None) no

-- all have
pub all_are_small : (all places : List ℕ) → all ≡ places → are_small places ≡ true → small_numbers all ≡ Some places
all_are_small all places is small = ap small_numbers is ∙ ap (λ (b : Bool). cond b (Some places) None) small

-- ---- what isn't fields

none_in : (o : Option (List FieldParts)) → is_some o ≡ false → option_map_or (λ fields. fields) o [] ≡ []
none_in None h = refl
none_in (Some fields) h = absurd (true≢false h)

no_bytes : last_bytes 2 [] ≡ []
unfolding last_of
no_bytes = refl

-- bytes that aren't fields are no wrapped payment
pub no_wrapper : (unit : List ℕ) → are_fields unit ≡ false → is_wrapper unit ≡ false
no_wrapper unit h =
    let none : wrapped_places unit ≡ [] = ap (λ (fields : List FieldParts). numbers_in (last_bytes 2 fields)) (none_in (fields_of unit) h) ∙ ap numbers_in no_bytes ∙ numbers_none 0 in
    ap (λ (places : List ℕ). are_places places && bytes_eq (wrapped (wrapped_tx unit) (wrapped_places unit)) unit) none
