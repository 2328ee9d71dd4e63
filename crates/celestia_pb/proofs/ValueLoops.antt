-- A loop that reads values, one after another: those that were read and those of the rest are all.
use Rattle.std.proofs.Common.{◌≡◌, ◌∙◌, ℕ, suc, ◌+◌, ◌-◌, ◌*◌, ◌<◌, ◌≤◌, List, [], ◌∷◌, ◌++◌, length, drop, Result, Ok, Err, refl, sym, ap, arith, append_assoc, append-nil}
use Rattle.namespace_id.specs.Bytes.{AreBytes}
use Rattle.celestia_pb.specs.EntryLists.{entries}
use Rattle.celestia_pb.proofs.EntryListLemmas.{size_more, drop_more, entries-more, entries-none}

-- values before those that follow them
abbrev pub with_values : {A : Type 0} → List A → Result (List A × List ℕ) ℕ → Result (List A × List ℕ) ℕ
with_values values (Ok x) = Ok (values ++ x.0, x.1)
with_values values (Err left) = Err left

-- no values before others
with_values-none : {A : Type 0} (r : Result (List A × List ℕ) ℕ) → r ≡ with_values [] r
with_values-none (Ok x) = refl
with_values-none (Err left) = refl

-- one more before others
with_values-more : {A : Type 0} (values : List A) (value : A) (r : Result (List A × List ℕ) ℕ)
    → with_values values (with_values (value ∷ []) r) ≡ with_values (values ++ value ∷ []) r
with_values-more {A} values value (Ok x) = ap (λ (l : List A). Ok (l, x.1)) (sym (append_assoc values (value ∷ []) x.0))
with_values-more values value (Err left) = refl

-- what is read as at most so many values is what was read as so many, and what the rest is read as
abbrev pub IsReading : {A : Type 0} → (ℕ → List ℕ → Result (List A × List ℕ) ℕ) → ℕ → List ℕ → List A → ℕ → List ℕ → Type 0
IsReading values_at most bytes values count rest = values_at most bytes ≡ with_values values (values_at (most - count) rest)

-- at first all is left
pub reading_begins : {A : Type 0} (values_at : ℕ → List ℕ → Result (List A × List ℕ) ℕ) (most : ℕ) (bytes : List ℕ) (values : List A) → values ≡ []
    → IsReading values_at most bytes values 0 bytes
reading_begins {A} values_at most bytes values none =
    with_values-none (values_at most bytes)
    ∙ ap (λ (l : List A). with_values l (values_at most bytes)) (sym none)
    ∙ ap (λ (k : ℕ). with_values values (values_at k bytes)) (omega arith)

module _ {A : Type 0} (values_at : ℕ → List ℕ → Result (List A × List ℕ) ℕ) (most : ℕ) (bytes : List ℕ) (values : List A) (count : ℕ) (rest : List ℕ)
    (all : IsReading values_at most bytes values count rest) where
  -- none is there
  pub reading_stops : values_at (most - count) rest ≡ Ok ([], rest) → values_at most bytes ≡ Ok (values, rest)
  reading_stops none = all ∙ ap (with_values values) none ∙ ap (λ (l : List A). Ok (l, rest)) (append-nil values)

  -- no more may be there
  pub reading_ends : most ≤ count → values_at 0 rest ≡ Ok ([], rest) → values_at most bytes ≡ Ok (values, rest)
  reading_ends full none =
      let e : most - count ≡ 0 = omega arith in
      reading_stops (ap (λ (k : ℕ). values_at k rest) e ∙ none)

  -- what is left, where one more may be read
  left_more : count < most → values_at (most - count) rest ≡ values_at (suc (most - (count + 1))) rest
  left_more more = let e : most - count ≡ suc (most - (count + 1)) = omega arith in ap (λ (k : ℕ). values_at k rest) e

  -- what is there is wrong
  pub reading_refuses : count < most → (left : ℕ) → values_at (suc (most - (count + 1))) rest ≡ Err left → values_at most bytes ≡ Err left
  reading_refuses more left wrong = all ∙ ap (with_values values) (left_more more ∙ wrong)

  -- one is there
  pub reading_goes : count < most → (value : A) (after : List ℕ)
      → values_at (suc (most - (count + 1))) rest ≡ with_values (value ∷ []) (values_at (most - (count + 1)) after)
      → (new : List A) → new ≡ values ++ value ∷ [] → IsReading values_at most bytes new (count + 1) after
  reading_goes more value after one new is =
      all
      ∙ ap (with_values values) (left_more more ∙ one)
      ∙ with_values-more values value (values_at (most - (count + 1)) after)
      ∙ ap (λ (l : List A). with_values l (values_at (most - (count + 1)) after)) (sym is)

-- ---- values of one size

-- so many of these bytes were counted, and the rest is left
pub record IsCounting {A : Type 0} (value_of : List ℕ → A) (each : ℕ) (values_at : ℕ → List ℕ → Result (List A × List ℕ) ℕ) (most : ℕ) (bytes : List ℕ)
    (count : ℕ) (rest : List ℕ) : Type 0 where
  pub all : IsReading values_at most bytes (entries value_of each count bytes) count rest
  pub behind : rest ≡ drop (each * count) bytes
  pub size : each * count + length rest ≡ length bytes
  pub few : count ≤ most
  pub fits : AreBytes rest

-- at first all is left
pub counting_begins : {A : Type 0} (value_of : List ℕ → A) (each : ℕ) (values_at : ℕ → List ℕ → Result (List A × List ℕ) ℕ) (most : ℕ) (bytes : List ℕ)
    → AreBytes bytes → IsCounting value_of each values_at most bytes 0 bytes
counting_begins value_of each values_at most bytes fits =
    let none : each * 0 ≡ 0 = search arith in
    record {
      all = reading_begins values_at most bytes (entries value_of each 0 bytes) (entries-none value_of each bytes);
      behind = ap (λ (k : ℕ). drop k bytes) (sym none);
      size = omega (arith, none);
      few = omega arith;
      fits = fits;
    }

-- one is there
pub counting_goes : {A : Type 0} (value_of : List ℕ → A) (each : ℕ) (values_at : ℕ → List ℕ → Result (List A × List ℕ) ℕ) (most : ℕ) (bytes : List ℕ)
    (count : ℕ) (rest : List ℕ) → IsCounting value_of each values_at most bytes count rest → count < most → (value : A) (after : List ℕ)
    → values_at (suc (most - (count + 1))) rest ≡ with_values (value ∷ []) (values_at (most - (count + 1)) after)
    → value_of rest ≡ value → drop each rest ≡ after → length rest ≡ each + length after → AreBytes after
    → IsCounting value_of each values_at most bytes (count + 1) after
counting_goes {A} value_of each values_at most bytes count rest at more value after one is behind size fits =
    let counted : List A = entries value_of each count bytes in
    record {
      all = reading_goes values_at most bytes counted count rest at.all more value after one (entries value_of each (count + 1) bytes)
          (entries-more value_of each count bytes ∙ ap (λ (x : A). counted ++ x ∷ []) (ap value_of (sym at.behind) ∙ is));
      behind = sym behind ∙ ap (drop each) at.behind ∙ drop_more each count bytes;
      size = omega (arith, at.size, size, size_more each count);
      few = omega arith;
      fits = fits;
    }
