-- What every reader goes by: steps that did not fail and steps that do not, and what was taken from
-- the front of its bytes.
use Rattle.std.proofs.Common.{◌≡◌, ◌∙◌, ℕ, ◌≤◌, Bool, true, false, cond, ltb, List, ◌++◌, length, take, drop, Option, None, Some, refl, sym, ap, ap₂, subst, arith, append_assoc, append-nil, length-take-le, ltb-false, le-ltb}
use Rattle.std.proofs.lemmas.List.{take_at, drop_at, take-append-drop, length-append, nil_from_length}
use Rattle.std.specs.Option.{option_map}
use Rattle.std.proofs.lemmas.Option.{some_pair_parts, same_Some}
use Rattle.namespace_id.specs.Bytes.{AreBytes, IsString}
use Rattle.namespace_id.proofs.StringLemmas.{AreBytes-take, AreBytes-drop}
pub use Rattle.frame_fields.proofs.StepLemmas.{bind_some, bind_again}

-- ---- steps

-- the value behind a map
pub map_some : {A B : Type 0} (f : A → B) (r : Option A) (y : B) → option_map f r ≡ Some y → (x : A) × (r ≡ Some x) × (f x ≡ y)
map_some f None y e = absurd cc
map_some f (Some x) y e = (x, refl, same_Some (f x) y e)

-- a test that must fail
pub if_false : {A : Type 0} (b : Bool) (r : Option A) (y : A) → cond b None r ≡ Some y → (b ≡ false) × (r ≡ Some y)
if_false true r y e = absurd cc
if_false false r y e = (refl, e)

-- a test that fails lets the reader behind it answer
pub if_false_again : {A : Type 0} (b : Bool) (r : Option A) (y : A) → b ≡ false → r ≡ Some y → cond b None r ≡ Some y
if_false_again true r y h e = absurd cc
if_false_again false r y h e = e

-- a test that must hold
pub if_true : {A : Type 0} (b : Bool) (r : Option A) (y : A) → cond b r None ≡ Some y → (b ≡ true) × (r ≡ Some y)
if_true true r y e = (refl, e)
if_true false r y e = absurd cc

-- a test that holds lets the reader behind it answer
pub if_true_again : {A : Type 0} (b : Bool) (r : Option A) (y : A) → b ≡ true → r ≡ Some y → cond b r None ≡ Some y
if_true_again true r y h e = e
if_true_again false r y h e = absurd cc

-- ---- what was taken

-- what a reader took from the front, and bytes after it
pub record Takes (bytes text rest : List ℕ) : Type 0 where
  pub parts : bytes ≡ text ++ rest
  pub rest_fits : AreBytes rest

-- what two readers take one after the other is taken together
pub Takes-then : (a x b y c : List ℕ) → Takes a x b → Takes b y c → Takes a (x ++ y) c
Takes-then a x b y c p q = record {
  parts = p.parts ∙ ap (λ (t : List ℕ). x ++ t) q.parts ∙ sym (append_assoc x y c);
  rest_fits = q.rest_fits;
}

-- a taken string and the bytes after it may be replaced by equal ones
pub Takes-is : (bytes a b r s : List ℕ) → a ≡ b → r ≡ s → Takes bytes a r → Takes bytes b s
Takes-is bytes a b r s p q t = record {
  parts = t.parts ∙ ap₂ (λ (x y : List ℕ). x ++ y) p q;
  rest_fits = subst (λ (l : List ℕ). AreBytes l) q t.rest_fits;
}

-- what was taken of an answer was taken of an equal one
pub Takes-read : {A : Type 0} (text : A → List ℕ) (Is : A → Type 0) (bytes : List ℕ) (read x : A) (after rest : List ℕ) → ◌≡◌ {A = Option (A × List ℕ)} (Some (read, after)) (Some (x, rest))
    → Is read → Takes bytes (text read) after → Takes bytes (text x) rest × Is x
Takes-read {A} text Is bytes read x after rest e is t =
    let same = some_pair_parts read x after rest e in
    subst (λ (y : A). Takes bytes (text y) rest × Is y) same.0 (Takes-is bytes (text read) (text read) after rest refl same.1 t, is)

-- nothing is left
pub Takes-all : (bytes text rest : List ℕ) → Takes bytes text rest → length rest ≡ 0 → bytes ≡ text
Takes-all bytes text rest t none = t.parts ∙ ap (λ (l : List ℕ). text ++ l) (nil_from_length rest none) ∙ append-nil text

-- bytes are a front of any length and the bytes after it
pub Takes-front : (size : ℕ) (bytes : List ℕ) → AreBytes bytes → Takes bytes (take size bytes) (drop size bytes)
Takes-front size bytes fits = record { parts = sym (take-append-drop size bytes); rest_fits = AreBytes-drop size bytes fits }

-- ---- fields of a known length

-- what a front of this length is, and the bytes after it
abbrev pub front_at : {A : Type 0} → (List ℕ → A) → ℕ → List ℕ → Option (A × List ℕ)
front_at f size bytes = cond (ltb (length bytes) size) None (Some (f (take size bytes), drop size bytes))

-- a field of a known length that is read is that front of the bytes
pub front_takes : {A : Type 0} (f : List ℕ → A) (size : ℕ) (bytes : List ℕ) (value : A) (rest : List ℕ) → AreBytes bytes → front_at f size bytes ≡ Some (value, rest)
    → IsString size (take size bytes) × (f (take size bytes) ≡ value) × Takes bytes (take size bytes) rest
front_takes {A} f size bytes value rest fits e =
    let made : A × List ℕ = (f (take size bytes), drop size bytes) in
    let read : A × List ℕ = (value, rest) in
    let g = if_false (ltb (length bytes) size) (Some made) read e in
    let same = some_pair_parts (f (take size bytes)) value (drop size bytes) rest g.1 in
    let long : size ≤ length bytes = ltb-false _ _ g.0 in (
      record { size_is = length-take-le size bytes long; fits = AreBytes-take size bytes fits },
      same.0,
      Takes-is bytes (take size bytes) (take size bytes) (drop size bytes) rest refl same.1 (Takes-front size bytes fits),
    )

-- a field of a known length that was written is read, whatever follows it
pub front_again : {A : Type 0} (f : List ℕ → A) (size : ℕ) (text rest : List ℕ) → length text ≡ size → front_at f size (text ++ rest) ≡ Some (f text, rest)
front_again f size text rest len =
    let long : ltb (length (text ++ rest)) size ≡ false = le-ltb _ _ (omega (arith, length-append text rest)) in
    rw (long, take_at text rest size len, drop_at text rest size len) refl
