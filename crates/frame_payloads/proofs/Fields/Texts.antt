-- A byte string behind its length that is read is the one that was written, and one that was written is
-- read.
use Rattle.std.proofs.Common.{◌≡◌, ℕ, ◌^◌, ◌<◌, ◌≤◌, List, ◌++◌, length, Option, Some, refl, sym, subst, append_assoc}
use Rattle.std.specs.Int.{Width, to_be_bytes}
use Rattle.namespace_id.specs.Bytes.{AreBytes}
use Rattle.frame_fields.specs.Fields.{count_at, text_at}
use Rattle.frame_payloads.specs.codec.Texts.{text_bytes}
use Rattle.frame_payloads.proofs.Fields.Readers.{bind_some, Takes, Takes-then}
use Rattle.frame_payloads.proofs.Fields.Numbers.{IsWide, count_takes, count_again}
use Rattle.frame_payloads.proofs.Fields.Strings.{string_takes, string_again}

-- what a reader takes is what its value is written as, and a value that is written is read
pub record IsField {A : Type 0} (read : List ℕ → Option (A × List ℕ)) (text : A → List ℕ) (Is : A → Type 0) : Type 0 where
  pub takes : (bytes : List ℕ) (x : A) (rest : List ℕ) → AreBytes bytes → read bytes ≡ Some (x, rest) → Takes bytes (text x) rest × Is x
  pub again : (x : A) (rest : List ℕ) → Is x → length (text x) < 2 ^ 32 → read (text x ++ rest) ≡ Some (x, rest)
  pub some : (x : A) → 0 < length (text x)

-- ---- a byte string behind its length

-- a byte string that is read stands behind its length, which is within the limit
pub text_takes : (w : Width) (bound : ℕ) (wide : IsWide w bound) (limit : ℕ) (bytes text rest : List ℕ) → AreBytes bytes → text_at w limit bytes ≡ Some (text, rest)
    → Takes bytes (text_bytes w text) rest × AreBytes text × (length text ≤ limit)
unfolding text_at
text_takes w bound wide limit bytes text rest fits e =
    let a = bind_some (count_at w limit bytes) _ (text, rest) e in
    let t = count_takes w bound wide limit bytes a.0.0 a.0.1 fits a.1 in
    let u = string_takes a.0.0 a.0.1 text rest t.0.rest_fits a.2 in
    let both = Takes-then bytes (to_be_bytes w a.0.0) a.0.1 text rest t.0 u.0 in
    (subst (λ (n : ℕ). Takes bytes (to_be_bytes w n ++ text) rest) (sym u.1.size_is) both, u.1.fits, subst (λ (n : ℕ). n ≤ limit) (sym u.1.size_is) t.1)

-- a byte string behind its length is read, where the length fits its width and its limit
pub text_again : (w : Width) (bound : ℕ) (wide : IsWide w bound) (limit : ℕ) (text rest : List ℕ) → length text < bound → length text ≤ limit
    → text_at w limit (text_bytes w text ++ rest) ≡ Some (text, rest)
unfolding text_at
text_again w bound wide limit text rest lt few =
    rw (append_assoc (to_be_bytes w (length text)) text rest, count_again w bound wide limit (length text) (text ++ rest) lt few) (string_again (length text) text rest refl)
