-- The payload of a collision (docs/FORMATS.md, "Payloads").
use Rattle.std.specs.Prelude.{◌≤◌, ℕ, List, length, Option, Some, None, if◌then◌else◌, not, ◌==◌, ◌||◌, ◌&&◌, Bool, ◌++◌}
use Rattle.std.specs.Int.{w16}
use Rattle.std.specs.Str.{bytes_eq}
use Rattle.sha2.specs.Sha256.{sha256}
use Rattle.nmt_proofs.specs.Clashes.{IsClash}
use Rattle.hash_clash.specs.Preimages.{longest}
use Rattle.hash_clash.specs.Collisions.{Strings}
use Rattle.frame_fields.specs.Fields.{◌>>=◌, text_at}
use Rattle.frame_payloads.specs.codec.Texts.{text_bytes}

-- two strings of up to 542 bytes that are a collision
pub record AreStrings (clash : Strings) : Type 0 where
  pub is_clash : IsClash clash.left clash.right
  pub left_few : length clash.left ≤ longest
  pub right_few : length clash.right ≤ longest

-- whether one of the strings is empty; no tree hashes it
abbrev pub has_empty : Strings → Bool
has_empty clash = (length clash.left == 0) || (length clash.right == 0)

-- ---- what is written

-- both strings, each behind its length in two bytes
abbrev pub clash_payload : Strings → List ℕ
clash_payload clash = text_bytes w16 clash.left ++ text_bytes w16 clash.right

-- ---- what is read

-- a string of at least one byte behind its length
unfoldable pub side_at : List ℕ → Option (List ℕ × List ℕ)
side_at bytes = do
  text ← text_at w16 longest bytes
  if length text.0 == 0 then None else Some text

-- whether two strings differ and have one SHA-256 digest
abbrev pub is_collision : List ℕ → List ℕ → Bool
is_collision left right = not (bytes_eq left right) && bytes_eq (sha256 left) (sha256 right)

-- two strings that are a collision and all of the bytes
unfoldable pub clash_at : List ℕ → Option Strings
clash_at bytes = do
  left ← side_at bytes
  right ← side_at left.1
  if (length right.1 == 0) && is_collision left.0 right.0
      then Some (record { left = left.0; right = right.0 })
      else None
