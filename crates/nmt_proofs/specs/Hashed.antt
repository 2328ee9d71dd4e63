-- The strings that are hashed for a part, each with its interval.
use Rattle.std.specs.Prelude.{ℕ, zero, suc, ◌+◌, ◌^◌, ◌==◌, ◌&&◌, List, [], ◌∷◌, ◌++◌, Bool, Option, Some, None, if◌then◌else◌}
use Rattle.std.specs.Option.{option_map_or}
use Rattle.nmt_proofs.specs.Parts.{Part, given, leaf, join, digest_of}
use Rattle.nmt_proofs.specs.Clashes.{leaf_text, join_text, apart_or}

-- a string, and the interval that it is hashed for: where this begins, and its depth
pub record Text : Type 0 where
  pub start : ℕ
  pub depth : ℕ
  pub text : List ℕ

-- the strings of a part of 2 ^ depth places from `start` on: its root's first, then those of its
-- left half, then those of its right half; a given digest has none
unfoldable pub hashed : ℕ → ℕ → Part → List Text
hashed zero start (given digest) = []
hashed zero start (leaf name share) =
    record { start = start; depth = 0; text = leaf_text name share } ∷ []
hashed zero start (join left right) = []
hashed (suc depth) start (given digest) = []
hashed (suc depth) start (leaf name share) = []
hashed (suc depth) start (join left right) =
    record { start = start; depth = suc depth; text = join_text (digest_of left) (digest_of right) }
    ∷ hashed depth start left ++ hashed depth (start + 2 ^ depth) right

-- whether two strings are hashed for one interval
unfoldable pub is_one_interval : Text → Text → Bool
is_one_interval s t = (s.start == t.start) && (s.depth == t.depth)

-- the string of a list that is hashed for the same interval, if there is one
unfoldable pub text_for : Text → List Text → Option (List ℕ)
text_for s [] = None
text_for s (t ∷ texts) = if is_one_interval s t then Some t.text else text_for s texts

-- the first string of a list that differs from the other list's string for the same interval, and
-- that one; an interval for which the other list has none is passed over
unfoldable pub first_apart : List Text → List Text → Option (List ℕ × List ℕ)
first_apart [] others = None
first_apart (s ∷ texts) others =
    option_map_or (λ text. apart_or s.text text (first_apart texts others)) (text_for s others)
    (first_apart texts others)
