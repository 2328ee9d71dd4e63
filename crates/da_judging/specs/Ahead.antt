-- Digests of leaves that are known ahead of the frames whose samples show them.
use Rattle.std.specs.Prelude.{◌≡◌, ℕ, List, [], ◌∷◌, Option, Some, IfSome}
use Rattle.namespace_id.specs.declared.digests.Digest.{Digest}
use Rattle.axis_roots.specs.declared.message.messages.Message as sent
use Rattle.axis_roots.specs.Messages.{shown_leaf}
use Rattle.da_wire.specs.Reading.{Raw}
use Rattle.da_wire.specs.Frames.{raw_message}

-- a digest is that of the leaf which a frame shows in a square of width k, if it is a sample
abbrev pub IsLeafDigestOf : ℕ → Digest → Raw → Type 0
IsLeafDigestOf k digest frame =
    (m : sent.Message) → raw_message frame ≡ Some m → digest ≡ shown_leaf k m.cell m.share

-- digests are those of the leaves which the first frames show, in their order
unfoldable pub AreAhead : ℕ → List Digest → List Raw → Type 0
AreAhead k [] frames = Unit {0}
AreAhead k (digest ∷ digests) [] = Unit {0}
AreAhead k (digest ∷ digests) (frame ∷ frames) = IsLeafDigestOf k digest frame × AreAhead k digests frames

-- a digest, if there is one, is that of the leaf which the first frame shows, and others are those of the frames behind it
abbrev pub IsNextAhead : ℕ → Option Digest → List Digest → List Raw → Type 0
IsNextAhead k leaf digests frames = (frame : Raw) (after : List Raw) → frames ≡ frame ∷ after
    → IfSome leaf (λ digest. IsLeafDigestOf k digest frame) × AreAhead k digests after
