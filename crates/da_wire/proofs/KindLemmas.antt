-- A frame that is read behind a test of its kind is of a kind that passes, and so is its value.
use Rattle.std.proofs.Common.{◌≡◌, ◌∙◌, ℕ, Bool, true, eqb, List, [], ◌∷◌, length, Some, Ok, sym, ap, eqb-true}
use Rattle.std.specs.Prelude.{slice_index}
use Rattle.std.proofs.Math.Bool.{or-false}
use Rattle.da_wire.specs.declared.frames.Frame.{Frame}
use Rattle.da_wire.specs.declared.frames.FrameError.TheVariants.{Truncated, BadKind}
use Rattle.da_wire.specs.Reading.{Raw, raw_of, is_kind, value_at, is_among, tested_raw}
use Rattle.da_wire.specs.Writing.{kind_of}
use Rattle.da_wire.proofs.RawLemmas.{raw_first}
use Rattle.da_wire.proofs.FrameLemmas.{tests_held}
use Rattle.da_wire.proofs.kinds.Forms.{value_kind}

-- a frame that is read behind a test of its kind is of a kind that passes
pub tested_kind : (test : ℕ → Bool) (at : ℕ) (bytes : List ℕ) (f : Raw) → tested_raw test at bytes ≡ Ok f → test f.kind ≡ true
unfolding tested_raw
tested_kind test at bytes f e =
    let first : ℕ = slice_index bytes 0 in
    let h = tests_held (eqb (length bytes) 0) (is_kind first) (test first) (Truncated at) (BadKind at) (raw_of at bytes) f e in
    ap test (sym (raw_first at bytes f h.1)) ∙ h.0

-- a frame that is read as one of one kind is of it
pub one_kind : (kind : ℕ) (bytes : List ℕ) (f : Raw) → tested_raw (is_among (kind ∷ [])) 0 bytes ≡ Ok f → f.kind ≡ kind
one_kind kind bytes f e = sym (eqb-true kind f.kind (sym (or-false (eqb kind f.kind)) ∙ tested_kind (is_among (kind ∷ [])) 0 bytes f e))

-- the value of a frame that was read as one of some kinds is of one of them
pub value_among : (kinds bytes : List ℕ) (f : Raw) (value : Frame) → tested_raw (is_among kinds) 0 bytes ≡ Ok f → value_at f.kind f.payload ≡ Some value
    → is_among kinds (kind_of value) ≡ true
value_among kinds bytes f value e read = ap (is_among kinds) (value_kind f.kind f.payload value read) ∙ tested_kind (is_among kinds) 0 bytes f e
