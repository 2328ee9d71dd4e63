-- The samples and the lies among frames, with one frame more.
use Rattle.std.proofs.Common.{◌≡◌, ◌∙◌, ℕ, suc, ◌+◌, ◌≤◌, Bool, true, false, cond, List, [], ◌∷◌, ◌++◌, length, Some, None, refl, ap, arith}
use Rattle.std.specs.declared.option.Option.{Option}
use Rattle.std.specs.Option.{option_map_or}
use Rattle.data_header.specs.Headers.{Roots}
use Rattle.axis_roots.specs.declared.message.messages.Message.{Message}
use Rattle.da_wire.specs.Reading.{Raw}
use Rattle.da_wire.specs.Frames.{raw_message}
use Rattle.da_judging.specs.Check.{finding_of, is_ok}
use Rattle.da_judging.specs.Repair.{messages_in, lies_in}
use Rattle.da_gathering.specs.Fed.{samples_there}

-- ---- samples

-- samples behind one that may be there
onto : (o : Option Message) (later more : List Message) → option_map_or (λ m. m ∷ later ++ more) o (later ++ more) ≡ option_map_or (λ m. m ∷ later) o later ++ more
onto None later more = refl
onto (Some m) later more = refl

-- the sample of one frame
alone : (o : Option Message) → option_map_or (λ m. m ∷ []) o [] ≡ samples_there o
alone None = refl
alone (Some m) = refl

-- the samples with one frame more
pub messages_more : (frames : List Raw) (frame : Raw) → messages_in (frames ++ frame ∷ []) ≡ messages_in frames ++ samples_there (raw_message frame)
unfolding messages_in
messages_more [] frame = alone (raw_message frame)
messages_more (first ∷ frames) frame =
    ap (λ (l : List Message). option_map_or (λ m. m ∷ l) (raw_message first) l) (messages_more frames frame)
    ∙ onto (raw_message first) (messages_in frames) (samples_there (raw_message frame))

-- ---- lies

-- one lie more behind others
more_behind : (ok last : Bool) (n : ℕ) → cond ok (n + cond last 0 1) (suc (n + cond last 0 1)) ≡ cond ok n (suc n) + cond last 0 1
more_behind true last n = refl
more_behind false last n = omega arith

-- the lies of one frame
alone_lies : (ok : Bool) → cond ok 0 1 ≡ 0 + cond ok 0 1
alone_lies true = refl
alone_lies false = refl

-- the lies with one frame more
pub lies_more : (header : Roots) (frames : List Raw) (frame : Raw)
    → lies_in header (frames ++ frame ∷ []) ≡ lies_in header frames + cond (is_ok (finding_of header frame)) 0 1
unfolding lies_in
lies_more header [] frame = alone_lies (is_ok (finding_of header frame))
lies_more header (first ∷ frames) frame =
    ap (λ (n : ℕ). cond (is_ok (finding_of header first)) n (suc n)) (lies_more header frames frame)
    ∙ more_behind (is_ok (finding_of header first)) (is_ok (finding_of header frame)) (lies_in header frames)

-- no more lies than frames
lies_step : (ok : Bool) (lies n : ℕ) → lies ≤ n → cond ok lies (suc lies) ≤ suc n
lies_step true lies n few = omega (arith, few)
lies_step false lies n few = omega (arith, few)

pub lies_few : (header : Roots) (frames : List Raw) → lies_in header frames ≤ length frames
unfolding lies_in
lies_few header [] = omega arith
lies_few header (frame ∷ later) = lies_step (is_ok (finding_of header frame)) (lies_in header later) (length later) (lies_few header later)
