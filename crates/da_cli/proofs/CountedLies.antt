-- The lies that a repair counts are the frames that aren't proved.
use Rattle.std.proofs.Common.{◌≡◌, ◌∙◌, ℕ, suc, ◌+◌, Bool, true, false, cond, List, [], ◌∷◌, length, Result, Ok, refl, ap, subst, arith}
use Rattle.std.specs.List.{filter}
use Rattle.data_header.specs.Headers.{Roots}
use Rattle.repair_queue.specs.Verdicts.{VerdictParts, whole, missing, fraud, clash}
use Rattle.da_wire.specs.Reading.{Raw}
use Rattle.da_wire.specs.Frames.{frames_of}
use Rattle.da_status.specs.declared.status.Status.TheVariants.{Missing}
use Rattle.da_files.specs.Frames.{header_in}
use Rattle.da_files.specs.Forms.{Over}
use Rattle.da_judging.specs.Check.{finding_of, is_ok}
use Rattle.da_judging.specs.Repair.{lies_in, answer_status, Repairs, RepairOf}
use Rattle.da_files.specs.Contents.{header_file, messages_file}

-- one frame more, which is proved or a lie
count_one : (ok : Bool) (lies n : ℕ) (frame : Raw) (proved : List Raw) → lies + length proved ≡ n
    → cond ok lies (suc lies) + length (cond ok (frame ∷ proved) proved) ≡ suc n
count_one true lies n frame proved e = omega (arith, e)
count_one false lies n frame proved e = omega (arith, e)

-- of a list of frames each is proved or a lie
each_counted : (header : Roots) (frames : List Raw) → lies_in header frames + length (filter (λ frame. is_ok (finding_of header frame)) frames) ≡ length frames
unfolding lies_in
each_counted header [] = refl
each_counted header (frame ∷ later) =
    count_one (is_ok (finding_of header frame)) (lies_in header later) (length later) frame (filter (λ (raw : Raw). is_ok (finding_of header raw)) later)
    (each_counted header later)

-- a status of missing cells has the count of lies
status_lies : (lies : ℕ) (verdict : VerdictParts) (cells count : ℕ) → Missing cells count ≡ answer_status lies verdict → count ≡ lies
status_lies lies (whole square) cells count e = absurd cc
status_lies lies (missing list) cells count e = cc
status_lies lies (fraud claim) cells count e = absurd cc
status_lies lies (clash left right) cells count e = absurd cc

-- the lies that a repair counts are the frames that aren't proved
pub lies_counted : (files : List (List ℕ)) (header : Roots) (w : List ℕ) (cells lies : ℕ) → header_in (header_file files) ≡ Ok header
    → RepairOf files w (Missing cells lies)
    → lies + length (filter (λ frame. is_ok (finding_of header frame)) (frames_of (messages_file files))) ≡ length (frames_of (messages_file files))
lies_counted files header w cells lies read answers =
    let frames = frames_of (messages_file files) in
    let own = subst (λ (a : Result Roots ℕ). Over a (λ h. Repairs h frames) w (Missing cells lies)) read answers in
    let count : lies ≡ lies_in header frames = status_lies (lies_in header frames) own.0 cells lies own.2.1 in
    ap (λ (n : ℕ). n + length (filter (λ (frame : Raw). is_ok (finding_of header frame)) frames)) count ∙ each_counted header frames
