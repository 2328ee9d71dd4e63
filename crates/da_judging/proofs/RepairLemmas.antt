-- What the command repair answers.
use Rattle.std.proofs.Common.{◌≡◌, ◌≢◌, ◌∙◌, ℕ, false, List, [], ◌∷◌, Some, None, refl, ap, subst, inl, inr, ⊎_elim, ◌⊎◌}
use Rattle.std.specs.declared.option.Option.{Option}
use Rattle.std.specs.Prelude.{◌==◌}
use Rattle.std.specs.Option.{option_map_or}
use Rattle.std.specs.List.{AllByRecursion}
use Rattle.namespace_id.specs.Bytes.{AreBytes}
use Rattle.namespace_id.specs.Cells.{CellList}
use Rattle.data_header.specs.Headers.{Roots}
use Rattle.square_layout.specs.Blocks.{SquareShares}
use Rattle.axis_roots.specs.declared.message.messages.Message as sent
use Rattle.axis_roots.specs.Messages.{IsMessage}
use Rattle.axis_roots.specs.Grids.{IsHeaderOf}
use Rattle.repair_queue.specs.declared.verdict.Verdict.{Verdict}
use Rattle.repair_queue.specs.Closures.{Covers}
use Rattle.repair_queue.specs.Verdicts.{VerdictParts, whole, missing, fraud, clash, IsVerdict, IsOwnVerdict}
use Rattle.repair_queue.specs.Answers.{verdict_parts, SomeNames}
use Rattle.frame_payloads.specs.kinds.Clash.{has_empty}
use Rattle.da_wire.specs.Reading.{Raw}
use Rattle.da_wire.specs.Spelling.{message_kind}
use Rattle.da_wire.specs.Frames.{frames_of, raw_message}
use Rattle.frame_fields.specs.Messages.{message_at}
use Rattle.da_wire.specs.Laws.{MessageIsSpelled}
use Rattle.da_status.specs.declared.status.Status.{Status}
use Rattle.da_status.specs.Statuses.{status_kind, output}
use Rattle.da_files.specs.Frames.{header_in}
use Rattle.da_judging.specs.Repair.{messages_in, lies_in, answer_status, GivesVerdict, Repairs, RepairsOwn, RepairOf}
use Rattle.da_files.specs.Contents.{header_file, messages_file}
use Rattle.da_files.proofs.FormLemmas.{over_each}
use Rattle.da_judging.proofs.CheckLemmas.{in_grammar}
use Rattle.da_judging.proofs.ClashLemmas.{found_full}

-- a sample in front of samples, where one is there
messages_on : (o : Option sent.Message) (later : List sent.Message) → ((m : sent.Message) → o ≡ Some m → IsMessage m) → AllByRecursion IsMessage later
    → AllByRecursion IsMessage (option_map_or (λ m. m ∷ later) o later)
messages_on None later is all = all
messages_on (Some m) later is all = (is m refl, all)

-- the samples among frames of bytes have the sizes of their type, by what is known of samples that were read
pub messages_fit : MessageIsSpelled → (frames : List Raw) → AllByRecursion (λ (raw : Raw). AreBytes raw.payload) frames
    → AllByRecursion IsMessage (messages_in frames)
unfolding messages_in
messages_fit spelled [] fits = tt
messages_fit spelled (frame ∷ later) fits =
    messages_on (raw_message frame) (messages_in later)
    (λ m e. (spelled frame.payload m fits.0 (in_grammar (frame.kind == message_kind) (message_at frame.payload) m e)).0)
    (messages_fit spelled later fits.1)

-- each answer comes with a complete output
answer_kind : (lies : ℕ) (verdict : VerdictParts) → status_kind (answer_status lies verdict) ≡ output
answer_kind lies (whole square) = refl
answer_kind lies (missing cells) = refl
answer_kind lies (fraud claim) = refl
answer_kind lies (clash left right) = refl

-- what repair answers comes with a complete output
pub repair_last : (files : List (List ℕ)) (w : List ℕ) (status : Status) → RepairOf files w status → status_kind status ≡ output
repair_last files w status r =
    let raws = frames_of (messages_file files) in
    over_each (λ h. Repairs h raws) (header_in (header_file files)) w status (status_kind status ≡ output)
    (λ h repaired. ap status_kind repaired.2.1 ∙ answer_kind (lies_in h raws) repaired.0) r

-- the verdict over the certificates of frames, with its output, is an answer of repair; by what is known of lists with the
-- same proved samples
pub repairs : ((h : Roots) (ms others : List sent.Message) → Covers h ms others → Covers h others ms → (verdict : VerdictParts) → IsVerdict h ms verdict
    → IsVerdict h others verdict)
    → (header : Roots) (raws : List Raw) (ms : List sent.Message) (lies : ℕ) (verdict : Verdict) (parts : VerdictParts) → verdict_parts verdict ≡ parts
    → Covers header ms (messages_in raws) → Covers header (messages_in raws) ms → lies ≡ lies_in header raws → IsVerdict header ms (verdict_parts verdict)
    → (w : List ℕ) (status : Status) → GivesVerdict lies parts w status → Repairs header raws w status
repairs law header raws ms lies verdict parts same only all counted is w status answers =
    let here = law header ms (messages_in raws) only all parts (subst (IsVerdict header ms) same is) in
    (parts, here, (answers.0, answers.1 ∙ ap (λ (n : ℕ). answer_status n parts) counted))

-- no string of the verdict's collision is empty
pub verdict_full : (header : Roots) (ms : List sent.Message) (verdict : Verdict) (left right : List ℕ) → verdict_parts verdict ≡ clash left right
    → IsVerdict header ms (verdict_parts verdict) → has_empty (record { left = left; right = right }) ≡ false
verdict_full header ms verdict left right same is =
    let found = subst (IsVerdict header ms) same is in found_full found.one found.other left right found.found

-- there are cells among the verdict's missing ones
pub verdict_some : (header : Roots) (ms : List sent.Message) (verdict : Verdict) (cells : CellList) → verdict_parts verdict ≡ missing cells
    → IsVerdict header ms (verdict_parts verdict) → cells.list ≢ []
verdict_some header ms verdict cells same is = (subst (IsVerdict header ms) same is).some

-- ---- the header of a square

-- under the header of a square repair answers the square or the missing cells, or a collision is named; by what is
-- known of samples that were read, and of answers
pub repairs_own : MessageIsSpelled
    → ((h : Roots) (square : SquareShares) (ms : List sent.Message) → IsHeaderOf h square → AllByRecursion IsMessage ms → (verdict : VerdictParts)
    → IsVerdict h ms verdict → IsOwnVerdict square verdict ⊎ SomeNames h ms square)
    → (header : Roots) (raws : List Raw) (square : SquareShares) (w : List ℕ) (status : Status) → AllByRecursion (λ (raw : Raw). AreBytes raw.payload) raws
    → IsHeaderOf header square → Repairs header raws w status → RepairsOwn header raws square w status
repairs_own spelled law header raws square w status fits own r =
    ⊎_elim (λ (is : IsOwnVerdict square r.0). inl (r.0, r.1, is, r.2))
    (λ (names : SomeNames header (messages_in raws) square). inr names)
    (law header square (messages_in raws) own (messages_fit spelled raws fits) r.0 r.1)
