-- What commands that answer requests over a square write, and how they end.
use Rattle.std.proofs.Common.{◌≡◌, ◌∙◌, ℕ, Bool, List, [], ◌∷◌, ◌++◌, None, Some, IsSome, inl, inr, refl, sym, ap, subst, arith, append_assoc, append-nil, ◌↔◌, ◌⊎◌}
use Rattle.std.specs.declared.option.Option.{Option}
use Rattle.std.specs.Prelude.{MatchOption}
use Rattle.std.specs.List.{AllByRecursion}
use Rattle.std.specs.Io.KnownBytes.{Appends}
use Rattle.std.proofs.KnownBytes.{Appends-nil, Appends-trans}
use Rattle.std.proofs.lemmas.List.{length-append}
use Rattle.da_io.specs.Faults.{count_on}
use Rattle.da_io.specs.Sinks.{IsProperPrefix}
use Rattle.data_header.specs.Headers.{Roots}
use Rattle.square_layout.specs.Blocks.{SquareShares}
use Rattle.axis_roots.specs.Grids.{IsHeaderOf, HasNoHeader}
use Rattle.da_wire.specs.declared.frames.Frame.{Frame}
use Rattle.da_wire.specs.Spelling.{spelling}
use Rattle.da_status.specs.declared.status.Status.{Status}
use Rattle.da_status.specs.declared.status.Status.TheVariants.{Done, Usage, PickFault, ReadFault, WriteFault, NoMemory, BadInput, TooLong, BadBlock, BadList, BadRequest, Fraud, Missing, Clash, Refused, Waiting}
use Rattle.da_status.specs.declared.status.Asked.TheVariants.{NoHeader, At}
use Rattle.da_status.specs.Statuses.{status_kind}
use Rattle.da_serving.specs.Choices.{FramesOf, HasFrame}
use Rattle.da_status.specs.Outcome.{Relation, Refuses, OutputsFront, Ends}
use Rattle.da_files.specs.Contents.{square_file}
use Rattle.da_files.specs.Forms.{Over}
use Rattle.da_files.specs.Frames.{square_in, Writes}
use Rattle.da_files.specs.Requests.{failing_from}
use Rattle.da_serving.specs.Serving.{requests_file, GivesFrames, Serves}
use Rattle.da_status.proofs.EndLemmas.{IsAnswer, status_answers, ends_in_fault, ends_output, ends_within}
use Rattle.da_files.proofs.FileLemmas.{some_there}
use Rattle.da_files.proofs.FormLemmas.{over_each}
use Rattle.da_files.proofs.SpelledLemmas.{spelling_some}
use Rattle.da_io.proofs.PieceLemmas.{part_of_front, part_of_back}
use Rattle.da_serving.proofs.ChoiceLemmas.{frames_more, frames_front}

-- ---- proper prefixes

-- of one frame nothing was taken, or a proper prefix of its spelling
proper_part : (frame : Frame) (text taken : List ℕ) → spelling frame ≡ Some text
    → (taken ≡ []) ⊎ ((w : List ℕ) × (status : Status) × Writes frame w status × IsProperPrefix taken w) → IsProperPrefix taken text
proper_part frame text taken spelled (inl none) = (text, spelling_some frame text spelled, ap (λ (l : List ℕ). l ++ text) (sym none))
proper_part frame text taken spelled (inr h) = let same : h.0 ≡ text = cc in subst (IsProperPrefix taken) same h.3

-- it was taken behind a front, and more may follow
proper_on : (front taken text rest : List ℕ) → IsProperPrefix taken text → IsProperPrefix (front ++ taken) (front ++ (text ++ rest))
proper_on front taken text rest p =
    let more = p.0 in
    let split : front ++ (text ++ rest) ≡ (front ++ taken) ++ (more ++ rest) =
    ap (λ (l : List ℕ). front ++ (l ++ rest)) p.2 ∙ ap (λ (l : List ℕ). front ++ l) (append_assoc taken more rest)
    ∙ sym (append_assoc front taken (more ++ rest)) in
    (more ++ rest, omega (arith, p.1, length-append more rest), split)

-- ---- frames one after another

-- how far a walk over requests has come: those in front were answered, each of the rest allows a frame, and no write failed
pub record IsServed {A : Type 0} (Allows : A → Frame → Type 0) (old now : Option (List ℕ)) (before counted : ℕ) (all rest : List A) : Type 0 where
  pub front : List A
  pub w : List ℕ
  pub frames : FramesOf Allows front w
  pub taken : Appends old now w
  pub parts : all ≡ front ++ rest
  pub to_come : AllByRecursion (HasFrame Allows) rest
  pub told : IsSome old ↔ IsSome now
  pub faults : counted ≡ before

-- none was answered
pub served_none : {A : Type 0} (Allows : A → Frame → Type 0) (old : Option (List ℕ)) (before : ℕ) (all : List A) → AllByRecursion (HasFrame Allows) all
    → IsServed Allows old old before before all all
unfolding FramesOf
served_none Allows old before all to_come =
    record { front = []; w = []; frames = refl; taken = Appends-nil old; parts = refl; to_come = to_come; told = (λ x. x, λ x. x); faults = refl }

module _ {A : Type 0} {Allows : A → Frame → Type 0} {old mid : Option (List ℕ)} {before counted : ℕ} {all rest : List A}
    (s : IsServed Allows old mid before counted all rest) where
  -- all were answered
  pub served_all : rest ≡ [] → (Same : Type 0) → Ends (GivesFrames Allows all) old mid before counted Same Done
  served_all none Same =
      let same : s.front ≡ all = sym (append-nil s.front) ∙ ap (λ (l : List A). s.front ++ l) (sym none) ∙ sym s.parts in
      ends_output (GivesFrames Allows all) s.w Done old mid before counted Same refl (subst (λ (l : List A). FramesOf Allows l s.w) same s.frames, refl) s.taken
      s.faults s.told

  module _ {request : A} {later : List A} (next : rest ≡ request ∷ later) where
    -- each of them, and of those behind the next one, allows a frame
    to_come : AllByRecursion (HasFrame Allows) (request ∷ later)
    to_come = subst (AllByRecursion (HasFrame Allows)) next s.to_come

    -- with its frame and one for each later request there is a whole output
    whole : {frame : Frame} → Allows request frame → (text : List ℕ) → spelling frame ≡ Some text → (more : List ℕ) × FramesOf Allows all (s.w ++ (text ++ more))
    whole {frame} allowed text spelled =
        let full = frames_front Allows (s.front ++ request ∷ []) later (s.w ++ text)
        (frames_more Allows s.front request frame text s.w s.frames allowed spelled) to_come.1 in
        let same : (s.front ++ request ∷ []) ++ later ≡ all =
        append_assoc s.front (request ∷ []) later ∙ sym (s.parts ∙ ap (λ (l : List A). s.front ++ l) next) in (
          full.0,
          subst (λ (l : List ℕ). FramesOf Allows all l) (append_assoc s.w text full.0)
              (subst (λ (l : List A). FramesOf Allows l ((s.w ++ text) ++ full.0)) same full.1),
        )

    module _ {frame : Frame} (allowed : Allows request frame) {new : Option (List ℕ)} {now : ℕ} where
      -- the next frame was written
      pub served_on : {SameText : Type 0} → Ends (Writes frame) mid new counted now SameText Done → IsServed Allows old new before now all later
      served_on ends =
          let wrote = ends.leaves in
          record {
            front = s.front ++ request ∷ [];
            w = s.w ++ wrote.0;
            frames = frames_more Allows s.front request frame wrote.0 s.w s.frames allowed wrote.1.0;
            taken = Appends-trans old mid new s.w wrote.0 s.taken wrote.2;
            parts = s.parts ∙ ap (λ (l : List A). s.front ++ l) next ∙ sym (append_assoc s.front (request ∷ []) later);
            to_come = to_come.1;
            told = (λ x. ends.told.0 (s.told.0 x), λ x. s.told.1 (ends.told.1 x));
            faults = ends.faults ∙ s.faults;
          }

      -- memory ran out at it
      stopped_memory : (text : List ℕ) → spelling frame ≡ Some text → OutputsFront (Writes frame) mid new → now ≡ counted → (IsSome mid ↔ IsSome new)
          → (Same : Type 0) → Ends (GivesFrames Allows all) old new before now Same NoMemory
      stopped_memory text spelled h same told Same =
          let full = whole allowed text spelled in
          let proper = proper_on s.w h.0 text full.0 (proper_part frame text h.0 spelled h.2) in
          record {
            leaves = (s.w ++ h.0, Appends-trans old mid new s.w h.0 s.taken h.1, inr (s.w ++ (text ++ full.0), Done, (full.1, refl), proper));
            faults = same ∙ s.faults;
            told = (λ x. told.0 (s.told.0 x), λ x. s.told.1 (told.1 x));
            untouched = tt;
            own = tt;
          }

      -- it was not written whole
      pub served_stopped : IsSome (spelling frame) → {SameText : Type 0} (Same : Type 0) (status : Status) → (status ≡ Done → ⊥)
          → Ends (Writes frame) mid new counted now SameText status → Ends (GivesFrames Allows all) old new before now Same status
      served_stopped spelled Same Done failed ends = absurd (failed refl)
      served_stopped spelled Same Usage failed ends = absurd ends.own
      served_stopped spelled Same (PickFault i) failed ends = absurd ends.own
      served_stopped spelled Same (ReadFault i) failed ends = absurd ends.own
      served_stopped spelled Same (TooLong i) failed ends = absurd ends.own
      served_stopped spelled Same (BadInput i at) failed ends = absurd (failed ends.leaves.1.1)
      served_stopped spelled Same (BadBlock why) failed ends = absurd (failed ends.leaves.1.1)
      served_stopped spelled Same (BadList why) failed ends = absurd (failed ends.leaves.1.1)
      served_stopped spelled Same (BadRequest why) failed ends = absurd (failed ends.leaves.1.1)
      served_stopped spelled Same (Fraud axis i) failed ends = absurd (failed ends.leaves.1.1)
      served_stopped spelled Same (Missing cells lies) failed ends = absurd (failed ends.leaves.1.1)
      served_stopped spelled Same Clash failed ends = absurd (failed ends.leaves.1.1)
      served_stopped spelled Same Refused failed ends = absurd (failed ends.leaves.1.1)
      served_stopped spelled Same (Waiting cells) failed ends = absurd (failed ends.leaves.1.1)
      served_stopped spelled Same WriteFault failed ends =
          let h = ends.leaves in
          let full = whole allowed h.0 h.2.0 in
          ends_in_fault (GivesFrames Allows all) (s.w ++ (h.0 ++ full.0)) Done old new before now Same (full.1, refl)
          (part_of_back old mid new s.w (h.0 ++ full.0) s.taken (part_of_front mid new h.0 full.0 h.3))
          (ends.faults ∙ ap (λ (n : ℕ). count_on n 1) s.faults) (λ x. ends.told.0 (s.told.0 x), λ x. s.told.1 (ends.told.1 x))
      served_stopped spelled Same NoMemory failed ends =
          let text = some_there (spelling frame) spelled in stopped_memory text.0 text.1 ends.leaves ends.faults ends.told Same

    -- memory ran out before the next frame was made
    pub served_memory : (Same : Type 0) → Ends (GivesFrames Allows all) old mid before counted Same NoMemory
    served_memory Same =
        let first = to_come.0 in
        let text = some_there (spelling first.0) first.2 in
        stopped_memory first.1 text.0 text.1 ([], Appends-nil mid, inl refl) refl (λ x. x, λ x. x) Same

-- ---- what is answered over a square

module _ {A : Type 0} (square : SquareShares) (test : A → Bool) (Allows : Roots → A → Frame → Type 0) (requests : List A) where
  -- what is answered, by the first request that fails the test
  abbrev answers_by : Option ℕ → Roots → Relation
  answers_by o header w status = MatchOption o (GivesFrames (Allows header) requests w status) (λ i. Refuses (BadRequest (At i)) w status)

  -- frames for all requests under the header of the square
  pub serves_gives : (header : Roots) → IsHeaderOf header square → failing_from test 0 requests ≡ None → (w : List ℕ) (status : Status)
      → GivesFrames (Allows header) requests w status → Serves square test Allows requests w status
  serves_gives header own none w status gives = inl (header, own, subst (λ (o : Option ℕ). answers_by o header w status) (sym none) gives)

  -- so it ends by what is answered over the square
  pub serves_ends : {header : Roots} → IsHeaderOf header square → failing_from test 0 requests ≡ None → {old new : Option (List ℕ)} {before now : ℕ} {Same : Type 0}
      {status : Status} → Ends (GivesFrames (Allows header) requests) old new before now Same status → Ends (Serves square test Allows requests) old new before now Same status
  serves_ends {header} own none ends =
      ends_within (GivesFrames (Allows header) requests) (Serves square test Allows requests) _ _ _ _ _ _ (serves_gives header own none) ends

  -- the first request that fails the test
  pub serves_at : (header : Roots) (i : ℕ) → IsHeaderOf header square → failing_from test 0 requests ≡ Some i → Serves square test Allows requests [] (BadRequest (At i))
  serves_at header i own some =
      inl (header, own, subst (λ (o : Option ℕ). answers_by o header [] (BadRequest (At i))) (sym some) (refl, refl))

  -- a square without a header
  pub serves_none : HasNoHeader square → Serves square test Allows requests [] (BadRequest NoHeader)
  serves_none none = inr (none, (refl, refl))

  -- what is answered under a header is an answer
  under_header : (o : Option ℕ) (header : Roots) (w : List ℕ) (status : Status) → answers_by o header w status → IsAnswer (status_kind status)
  under_header None header w status h = status_answers status _ h.1 tt
  under_header (Some i) header w status h = status_answers status _ h.1 tt

  -- what is answered over a square is an answer
  pub serves_answers : (w : List ℕ) (status : Status) → Serves square test Allows requests w status → IsAnswer (status_kind status)
  serves_answers w status (inl h) = under_header (failing_from test 0 requests) h.0 w status h.2
  serves_answers w status (inr h) = status_answers status _ h.1.1 tt

-- what a command answers to a SQUARE and REQUESTS is an answer
pub over_answers : {A : Type 0} (test : SquareShares → A → Bool) (Allows : SquareShares → Roots → A → Frame → Type 0) (asked : List ℕ → List A) (files : List (List ℕ))
    (w : List ℕ) (status : Status)
    → Over (square_in (square_file files)) (λ square. Serves square (test square) (Allows square) (asked (requests_file files))) w status → IsAnswer (status_kind status)
over_answers test Allows asked files w status h =
    let requests = asked (requests_file files) in
    over_each (λ square. Serves square (test square) (Allows square) requests) (square_in (square_file files)) w status (IsAnswer (status_kind status))
    (λ square. serves_answers square (test square) (Allows square) requests w status) h
