-- The last words of a repair.
use Rattle.std.proofs.Common.{◌≡◌, ◌≢◌, ◌∙◌, ℕ, Bool, true, false, List, [], ◌∷◌, Some, refl, ap, subst, inl, inr}
use Rattle.std.specs.Prelude.{not}
use Rattle.std.specs.List.{Contains}
use Rattle.std.specs.declared.option.Option.{Option}
use Rattle.namespace_id.specs.declared.cells.Cell.{Cell}
use Rattle.namespace_id.specs.Cells.{is_in_square}
use Rattle.namespace_id.proofs.MemberLemmas.{contains_head}
use Rattle.data_header.specs.Headers.{Roots}
use Rattle.axis_roots.specs.declared.message.messages.Message.{Message}
use Rattle.repair_queue.specs.declared.verdict.Verdict.{Verdict}
use Rattle.repair_queue.specs.declared.verdict.Verdict.TheVariants.{Whole, Fraud, Missing, Clash}
use Rattle.repair_queue.specs.declared.sessions.SessionState.{SessionState}
use Rattle.repair_queue.specs.declared.sessions.SessionState.TheVariants as state
use Rattle.repair_queue.specs.Closures.{Half}
use Rattle.repair_queue.specs.SessionParts.{SessionParts, SessionStands}
use Rattle.repair_queue.specs.Sessions.{session_state, IsOfState}
use Rattle.repair_queue.specs.Verdicts.{IsVerdict}
use Rattle.repair_queue.specs.Answers.{verdict_parts}
use Rattle.da_wire.specs.Reading.{Raw}
use Rattle.da_status.specs.declared.status.Status.{Status}
use Rattle.da_judging.specs.Repair.{messages_in, lies_in, answer_status, GivesVerdict}
use Rattle.da_gathering.specs.Gatherings.{Gathering, KnowsAll, IsSessionOver}
use Rattle.da_talk.specs.Handed.{fed}
use Rattle.da_gathering.specs.Gathered.{HasGathered, is_missing, AreLastWords}
use Rattle.da_gathering.proofs.SessionLemmas.{Knows}
use Rattle.da_gathering.proofs.GatherLemmas.{session_stands}

-- ---- which status goes with the answer

-- cells that aren't recoverable aren't all of none
none_out : (s : SessionParts) (ms : List Message) → Knows → session_state s ≡ state.Open → SessionStands s ms → KnowsAll s → (cells : List Cell) → cells ≢ []
    → ((cell : Cell) → Contains cells cell → (is_in_square s.header.k cell ≡ true) × (Half s.header ms cell → ⊥)) → ⊥
none_out s ms knows opened stand all [] some out = some refl
none_out s ms knows opened stand all (cell ∷ cells) some out =
    let this = out cell (contains_head cell cells) in this.1 ((knows s ms opened stand cell this.0).0 (all cell this.0))

-- an answer of a session that found something isn't missing cells
found_by : (s : SessionState) (verdict : Verdict) (lies : ℕ) → s ≢ state.Open → IsOfState s verdict → is_missing (answer_status lies (verdict_parts verdict)) ≡ false
found_by state.Open verdict lies found of = absurd (found refl)
found_by state.Fraud (Fraud proof) lies found of = refl
found_by state.Fraud (Whole square) lies found of = refl
found_by state.Fraud (Missing cells) lies found of = elim of [ ]
found_by state.Fraud (Clash pair) lies found of = refl
found_by state.Clash (Clash pair) lies found of = refl
found_by state.Clash (Whole square) lies found of = refl
found_by state.Clash (Missing cells) lies found of = elim of [ ]
found_by state.Clash (Fraud proof) lies found of = refl

-- nor is one of a session that knows all cells
all_by : Knows → (s : SessionParts) (ms : List Message) → SessionStands s ms → KnowsAll s → (st : SessionState) → session_state s ≡ st → (verdict : Verdict) (lies : ℕ)
    → IsOfState st verdict → IsVerdict s.header ms (verdict_parts verdict) → is_missing (answer_status lies (verdict_parts verdict)) ≡ false
all_by knows s ms stand all state.Open opened (Whole square) lies of is = refl
all_by knows s ms stand all state.Open opened (Missing cells) lies of is =
    absurd (none_out s ms knows opened stand all cells.list is.some (λ cell at. (is.missing cell).0 at))
all_by knows s ms stand all state.Open opened (Fraud proof) lies of is = refl
all_by knows s ms stand all state.Open opened (Clash pair) lies of is = refl
all_by knows s ms stand all state.Fraud opened verdict lies of is = found_by state.Fraud verdict lies (λ e. absurd cc) of
all_by knows s ms stand all state.Clash opened verdict lies of is = found_by state.Clash verdict lies (λ e. absurd cc) of

-- one of a session that goes on is missing cells
goes_by : Knows → (s : SessionParts) (ms : List Message) → SessionStands s ms → session_state s ≡ state.Open → (KnowsAll s → ⊥) → (verdict : Verdict) (lies : ℕ)
    → IsOfState state.Open verdict → IsVerdict s.header ms (verdict_parts verdict) → is_missing (answer_status lies (verdict_parts verdict)) ≡ true
goes_by knows s ms stand opened goes (Whole square) lies of is = absurd (goes (λ cell within. (knows s ms opened stand cell within).1 (is.all cell within)))
goes_by knows s ms stand opened goes (Missing cells) lies of is = refl
goes_by knows s ms stand opened goes (Fraud proof) lies of is = elim of [ ]
goes_by knows s ms stand opened goes (Clash pair) lies of is = elim of [ ]

-- so the status is that of missing cells exactly where it isn't over
pub status_by : Knows → (s : SessionParts) (ms : List Message) (over : Bool) → IsSessionOver over s → SessionStands s ms → (verdict : Verdict) (lies : ℕ)
    → IsOfState (session_state s) verdict → IsVerdict s.header ms (verdict_parts verdict) → is_missing (answer_status lies (verdict_parts verdict)) ≡ not over
status_by knows s ms true tells stand verdict lies of is = elim tells [
  | inl found ↦ found_by (session_state s) verdict lies found of
  | inr all ↦ all_by knows s ms stand all (session_state s) refl verdict lies of is
]
status_by knows s ms false tells stand verdict lies of is =
    goes_by knows s ms stand tells.0 tells.1 verdict lies (subst (λ (st : SessionState). IsOfState st verdict) tells.0 of) is

-- ---- the words

-- the answer with which a session ends is the last words of its frames
pub last_words : Knows → (header : Roots) (frames : List Raw) (g : Gathering) → HasGathered header frames g → (s : SessionParts) → g.session ≡ Some s
    → s.header ≡ g.header → (over : Bool) → IsSessionOver over s → (verdict : Verdict) → IsOfState (session_state s) verdict
    → ((ms : List Message) → SessionStands s ms → IsVerdict s.header ms (verdict_parts verdict)) → (lies : ℕ) → lies ≡ g.lies → (text : List ℕ) (status : Status)
    → GivesVerdict lies (verdict_parts verdict) text status → AreLastWords header frames (not over) text (Some status)
last_words knows header frames g h s is under over tells verdict of verdicts lies same text status answers =
    let ms : List Message = messages_in (fed frames) in
    let stand = session_stands header frames g h s is in
    let here = verdicts ms stand in
    let count : lies ≡ lies_in header (fed frames) = same ∙ h.lies in record {
      status = status;
      repairs = (
        verdict_parts verdict,
        subst (λ (r : Roots). IsVerdict r ms (verdict_parts verdict)) (under ∙ h.header_is) here,
        (answers.0, answers.1 ∙ ap (λ (n : ℕ). answer_status n (verdict_parts verdict)) count),
      );
      of = ap is_missing answers.1 ∙ status_by knows s ms over tells stand verdict lies of here;
      kept_is = refl;
    }

-- by whether it was over
pub words_as : (header : Roots) (frames : List Raw) (over more : Bool) (text : List ℕ) (kept : Option Status) → not over ≡ more
    → AreLastWords header frames (not over) text kept → AreLastWords header frames more text kept
words_as header frames over more text kept e words = subst (λ (b : Bool). AreLastWords header frames b text kept) e words
