-- What the command light answers.
use Rattle.std.proofs.Common.{◌≡◌, ℕ, ◌<◌, Bool, true, false, List, sym, ap, subst, inl, inr, arith}
use Rattle.std.specs.Prelude.{nat_lt}
use Rattle.std.proofs.lemmas.Bool.Decides.{nat_tests}
use Rattle.data_header.specs.Headers.{Roots}
use Rattle.namespace_id.specs.declared.cells.Cell.{Cell}
use Rattle.square_layout.specs.Blocks.{SquareShares}
use Rattle.axis_roots.specs.Claims.{ClaimParts, Accepts, IsFalseClaim}
use Rattle.axis_roots.specs.Grids.{IsHeaderOf}
use Rattle.namespace_id.specs.Cells.{is_width}
use Rattle.frame_payloads.proofs.AcceptedClaims.{accepted_written}
use Rattle.sampling.specs.Draws.{draw_limit, drawn_cells}
use Rattle.light_node.specs.declared.events.Event.{Event}
use Rattle.light_node.specs.declared.events.Light.{Light}
use Rattle.light_node.specs.declared.events.Light.TheVariants as light
use Rattle.light_node.specs.Events.{IsLight}
use Rattle.da_wire.specs.Reading.{Raw}
use Rattle.da_wire.specs.Frames.{frames_of}
use Rattle.da_status.specs.declared.status.Asked.TheVariants.{Count}
use Rattle.da_status.specs.declared.status.Status.{Status}
use Rattle.da_status.specs.declared.status.Status.TheVariants.{BadRequest}
use Rattle.da_status.specs.Statuses.{status_kind, output}
use Rattle.da_status.specs.Outcome.{Relation}
use Rattle.da_files.specs.Frames.{header_in}
use Rattle.da_judging.specs.Keys.{key_file_in}
use Rattle.da_judging.specs.Light.{events_in, GivesLight, Judges, HasOutput, Counted, Lights, JudgesOwn, LightOf, light_key_file, LightByOf}
use Rattle.da_files.specs.Contents.{header_file, messages_file}
use Rattle.da_status.proofs.EndLemmas.{IsAnswer, answer_output, status_answers}
use Rattle.da_files.proofs.FormLemmas.{over_each}

-- ---- the count

-- a number isn't below another
pub not_below : (a b : ℕ) → (a < b → ⊥) → nat_lt a b ≡ false
not_below a b h = grind (arith, nat_tests)

-- the answer by whether the count is above the limit
abbrev pub by_limit : Bool → Roots → List Cell → List Raw → Relation
by_limit over header plan raws = Counted over (Judges header plan raws)

-- ---- answers

-- each verdict comes with a complete output
verdict_kind : (verdict : Light) (w : List ℕ) (status : Status) → GivesLight verdict w status → status_kind status ≡ output
verdict_kind light.Available w status answers = ap status_kind answers.1
verdict_kind (light.Rejected claim) w status answers = ap status_kind answers.1
verdict_kind (light.Waiting cells) w status answers = ap status_kind answers.1

-- what is answered to a count is an answer
limit_answers : (over : Bool) (header : Roots) (plan : List Cell) (raws : List Raw) (w : List ℕ) (status : Status)
    → by_limit over header plan raws w status
    → IsAnswer (status_kind status)
limit_answers true header plan raws w status h = status_answers status (BadRequest Count) h.1 tt
limit_answers false header plan raws w status h = answer_output status (verdict_kind h.0 w status h.2)

-- what light answers to its files is an answer
pub light_answers : (key : List ℕ) (count : ℕ) (files : List (List ℕ)) (w : List ℕ) (status : Status)
    → LightOf key count files w status
    → IsAnswer (status_kind status)
light_answers key count files w status r =
    let raws = frames_of (messages_file files) in
    over_each (λ h. Lights key count h raws) (header_in (header_file files)) w status (IsAnswer (status_kind status))
    (λ h. limit_answers (nat_lt (draw_limit h.k) count) h (drawn_cells key h.k count) raws w status) r

-- a verdict under a header of a width has an output
pub verdict_output : (header : Roots) (plan : List Cell) (events : List Event) (verdict : Light)
    → is_width header.k ≡ true
    → IsLight header plan events verdict → HasOutput verdict
verdict_output header plan events light.Available width is = tt
verdict_output header plan events (light.Rejected claim) width is = accepted_written header claim is.0
verdict_output header plan events (light.Waiting cells) width is = is.1

-- the answer of a verdict on the cells that the key draws
pub lights_verdict : (key : List ℕ) (count : ℕ) (header : Roots) (plan : List Cell) (raws : List Raw) (verdict : Light)
    → (draw_limit header.k < count → ⊥) → plan ≡ drawn_cells key header.k count
    → IsLight header plan (events_in raws) verdict
    → (w : List ℕ) (status : Status) → GivesLight verdict w status → Lights key count header raws w status
lights_verdict key count header plan raws verdict within drawn is w status answers =
    let judged : Judges header (drawn_cells key header.k count) raws w status =
    (verdict, subst (λ (cells : List Cell). IsLight header cells (events_in raws) verdict) drawn is, answers) in
    subst (λ (b : Bool). by_limit b header (drawn_cells key header.k count) raws w status)
    (sym (not_below (draw_limit header.k) count within)) judged

-- ---- the header of a square

-- a verdict writes no claim, or one that with the square names a collision; by what is known of claims that are
-- accepted
verdict_own : ((h : Roots) (claim : ClaimParts) → Accepts h claim → IsFalseClaim h claim)
    → (header : Roots) (square : SquareShares) (plan : List Cell) (events : List Event) (verdict : Light) (w : List ℕ)
    (status : Status)
    → IsHeaderOf header square → IsLight header plan events verdict → GivesLight verdict w status
    → JudgesOwn square w status
verdict_own law header square plan events light.Available w status own is answers = inl (λ axis i e. absurd cc)
verdict_own law header square plan events (light.Waiting cells) w status own is answers = inl (λ axis i e. absurd cc)
verdict_own law header square plan events (light.Rejected claim) w status own is answers =
    inr (claim, answers.0, law header claim is.0 square own)

-- so does what is answered to a count
limit_own : ((h : Roots) (claim : ClaimParts) → Accepts h claim → IsFalseClaim h claim)
    → (over : Bool) (header : Roots) (square : SquareShares) (plan : List Cell) (raws : List Raw) (w : List ℕ)
    (status : Status)
    → IsHeaderOf header square → by_limit over header plan raws w status → JudgesOwn square w status
limit_own law true header square plan raws w status own h = inl (λ axis i e. absurd cc)
limit_own law false header square plan raws w status own h =
    verdict_own law header square plan (events_in raws) h.0 w status own h.1 h.2

-- under the header of a square light writes no claim, or one that with the square names a collision; by what is known
-- of claims that are accepted
pub lights_own : ((h : Roots) (claim : ClaimParts) → Accepts h claim → IsFalseClaim h claim)
    → (header : Roots) (raws : List Raw) (square : SquareShares) (key : List ℕ) (count : ℕ) (w : List ℕ)
    (status : Status)
    → IsHeaderOf header square → Lights key count header raws w status → JudgesOwn square w status
lights_own law header raws square key count w status own h =
    limit_own law (nat_lt (draw_limit header.k) count) header square (drawn_cells key header.k count) raws w status
    own h

-- ---- a key in a file

-- what light answers to a key in a file is an answer
pub light_by_answers : (count : ℕ) (files : List (List ℕ)) (w : List ℕ) (status : Status)
    → LightByOf count files w status
    → IsAnswer (status_kind status)
light_by_answers count files w status r =
    over_each (λ key. LightOf key count files) (key_file_in (light_key_file files)) w status (IsAnswer (status_kind status))
    (λ key. light_answers key count files w status) r
