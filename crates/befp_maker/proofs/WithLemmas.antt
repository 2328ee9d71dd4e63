-- The cells of the fraud proof of a sample against a line.
use Rattle.std.proofs.Common.{◌≡◌, ◌≢◌, ◌∙◌, ℕ, suc, ◌+◌, ◌*◌, ◌<◌, ◌≤◌, List, [], ◌∷◌, ◌++◌, length, map, true, ◌==◌, ◌&&◌, refl, sym, ap, subst, inl, inr, arith}
use Rattle.std.specs.Prelude.{nat_lt}
use Rattle.std.specs.List.{Contains, list_all}
use Rattle.std.proofs.lemmas.Bool.{and_from}
use Rattle.std.proofs.lemmas.Bool.Decides.{nat_tests}
use Rattle.std.proofs.lemmas.List.{length-map}
use Rattle.std.proofs.lemmas.Option.{get_or_from_slice_get}
use Rattle.namespace_id.specs.declared.cells.Axis.{Axis}
use Rattle.namespace_id.specs.declared.shares.Share.{Share}
use Rattle.namespace_id.specs.Lists.{holds_along, ascending}
use Rattle.namespace_id.proofs.MemberLemmas.{contains_cons}
use Rattle.leopard_code.specs.Codewords.{HasEntries}
use Rattle.data_header.specs.Headers.{Roots}
use Rattle.axis_roots.specs.declared.message.messages.Message.{Message}
use Rattle.axis_roots.specs.declared.message.proved.Proved.{Proved}
use Rattle.axis_roots.specs.Messages.{position}
use Rattle.axis_roots.specs.Openings.{IsProved}
use Rattle.axis_roots.specs.Proved.{kept_message}
use Rattle.axis_roots.specs.Lines.{blank, entry, cell_on}
use Rattle.axis_roots.specs.Claims.{ClaimParts, positions_of, is_on, has_shape, claim_with}
use Rattle.axis_roots.proofs.Grids.AxisLemmas.{cell_on-own, position-cell_on}
use Rattle.axis_roots.proofs.Grids.NumberLemmas.{position-lt}
use Rattle.befp_maker.specs.Conflicts.{IsAgainst, positions_with}
use Rattle.befp_maker.specs.Gathered.{AreOfLine, IsContinued, AreWith}
use Rattle.befp_maker.proofs.PlaceLemmas.{with-along, length-with, with-parts, with-here, before_apart, behind_apart}
use Rattle.befp_maker.proofs.AgainstLemmas.{IsWith, AllWith, line_with, with-append, positions-with, on-with, under-with, messages-with}

-- a list of so many cells on an axis, at ascending positions, has the shape of a claim
pub with_shape : (k : ℕ) (claim : ClaimParts) → claim.index < 2 * k → length claim.cells ≡ k → list_all (is_on claim) claim.cells ≡ true
    → holds_along nat_lt (positions_of claim) ≡ true → has_shape k claim ≡ true
with_shape k claim index count on rising =
    let below : nat_lt claim.index (2 * k) ≡ true = grind (arith, nat_tests) in
    let many : (length claim.cells == k) ≡ true = grind (arith, nat_tests) in
    and_from (nat_lt claim.index (2 * k) && (length claim.cells == k) && list_all (is_on claim) claim.cells) (holds_along nat_lt (positions_of claim))
    (and_from (nat_lt claim.index (2 * k) && (length claim.cells == k)) (list_all (is_on claim) claim.cells)
    (and_from (nat_lt claim.index (2 * k)) (length claim.cells == k) below many) on) rising

-- a list that goes through the cells has the sample's share at its position, and the line's at the others
entries_with : (header : Roots) (axis : Axis) (i : ℕ) (line : List Share) (m : Message) (pos : ℕ) (word : List Share) (ps : List ℕ) (cells : List Proved)
    → AllWith header axis i line m pos ps cells
    → HasEntries (map (λ n. position axis n.cell) (map kept_message cells)) (map (λ n. n.share) (map kept_message cells)) word
    → (p : ℕ) → Contains ps p → (p ≡ pos → entry word p ≡ m.share) × (p ≢ pos → entry word p ≡ entry line p)
entries_with header axis i line m pos word [] cells all entries p (j, h, e) = absurd (omega arith)
entries_with header axis i line m pos word (q ∷ ps) [] all entries p at = elim all [ ]
entries_with header axis i line m pos word (q ∷ ps) (c ∷ cells) all entries p at = elim (contains_cons q p ps at) [
  | inr later ↦ entries_with header axis i line m pos word ps cells all.1 (λ j h. entries (suc j) (omega arith)) p later
  | inl e ↦
      let place : position axis (kept_message c).cell ≡ q = ap (position axis) all.0.cell ∙ position-cell_on axis i q in
      let here : entry word (position axis (kept_message c).cell) ≡ (kept_message c).share =
      get_or_from_slice_get word (position axis (kept_message c).cell) (kept_message c).share blank (entries 0 (omega arith)) in
      let shown : entry word p ≡ (kept_message c).share = ap (entry word) (sym (place ∙ e)) ∙ here in (
        λ same. shown ∙ ap (λ (n : Message). n.share) (all.0.same (e ∙ same)),
        λ apart. shown ∙ all.0.of_line (λ same. apart (sym e ∙ same)) ∙ ap (entry line) e,
      )
]

-- the other sample is one of its position
other_with : (header : Roots) (axis : Axis) (i : ℕ) (line : List Share) (other : Proved) → IsProved header (kept_message other) → IsAgainst header axis i line other
    → IsWith header axis i line (kept_message other) (position axis (kept_message other).cell) (position axis (kept_message other).cell) other
other_with header axis i line other proved against = record {
  under = against.under;
  within = position-lt header.k axis (kept_message other).cell proved.inside;
  cell = sym (cell_on-own axis (kept_message other).cell) ∙ ap (λ (n : ℕ). cell_on axis n (position axis (kept_message other).cell)) against.on_axis;
  same = λ _. refl;
  of_line = λ apart. absurd (apart refl);
}

-- the other sample between the line's first k - 1 others
are_with : (header : Roots) (axis : Axis) (i : ℕ) (line : List Share) (other : Proved) (first n : ℕ) (before behind : List Proved)
    → IsProved header (kept_message other) → i < 2 * header.k → IsAgainst header axis i line other → first + 1 + n ≡ header.k
    → (position axis (kept_message other).cell < header.k → first ≡ position axis (kept_message other).cell)
    → (header.k ≤ position axis (kept_message other).cell → n ≡ 0)
    → AreOfLine header axis i line (ascending 0 first) before → AreOfLine header axis i line (ascending (first + 1) n) behind
    → AreWith header axis i line other ((before ++ other ∷ []) ++ behind)
are_with header axis i line other first n before behind proved index against count low high front back =
    let k : ℕ = header.k in
    let m : Message = kept_message other in
    let pos : ℕ = position axis m.cell in
    let cells : List Proved = (before ++ other ∷ []) ++ behind in
    let claim : ClaimParts = claim_with axis i cells in
    let parts : (ascending 0 first ++ pos ∷ []) ++ ascending (first + 1) n ≡ positions_with k pos = with-parts k pos first n count low high in
    let all : AllWith header axis i line m pos (positions_with k pos) cells =
    subst (λ (ps : List ℕ). AllWith header axis i line m pos ps cells) parts
    (with-append header axis i line m pos (ascending 0 first ++ pos ∷ []) (ascending (first + 1) n) (before ++ other ∷ []) behind
    (with-append header axis i line m pos (ascending 0 first) (pos ∷ []) before (other ∷ [])
    (line_with header axis i line m pos first 0 before (λ p _ h. before_apart k pos first n p count low h) (omega arith) front)
    (other_with header axis i line other proved against, tt))
    (line_with header axis i line m pos n (first + 1) behind (λ p above h. behind_apart k pos first n p low high above h) (omega arith) back)) in
    let positions : positions_of claim ≡ positions_with k pos = positions-with header axis i line m pos (positions_with k pos) cells all in
    let count_is : length claim.cells ≡ k =
    sym (length-map claim.cells (λ c. position axis c.cell)) ∙ ap length positions ∙ length-with k pos (omega arith) in
    let rising : holds_along nat_lt (positions_of claim) ≡ true =
    subst (λ (ps : List ℕ). holds_along nat_lt ps ≡ true) (sym positions) (with-along k pos) in
    record {
      half = record {
        shape = with_shape k claim index count_is (on-with header axis i line m pos (positions_with k pos) cells all) rising;
        under = under-with header axis i line m pos (positions_with k pos) cells all;
      };
      positions = positions;
      messages = messages-with header axis i line m pos (positions_with k pos) cells all;
      through = λ word through. record {
        codeword = through.codeword;
        here = (entries_with header axis i line m pos word (positions_with k pos) cells all through.entries pos (with-here k pos first n parts)).0 refl;
        others = λ p at. (entries_with header axis i line m pos word (positions_with k pos) cells all through.entries p at).1;
      };
    }

-- a list that was continued by the ones before, by the other sample, and by the ones behind it
pub with_continued : (header : Roots) (axis : Axis) (i : ℕ) (line : List Share) (other : Proved) (first m n : ℕ) (old one two three : List Proved)
    → IsProved header (kept_message other) → i < 2 * header.k → IsAgainst header axis i line other → first + 1 + n ≡ header.k
    → (position axis (kept_message other).cell < header.k → first ≡ position axis (kept_message other).cell)
    → (header.k ≤ position axis (kept_message other).cell → n ≡ 0) → old ≡ [] → m ≡ first
    → IsContinued header axis i line (ascending 0 m) old one → two ≡ one ++ other ∷ [] → IsContinued header axis i line (ascending (first + 1) n) two three
    → AreWith header axis i line other three
with_continued header axis i line other first m n old one two three proved index against count low high empty same front put back =
    let before : one ≡ front.made = front.appended ∙ ap (λ (l : List Proved). l ++ front.made) empty in
    let all : three ≡ (front.made ++ other ∷ []) ++ back.made =
    back.appended ∙ ap (λ (l : List Proved). l ++ back.made) (put ∙ ap (λ (l : List Proved). l ++ other ∷ []) before) in
    subst (AreWith header axis i line other) (sym all)
    (are_with header axis i line other first n front.made back.made proved index against count low high
    (subst (λ (c : ℕ). AreOfLine header axis i line (ascending 0 c) front.made) same front.are) back.are)
