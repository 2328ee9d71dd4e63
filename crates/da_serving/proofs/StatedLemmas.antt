-- What is answered of the blobs of a list of transactions in its square.
use Rattle.std.proofs.Common.{true, false, cond, ◌≡◌, ◌∙◌, ◌↔◌, ℕ, ◌+◌, ◌-◌, ◌*◌, ◌%◌, ◌≤◌, ◌==◌, nat_lt, nat_le, Bool, List, [], ◌∷◌, ◌++◌, length, take, drop, replicate, codes, None, Ok, Result, refl, sym, ap, ap₂, subst, arith, inl, inr, ⊎_elim, append_assoc, length-append}
use Rattle.std.specs.List.{AllByRecursion, flat_map, Contains}
use Rattle.std.specs.Str.{bytes_eq}
use Rattle.std.proofs.Math.Seq.{drop-append_seam}
use Rattle.std.proofs.lemmas.Bool.{or_from, lt-ltb, le-leb, eq-eqb}
use Rattle.std.proofs.lemmas.Bool.Decides.{nat_tests}
use Rattle.std.proofs.lemmas.List.Elements.{Contains-append_right}
use Rattle.std.proofs.lemmas.Slice.Eq.{bytes_eq-Decides}
use Rattle.namespace_id.specs.declared.shares.Share.{Share}
use Rattle.namespace_id.proofs.MemberLemmas.{contains_head, contains_none}
use Rattle.namespace_id.specs.Names.{is_blob_namespace, transaction, pay_for_blob, primary_reserved_padding, tail_padding}
use Rattle.namespace_id.specs.Shares.{AreShares}
use Rattle.data_header.specs.Headers.{Roots}
use Rattle.data_header.specs.DataRoots.{data_root_of}
use Rattle.nmt_proofs.proofs.Agreement.MadeLemmas.{and_true}
use Rattle.nmt_proofs.proofs.Parts.ListLemmas.{each-append, each-drop}
use Rattle.share_split.specs.declared.joining.JoinError.{JoinError}
use Rattle.share_split.specs.Widths.{subtree_width_of}
use Rattle.share_split.specs.Blobs.{NamedBytes, IsNamed}
use Rattle.share_split.specs.Units.{unit_shares_of}
use Rattle.share_split.specs.Joined.{Piece, padding_share, piece_blobs, IsBlob, AreBlobs}
use Rattle.share_split.specs.Walks.{blobs_joined}
use Rattle.square_layout.specs.Blocks.{SquareShares}
use Rattle.square_layout.specs.Layout.{in_order, share_count_of, start_after, end_of, placed_behind}
use Rattle.square_layout.specs.Refusals.{max_shares}
use Rattle.square_layout.specs.Plans.{PlanParts, front, lead, planned, plan_width, square_of_plan}
use Rattle.square_layout.proofs.BlobOrderLemmas.{All-in_order}
use Rattle.square_layout.proofs.PlanLemmas.{length-front, lead-in_order}
use Rattle.square_layout.proofs.ReadBackLemmas.{plan_blobs}
use Rattle.square_layout.proofs.ShareNameLemmas.{unit_shares_of-named}
use Rattle.tx_list.specs.Payments.{ListParts, IsPayment, blobs_of as blobs_in}
use Rattle.tx_list.specs.Reserves.{list_reserve, list_bound}
use Rattle.tx_list.specs.Reads.{list_of}
use Rattle.tx_list.specs.ReadRefusals.{read_refusal}
use Rattle.tx_list.specs.Refusals.{list_size_refusal}
use Rattle.tx_list.specs.OfBytes.{IsOfBytes}
use Rattle.tx_list.specs.Lists.{plan_of_list, square_of_list}
use Rattle.tx_list.specs.Ranges.{IsStart, IsRangeOf}
use Rattle.tx_list.proofs.ListLemmas.{payments_named, list_has_room}
use Rattle.tx_list.proofs.RunLemmas.{AreOthers, behind_fronts, plan_parts, others_behind, transaction_is, pay_for_blob_is}
use Rattle.axis_roots.specs.Grids.{IsHeaderOf}
use Rattle.square_serve.specs.Shares.{is_named}
use Rattle.blob_commit.specs.Commitments.{commitment_over}
use Rattle.blob_commit.specs.Proofs.{CommitParts, IsCommit, CommitHolds, is_range}
use Rattle.blob_commit.specs.Places.{CommitText, PlacesNameClash, CommitsOwn, IsOwnCommit}
use Rattle.da_status.specs.declared.status.Status.{Status}
use Rattle.da_status.specs.declared.status.Status.TheVariants.{Done, Refused}
use Rattle.da_status.specs.Notes.{two_numbers}
use Rattle.da_files.specs.Frames.{WritesText}
use Rattle.da_serving.specs.Blobs.{is_compact, behind_compact}
use Rattle.da_serving.specs.Commit.{commitment_of}
use Rattle.da_serving.specs.Find.{range_line, AreFound, compact_front, found_status, Finds}
use Rattle.da_serving.specs.Prove.{ProvesIn, ProvesRange}
use Rattle.da_serving.specs.Stated.{IsBuilt, ProvesBlob, ranges_from, ranges_of, range_lines, WritesRanges}
use Rattle.da_serving.proofs.BuildLemmas.{both_fine, list_few}
use Rattle.da_serving.proofs.BackLemmas.{AreCompactShares, AreOtherShares, behind_front, behind_others, named_compact}
use Rattle.da_serving.proofs.FindLemmas.{found_by, found_same}
use Rattle.da_serving.proofs.LineLemmas.{plan_lines}

-- ---- lists that have squares

-- a list that isn't refused takes no more shares than the greatest square has
pub built_few : (transactions : List (List ℕ)) → IsBuilt transactions → list_bound (list_of transactions) ≤ max_shares
built_few transactions is = list_few (list_of transactions) (both_fine transactions is.accepted).1

-- ---- a proof of a blob's range

pub proof_range : (square : SquareShares) (place : ℕ) (one : NamedBytes) → IsRangeOf square place one
    → is_range square.k place (share_count_of one) ≡ true
proof_range square place one is =
    let count : ℕ = share_count_of one in
    and_true (nat_lt 0 count) (nat_le (place + count) (square.k * square.k)) (place % subtree_width_of count == 0) (lt-ltb 0 count is.some)
    (le-leb (place + count) (square.k * square.k) is.inside) (eq-eqb (place % subtree_width_of count) 0 is.aligned)

-- the commitment of the square's shares in the range is the blob's
range_commitment : (square : SquareShares) (place : ℕ) (one : NamedBytes) (proof : CommitParts) → IsRangeOf square place one → proof.start ≡ place
    → proof.count ≡ share_count_of one → CommitsOwn proof square → proof.commitment ≡ commitment_of one
range_commitment square place one proof is starts counted own =
    own.commitment ∙ ap₂ (λ (n s : ℕ). commitment_over (take n (drop s square.shares))) counted starts ∙ ap commitment_over is.shares

-- what is answered to the range is a proof of this commitment, by what is known of commitment proofs
pub proves_blob : ((header : Roots) (proof : CommitParts) → IsCommit proof → CommitHolds (data_root_of header) proof → IsOwnCommit header proof)
    → (square : SquareShares) (place : ℕ) (one : NamedBytes) → IsRangeOf square place one → (header : Roots) → IsHeaderOf header square
    → (w : List ℕ) (status : Status) → ProvesRange square place (share_count_of one) w status → ProvesBlob square place one w status
proves_blob commits square place one is other there w status (inl (header, own, answers)) =
    by (is_range square.k place (share_count_of one)) (proof_range square place one is) answers
  where
    by : (b : Bool) → b ≡ true → ProvesIn b square header place (share_count_of one) w status → ProvesBlob square place one w status
    by true e (proof, proves, writes) = record {
      header = header;
      own = own;
      proof = proof;
      proves = proves;
      states =
          ⊎_elim (λ (o : CommitsOwn proof square). inl (range_commitment square place one proof is proves.start proves.count o))
          (λ (clash : PlacesNameClash (CommitText proof) square). inr clash) (commits header proof proves.lengths proves.holds square own);
      writes = writes;
    }
    by false e refused = absurd cc
proves_blob commits square place one is other there w status (inr (none, refused)) = absurd (none other there)

-- ---- the shares behind the compact ones

-- shares of neither of two namespaces aren't compact
others_both : (shares : List Share) → AreOthers transaction shares → AreOthers pay_for_blob shares → AreOtherShares shares
others_both [] one two = tt
others_both (share ∷ shares) one two =
    (or_from (is_named transaction share) (is_named pay_for_blob share) one.0 two.0, others_both shares one.1 two.1)

front_compact : (plan : PlanParts) → AreCompactShares (front plan)
front_compact plan =
    let one : List Share = unit_shares_of transaction plan.units in
    let two : List Share = unit_shares_of pay_for_blob plan.pay_units in
    each-append (λ s. is_compact s ≡ true) one two (named_compact true transaction one refl (unit_shares_of-named transaction plan.units refl))
    (named_compact true pay_for_blob two refl (unit_shares_of-named pay_for_blob plan.pay_units refl))

-- the shares of a plan's square are its compact ones, and those behind
plan_whole : (plan : PlanParts) → (square_of_plan plan).shares ≡ front plan ++ behind_fronts plan
plan_whole plan =
    plan_parts plan ∙ sym (append_assoc (unit_shares_of transaction plan.units) (unit_shares_of pay_for_blob plan.pay_units) (behind_fronts plan))

plan_behind : (plan : PlanParts) → AllByRecursion (λ blob. is_blob_namespace blob.namespace.0 ≡ true) plan.blobs
    → behind_compact (square_of_plan plan).shares ≡ behind_fronts plan
plan_behind plan named =
    ap behind_compact (plan_whole plan)
    ∙ behind_front (front plan) (behind_fronts plan) (front_compact plan)
    ∙ behind_others (behind_fronts plan)
    (others_both (behind_fronts plan) (others_behind transaction plan transaction_is named) (others_behind pay_for_blob plan pay_for_blob_is named))

plan_compact : (plan : PlanParts) → AllByRecursion (λ blob. is_blob_namespace blob.namespace.0 ≡ true) plan.blobs
    → compact_front (square_of_plan plan) ≡ length (front plan)
plan_compact plan named =
    omega (
      arith,
      ap (λ (l : List Share). length l) (plan_whole plan),
      length-append (front plan) (behind_fronts plan),
      ap (λ (l : List Share). length l) (plan_behind plan named),
    )

-- in the order in which the blobs stand
behind_is : (plan : PlanParts) → lead (plan.reserve - length (front plan)) (in_order plan.blobs)
    ++ (placed_behind true (padding_share primary_reserved_padding) plan.reserve (in_order plan.blobs)
    ++ replicate (plan_width plan * plan_width plan - length (planned plan)) (padding_share tail_padding))
    ≡ behind_fronts plan
behind_is plan =
    ap (λ (l : List Share). l ++ (placed_behind true (padding_share primary_reserved_padding) plan.reserve (in_order plan.blobs)
    ++ replicate (plan_width plan * plan_width plan - length (planned plan)) (padding_share tail_padding)))
    (sym (lead-in_order (plan.reserve - length (front plan)) plan.blobs))

-- ---- what is read, and found, of a list's square

-- a list whose payments and blobs are as they are kept, and whose square holds it
pub record IsLaid (list : ListParts) : Type 0 where
  pub few : list_bound list ≤ max_shares
  pub payments : AllByRecursion IsPayment list.payments
  pub blobs : AllByRecursion IsBlob (blobs_in list.payments)
  pub shares : AreShares (square_of_list list).shares

-- so is a list that isn't refused, by what is known of lists
pub built_laid : ((transactions : List (List ℕ)) → read_refusal transactions ≡ None → AllByRecursion IsPayment (list_of transactions).payments)
    → ((list : ListParts) → IsOfBytes list → AreShares (square_of_list list).shares)
    → ((list : ListParts) → AllByRecursion IsPayment list.payments → AllByRecursion IsNamed (blobs_in list.payments) → list_size_refusal list ≡ None
    → AllByRecursion IsBlob (blobs_in list.payments))
    → (transactions : List (List ℕ)) → IsBuilt transactions → IsLaid (list_of transactions)
built_laid kept of_shares of_blobs transactions is =
    let fine = both_fine transactions is.accepted in
    let payments = kept transactions fine.0 in
    record {
      few = built_few transactions is;
      payments = payments;
      blobs = of_blobs (list_of transactions) payments is.fits.blobs fine.1;
      shares = of_shares (list_of transactions) is.fits;
    }

-- the shares behind the compact ones, how many these are, and which blobs those are
pub record IsSeen (list : ListParts) : Type 0 where
  pub behind : behind_compact (square_of_list list).shares ≡ behind_fronts (plan_of_list list)
  pub count : compact_front (square_of_list list) ≡ length (front (plan_of_list list))
  pub fits : AreShares (behind_fronts (plan_of_list list))
  pub are : AreBlobs (behind_fronts (plan_of_list list)) (in_order (blobs_in list.payments))

list_seen : (list : ListParts) → IsLaid list → IsSeen list
list_seen list is =
    let plan : PlanParts = plan_of_list list in
    let named = payments_named list.payments is.payments in
    let rest : drop (length (front plan)) (square_of_plan plan).shares ≡ behind_fronts plan =
    ap (drop (length (front plan))) (plan_whole plan) ∙ drop-append_seam (front plan) (behind_fronts plan) in
    record {
      behind = plan_behind plan named;
      count = plan_compact plan named;
      fits = subst AreShares rest (each-drop _ (length (front plan)) (square_of_plan plan).shares is.shares);
      are = subst (λ (l : List Share). AreBlobs l (in_order plan.blobs)) rest (plan_blobs plan is.blobs);
    }

ok_same : (one other : List NamedBytes) → ◌≡◌ {A = Result (List NamedBytes) JoinError} (Ok one) (Ok other) → one ≡ other
ok_same one other e = cc

module _ (join : (shares : List Share) (blobs : List NamedBytes) → AreShares shares → (blobs_joined shares ≡ Ok blobs) ↔ AreBlobs shares blobs)
    (list : ListParts) (is : IsLaid list) where
  -- exactly its blobs are read of its square
  pub list_read : blobs_joined (behind_compact (square_of_list list).shares) ≡ Ok (in_order (blobs_in list.payments))
  list_read =
      let seen = list_seen list is in
      ap blobs_joined seen.behind ∙ (join (behind_fronts (plan_of_list list)) (in_order (blobs_in list.payments)) seen.fits).1 seen.are

  -- lines that are found are those of its ranges
  found_is : (commitment text : List ℕ) → AreFound commitment (compact_front (square_of_list list)) (behind_compact (square_of_list list).shares) text
      → text ≡ range_lines (ranges_of commitment list)
  found_is commitment text found =
      let seen = list_seen list is in
      let plan : PlanParts = plan_of_list list in
      let shares : List Share = behind_fronts plan in
      let order : List NamedBytes = in_order (blobs_in list.payments) in
      let there = found_same commitment (compact_front (square_of_list list)) (length (front plan)) (behind_compact (square_of_list list).shares) shares text
      seen.count seen.behind found in
      let pieces : List Piece = there.0 in
      let read : AreBlobs shares (flat_map piece_blobs pieces) =
      record { pieces = pieces; are_pieces = there.1.are; parts = there.1.parts; shown = refl } in
      let same : order ≡ flat_map piece_blobs pieces =
      ok_same order (flat_map piece_blobs pieces)
      (sym ((join shares order seen.fits).1 seen.are) ∙ (join shares (flat_map piece_blobs pieces) seen.fits).1 read) in
      there.2
      ∙ plan_lines commitment (length (front plan)) plan.reserve (plan_width plan * plan_width plan - length (planned plan)) order pieces
      (omega (arith, length-front plan, list_has_room list is.few)) (All-in_order IsBlob plan.blobs is.blobs) there.1.are (behind_is plan ∙ there.1.parts) same

  -- so they are what find writes
  pub finds_ranges : (commitment w : List ℕ) (status : Status) → Finds commitment (square_of_list list) w status
      → WritesRanges (ranges_of commitment list) w status
  finds_ranges commitment w status finds =
      let found = subst (λ (o : Result (List NamedBytes) JoinError). found_by commitment (square_of_list list) o w status) list_read finds in
      subst (λ (l : List ℕ). WritesText (found_status l) l w status) (found_is commitment found.0 found.1) found.2

-- ---- a blob's range among these

range_among : (commitment : List ℕ) (end : ℕ) (some others : List NamedBytes) (one : NamedBytes) → bytes_eq (commitment_of one) commitment ≡ true
    → Contains (ranges_from commitment end (some ++ one ∷ others)) (start_after (end_of end some) one, share_count_of one)
unfolding ranges_from end_of
range_among commitment end [] others one has =
    let range : ℕ × ℕ = (start_after end one, share_count_of one) in
    let rest : List (ℕ × ℕ) = ranges_from commitment (start_after end one + share_count_of one) others in
    subst (λ (b : Bool). Contains (cond b (range ∷ []) [] ++ rest) range) (sym has) (contains_head range rest)
range_among commitment end (first ∷ some) others one has =
    let next : ℕ = start_after end first + share_count_of first in
    let here : List (ℕ × ℕ) = cond (bytes_eq (commitment_of first) commitment) ((start_after end first, share_count_of first) ∷ []) [] in
    Contains-append_right here (ranges_from commitment next (some ++ one ∷ others)) _ (range_among commitment next some others one has)

-- the range of a blob from its place on is among those of its commitment
pub place_among : (list : ListParts) (place : ℕ) (one : NamedBytes) → IsStart list place one
    → Contains (ranges_of (commitment_of one) list) (place, share_count_of one)
place_among list place one at =
    let reserve : ℕ = list_reserve list in
    let own : List ℕ = commitment_of one in
    let same : bytes_eq own own ≡ true = (bytes_eq-Decides own own).1 refl in
    subst (λ (n : ℕ). Contains (ranges_of own list) (n, share_count_of one)) (sym at.start)
    (subst (λ (l : List NamedBytes). Contains (ranges_from own reserve l) (start_after (end_of reserve at.before) one, share_count_of one)) (sym at.order)
    (range_among own reserve at.before at.behind one same))

-- lines of some ranges aren't empty, and so they are done
some_lines : (ranges : List (ℕ × ℕ)) (range : ℕ × ℕ) → Contains ranges range → 1 ≤ length (range_lines ranges)
some_lines [] range is = absurd (contains_none range is)
some_lines (first ∷ ranges) range is =
    let end : length (codes "\n") ≡ 1 = refl in
    omega (
      arith,
      end,
      length-append (range_line first.0 first.1) (range_lines ranges),
      length-append (two_numbers first.0 first.1) (codes "\n"),
    )

not_none : (n : ℕ) → 1 ≤ n → (n == 0) ≡ false
not_none n h = grind (arith, nat_tests)

pub among_done : (ranges : List (ℕ × ℕ)) (range : ℕ × ℕ) (w : List ℕ) (status : Status) → Contains ranges range → WritesRanges ranges w status → status ≡ Done
among_done ranges range w status is writes =
    writes.1 ∙ ap (λ (b : Bool). cond b Refused Done) (not_none (length (range_lines ranges)) (some_lines ranges range is))
