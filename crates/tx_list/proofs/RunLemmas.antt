-- Runs of shares of one namespace, and the two fronts of a list's square.
use Rattle.std.proofs.Common.{true, false, cond, ◌≡◌, ◌∙◌, ℕ, zero, suc, ◌+◌, ◌-◌, ◌*◌, Bool, List, [], ◌∷◌, ◌++◌, length, drop, replicate, refl, sym, ap, inl, inr, append_assoc}
use Rattle.std.specs.List.{AllByRecursion}
use Rattle.std.specs.Int.{w32, to_be_bytes}
use Rattle.std.specs.Str.{bytes_eq}
use Rattle.std.proofs.Math.Seq.{drop-append_seam}
use Rattle.std.proofs.lemmas.Bool.{cases_Bool, true≢false}
use Rattle.std.proofs.lemmas.Slice.Eq.{bytes_eq-Decides}
use Rattle.namespace_id.specs.declared.namespaces.Namespace.{Namespace}
use Rattle.namespace_id.specs.declared.shares.Share.{Share}
use Rattle.namespace_id.specs.Names.{is_blob_namespace, transaction, pay_for_blob, primary_reserved_padding, tail_padding}
use Rattle.namespace_id.specs.Shares.{name_in}
use Rattle.share_split.specs.Blobs.{NamedBytes, version_of, blob_shares_of}
use Rattle.share_split.specs.Units.{unit_shares_of}
use Rattle.share_split.specs.Joined.{padding_share}
use Rattle.square_layout.specs.ShareNames.{AreNamed}
use Rattle.square_layout.specs.Layout.{in_order, share_count_of, start_after, gap_behind, placed_behind}
use Rattle.square_layout.specs.Plans.{PlanParts, front, lead, planned, plan_width, square_of_plan}
use Rattle.square_layout.proofs.BlobOrderLemmas.{All-in_order}
use Rattle.square_layout.proofs.NameLemmas.{IsBetween}
use Rattle.square_layout.proofs.AcceptedLemmas.{blobs_between}
use Rattle.square_layout.proofs.ShareNameLemmas.{name_in-sequence_share, blob_shares_of-named, unit_shares_of-named}
use Rattle.tx_list.specs.BackRefusals.{has_namespace, run_of, behind_run, first_front, second_front}
use Rattle.tx_list.proofs.ListLemmas.{all-append}

-- ---- runs

-- shares that don't have a namespace
abbrev pub AreOthers : Namespace → List Share → Type 0
AreOthers name shares = AllByRecursion (λ share. has_namespace name share ≡ false) shares

has_own : (name : Namespace) (share : Share) → name_in share ≡ name → has_namespace name share ≡ true
has_own name share is = (bytes_eq-Decides (name_in share).0 name.0).1 (ap (λ (n : Namespace). n.0) is)

has_other : (name other : Namespace) (share : Share) → bytes_eq other.0 name.0 ≡ false → name_in share ≡ other → has_namespace name share ≡ false
has_other name other share differs is = ap (λ (n : Namespace). bytes_eq n.0 name.0) is ∙ differs

-- shares of another namespace don't have it
others_named : (name other : Namespace) (shares : List Share) → bytes_eq other.0 name.0 ≡ false → AreNamed other shares → AreOthers name shares
others_named name other [] differs named = tt
others_named name other (share ∷ shares) differs named = (has_other name other share differs named.0, others_named name other shares differs named.1)

run_none : (name : Namespace) (shares : List Share) → AreOthers name shares → run_of name shares ≡ []
unfolding run_of
run_none name [] others = refl
run_none name (share ∷ shares) others = ap (λ (b : Bool). cond b (share ∷ run_of name shares) []) others.0

-- the run is the shares of the namespace
run-append : (name : Namespace) (own behind : List Share) → AreNamed name own → AreOthers name behind → run_of name (own ++ behind) ≡ own
unfolding run_of
run-append name [] behind named others = run_none name behind others
run-append name (share ∷ own) behind named others =
    ap (λ (b : Bool). cond b (share ∷ run_of name (own ++ behind)) []) (has_own name share named.0)
    ∙ ap (λ (l : List Share). share ∷ l) (run-append name own behind named.1 others)

-- and the others are behind it
behind_run-append : (name : Namespace) (own behind : List Share) → AreNamed name own → AreOthers name behind → behind_run name (own ++ behind) ≡ behind
behind_run-append name own behind named others =
    ap (λ (l : List Share). drop (length l) (own ++ behind)) (run-append name own behind named others) ∙ drop-append_seam own behind

-- ---- the shares behind the fronts

-- a name that isn't one of a blob isn't that of a blob
not_blob : (name : Namespace) (bytes : List ℕ) → is_blob_namespace name.0 ≡ false → is_blob_namespace bytes ≡ true → bytes_eq bytes name.0 ≡ false
not_blob name bytes isnt is = elim (cases_Bool (bytes_eq bytes name.0)) [
  | inl same ↦ absurd (true≢false (sym is ∙ ap is_blob_namespace ((bytes_eq-Decides bytes name.0).0 same) ∙ isnt))
  | inr other ↦ other
]

others-append : (name : Namespace) (xs ys : List Share) → AreOthers name xs → AreOthers name ys → AreOthers name (xs ++ ys)
others-append name xs ys h k = all-append (λ (share : Share). has_namespace name share ≡ false) xs ys h k

others-replicate : (name : Namespace) (count : ℕ) (share : Share) → has_namespace name share ≡ false → AreOthers name (replicate count share)
others-replicate name zero share h = tt
others-replicate name (suc count) share h = (h, others-replicate name count share h)

-- whether blobs have another name
abbrev BlobsDiffer : Namespace → List NamedBytes → Type 0
BlobsDiffer name blobs = AllByRecursion (λ blob. (length blob.namespace.0 ≡ 29) × (bytes_eq blob.namespace.0 name.0 ≡ false)) blobs

blobs_differ : (name : Namespace) (blobs : List NamedBytes) → is_blob_namespace name.0 ≡ false
    → AllByRecursion (λ blob. is_blob_namespace blob.namespace.0 ≡ true) blobs → AllByRecursion IsBetween blobs → BlobsDiffer name blobs
blobs_differ name [] isnt are between = tt
blobs_differ name (blob ∷ blobs) isnt are between =
    ((between.0.size, not_blob name blob.namespace.0 isnt are.0), blobs_differ name blobs isnt are.1 between.1)

others-placed : (name : Namespace) (gap : Share) (end : ℕ) (blobs : List NamedBytes) → has_namespace name gap ≡ false → BlobsDiffer name blobs
    → AreOthers name (placed_behind true gap end blobs)
unfolding placed_behind
others-placed name gap end [] h differ = tt
others-placed name gap end (blob ∷ blobs) h differ =
    let before : List Share = replicate (start_after end blob - end) gap in
    let own : List Share = blob_shares_of blob.namespace blob.signer blob.bytes in
    let next : ℕ = start_after end blob + share_count_of blob in
    let after : has_namespace name (gap_behind true blob) ≡ false =
    has_other name blob.namespace (gap_behind true blob) differ.0.1
    (name_in-sequence_share blob.namespace (version_of blob.signer) true (to_be_bytes w32 0) [] differ.0.0) in
    others-append name (before ++ own) (placed_behind true (gap_behind true blob) next blobs)
    (others-append name before own (others-replicate name (start_after end blob - end) gap h)
    (others_named name blob.namespace own differ.0.1 (blob_shares_of-named blob.namespace blob.signer blob.bytes differ.0.0)))
    (others-placed name (gap_behind true blob) next blobs after differ.1)

others-lead : (name : Namespace) (count : ℕ) (blobs : List NamedBytes) → has_namespace name (padding_share primary_reserved_padding) ≡ false
    → AreOthers name (lead count blobs)
unfolding lead
others-lead name count [] h = tt
others-lead name count (blob ∷ blobs) h = others-replicate name count (padding_share primary_reserved_padding) h

-- ---- the fronts of a plan

-- the shares behind its fronts
abbrev pub behind_fronts : PlanParts → List Share
behind_fronts plan =
    lead (plan.reserve - length (front plan)) plan.blobs
    ++ (placed_behind true (padding_share primary_reserved_padding) plan.reserve (in_order plan.blobs)
    ++ replicate (plan_width plan * plan_width plan - length (planned plan)) (padding_share tail_padding))

-- its shares are the fronts and those
pub plan_parts : (plan : PlanParts) → (square_of_plan plan).shares
    ≡ unit_shares_of transaction plan.units ++ (unit_shares_of pay_for_blob plan.pay_units ++ behind_fronts plan)
plan_parts plan =
    let one : List Share = unit_shares_of transaction plan.units in
    let two : List Share = unit_shares_of pay_for_blob plan.pay_units in
    let first : List Share = lead (plan.reserve - length (front plan)) plan.blobs in
    let blobs : List Share = placed_behind true (padding_share primary_reserved_padding) plan.reserve (in_order plan.blobs) in
    let tail : List Share = replicate (plan_width plan * plan_width plan - length (planned plan)) (padding_share tail_padding) in
    append_assoc (front plan ++ first) blobs tail
    ∙ append_assoc (front plan) first (blobs ++ tail)
    ∙ append_assoc one two (first ++ (blobs ++ tail))

-- padding has another name than a front
abbrev pub IsFrontName : Namespace → Type 0
IsFrontName name =
    (is_blob_namespace name.0 ≡ false) × (bytes_eq primary_reserved_padding.0 name.0 ≡ false) × (bytes_eq tail_padding.0 name.0 ≡ false)

padding_other : (name other : Namespace) → length other.0 ≡ 29 → bytes_eq other.0 name.0 ≡ false → has_namespace name (padding_share other) ≡ false
padding_other name other size differs =
    has_other name other (padding_share other) differs (name_in-sequence_share other 0 true (to_be_bytes w32 0) [] size)

pub others_behind : (name : Namespace) (plan : PlanParts) → IsFrontName name → AllByRecursion (λ blob. is_blob_namespace blob.namespace.0 ≡ true) plan.blobs
    → AreOthers name (behind_fronts plan)
others_behind name plan is named =
    let padded : has_namespace name (padding_share primary_reserved_padding) ≡ false = padding_other name primary_reserved_padding refl is.1 in
    let tail : has_namespace name (padding_share tail_padding) ≡ false = padding_other name tail_padding refl is.2 in
    let differ : BlobsDiffer name plan.blobs = blobs_differ name plan.blobs is.0 named (blobs_between plan.blobs named) in
    let blobs : List Share = placed_behind true (padding_share primary_reserved_padding) plan.reserve (in_order plan.blobs) in
    let rest : List Share = replicate (plan_width plan * plan_width plan - length (planned plan)) (padding_share tail_padding) in
    others-append name (lead (plan.reserve - length (front plan)) plan.blobs) (blobs ++ rest)
    (others-lead name (plan.reserve - length (front plan)) plan.blobs padded)
    (others-append name blobs rest
    (others-placed name (padding_share primary_reserved_padding) plan.reserve (in_order plan.blobs) padded
    (All-in_order (λ (blob : NamedBytes). (length blob.namespace.0 ≡ 29) × (bytes_eq blob.namespace.0 name.0 ≡ false)) plan.blobs differ))
    (others-replicate name (plan_width plan * plan_width plan - length (planned plan)) (padding_share tail_padding) tail))

pub transaction_is : IsFrontName transaction
transaction_is = (refl, refl, refl)

pub pay_for_blob_is : IsFrontName pay_for_blob
pay_for_blob_is = (refl, refl, refl)

others_first : (plan : PlanParts) → AllByRecursion (λ blob. is_blob_namespace blob.namespace.0 ≡ true) plan.blobs
    → AreOthers transaction (unit_shares_of pay_for_blob plan.pay_units ++ behind_fronts plan)
others_first plan named =
    others-append transaction (unit_shares_of pay_for_blob plan.pay_units) (behind_fronts plan)
    (others_named transaction pay_for_blob (unit_shares_of pay_for_blob plan.pay_units) refl (unit_shares_of-named pay_for_blob plan.pay_units refl))
    (others_behind transaction plan transaction_is named)

-- the first front is the compact shares of its plain units
pub first_front_is : (plan : PlanParts) → AllByRecursion (λ blob. is_blob_namespace blob.namespace.0 ≡ true) plan.blobs
    → first_front (square_of_plan plan).shares ≡ unit_shares_of transaction plan.units
first_front_is plan named =
    let one : List Share = unit_shares_of transaction plan.units in
    let rest : List Share = unit_shares_of pay_for_blob plan.pay_units ++ behind_fronts plan in
    ap (run_of transaction) (plan_parts plan)
    ∙ run-append transaction one rest (unit_shares_of-named transaction plan.units refl) (others_first plan named)

-- and the second that of its payments
pub second_front_is : (plan : PlanParts) → AllByRecursion (λ blob. is_blob_namespace blob.namespace.0 ≡ true) plan.blobs
    → second_front (square_of_plan plan).shares ≡ unit_shares_of pay_for_blob plan.pay_units
second_front_is plan named =
    let one : List Share = unit_shares_of transaction plan.units in
    let two : List Share = unit_shares_of pay_for_blob plan.pay_units in
    ap second_front (plan_parts plan)
    ∙ ap (run_of pay_for_blob)
    (behind_run-append transaction one (two ++ behind_fronts plan) (unit_shares_of-named transaction plan.units refl) (others_first plan named))
    ∙ run-append pay_for_blob two (behind_fronts plan) (unit_shares_of-named pay_for_blob plan.pay_units refl)
    (others_behind pay_for_blob plan pay_for_blob_is named)
