-- What list of transactions a square is read as, and the first check that fails where it is laid out as none (docs/RULES.md,
-- "A block of the network").
use Rattle.std.specs.Prelude.{◌≡◌, ◌⊎◌, ℕ, suc, ◌*◌, ◌==◌, ◌||◌, min, Bool, List, [], ◌∷◌, length, take, drop, map, flat_map, slice_get, Option, Some, None, is_some, option_map, Result, Ok, Err, if◌then◌else◌}
use Rattle.std.specs.Option.{option_map_or, option_or}
use Rattle.std.specs.Str.{bytes_eq}
use Rattle.namespace_id.specs.declared.namespaces.Namespace.{Namespace}
use Rattle.namespace_id.specs.declared.shares.Share.{Share}
use Rattle.namespace_id.specs.Names.{transaction, pay_for_blob}
use Rattle.namespace_id.specs.Shares.{name_in}
use Rattle.share_split.specs.declared.joining.JoinError.{JoinError}
use Rattle.share_split.specs.Blobs.{NamedBytes, share_count}
use Rattle.share_split.specs.Walks.{size_in, is_signed, blobs_joined, units_of}
use Rattle.square_layout.specs.Blocks.{SquareShares}
use Rattle.tx_list.specs.declared.refusals.BackError.{BackError}
use Rattle.tx_list.specs.declared.refusals.BackError.TheVariants.{Units, Payments, Wrapper, Index, Unlike, NoMemory}
use Rattle.tx_list.specs.Payments.{PaymentParts, ListParts}
use Rattle.tx_list.specs.Reads.{list_of}
use Rattle.tx_list.specs.ReadRefusals.{read_refusal}
use Rattle.tx_list.specs.Refusals.{list_size_refusal}
use Rattle.tx_list.specs.Spelled.{spelled_list}
use Rattle.tx_list.specs.Lists.{square_of_list}
use Rattle.tx_list.specs.Unwrapped.{wrapped_tx, wrapped_places, is_wrapper}

-- ---- the fronts

-- whether a share has this namespace
abbrev pub has_namespace : Namespace → Share → Bool
has_namespace name share = bytes_eq (name_in share).0 name.0

-- the longest run of shares of a namespace at the front
unfoldable pub run_of : Namespace → List Share → List Share
run_of name [] = []
run_of name (share ∷ shares) = if has_namespace name share then share ∷ run_of name shares else []

-- the shares behind it
abbrev pub behind_run : Namespace → List Share → List Share
behind_run name shares = drop (length (run_of name shares)) shares

-- the first front is the run of plain transactions' shares, and the second, behind it, that of payments'
abbrev pub first_front : List Share → List Share
first_front shares = run_of transaction shares

abbrev pub second_front : List Share → List Share
second_front shares = run_of pay_for_blob (behind_run transaction shares)

-- why a front isn't read as units, as `why` tells it
abbrev pub front_refusal : (JoinError → BackError) → Result (List (List ℕ)) JoinError → Option BackError
front_refusal why (Err e) = Some (why e)
front_refusal why (Ok units) = None

-- the units that it is read as; none where it isn't
abbrev pub front_units : Result (List (List ℕ)) JoinError → List (List ℕ)
front_units (Err e) = []
front_units (Ok units) = units

-- ---- blobs

-- how many shares a sequence takes that this share begins
abbrev pub stated_count : Share → ℕ
stated_count share = share_count (size_in share) (is_signed share)

-- the shares of the sequence that begins at a place, as many of them as there are; none behind the last share
abbrev pub sequence_at : List Share → ℕ → List Share
sequence_at shares place = option_map_or (λ share. take (stated_count share) (drop place shares)) (slice_get shares place) []

-- what was read, where it is one blob and nothing else
abbrev pub the_one : List NamedBytes → Option NamedBytes
the_one [] = None
the_one (blob ∷ []) = Some blob
the_one (blob ∷ other ∷ others) = None

abbrev pub one_blob : Result (List NamedBytes) JoinError → Option NamedBytes
one_blob (Err e) = None
one_blob (Ok blobs) = the_one blobs

-- the blob whose sequence begins at a place, if one does
abbrev pub blob_at : List Share → ℕ → Option NamedBytes
blob_at shares place = one_blob (blobs_joined (sequence_at shares place))

-- the blobs at these places
abbrev pub blobs_at : List Share → List ℕ → List NamedBytes
blobs_at shares places = flat_map (λ place. option_map_or (λ blob. blob ∷ []) (blob_at shares place) []) places

-- the first place, from place j of payment i on, at which no blob begins
unfoldable pub places_refusal : ℕ → ℕ → List Share → List ℕ → Option BackError
places_refusal i j shares [] = None
places_refusal i j shares (place ∷ places) =
    if is_some (blob_at shares place) then places_refusal i (suc j) shares places else Some (Index i j)

-- ---- payments

-- the payment that a unit of the second front is: the transaction in it, and the blobs at its places
abbrev pub payment_at : List Share → List ℕ → PaymentParts
payment_at shares unit = record { tx = wrapped_tx unit; blobs = blobs_at shares (wrapped_places unit) }

-- why unit i of the second front isn't one
abbrev pub wrapper_refusal : ℕ → List Share → List ℕ → Option BackError
wrapper_refusal i shares unit =
    if is_wrapper unit then places_refusal i 0 shares (wrapped_places unit) else Some (Wrapper i)

-- the first of these units, from unit i on, that isn't one
unfoldable pub wrappers_refusal : ℕ → List Share → List (List ℕ) → Option BackError
wrappers_refusal i shares [] = None
wrappers_refusal i shares (unit ∷ units) =
    option_or (wrapper_refusal i shares unit) (wrappers_refusal (suc i) shares units)

-- ---- the list

-- the list that a square is read as
abbrev pub back_list : SquareShares → ListParts
back_list square = record {
  units = front_units (units_of (first_front square.shares));
  payments = map (payment_at square.shares) (front_units (units_of (second_front square.shares)));
}

-- why it isn't read
abbrev pub part_refusal : SquareShares → Option BackError
part_refusal square =
    option_or (front_refusal Units (units_of (first_front square.shares)))
    (option_or (front_refusal Payments (units_of (second_front square.shares)))
    (wrappers_refusal 0 square.shares (front_units (units_of (second_front square.shares)))))

-- ---- the square of that list

-- the first share, from share i on, in which two lists of shares differ
unfoldable pub first_unlike : ℕ → List Share → List Share → Option ℕ
first_unlike i [] [] = None
first_unlike i [] (other ∷ others) = Some i
first_unlike i (share ∷ shares) [] = Some i
first_unlike i (share ∷ shares) (other ∷ others) =
    if bytes_eq share.0 other.0 then first_unlike (suc i) shares others else Some i

-- the first share in which two squares differ: where their widths do, the first behind the lesser square
abbrev pub unlike_at : SquareShares → SquareShares → Option ℕ
unlike_at square other =
    if square.k == other.k then first_unlike 0 square.shares other.shares
    else Some (min square.k other.k * min square.k other.k)

-- why transactions aren't laid out as a square: no check may refuse them, and their square is this one
abbrev pub laid_refusal : SquareShares → List (List ℕ) → Option BackError
laid_refusal square transactions =
    if is_some (read_refusal transactions) || is_some (list_size_refusal (list_of transactions)) then Some (Unlike 0) else
    option_map Unlike (unlike_at square (square_of_list (list_of transactions)))

-- why a square isn't one that a list is laid out as
abbrev pub back_refusal : SquareShares → Option BackError
back_refusal square = option_or (part_refusal square) (laid_refusal square (spelled_list (back_list square)))

-- ---- how a call answers

-- a call answered the first check that fails, or, where none does, a value; unless memory ran out
abbrev pub AnswersBack : {X : Type 0} → Result X BackError → Option BackError → Type 0
AnswersBack (Ok x) refusal = refusal ≡ None
AnswersBack (Err e) refusal = (e ≡ NoMemory) ⊎ (refusal ≡ Some e)
