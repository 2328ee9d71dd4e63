-- How much room the blobs ask for that payments state by their places, before these blobs are kept (docs/RULES.md, "A block of
-- the network").
use Rattle.std.specs.Prelude.{◌≡◌, ℕ, ◌+◌, ◌^◌, ◌<◌, ◌∷◌, ◌++◌, [], ◌&&◌, nat_le, min, not, Bool, List, length, drop, replicate, slice_get, Option, Some, is_some, option_map, if◌then◌else◌}
use Rattle.std.specs.List.{flat_map, list_all, AllByRecursion}
use Rattle.namespace_id.specs.declared.shares.Share.{Share}
use Rattle.namespace_id.specs.Names.{namespace_refusal}
use Rattle.share_split.specs.Blobs.{NamedBytes}
use Rattle.share_split.specs.Units.{unit_share_count}
use Rattle.square_layout.specs.Plans.{blobs_bound}
use Rattle.square_layout.specs.Refusals.{max_shares, most_named}
use Rattle.tx_list.specs.declared.measuring.Measure.{Measure}
use Rattle.tx_list.specs.Payments.{ListParts, blobs_of}
use Rattle.tx_list.specs.Wrapped.{wrapped}
use Rattle.tx_list.specs.Reserves.{full_place, wrap_full}
use Rattle.tx_list.specs.Reads.{list_of}
use Rattle.tx_list.specs.ReadRefusals.{read_refusal}
use Rattle.tx_list.specs.Unwrapped.{wrapped_tx, wrapped_places, is_wrapper}
use Rattle.tx_list.specs.BackRefusals.{blob_at}

-- whether a blob's namespace is one as its payment spells it: the id alone, which is read as of version 0
abbrev pub is_named_again : NamedBytes → Bool
is_named_again blob = not (is_some (namespace_refusal (0 ∷ drop 1 blob.namespace.0)))

-- what blobs ask for: as many shares as they may take at most, where a greater number isn't told, and whether each is so named
abbrev pub measure_of : List NamedBytes → Measure
measure_of blobs = record { bound = min (blobs_bound blobs) most_named; named = list_all is_named_again blobs }

-- what the blob asks for that begins at a place, if one does
abbrev pub measure_at : List Share → ℕ → Option Measure
measure_at shares place = option_map (λ blob. measure_of (blob ∷ [])) (blob_at shares place)

-- what is known of blobs, each of which begins at the share of the same place
abbrev pub AreKnown : List Share → List (Option Measure) → Type 0
AreKnown shares known =
    (place : ℕ) (measure : Measure) → slice_get known place ≡ Some (Some measure) → measure_at shares place ≡ Some measure

-- units whose transactions have lengths of 64 bits
abbrev pub HaveLengths : List (List ℕ) → Type 0
HaveLengths units = AllByRecursion (λ unit. length (wrapped_tx unit) < 2 ^ 64) units

-- ---- whether a list has a square

-- a unit, wrapped as long as its places can make it, if it is a wrapped payment
abbrev pub full_of : List ℕ → List (List ℕ)
full_of unit =
    if is_wrapper unit then wrapped (wrapped_tx unit) (replicate (length (wrapped_places unit)) full_place) ∷ [] else []

-- how many shares the width is for of the square of a list with wrapped payments behind it, whose blobs may take so many
abbrev pub bound_with : ListParts → List (List ℕ) → ℕ → ℕ
bound_with list payments bound =
    unit_share_count list.units + unit_share_count (wrap_full list.payments ++ flat_map full_of payments)
    + (blobs_bound (blobs_of list.payments) + bound)

-- whether transactions have a square with wrapped payments behind them, of whose blobs this was measured
abbrev pub has_square : List (List ℕ) → List (List ℕ) → Measure → Bool
has_square plain payments blobs =
    not (is_some (read_refusal plain)) && (blobs.named && nat_le (bound_with (list_of plain) payments blobs.bound) max_shares)
