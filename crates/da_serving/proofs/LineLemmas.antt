-- The lines of a list's blobs that `find` writes of its square.
use Rattle.std.proofs.Common.{true, false, cond, ◌≡◌, ◌∙◌, ℕ, zero, suc, ◌+◌, ◌-◌, ◌≤◌, Bool, List, [], ◌∷◌, ◌++◌, length, replicate, refl, sym, ap, arith, append_assoc}
use Rattle.std.specs.List.{AllByRecursion, flat_map}
use Rattle.std.specs.Str.{bytes_eq}
use Rattle.std.proofs.lemmas.Grind.{flat_map-append}
use Rattle.std.proofs.lemmas.List.{append-nil, append_cancel_left, nil_from_length}
use Rattle.namespace_id.specs.declared.shares.Share.{Share}
use Rattle.namespace_id.specs.Names.{primary_reserved_padding, tail_padding}
use Rattle.share_split.specs.Blobs.{NamedBytes, version_of, blob_shares_of}
use Rattle.share_split.specs.Walks.{size_in}
use Rattle.share_split.specs.Joined.{Piece, padding_share, piece_shares, piece_blobs, IsPiece, IsBlob}
use Rattle.share_split.specs.Joined.Piece.{blob}
use Rattle.share_split.proofs.Reading.Fields.{opening}
use Rattle.share_split.proofs.Writing.BlobLaws.{version_of-low, length-blob_shares_of}
use Rattle.square_layout.specs.Layout.{share_count_of, start_after, gap_behind, placed_behind}
use Rattle.square_layout.specs.Plans.{lead}
use Rattle.square_layout.proofs.PlaceLemmas.{start_after-ge}
use Rattle.square_layout.proofs.SquareLemmas.{low_is_namespace, tail_is_namespace}
use Rattle.da_serving.specs.Commit.{commitment_of}
use Rattle.da_serving.specs.Find.{range_line, found_line, found_lines}
use Rattle.da_serving.specs.Stated.{ranges_from, range_lines}
use Rattle.da_serving.proofs.FindLemmas.{padding_states, blob_states, IsPadded, padded, IsBegun, begun, none_left}

-- the line of a blob is that of its range, where it has the commitment
line_is : (start count : ℕ) (b : Bool) → cond b (range_line start count) [] ≡ range_lines (cond b ((start, count) ∷ []) [])
line_is start count true = sym (append-nil (range_line start count))
line_is start count false = refl

-- the padding in front of the blobs of a plan, and that behind them, states the length 0
abbrev low_padding : Share
low_padding = padding_share primary_reserved_padding

low : size_in low_padding ≡ 0
low = padding_states 0 primary_reserved_padding (omega arith) (low_is_namespace 0xFF (omega arith))

abbrev high_padding : Share
high_padding = padding_share tail_padding

high : size_in high_padding ≡ 0
high = padding_states 0 tail_padding (omega arith) tail_is_namespace

module _ (commitment : List ℕ) where
  -- so much padding has no lines
  gap_passed : (n : ℕ) (gap : Share) (more : List Piece) (after : List Share) → size_in gap ≡ 0 → AllByRecursion IsPiece more
      → replicate n gap ++ after ≡ flat_map piece_shares more → IsPadded commitment n more after
  gap_passed zero gap more after empty are parts = record {
    later = more;
    are = record { are = are; parts = parts };
    blobs = refl;
    lines = λ start. let same : start ≡ start + 0 = omega arith in ap (λ (k : ℕ). found_lines commitment k more) same;
  }
  gap_passed (suc n) gap more after empty are parts =
      let one = padded commitment more gap (replicate n gap ++ after) are parts empty in
      let rest = gap_passed n gap one.later after empty one.are.are one.are.parts in
      record {
        later = rest.later;
        are = rest.are;
        blobs = one.blobs ∙ rest.blobs;
        lines = λ start.
            let same : start + 1 + n ≡ start + suc n = omega arith in
            one.lines start ∙ rest.lines (start + 1) ∙ ap (λ (k : ℕ). found_lines commitment k rest.later) same;
      }

  -- blobs at their places, with padding behind them, have the lines of their ranges
  placed_lines : (gap pad : Share) (end tail : ℕ) (blobs : List NamedBytes) (more : List Piece) → size_in gap ≡ 0 → size_in pad ≡ 0
      → AllByRecursion IsBlob blobs → AllByRecursion IsPiece more → placed_behind true gap end blobs ++ replicate tail pad ≡ flat_map piece_shares more
      → blobs ≡ flat_map piece_blobs more → found_lines commitment end more ≡ range_lines (ranges_from commitment end blobs)
  unfolding placed_behind ranges_from
  placed_lines gap pad end tail [] more gap_is pad_is all are parts same =
      let last = gap_passed tail pad more [] pad_is are (append-nil (replicate tail pad) ∙ parts) in
      last.lines end ∙ none_left commitment (end + tail) last.later last.are.parts
  placed_lines gap pad end tail (one ∷ blobs) more gap_is pad_is all are parts same =
      let start : ℕ = start_after end one in
      let next : ℕ = start + share_count_of one in
      let before : List Share = replicate (start - end) gap in
      let shares : NamedBytes → List Share = λ b. blob_shares_of b.namespace b.signer b.bytes in
      let behind : List Share = placed_behind true (gap_behind true one) next blobs in
      let rest : List Share = shares one ++ (behind ++ replicate tail pad) in
      let grouped : before ++ rest ≡ (before ++ shares one ++ behind) ++ replicate tail pad =
      sym (append_assoc (before ++ shares one) behind (replicate tail pad) ∙ append_assoc before (shares one) (behind ++ replicate tail pad)) in
      let passed = gap_passed (start - end) gap more rest gap_is are (grouped ∙ parts) in
      let begins : IsBegun commitment passed.later rest (one ∷ blobs) =
      begun commitment passed.later (opening one.namespace (version_of one.signer) one.signer (length one.bytes) one.bytes) _ rest (one ∷ blobs)
      passed.are.are passed.are.parts refl (same ∙ passed.blobs)
      (λ e. all.0.some (nil_from_length one.bytes (sym (blob_states one all.0) ∙ e))) in
      let has : one ∷ blobs ≡ begins.named ∷ flat_map piece_blobs begins.later = begins.blobs in
      let named : begins.named ≡ one = cc in
      let left : blobs ≡ flat_map piece_blobs begins.later = cc in
      let later = placed_lines (gap_behind true one) pad next tail blobs begins.later
      (padding_states (version_of one.signer) one.namespace (version_of-low one.signer) all.0.name) pad_is all.1 begins.are
      (append_cancel_left (shares one) (behind ++ replicate tail pad) (flat_map piece_shares begins.later)
      (begins.parts ∙ ap (λ (b : NamedBytes). shares b ++ flat_map piece_shares begins.later) named)) left in
      let here : List (ℕ × ℕ) = cond (bytes_eq (commitment_of one) commitment) ((start, share_count_of one) ∷ []) [] in
      let there : end + (start - end) ≡ start = omega (arith, start_after-ge end one) in
      let long : start + length (shares one) ≡ next = ap (λ (n : ℕ). start + n) (length-blob_shares_of one.namespace one.signer one.bytes) in
      passed.lines end ∙ ap (λ (n : ℕ). found_lines commitment n passed.later) there ∙ begins.lines start
      ∙ ap (λ (b : NamedBytes). found_line commitment start (blob b) ++ found_lines commitment (start + length (shares b)) begins.later) named
      ∙ ap (λ (n : ℕ). found_line commitment start (blob one) ++ found_lines commitment n begins.later) long
      ∙ ap (λ (l : List ℕ). found_line commitment start (blob one) ++ l) later
      ∙ ap (λ (l : List ℕ). l ++ range_lines (ranges_from commitment next blobs)) (line_is start (share_count_of one) (bytes_eq (commitment_of one) commitment))
      ∙ sym (flat_map-append (λ (range : ℕ × ℕ). range_line range.0 range.1) here (ranges_from commitment next blobs))

  -- so do those behind padding up to a reserved place
  pub plan_lines : (count reserve tail : ℕ) (order : List NamedBytes) (more : List Piece) → count ≤ reserve → AllByRecursion IsBlob order
      → AllByRecursion IsPiece more
      → lead (reserve - count) order ++ (placed_behind true (padding_share primary_reserved_padding) reserve order ++ replicate tail (padding_share tail_padding))
      ≡ flat_map piece_shares more
      → order ≡ flat_map piece_blobs more → found_lines commitment count more ≡ range_lines (ranges_from commitment reserve order)
  unfolding lead placed_behind ranges_from
  plan_lines count reserve tail [] more room all are parts same = placed_lines low_padding high_padding count tail [] more low high tt are parts same
  plan_lines count reserve tail (one ∷ order) more room all are parts same =
      let there : count + (reserve - count) ≡ reserve = omega (arith, room) in
      let behind : List Share = placed_behind true low_padding reserve (one ∷ order) ++ replicate tail high_padding in
      let passed = gap_passed (reserve - count) low_padding more behind low are parts in
      passed.lines count ∙ ap (λ (n : ℕ). found_lines commitment n passed.later) there
      ∙ placed_lines low_padding high_padding reserve tail (one ∷ order) passed.later low high all passed.are.are passed.are.parts (same ∙ passed.blobs)
