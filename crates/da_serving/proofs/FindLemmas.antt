-- Where in a square the blobs stand that have a commitment.
use Rattle.std.proofs.Common.{◌≡◌, ◌∙◌, ℕ, ◌+◌, ◌≤◌, true, false, eqb, List, [], ◌∷◌, ◌++◌, length, drop, Ok, Err, Result, refl, sym, ap, ap₂, subst, arith, lit<, None, if◌then◌else◌}
use Rattle.std.specs.Prelude.{MatchResult, ◌==◌}
use Rattle.std.specs.List.{AllByRecursion, flat_map}
use Rattle.std.proofs.lemmas.Bool.Decides.{nat_tests}
use Rattle.std.proofs.lemmas.List.{append_assoc, append-nil, nil_from_length, length-append}
use Rattle.std.proofs.Math.Seq.{drop-append_seam}
use Rattle.namespace_id.specs.Names.{IsNamespace}
use Rattle.namespace_id.specs.declared.namespaces.Namespace.{Namespace}
use Rattle.namespace_id.specs.declared.shares.Share.{Share}
use Rattle.share_split.specs.declared.joining.JoinError.{JoinError}
use Rattle.share_split.specs.Blobs.{NamedBytes, version_of, blob_shares_of}
use Rattle.share_split.specs.Walks.{size_in, blobs_joined}
use Rattle.share_split.specs.Joined.{Piece, padding_of, piece_shares, piece_blobs, IsPiece, IsBlob, AreBlobs}
use Rattle.share_split.specs.Joined.Piece.{padding, blob}
use Rattle.share_split.proofs.Reading.Fields.{opening, opening_is_first}
use Rattle.share_split.proofs.Reading.Signers.{blob_label, padding_label}
use Rattle.share_split.proofs.Writing.BlobLaws.{length-blob_shares_of}
use Rattle.namespace_id.specs.Sizes.{greatest_width, most_shares}
use Rattle.namespace_id.proofs.WidthLemmas.{is_width-le}
use Rattle.std.proofs.Math.Nat.{mul-le-mul_right}
use Rattle.square_layout.specs.Blocks.{SquareShares, IsSquare}
use Rattle.square_layout.specs.Layout.{share_count_of}
use Rattle.da_status.specs.declared.status.Asked.TheVariants.{Shares}
use Rattle.da_status.specs.declared.status.Status.{Status}
use Rattle.da_status.specs.declared.status.Status.TheVariants.{Done, BadRequest, Refused}
use Rattle.da_status.specs.Statuses.{status_kind, output}
use Rattle.da_status.specs.Outcome.{Relation, Refuses}
use Rattle.da_files.specs.Contents.{square_file}
use Rattle.da_files.specs.Frames.{square_in, WritesText}
use Rattle.da_serving.specs.Blobs.{behind_compact}
use Rattle.da_serving.specs.Find.{ArePieces, found_line, found_lines, AreFound, compact_front, found_status, Finds, FindOf}
use Rattle.da_status.proofs.EndLemmas.{IsAnswer, answer_output, status_answers}
use Rattle.da_files.proofs.FormLemmas.{over_each}

-- ---- what the first share of a piece states

-- padding states the length 0
pub padding_states : (version : ℕ) (name : Namespace) → version ≤ 1 → IsNamespace name → size_in (padding_of version name) ≡ 0
padding_states version name low named = (opening_is_first name version None 0 [] named.size_is (lit< tt) (padding_label version low)).size_is

-- a length above 0 isn't 0
some_size : (bytes : List ℕ) → (bytes ≡ [] → ⊥) → eqb (length bytes) 0 ≡ false
some_size [] some = absurd (some refl)
some_size (byte ∷ bytes) some = grind (arith, nat_tests)

-- a blob states that of its bytes
pub blob_states : (named : NamedBytes) → IsBlob named
    → size_in (opening named.namespace (version_of named.signer) named.signer (length named.bytes) named.bytes) ≡ length named.bytes
blob_states named is =
    (opening_is_first named.namespace (version_of named.signer) named.signer (length named.bytes) named.bytes is.name.size_is (omega (arith, is.few))
    (blob_label named.signer (length named.bytes) (some_size named.bytes is.some) is.signer)).size_is

-- ---- one piece more

-- what is left behind so many padding shares
pub record IsPadded (commitment : List ℕ) (n : ℕ) (more : List Piece) (after : List Share) : Type 0 where
  pub later : List Piece
  pub are : ArePieces after later
  pub blobs : flat_map piece_blobs more ≡ flat_map piece_blobs later
  pub lines : (start : ℕ) → found_lines commitment start more ≡ found_lines commitment (start + n) later

pub padded : (commitment : List ℕ) (more : List Piece) (share : Share) (after : List Share) → AllByRecursion IsPiece more
    → share ∷ after ≡ flat_map piece_shares more → size_in share ≡ 0 → IsPadded commitment 1 more after
unfolding found_lines
padded commitment [] share after are parts zero = absurd cc
padded commitment (padding version name ∷ later) share after are parts zero = record {
  later = later;
  are = record { are = are.1; parts = cc };
  blobs = refl;
  lines = λ start. refl;
}
padded commitment (blob named ∷ later) share after are parts zero =
    let own : Share = opening named.namespace (version_of named.signer) named.signer (length named.bytes) named.bytes in
    let head : share ≡ own = cc in
    let none : length named.bytes ≡ 0 = sym (blob_states named are.0) ∙ sym (ap size_in head) ∙ zero in
    absurd (are.0.some (nil_from_length named.bytes none))

-- the blob in front of what is left
pub record IsBegun (commitment : List ℕ) (more : List Piece) (rest : List Share) (left : List NamedBytes) : Type 0 where
  pub named : NamedBytes
  pub is : IsBlob named
  pub later : List Piece
  pub are : AllByRecursion IsPiece later
  pub parts : rest ≡ blob_shares_of named.namespace named.signer named.bytes ++ flat_map piece_shares later
  pub blobs : left ≡ named ∷ flat_map piece_blobs later
  pub lines : (start : ℕ) → found_lines commitment start more
      ≡ found_line commitment start (blob named) ++ found_lines commitment (start + length (blob_shares_of named.namespace named.signer named.bytes)) later

pub begun : (commitment : List ℕ) (more : List Piece) (share : Share) (after rest : List Share) (left : List NamedBytes) → AllByRecursion IsPiece more
    → rest ≡ flat_map piece_shares more → rest ≡ share ∷ after → left ≡ flat_map piece_blobs more → (size_in share ≡ 0 → ⊥)
    → IsBegun commitment more rest left
unfolding found_lines
begun commitment [] share after rest left are parts first blobs some = absurd cc
begun commitment (padding version name ∷ later) share after rest left are parts first blobs some =
    let head : share ≡ padding_of version name = cc in
    absurd (some (ap size_in head ∙ padding_states version name are.0.0 are.0.1))
begun commitment (blob named ∷ later) share after rest left are parts first blobs some = record {
  named = named;
  is = are.0;
  later = later;
  are = are.1;
  parts = parts;
  blobs = blobs;
  lines = λ start. refl;
}

-- ---- the walk over the shares

-- how far a walk has come: the lines so far, and those of what is left
pub record IsWalked (commitment : List ℕ) (first : ℕ) (shares : List Share) (text : List ℕ) (start : ℕ) (rest : List Share) (left : List NamedBytes) : Type 0 where
  pub all : List Piece
  pub are_all : ArePieces shares all
  pub more : List Piece
  pub are_more : ArePieces rest more
  pub blobs : left ≡ flat_map piece_blobs more
  pub lines : found_lines commitment first all ≡ text ++ found_lines commitment start more
  pub size : start + length rest ≡ first + length shares

pub walk_begins : (commitment : List ℕ) (first : ℕ) (shares : List Share) (blobs : List NamedBytes) → AreBlobs shares blobs
    → IsWalked commitment first shares [] first shares blobs
walk_begins commitment first shares blobs are = record {
  all = are.pieces;
  are_all = record { are = are.are_pieces; parts = are.parts };
  more = are.pieces;
  are_more = record { are = are.are_pieces; parts = are.parts };
  blobs = are.shown;
  lines = refl;
  size = refl;
}

module _ {commitment : List ℕ} {first : ℕ} {shares : List Share} {text : List ℕ} {start : ℕ} {rest : List Share} {left : List NamedBytes}
    (w : IsWalked commitment first shares text start rest left) {share : Share} {after : List Share} (here : rest ≡ share ∷ after) where
  -- past a padding share
  pub walk_passes : size_in share ≡ 0 → IsWalked commitment first shares text (start + 1) after left
  walk_passes zero =
      let next = padded commitment w.more share after w.are_more.are (sym here ∙ w.are_more.parts) zero in
      record {
        all = w.all;
        are_all = w.are_all;
        more = next.later;
        are_more = next.are;
        blobs = w.blobs ∙ next.blobs;
        lines = w.lines ∙ ap (λ (l : List ℕ). text ++ l) (next.lines start);
        size = omega (arith, w.size, ap length here);
      }

  -- a blob is left
  next_blob : (size_in share ≡ 0 → ⊥) → IsBegun commitment w.more rest left
  next_blob some = begun commitment w.more share after rest left w.are_more.are w.are_more.parts here w.blobs some

  pub walk_has : (size_in share ≡ 0 → ⊥) → left ≡ [] → ⊥
  walk_has some none = let next = next_blob some in let blobs : left ≡ next.named ∷ flat_map piece_blobs next.later = next.blobs in absurd cc

  module _ (some : size_in share ≡ 0 → ⊥) {one : NamedBytes} {others : List NamedBytes} (found : left ≡ one ∷ others) where
    -- it is the one that was found
    walk_one : (next_blob some).named ≡ one
    walk_one =
        let blobs : left ≡ (next_blob some).named ∷ flat_map piece_blobs (next_blob some).later = (next_blob some).blobs in cc

    walk_others : flat_map piece_blobs (next_blob some).later ≡ others
    walk_others =
        let blobs : left ≡ (next_blob some).named ∷ flat_map piece_blobs (next_blob some).later = (next_blob some).blobs in cc

    -- which is a blob, whose shares are there
    pub walk_blob : IsBlob one
    walk_blob = subst IsBlob walk_one (next_blob some).is

    walk_parts : rest ≡ blob_shares_of one.namespace one.signer one.bytes ++ flat_map piece_shares (next_blob some).later
    walk_parts =
        (next_blob some).parts
        ∙ ap (λ (b : NamedBytes). blob_shares_of b.namespace b.signer b.bytes ++ flat_map piece_shares (next_blob some).later) walk_one

    pub walk_bytes : 1 ≤ length one.bytes
    walk_bytes = let size : eqb (length one.bytes) 0 ≡ false = some_size one.bytes walk_blob.some in grind (arith, nat_tests)

    pub walk_count : share_count_of one ≤ length rest
    walk_count =
        omega (
          arith,
          ap length walk_parts,
          length-append (blob_shares_of one.namespace one.signer one.bytes) (flat_map piece_shares (next_blob some).later),
          length-blob_shares_of one.namespace one.signer one.bytes,
        )

    -- past its shares
    pub walk_goes : {count : ℕ} {later : List Share} {lines : List ℕ} → count ≡ share_count_of one → later ≡ drop count rest
        → lines ≡ text ++ found_line commitment start (blob one) → IsWalked commitment first shares lines (start + count) later others
    walk_goes {count} {later} {lines} counted behind written =
        let next = next_blob some in
        let own : List Share = blob_shares_of one.namespace one.signer one.bytes in
        let long : length own ≡ count = length-blob_shares_of one.namespace one.signer one.bytes ∙ sym counted in
        let tail : List ℕ = found_lines commitment (start + count) next.later in
        let parts : later ≡ flat_map piece_shares next.later =
        behind ∙ ap₂ (λ (n : ℕ) (l : List Share). drop n l) (sym long) walk_parts ∙ drop-append_seam own (flat_map piece_shares next.later) in
        let both : found_lines commitment start w.more ≡ found_line commitment start (blob one) ++ tail =
        next.lines start
        ∙ ap (λ (b : NamedBytes). found_line commitment start (blob b)
        ++ found_lines commitment (start + length (blob_shares_of b.namespace b.signer b.bytes)) next.later) walk_one
        ∙ ap (λ (n : ℕ). found_line commitment start (blob one) ++ found_lines commitment (start + n) next.later) long in
        record {
          all = w.all;
          are_all = w.are_all;
          more = next.later;
          are_more = record { are = next.are; parts = parts };
          blobs = sym walk_others;
          lines =
              w.lines ∙ ap (λ (l : List ℕ). text ++ l) both ∙ sym (append_assoc text (found_line commitment start (blob one)) tail)
              ∙ ap (λ (l : List ℕ). l ++ tail) (sym written);
          size =
              omega (
                arith,
                w.size,
                ap length walk_parts,
                length-append own (flat_map piece_shares next.later),
                long,
                ap length parts,
              );
        }

-- of no shares no lines are left
pub none_left : (commitment : List ℕ) (start : ℕ) (more : List Piece) → [] ≡ flat_map piece_shares more → found_lines commitment start more ≡ []
unfolding found_lines
none_left commitment start [] e = refl
none_left commitment start (padding version name ∷ more) e = absurd cc
none_left commitment start (blob named ∷ more) e = absurd cc

pub walk_ends : {commitment : List ℕ} {first : ℕ} {shares : List Share} {text : List ℕ} {start : ℕ} {rest : List Share} {left : List NamedBytes}
    → IsWalked commitment first shares text start rest left → rest ≡ [] → AreFound commitment first shares text
walk_ends {commitment} {first} {shares} {text} {start} {rest} {left} w none =
    let last = none_left commitment start w.more (sym none ∙ w.are_more.parts) in
    (w.all, w.are_all, sym (w.lines ∙ ap (λ (l : List ℕ). text ++ l) last ∙ append-nil text))

-- ---- answers

-- lines are a complete output, whether there are any or none
pub found_output : (text : List ℕ) → status_kind (found_status text) ≡ output
found_output [] = refl
found_output (byte ∷ text) = elim (length (byte ∷ text) == 0) as (λ b. status_kind (if b then Refused else Done) ≡ output) [ true ↦ refl | false ↦ refl ]

-- what is answered, by what the shares are read as
abbrev pub found_by : List ℕ → SquareShares → Result (List NamedBytes) JoinError → Relation
found_by commitment square o w status =
    MatchResult o
    (λ blobs. (text : List ℕ) × AreFound commitment (compact_front square) (behind_compact square.shares) text
    × WritesText (found_status text) text w status)
    (λ why. Refuses (BadRequest (Shares why)) w status)

-- a square has no more shares than the greatest
pub square_fits : (square : SquareShares) → IsSquare square → length square.shares ≤ most_shares
square_fits square is =
    let le : square.k ≤ greatest_width = is_width-le square.k is.width in
    omega (arith, is.count, le, mul-le-mul_right square.k le)

-- the lines of the same shares from the same number on
pub found_same : (commitment : List ℕ) (first other : ℕ) (shares others : List Share) (text : List ℕ) → first ≡ other → shares ≡ others
    → AreFound commitment first shares text → AreFound commitment other others text
found_same commitment first other shares others text from same found =
    subst (λ (l : List Share). AreFound commitment other l text) same (subst (λ (n : ℕ). AreFound commitment n shares text) from found)

-- the lines of shares that are blobs
pub finds_lines : (commitment : List ℕ) (square : SquareShares) (blobs : List NamedBytes) (text : List ℕ) → blobs_joined (behind_compact square.shares) ≡ Ok blobs
    → AreFound commitment (compact_front square) (behind_compact square.shares) text → (w : List ℕ) (status : Status)
    → WritesText (found_status text) text w status → Finds commitment square w status
finds_lines commitment square blobs text read found w status writes =
    subst (λ (o : Result (List NamedBytes) JoinError). found_by commitment square o w status) (sym read) (text, found, writes)

-- either is an answer
either_answers : (commitment : List ℕ) (square : SquareShares) (o : Result (List NamedBytes) JoinError) (w : List ℕ) (status : Status)
    → found_by commitment square o w status → IsAnswer (status_kind status)
either_answers commitment square (Ok blobs) w status h = status_answers status (found_status h.0) h.2.1 (answer_output (found_status h.0) (found_output h.0))
either_answers commitment square (Err why) w status h = status_answers status (BadRequest (Shares why)) h.1 tt

-- what find answers to its files is an answer
pub find_answers : (commitment : List ℕ) (files : List (List ℕ)) (w : List ℕ) (status : Status) → FindOf commitment files w status → IsAnswer (status_kind status)
find_answers commitment files w status h =
    over_each (Finds commitment) (square_in (square_file files)) w status (IsAnswer (status_kind status))
    (λ square. either_answers commitment square (blobs_joined (behind_compact square.shares)) w status) h
