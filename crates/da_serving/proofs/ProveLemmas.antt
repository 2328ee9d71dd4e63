-- What the command prove answers.
use Rattle.std.proofs.Common.{◌≡◌, ◌∙◌, ℕ, ◌*◌, ◌<◌, ◌≤◌, Bool, true, false, List, [], ◌∷◌, length, None, IsSome, refl, sym, ap, ap₂, subst, inl, inr, arith}
use Rattle.std.specs.List.{AllByRecursion}
use Rattle.namespace_id.specs.declared.cells.Cell.{Cell}
use Rattle.namespace_id.specs.declared.cells.Axis.{Axis}
use Rattle.namespace_id.specs.declared.shares.Share.{Share}
use Rattle.namespace_id.proofs.WidthLemmas.{is_width-le}
use Rattle.namespace_id.specs.declared.digests.Digest.{Digest}
use Rattle.data_header.specs.Paths.{most_hashes}
use Rattle.data_header.specs.Headers.{Roots, root_of}
use Rattle.data_header.specs.DataRoots.{data_root_of, OpensRoot}
use Rattle.square_layout.specs.Blocks.{SquareShares}
use Rattle.axis_roots.specs.declared.message.messages.Message as sent
use Rattle.axis_roots.specs.Grids.{header_of_grid, IsHeaderOf, share_at}
use Rattle.axis_roots.specs.Messages.{index, root_for}
use Rattle.axis_roots.specs.Openings.{OpensAt, IsProved}
use Rattle.axis_roots.specs.Trees.{message_at}
use Rattle.axis_roots.proofs.Grids.HeaderLemmas.{header_width}
use Rattle.blob_commit.specs.Proofs.{CommitParts, IsCommit, CommitHolds, RootedParts, RootedHolds, IsRooted, is_range}
use Rattle.blob_commit.proofs.ShapeLemmas.{shape_parts}
use Rattle.axis_roots.proofs.Grids.NumberLemmas.{index-lt}
use Rattle.da_wire.specs.declared.frames.Frame.{Frame}
use Rattle.da_wire.specs.declared.frames.Frame.TheVariants.{Commit, Rooted}
use Rattle.da_wire.specs.Spelling.{spelling}
use Rattle.frame_payloads.specs.kinds.Rooted.{IsRootedSent}
use Rattle.da_status.specs.declared.status.Status.{Status}
use Rattle.da_status.specs.declared.status.Status.TheVariants.{BadRequest}
use Rattle.da_status.specs.declared.status.Asked.TheVariants.{NoHeader, Range}
use Rattle.da_status.specs.Statuses.{status_kind}
use Rattle.da_serving.specs.Choices.{HasFrame}
use Rattle.da_files.specs.Frames.{square_in, Writes}
use Rattle.da_serving.specs.Sample.{samples_in, is_asked_inside, IsServedSample}
use Rattle.da_serving.specs.Prove.{IsRootProof, AllowsRootProof, ProveOf, ProvesIn, ProvesRange, ProveRangeOf}
use Rattle.da_files.specs.Contents.{square_file}
use Rattle.da_status.proofs.EndLemmas.{IsAnswer, status_answers}
use Rattle.da_files.proofs.FormLemmas.{over_each}
use Rattle.da_serving.proofs.SampleLemmas.{own_sample}
use Rattle.da_serving.proofs.ServingLemmas.{over_answers}

-- ---- the root proof of a sample

-- the axis through the cell of a sample that is proved is one of the header's
pub index_inside : (header : Roots) (m : sent.Message) (i : ℕ) → i ≡ index m.axis m.cell → IsProved header m → i < 2 * header.k
index_inside header m i is proved = omega (arith, is, index-lt header.k m.axis m.cell proved.inside)

-- hashes that lead from the root of this axis to the data root make a root proof of the sample, which holds
pub holds_rooted : (header : Roots) (m : sent.Message) (i k : ℕ) (root : Digest) (hashes : List (List ℕ)) → i ≡ index m.axis m.cell → k ≡ header.k
    → root ≡ root_of header m.axis i → OpensRoot (data_root_of header) header.k m.axis i (root_of header m.axis i) hashes → IsProved header m
    → RootedHolds (data_root_of header) (record { k = k; message = m; root = root; up = hashes })
holds_rooted header m i k root hashes here width is leads proved =
    let top : List ℕ = data_root_of header in
    let own : root ≡ root_for header m = is ∙ ap (root_of header m.axis) here in
    record {
      lead = subst (λ (n : ℕ). OpensRoot top n m.axis (index m.axis m.cell) root hashes) (sym width)
          (subst (λ (j : ℕ). OpensRoot top header.k m.axis j root hashes) here
          (subst (λ (d : Digest). OpensRoot top header.k m.axis i d hashes) (sym is) leads));
      opens = subst (λ (n : ℕ). OpensAt n m root) (sym width) (subst (OpensAt header.k m) (sym own) proved);
    }

-- ---- prove SQUARE REQUESTS

-- a root proof of a sample of a square is a root proof of the square's
pub is_root_proof : (header : Roots) (square : SquareShares) (asked : Cell × Axis) (m : sent.Message) (proof : RootedParts) → IsHeaderOf header square
    → IsServedSample square header asked m → proof.k ≡ header.k → proof.message ≡ m → RootedHolds (data_root_of header) proof → IsRootProof square header asked proof
is_root_proof header square asked m proof own is width message root = record {
  width = width ∙ header_width square.k own.grid header own.roots;
  cell = ap (λ (n : sent.Message). n.cell) message ∙ is.cell;
  axis = ap (λ (n : sent.Message). n.axis) message ∙ is.axis;
  grid = is.grid;
  extends = is.extends;
  share = subst (λ (n : sent.Message). n.share ≡ share_at (2 * square.k) is.grid n.cell) (sym message) is.share;
  holds = root;
}

-- a sample has a root proof under the data root of a header
abbrev pub HasRootProof : Roots → sent.Message → Type 0
HasRootProof header m =
    (proof : RootedParts) × (proof.k ≡ header.k) × (proof.message ≡ m) × IsRooted proof × (length proof.up ≤ most_hashes)
    × RootedHolds (data_root_of header) proof

-- such a proof can be written
proof_sent : (header : Roots) (m : sent.Message) (h : HasRootProof header m) → IsRootedSent h.0
proof_sent header m h =
    let proof = h.0 in
    record { k = omega (arith, is_width-le proof.k h.5.lead.width); is = h.3; few_hashes = h.4 }

-- each request of a cell inside allows a frame that has a spelling, by what is known of root proofs and of their frames
pub have_proofs : (header : Roots) (square : SquareShares) → IsHeaderOf header square → ((m : sent.Message) → IsProved header m → HasRootProof header m)
    → ((proof : RootedParts) → IsRootedSent proof → IsSome (spelling (Rooted proof)))
    → (requests : List (Cell × Axis)) → AllByRecursion (λ (asked : Cell × Axis). is_asked_inside square asked ≡ true) requests
    → AllByRecursion (HasFrame (AllowsRootProof square header)) requests
have_proofs header square own rooted spelled [] inside = tt
have_proofs header square own rooted spelled (asked ∷ requests) inside =
    let m = message_at square.k own.grid asked.0 asked.1 in
    let is = own_sample header square own asked inside.0 in
    let h = rooted m is.proved in (
      (Rooted h.0, (h.0, is_root_proof header square asked m h.0 own is h.1 h.2 h.5, refl), spelled h.0 (proof_sent header m h)),
      have_proofs header square own rooted spelled requests inside.1,
    )

-- what prove answers to its files is an answer
pub prove_answers : (files : List (List ℕ)) (w : List ℕ) (status : Status) → ProveOf files w status → IsAnswer (status_kind status)
prove_answers files w status h = over_answers is_asked_inside AllowsRootProof samples_in files w status h

-- ---- prove SQUARE START COUNT

-- a commitment proof that holds is of a range
holds_range : (root : List ℕ) (proof : CommitParts) → CommitHolds root proof → is_range proof.k proof.start proof.count ≡ true
holds_range root proof h = (shape_parts proof h.shape).1

module _ (square : SquareShares) (header : Roots) (start count : ℕ) (own : IsHeaderOf header square) where
  -- the square's header is of its width
  same : header.k ≡ square.k
  same = header_width square.k own.grid header own.roots

  -- the frame of a proof of the range is the answer
  pub proves_range : (proof : CommitParts) (frame : Frame) → proof.k ≡ header.k → proof.start ≡ start → proof.count ≡ count
      → IsCommit proof → CommitHolds (data_root_of header) proof → frame ≡ Commit proof → (w : List ℕ) (status : Status) → Writes frame w status
      → ProvesRange square start count w status
  proves_range proof frame k from n lengths holds is w status gives =
      let here : is_range proof.k proof.start proof.count ≡ is_range square.k start count =
      ap (λ (x : ℕ). is_range x proof.start proof.count) (k ∙ same) ∙ ap₂ (λ (x y : ℕ). is_range square.k x y) from n in
      let range : is_range square.k start count ≡ true = sym here ∙ holds_range (data_root_of header) proof holds in
      inl (
        header,
        own,
        subst (λ (b : Bool). ProvesIn b square header start count w status) (sym range)
            (proof, record { width = k ∙ same; start = from; count = n; lengths = lengths; holds = holds }, (ap spelling (sym is) ∙ gives.0, gives.1)),
      )

  -- what is no range of the square is refused
  pub proves_none : is_range header.k start count ≡ false → ProvesRange square start count [] (BadRequest Range)
  proves_none none =
      let outside : is_range square.k start count ≡ false = ap (λ (x : ℕ). is_range x start count) (sym same) ∙ none in
      inl (header, own, subst (λ (b : Bool). ProvesIn b square header start count [] (BadRequest Range)) (sym outside) (refl, refl))

module _ (square : SquareShares) (start count : ℕ) where
  -- the square has no header
  pub proves_nothing : (k : ℕ) (grid : List Share) → k ≡ square.k → None ≡ header_of_grid k grid
      → ((header : Roots) → header_of_grid square.k grid ≡ None → IsHeaderOf header square → ⊥)
      → ProvesRange square start count [] (BadRequest NoHeader)
  proves_nothing k grid same is law =
      inr ((λ header own. law header (ap (λ (n : ℕ). header_of_grid n grid) (sym same) ∙ sym is) own), (refl, refl))

  -- what is answered under a header is an answer, by whether the range is one
  in_range : (b : Bool) (header : Roots) (w : List ℕ) (status : Status) → ProvesIn b square header start count w status → IsAnswer (status_kind status)
  in_range true header w status h = status_answers status _ h.2.1 tt
  in_range false header w status h = status_answers status _ h.1 tt

  -- what is answered to a range of a square is an answer
  proves_answers : (w : List ℕ) (status : Status) → ProvesRange square start count w status → IsAnswer (status_kind status)
  proves_answers w status (inl h) = in_range (is_range square.k start count) h.0 w status h.2
  proves_answers w status (inr h) = status_answers status _ h.1.1 tt

-- what prove answers to its file is an answer
pub prove_range_answers : (start count : ℕ) (files : List (List ℕ)) (w : List ℕ) (status : Status) → ProveRangeOf start count files w status
    → IsAnswer (status_kind status)
prove_range_answers start count files w status h =
    over_each (λ square. ProvesRange square start count) (square_in (square_file files)) w status (IsAnswer (status_kind status))
    (λ square. proves_answers square start count w status) h
