-- What the refusal of a root proof says of it.
use Rattle.std.proofs.Common.{◌≡◌, ◌∙◌, ◌*◌, ℕ, Bool, true, false, List, Option, Some, None, Result, Ok, Err, if◌then◌else◌, refl, sym, ap}
use Rattle.std.specs.Prelude.{IsErrOf}
use Rattle.std.proofs.lemmas.Bool.{and_parts, and_from}
use Rattle.std.specs.Option.{option_map_or}
use Rattle.namespace_id.specs.Answers.{refusal_in}
use Rattle.namespace_id.specs.Cells.{is_width, is_in_square}
use Rattle.nmt_tree.specs.Roots.{halvings}
use Rattle.nmt_proofs.specs.declared.opening.OpenRefusal.{OpenRefusal}
use Rattle.nmt_proofs.proofs.Parts.CauseLemmas.{opens_where, not_refused_where}
use Rattle.blob_commit.specs.declared.rooting.RootedRefusal.{RootedRefusal}
use Rattle.blob_commit.specs.declared.rooting.RootedRefusal.TheVariants as V
use Rattle.data_header.specs.DataRoots.{OpensRoot}
use Rattle.axis_roots.specs.Messages.{IsMessage, shown_by, index}
use Rattle.blob_commit.specs.Proofs.{RootedParts, RootedHolds}
use Rattle.blob_commit.specs.Refusals.{is_led, has_rooted_shape, is_rooted_led, sample_refusal, rooted_refusal}
use Rattle.blob_commit.proofs.WalkLemmas.{led-opens, opens-led, not_led}

-- the refusal, by the three checks
abbrev pub refusal_by : Bool → Bool → Option OpenRefusal → Option RootedRefusal
refusal_by shape led sample =
    if shape then (if led then option_map_or (λ why. Some (V.Path why)) sample None else Some V.Root) else Some V.Shape

-- an answer with this refusal is it
refused_by : (r : Result (Unit {0}) RootedRefusal) (e : RootedRefusal) → refusal_in r ≡ Some e → IsErrOf r e
refused_by (Ok x) e h = absurd cc
refused_by (Err x) e h = let same : x ≡ e = cc in ap (λ (y : RootedRefusal). Err y) same

-- a path is named where the other checks hold
named : (shape led : Bool) (sample : Option OpenRefusal) (why : OpenRefusal) → refusal_by shape led sample ≡ Some (V.Path why)
    → (shape ≡ true) × (led ≡ true) × (sample ≡ Some why)
named true true (Some w) why e = let same : w ≡ why = cc in (refl, refl, ap (λ (x : OpenRefusal). Some x) same)
named true true None why e = absurd cc
named true false sample why e = absurd cc
named false led sample why e = absurd cc

-- exactly there
pub path_by : (r : Result (Unit {0}) RootedRefusal) (shape led : Bool) (sample : Option OpenRefusal) → refusal_in r ≡ refusal_by shape led sample → (why : OpenRefusal)
    → (IsErrOf r (V.Path why) → (shape ≡ true) × (led ≡ true) × (sample ≡ Some why)) × ((shape ≡ true) × (led ≡ true) × (sample ≡ Some why) → IsErrOf r (V.Path why))
path_by r shape led sample e why = (
  λ k. named shape led sample why (sym e ∙ ap refusal_in k),
  λ k. let all : refusal_by shape led sample ≡ Some (V.Path why) = λ i. refusal_by (k.0 i) (k.1 i) (k.2 i) in refused_by r (V.Path why) (e ∙ all),
)

-- the root is named where there is a width and a cell in its square, and the hashes don't lead to it
pub root_refused : (root : List ℕ) (proof : RootedParts) (at : ℕ) → is_width proof.k ≡ true → is_in_square proof.k proof.message.cell ≡ true
    → at ≡ index proof.message.axis proof.message.cell → (OpensRoot root proof.k proof.message.axis at proof.root proof.up → ⊥)
    → Some V.Root ≡ rooted_refusal root proof
root_refused root proof at width inside at_is unled =
    let m = proof.message in
    let no : is_rooted_led root proof ≡ false =
    ap (λ (i : ℕ). is_led root proof.k m.axis i proof.root proof.up) (sym at_is) ∙ not_led root proof.k m.axis at proof.root proof.up unled in
    sym (ap (λ (b : Bool). refusal_by b (is_rooted_led root proof) (sample_refusal proof)) (and_from (is_width proof.k) (is_in_square proof.k m.cell) width inside)
    ∙ ap (λ (b : Bool). refusal_by true b (sample_refusal proof)) no)

-- there is no refusal only where all three checks hold
none_parts : (shape led : Bool) (sample : Option OpenRefusal) → refusal_by shape led sample ≡ None → (shape ≡ true) × (led ≡ true) × (sample ≡ None)
none_parts true true None e = (refl, refl, refl)
none_parts true true (Some why) e = absurd cc
none_parts true false sample e = absurd cc
none_parts false led sample e = absurd cc

-- what is refused for nothing holds
pub rooted_holds_of : (root : List ℕ) (proof : RootedParts) → IsMessage proof.message → rooted_refusal root proof ≡ None → RootedHolds root proof
rooted_holds_of root proof sized e =
    let m = proof.message in
    let checks = none_parts (has_rooted_shape proof) (is_rooted_led root proof) (sample_refusal proof) e in
    let shape = and_parts (is_width proof.k) (is_in_square proof.k m.cell) checks.0 in
    record {
      lead = led-opens root proof.k m.axis (index m.axis m.cell) proof.root proof.up checks.1;
      opens = record {
        width = shape.0;
        inside = shape.1;
        sized = sized;
        opened = opens_where (halvings (2 * proof.k)) (shown_by proof.k m) m.path proof.root checks.2;
      };
    }

-- and what holds is refused for nothing
pub rooted_for_nothing : (root : List ℕ) (proof : RootedParts) → RootedHolds root proof → rooted_refusal root proof ≡ None
rooted_for_nothing root proof h =
    let m = proof.message in
    ap (λ (b : Bool). refusal_by b (is_rooted_led root proof) (sample_refusal proof))
    (and_from (is_width proof.k) (is_in_square proof.k m.cell) h.opens.width h.opens.inside)
    ∙ ap (λ (b : Bool). refusal_by true b (sample_refusal proof))
    (opens-led root proof.k m.axis (index m.axis m.cell) proof.root proof.up h.lead)
    ∙ ap (refusal_by true true) (not_refused_where (halvings (2 * proof.k)) (shown_by proof.k m) m.path proof.root h.opens.opened)
