-- The places of a message BadEncoding, written one after another.
use Rattle.std.proofs.Common.{◌≡◌, ◌∙◌, ℕ, zero, suc, ◌+◌, ◌-◌, ◌≤◌, ◌<◌, List, [], ◌∷◌, ◌++◌, length, Vec, Global, vec_len, vec_capacity, refl, sym, ap, arith, append_assoc, append-nil, length-append}
use Rattle.namespace_id.specs.declared.cells.Axis.{Axis}
use Rattle.proto_fields.specs.Spelled.{bytes_field}
use Rattle.axis_roots.specs.declared.message.messages.Message.{Message}
use Rattle.celestia_pb.specs.BefpEntries.{befp_place, places_text, shown_at, behind_place, places_of}

-- this is there, and no less capacity than before
abbrev pub IsPut : (first out : Vec ℕ Global) (all : List ℕ) (total : ℕ) → Type 0
IsPut first out all total = record {
  appended : out.items ≡ all;
  len : vec_len out ≡ total;
  capacity : vec_capacity first ≤ vec_capacity out;
}

module _ (axis : Axis) where
  -- no place
  pub places_of-none : (place : ℕ) (cells : List Message) → places_of axis zero place cells ≡ []
  unfolding places_of
  places_of-none place cells = refl

  -- one place, and then the others
  pub places_of-next : (count place : ℕ) (cells : List Message)
      → places_of axis (suc count) place cells ≡ shown_at axis place cells ∷ places_of axis count (suc place) (behind_place axis place cells)
  unfolding places_of
  places_of-next count place cells = refl

  -- what a place is written as
  abbrev pub text_at : ℕ → List Message → List ℕ
  text_at place cells = bytes_field 3 (befp_place 1 (shown_at axis place cells))

  -- what the places from one on are written as, of so many
  abbrev pub texts_from : ℕ → ℕ → List Message → List ℕ
  texts_from count place cells = places_text 1 (places_of axis (count - place) place cells)

  -- that of a place, and then those of the later ones
  pub texts_here : (count place : ℕ) (cells : List Message) → place < count
      → texts_from count place cells ≡ text_at place cells ++ texts_from count (place + 1) (behind_place axis place cells)
  texts_here count place cells lt =
      let left : count - place ≡ suc (count - (place + 1)) = omega arith in
      let next : suc place ≡ place + 1 = omega arith in
      ap (λ (n : ℕ). places_text 1 (places_of axis n place cells)) left
      ∙ ap (places_text 1) (places_of-next (count - (place + 1)) place cells)
      ∙ ap (λ (p : ℕ). text_at place cells ++ places_text 1 (places_of axis (count - (place + 1)) p (behind_place axis place cells))) next

  pub length_here : (count place : ℕ) (cells : List Message) → place < count
      → length (texts_from count place cells) ≡ length (text_at place cells) + length (texts_from count (place + 1) (behind_place axis place cells))
  length_here count place cells lt =
      ap length (texts_here count place cells lt) ∙ length-append (text_at place cells) (texts_from count (place + 1) (behind_place axis place cells))

  -- nothing behind the last
  pub texts_past : (count place : ℕ) (cells : List Message) → count ≤ place → texts_from count place cells ≡ []
  texts_past count place cells past =
      let none : count - place ≡ 0 = omega arith in
      ap (λ (n : ℕ). places_text 1 (places_of axis n place cells)) none ∙ ap (places_text 1) (places_of-none place cells)

  -- what is there and what is left are all, and there is capacity for what is left
  abbrev pub IsWriting : (count place : ℕ) (cells : List Message) (first out : Vec ℕ Global) (all : List ℕ) (total : ℕ) → Type 0
  IsWriting count place cells first out all total = record {
    all : out.items ++ texts_from count place cells ≡ all;
    len : vec_len out + length (texts_from count place cells) ≡ total;
    capacity : vec_capacity first ≤ vec_capacity out;
  }

  module _ (count place : ℕ) (cells : List Message) (first out : Vec ℕ Global) (all : List ℕ) (total : ℕ) (at : IsWriting count place cells first out all total) where
    -- capacity for what is left is capacity for a place
    pub write_room : place < count → total ≤ vec_capacity first → vec_len out + length (text_at place cells) ≤ vec_capacity out
    write_room lt few = omega (arith, length_here count place cells lt, at.len, at.capacity)

    -- one more is there
    pub write_more : place < count → (new : Vec ℕ Global) → IsPut out new (out.items ++ text_at place cells) (vec_len out + length (text_at place cells))
        → (later : List Message) → later ≡ behind_place axis place cells → IsWriting count (place + 1) later first new all total
    write_more lt new put later is = record {
      all = ap (λ (l : List Message). new.items ++ texts_from count (place + 1) l) is
          ∙ ap (λ (l : List ℕ). l ++ texts_from count (place + 1) (behind_place axis place cells)) put.appended
          ∙ append_assoc out.items (text_at place cells) (texts_from count (place + 1) (behind_place axis place cells))
          ∙ sym (ap (λ (l : List ℕ). out.items ++ l) (texts_here count place cells lt))
          ∙ at.all;
      len = omega (arith, ap (λ (l : List Message). length (texts_from count (place + 1) l)) is, length_here count place cells lt, at.len, put.len);
      capacity = omega (arith, at.capacity, put.capacity);
    }

    -- all are there
    pub write_end : count ≤ place → IsPut first out all total
    write_end past =
        let none : texts_from count place cells ≡ [] = texts_past count place cells past in
        let length_none : length (texts_from count place cells) ≡ 0 = ap length none in
        record {
          appended = sym (ap (λ (l : List ℕ). out.items ++ l) none ∙ append-nil out.items) ∙ at.all;
          len = omega (arith, length_none, at.len);
          capacity = at.capacity;
        }
