-- The entries of the rows from one on.
use Rattle.std.proofs.Common.{◌≡◌, ◌∙◌, ℕ, ◌+◌, ◌<◌, ◌≤◌, List, [], ◌∷◌, ◌++◌, map, true, false, sym, ap}
use Rattle.std.proofs.lemmas.List.{append_assoc}
use Rattle.namespace_id.specs.declared.namespaces.Namespace.{Namespace}
use Rattle.namespace_id.specs.declared.shares.Share.{Share}
use Rattle.data_header.specs.Headers.{Roots}
use Rattle.axis_roots.specs.declared.answers.Found.{Found}
use Rattle.axis_roots.specs.declared.answers.NsEntry.{NsEntry}
use Rattle.square_serve.specs.Answers.{is_wanted}
use Rattle.square_serve.specs.Serving.{found_in, row_entry}
use Rattle.square_serve.proofs.PassingLemmas.{passing_from, passing-step, passing-end}

-- the entries of the rows from one on that may hold a namespace
abbrev pub entries_from : Roots → ℕ → List Share → Namespace → ℕ → List NsEntry
entries_from header k grid name row = map (row_entry k grid name) (passing_from (is_wanted header name) k row)

module _ (header : Roots) (k : ℕ) (grid : List Share) (name : Namespace) (row : ℕ) where
  -- the entries so far and those that are left are all, with the entry of a row that may hold it
  pub entries-pushed : (so_far more all : List NsEntry) (found : Found) → row < k → is_wanted header name row ≡ true → found ≡ found_in k grid name row
      → more ≡ so_far ++ record { row = row; found = found } ∷ [] → so_far ++ entries_from header k grid name row ≡ all → more ++ entries_from header k grid name (row + 1) ≡ all
  entries-pushed so_far more all found h wanted is pushed left =
      ap (λ (l : List NsEntry). l ++ entries_from header k grid name (row + 1)) pushed
      ∙ append_assoc so_far (record { row = row; found = found } ∷ []) (entries_from header k grid name (row + 1))
      ∙ ap (λ (f : Found). so_far ++ record { row = row; found = f } ∷ entries_from header k grid name (row + 1)) is
      ∙ ap (λ (rows : List ℕ). so_far ++ map (row_entry k grid name) rows) (sym (passing-step (is_wanted header name) true k row h wanted)) ∙ left

  -- and with none for another row
  pub entries-passed : (so_far same all : List NsEntry) → row < k → is_wanted header name row ≡ false → same ≡ so_far
      → so_far ++ entries_from header k grid name row ≡ all → same ++ entries_from header k grid name (row + 1) ≡ all
  entries-passed so_far same all h other is left =
      ap (λ (l : List NsEntry). l ++ entries_from header k grid name (row + 1)) is
      ∙ ap (λ (rows : List ℕ). so_far ++ map (row_entry k grid name) rows) (sym (passing-step (is_wanted header name) false k row h other)) ∙ left

  -- behind the last row there are none
  pub entries-end : k ≤ row → entries_from header k grid name row ≡ []
  entries-end h = ap (map (row_entry k grid name)) (passing-end (is_wanted header name) k row h)
