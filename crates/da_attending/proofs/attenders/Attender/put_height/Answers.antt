use Rattle.std.proofs.Common.{◌∙◌, ◌++◌, ℕ, List, sym, ap, subst}
use Rattle.std.specs.Prelude.{None, min}
use Rattle.std.specs.List.{flat_map}
use Rattle.namespace_id.specs.declared.namespaces.Namespace.{Namespace as Name}
use Rattle.da_io.specs.Faults.{max_count}
use Rattle.da_attending.specs.Attended.{height_lines, height_missing, count_missing}
use Rattle.da_attending.specs.Attenders.{unknown, AttendParts, AttenderStands}
use Rattle.da_attending.proofs.StandLemmas.{none_told, none_counted, some_told, some_counted}
use Rattle.da_attending.proofs.attenders.Attender.put_height.Goals as goal

-- no height began
pub returns-in_default-clause-written : goal.returns-in_default-clause-written
returns-in_default-clause-written c = λ items stands.
    c.requires.empty ∙ none_told _ items (subst (λ (w : AttendParts). AttenderStands w items) (sym c.self.view_is) stands) c.in_default.is
    ∙ ap (λ (w : AttendParts). height_missing w.names items) c.self.view_is

pub returns-in_default-clause-counted : goal.returns-in_default-clause-counted
returns-in_default-clause-counted c = λ items stands.
    none_counted _ items (subst (λ (w : AttendParts). AttenderStands w items) (sym c.self.view_is) stands) c.in_default.is
    ∙ ap (λ (w : AttendParts). min (count_missing w.names items) max_count) c.self.view_is

-- the missing lines are those of what isn't known
pub returns-clause-written : goal.returns-clause-written
returns-clause-written c = λ items stands.
    c.put_missing-count.ensures.appended
    ∙ ap (λ (l : List ℕ). l ++ flat_map (λ (n : Name). height_lines c.saturating_sub-number.result n None) (unknown c.self.inside.known.keys c.self.inside.names.now))
    c.requires.empty
    ∙ some_told _ items (subst (λ (w : AttendParts). AttenderStands w items) (sym c.self.view_is) stands) c.in-Some._header c.in-Some.is
    c.saturating_sub-number.result c.saturating_sub-number.ensures
    ∙ ap (λ (w : AttendParts). height_missing w.names items) c.self.view_is

-- and they are counted
pub returns-clause-counted : goal.returns-clause-counted
returns-clause-counted c = λ items stands.
    c.saturating_add.ensures
    ∙ some_counted _ items (subst (λ (w : AttendParts). AttenderStands w items) (sym c.self.view_is) stands) c.in-Some._header c.in-Some.is
    c.put_missing-count.result c.put_missing-count.ensures.count
    ∙ ap (λ (w : AttendParts). min (count_missing w.names items) max_count) c.self.view_is
