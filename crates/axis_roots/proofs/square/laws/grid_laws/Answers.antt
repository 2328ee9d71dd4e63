use Rattle.axis_roots.proofs.Grids.ExtensionLemmas.{extension_there, extension_once}
use Rattle.axis_roots.proofs.Grids.HeaderLemmas.{header_once, header_roots, header_made, header_not_made, header_strict, header_falls, header_by_strict}
use Rattle.axis_roots.proofs.Grids.LineLemmas.{line_leaves}
use Rattle.axis_roots.proofs.Grids.LaidLemmas.{header_laid}
use Rattle.axis_roots.proofs.Grids.StoredLemmas.{tree_along}
use Rattle.axis_roots.proofs.square.laws.grid_laws.Goals as goal

pub returns-clause-extension : goal.returns-clause-extension
returns-clause-extension c = extension_there

pub returns-clause-one_extension : goal.returns-clause-one_extension
returns-clause-one_extension c = λ square grid other is first second. extension_once square.k square.shares grid other is.width first second

pub returns-clause-one_header : goal.returns-clause-one_header
returns-clause-one_header c = header_once

pub returns-clause-are_roots : goal.returns-clause-are_roots
returns-clause-are_roots c = header_roots

pub returns-clause-header : goal.returns-clause-header
returns-clause-header c = header_made

pub returns-clause-no_header : goal.returns-clause-no_header
returns-clause-no_header c = header_not_made

pub returns-clause-strict : goal.returns-clause-strict
returns-clause-strict c = header_strict

pub returns-clause-falling : goal.returns-clause-falling
returns-clause-falling c = header_falls

pub returns-clause-laid : goal.returns-clause-laid
returns-clause-laid c = header_laid

pub returns-clause-by_strict : goal.returns-clause-by_strict
returns-clause-by_strict c = header_by_strict

pub returns-clause-line : goal.returns-clause-line
returns-clause-line c = line_leaves

pub returns-clause-trees : goal.returns-clause-trees
returns-clause-trees c = tree_along
