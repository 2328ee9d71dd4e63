use Rattle.std.proofs.Common.{sym}
use Rattle.nmt_proofs.proofs.Parts.HashedLemmas.{first_apart-clash_at}
use Rattle.nmt_proofs.proofs.Agreement.AgreeLemmas.{found_is_clash, none_found}
use Rattle.nmt_proofs.proofs.Parts.WholeLemmas.{digest-whole, depth-whole, sized-whole}
use Rattle.nmt_proofs.proofs.Parts.ShownLemmas.{opening-sized, opening-deep}
use Rattle.nmt_proofs.proofs.Agreement.ListedLemmas.{opening_law, places_law, leaf_law, lists_law, symmetric_law}
use Rattle.nmt_proofs.proofs.Sets.SetLawLemmas.{set_law}
use Rattle.nmt_proofs.proofs.Sets.PieceLawLemmas.{subtrees_law}
use Rattle.nmt_proofs.proofs.Agreement.TwinLemmas.{twins_law}
use Rattle.nmt_proofs.proofs.agreeing.clash_laws.Goals as goal

pub returns-clause-found : goal.returns-clause-found
returns-clause-found c = found_is_clash

pub returns-clause-agree : goal.returns-clause-agree
returns-clause-agree c = none_found

pub returns-clause-opening : goal.returns-clause-opening
returns-clause-opening c = opening_law

pub returns-clause-places : goal.returns-clause-places
returns-clause-places c = places_law

pub returns-clause-leaf : goal.returns-clause-leaf
returns-clause-leaf c = leaf_law

pub returns-clause-openings : goal.returns-clause-openings
returns-clause-openings c = twins_law

pub returns-clause-lists : goal.returns-clause-lists
returns-clause-lists c = lists_law

pub returns-clause-symmetric : goal.returns-clause-symmetric
returns-clause-symmetric c = symmetric_law

pub returns-clause-opened : goal.returns-clause-opened
returns-clause-opened c = λ d xs nodes h. (opening-deep d xs nodes h, opening-sized d xs nodes h)

pub returns-clause-whole : goal.returns-clause-whole
returns-clause-whole c = λ d ns ss h. (depth-whole d ns ss, sized-whole d ns ss h)

pub returns-clause-root : goal.returns-clause-root
returns-clause-root c = digest-whole

pub returns-clause-hashed : goal.returns-clause-hashed
returns-clause-hashed c = λ d p q dp dq. sym (first_apart-clash_at d 0 p q dp dq)

pub returns-clause-set : goal.returns-clause-set
returns-clause-set c = set_law

pub returns-clause-subtrees : goal.returns-clause-subtrees
returns-clause-subtrees c = subtrees_law
