use Rattle.da_attending.proofs.ToldLemmas.{says_lines}
use Rattle.da_attending.proofs.OffsetLemmas.{takes_files, names_unfit, names_bad}
use Rattle.da_attending.proofs.FollowedLemmas.{says_followed}
use Rattle.da_attending.proofs.laws.attend_laws.Goals as goal

-- with the last words all lines were said
pub returns-clause-lines : goal.returns-clause-lines
returns-clause-lines c = says_lines

-- the frames of a file that follow takes fit
pub returns-clause-takes : goal.returns-clause-takes
returns-clause-takes c = takes_files

-- what is said of them is what it writes
pub returns-clause-follow : goal.returns-clause-follow
returns-clause-follow c = says_followed c.follow_laws.ensures.fed c.follow_laws.ensures.once

-- a frame that doesn't fit
pub returns-clause-unfit : goal.returns-clause-unfit
returns-clause-unfit c = names_unfit

-- a place at which no frame stands
pub returns-clause-bad : goal.returns-clause-bad
returns-clause-bad c = names_bad
