use Rattle.da_demo.proofs.sessions.second_gathered.Goals as goal

-- none, then the cells of the last row
pub returns : goal.returns
returns c = c.in_ok-gather_low.ensures c.in_ok-gathered.ensures.gathered
