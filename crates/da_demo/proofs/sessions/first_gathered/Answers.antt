use Rattle.da_demo.proofs.sessions.first_gathered.Goals as goal

-- none, then the lies, then half of the cells
pub returns : goal.returns
returns c = c.in_ok-gather_half.ensures (c.in_ok-gather_lies.ensures.gathered c.in_ok-gathered.ensures.gathered)
