use Rattle.real_files.proofs.links.+place_of.Given as goal

-- the links that may still be followed
abbrev pub decreases-place_of : goal.decreases-place_of
decreases-place_of g l = l.links
