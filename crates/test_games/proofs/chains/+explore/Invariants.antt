use Rattle.test_games.proofs.chains.+explore.Given as goal

abbrev pub decreases-explore : goal.decreases-explore
decreases-explore g l = l.depth
