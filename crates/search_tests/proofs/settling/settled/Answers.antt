use Rattle.search_tests.proofs.settling.settled.Goals as goal

pub settle-requires-clause-part : goal.settle-requires-clause-part
settle-requires-clause-part c = c.in_ok-part.ensures.fits
