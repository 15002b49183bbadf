use Rattle.tree_check.proofs.open_box.OpenBox.opening.Goals as goal

pub returns-clause-fits : goal.returns-clause-fits
returns-clause-fits c = record {
  within = c.in_ok-opening.ensures.within;
  bounds = c.in_ok-opening.ensures.fits;
  part = c.in_ok-fresh.ensures.fits;
}
