use Rattle.pressure_propagate.proofs.propagate.best_square_by_law.Goals as goal

pub returns : goal.returns
returns g c part law row at = rw c.scaled.ensures at (c.best_by_form.ensures part law row at)
