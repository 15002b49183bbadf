use Rattle.pressure_propagate.proofs.propagate.shut_square_by_law.Goals as goal

pub returns : goal.returns
returns g c part law = rw c.scaled.ensures at (c.closing_by_form.ensures part law)
