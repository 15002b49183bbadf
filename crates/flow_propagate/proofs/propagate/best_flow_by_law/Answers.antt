use Rattle.flow_propagate.proofs.propagate.best_flow_by_law.Goals as goal

pub returns : goal.returns
returns g c part law = rw c.scaled.ensures at (c.best_by_form.ensures part law)
