-- What a search keeps from one box to the next.
use Rattle.std.specs.Prelude.{◌≡◌, ◌+◌, length, IfSome}
use Rattle.gas_model.specs.Rows.{Network}
use Rattle.probe_point.specs.Choices.{AreChoicesOf}
use Rattle.nom_search.specs.declared.trial.LastChoices.{LastChoices}
use Rattle.nom_search.specs.declared.searching.Tools.{Tools}

-- the choices are those of the part state that is kept with them
abbrev pub AreLast : Network → LastChoices → Type 0
AreLast p k = AreChoicesOf p k.part.value k.chosen

-- the queue has a place for each law of the network, and the choices that are kept are of a part state of it
pub record AreTools (p : Network) (t : Tools) : Type 0 where
  pub size : t.queue.size ≡ length p.nodes + length p.arcs
  pub kept : IfSome t.kept (AreLast p)
