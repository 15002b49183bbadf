-- The probe, from its parts.
use Rattle.std.proofs.Common.{◌≡◌, ℕ, sym, subst, Bool, false, IsTrue, List, ℤ}
use Rattle.base_types.specs.declared.states.ArcState.{ArcState}
use Rattle.gas_model.specs.declared.rows.Ends.{Ends}
use Rattle.gas_model.specs.declared.rows.PartState.{PartState}
use Rattle.gas_model.specs.Boxes.{Bounds}
use Rattle.gas_model.specs.Choices.{ArePicks}
use Rattle.gas_model.specs.Near.{SettingFits}
use Rattle.gas_model.specs.Rows.{Network}
use Rattle.topo.specs.States.{is_there}
use Rattle.topo.specs.Shapes.{Layout, IsShapeOf}
use Rattle.probe_point.specs.Probes.{AreSmall}
use Rattle.probe_point.specs.Squares.{AreSquares}
use Rattle.probe_point.specs.Chosen.{picks_of, with_picks, all_chosen, AreChosen}
use Rattle.probe_point.specs.Points.{AreProbeFlows, AreProbeSquares, IsProbe}
use Rattle.probe_point.specs.Given.{HasGivenFlows}
use Rattle.probe_point.proofs.NumberFacts.{small_flows, are_squares}
use Rattle.probe_point.proofs.ShapeFacts.{step_there, chord_there}
use Rattle.probe_point.proofs.ChoiceFacts.{shut_away}

clash : (b : Bool) → IsTrue b → b ≡ false → ⊥
clash b t f = cc

pub probe_flows : (K : ℤ) (p : Network) (part : PartState) (picks : List ℕ) (states : List ArcState) (shape : Layout) (ends : List Ends) (q : List ℤ) → AreChosen p part states → IsShapeOf p (all_chosen picks states) shape
    → HasGivenFlows K p shape ends q → AreProbeFlows K p states shape ends q
probe_flows K p part picks states shape ends q c h g = record {
  count = g.given.count;
  hulls = g.hulls;
  are_hulls = g.are_hulls;
  shut = λ a lt e.
      let away : is_there p (all_chosen picks states) a ≡ false = shut_away p part picks states a c lt e in
      g.given.rest a
      (λ i hi same. clash _ (subst (λ (n : ℕ). IsTrue (is_there p (all_chosen picks states) n)) (sym same) (chord_there p (all_chosen picks states) shape h i hi)) away)
      (λ i hi same. clash _ (subst (λ (n : ℕ). IsTrue (is_there p (all_chosen picks states) n)) (sym same) (step_there p (all_chosen picks states) shape h i hi)) away);
  chords = g.given.chords;
  tree = g.given.tree;
}

pub is_probe : (K : ℤ) (p : Network) (part : PartState) (b : Bounds) (picks : List ℕ) (states : List ArcState) (shape : Layout) (q s : List ℤ) → picks ≡ picks_of part → AreChosen p (with_picks picks part) states
    → IsShapeOf p (all_chosen picks states) shape → HasGivenFlows K p shape b.flows q → AreProbeSquares K p states shape b.squares q s → IsProbe K p part b (record { picks = picks; states = states; flows = q; squares = s })
is_probe K p part b picks states shape q s e c h g r = record {
  picks = e;
  states = c;
  shape = shape;
  is_shape = h;
  flows = probe_flows K p (with_picks picks part) picks states shape b.flows q c h g;
  squares = r;
}

pub probe_fits : (K : ℤ) (p : Network) (part : PartState) (ends squares : List Ends) (picks : List ℕ) (states : List ArcState) (shape : Layout) (q s : List ℤ) → ArePicks p.groups picks → AreChosen p part states
    → HasGivenFlows K p shape ends q → AreProbeSquares K p states shape squares q s → AreSmall 1 q → AreSquares s → SettingFits p (record { picks = picks; states = states; flows = q; squares = s })
probe_fits K p part ends squares picks states shape q s a c g r small sized = record {
  picks = a;
  states = c.count;
  flows = g.given.count;
  squares = r.count;
  flows_within = small_flows q small;
  squares_within = are_squares s sized;
}
