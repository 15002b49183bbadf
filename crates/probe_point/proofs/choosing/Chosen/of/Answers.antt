use Rattle.std.proofs.Common.{List, ℕ}
use Rattle.base_types.specs.declared.states.ArcState.{ArcState}
use Rattle.gas_model.specs.Rows.{Network}
use Rattle.topo.specs.Shapes.{Layout, IsShapeOf}
use Rattle.probe_point.specs.Chosen.{with_picks, all_chosen, AreChosen}
use Rattle.probe_point.proofs.ChoiceFacts.{whole_fits}
use Rattle.probe_point.proofs.choosing.Chosen.of.Goals as goal

pub shape_of-requires : goal.shape_of-requires
shape_of-requires c =
    let p : Network = c.args.p.now in
    let picks : List ℕ = c.in_ok-picks.picks in
    let states : List ArcState = c.in_ok-states.states in
    let chosen : AreChosen p (with_picks picks c.args.part.now) states = rw c.as_slice.ensures at c.in_ok-states.ensures in
    rw (c.as_slice-2.ensures, c.as_slice-3.ensures) (whole_fits p c.args.part.now picks states c.requires c.in_ok-picks.ensures.fits chosen)

pub returns : goal.returns
returns c =
    let p : Network = c.args.p.now in
    let picks : List ℕ = c.in_ok-picks.picks in
    let states : List ArcState = c.in_ok-states.states in
    let shape : Layout = c.in_ok-shape.shape in
    let chosen : AreChosen p (with_picks picks c.args.part.now) states = rw c.as_slice.ensures at c.in_ok-states.ensures in
    let shaped : IsShapeOf p (all_chosen picks states) shape = rw (c.as_slice-2.ensures, c.as_slice-3.ensures) at c.in_ok-shape.ensures in
    record { picks = c.in_ok-picks.ensures.value; fits = c.in_ok-picks.ensures.fits; states = chosen; shape = shaped }
