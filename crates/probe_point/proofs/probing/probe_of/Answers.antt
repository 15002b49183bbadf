use Rattle.std.proofs.Common.{◌≡◌, sym, subst, List, ℤ}
use Rattle.std.specs.Prelude.{IfOk, Result, Ok, Err}
use Rattle.base_types.specs.declared.states.ArcState.{ArcState}
use Rattle.gas_model.specs.declared.rows.PartState.{PartState}
use Rattle.gas_model.specs.declared.rows.Setting.{Setting}
use Rattle.gas_model.specs.Boxes.{Bounds}
use Rattle.gas_model.specs.Near.{SettingFits}
use Rattle.gas_model.specs.Rows.{Network}
use Rattle.topo.specs.Shapes.{Layout}
use Rattle.probe_point.specs.Chosen.{with_picks}
use Rattle.probe_point.specs.Points.{AreProbeSquares, IsProbe}
use Rattle.probe_point.proofs.Composed.{is_probe, probe_fits}
use Rattle.probe_point.proofs.probing.probe_of.Goals as goal

-- what is of the one setting, and what it is
answered : {E : Type 0} (P : Setting → Type 0) (s : Setting) (r : Result Setting E) → P s → IfOk r (λ x. x ≡ s) → IfOk r P
answered P s (Ok x) h e = subst P (sym e) h
answered P s (Err x) h e = e

pub flows_of-requires-clause-shape : goal.flows_of-requires-clause-shape
flows_of-requires-clause-shape c = record { part = _; is_shape = c.requires.chosen.1.shape }

pub squares_of-requires-clause-states : goal.squares_of-requires-clause-states
squares_of-requires-clause-states c = rw c.as_slice-states.ensures c.requires.chosen.1.states.count

pub returns-clause-probe : goal.returns-clause-probe
returns-clause-probe c part are =
    let p : Network = c.args.p.now in
    let K : ℤ = c.args.b.now.scale in
    let b : Bounds = c.args.b.now.bounds in
    let states : List ArcState = c.args.chosen.now.states in
    let shape : Layout = c.args.chosen.now.shape in
    let q : List ℤ = c.in_ok-flows.flows.items in
    let s : List ℤ = c.in_ok-squares.squares.items in
    let squares : AreProbeSquares K p states shape b.squares q s = rw (c.as_slice-states.ensures, c.as_slice.ensures.value) at c.in_ok-squares.ensures.value in
    answered (IsProbe K p part b) _ c.setting.result
    (is_probe K p part b c.args.chosen.now.picks states shape q s are.picks are.states are.shape c.in_ok-flows.ensures.value squares)
    (rw (c.as_slice-2.ensures.value, c.as_slice-3.ensures.value) at c.setting.ensures)

pub returns-clause-fits : goal.returns-clause-fits
returns-clause-fits c =
    let p : Network = c.args.p.now in
    let K : ℤ = c.args.b.now.scale in
    let b : Bounds = c.args.b.now.bounds in
    let part : PartState = c.requires.chosen.0 in
    let are = c.requires.chosen.1 in
    let states : List ArcState = c.args.chosen.now.states in
    let shape : Layout = c.args.chosen.now.shape in
    let q : List ℤ = c.in_ok-flows.flows.items in
    let s : List ℤ = c.in_ok-squares.squares.items in
    let squares : AreProbeSquares K p states shape b.squares q s = rw (c.as_slice-states.ensures, c.as_slice.ensures.value) at c.in_ok-squares.ensures.value in
    answered (SettingFits p) _ c.setting.result
    (probe_fits K p (with_picks c.args.chosen.now.picks part) b.flows b.squares c.args.chosen.now.picks states shape q s are.fits are.states c.in_ok-flows.ensures.value squares c.in_ok-flows.ensures.size c.in_ok-squares.ensures.size)
    (rw (c.as_slice-2.ensures.value, c.as_slice-3.ensures.value) at c.setting.ensures)
