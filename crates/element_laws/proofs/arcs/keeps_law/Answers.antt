use Rattle.std.proofs.Common.{◌≡◌, ◌∙◌, Some, sym, to_z-of_z, FitsSigned, IsTrue, arith, rules, length, refl}
use Rattle.std.specs.Prelude.{slice_get}
use Rattle.std.specs.Int.{w128}
use Rattle.std.proofs.lemmas.Option.{slice_get_read}
use Rattle.gas_model.specs.declared.rows.ArcRow.{ArcRow}
use Rattle.gas_model.specs.Limits.{is_kind_within}
use Rattle.gas_model.specs.Within.{is_row_within}
use Rattle.gas_model.specs.Points.{state_at}
use Rattle.gas_model.specs.Near.{number_at, nears_arc}
use Rattle.element_laws.proofs.Failing.{passes_read}
use Rattle.element_laws.proofs.arcs.keeps_law.Goals as goal

kind_within : (row : ArcRow) → IsTrue (is_row_within row) → IsTrue (is_kind_within row.kind)
kind_within row h = grind arith

pub nears_arc-requires-clause-kind : goal.nears_arc-requires-clause-kind
nears_arc-requires-clause-kind c =
    let row = c.index-arcs-arc.result in
    let is = rw c.arcs.ensures.rows at c.index-arcs-arc.is in
    let here : slice_get c.args.p.now.arcs c.args.arc ≡ Some row = slice_get_read c.args.p.now.arcs (length c.args.p.now.arcs) c.args.arc row refl c.requires.arc is in
    kind_within row (c.arcs.ensures.within.arcs c.args.arc row here)

pub returns : goal.returns
returns c =
    let arc = c.args.arc in
    let s = c.args.setting.now in
    let row = c.index-arcs-arc.result in
    let q : FitsSigned w128 c.flow_at-q.result = search rules in
    let u : FitsSigned w128 c.square_at-u.result = search rules in
    let v : FitsSigned w128 c.square_at-v.result = search rules in
    let states = c.as_slice.ensures in
    let flow = c.flow_at-q.ensures.value in
    let from = c.square_at-u.ensures.value in
    let to = c.square_at-v.ensures.value in
    let says = simp (to_z-of_z, c.ranges.tol, q, u, v) at c.nears_arc.ensures in
    let is = rw c.arcs.ensures.rows at c.index-arcs-arc.is in
    let read = passes_read (λ r. nears_arc r (state_at s.states arc) c.args.tol (number_at s.flows arc) (number_at s.squares)) c.args.p.now.arcs arc row c.requires.arc is in
    rw (flow, from, to, states) at says ∙ sym read
