-- The law of an arc is within its limits.
use Rattle.std.proofs.Common.{◌≡◌, ◌<◌, arith, IsTrue, ℤ}
use Rattle.gas_model.specs.declared.rows.ArcRow.{ArcRow}
use Rattle.gas_model.specs.declared.rows.ArcKind.{ArcKind}
use Rattle.gas_model.specs.declared.rows.ArcKind.TheVariants as kinds
use Rattle.base_types.specs.declared.states.ArcState.{ArcState}
use Rattle.base_types.specs.declared.states.ArcState.TheVariants.{Opened, Shut, Active, Bypass}
use Rattle.gas_model.specs.Limits.{is_kind_within}
use Rattle.base_types.specs.Numbers.{is_difference, is_pressure, is_ratio_part}
use Rattle.gas_model.specs.Within.{is_row_within}
use Rattle.gas_model.specs.Laws.{form_of}
use Rattle.integer_laws.proofs.Ring.{linear}
use Rattle.box_rules.specs.ArcLimits.{IsFormWithin}

pressure_difference : (x : ℤ) → IsTrue (is_pressure x) → IsTrue (is_difference x)
pressure_difference x t = grind (arith, linear)

loss_within : (low high : ℤ) → IsTrue (is_kind_within (kinds.Loss low high)) → IsFormWithin (form_of (kinds.Loss low high) Opened)
loss_within low high t =
    let a : IsTrue (is_difference low) = grind arith in
    let b : IsTrue (is_difference high) = grind arith in
    (a, b)

control_within : (a b x y : ℤ) → IsTrue (is_kind_within (kinds.Control a b x y)) → IsFormWithin (form_of (kinds.Control a b x y) Active)
control_within a b x y t =
    let i : IsTrue (is_difference a) = grind arith in
    let o : IsTrue (is_pressure b) = grind arith in
    let m : IsTrue (is_difference x) = grind arith in
    let n : IsTrue (is_difference y) = grind arith in
    ((i, pressure_difference b o), (m, n))

station_within : (a b x y r : ℤ) → IsTrue (is_kind_within (kinds.Station a b x y r)) → IsFormWithin (form_of (kinds.Station a b x y r) Active)
station_within a b x y r t =
    let i : IsTrue (is_difference a) = grind arith in
    let o : IsTrue (is_pressure b) = grind arith in
    let m : IsTrue (is_ratio_part x) = grind arith in
    let n : IsTrue (is_ratio_part y) = grind arith in
    let s : IsTrue (is_difference r) = grind arith in
    ((i, pressure_difference b o), (m, n), s)

pub form_within : (kind : ArcKind) (state : ArcState) → IsTrue (is_kind_within kind) → IsFormWithin (form_of kind state)
form_within (kinds.Pipe law) Opened t = t
form_within (kinds.Pipe law) Shut t = tt
form_within (kinds.Pipe law) Active t = tt
form_within (kinds.Pipe law) Bypass t = tt
form_within (kinds.Resist law) Opened t = t
form_within (kinds.Resist law) Shut t = tt
form_within (kinds.Resist law) Active t = tt
form_within (kinds.Resist law) Bypass t = tt
form_within (kinds.Loss low high) Opened t = loss_within low high t
form_within (kinds.Loss low high) Shut t = tt
form_within (kinds.Loss low high) Active t = tt
form_within (kinds.Loss low high) Bypass t = tt
form_within (kinds.Control a b x y) Active t = control_within a b x y t
form_within (kinds.Control a b x y) Opened t = tt
form_within (kinds.Control a b x y) Shut t = tt
form_within (kinds.Control a b x y) Bypass t = tt
form_within (kinds.Station a b x y r) Active t = station_within a b x y r t
form_within (kinds.Station a b x y r) Opened t = tt
form_within (kinds.Station a b x y r) Shut t = tt
form_within (kinds.Station a b x y r) Bypass t = tt
form_within kinds.Short Opened t = tt
form_within kinds.Short Shut t = tt
form_within kinds.Short Active t = tt
form_within kinds.Short Bypass t = tt
form_within kinds.Valve Opened t = tt
form_within kinds.Valve Shut t = tt
form_within kinds.Valve Active t = tt
form_within kinds.Valve Bypass t = tt

pub row_kind : (row : ArcRow) → IsTrue (is_row_within row) → IsTrue (is_kind_within row.kind)
row_kind row t = grind arith
