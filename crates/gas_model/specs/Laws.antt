-- The law of an arc: its kind and state collapse to a form of law, which speaks of the flow and of the squares at both ends.
use Rattle.std.specs.Prelude.{ℤ, pos, ◌&&◌, Bool, true, false, int_le, Option, Some}
use Rattle.std.specs.Ordering.{int_eq}
use Rattle.gas_model.specs.declared.rows.Drag.{Drag}
use Rattle.gas_model.specs.declared.law_forms.PipeLaw.{PipeLaw}
use Rattle.gas_model.specs.declared.law_forms.LawForm.{LawForm}
use Rattle.gas_model.specs.declared.law_forms.LawForm.TheVariants.{Drags, Equals, Shuts, Loses, Reduces, Raises, Never}
use Rattle.gas_model.specs.declared.rows.ArcKind.{ArcKind}
use Rattle.gas_model.specs.declared.rows.ArcKind.TheVariants.{Pipe, Short, Resist, Loss, Valve, Control, Station}
use Rattle.base_types.specs.declared.states.ArcState.{ArcState}
use Rattle.base_types.specs.declared.states.ArcState.TheVariants.{Opened, Shut, Active, Bypass}
use Rattle.gas_model.specs.Limits.{is_drag_within}
use Rattle.gas_model.specs.Curves.{meets_resistance, nears_resistance, falls_between, meets_loss, nears_loss, keeps_inner, rises_within}

-- the law of a resistance along a level pipe, whose factor is 1
abbrev pub level : Drag → PipeLaw
level drag = record { drag = drag; tilt = record { lo = pos 1; hi = pos 1; den = pos 1 } }

-- the numbers of a resistance's law are within their limits
abbrev pub is_pipe_within : PipeLaw → Bool
is_pipe_within law = is_drag_within law.drag

abbrev pub form_of : ArcKind → ArcState → LawForm
form_of (Pipe law) Opened = Drags (level law)
form_of (Resist law) Opened = Drags (level law)
form_of Short Opened = Equals
form_of (Loss low high) Opened = Loses low high
form_of Valve Opened = Equals
form_of Valve Shut = Shuts
form_of (Control in_min out_max red_min red_max) Active = Reduces in_min out_max red_min red_max
form_of (Control in_min out_max red_min red_max) Bypass = Equals
form_of (Control in_min out_max red_min red_max) Shut = Shuts
form_of (Station in_min out_max ratio_num ratio_den rise_max) Active = Raises in_min out_max ratio_num ratio_den rise_max
form_of (Station in_min out_max ratio_num ratio_den rise_max) Bypass = Equals
form_of (Station in_min out_max ratio_num ratio_den rise_max) Shut = Shuts
form_of kind state = Never

-- an arc that is fixed to be shut, through which nothing flows whatever its kind
abbrev pub is_shut : Option ArcState → Bool
is_shut (Some Shut) = true
is_shut state = false

-- the law holds of the flow q / d and the squares u / d and v / d
abbrev pub meets_form : LawForm → (d q u v : ℤ) → Bool
meets_form (Drags law) d q u v = meets_resistance law d q u v
meets_form Equals d q u v = int_eq u v
meets_form Shuts d q u v = int_eq q (pos 0)
meets_form (Loses low high) d q u v = meets_loss low high d q u v
meets_form (Reduces in_min out_max red_min red_max) d q u v =
    int_le (pos 0) q && falls_between red_min red_max d u v && keeps_inner in_min out_max d u v
meets_form (Raises in_min out_max ratio_num ratio_den rise_max) d q u v =
    int_le (pos 0) q && rises_within ratio_num ratio_den rise_max d u v && keeps_inner in_min out_max d u v
meets_form Never d q u v = false

-- the law holds of whole numbers, that of a resistance or of a constant loss within the tolerance
abbrev pub nears_form : LawForm → (tol q u v : ℤ) → Bool
nears_form (Drags law) tol q u v = nears_resistance law tol q u v
nears_form (Loses low high) tol q u v = nears_loss low high tol q u v
nears_form form tol q u v = meets_form form (pos 1) q u v
