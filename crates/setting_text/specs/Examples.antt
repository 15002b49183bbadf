-- Two settings, and their lines.
use Rattle.std.specs.Prelude.{◌≡◌, ℕ, pos, negsuc, List, [], ◌∷◌, ◌++◌, codes}
use Rattle.gas_model.specs.declared.rows.NodeRow.{NodeRow}
use Rattle.gas_model.specs.declared.rows.ArcRow.{ArcRow}
use Rattle.gas_model.specs.declared.rows.ArcKind.{ArcKind}
use Rattle.gas_model.specs.declared.rows.ArcKind.TheVariants.{Pipe, Valve}
use Rattle.base_types.specs.declared.states.ArcState.TheVariants.{Opened, Shut}
use Rattle.base_types.specs.declared.states.Allow.{Allow}
use Rattle.base_types.specs.declared.states.Allow.TheVariants as allow
use Rattle.gas_model.specs.declared.rows.Decision.{Decision}
use Rattle.gas_model.specs.declared.rows.Setting.{Setting}
use Rattle.gas_model.specs.Rows.{Network}
use Rattle.setting_text.specs.Writing.{setting_text}

abbrev pub node : List ℕ → NodeRow
node id = record { id = id; p_min = pos 0; p_max = pos 9; b_min = pos 0; b_max = pos 0 }

-- an arc from the first node to the second
abbrev pub arc : List ℕ → ArcKind → ArcRow
arc id kind = record { id = id; from = 0; to = 1; q_min = negsuc 8; q_max = pos 9; kind = kind }

abbrev pub pipe : ArcKind
pipe = Pipe (record { lo = pos 1; hi = pos 1; den = pos 1 })

abbrev pub ends : List NodeRow
ends = node (codes "a") ∷ node (codes "b") ∷ []

-- two nodes and a pipe; nothing flows, and both squares are 40
abbrev pub plain : Network
plain = record { nodes = ends; arcs = arc (codes "p") pipe ∷ []; groups = [] }

abbrev pub at_rest : Setting
at_rest = record { picks = []; states = Opened ∷ []; flows = pos 0 ∷ []; squares = pos 40 ∷ pos 40 ∷ [] }

abbrev pub IsLineAtRest : Type 0
IsLineAtRest = setting_text plain at_rest ≡ codes "{\"arcs\":[[\"p\",\"open\",0]],\"decisions\":[],\"nodes\":[[\"a\",40],[\"b\",40]]}" ++ 10 ∷ []

abbrev pub decision : List ℕ → Allow → Decision
decision id word = record { id = id; sets = (1, word) ∷ [] }

-- a valve beside the pipe, which a group opens or shuts; it is shut, and 3 flows backwards
abbrev pub decided : Network
decided = record {
  nodes = ends;
  arcs = arc (codes "p") pipe ∷ arc (codes "v") Valve ∷ [];
  groups = record { id = codes "g"; decisions = decision (codes "pass") allow.Opened ∷ decision (codes "shut") allow.Shut ∷ [] } ∷ [];
}

abbrev pub backwards : Setting
backwards = record { picks = 1 ∷ []; states = Opened ∷ Shut ∷ []; flows = negsuc 2 ∷ pos 0 ∷ []; squares = pos 40 ∷ pos 49 ∷ [] }

abbrev pub IsLineBackwards : Type 0
IsLineBackwards = setting_text decided backwards ≡ codes "{\"arcs\":[[\"p\",\"open\",-3],[\"v\",\"closed\",0]],\"decisions\":[[\"g\",\"shut\"]],\"nodes\":[[\"a\",40],[\"b\",49]]}" ++ 10 ∷ []
