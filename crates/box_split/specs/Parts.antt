-- Parts of the branch of a box, as the code goes through them.
use Rattle.std.specs.Prelude.{ℕ, List, length}
use Rattle.base_types.specs.declared.variables.Var.{Var}
use Rattle.base_types.specs.declared.variables.Var.TheVariants.{Flow, Square}
use Rattle.gas_model.specs.Rows.{Network}
use Rattle.gas_model.specs.Boxes.{Bounds}
use Rattle.box_split.specs.declared.forks.Fork.{Fork}
use Rattle.box_split.specs.declared.forks.Fork.TheVariants.{Least}
use Rattle.box_split.specs.Forks.{first, if_none, is_wide, at_turn, halved, after, round, start}

-- the branch by any variable, where those of the split list are narrow
abbrev pub other_fork : Network → Bounds → ℕ → Fork
other_fork p b turn =
    if_none (first (λ a. is_wide b (Flow a)) (length p.arcs)) (λ a. halved b (Flow a) turn)
    (if_none (first (λ n. is_wide b (Square n)) (length p.nodes)) (λ n. halved b (Square n) turn)
    Least)

-- the branch by a variable
abbrev pub halving : Network → List Var → Bounds → ℕ → Fork
halving p split b turn =
    if_none (first (λ k. is_wide b (at_turn split turn k)) (length split))
    (λ k. halved b (at_turn split turn k) (after (length split) (round (length split) (start (length split) turn) k)))
    (other_fork p b turn)
