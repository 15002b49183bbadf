-- Boxes that are stable, and what settling keeps until one is.
use Rattle.std.specs.Prelude.{◌≡◌, ℕ, ◌<◌, ◌⊎◌, true, List, length, IsTrue}
use Rattle.gas_model.specs.Rows.{Network}
use Rattle.box_ends.specs.Empty.{LeavesAll}
use Rattle.tree_cert.specs.declared.line.Step.{Step}
use Rattle.tree_cert.specs.declared.line.Closing.{Closing}
use Rattle.tree_rules.specs.Rules.{PartBox, closing_holds}
use Rattle.link_queue.specs.Queue.{holds}
use Rattle.tight_steps.specs.declared.law.Law.{Law}
use Rattle.tight_steps.specs.Moves.{is_law, IsMove, IsQuiet}
use Rattle.stable_sweep.specs.declared.sweep.Settled.{Settled}
use Rattle.stable_sweep.specs.declared.sweep.Settled.TheVariants.{Stable, Shut}
use Rattle.stable_sweep.specs.Components.{IsTried}
use Rattle.stable_sweep.specs.Waiting.{slot}

-- no variable is empty, no closing holds, cuts being tried for whole components alone, and no rule has an allowed step
-- that shrinks its width by an eighth
pub record IsStable (p : Network) (b : PartBox) : Type 0 where
  pub filled : LeavesAll b.bounds
  pub open_still : (c : Closing) → IsTried p b.part c → IsTrue (closing_holds p b c) → ⊥
  pub no_move : (s : Step) → IsMove p b s → ⊥

-- a closing that holds, so that the box isn't stable
pub record IsShut (p : Network) (b : PartBox) (c : Closing) : Type 0 where
  pub holds : IsTrue (closing_holds p b c)
  pub unstable : IsStable p b → ⊥

abbrev pub SettledAs : Network → PartBox → Settled → Type 0
SettledAs p b Stable = IsStable p b
SettledAs p b (Shut c) = IsShut p b c

-- each law waits in the queue or is quiet
pub record AreSettled (p : Network) (b : PartBox) (held : List ℕ) : Type 0 where
  pub each : (law : Law) → is_law (length p.nodes) (length p.arcs) law → (holds (slot (length p.nodes) law) held ≡ true) ⊎ IsQuiet p b law

-- but for the one in the slot `current`
pub record AreSettledBut (p : Network) (b : PartBox) (held : List ℕ) (current : ℕ) : Type 0 where
  pub each : (law : Law) → is_law (length p.nodes) (length p.arcs) law → (holds (slot (length p.nodes) law) held ≡ true) ⊎ ((slot (length p.nodes) law ≡ current) ⊎ IsQuiet p b law)

-- the box is a smaller one, or nothing has changed
abbrev pub Falls : (before now : ℕ) → (old new : List ℕ) → Type 0
Falls before now old new = (now < before) ⊎ ((now ≡ before) × (new ≡ old))
