-- The steps and closings of a law, from those of the propagators.
use Rattle.std.proofs.Common.{ℕ, refl, Bool, IsTrue, Some}
use Rattle.std.specs.Prelude.{Option, None, MatchOption}
use Rattle.base_types.specs.declared.variables.Var.{Var}
use Rattle.base_types.specs.declared.variables.Var.TheVariants.{Flow, Square}
use Rattle.gas_model.specs.Rows.{Network}
use Rattle.tree_cert.specs.declared.line.Step.{Step}
use Rattle.tree_rules.specs.Rules.{PartBox}
use Rattle.tight_steps.specs.declared.law.Law.TheVariants.{AtArc}
use Rattle.tight_steps.specs.Moves.{is_flow, is_square, HasNoMove, IsFirstMove}
use Rattle.tight_steps.specs.declared.law.Law.{Law}
use Rattle.stable_sweep.specs.Quiet.{HasNoStep, IsTightMove}

pub first_is_move : (p : Network) (b : PartBox) (law : Law) (kind : Var → Bool) (number : Var → ℕ) (s : Step) → IsFirstMove p b law kind number s → IsTightMove p b s
first_is_move p b law kind number s h = record { move = record { holds = h.tightest.holds; shrinks = h.shrinks }; tightest = h.tightest }

pub no_arc_step : (p : Network) (b : PartBox) (a : ℕ) → HasNoMove p b (AtArc a) is_flow → HasNoMove p b (AtArc a) is_square → HasNoStep p b (AtArc a)
no_arc_step p b a f q = record { none = λ s l m. kinds s.var (λ t. f.none s l t m) (λ t. q.none s l t m) }
  where
    kinds : (v : Var) → (IsTrue (is_flow v) → ⊥) → (IsTrue (is_square v) → ⊥) → ⊥
    kinds (Flow i) x y = x refl
    kinds (Square n) x y = y refl

pub arc_step : (p : Network) (b : PartBox) (a : ℕ) (number : Var → ℕ) (o : Option Step) → HasNoMove p b (AtArc a) is_flow
    → MatchOption o (HasNoMove p b (AtArc a) is_square) (IsFirstMove p b (AtArc a) is_square number) → MatchOption o (HasNoStep p b (AtArc a)) (IsTightMove p b)
arc_step p b a number None f h = no_arc_step p b a f h
arc_step p b a number (Some s) f h = first_is_move p b (AtArc a) is_square number s h
