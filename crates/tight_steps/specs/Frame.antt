-- What a change of a variable leaves as it was.
use Rattle.std.specs.Prelude.{◌≡◌, ℤ, Bool, false, IsTrue}
use Rattle.base_types.specs.declared.variables.Var.{Var}
use Rattle.gas_model.specs.Rows.{Network}
use Rattle.gas_model.specs.Boxes.{Bounds, BoxFits, ends_of, may_become, tightened, with_end}
use Rattle.gas_model.specs.BoxLimits.{AreLimited}
use Rattle.tree_rules.specs.Rules.{PartBox}
use Rattle.tight_steps.specs.declared.law.Law.{Law}
use Rattle.tight_steps.specs.Mentions.{mentions}
use Rattle.tight_steps.specs.Moves.{IsQuiet}

-- the box in which one end of a variable becomes C
abbrev pub with_value : PartBox → Var → (low : Bool) → (C : ℤ) → PartBox
with_value b var low C = record { scale = b.scale; part = b.part; bounds = tightened b.bounds var low C }

-- a law stays quiet where a variable changes that it doesn't mention
abbrev pub OtherLawsStayQuiet : Type 0
OtherLawsStayQuiet =
    (p : Network) (b : PartBox) (law : Law) (var : Var) (low : Bool) (C : ℤ)
    → mentions p b.part law var ≡ false → IsQuiet p b law → IsQuiet p (with_value b var low C) law

-- a box still has the ends of each variable of the problem
abbrev pub BoxesStillFit : Type 0
BoxesStillFit = (p : Network) (b : Bounds) (var : Var) (low : Bool) (C : ℤ) → BoxFits p b → BoxFits p (tightened b var low C)

-- ends stay within their limits where one becomes a value that it may be given
abbrev pub EndsStayLimited : Type 0
EndsStayLimited =
    (K : ℤ) (b : Bounds) (var : Var) (low : Bool) (C : ℤ)
    → AreLimited K var (ends_of b var) → IsTrue (may_become low C (ends_of b var)) → AreLimited K var (with_end low C (ends_of b var))
