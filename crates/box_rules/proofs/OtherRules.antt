-- Rules that say nothing of a law.
use Rattle.std.proofs.Common.{◌≡◌, ◌≢◌, ℤ, Bool, false, refl}
use Rattle.gas_model.specs.declared.law_forms.PipeLaw.{PipeLaw}
use Rattle.gas_model.specs.declared.law_forms.LawForm.TheVariants.{Drags, Equals, Shuts, Loses, Reduces, Raises, Never}
use Rattle.tree_cert.specs.declared.line.Rule.{Rule}
use Rattle.tree_cert.specs.declared.line.Rule.TheVariants as rules
use Rattle.tree_rules.specs.declared.arc_vars.ArcEnds.{ArcEnds}
use Rattle.tree_rules.specs.declared.arc_vars.ArcVar.{ArcVar}
use Rattle.tree_rules.specs.ArcRules.{arc_step, arc_closing}

pub drags_step_else : (rule : Rule) (law : PipeLaw) (K : ℤ) (e : ArcEnds) (x : ArcVar) (low : Bool) (C : ℤ) → rule ≢ rules.Pipe → arc_step rule (Drags law) K e x low C ≡ false
drags_step_else rules.Balance law K e x low C n0 = refl
drags_step_else rules.Pipe law K e x low C n0 = absurd (n0 refl)
drags_step_else rules.Equal law K e x low C n0 = refl
drags_step_else rules.Zero law K e x low C n0 = refl
drags_step_else rules.Way law K e x low C n0 = refl
drags_step_else rules.Inner law K e x low C n0 = refl
drags_step_else rules.Fall law K e x low C n0 = refl
drags_step_else rules.Order law K e x low C n0 = refl
drags_step_else rules.Rise law K e x low C n0 = refl
drags_step_else rules.Ratio law K e x low C n0 = refl
drags_step_else rules.Sign law K e x low C n0 = refl
drags_step_else rules.Reach law K e x low C n0 = refl
drags_step_else rules.Along law K e x low C n0 = refl
drags_step_else rules.Drop law K e x low C n0 = refl

pub drags_closing_else : (rule : Rule) (law : PipeLaw) (K : ℤ) (e : ArcEnds) → rule ≢ rules.Pipe → arc_closing rule (Drags law) K e ≡ false
drags_closing_else rules.Balance law K e n0 = refl
drags_closing_else rules.Pipe law K e n0 = absurd (n0 refl)
drags_closing_else rules.Equal law K e n0 = refl
drags_closing_else rules.Zero law K e n0 = refl
drags_closing_else rules.Way law K e n0 = refl
drags_closing_else rules.Inner law K e n0 = refl
drags_closing_else rules.Fall law K e n0 = refl
drags_closing_else rules.Order law K e n0 = refl
drags_closing_else rules.Rise law K e n0 = refl
drags_closing_else rules.Ratio law K e n0 = refl
drags_closing_else rules.Sign law K e n0 = refl
drags_closing_else rules.Reach law K e n0 = refl
drags_closing_else rules.Along law K e n0 = refl
drags_closing_else rules.Drop law K e n0 = refl

pub equals_step_else : (rule : Rule) (K : ℤ) (e : ArcEnds) (x : ArcVar) (low : Bool) (C : ℤ) → rule ≢ rules.Equal → arc_step rule Equals K e x low C ≡ false
equals_step_else rules.Balance K e x low C n0 = refl
equals_step_else rules.Pipe K e x low C n0 = refl
equals_step_else rules.Equal K e x low C n0 = absurd (n0 refl)
equals_step_else rules.Zero K e x low C n0 = refl
equals_step_else rules.Way K e x low C n0 = refl
equals_step_else rules.Inner K e x low C n0 = refl
equals_step_else rules.Fall K e x low C n0 = refl
equals_step_else rules.Order K e x low C n0 = refl
equals_step_else rules.Rise K e x low C n0 = refl
equals_step_else rules.Ratio K e x low C n0 = refl
equals_step_else rules.Sign K e x low C n0 = refl
equals_step_else rules.Reach K e x low C n0 = refl
equals_step_else rules.Along K e x low C n0 = refl
equals_step_else rules.Drop K e x low C n0 = refl

pub equals_closing_else : (rule : Rule) (K : ℤ) (e : ArcEnds) → arc_closing rule Equals K e ≡ false
equals_closing_else rules.Balance K e = refl
equals_closing_else rules.Pipe K e = refl
equals_closing_else rules.Equal K e = refl
equals_closing_else rules.Zero K e = refl
equals_closing_else rules.Way K e = refl
equals_closing_else rules.Inner K e = refl
equals_closing_else rules.Fall K e = refl
equals_closing_else rules.Order K e = refl
equals_closing_else rules.Rise K e = refl
equals_closing_else rules.Ratio K e = refl
equals_closing_else rules.Sign K e = refl
equals_closing_else rules.Reach K e = refl
equals_closing_else rules.Along K e = refl
equals_closing_else rules.Drop K e = refl

pub shuts_step_else : (rule : Rule) (K : ℤ) (e : ArcEnds) (x : ArcVar) (low : Bool) (C : ℤ) → rule ≢ rules.Zero → arc_step rule Shuts K e x low C ≡ false
shuts_step_else rules.Balance K e x low C n0 = refl
shuts_step_else rules.Pipe K e x low C n0 = refl
shuts_step_else rules.Equal K e x low C n0 = refl
shuts_step_else rules.Zero K e x low C n0 = absurd (n0 refl)
shuts_step_else rules.Way K e x low C n0 = refl
shuts_step_else rules.Inner K e x low C n0 = refl
shuts_step_else rules.Fall K e x low C n0 = refl
shuts_step_else rules.Order K e x low C n0 = refl
shuts_step_else rules.Rise K e x low C n0 = refl
shuts_step_else rules.Ratio K e x low C n0 = refl
shuts_step_else rules.Sign K e x low C n0 = refl
shuts_step_else rules.Reach K e x low C n0 = refl
shuts_step_else rules.Along K e x low C n0 = refl
shuts_step_else rules.Drop K e x low C n0 = refl

pub shuts_closing_else : (rule : Rule) (K : ℤ) (e : ArcEnds) → arc_closing rule Shuts K e ≡ false
shuts_closing_else rules.Balance K e = refl
shuts_closing_else rules.Pipe K e = refl
shuts_closing_else rules.Equal K e = refl
shuts_closing_else rules.Zero K e = refl
shuts_closing_else rules.Way K e = refl
shuts_closing_else rules.Inner K e = refl
shuts_closing_else rules.Fall K e = refl
shuts_closing_else rules.Order K e = refl
shuts_closing_else rules.Rise K e = refl
shuts_closing_else rules.Ratio K e = refl
shuts_closing_else rules.Sign K e = refl
shuts_closing_else rules.Reach K e = refl
shuts_closing_else rules.Along K e = refl
shuts_closing_else rules.Drop K e = refl

pub loses_step_else : (rule : Rule) (l h : ℤ) (K : ℤ) (e : ArcEnds) (x : ArcVar) (low : Bool) (C : ℤ) → rule ≢ rules.Sign → rule ≢ rules.Reach → rule ≢ rules.Along → rule ≢ rules.Drop → arc_step rule (Loses l h) K e x low C ≡ false
loses_step_else rules.Balance l h K e x low C n0 n1 n2 n3 = refl
loses_step_else rules.Pipe l h K e x low C n0 n1 n2 n3 = refl
loses_step_else rules.Equal l h K e x low C n0 n1 n2 n3 = refl
loses_step_else rules.Zero l h K e x low C n0 n1 n2 n3 = refl
loses_step_else rules.Way l h K e x low C n0 n1 n2 n3 = refl
loses_step_else rules.Inner l h K e x low C n0 n1 n2 n3 = refl
loses_step_else rules.Fall l h K e x low C n0 n1 n2 n3 = refl
loses_step_else rules.Order l h K e x low C n0 n1 n2 n3 = refl
loses_step_else rules.Rise l h K e x low C n0 n1 n2 n3 = refl
loses_step_else rules.Ratio l h K e x low C n0 n1 n2 n3 = refl
loses_step_else rules.Sign l h K e x low C n0 n1 n2 n3 = absurd (n0 refl)
loses_step_else rules.Reach l h K e x low C n0 n1 n2 n3 = absurd (n1 refl)
loses_step_else rules.Along l h K e x low C n0 n1 n2 n3 = absurd (n2 refl)
loses_step_else rules.Drop l h K e x low C n0 n1 n2 n3 = absurd (n3 refl)

pub loses_closing_else : (rule : Rule) (l h : ℤ) (K : ℤ) (e : ArcEnds) → rule ≢ rules.Reach → rule ≢ rules.Drop → arc_closing rule (Loses l h) K e ≡ false
loses_closing_else rules.Balance l h K e n0 n1 = refl
loses_closing_else rules.Pipe l h K e n0 n1 = refl
loses_closing_else rules.Equal l h K e n0 n1 = refl
loses_closing_else rules.Zero l h K e n0 n1 = refl
loses_closing_else rules.Way l h K e n0 n1 = refl
loses_closing_else rules.Inner l h K e n0 n1 = refl
loses_closing_else rules.Fall l h K e n0 n1 = refl
loses_closing_else rules.Order l h K e n0 n1 = refl
loses_closing_else rules.Rise l h K e n0 n1 = refl
loses_closing_else rules.Ratio l h K e n0 n1 = refl
loses_closing_else rules.Sign l h K e n0 n1 = refl
loses_closing_else rules.Reach l h K e n0 n1 = absurd (n0 refl)
loses_closing_else rules.Along l h K e n0 n1 = refl
loses_closing_else rules.Drop l h K e n0 n1 = absurd (n1 refl)

pub reduces_step_else : (rule : Rule) (a b c d : ℤ) (K : ℤ) (e : ArcEnds) (x : ArcVar) (low : Bool) (C : ℤ) → rule ≢ rules.Way → rule ≢ rules.Inner → rule ≢ rules.Fall → arc_step rule (Reduces a b c d) K e x low C ≡ false
reduces_step_else rules.Balance a b c d K e x low C n0 n1 n2 = refl
reduces_step_else rules.Pipe a b c d K e x low C n0 n1 n2 = refl
reduces_step_else rules.Equal a b c d K e x low C n0 n1 n2 = refl
reduces_step_else rules.Zero a b c d K e x low C n0 n1 n2 = refl
reduces_step_else rules.Way a b c d K e x low C n0 n1 n2 = absurd (n0 refl)
reduces_step_else rules.Inner a b c d K e x low C n0 n1 n2 = absurd (n1 refl)
reduces_step_else rules.Fall a b c d K e x low C n0 n1 n2 = absurd (n2 refl)
reduces_step_else rules.Order a b c d K e x low C n0 n1 n2 = refl
reduces_step_else rules.Rise a b c d K e x low C n0 n1 n2 = refl
reduces_step_else rules.Ratio a b c d K e x low C n0 n1 n2 = refl
reduces_step_else rules.Sign a b c d K e x low C n0 n1 n2 = refl
reduces_step_else rules.Reach a b c d K e x low C n0 n1 n2 = refl
reduces_step_else rules.Along a b c d K e x low C n0 n1 n2 = refl
reduces_step_else rules.Drop a b c d K e x low C n0 n1 n2 = refl

pub reduces_closing_else : (rule : Rule) (a b c d : ℤ) (K : ℤ) (e : ArcEnds) → rule ≢ rules.Fall → arc_closing rule (Reduces a b c d) K e ≡ false
reduces_closing_else rules.Balance a b c d K e n0 = refl
reduces_closing_else rules.Pipe a b c d K e n0 = refl
reduces_closing_else rules.Equal a b c d K e n0 = refl
reduces_closing_else rules.Zero a b c d K e n0 = refl
reduces_closing_else rules.Way a b c d K e n0 = refl
reduces_closing_else rules.Inner a b c d K e n0 = refl
reduces_closing_else rules.Fall a b c d K e n0 = absurd (n0 refl)
reduces_closing_else rules.Order a b c d K e n0 = refl
reduces_closing_else rules.Rise a b c d K e n0 = refl
reduces_closing_else rules.Ratio a b c d K e n0 = refl
reduces_closing_else rules.Sign a b c d K e n0 = refl
reduces_closing_else rules.Reach a b c d K e n0 = refl
reduces_closing_else rules.Along a b c d K e n0 = refl
reduces_closing_else rules.Drop a b c d K e n0 = refl

pub raises_step_else : (rule : Rule) (a b c d r : ℤ) (K : ℤ) (e : ArcEnds) (x : ArcVar) (low : Bool) (C : ℤ) → rule ≢ rules.Way → rule ≢ rules.Inner → rule ≢ rules.Order → rule ≢ rules.Rise → rule ≢ rules.Ratio → arc_step rule (Raises a b c d r) K e x low C ≡ false
raises_step_else rules.Balance a b c d r K e x low C n0 n1 n2 n3 n4 = refl
raises_step_else rules.Pipe a b c d r K e x low C n0 n1 n2 n3 n4 = refl
raises_step_else rules.Equal a b c d r K e x low C n0 n1 n2 n3 n4 = refl
raises_step_else rules.Zero a b c d r K e x low C n0 n1 n2 n3 n4 = refl
raises_step_else rules.Way a b c d r K e x low C n0 n1 n2 n3 n4 = absurd (n0 refl)
raises_step_else rules.Inner a b c d r K e x low C n0 n1 n2 n3 n4 = absurd (n1 refl)
raises_step_else rules.Fall a b c d r K e x low C n0 n1 n2 n3 n4 = refl
raises_step_else rules.Order a b c d r K e x low C n0 n1 n2 n3 n4 = absurd (n2 refl)
raises_step_else rules.Rise a b c d r K e x low C n0 n1 n2 n3 n4 = absurd (n3 refl)
raises_step_else rules.Ratio a b c d r K e x low C n0 n1 n2 n3 n4 = absurd (n4 refl)
raises_step_else rules.Sign a b c d r K e x low C n0 n1 n2 n3 n4 = refl
raises_step_else rules.Reach a b c d r K e x low C n0 n1 n2 n3 n4 = refl
raises_step_else rules.Along a b c d r K e x low C n0 n1 n2 n3 n4 = refl
raises_step_else rules.Drop a b c d r K e x low C n0 n1 n2 n3 n4 = refl

pub raises_closing_else : (rule : Rule) (a b c d r : ℤ) (K : ℤ) (e : ArcEnds) → rule ≢ rules.Rise → rule ≢ rules.Ratio → arc_closing rule (Raises a b c d r) K e ≡ false
raises_closing_else rules.Balance a b c d r K e n0 n1 = refl
raises_closing_else rules.Pipe a b c d r K e n0 n1 = refl
raises_closing_else rules.Equal a b c d r K e n0 n1 = refl
raises_closing_else rules.Zero a b c d r K e n0 n1 = refl
raises_closing_else rules.Way a b c d r K e n0 n1 = refl
raises_closing_else rules.Inner a b c d r K e n0 n1 = refl
raises_closing_else rules.Fall a b c d r K e n0 n1 = refl
raises_closing_else rules.Order a b c d r K e n0 n1 = refl
raises_closing_else rules.Rise a b c d r K e n0 n1 = absurd (n0 refl)
raises_closing_else rules.Ratio a b c d r K e n0 n1 = absurd (n1 refl)
raises_closing_else rules.Sign a b c d r K e n0 n1 = refl
raises_closing_else rules.Reach a b c d r K e n0 n1 = refl
raises_closing_else rules.Along a b c d r K e n0 n1 = refl
raises_closing_else rules.Drop a b c d r K e n0 n1 = refl

pub never_step_else : (rule : Rule) (K : ℤ) (e : ArcEnds) (x : ArcVar) (low : Bool) (C : ℤ) → arc_step rule Never K e x low C ≡ false
never_step_else rules.Balance K e x low C = refl
never_step_else rules.Pipe K e x low C = refl
never_step_else rules.Equal K e x low C = refl
never_step_else rules.Zero K e x low C = refl
never_step_else rules.Way K e x low C = refl
never_step_else rules.Inner K e x low C = refl
never_step_else rules.Fall K e x low C = refl
never_step_else rules.Order K e x low C = refl
never_step_else rules.Rise K e x low C = refl
never_step_else rules.Ratio K e x low C = refl
never_step_else rules.Sign K e x low C = refl
never_step_else rules.Reach K e x low C = refl
never_step_else rules.Along K e x low C = refl
never_step_else rules.Drop K e x low C = refl

pub never_closing_else : (rule : Rule) (K : ℤ) (e : ArcEnds) → arc_closing rule Never K e ≡ false
never_closing_else rules.Balance K e = refl
never_closing_else rules.Pipe K e = refl
never_closing_else rules.Equal K e = refl
never_closing_else rules.Zero K e = refl
never_closing_else rules.Way K e = refl
never_closing_else rules.Inner K e = refl
never_closing_else rules.Fall K e = refl
never_closing_else rules.Order K e = refl
never_closing_else rules.Rise K e = refl
never_closing_else rules.Ratio K e = refl
never_closing_else rules.Sign K e = refl
never_closing_else rules.Reach K e = refl
never_closing_else rules.Along K e = refl
never_closing_else rules.Drop K e = refl
