-- The value that each rule gives each end of a box, and that it gives none that is tighter; and where closings hold.
use Rattle.std.specs.Prelude.{◌≡◌, ℕ, ℤ, pos, negsuc, ◌+ℤ◌, ◌-ℤ◌, ◌*ℤ◌, List, [], ◌∷◌, codes, Bool, true, false, not, ◌&&◌, cond}
use Rattle.std.specs.List.{list_all}
use Rattle.gas_model.specs.declared.rows.ArcKind.TheVariants.{Short}
use Rattle.gas_model.specs.declared.rows.Ends.{Ends}
use Rattle.base_types.specs.declared.variables.Var.TheVariants.{Flow}
use Rattle.gas_model.specs.Rows.{Network}
use Rattle.gas_model.specs.Choices.{fresh_part}
use Rattle.gas_model.specs.Laws.{level}
use Rattle.gas_model.specs.declared.law_forms.LawForm.{LawForm}
use Rattle.gas_model.specs.declared.law_forms.LawForm.TheVariants.{Drags, Equals, Shuts, Loses, Reduces, Raises}
use Rattle.tree_cert.specs.declared.line.Rule.{Rule}
use Rattle.tree_cert.specs.declared.line.Rule.TheVariants.{Balance, Pipe, Equal, Zero, Way, Inner, Fall, Order, Rise, Ratio, Sign, Reach, Along, Drop}
use Rattle.tree_rules.specs.declared.arc_vars.ArcEnds.{ArcEnds}
use Rattle.tree_rules.specs.declared.arc_vars.ArcVar.{ArcVar}
use Rattle.tree_rules.specs.declared.arc_vars.ArcVar.TheVariants.{OfFlow, OfFrom, OfTo}
use Rattle.tree_rules.specs.ArcRules.{arc_step, arc_closing}
use Rattle.tree_rules.specs.Rules.{PartBox, rule_holds, closing_at}
use Rattle.tree_rules.specs.Examples.{node, arc}

abbrev pub ends : ℤ → ℤ → Ends
ends lo hi = record { lo = lo; hi = hi }

-- a value that is tighter by one
abbrev pub tighter : Bool → ℤ → ℤ
tighter low C = cond low (C +ℤ pos 1) (C -ℤ pos 1)

-- a rule of a law, an end of a variable of the arc, and the tightest value that the rule gives it
pub record Value : Type 0 where
  pub rule : Rule
  pub form : LawForm
  pub of : ArcVar
  pub low : Bool
  pub value : ℤ

abbrev pub gives : ℤ → ArcEnds → Value → Bool
gives K e x = arc_step x.rule x.form K e x.of x.low x.value && not (arc_step x.rule x.form K e x.of x.low (tighter x.low x.value))

abbrev pub lower : Rule → LawForm → ArcVar → ℤ → Value
lower rule form of value = record { rule = rule; form = form; of = of; low = true; value = value }

abbrev pub upper : Rule → LawForm → ArcVar → ℤ → Value
upper rule form of value = record { rule = rule; form = form; of = of; low = false; value = value }

-- pressures of 5 to 10 Pa before the arc and of 4 to 8 Pa behind it, and a flow of 2 to 5 forward or back
abbrev pub forward : ArcEnds
forward = record { q = ends (pos 2) (pos 5); u = ends (pos 25) (pos 100); v = ends (pos 16) (pos 64) }

abbrev pub back : ArcEnds
back = record { q = ends (negsuc 4) (negsuc 1); u = ends (pos 25) (pos 100); v = ends (pos 16) (pos 64) }

-- a resistance of 1 to 2
abbrev pub piped : LawForm
piped = Drags (level (record { lo = pos 1; hi = pos 2; den = pos 1 }))

-- at least 6 Pa before and at most 7 Pa behind; reduced by 2 to 3 Pa
abbrev pub reduced : LawForm
reduced = Reduces (pos 6) (pos 7) (pos 2) (pos 3)

-- the same, raised by at most 3 Pa and to 3 / 2 of the pressure
abbrev pub raised : LawForm
raised = Raises (pos 6) (pos 7) (pos 3) (pos 2) (pos 3)

-- With a flow of 2 to 5 the squares drop by 4 to 50. The root of 36 is that of 16 and 2, the root of 121 that of 64 and
-- 3, and so on. A loss of 7 Pa is more than the pressures allow either way.
abbrev pub forward_values : List Value
forward_values =
    lower Pipe piped OfFlow (negsuc 6) ∷ upper Pipe piped OfFlow (pos 10) ∷ lower Pipe piped OfFrom (pos 20) ∷ upper Pipe piped OfFrom (pos 114)
    ∷ lower Pipe piped OfTo (negsuc 24) ∷ upper Pipe piped OfTo (pos 96)
    ∷ lower Equal Equals OfFrom (pos 16) ∷ upper Equal Equals OfFrom (pos 64) ∷ lower Equal Equals OfTo (pos 25) ∷ upper Equal Equals OfTo (pos 100)
    ∷ lower Zero Shuts OfFlow (pos 0) ∷ upper Zero Shuts OfFlow (pos 0)
    ∷ lower Way reduced OfFlow (pos 0) ∷ lower Inner reduced OfFrom (pos 36) ∷ upper Inner reduced OfTo (pos 49)
    ∷ lower Fall reduced OfFrom (pos 36) ∷ upper Fall reduced OfFrom (pos 121) ∷ lower Fall reduced OfTo (pos 4) ∷ upper Fall reduced OfTo (pos 64)
    ∷ lower Way raised OfFlow (pos 0) ∷ lower Inner raised OfFrom (pos 36) ∷ upper Inner raised OfTo (pos 49)
    ∷ upper Order raised OfFrom (pos 64) ∷ lower Order raised OfTo (pos 25)
    ∷ lower Rise raised OfFrom (pos 1) ∷ upper Rise raised OfTo (pos 169)
    ∷ lower Ratio raised OfFrom (pos 7) ∷ upper Ratio raised OfTo (pos 225)
    ∷ lower Sign (Loses (pos 7) (pos 9)) OfFlow (pos 0) ∷ upper Sign (Loses (pos 7) (pos 9)) OfFlow (pos 0)
    ∷ lower Reach (Loses (pos 2) (pos 3)) OfFrom (pos 1) ∷ upper Reach (Loses (pos 2) (pos 3)) OfFrom (pos 121)
    ∷ lower Reach (Loses (pos 2) (pos 3)) OfTo (pos 4) ∷ upper Reach (Loses (pos 2) (pos 3)) OfTo (pos 169)
    ∷ lower Along (Loses (pos 2) (pos 3)) OfFrom (pos 16) ∷ upper Along (Loses (pos 2) (pos 3)) OfTo (pos 100)
    ∷ lower Drop (Loses (pos 2) (pos 3)) OfFrom (pos 36) ∷ upper Drop (Loses (pos 2) (pos 3)) OfTo (pos 64) ∷ []

abbrev pub back_values : List Value
back_values =
    upper Along (Loses (pos 2) (pos 3)) OfFrom (pos 64) ∷ lower Along (Loses (pos 2) (pos 3)) OfTo (pos 25)
    ∷ upper Drop (Loses (pos 2) (pos 3)) OfFrom (pos 36) ∷ lower Drop (Loses (pos 2) (pos 3)) OfTo (pos 49) ∷ []

abbrev pub RulesGiveTheirValues : Type 0
RulesGiveTheirValues = (list_all (gives (pos 1) forward) forward_values && list_all (gives (pos 1) back) back_values) ≡ true

-- the same pressures in sixteenths, with flows of 1 to 8 sixteenths
abbrev pub forward_sixteenths : ArcEnds
forward_sixteenths = record { q = ends (pos 1) (pos 8); u = ends (pos 400) (pos 1600); v = ends (pos 256) (pos 1024) }

-- These flows drop the squares by 1 / 256 to 1 / 2, which is a sixteenth of a sixteenth to 8 sixteenths.
abbrev pub sixteenth_values : List Value
sixteenth_values =
    lower Pipe piped OfFrom (pos 256) ∷ upper Pipe piped OfFrom (pos 1032) ∷ lower Pipe piped OfTo (pos 392) ∷ upper Pipe piped OfTo (pos 1600)
    ∷ lower Pipe piped OfFlow (negsuc 99) ∷ upper Pipe piped OfFlow (pos 147)
    ∷ lower Inner reduced OfFrom (pos 576) ∷ upper Inner reduced OfTo (pos 784)
    ∷ lower Fall reduced OfFrom (pos 576) ∷ upper Fall reduced OfFrom (pos 1936) ∷ lower Fall reduced OfTo (pos 64) ∷ upper Fall reduced OfTo (pos 1024)
    ∷ lower Rise raised OfFrom (pos 16) ∷ upper Rise raised OfTo (pos 2704)
    ∷ lower Ratio raised OfFrom (pos 113) ∷ upper Ratio raised OfTo (pos 3600)
    ∷ lower Sign (Loses (pos 7) (pos 9)) OfFlow (pos 0) ∷ upper Sign (Loses (pos 7) (pos 9)) OfFlow (pos 0)
    ∷ lower Reach (Loses (pos 2) (pos 3)) OfFrom (pos 16) ∷ upper Reach (Loses (pos 2) (pos 3)) OfFrom (pos 1936)
    ∷ lower Reach (Loses (pos 2) (pos 3)) OfTo (pos 64) ∷ upper Reach (Loses (pos 2) (pos 3)) OfTo (pos 2704)
    ∷ lower Drop (Loses (pos 2) (pos 3)) OfFrom (pos 576) ∷ upper Drop (Loses (pos 2) (pos 3)) OfTo (pos 1024) ∷ []

-- a loss of 3 Pa just fits back from 8 to 5 Pa, and one of 6 Pa forward from 10 to 4
abbrev pub no_signs_in_sixteenths : List Value
no_signs_in_sixteenths = lower Sign (Loses (pos 3) (pos 3)) OfFlow (negsuc 9) ∷ upper Sign (Loses (pos 6) (pos 6)) OfFlow (pos 9) ∷ []

abbrev pub RulesGiveTheirValuesInSixteenths : Type 0
RulesGiveTheirValuesInSixteenths =
    (list_all (gives (pos 16) forward_sixteenths) sixteenth_values
    && list_all (λ x. not (arc_step x.rule x.form (pos 16) forward_sixteenths x.of x.low x.value)) no_signs_in_sixteenths) ≡ true

-- a rule gives no value to an end of which it says nothing, and none by another law; and the loss of 2 Pa fits both ways
abbrev pub RulesGiveNothingElse : Type 0
RulesGiveNothingElse = list_all (λ x. not (arc_step x.rule x.form (pos 1) forward x.of x.low x.value))
    (upper Way reduced OfFlow (pos 9) ∷ upper Inner reduced OfFrom (pos 900) ∷ lower Inner reduced OfTo (pos 0) ∷ lower Fall reduced OfFlow (negsuc 9)
    ∷ lower Order raised OfFrom (pos 0) ∷ upper Order raised OfTo (pos 900) ∷ upper Rise raised OfFrom (pos 900) ∷ lower Rise raised OfTo (pos 0)
    ∷ upper Ratio raised OfFrom (pos 900) ∷ lower Ratio raised OfTo (pos 0) ∷ upper Along (Loses (pos 2) (pos 3)) OfFrom (pos 900)
    ∷ lower Along (Loses (pos 2) (pos 3)) OfTo (pos 0) ∷ upper Drop (Loses (pos 2) (pos 3)) OfFrom (pos 900) ∷ lower Drop (Loses (pos 2) (pos 3)) OfTo (pos 0)
    ∷ lower Sign (Loses (pos 2) (pos 3)) OfFlow (negsuc 9) ∷ upper Sign (Loses (pos 2) (pos 3)) OfFlow (pos 9)
    ∷ lower Balance piped OfFlow (negsuc 9) ∷ lower Equal piped OfFrom (pos 0) ∷ lower Pipe Equals OfFrom (pos 0) ∷ lower Fall raised OfFrom (pos 0)
    ∷ lower Rise reduced OfFrom (pos 0) ∷ lower Zero Equals OfFlow (negsuc 9) ∷ []) ≡ true

-- ---- closings
-- a flow of q and squares of u to v, without a choice
abbrev pub known : (q u v : ℤ) → ArcEnds
known q u v = record { q = ends q q; u = ends u u; v = ends v v }

-- squares of u to v, and a flow of 2 forward or back
abbrev pub at : ℤ → ℤ → ArcEnds
at u v = known (pos 2) u v

abbrev pub at_back : ℤ → ℤ → ArcEnds
at_back u v = known (negsuc 1) u v

abbrev pub closes : Rule → LawForm → ArcEnds → Bool
closes rule form e = arc_closing rule form (pos 1) e

abbrev pub stays : Rule → LawForm → ArcEnds → Bool
stays rule form e = not (arc_closing rule form (pos 1) e)

-- each closes past a number, and not at it
abbrev pub ClosingsHoldPastTheirLaw : Type 0
ClosingsHoldPastTheirLaw = list_all (λ holds. holds)
    (closes Pipe piped (at (pos 19) (pos 16)) ∷ stays Pipe piped (at (pos 20) (pos 16)) ∷ stays Pipe piped (at (pos 24) (pos 16)) ∷ closes Pipe piped (at (pos 25) (pos 16))
    ∷ closes Fall reduced (at (pos 35) (pos 16)) ∷ stays Fall reduced (at (pos 36) (pos 16)) ∷ stays Fall reduced (at (pos 49) (pos 16)) ∷ closes Fall reduced (at (pos 50) (pos 16))
    ∷ stays Rise raised (at (pos 16) (pos 49)) ∷ closes Rise raised (at (pos 16) (pos 50))
    ∷ stays Ratio raised (at (pos 16) (pos 36)) ∷ closes Ratio raised (at (pos 16) (pos 37))
    ∷ stays Reach (Loses (pos 2) (pos 3)) (at (pos 16) (pos 49)) ∷ closes Reach (Loses (pos 2) (pos 3)) (at (pos 16) (pos 50))
    ∷ stays Reach (Loses (pos 2) (pos 3)) (at (pos 49) (pos 16)) ∷ closes Reach (Loses (pos 2) (pos 3)) (at (pos 50) (pos 16))
    ∷ stays Drop (Loses (pos 2) (pos 3)) (at (pos 36) (pos 16)) ∷ closes Drop (Loses (pos 2) (pos 3)) (at (pos 35) (pos 16))
    ∷ stays Drop (Loses (pos 2) (pos 3)) (at_back (pos 16) (pos 36)) ∷ closes Drop (Loses (pos 2) (pos 3)) (at_back (pos 16) (pos 35))
    ∷ stays Equal Equals (at (pos 1) (pos 2)) ∷ stays Zero Shuts (at (pos 1) (pos 2)) ∷ stays Inner reduced (at (pos 1) (pos 900))
    ∷ stays Order raised (at (pos 2) (pos 1)) ∷ stays Way reduced (at_back (pos 36) (pos 16)) ∷ stays Along (Loses (pos 2) (pos 3)) (at (pos 1) (pos 2)) ∷ []) ≡ true

abbrev pub closes_16 : Rule → LawForm → ArcEnds → Bool
closes_16 rule form e = arc_closing rule form (pos 16) e

abbrev pub stays_16 : Rule → LawForm → ArcEnds → Bool
stays_16 rule form e = not (arc_closing rule form (pos 16) e)

-- The same pressures in sixteenths, where 4 Pa have the square 256: a flow of 2 is 32 sixteenths, and one sixteenth is a
-- flow forward already.
abbrev pub ClosingsHoldPastTheirLawInSixteenths : Type 0
ClosingsHoldPastTheirLawInSixteenths = list_all (λ holds. holds)
    (closes_16 Pipe piped (known (pos 32) (pos 319) (pos 256)) ∷ stays_16 Pipe piped (known (pos 32) (pos 320) (pos 256))
    ∷ stays_16 Pipe piped (known (pos 32) (pos 384) (pos 256)) ∷ closes_16 Pipe piped (known (pos 32) (pos 385) (pos 256))
    ∷ closes_16 Fall reduced (at (pos 575) (pos 256)) ∷ stays_16 Fall reduced (at (pos 576) (pos 256)) ∷ stays_16 Fall reduced (at (pos 784) (pos 256)) ∷ closes_16 Fall reduced (at (pos 785) (pos 256))
    ∷ stays_16 Rise raised (at (pos 256) (pos 784)) ∷ closes_16 Rise raised (at (pos 256) (pos 785))
    ∷ stays_16 Ratio raised (at (pos 256) (pos 576)) ∷ closes_16 Ratio raised (at (pos 256) (pos 577))
    ∷ stays_16 Reach (Loses (pos 2) (pos 3)) (at (pos 256) (pos 784)) ∷ closes_16 Reach (Loses (pos 2) (pos 3)) (at (pos 256) (pos 785))
    ∷ stays_16 Reach (Loses (pos 2) (pos 3)) (at (pos 784) (pos 256)) ∷ closes_16 Reach (Loses (pos 2) (pos 3)) (at (pos 785) (pos 256))
    ∷ stays_16 Drop (Loses (pos 2) (pos 3)) (known (pos 1) (pos 576) (pos 256)) ∷ closes_16 Drop (Loses (pos 2) (pos 3)) (known (pos 1) (pos 575) (pos 256))
    ∷ stays_16 Drop (Loses (pos 2) (pos 3)) (known (pos 0) (pos 575) (pos 256))
    ∷ stays_16 Drop (Loses (pos 2) (pos 3)) (known (negsuc 0) (pos 256) (pos 576)) ∷ closes_16 Drop (Loses (pos 2) (pos 3)) (known (negsuc 0) (pos 256) (pos 575)) ∷ []) ≡ true

-- ---- the balance of a node
-- three arcs, of which the last enters the first node and the others leave it, and a supply of 2 to 3
abbrev pub joined : Network
joined = record {
  nodes = node (codes "a") (pos 0) (pos 9) (pos 2) (pos 3) ∷ node (codes "b") (pos 0) (pos 9) (negsuc 2) (negsuc 1) ∷ [];
  arcs = arc (codes "p") (negsuc 99) (pos 100) Short ∷ arc (codes "q") (pos 1) (pos 4) Short
      ∷ record { id = codes "r"; from = 1; to = 0; q_min = pos 5; q_max = pos 7; kind = Short } ∷ [];
  groups = [];
}

-- units of 1/K, in which the first flow lies between these ends and the others have those of their arcs
abbrev pub flows : (K low high : ℤ) → PartBox
flows K low high = record {
  scale = K;
  part = fresh_part joined;
  bounds = record { flows = ends low high ∷ ends (K *ℤ pos 1) (K *ℤ pos 4) ∷ ends (K *ℤ pos 5) (K *ℤ pos 7) ∷ []; squares = [] };
}

abbrev pub balance_gives : PartBox → ℕ → ℕ → Bool → ℤ → Bool
balance_gives b n a low C = rule_holds joined b Balance n (Flow a) low C && not (rule_holds joined b Balance n (Flow a) low (tighter low C))

-- The first flow is at least 2 - 4 + 5 and at most 3 - 1 + 7, and so by both nodes; the last is at least -10 + 1 - 3 and at
-- most 20 + 4 - 2. So it is in sixteenths.
abbrev pub gives_all : PartBox → (first_low first_high last_low last_high : ℤ) → Bool
gives_all b first_low first_high last_low last_high =
    balance_gives b 0 0 true first_low && balance_gives b 0 0 false first_high && balance_gives b 1 0 true first_low && balance_gives b 1 0 false first_high
    && balance_gives b 0 2 true last_low && balance_gives b 0 2 false last_high && not (closing_at joined b Balance 0)

abbrev pub BalanceGivesItsValues : Type 0
BalanceGivesItsValues =
    (gives_all (flows (pos 1) (negsuc 9) (pos 20)) (pos 3) (pos 9) (negsuc 11) (pos 22)
    && gives_all (flows (pos 16) (negsuc 159) (pos 320)) (pos 48) (pos 144) (negsuc 191) (pos 352)) ≡ true

abbrev pub balance_closes : (K first : ℤ) → Bool
balance_closes K first = closing_at joined (flows K first first) Balance 0

-- With a first flow of f the others leave a supply of f + 1 - 7 to f + 4 - 5, which has to meet 2 to 3.
abbrev pub BalanceClosesPastItsLaw : Type 0
BalanceClosesPastItsLaw = list_all (λ holds. holds)
    (not (balance_closes (pos 1) (pos 9)) ∷ balance_closes (pos 1) (pos 10) ∷ not (balance_closes (pos 1) (pos 3)) ∷ balance_closes (pos 1) (pos 2)
    ∷ not (balance_closes (pos 16) (pos 144)) ∷ balance_closes (pos 16) (pos 145) ∷ not (balance_closes (pos 16) (pos 48)) ∷ balance_closes (pos 16) (pos 47) ∷ []) ≡ true
