use denote.Enum.Bare.{sameb, same_true, true_same}
use Rattle.std.proofs.Common.{◌≡◌, sym, ap, ◌∙◌, rules}
use Rattle.std.specs.Bool.{Decides}
use Rattle.std.specs.Cmp.{unsigned_Decides}
use Rattle.std.proofs.lemmas.Slice.Eq.{slice_eq-Decides}
use Rattle.base_types.specs.declared.states.ArcState.{ArcState}
use Rattle.gas_model.specs.declared.rows.PartState.{PartState}
use Rattle.base_types.specs.contracts.states.ArcState.{the_type}
use Rattle.probe_point.proofs.PartFacts.{option_decides, same_part}
use Rattle.probe_point.proofs.choosing.is_same_part.Goals as goal

state_decides : (a b : ArcState) → Decides (sameb the_type a b) (a ≡ b)
state_decides a b = (same_true the_type (search rules) a b, true_same the_type a b)

pub returns-then-eq : goal.returns-then-eq
returns-then-eq c =
    let picks = slice_eq-Decides (option_decides unsigned_Decides) _ _ c.eq.result c.eq.ensures in
    let states = slice_eq-Decides (option_decides state_decides) _ _ c.eq-then-eq.result c.eq-then-eq.ensures in (
      (λ t. same_part c.args.a.now c.args.b.now (sym c.as_slice.ensures ∙ picks.0 c.if-eq.true ∙ c.as_slice-2.ensures) (sym c.as_slice-then-eq.ensures ∙ states.0 t ∙ c.as_slice-then-eq-2.ensures)),
      λ e. states.1 (c.as_slice-then-eq.ensures ∙ ap (λ (part : PartState). part.states) e ∙ sym c.as_slice-then-eq-2.ensures),
    )

pub returns-else-eq : goal.returns-else-eq
returns-else-eq c =
    let picks = slice_eq-Decides (option_decides unsigned_Decides) _ _ c.eq.result c.eq.ensures in
    ((λ t. absurd (let f = c.if-eq.false in cc)), λ e. picks.1 (c.as_slice.ensures ∙ ap (λ (part : PartState). part.picks) e ∙ sym c.as_slice-2.ensures))
