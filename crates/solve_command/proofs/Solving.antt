-- What `solve` finds means what it is to mean.
use Rattle.std.proofs.Common.{◌≡◌, sym, ap, subst, refl}
use Rattle.gas_model.specs.Rows.{Network}
use Rattle.command_core.specs.declared.command.Done.{Done}
use Rattle.command_core.specs.declared.status.Status.{Status}
use Rattle.command_core.specs.declared.status.Status.TheVariants as ends
use Rattle.command_core.specs.Gates.{Files, stands}
use Rattle.command_core.specs.Meanings.{Does, Meaning}
use Rattle.command_core.specs.Stops.{HoldsNoWant, kind_of}
use Rattle.command_core.proofs.Doing.{makes_one}
use Rattle.problem_files.specs.Sources.{problem_is}
use Rattle.solve_command.specs.Meaning.{solve_may, solve_meaning, solve_says}
use Rattle.solve_command.specs.Words.{SolveWords}

module _ (tells : Type 0) (words : SolveWords) (files : Files) (p : Network) (done : Done) (is : tells → problem_is words.origin files ≡ stands p)
    (says : solve_says words.tol words.boxes p done.status done.note done.texts) where
  by : (s : Status) → done.status ≡ s → solve_says words.tol words.boxes p s done.note done.texts → Does tells (solve_meaning words) files done
  by ends.Accepted e h =
      makes_one tells (solve_meaning words) files done (subst solve_may (sym e) tt) (subst HoldsNoWant (sym e) tt) (λ t. record { problem = p; stands_for = is t; says = says }) (λ t s d. absurd d)
      words.out h.text (ap kind_of e) refl h.one
  by ends.Rejected e h =
      makes_one tells (solve_meaning words) files done (subst solve_may (sym e) tt) (subst HoldsNoWant (sym e) tt) (λ t. record { problem = p; stands_for = is t; says = says }) (λ t s d. absurd d)
      words.out h.text (ap kind_of e) refl h.one
  by (ends.Undecided why) e h =
      makes_one tells (solve_meaning words) files done (subst solve_may (sym e) tt) (subst HoldsNoWant (sym e) tt) (λ t. record { problem = p; stands_for = is t; says = says }) (λ t s d. absurd d)
      words.out h.text (ap kind_of e) refl h.one
  by s e h = absurd h

  pub solves_does : Does tells (solve_meaning words) files done
  solves_does = by done.status refl says
