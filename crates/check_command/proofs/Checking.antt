-- What `check` finds means what it is to mean.
use Rattle.std.proofs.Common.{◌≡◌, sym, ap, subst, refl, ℕ, List}
use Rattle.gas_model.specs.Rows.{Network}
use Rattle.tree_cert.specs.declared.fault.TreeFault.TheVariants as tree_fault
use Rattle.command_core.specs.declared.command.Done.{Done}
use Rattle.command_core.specs.declared.status.NotFault.{NotFault}
use Rattle.command_core.specs.declared.status.NotFault.TheVariants.{Tree, Left}
use Rattle.command_core.specs.declared.status.Status.{Status}
use Rattle.command_core.specs.declared.status.Status.TheVariants as ends
use Rattle.command_core.specs.Gates.{Files, stands, file_is, any_bytes, text_limit}
use Rattle.command_core.specs.Meanings.{Does}
use Rattle.command_core.specs.Stops.{HoldsNoWant, kind_of}
use Rattle.command_core.proofs.Doing.{makes_none}
use Rattle.problem_files.specs.Sources.{problem_is}
use Rattle.check_command.specs.Meaning.{CheckIsDue, IsNoRefutation, IsVerdict, check_may, check_meaning, check_says}
use Rattle.check_command.specs.Words.{CheckWords}
use Rattle.check_command.proofs.Findings.{not_both, one_fault}

module _ (p : Network) (text : List ℕ) where
  no_want : (fault : NotFault) → IsNoRefutation p text fault → HoldsNoWant (ends.NotRefutation fault)
  no_want (Left line) h = tt
  no_want (Tree tree_fault.NoMemory) h = absurd h
  no_want (Tree fault) h = tt

  -- one status alone is true of a text
  alone : (s z : Status) → IsVerdict p text s → IsVerdict p text z → s ≡ z
  alone ends.Passes ends.Passes a b = refl
  alone ends.Passes (ends.NotRefutation fault) a b = absurd (not_both p text fault a.passes b)
  alone ends.Passes z a b = absurd b
  alone (ends.NotRefutation fault) ends.Passes a b = absurd (not_both p text fault b.passes a)
  alone (ends.NotRefutation fault) (ends.NotRefutation other) a b = ap ends.NotRefutation (one_fault p text fault other a b)
  alone (ends.NotRefutation fault) z a b = absurd b
  alone s z a b = absurd a

due : (words : CheckWords) (files : Files) (p : Network) (tree : List ℕ) (done : Done) (s : Status)
    → problem_is words.origin files ≡ stands p → file_is text_limit any_bytes (files words.tree) ≡ stands tree
    → IsVerdict p tree done.status → CheckIsDue words files s → done.status ≡ s
due words files p tree done s is tree_is verdict d =
    let other : problem_is words.origin files ≡ stands d.checks.problem = d.checks.stands_for in
    let another : file_is text_limit any_bytes (files words.tree) ≡ stands d.checks.tree = d.checks.tree_is in
    let same : d.checks.problem ≡ p = cc in
    let equal : d.checks.tree ≡ tree = cc in
    alone p tree done.status s verdict (subst (λ x. IsVerdict p x s) equal (subst (λ q. IsVerdict q d.checks.tree s) same d.checks.says.holds))

module _ (tells : Type 0) (words : CheckWords) (files : Files) (p : Network) (tree : List ℕ) (done : Done)
    (is : tells → problem_is words.origin files ≡ stands p) (tree_is : tells → file_is text_limit any_bytes (files words.tree) ≡ stands tree)
    (says : check_says p tree done.status done.note done.texts) where
  by : (s : Status) → done.status ≡ s → IsVerdict p tree s → Does tells (check_meaning words) files done
  by ends.Passes e h =
      makes_none tells (check_meaning words) files done (subst check_may (sym e) tt) (subst HoldsNoWant (sym e) tt)
      (λ t. record { problem = p; tree = tree; stands_for = is t; tree_is = tree_is t; says = says }) (λ t s d. due words files p tree done s (is t) (tree_is t) says.holds d)
      (ap kind_of e) refl says.no_out
  by (ends.NotRefutation fault) e h =
      makes_none tells (check_meaning words) files done (subst check_may (sym e) tt) (subst HoldsNoWant (sym e) (no_want p tree fault h))
      (λ t. record { problem = p; tree = tree; stands_for = is t; tree_is = tree_is t; says = says }) (λ t s d. due words files p tree done s (is t) (tree_is t) says.holds d)
      (ap kind_of e) refl says.no_out
  by s e h = absurd h

  pub checks_does : Does tells (check_meaning words) files done
  checks_does = by done.status refl says.holds
