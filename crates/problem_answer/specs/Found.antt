-- What is found for a problem: a setting that carries it, a tree that refutes it, or the tree with which a search halted.
use Rattle.std.specs.Prelude.{◌≡◌, ℕ, pos, List}
use Rattle.gas_model.specs.declared.rows.Setting.{Setting}
use Rattle.gas_model.specs.Rows.{Network}
use Rattle.gas_model.specs.Near.{IsNear, SettingFits}
use Rattle.tree_cert.specs.Texts.{PassesPartText}
use Rattle.tree_rules.specs.Branches.{root_box, rules_of}
use Rattle.tree_pool.specs.Rows.{Row}
use Rattle.tree_verdicts.specs.Passing.{PassesIt}
use Rattle.box_pool.specs.Grid.{pool_scale}
use Rattle.setting_text.specs.Writing.{setting_text}
use Rattle.nom_search.specs.declared.searching.Why.{Why}
use Rattle.nom_search.specs.declared.searching.Why.TheVariants as why
use Rattle.nom_search.specs.Halted.{Halted}
use Rattle.search_reach.specs.Reached.{Reached}
use Rattle.command_core.specs.declared.status.UndecidedBy.{UndecidedBy}
use Rattle.command_core.specs.declared.status.UndecidedBy.TheVariants as by
use Rattle.problem_answer.specs.declared.finding.Answer.{Answer}
use Rattle.problem_answer.specs.declared.finding.Answer.TheVariants.{Carried, Refuted, Left}

-- the text is that of one setting, which carries the problem within the tolerance
pub record Carries (tol : ℕ) (p : Network) (text : List ℕ) : Type 0 where
  pub setting : Setting
  pub near : IsNear p (pos tol) setting
  pub fits : SettingFits p setting
  pub written : text ≡ setting_text p setting

-- why a search halts
abbrev pub why_of : UndecidedBy → Why
why_of by.Budget = why.Budget
why_of by.Grid = why.Grid

-- the search from the box of all bounds, with this tolerance and this many boxes to split, halted with this text, and
-- names the open box that ends at this line, which lies as far down as such a search reaches; the text is that of a tree
-- that passes but for open boxes
pub record HaltsWith (why : UndecidedBy) (tol boxes : ℕ) (p : Network) (text : List ℕ) (line : ℕ) : Type 0 where
  pub rows : List Row
  pub halted : Halted p (pos tol) (root_box pool_scale p) boxes (why_of why) rows text line
  pub reached : Reached p (pos tol) boxes (why_of why) rows text line halted
  pub first_open : ℕ
  pub passes : PassesPartText (rules_of p) text first_open

-- what is found for a problem
abbrev pub IsFound : (tol boxes : ℕ) → Network → Answer → Type 0
IsFound tol boxes p (Carried text) = Carries tol p text
IsFound tol boxes p (Refuted text) = PassesIt p text
IsFound tol boxes p (Left why text line) = HaltsWith why tol boxes p text line
