-- What `replay` means: whether a setting carries a problem.
use Rattle.std.specs.Prelude.{◌≡◌, ℕ, pos, List, [], ◌∷◌, ◌++◌, Option, Some, Result}
use Rattle.gas_model.specs.declared.rows.Setting.{Setting}
use Rattle.gas_model.specs.Rows.{Network}
use Rattle.gas_model.specs.Near.{IsNear}
use Rattle.element_laws.specs.declared.broken.Broken.{Broken}
use Rattle.element_laws.specs.FirstBroken.{IsFirstBroken}
use Rattle.setting_text.specs.Reading.{setting_of}
use Rattle.command_core.specs.declared.status.InputFault.{InputFault}
use Rattle.command_core.specs.declared.status.InputFault.TheVariants.{OfSetting}
use Rattle.command_core.specs.declared.status.InputFile.TheVariants.{SettingFile}
use Rattle.command_core.specs.declared.status.Status.{Status}
use Rattle.command_core.specs.declared.status.Status.TheVariants as ends
use Rattle.command_core.specs.Gates.{Files, FileIs, absent, stands, file_is, standing, Gate, text_limit, with_fault}
use Rattle.command_core.specs.Saying.{SaysOnly}
use Rattle.command_core.specs.Meanings.{Meaning, Texts}
use Rattle.problem_files.specs.Sources.{Origin, problem_is, problem_gates}
use Rattle.replay_command.specs.BrokenIds.{id_of}
use Rattle.replay_command.specs.Words.{ReplayWords}

-- the setting of the problem that bytes stand for
abbrev pub setting_for : Network → List ℕ → Result Setting InputFault
setting_for p bytes = with_fault OfSetting (setting_of p bytes)

-- what a file is, where there is a problem
abbrev pub setting_among : FileIs Network → Option (List ℕ) → FileIs Setting
setting_among (stands p) held = file_is text_limit (setting_for p) held
setting_among other held = absent

-- the setting that the file stands for, of the problem that its files stand for
abbrev pub setting_is : Origin → List ℕ → Files → FileIs Setting
setting_is origin name files = setting_among (problem_is origin files) (files name)

abbrev pub setting_gate : Origin → List ℕ → Gate
setting_gate origin name = record { file = SettingFile; name = Some name; stands_there = λ files. standing (setting_is origin name files) }

-- the setting breaks this law first
pub record BreaksFirst (law : Broken) (tol : ℕ) (p : Network) (s : Setting) : Type 0 where
  pub first : IsFirstBroken p (pos tol) s law
  pub not_near : IsNear p (pos tol) s → ⊥

-- what a status says of the problem and the setting: a broken law is named by the id of its arc or node
abbrev pub replay_says : ℕ → Network → Setting → Status → List ℕ → Texts → Type 0
replay_says tol p s ends.Kept note texts = SaysOnly (IsNear p (pos tol) s) [] note texts
replay_says tol p s (ends.Broken law) note texts = SaysOnly (BreaksFirst law tol p s) (id_of p law) note texts
replay_says tol p s status note texts = ⊥

pub record Replays (words : ReplayWords) (files : Files) (status : Status) (note : List ℕ) (texts : Texts) : Type 0 where
  pub problem : Network
  pub setting : Setting
  pub stands_for : problem_is words.origin files ≡ stands problem
  pub setting_stands : setting_is words.origin words.setting files ≡ stands setting
  pub says : replay_says words.tol problem setting status note texts

-- the status that is true of the problem and the setting
pub record ReplayIsDue (words : ReplayWords) (files : Files) (status : Status) : Type 0 where
  pub note : List ℕ
  pub texts : Texts
  pub replays : Replays words files status note texts

abbrev pub replay_may : Status → Type 0
replay_may ends.Kept = Unit {0}
replay_may (ends.Broken law) = Unit {0}
replay_may status = ⊥

abbrev pub replay_meaning : ReplayWords → Meaning
replay_meaning words = record {
  gates = problem_gates words.origin ++ setting_gate words.origin words.setting ∷ [];
  outs = [];
  may = replay_may;
  answers = Replays words;
  due = ReplayIsDue words;
}
