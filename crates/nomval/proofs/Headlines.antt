-- What the headline says, of the one command that answers so.
use Rattle.std.proofs.Common.{◌≡◌, ◌∙◌, ap, ◌⊎◌, inl, inr}
use Rattle.std.specs.Prelude.{Ok, Some}
use Rattle.gas_desk.specs.Outside.{Outside}
use Rattle.element_laws.specs.declared.broken.Broken.{Broken}
use Rattle.command_core.specs.declared.status.NotFault.{NotFault}
use Rattle.command_core.specs.declared.status.UndecidedBy.{UndecidedBy}
use Rattle.command_core.specs.declared.status.Status.{Status}
use Rattle.command_core.specs.declared.status.Status.TheVariants as ends
use Rattle.command_core.specs.Meanings.{Answered}
use Rattle.command_words.specs.Words.{Words}
use Rattle.solve_command.proofs.Saying.{solve_says_so}
use Rattle.replay_command.proofs.Saying.{replay_says_so}
use Rattle.check_command.proofs.Saying.{check_says_so}
use Rattle.flatten_command.proofs.Saying.{flatten_says_so}
use Rattle.make_command.proofs.Saying.{make_says_so}
use Rattle.nomval.specs.Commands.{Plain, Says, solve, replay, check, flatten, make, meaning, plain}
use Rattle.nomval.specs.Headline.{HasCarried, HasRefuted, HasWritten, HasMade, LeavesOpen, IsKept, IsBroken, HasPassed, HasNotPassed}

-- an answer says what its command's answers say
pub says_so : (c : Plain) (before now : Outside) (s : Status) → (meaning c).may s → Answered (meaning c) before now s → Says c before now s
says_so (solve words) before now s own a = solve_says_so words before now s own a
says_so (replay words) before now s own a = replay_says_so words before now s own a
says_so (check words) before now s own a = check_says_so words before now s own a
says_so (flatten words) before now s own a = flatten_says_so words before now s own a
says_so (make words) before now s own a = make_says_so words before now s own a

pub carried_at : (words : Words) (c : Plain) (before now : Outside) → plain words ≡ Ok c → Says c before now ends.Accepted → HasCarried words before now
carried_at words (solve asked) before now e h = record {
  asked = asked;
  problem = h.problem;
  setting = h.is_text.setting;
  is_plain = e;
  stands_for = h.stands_for;
  near = h.is_text.near;
  fits = h.is_text.fits;
  holds = h.holds ∙ ap Some h.is_text.written;
  finished = h.finished;
  said = h.said;
}
carried_at words c before now e h = absurd h

pub refuted_at : (words : Words) (c : Plain) (before now : Outside) → plain words ≡ Ok c → Says c before now ends.Rejected → HasRefuted words before now
refuted_at words (solve asked) before now e h = record {
  asked = asked;
  problem = h.problem;
  tree = h.text;
  is_plain = e;
  stands_for = h.stands_for;
  passes = h.is_text.passes;
  infeasible = h.is_text.infeasible;
  holds = h.holds;
  finished = h.finished;
  said = h.said;
}
refuted_at words c before now e h = absurd h

pub open_at : (why : UndecidedBy) (words : Words) (c : Plain) (before now : Outside) → plain words ≡ Ok c → Says c before now (ends.Undecided why) → LeavesOpen why words before now
open_at why words (solve asked) before now e h = record { asked = asked; is_plain = e; writes = h }
open_at why words c before now e h = absurd h

pub written_at : (words : Words) (c : Plain) (before now : Outside) → plain words ≡ Ok c → Says c before now ends.Written → HasWritten words before now ⊎ HasMade words before now
written_at words (flatten asked) before now e h = inl (record { asked = asked; is_plain = e; writes = h })
written_at words (make asked) before now e h = inr (record { asked = asked; is_plain = e; writes = h })
written_at words c before now e h = absurd h

pub kept_at : (words : Words) (c : Plain) (before now : Outside) → plain words ≡ Ok c → Says c before now ends.Kept → IsKept words before now
kept_at words (replay asked) before now e h = record {
  asked = asked;
  problem = h.problem;
  setting = h.setting;
  is_plain = e;
  stands_for = h.stands_for;
  setting_stands = h.setting_stands;
  near = h.holds;
  said = h.said;
}
kept_at words c before now e h = absurd h

pub broken_at : (law : Broken) (words : Words) (c : Plain) (before now : Outside) → plain words ≡ Ok c → Says c before now (ends.Broken law) → IsBroken law words before now
broken_at law words (replay asked) before now e h = record { asked = asked; is_plain = e; finds = h }
broken_at law words c before now e h = absurd h

pub passed_at : (words : Words) (c : Plain) (before now : Outside) → plain words ≡ Ok c → Says c before now ends.Passes → HasPassed words before now
passed_at words (check asked) before now e h = record {
  asked = asked;
  problem = h.problem;
  tree = h.tree;
  is_plain = e;
  stands_for = h.stands_for;
  tree_is = h.tree_is;
  passes = h.holds.passes;
  infeasible = h.holds.infeasible;
  said = h.said;
}
passed_at words c before now e h = absurd h

pub not_passed_at : (fault : NotFault) (words : Words) (c : Plain) (before now : Outside) → plain words ≡ Ok c → Says c before now (ends.NotRefutation fault) → HasNotPassed fault words before now
not_passed_at fault words (check asked) before now e h = record { asked = asked; is_plain = e; finds = h }
not_passed_at fault words c before now e h = absurd h
