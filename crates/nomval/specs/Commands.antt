-- The table of commands: their names and forms, what each means, what each answer of it says, and how the program ends.
use Rattle.std.specs.Prelude.{◌≡◌, ℕ, List, [], ◌∷◌, ◌++◌, codes, Result, Ok, Err}
use Rattle.gas_desk.specs.Outside.{Outside}
use Rattle.command_core.specs.declared.status.Status.{Status}
use Rattle.command_core.specs.declared.status.Status.TheVariants as ends
use Rattle.command_core.specs.Lines.{line_of}
use Rattle.command_core.specs.Meanings.{Meaning, Concluded, Speaks}
use Rattle.command_words.specs.Tables.{IsPlace as IsPlaceFor, Row, plain_in}
use Rattle.command_words.specs.Words.{Words}
use Rattle.solve_command.specs.Meaning.{solve_meaning}
use Rattle.solve_command.specs.Outcome.{SolveSays}
use Rattle.solve_command.specs.Words.{SolveWords, solve_flat_form, solve_flat_words, solve_form, solve_words}
use Rattle.solve_command.specs.Words as solving
use Rattle.replay_command.specs.Meaning.{replay_meaning}
use Rattle.replay_command.specs.Outcome.{ReplaySays}
use Rattle.replay_command.specs.Words.{ReplayWords, replay_flat_form, replay_flat_words, replay_form, replay_words}
use Rattle.replay_command.specs.Words as replaying
use Rattle.check_command.specs.Meaning.{check_meaning}
use Rattle.check_command.specs.Outcome.{CheckSays}
use Rattle.check_command.specs.Words.{CheckWords, check_flat_form, check_flat_words, check_form, check_words}
use Rattle.check_command.specs.Words as checking
use Rattle.flatten_command.specs.Meaning.{flatten_meaning}
use Rattle.flatten_command.specs.Outcome.{FlattenSays}
use Rattle.flatten_command.specs.Words.{FlattenWords, flatten_form, flatten_words}
use Rattle.flatten_command.specs.Words as flattening
use Rattle.make_command.specs.Meaning.{make_meaning}
use Rattle.make_command.specs.Outcome.{MakeSays}
use Rattle.make_command.specs.Words.{MakeWords, make_form, make_words}
use Rattle.make_command.specs.Words as making
use Rattle.nomval.specs.declared.commands.Request.{Request}
use Rattle.nomval.specs.declared.commands.Request.TheVariants as request

-- a command with its words; a problem is PROBLEM, or NET SCN CDF RES, and options come in any order
pub data Plain : Type 0 where
  solve : SolveWords → Plain
  replay : ReplayWords → Plain
  check : CheckWords → Plain
  flatten : FlattenWords → Plain
  make : MakeWords → Plain

-- the names of all commands, their forms, and what words of that form ask for
abbrev pub table : List (Row Plain)
table =
    -- PROBLEM OUT [--tol n] [--boxes n]
    record { name = codes "solve-flat"; form = solve_flat_form; asks = λ filled. solve (solve_flat_words filled) }
    -- PROBLEM SETTING [--tol n]
    ∷ record { name = codes "replay-flat"; form = replay_flat_form; asks = λ filled. replay (replay_flat_words filled) }
    -- PROBLEM TREE
    ∷ record { name = codes "check-flat"; form = check_flat_form; asks = λ filled. check (check_flat_words filled) }
    -- NET SCN CDF RES OUT [--tol n] [--boxes n]
    ∷ record { name = codes "solve"; form = solve_form; asks = λ filled. solve (solve_words filled) }
    -- NET SCN CDF RES SETTING [--tol n]
    ∷ record { name = codes "replay"; form = replay_form; asks = λ filled. replay (replay_words filled) }
    -- NET SCN CDF RES TREE
    ∷ record { name = codes "check"; form = check_form; asks = λ filled. check (check_words filled) }
    -- NET SCN CDF RES OUT
    ∷ record { name = codes "flat"; form = flatten_form; asks = λ filled. flatten (flatten_words filled) }
    -- N OUT
    ∷ record { name = codes "make"; form = make_form; asks = λ filled. make (make_words filled) }
    ∷ []

-- the command that the words are, or the number of the first word up to which no plain words begin so
abbrev pub plain : Words → Result Plain ℕ
plain words = plain_in table words

-- where other words leave the table
abbrev pub IsPlace : ℕ → Words → Type 0
IsPlace at words = IsPlaceFor plain at words

abbrev pub plain_of : Request → Plain
plain_of (request.Solve asked) = solve (solving.words_of asked)
plain_of (request.Replay asked) = replay (replaying.words_of asked)
plain_of (request.Check asked) = check (checking.words_of asked)
plain_of (request.Flatten asked) = flatten (flattening.words_of asked)
plain_of (request.Make asked) = make (making.words_of asked)

abbrev pub meaning : Plain → Meaning
meaning (solve words) = solve_meaning words
meaning (replay words) = replay_meaning words
meaning (check words) = check_meaning words
meaning (flatten words) = flatten_meaning words
meaning (make words) = make_meaning words

-- what an answer of a command says of the outside
abbrev pub Says : Plain → Outside → Outside → Status → Type 0
Says (solve words) before now status = SolveSays words before now status
Says (replay words) before now status = ReplaySays words before now status
Says (check words) before now status = CheckSays words before now status
Says (flatten words) before now status = FlattenSays words before now status
Says (make words) before now status = MakeSays words before now status

-- plain words were carried out, or others refused
pub data Ran (tells exact : Type 0) (words : Words) (before now : Outside) (status : Status) : Type 0 where
  carried : (c : Plain) → plain words ≡ Ok c → Concluded tells exact (meaning c) before now status → Ran tells exact words before now status
  misused : (at : ℕ) → plain words ≡ Err at → Speaks tells exact (line_of (ends.Usage at) ++ []) (ends.Usage at) before now status → Ran tells exact words before now status

-- the words are plain, and this holds of their command
abbrev pub ForCommand : Words → (Plain → Type 0) → Type 0
ForCommand words P = (c : Plain) × (plain words ≡ Ok c) × P c

-- where the words are plain, this holds of their command
abbrev pub OnCommand : Words → (Plain → Type 0) → Type 0
OnCommand words P = (c : Plain) → plain words ≡ Ok c → P c
