-- Which lines are of their form, whatever the size of their numbers.
use Rattle.std.specs.Prelude.{◌≡◌, ◌≢◌, ℕ, true, false, List, Option, Some, None, Result, Ok, Err, codes}
use Rattle.flat_text.specs.declared.fault.LineFault.{LineFault}
use Rattle.flat_text.specs.declared.fault.LineFault.TheVariants as fault
use Rattle.flat_text.specs.declared.line.Item.{Item}
use Rattle.flat_text.specs.declared.line.Part.{Part}
use Rattle.flat_text.specs.Line.{may_stand, is_item_within, item_in, line_in}
use Rattle.flat_text.specs.Spelling.{SpellsItem}

-- A line that is read so spells the item, which stands at its place and is within its limits, or is `end`. A line over a
-- limit spells an item that may stand there, but isn't within its limits. A line that isn't flat is not `end`, and spells
-- no item that may stand there.
abbrev pub Means : Part → List ℕ → Result (Option Item) LineFault → Type 0
Means place bytes (Ok None) = bytes ≡ codes "end"
Means place bytes (Ok (Some x)) = SpellsItem bytes x × (may_stand place x ≡ true) × (is_item_within x ≡ true)
Means place bytes (Err fault.OverLimit) = (x : Item) × SpellsItem bytes x × (may_stand place x ≡ true) × (is_item_within x ≡ false)
Means place bytes (Err fault.NotFlat) = (bytes ≢ codes "end") × ((x : Item) → SpellsItem bytes x → may_stand place x ≡ false)
Means place bytes (Err fault.NoMemory) = ⊥

-- what each line at its place is read as
abbrev pub LinesMean : Type 0
LinesMean = (place : Part) (bytes : List ℕ) → Means place bytes (line_in place bytes)

-- what spells an item is judged by its place and its limits alone
abbrev pub ItemsAreRead : Type 0
ItemsAreRead = (place : Part) (bytes : List ℕ) (x : Item) → SpellsItem bytes x → line_in place bytes ≡ item_in place x
