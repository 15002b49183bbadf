-- The rows of a decision file, or its first offence.
use Rattle.std.specs.Prelude.{ℕ, List, [], ◌∷◌, not, Bool, if◌then◌else◌, Result, Ok, Err, codes}
use Rattle.std.specs.Str.{bytes_eq}
use Rattle.tag_outline.specs.declared.outline.Element.{Element}
use Rattle.file_faults.specs.declared.outline.OutlineFault.TheVariants as outline_fault
use Rattle.file_faults.specs.declared.outline.FileFault.{FileFault}
use Rattle.file_faults.specs.declared.outline.FileFault.TheVariants as fault
use Rattle.element_fields.specs.Answers.{◌>>=◌, rows_of}
use Rattle.element_fields.specs.Lookup.{Placed, children}
use Rattle.element_fields.specs.Names.{label, id_in}
use Rattle.cdf_reader.specs.declared.rows.CdfDecision.{CdfDecision}
use Rattle.cdf_reader.specs.declared.rows.CdfGroup.{CdfGroup}
use Rattle.cdf_reader.specs.declared.rows.CdfRows.{CdfRows}
use Rattle.cdf_reader.specs.Sets.{set_rows}

-- a child of an element that is called so has this word
abbrev pub has_word : List ℕ → List ℕ → Element → Result (Unit {0}) FileFault
has_word parent word e = if bytes_eq e.name word then Ok tt else Err (fault.BadWord parent e.name)

unfoldable pub decision_in : List ℕ → Placed → Result CdfDecision FileFault
decision_in parent c = do
  is_decision ← has_word parent (codes "decision") c.0
  id ← id_in (codes "id") c.0
  sets ← set_rows c.0 c.1
  Ok (record { id = id; sets = sets })

-- all children of a group, which these follow
abbrev pub decision_rows : Element → List Element → Result (List CdfDecision) FileFault
decision_rows parent below = rows_of (decision_in (label parent)) (children parent.depth below)

unfoldable pub group_in : List ℕ → Placed → Result CdfGroup FileFault
group_in parent c = do
  is_group ← has_word parent (codes "decisionGroup") c.0
  id ← id_in (codes "id") c.0
  decisions ← decision_rows c.0 c.1
  Ok (record { id = id; decisions = decisions })

-- all children of the root, which these follow
abbrev pub group_rows : Element → List Element → Result (List CdfGroup) FileFault
group_rows root below = rows_of (group_in root.name) (children root.depth below)

unfoldable pub groups_in : Element → List Element → Result CdfRows FileFault
groups_in root below = do
  groups ← group_rows root below
  Ok (record { groups = groups })

-- (an outline has a root)
unfoldable pub combined_rows : List Element → Result CdfRows FileFault
combined_rows [] = Err (fault.Outline (outline_fault.NotOutline 0))
combined_rows (root ∷ below) = if not (bytes_eq root.name (codes "combinedDecisions")) then Err fault.WrongRoot else groups_in root below
