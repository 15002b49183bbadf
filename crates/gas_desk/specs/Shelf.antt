-- Files in memory, as what stands outside.
use Rattle.std.specs.Prelude.{◌≡◌, ℕ, Bool, false, not, ◌&&◌, List, [], ◌∷◌, ◌++◌, drop, map, Option, None, Some, is_some, if◌then◌else◌}
use Rattle.std.specs.Option.{option_map, option_to_list}
use Rattle.std.specs.Str.{bytes_eq}
use Rattle.gas_desk.specs.Outside.{Outside}
use Rattle.gas_desk.specs.declared.shelf.Kept.{Kept}
use Rattle.gas_desk.specs.declared.shelf.Shelf.{Shelf}

-- what the first file of this name holds
abbrev pub held : List (List ℕ × List ℕ) → List ℕ → Option (List ℕ)
held [] name = None
held (file ∷ files) name = if bytes_eq file.0 name then Some file.1 else held files name

-- whether the first kept file of this name is finished
abbrev pub kept_finished : List Kept → List ℕ → Bool
kept_finished [] name = false
kept_finished (kept ∷ more) name = if bytes_eq kept.file.0 name then kept.finished else kept_finished more name

-- the kept files
abbrev pub kept_files : List Kept → List (List ℕ × List ℕ)
kept_files kept = map (λ k. k.file) kept

-- the files that were started, from the latest on
abbrev pub started_files : Shelf → List Kept
started_files s = option_to_list (option_map (λ file. record { file = file; finished = s.finished }) s.last) ++ s.written.items

-- all files, of which the first of a name counts
abbrev pub shelf_files : Shelf → List (List ℕ × List ℕ)
shelf_files s = kept_files (started_files s) ++ s.given

-- the name of the file that was started last
abbrev pub last_name : Option (List ℕ × List ℕ) → List ℕ
last_name None = []
last_name (Some file) = file.0

-- a shelf, with no fault
abbrev pub on_shelf : Shelf → Outside
on_shelf s = record {
  files = held (shelf_files s);
  left = drop s.taken s.source;
  target = last_name s.last;
  said = s.said;
  reading = s.reading;
  writing = s.started && not s.finished && is_some s.last;
  finished = kept_finished (started_files s);
  read_faults = λ _. 0;
  write_faults = 0;
}

-- the file that was started last has grown by these bytes, and all else is as it was
abbrev pub LastGrows : Shelf → Shelf → List ℕ → Type 0
LastGrows old new more =
    (name : List ℕ) × (bytes : List ℕ) × (old.last ≡ Some (name, bytes)) × (new ≡ record old { last = Some (name, bytes ++ more) })
