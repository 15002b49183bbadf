-- Nodes with their nominations, and the bounds that they have together.
use Rattle.std.specs.Prelude.{ℕ, ℤ, ◌&&◌, ◌||◌, not, List, [], ◌∷◌, map, Bool, true, false, if◌then◌else◌, Option, Some, None, option_map, pos, negsuc, neg_ℤ}
use Rattle.std.specs.Int.{int_min, int_max}
use Rattle.std.specs.List.{find, filter}
use Rattle.std.specs.Str.{bytes_eq}
use Rattle.gas_model.specs.declared.rows.NodeRow.{NodeRow}
use Rattle.gas_model.specs.Rows.{first_offence}
use Rattle.base_types.specs.Names.{is_among}
use Rattle.net_reader.specs.declared.rows.NetNode.{NetNode}
use Rattle.net_reader.specs.declared.rows.NodeWord.{NodeWord}
use Rattle.net_reader.specs.declared.rows.NodeWord.TheVariants.{Source, Sink, Inner}
use Rattle.net_reader.specs.declared.rows.NetArc.{NetArc}
use Rattle.net_reader.specs.declared.rows.ArcWord.{ArcWord}
use Rattle.net_reader.specs.declared.rows.ArcWord.TheVariants as word
use Rattle.scn_reader.specs.declared.rows.ScnNode.{ScnNode}
use Rattle.network.specs.declared.nominations.Nominated.{Nominated}
use Rattle.problem_faults.specs.declared.join.JoinFault.{JoinFault}
use Rattle.problem_faults.specs.declared.join.JoinFault.TheVariants as fault

-- ---- nominations
-- what the first node of an id is
abbrev pub node_word : List NetNode → List ℕ → Option NodeWord
node_word nodes id = option_map (λ n. n.word) (find (λ n. bytes_eq id n.id) nodes)

-- gas enters at a source, and leaves at a sink
abbrev pub is_fit : Bool → NodeWord → Bool
is_fit true Source = true
is_fit true Sink = false
is_fit true Inner = false
is_fit false Source = false
is_fit false Sink = true
is_fit false Inner = false

-- what is wrong with the nomination of such a node, after those of these ids
abbrev pub nominated_fault : Option NodeWord → List (List ℕ) → ScnNode → Option JoinFault
nominated_fault None earlier s = Some (fault.NoSuchNode s.id)
nominated_fault (Some w) earlier s =
    if not (is_fit s.entry w) then Some (fault.WrongType s.id)
    else if is_among earlier s.id then Some (fault.TwiceNominated s.id)
    else None

abbrev pub nomination_fault : (List ℕ → Option NodeWord) → List (List ℕ) → ScnNode → Option JoinFault
nomination_fault words earlier s = nominated_fault (words s.id) earlier s

abbrev pub nominated_id : ScnNode → List ℕ
nominated_id s = s.id

-- the first offence of nominations
abbrev pub nominations_fault : (List ℕ → Option NodeWord) → List ScnNode → Option JoinFault
nominations_fault words scn = first_offence nominated_id (nomination_fault words) [] scn

abbrev pub nominated : ScnNode → Nominated
nominated s = record { entry = s.entry; f_min = s.f_min; f_max = s.f_max; p_min = s.p_min; p_max = s.p_max }

-- the nomination of a node
abbrev pub nomination : List ScnNode → List ℕ → Option Nominated
nomination scn id = option_map nominated (find (λ s. bytes_eq id s.id) scn)

-- ---- pressures
abbrev pub is_pipe : ArcWord → Bool
is_pipe word.Pipe = true
is_pipe w = false

-- a pipe leaves or enters the node of an id
abbrev pub is_pipe_at : List ℕ → NetArc → Bool
is_pipe_at id a = is_pipe a.word && (bytes_eq id a.from || bytes_eq id a.to)

-- the lesser of a limit, if there is one, and a value
abbrev pub tighter : Option ℤ → ℤ → ℤ
tighter None x = x
tighter (Some y) x = int_min y x

-- the least of a limit, if there is one, and of these values
abbrev pub least_of : Option ℤ → List ℤ → Option ℤ
least_of limit [] = limit
least_of limit (x ∷ xs) = least_of (Some (tighter limit x)) xs

-- the least of the greatest pressures of the pipes at a node
abbrev pub pipe_limit : List NetArc → List ℕ → Option ℤ
pipe_limit arcs id = least_of None (map (λ a. a.p_max) (filter (is_pipe_at id) arcs))

abbrev pub least_pressure : NetNode → Option Nominated → ℤ
least_pressure n None = n.p_min
least_pressure n (Some s) = int_max n.p_min s.p_min

abbrev pub greatest_pressure : NetNode → Option Nominated → Option ℤ → ℤ
greatest_pressure n None limit = tighter limit n.p_max
greatest_pressure n (Some s) limit = tighter limit (int_min n.p_max s.p_max)

-- ---- supplies
-- the flow the other way. (The least number of 64 bits, which is over each limit, has none of these, and counts as the next.)
abbrev pub opposite : ℤ → ℤ
opposite x = neg_ℤ (int_max x (negsuc 9223372036854775806))

-- the least and the greatest that a node brings into the network
abbrev pub supply : NetNode → Option Nominated → ℤ × ℤ
supply n None = (pos 0, pos 0)
supply n (Some s) =
    if s.entry then (int_max n.f_min s.f_min, int_min n.f_max s.f_max)
    else (opposite (int_min n.f_max s.f_max), opposite (int_max n.f_min s.f_min))

-- a node with its nomination and with the limit of the pipes at it
abbrev pub bounded : NetNode → Option Nominated → Option ℤ → NodeRow
bounded n s limit = record {
  id = n.id;
  p_min = least_pressure n s;
  p_max = greatest_pressure n s limit;
  b_min = (supply n s).0;
  b_max = (supply n s).1;
}

abbrev pub node_row : (List ℕ → Option Nominated) → (List ℕ → Option ℤ) → NetNode → NodeRow
node_row nominations limits n = bounded n (nominations n.id) (limits n.id)
