-- The limits of pipes, taken in one connection at a time.
use Rattle.std.proofs.Common.{◌≡◌, ℕ, ◌+◌, ◌<◌, ◌≤◌, Bool, true, false, cond, List, ◌∷◌, length, map, drop, get_or, Option, Some, refl, sym, ap, ◌∙◌, ℤ}
use Rattle.std.specs.List.{filter}
use Rattle.std.proofs.Math.ListN.{drop_of_length-le}
use Rattle.net_reader.specs.declared.rows.NetArc.{NetArc}
use Rattle.network.specs.Nodes.{tighter}
use Rattle.network.specs.Nodes.{is_pipe_at, least_of, pipe_limit}
use Rattle.network.proofs.Kept.{drop_item}

-- the limit at a node, from this one on
abbrev pub limit_from : Option ℤ → List NetArc → List ℕ → Option ℤ
limit_from limit arcs id = least_of limit (map (λ a. a.p_max) (filter (is_pipe_at id) arcs))

-- the limits so far, which the later connections make those of all
pub record Limited (limits : List ℕ → Option ℤ) (arcs : List NetArc) (i : ℕ) : Type 0 where
  pub are : (id : List ℕ) → limit_from (limits id) (drop i arcs) id ≡ pipe_limit arcs id

turn : (old : Option ℤ) (a : NetArc) (arcs : List NetArc) (id : List ℕ) → limit_from (cond (is_pipe_at id a) (Some (tighter old a.p_max)) old) arcs id ≡ limit_from old (a ∷ arcs) id
turn old a arcs id = by (is_pipe_at id a)
  where
    by : (b : Bool) → limit_from (cond b (Some (tighter old a.p_max)) old) arcs id ≡ least_of old (map (λ x. x.p_max) (cond b (a ∷ filter (is_pipe_at id) arcs) (filter (is_pipe_at id) arcs)))
    by true = refl
    by false = refl

pub limited_more : (old next : List ℕ → Option ℤ) (arcs : List NetArc) (i : ℕ) (a : NetArc) → i < length arcs → a ≡ get_or arcs i a
    → ((id : List ℕ) → next id ≡ cond (is_pipe_at id a) (Some (tighter (old id) a.p_max)) (old id)) → Limited old arcs i → Limited next arcs (i + 1)
limited_more old next arcs i a lt is e so_far = record {
  are = λ id. ap (λ o. limit_from o (drop (i + 1) arcs) id) (e id)
      ∙ turn (old id) a (drop (i + 1) arcs) id
      ∙ ap (λ l. limit_from (old id) l id) (sym (drop_item arcs i a lt is))
      ∙ so_far.are id;
}

pub limited_all : (limits : List ℕ → Option ℤ) (arcs : List NetArc) (i : ℕ) → length arcs ≤ i → Limited limits arcs i → (id : List ℕ) → limits id ≡ pipe_limit arcs id
limited_all limits arcs i le so_far id = ap (λ l. limit_from (limits id) l id) (sym (drop_of_length-le arcs le)) ∙ so_far.are id
