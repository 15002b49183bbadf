-- What is found, from how the boxes of a pool ended; and that a new pool is one that was searched.
use Rattle.std.proofs.Common.{◌≡◌, ◌≢◌, ℕ, zero, suc, List, [], ◌∷◌, length, Some, None, Ok, Err, refl, sym, ap, subst, ◌∙◌, ℤ}
use Rattle.std.specs.Prelude.{slice_get, Result, IfOk}
use Rattle.std.proofs.lemmas.Option.{slice_get_within}
use Rattle.base_types.specs.declared.collections.NoMemory.{NoMemory}
use Rattle.gas_model.specs.Rows.{Network}
use Rattle.tree_rules.specs.Rules.{PartBox}
use Rattle.tree_rules.specs.Branches.{rules_of}
use Rattle.tree_pool.specs.Rows.{Row, Standing, Waiting, Held, Quit, Shuts, Splits, IsMap, NoneWaits, first_row}
use Rattle.tree_pool.specs.Rules.{IsOf}
use Rattle.tree_pool.specs.Shown.{NoneOpen, Opens, end_of}
use Rattle.tree_pool.proofs.Single.{show_one_tree, whole_where_none_open}
use Rattle.tree_pool.proofs.Ruled.{shown_pass}
use Rattle.search_order.specs.Searches.{IsWorked, NoneQuit, KnownAt}
use Rattle.search_order.proofs.Grown.{search_begins}
use Rattle.box_pool.specs.Grid.{pool_scale}
use Rattle.box_pool.specs.Origins.{Origin, box_of}
use Rattle.box_pool.specs.Pools.{Boxed, PoolFits}
use Rattle.nom_search.specs.Sought.{sought}
use Rattle.nom_search.specs.Searched.{IsSearched, Ends}
use Rattle.nom_search.specs.Halted.{Begins, Halted, HaltsAt, Answers}
use Rattle.nom_search.specs.Texts.{IsHalt, NamesBox, IsFound}
use Rattle.nom_search.specs.declared.searching.Why.{Why}
use Rattle.nom_search.specs.declared.searching.Why.TheVariants.{Budget, Grid}
use Rattle.nom_search.specs.declared.searching.Found.{Found}
use Rattle.nom_search.specs.declared.searching.Found.TheVariants as found
use Rattle.nom_search.specs.declared.searching.Outcome.{Outcome}
use Rattle.nom_search.specs.declared.searching.Outcome.TheVariants as outcome
use Rattle.box_pool.specs.PoolOf.{IsPoolOf}
use Rattle.box_pool.proofs.KeptOf.{only, new_of}

-- ---- a new pool

abbrev first_origin : (p : Network) (root : PartBox) (pool : Boxed) → Begins p root pool → Origin
first_origin p root pool b = record { part = root.part; shape = Some b.new.shape; bounds = root.bounds; next = 0; head = None }

rescaled : (b : PartBox) (K : ℤ) → b.scale ≡ K → b ≡ record { scale = K; part = b.part; bounds = b.bounds }
rescaled b K e = ap (λ (k : ℤ). record { scale = k; part = b.part; bounds = b.bounds }) e

pub begins_searched : (p : Network) (tol : ℤ) (root : PartBox) (budget : ℕ) (pool : Boxed) → Begins p root pool → IsSearched p tol root budget pool
begins_searched p tol root budget pool b =
    let o = first_origin p root pool b in
    let box : root ≡ box_of pool_scale o = rescaled root pool_scale b.scale in
    let rows : pool.rows ≡ first_row ∷ [] = b.new.rows in
    let origins : pool.origins ≡ Some o ∷ [] = b.new.origins in
    let fits : PoolFits p pool = λ n q h.
    let z = only (Some o) (Some q) n (let a = origins in rw a at h) in
    let same : q ≡ o = (let a = z.1 in cc) in
    rw same (record { part = b.part; shape = b.new.is_shape; bounds = b.bounds; picks = tt; halves = tt }) in
    record {
      boxes = root ∷ [];
      turns = 0 ∷ [];
      worked = subst (λ (rs : List Row). IsWorked (sought p tol) root budget rs (root ∷ []) (0 ∷ [])) (sym rows) (search_begins (sought p tol) root budget);
      origins = record {
        fits = fits;
        stable = λ n q h x e.
            let z = only (Some o) (Some q) n (let a = origins in rw a at h) in
            let same : q ≡ o = (let a = z.1 in cc) in
            let none : None ≡ Some x = sym (ap (λ (y : Origin). y.head) same) ∙ e in
            absurd cc;
        count = ap length origins ∙ sym (ap length rows);
        each = λ n r h waits.
            let z = only first_row r n (let a = rows in rw a at h) in
            let at = z.0 in
            (o, rw (origins, at) refl, rw at (ap Some box), rw at refl);
      };
    }

pub begins_of : (p : Network) (root : PartBox) (pool : Boxed) → Begins p root pool → IsPoolOf p root pool
begins_of p root pool b = subst (λ (r : PartBox). IsPoolOf p r pool) (sym (rescaled root pool_scale b.scale)) (new_of p root.part root.bounds pool b.part b.bounds b.new)

pub begins_fresh : (p : Network) (root : PartBox) (pool : Boxed) → Begins p root pool → NoneQuit pool.rows
begins_fresh p root pool b m q h quit =
    let rows : pool.rows ≡ first_row ∷ [] = b.new.rows in
    let z = only first_row q m (rw rows at h) in
    let a : Waiting ≡ Quit = sym (ap (λ (r : Row). r.standing) z.1) ∙ quit in
    cc

-- ---- boxes that are named

pub names_box : (p : Network) (tol : ℤ) (root : PartBox) (budget : ℕ) (pool : Boxed) (o : Outcome) → Ends p tol root budget pool (Ok o) → NamesBox pool.rows o
names_box p tol root budget pool (outcome.Dry (Some n)) e = slice_get_within pool.rows n e.2.row e.2.here
names_box p tol root budget pool (outcome.Dry None) e = tt
names_box p tol root budget pool (outcome.Full n) e = slice_get_within pool.rows n e.stops.row e.stops.here
names_box p tol root budget pool (outcome.Carried s) e = tt

-- ---- answers

shut_end : (e : Standing) → e ≢ Waiting → e ≢ Held → e ≢ Quit → end_of e ≢ Opens
shut_end Waiting w h q k = w refl
shut_end Held w h q k = h refl
shut_end Quit w h q k = q refl
shut_end (Shuts c) w h q k = cc
shut_end (Splits f first count) w h q k = cc

halt_found : (p : Network) (tol : ℤ) (root : PartBox) (budget : ℕ) (pool : Boxed) (why : Why) (n : ℕ) (f : Found) (boxes : List PartBox) (turns : List ℕ) → IsMap pool.rows → IsOf (rules_of p) root pool.rows boxes → slice_get turns 0 ≡ Some 0 → HaltsAt p tol root budget why pool.rows boxes turns n
    → IsHalt pool.rows why n f → Answers p tol root budget pool f
halt_found p tol root budget pool why n (found.Carried s) boxes turns map of_root first halts h = absurd h
halt_found p tol root budget pool why n (found.Refuted text) boxes turns map of_root first halts h = absurd h
halt_found p tol root budget pool why n (found.Left w text line) boxes turns map of_root first halts h =
    let t = (show_one_tree pool.rows map).0 in
    subst (λ (k : Why). Halted p tol root budget k pool.rows text line) (sym h.0)
    (record {
      boxes = boxes;
      turns = turns;
      map = map;
      of_root = of_root;
      first = first;
      tree = t.0;
      is_text = record { shows = t.1; lines = h.1 t.0 t.1 };
      named = n;
      is_line = h.2 t.0 t.1;
      halts = halts;
    })

none_open : (p : Network) (tol : ℤ) (root : PartBox) (budget : ℕ) (pool : Boxed) (s : IsSearched p tol root budget pool) → NoneWaits pool.rows → NoneQuit pool.rows → NoneOpen pool.rows
none_open p tol root budget pool s waits quits n r here =
    let k = s.worked.known n r here in
    shut_end r.standing (waits n r here)
    (λ held. let known = k.known in subst (λ (e : Standing). KnownAt (sought p tol) pool.rows s.turns e k.turn k.box) held known)
    (quits n r here)

pub answers_are : (p : Network) (tol : ℤ) (root : PartBox) (budget : ℕ) (pool : Boxed) (o : Outcome) (f : Found) → Ends p tol root budget pool (Ok o) → IsFound pool.rows o f → Answers p tol root budget pool f
answers_are p tol root budget pool (outcome.Dry (Some n)) f e h = halt_found p tol root budget pool Grid n f e.0.boxes e.0.turns e.0.worked.map e.0.worked.pool e.0.worked.first (e.0.worked, e.1, e.2) h
answers_are p tol root budget pool (outcome.Dry None) f e h =
    let map = e.0.worked.map in
    let t = (show_one_tree pool.rows map).0 in
    subst (Answers p tol root budget pool) (sym h.1)
    (record {
      boxes = e.0.boxes;
      turns = e.0.turns;
      worked = e.0.worked;
      tree = t.0;
      is_text = record { shows = t.1; lines = h.2 t.0 t.1 };
      passes = shown_pass (rules_of p) root pool.rows e.0.boxes map e.0.worked.pool t.0 t.1;
      closed = (whole_where_none_open pool.rows map t.0 t.1).1 (none_open p tol root budget pool e.0 e.1 e.2);
    })
answers_are p tol root budget pool (outcome.Full n) f e h = halt_found p tol root budget pool Budget n f e.boxes e.turns e.map e.of_root e.first e.stops h
answers_are p tol root budget pool (outcome.Carried s) f e h = subst (Answers p tol root budget pool) (sym h) e
