-- Four files read one after the other, and what they make together.
use Rattle.std.proofs.Common.{◌≡◌, ◌∙◌, refl, sym, ap, List, [], ◌∷◌, ◌++◌}
use Rattle.std.specs.Prelude.{Option, None, Some, Result, Ok, Err, IfOk}
use Rattle.gas_model.specs.Rows.{Network}
use Rattle.gas_desk.specs.Outside.{Outside}
use Rattle.net_reader.specs.declared.rows.NetRows.{NetRows}
use Rattle.scn_reader.specs.declared.rows.ScnRows.{ScnRows}
use Rattle.cdf_reader.specs.declared.rows.CdfRows.{CdfRows}
use Rattle.res_table.specs.declared.rows.ResRows.{ResRows}
use Rattle.network.specs.Joined.{joined_problem}
use Rattle.command_core.specs.declared.status.InputFault.{InputFault}
use Rattle.command_core.specs.declared.status.InputFault.TheVariants.{OfJoin}
use Rattle.command_core.specs.declared.status.InputFile.TheVariants.{Join, Net, Res, Scn}
use Rattle.command_core.specs.declared.status.Stop.{Stop}
use Rattle.command_core.specs.declared.status.Stop.TheVariants as stop
use Rattle.command_core.specs.Gates.{Files, FileIs, Gate, IsParsed, Reads, all_fine, at_gate, bad, file_is, gate_of, judged, standing, stands, text_limit, with_fault}
use Rattle.command_core.specs.Stops.{stop_in}
use Rattle.command_core.proofs.Walks.{counts_same, reads_stop, reads_then, same_files}
use Rattle.problem_files.specs.Sources.{FourNames, cdf_gates, cdf_is, four_gates, four_is, join_gate, joined_is, net_rows, res_rows, scn_rows}

-- nothing was read
pub reads_nothing : (tells exact : Type 0) (o : Outside) → Reads tells exact [] o o None
reads_nothing tells exact o = record {
  ended = λ t. refl;
  cause = λ e. absurd (cc);
  held = tt;
  files = λ t n. refl;
  said = λ t. refl;
  marks = λ t n. refl;
  unread = λ x calm n. refl;
  unwritten = λ x. refl;
  counts = counts_same o;
}

-- what rows make that all stand
all_there : (a : FileIs NetRows) (b : FileIs ScnRows) (c : FileIs CdfRows) (d : FileIs ResRows) (net : NetRows) (scn : ScnRows) (cdf : CdfRows) (res : ResRows)
    → a ≡ stands net → b ≡ stands scn → c ≡ stands cdf → d ≡ stands res → joined_is a b c d ≡ judged (with_fault OfJoin (joined_problem net scn cdf res))
all_there a b c d net scn cdf res e f g h =
    ap (λ x. joined_is x b c d) e ∙ ap (λ x. joined_is (stands net) x c d) f ∙ ap (λ x. joined_is (stands net) (stands scn) x d) g ∙ ap (λ x. joined_is (stands net) (stands scn) (stands cdf) x) h

-- the gate of what four files make, where nothing is read
join_reads : (tells exact : Type 0) (four : FourNames) (made : Result Network InputFault) (r : Result Network Stop) (o : Outside)
    → (tells → four_is four o.files ≡ judged made) → IsParsed Join made r → Reads tells exact (join_gate four ∷ []) o o (stop_in r)
join_reads tells exact four made (Ok p) o is h = record {
  ended = λ t. ap (λ i. at_gate Join (standing i) all_fine) (is t ∙ ap judged h);
  cause = λ e. absurd (cc);
  held = tt;
  files = λ t n. refl;
  said = λ t. refl;
  marks = λ t n. refl;
  unread = λ x calm n. refl;
  unwritten = λ x. refl;
  counts = counts_same o;
}
join_reads tells exact four made (Err (stop.BadInput f fault)) o is h = record {
  ended = λ t. ap (λ i. at_gate Join (standing i) all_fine) (is t ∙ ap judged h.2) ∙ ap (λ g. bad g fault) (sym h.0);
  cause = λ e. absurd (cc);
  held = h.1;
  files = λ t n. refl;
  said = λ t. refl;
  marks = λ t n. refl;
  unread = λ x calm n. refl;
  unwritten = λ x. refl;
  counts = counts_same o;
}
join_reads tells exact four made (Err (stop.TooLong f)) o is h = absurd h
join_reads tells exact four made (Err stop.ReadFault) o is h = absurd h
join_reads tells exact four made (Err stop.NoMemory) o is h = record {
  ended = λ t. tt;
  cause = λ e. absurd (cc);
  held = tt;
  files = λ t n. refl;
  said = λ t. refl;
  marks = λ t n. refl;
  unread = λ x calm n. refl;
  unwritten = λ x. refl;
  counts = counts_same o;
}

join_stands : (is : FileIs Network) (made : Result Network InputFault) (r : Result Network Stop) → is ≡ judged made → IsParsed Join made r → IfOk r (λ p. is ≡ stands p)
join_stands is made (Ok p) e h = e ∙ ap judged h
join_stands is made (Err why) e h = tt

module _ (tells exact : Type 0) (four : FourNames) where
  abbrev net_gate : List Gate
  net_gate = gate_of Net text_limit net_rows four.net ∷ []

  abbrev scn_gate : List Gate
  scn_gate = gate_of Scn text_limit scn_rows four.scn ∷ []

  abbrev res_gate : List Gate
  res_gate = gate_of Res text_limit res_rows four.res ∷ []

  abbrev from_res : List Gate
  from_res = res_gate ++ join_gate four ∷ []

  abbrev from_cdf : List Gate
  from_cdf = cdf_gates four.cdf ++ from_res

  abbrev from_scn : List Gate
  from_scn = scn_gate ++ from_cdf

  pub at_net : (o0 o1 : Outside) (why : Stop) → Reads tells exact net_gate o0 o1 (Some why) → Reads tells exact (four_gates four) o0 o1 (Some why)
  at_net o0 o1 why r = reads_stop tells exact net_gate from_scn o0 o1 why r

  pub at_scn : (o0 o1 o2 : Outside) (why : Stop) → Reads tells exact net_gate o0 o1 None → Reads tells exact scn_gate o1 o2 (Some why) → Reads tells exact (four_gates four) o0 o2 (Some why)
  at_scn o0 o1 o2 why n r = reads_then tells exact net_gate from_scn o0 o1 o2 (Some why) n (reads_stop tells exact scn_gate from_cdf o1 o2 why r)

  pub at_cdf : (o0 o1 o2 o3 : Outside) (why : Stop) → Reads tells exact net_gate o0 o1 None → Reads tells exact scn_gate o1 o2 None → Reads tells exact (cdf_gates four.cdf) o2 o3 (Some why)
      → Reads tells exact (four_gates four) o0 o3 (Some why)
  at_cdf o0 o1 o2 o3 why n s r =
      reads_then tells exact net_gate from_scn o0 o1 o3 (Some why) n (reads_then tells exact scn_gate from_cdf o1 o2 o3 (Some why) s (reads_stop tells exact (cdf_gates four.cdf) from_res o2 o3 why r))

  module _ (o0 o1 o2 o3 o4 : Outside) (n : Reads tells exact net_gate o0 o1 None) (s : Reads tells exact scn_gate o1 o2 None) (c : Reads tells exact (cdf_gates four.cdf) o2 o3 None) where
    then_last : (stopped : Option Stop) → Reads tells exact from_res o3 o4 stopped → Reads tells exact (four_gates four) o0 o4 stopped
    then_last stopped r =
        reads_then tells exact net_gate from_scn o0 o1 o4 stopped n (reads_then tells exact scn_gate from_cdf o1 o2 o4 stopped s (reads_then tells exact (cdf_gates four.cdf) from_res o2 o3 o4 stopped c r))

    pub at_res : (why : Stop) → Reads tells exact res_gate o3 o4 (Some why) → Reads tells exact (four_gates four) o0 o4 (Some why)
    at_res why r = then_last (Some why) (reads_stop tells exact res_gate (join_gate four ∷ []) o3 o4 why r)

    module _ (r : Reads tells exact res_gate o3 o4 None) (net : NetRows) (scn : ScnRows) (cdf : CdfRows) (res : ResRows)
        (net_there : tells → file_is text_limit net_rows (o0.files four.net) ≡ stands net) (scn_there : tells → file_is text_limit scn_rows (o1.files four.scn) ≡ stands scn)
        (cdf_there : tells → cdf_is four.cdf o2.files ≡ stands cdf) (res_there : tells → file_is text_limit res_rows (o3.files four.res) ≡ stands res) where
      -- no file changes, so all that was read stands there from the first
      made_there : tells → four_is four o0.files ≡ judged (with_fault OfJoin (joined_problem net scn cdf res))
      made_there t =
          let e1 : o0.files ≡ o1.files = same_files o0 o1 (n.files t) in
          let e2 : o0.files ≡ o2.files = e1 ∙ same_files o1 o2 (s.files t) in
          let e3 : o0.files ≡ o3.files = e2 ∙ same_files o2 o3 (c.files t) in
          all_there _ _ _ _ net scn cdf res (net_there t)
          (ap (λ (f : Files). file_is text_limit scn_rows (f four.scn)) e1 ∙ scn_there t)
          (ap (λ (f : Files). cdf_is four.cdf f) e2 ∙ cdf_there t)
          (ap (λ (f : Files). file_is text_limit res_rows (f four.res)) e3 ∙ res_there t)

      made_here : tells → four_is four o4.files ≡ judged (with_fault OfJoin (joined_problem net scn cdf res))
      made_here t =
          let e : o0.files ≡ o4.files = same_files o0 o1 (n.files t) ∙ same_files o1 o2 (s.files t) ∙ same_files o2 o3 (c.files t) ∙ same_files o3 o4 (r.files t) in
          ap (λ (f : Files). four_is four f) (sym e) ∙ made_there t

      pub at_join : (found : Result Network Stop) → IsParsed Join (with_fault OfJoin (joined_problem net scn cdf res)) found → Reads tells exact (four_gates four) o0 o4 (stop_in found)
      at_join found h =
          then_last (stop_in found) (reads_then tells exact res_gate (join_gate four ∷ []) o3 o4 o4 (stop_in found) r
          (join_reads tells exact four (with_fault OfJoin (joined_problem net scn cdf res)) found o4 made_here h))

      pub join_is : (found : Result Network Stop) → IsParsed Join (with_fault OfJoin (joined_problem net scn cdf res)) found → tells → IfOk found (λ p. four_is four o0.files ≡ stands p)
      join_is found h t = join_stands (four_is four o0.files) (with_fault OfJoin (joined_problem net scn cdf res)) found (made_there t) h
