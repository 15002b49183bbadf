-- A setting that keeps all laws is near, and the first law that one breaks.
use Rattle.std.proofs.Common.{◌≡◌, ℕ, ◌<◌, sym, ap, ◌∙◌, ℤ, pos, List, ◌++◌, length, Bool, true, false, IsTrue, Some}
use Rattle.std.specs.Prelude.{slice_get}
use Rattle.std.specs.Option.{option_map_or}
use Rattle.std.proofs.lemmas.Option.{slice_get_within, get_or_from_slice_get}
use Rattle.base_types.specs.declared.states.ArcState.TheVariants.{Opened}
use Rattle.gas_model.specs.declared.rows.Setting.{Setting}
use Rattle.gas_model.specs.Rows.{Network}
use Rattle.gas_model.specs.Choices.{may_be}
use Rattle.gas_model.specs.Points.{balances, keeps_flow, keeps_square, state_at}
use Rattle.gas_model.specs.Near.{number_at, nears_arc, SettingFits, IsNear}
use Rattle.element_laws.specs.declared.broken.Broken.{Broken}
use Rattle.element_laws.specs.declared.broken.Broken.TheVariants.{Choice, FlowBound, PressureBound, Balance, Law}
use Rattle.element_laws.specs.Failing.{passes_at}
use Rattle.element_laws.specs.KeptLaws.{keeps_choice, keeps_flow_bound, keeps_pressure_bound, keeps_balance, keeps_law}
use Rattle.element_laws.specs.FirstBroken.{is_kept, laws_for, IsFirstRefused, IsFirstBroken}
use Rattle.element_laws.proofs.Order.{first_left, first_right, all_kept, first_of}

-- the test at a place says that of its row
to_row : {X : Type 0} (test : X → Bool) (rows : List X) (i : ℕ) (row : X) → slice_get rows i ≡ Some row → IsTrue (passes_at test rows i) → IsTrue (test row)
to_row test rows i row e h = ap (λ o. option_map_or test o true) (sym e) ∙ h

-- ---- the laws of each kind are kept
pub record KeepsAll (p : Network) (tol : ℤ) (s : Setting) : Type 0 where
  pub choices : (a : ℕ) → a < length p.arcs → IsTrue (keeps_choice p s a)
  pub flows : (a : ℕ) → a < length p.arcs → IsTrue (keeps_flow_bound p s a)
  pub pressures : (n : ℕ) → n < length p.nodes → IsTrue (keeps_pressure_bound p s n)
  pub balances : (n : ℕ) → n < length p.nodes → IsTrue (keeps_balance p s n)
  pub laws : (a : ℕ) → a < length p.arcs → IsTrue (keeps_law p tol s a)

pub near_from_kept : (p : Network) (tol : ℤ) (s : Setting) → SettingFits p s → KeepsAll p tol s → IsNear p tol s
near_from_kept p tol s fits k = record {
  listed = record {
    picked = fits.picks;
    one_each = fits.states;
    allowed = λ a row state e f.
        let kept : IsTrue (may_be p s.picks a row (state_at s.states a)) = to_row (λ r. may_be p s.picks a r (state_at s.states a)) p.arcs a row e (k.choices a (slice_get_within p.arcs a row e)) in
        ap (may_be p s.picks a row) (sym (get_or_from_slice_get s.states a state Opened f)) ∙ kept;
  };
  numbers = record { flows = fits.flows; squares = fits.squares };
  flows = λ a row e. to_row (λ r. keeps_flow r (pos 1) (number_at s.flows a)) p.arcs a row e (k.flows a (slice_get_within p.arcs a row e));
  squares = λ n node e. to_row (λ r. keeps_square r (pos 1) (number_at s.squares n)) p.nodes n node e (k.pressures n (slice_get_within p.nodes n node e));
  balances = λ n node e. to_row (λ r. balances r (pos 1) (number_at s.flows) n p.arcs) p.nodes n node e (k.balances n (slice_get_within p.nodes n node e));
  laws = λ a row e. to_row (λ r. nears_arc r (state_at s.states a) tol (number_at s.flows a) (number_at s.squares)) p.arcs a row e (k.laws a (slice_get_within p.arcs a row e));
}

-- ---- the first broken law, where the laws of the kinds before it are kept
abbrev pub AreKept : (ℕ → Bool) → ℕ → Type 0
AreKept test n = (i : ℕ) → i < n → IsTrue (test i)

abbrev pub FailsFirst : (ℕ → Bool) → ℕ → ℕ → Type 0
FailsFirst test n i = (i < n) × (test i ≡ false) × ((k : ℕ) → k < i → IsTrue (test k))

-- the laws from a kind on
abbrev from_balances : Network → List Broken
from_balances p = laws_for Balance (length p.nodes) ++ laws_for Law (length p.arcs)

abbrev from_pressures : Network → List Broken
from_pressures p = laws_for PressureBound (length p.nodes) ++ from_balances p

abbrev from_flows : Network → List Broken
from_flows p = laws_for FlowBound (length p.arcs) ++ from_pressures p

past_choices : (p : Network) (tol : ℤ) (s : Setting) (law : Broken) → AreKept (keeps_choice p s) (length p.arcs) → IsFirstRefused (is_kept p tol s) (from_flows p) law → IsFirstBroken p tol s law
past_choices p tol s law k f = first_right (is_kept p tol s) (laws_for Choice (length p.arcs)) (from_flows p) law (all_kept (is_kept p tol s) Choice (length p.arcs) k) f

past_flows : (p : Network) (tol : ℤ) (s : Setting) (law : Broken) → AreKept (keeps_flow_bound p s) (length p.arcs) → IsFirstRefused (is_kept p tol s) (from_pressures p) law → IsFirstRefused (is_kept p tol s) (from_flows p) law
past_flows p tol s law k f = first_right (is_kept p tol s) (laws_for FlowBound (length p.arcs)) (from_pressures p) law (all_kept (is_kept p tol s) FlowBound (length p.arcs) k) f

past_pressures : (p : Network) (tol : ℤ) (s : Setting) (law : Broken) → AreKept (keeps_pressure_bound p s) (length p.nodes) → IsFirstRefused (is_kept p tol s) (from_balances p) law → IsFirstRefused (is_kept p tol s) (from_pressures p) law
past_pressures p tol s law k f = first_right (is_kept p tol s) (laws_for PressureBound (length p.nodes)) (from_balances p) law (all_kept (is_kept p tol s) PressureBound (length p.nodes) k) f

pub choice_first : (p : Network) (tol : ℤ) (s : Setting) (a : ℕ) → FailsFirst (keeps_choice p s) (length p.arcs) a → IsFirstBroken p tol s (Choice a)
choice_first p tol s a f =
    first_left (is_kept p tol s) (laws_for Choice (length p.arcs)) (from_flows p) (Choice a) (first_of (is_kept p tol s) Choice (length p.arcs) a f.0 f.1 f.2)

pub flow_first : (p : Network) (tol : ℤ) (s : Setting) (a : ℕ) → AreKept (keeps_choice p s) (length p.arcs) → FailsFirst (keeps_flow_bound p s) (length p.arcs) a → IsFirstBroken p tol s (FlowBound a)
flow_first p tol s a k f =
    past_choices p tol s (FlowBound a) k (first_left (is_kept p tol s) (laws_for FlowBound (length p.arcs)) (from_pressures p) (FlowBound a) (first_of (is_kept p tol s) FlowBound (length p.arcs) a f.0 f.1 f.2))

pub pressure_first : (p : Network) (tol : ℤ) (s : Setting) (n : ℕ) → AreKept (keeps_choice p s) (length p.arcs) → AreKept (keeps_flow_bound p s) (length p.arcs) → FailsFirst (keeps_pressure_bound p s) (length p.nodes) n → IsFirstBroken p tol s (PressureBound n)
pressure_first p tol s n k l f =
    past_choices p tol s (PressureBound n) k (past_flows p tol s (PressureBound n) l
    (first_left (is_kept p tol s) (laws_for PressureBound (length p.nodes)) (from_balances p) (PressureBound n) (first_of (is_kept p tol s) PressureBound (length p.nodes) n f.0 f.1 f.2)))

pub balance_first : (p : Network) (tol : ℤ) (s : Setting) (n : ℕ) → AreKept (keeps_choice p s) (length p.arcs) → AreKept (keeps_flow_bound p s) (length p.arcs) → AreKept (keeps_pressure_bound p s) (length p.nodes) → FailsFirst (keeps_balance p s) (length p.nodes) n → IsFirstBroken p tol s (Balance n)
balance_first p tol s n k l m f =
    past_choices p tol s (Balance n) k (past_flows p tol s (Balance n) l (past_pressures p tol s (Balance n) m
    (first_left (is_kept p tol s) (laws_for Balance (length p.nodes)) (laws_for Law (length p.arcs)) (Balance n) (first_of (is_kept p tol s) Balance (length p.nodes) n f.0 f.1 f.2))))

pub law_first : (p : Network) (tol : ℤ) (s : Setting) (a : ℕ) → AreKept (keeps_choice p s) (length p.arcs) → AreKept (keeps_flow_bound p s) (length p.arcs) → AreKept (keeps_pressure_bound p s) (length p.nodes) → AreKept (keeps_balance p s) (length p.nodes) → FailsFirst (keeps_law p tol s) (length p.arcs) a → IsFirstBroken p tol s (Law a)
law_first p tol s a k l m b f =
    past_choices p tol s (Law a) k (past_flows p tol s (Law a) l (past_pressures p tol s (Law a) m
    (first_right (is_kept p tol s) (laws_for Balance (length p.nodes)) (laws_for Law (length p.arcs)) (Law a) (all_kept (is_kept p tol s) Balance (length p.nodes) b)
    (first_of (is_kept p tol s) Law (length p.arcs) a f.0 f.1 f.2))))
