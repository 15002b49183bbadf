-- What a search in the middle of a bracket tells, and what the searches of the least and the greatest draw tell.
use Rattle.std.proofs.Common.{◌≡◌, refl, ℕ, ◌<◌, ◌^◌, ℤ, pos, ◌+ℤ◌, ◌≤ℤ◌, ◌<ℤ◌, List, Some, None, length, arith}
use Rattle.integer_laws.proofs.Ring.{linear}
use Rattle.gas_model.specs.declared.rows.Setting.{Setting}
use Rattle.gas_model.specs.Rows.{Network}
use Rattle.gas_model.specs.Within.{IsWithin}
use Rattle.tree_cert.specs.Texts.{PassesWholeText}
use Rattle.tree_rules.specs.Branches.{rules_of}
use Rattle.tree_rules.proofs.TreeSound.{texts_refute}
use Rattle.nom_search.specs.declared.searching.Why.{Why}
use Rattle.nom_search.specs.declared.searching.Found.TheVariants as search
use Rattle.decide.specs.Decided.{IsDecided}
use Rattle.nom_range.specs.declared.bracket.Bracket.{Bracket}
use Rattle.nom_range.specs.declared.found.RangeEnd.{RangeEnd}
use Rattle.nom_range.specs.declared.found.RangeEnd.TheVariants.{Whole, Narrow, Left, Overlap}
use Rattle.nom_range.specs.declared.found.RangeFound.{RangeFound}
use Rattle.nom_range.specs.Draws.{draw, drawn}
use Rattle.nom_range.specs.Ranges.{CarriesDraw, IsMiddle, IsRange, RefutesDraws}
use Rattle.nom_range.specs.Brackets.{IsBracket, Narrows}
use Rattle.nom_range.proofs.DrawnNear.{draw_within, fits_as_well, near_at_draw}
use Rattle.nom_range.proofs.Halving.{lower_halves, middle_halves, upper_halves}

-- a refutation of draws, of a problem within its limits
pub refutes_draws : (p : Network) (n : ℕ) (x y : ℤ) (text : List ℕ) → IsWithin (drawn p n x y) → PassesWholeText (rules_of (drawn p n x y)) text → RefutesDraws p n x y text
refutes_draws p n x y text w passes = record { passes = passes; infeasible = texts_refute (drawn p n x y) passes.lines w passes.passes }

-- the bracket as a range that ends so
abbrev pub ended : Bracket → RangeEnd → RangeFound
ended known end = record { carried = known.carried; setting = known.setting; refused = Some known.refused; end = end }

module _ (p : Network) (n : ℕ) (low high : ℤ) (tol boxes : ℕ) (there : n < length p.nodes) (from : pos 0 ≤ℤ low) (to : high ≤ℤ pos (10 ^ 12)) (known : Bracket) (b : IsBracket p n low high tol known) where
  below_high : known.carried ≤ℤ high
  below_high = let above = b.refused.above in let within = b.refused.within in omega (arith, linear)

  -- nothing whole lies between what is carried and what is refused first
  pub ends_narrow : known.refused.first <ℤ (known.carried +ℤ pos 2) → IsRange p n low high tol boxes (ended known Narrow)
  ends_narrow close = record {
    from = b.from;
    to = below_high;
    carries = b.carries;
    refused = b.refused;
    ends = (let above = b.refused.above in omega (arith, linear));
  }

  module _ (mid : ℤ) (middle : IsMiddle known.carried known.refused.first mid) where
    from_zero : pos 0 ≤ℤ known.carried
    from_zero = let f = b.from in omega (arith, linear)

    to_most : known.refused.first ≤ℤ pos (10 ^ 12)
    to_most = let within = b.refused.within in omega (arith, linear)

    -- a setting that draws less than what is refused first
    pub raises : (s : Setting) → IsDecided (drawn p n mid high) tol boxes (search.Carried s) → draw p n s <ℤ known.refused.first
        → Narrows p n low high tol known (record { carried = draw p n s; setting = s; refused = known.refused })
    raises s found below =
        let h = middle_halves known.carried known.refused.first mid middle in
        let w = draw_within p n mid high (pos tol) s there found.0 in
        let f = b.from in
        record {
          bracket = record {
            from = omega (arith, linear, w.0, h.above);
            carries = record { near = near_at_draw p n mid high (pos tol) s there found.0; fits = fits_as_well p n mid high (draw p n s) (draw p n s) s found.1 };
            refused = record { above = below; within = b.refused.within; refutes = b.refused.refutes };
          };
          fewer = upper_halves known.carried known.refused.first mid from_zero to_most middle (draw p n s) w.0 below;
        }

    -- a setting that draws what is refused
    pub ends_overlap : (s : Setting) → IsDecided (drawn p n mid high) tol boxes (search.Carried s) → known.refused.first ≤ℤ draw p n s → IsRange p n low high tol boxes (ended known (Overlap mid s))
    ends_overlap s found draws = record {
      from = b.from;
      to = below_high;
      carries = b.carries;
      refused = b.refused;
      ends = record { middle = middle; near = found.0; draws = draws };
    }

    -- a refutation from the middle on
    pub lowers : (text : List ℕ) → IsWithin (drawn p n mid high) → IsDecided (drawn p n mid high) tol boxes (search.Refuted text)
        → Narrows p n low high tol known (record { carried = known.carried; setting = known.setting; refused = record { first = mid; tree = text } })
    lowers text w found =
        let h = middle_halves known.carried known.refused.first mid middle in
        let within = b.refused.within in
        record {
          bracket = record {
            from = b.from;
            carries = b.carries;
            refused = record { above = h.above; within = omega (arith, linear, h.below); refutes = refutes_draws p n mid high text w found };
          };
          fewer = lower_halves known.carried known.refused.first mid from_zero to_most middle;
        }

    -- a search that halted
    pub ends_left : (why : Why) (text : List ℕ) (line : ℕ) → IsDecided (drawn p n mid high) tol boxes (search.Left why text line) → IsRange p n low high tol boxes (ended known (Left mid why text line))
    ends_left why text line found = record {
      from = b.from;
      to = below_high;
      carries = b.carries;
      refused = b.refused;
      ends = (middle, found);
    }

    -- the problem that is searched has draws from 0 to 10^12, in order
    pub record Searched : Type 0 where
      pub least : pos 0 ≤ℤ mid
      pub order : mid ≤ℤ high

    pub is_searched : Searched
    is_searched = record {
      least = (let h = middle_halves known.carried known.refused.first mid middle in omega (arith, linear, h.above, from_zero));
      order = (let h = middle_halves known.carried known.refused.first mid middle in let within = b.refused.within in omega (arith, linear, h.below));
    }

-- the least draw is carried
module _ (p : Network) (n : ℕ) (low high : ℤ) (tol boxes : ℕ) (s : Setting) where
  -- and it is the greatest too
  pub all_at_once : low ≡ high → CarriesDraw p n tol low s → IsRange p n low high tol boxes (record { carried = low; setting = s; refused = None; end = Whole })
  all_at_once same carries = record { from = omega (arith, linear); to = omega (arith, linear, same); carries = carries; refused = tt; ends = (same, refl) }

  -- so is the greatest
  pub all_of_it : low ≤ℤ high → IsDecided (drawn p n high high) tol boxes (search.Carried s) → IsRange p n low high tol boxes (record { carried = high; setting = s; refused = None; end = Whole })
  all_of_it order found = record {
    from = order;
    to = omega (arith, linear);
    carries = record { near = found.0; fits = found.1 };
    refused = tt;
    ends = (refl, refl);
  }

  -- the greatest is refused
  pub begins : low <ℤ high → CarriesDraw p n tol low s → (text : List ℕ) → IsWithin (drawn p n high high) → IsDecided (drawn p n high high) tol boxes (search.Refuted text)
      → IsBracket p n low high tol (record { carried = low; setting = s; refused = record { first = high; tree = text } })
  begins apart carries text w found = record {
    from = omega (arith, linear);
    carries = carries;
    refused = record { above = apart; within = omega (arith, linear); refutes = refutes_draws p n high high text w found };
  }

  -- the search of the greatest halted
  pub left_at_once : low <ℤ high → CarriesDraw p n tol low s → (why : Why) (text : List ℕ) (line : ℕ) → IsDecided (drawn p n high high) tol boxes (search.Left why text line)
      → IsRange p n low high tol boxes (record { carried = low; setting = s; refused = None; end = Left high why text line })
  left_at_once apart carries why text line found = record {
    from = omega (arith, linear);
    to = omega (arith, linear);
    carries = carries;
    refused = tt;
    ends = ((refl, apart, refl), found);
  }
