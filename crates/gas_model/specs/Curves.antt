-- The formulas of the laws, on whole numbers alone.
use Rattle.std.specs.Prelude.{ℤ, pos, ◌+ℤ◌, ◌-ℤ◌, ◌*ℤ◌, neg_ℤ, Bool, ◌&&◌, ◌||◌, int_le, int_lt, if◌then◌else◌}
use Rattle.std.specs.Ordering.{int_eq}
use Rattle.gas_model.specs.declared.rows.Drag.{Drag}
use Rattle.gas_model.specs.declared.law_forms.PipeLaw.{PipeLaw}

abbrev pub square : ℤ → ℤ
square z = z *ℤ z

-- the square of q with its sign, times f forward and times g back
abbrev pub curve : (f g q : ℤ) → ℤ
curve f g q = if int_le (pos 0) q then f *ℤ square q else neg_ℤ (g *ℤ square q)

-- the least and the greatest drop of the squares at the flow q, times the denominator of the resistance
abbrev pub drop_low : Drag → ℤ → ℤ
drop_low law q = curve law.lo law.hi q

abbrev pub drop_high : Drag → ℤ → ℤ
drop_high law q = curve law.hi law.lo q

-- the square y less the square x less the square of D, where squares count parts of 1/d
abbrev pub excess : (d y x D : ℤ) → ℤ
excess d y x D = y -ℤ x -ℤ d *ℤ square D

-- The root of y / d is at most the root of x / d plus D: where y exceeds x + d * D^2 by some t,
-- t^2 is at most 4 * D^2 * d * x.
abbrev pub at_most : (d y x D : ℤ) → Bool
at_most d y x D = int_le (excess d y x D) (pos 0) || int_le (square (excess d y x D)) (pos 4 *ℤ square D *ℤ (d *ℤ x))

-- the root of y / d is at least the root of x / d plus D
abbrev pub at_least : (d y x D : ℤ) → Bool
at_least d y x D = int_le (pos 0) (excess d y x D) && int_le (pos 4 *ℤ square D *ℤ (d *ℤ x)) (square (excess d y x D))

-- The interval form of the Weymouth law, where the flow is q / d and the squares are u / d and v / d:
-- the squares drop by what some resistance of the interval asks for.
abbrev pub meets_resistance : PipeLaw → (d q u v : ℤ) → Bool
meets_resistance law d q u v =
    int_le (drop_low law.drag q) (law.drag.den *ℤ d *ℤ (u -ℤ v)) && int_le (law.drag.den *ℤ d *ℤ (u -ℤ v)) (drop_high law.drag q)

-- the same over whole numbers, where the drop of the squares may be off by the tolerance
abbrev pub nears_resistance : PipeLaw → (tol q u v : ℤ) → Bool
nears_resistance law tol q u v =
    int_le (drop_low law.drag q) (law.drag.den *ℤ (u -ℤ v +ℤ tol)) && int_le (law.drag.den *ℤ (u -ℤ v -ℤ tol)) (drop_high law.drag q)

-- the pressure falls from x to y by low to high Pa
abbrev pub falls_between : (low high d x y : ℤ) → Bool
falls_between low high d x y = at_least d x y low && at_most d x y high

-- The law of a constant loss: the pressure falls by low to high Pa in the direction of the flow,
-- and where nothing flows it is the same at both ends.
abbrev pub meets_loss : (low high d q u v : ℤ) → Bool
meets_loss low high d q u v =
    if int_lt (pos 0) q then falls_between low high d u v
    else if int_lt q (pos 0) then falls_between low high d v u
    else int_eq u v

-- z, or 0 where it is below
abbrev pub at_least_zero : ℤ → ℤ
at_least_zero z = if int_le (pos 0) z then z else pos 0

-- the pressure falls from x to y by low to high Pa, where the square x may be off by the tolerance
abbrev pub nears_fall : (low high tol x y : ℤ) → Bool
nears_fall low high tol x y = at_least (pos 1) (x +ℤ tol) y low && at_most (pos 1) (at_least_zero (x -ℤ tol)) y high

-- two squares that differ by at most the tolerance
abbrev pub is_close : (tol x y : ℤ) → Bool
is_close tol x y = int_le (x -ℤ y) tol && int_le (y -ℤ x) tol

-- the law of a constant loss over whole numbers, where a square may be off by the tolerance
abbrev pub nears_loss : (low high tol q u v : ℤ) → Bool
nears_loss low high tol q u v =
    if int_lt (pos 0) q then nears_fall low high tol u v
    else if int_lt q (pos 0) then nears_fall low high tol v u
    else is_close tol u v

-- the pressure before an active arc is at least in_min Pa, and that after it at most out_max Pa
abbrev pub keeps_inner : (in_min out_max d u v : ℤ) → Bool
keeps_inner in_min out_max d u v = int_le (d *ℤ square in_min) u && int_le v (d *ℤ square out_max)

-- the square v is at most the square u times the square of the ratio num / den
abbrev pub keeps_ratio : (num den u v : ℤ) → Bool
keeps_ratio num den u v = int_le (square den *ℤ v) (square num *ℤ u)

-- the pressure rises from u to v, by at most rise_max Pa and at most to its num / den-fold
abbrev pub rises_within : (num den rise_max d u v : ℤ) → Bool
rises_within num den rise_max d u v = int_le u v && at_most d v u rise_max && keeps_ratio num den u v
