-- A scan by depth finds what stands directly within an element.
use Rattle.std.proofs.Common.{◌≡◌, ◌<◌, ◌≤◌, ◌+◌, ◌-◌, ◌&&◌, ℕ, suc, Bool, true, false, cond, leb, eqb, List, [], ◌∷◌, ◌++◌, length, Option, Some, None, refl, sym, ap, ◌∙◌, append_assoc, arith}
use Rattle.std.specs.Prelude.{◌==◌}
use Rattle.std.specs.List.{find}
use Rattle.std.specs.Str.{bytes_eq}
use Rattle.std.proofs.lemmas.Bool.{le-leb, lt-leb, ne_eqb}
use Rattle.std.proofs.lemmas.Bool.Decides.{nat_tests}
use Rattle.tag_outline.specs.declared.outline.Element.{Element}
use Rattle.tag_outline.specs.Grammar.{Closing, written_item, Content, Empty, Text, Note, Single, Nested, written_content, element, listed}
use Rattle.element_fields.specs.Lookup.{Placed, child, children}
use Rattle.element_fields.specs.Children.{directly_in, AreOutside, ChildrenStandWithin, ChildIsTheFirst}

deeper : (k j : ℕ) → k < j → (leb j k ≡ false) × (k + 1 < j → (j == k + 1) ≡ false)
deeper k j lt = (grind (arith, nat_tests), λ more. grind (arith, nat_tests))

one_deeper : (k : ℕ) → (k + 1 == k + 1) ≡ true
one_deeper k = grind (arith, nat_tests)

-- elements further within are passed over
skips : (end k j : ℕ) (c : Content) (rest : List ℕ) (after : List Element) → k < j → children k (listed end j c rest ++ after) ≡ children k after
skips end k j Empty rest after lt = refl
skips end k j (Text b c) rest after lt = skips end k j c rest after lt
skips end k j (Note n c) rest after lt = skips end k j c rest after lt
skips end k j (Single t c) rest after lt =
    let d = deeper k (j + 1) (omega (arith, lt)) in
    rw (d.0, d.1 (omega (arith, lt))) (skips end k j c rest after lt)
skips end k j (Nested t inner space c) rest after lt =
    let d = deeper k (j + 1) (omega (arith, lt)) in
    let inside = listed end (j + 1) inner (written_item (Closing t.name space) (written_content c rest)) in
    rw (d.0, d.1 (omega (arith, lt)), append_assoc inside (listed end j c rest) after)
    (skips end k (j + 1) inner (written_item (Closing t.name space) (written_content c rest)) (listed end j c rest ++ after) (omega (arith, lt)) ∙ skips end k j c rest after lt)

no_more : (k : ℕ) (after : List Element) → AreOutside k after → children k after ≡ []
no_more k [] out = refl
no_more k (e ∷ es) out = rw (le-leb e.depth k out) refl

within : (end k : ℕ) (c : Content) (rest : List ℕ) (after : List Element) → AreOutside k after → children k (listed end k c rest ++ after) ≡ directly_in end k c rest after
within end k Empty rest after out = no_more k after out
within end k (Text b c) rest after out = within end k c rest after out
within end k (Note n c) rest after out = within end k c rest after out
within end k (Single t c) rest after out =
    let d = deeper k (k + 1) (omega arith) in
    rw (d.0, one_deeper k) (ap (λ l. (element k (end - length (written_content (Single t c) rest)) t, listed end k c rest ++ after) ∷ l) (within end k c rest after out))
within end k (Nested t inner space c) rest after out =
    let d = deeper k (k + 1) (omega arith) in
    let closing = written_item (Closing t.name space) (written_content c rest) in
    let inside = listed end (k + 1) inner closing in
    rw (d.0, one_deeper k, append_assoc inside (listed end k c rest) after)
    (ap (λ l. (element k (end - length (written_content (Nested t inner space c) rest)) t, inside ++ (listed end k c rest ++ after)) ∷ l)
    (skips end k (k + 1) inner closing (listed end k c rest ++ after) (omega arith) ∙ within end k c rest after out))

outside_more : (k : ℕ) (after : List Element) → AreOutside k after → AreOutside (k + 1) after
outside_more k [] out = tt
outside_more k (e ∷ es) out = omega (arith, out)

goes_on : (end k : ℕ) (c : Content) (rest : List ℕ) (after : List Element) → AreOutside k after → AreOutside (k + 1) (listed end k c rest ++ after)
goes_on end k Empty rest after out = outside_more k after out
goes_on end k (Text b c) rest after out = goes_on end k c rest after out
goes_on end k (Note n c) rest after out = goes_on end k c rest after out
goes_on end k (Single t c) rest after out = omega arith
goes_on end k (Nested t inner space c) rest after out = omega arith

pub children_within : ChildrenStandWithin
children_within = (within, goes_on)

pub child_first : ChildIsTheFirst
child_first k name [] = refl
child_first k name (e ∷ es) = by (leb e.depth k) (eqb e.depth (k + 1)) (bytes_eq e.name name) refl (child_first k name es)
  where
    by : (low is called : Bool) → bytes_eq e.name name ≡ called → child k name es ≡ find (λ p. bytes_eq p.0.name name) (children k es)
        → cond low None (cond (is && called) (Some (e, es)) (child k name es)) ≡ find (λ p. bytes_eq p.0.name name) (cond low [] (cond is ((e, es) ∷ children k es) (children k es)))
    by true is called h rec = refl
    by false false called h rec = rec
    by false true true h rec = rw h refl
    by false true false h rec = rw h rec
