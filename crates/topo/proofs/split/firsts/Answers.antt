use Rattle.std.proofs.Common.{◌≡◌, ℕ, ◌<◌, refl, ◌∙◌, ap, length, replicate, false, get_or, subst, sym, List, Bool, []}
use Rattle.std.proofs.lemmas.List.{get_or-replicate, length-replicate}
use Rattle.topo.specs.Split.{HasFirsts}
use Rattle.topo.proofs.Firsts.{firsts_none}
use Rattle.topo.proofs.split.firsts.Goals as goal

pub returns : goal.returns
returns c =
    let none : c.as_mut_slice.result.now ≡ replicate c.args.count false = c.as_mut_slice.ensures.value ∙ c.in_ok-has.ensures.items_if_clones_equal (λ y e. e) in
    let size : length c.as_mut_slice.result.now ≡ c.args.count = ap length none ∙ length-replicate c.args.count false in
    let start : HasFirsts (length c.as_mut_slice.result.now) [] [] c.as_mut_slice.result.now = firsts_none _ c.as_mut_slice.result.now refl (λ n h. ap (λ (xs : List Bool). get_or xs n false) none ∙ get_or-replicate c.args.count n false false (subst (λ (k : ℕ). n < k) size h)) in
    c.in_ok-note_both.ensures (subst (λ (xs : List ℕ). HasFirsts (length c.as_mut_slice.result.now) [] xs c.as_mut_slice.result.now) (sym c.new-list.ensures.items) start)
