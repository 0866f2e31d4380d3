-- The rows of a slab, one layer more.
use Rattle.std.proofs.Common.{◌≡◌, ℕ, suc, ◌+◌, ◌-◌, ◌≤◌, List, [], ◌∷◌, ◌++◌, sym, ap, ◌∙◌, arith}
use Rattle.std.proofs.Common.{flat_map}
use Rattle.std.proofs.lemmas.List.{append-nil}
use Rattle.std.proofs.lemmas.List.Concat.{flat_map-append}
use Rattle.stack_algebra.proofs.Listed.{listed, listed_more}
use Rattle.stack_overhang.specs.Stacks.{layer_of}

abbrev layers : ℕ → List ℕ
layers m = 1 ∷ flat_map layer_of (listed m (λ k. k + 2))

more : (m : ℕ) → layers m ++ layer_of (m + 2) ≡ layers (suc m)
more m = ap (λ ns. 1 ∷ (flat_map layer_of (listed m (λ k. k + 2)) ++ ns)) (sym (append-nil (layer_of (m + 2))))
    ∙ ap (λ ns. 1 ∷ ns) (sym (flat_map-append layer_of (listed m (λ k. k + 2)) ((m + 2) ∷ [])))
    ∙ ap (λ rs. 1 ∷ flat_map layer_of rs) (sym (listed_more m (λ k. k + 2)))

pub one_layer_more : (counts next : List ℕ) (r : ℕ) → 2 ≤ r → next ≡ counts ++ layer_of r → counts ≡ layers (r - 2)
    → next ≡ layers (r + 1 - 2)
one_layer_more counts next r least h so_far =
    let here : r ≡ r - 2 + 2 = omega arith in
    let after : suc (r - 2) ≡ r + 1 - 2 = omega arith in
    h ∙ ap (λ ns. ns ++ layer_of r) so_far ∙ ap (λ k. layers (r - 2) ++ layer_of k) here ∙ more (r - 2)
    ∙ ap layers after
