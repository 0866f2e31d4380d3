-- Reaches printed one after the other.
use Rattle.std.proofs.Common.{◌≡◌, ℕ, suc, ◌+◌, ◌<◌, ◌≤◌, List, ◌++◌, length, map, get_or, drop, sym, ap, ◌∙◌}
use Rattle.std.proofs.Common.{subst, add-one, drop-cons, append_assoc}
use Rattle.std.proofs.Math.ListN.{drop_of_length-le}
use Rattle.std.proofs.lemmas.List.{append-nil}
use Rattle.stack_yield.specs.declared.types.Reach.{Reach}
use Rattle.stack_yield.specs.Kept.{reach_view}
use Rattle.stack_yield.specs.RegionText.{reach_text, reach_lines}

-- the text of the reaches so far, with one more
pub one_more : (rs : List Reach) (k : ℕ) (r : Reach) (text longer whole : List ℕ) → k < length rs →
    r ≡ get_or rs k r → longer ≡ text ++ reach_text (reach_view r) →
    text ++ reach_lines (map reach_view (drop k rs)) ≡ whole →
    longer ++ reach_lines (map reach_view (drop (k + 1) rs)) ≡ whole
one_more rs k r text longer whole lt is added so_far =
    let rest : List ℕ = reach_lines (map reach_view (drop (suc k) rs)) in
    subst (λ n. longer ++ reach_lines (map reach_view (drop n rs)) ≡ whole) (sym (add-one k))
    (ap (λ t. t ++ rest) added ∙ append_assoc text (reach_text (reach_view r)) rest
    ∙ ap (λ (x : Reach). text ++ (reach_text (reach_view x) ++ rest)) is
    ∙ ap (λ ls. text ++ reach_lines (map reach_view ls)) (sym (drop-cons rs k r lt)) ∙ so_far)

-- the text of all reaches
pub no_more : (rs : List Reach) (k : ℕ) (text whole : List ℕ) → length rs ≤ k →
    text ++ reach_lines (map reach_view (drop k rs)) ≡ whole → text ≡ whole
no_more rs k text whole le so_far = sym (append-nil text)
    ∙ ap (λ ls. text ++ reach_lines (map reach_view ls)) (sym (drop_of_length-le rs le)) ∙ so_far
