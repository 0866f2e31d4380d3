use Rattle.std.proofs.Common.{◌≡◌, refl, sym, ap, ◌∙◌, ℕ, zero, suc, List, [], ◌∷◌, map, get_or}
use Rattle.stack_model.specs.Structure.{NamedBody, body_at}
use Rattle.stack_lines.specs.Refusals.{overlap, faulty}
use Rattle.stack_work.specs.Surveying.{from_survey}
use Rattle.stack_forms.proofs.surveying.unsurveyed.Goals as goal

abbrev name_in : NamedBody → List ℕ
name_in b = b.name

-- The name of a body by its number, and none past the last.
named : (bs : List NamedBody) (i : ℕ) → get_or (map name_in bs) i [] ≡ (body_at bs i).name
named [] i = refl
named (b ∷ bs) zero = refl
named (b ∷ bs) (suc i) = named bs i

pub returns-in_ok-from_str-in-Overlap-2 : goal.returns-in_ok-from_str-in-Overlap-2
returns-in_ok-from_str-in-Overlap-2 c s names =
    let first = c.in_ok-from_str-in-Overlap.ensures.ok ∙ c.name_at.ensures
    ∙ ap (λ (xs : List (List ℕ)). get_or xs c.in-Overlap.first []) names ∙ named s.bodies c.in-Overlap.first in
    let second = c.in_ok-from_str-in-Overlap-2.ensures.ok ∙ c.name_at-in-Overlap.ensures
    ∙ ap (λ (xs : List (List ℕ)). get_or xs c.in-Overlap.second []) names ∙ named s.bodies c.in-Overlap.second in
    (λ i. faulty (overlap (first i) (second i))) ∙ ap (λ e. faulty (from_survey s e)) (sym c.in-Overlap.is)
