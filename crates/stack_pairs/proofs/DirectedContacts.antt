-- The directed survey is the survey of the directed structure.
use Rattle.std.proofs.Common.{refl, sym, subst, ℕ, ℤ}
use Rattle.stack_contact.specs.Surveyed.{Surveyed, IsSurvey}
use Rattle.stack_contact.proofs.SameContacts.{same_contacts}
use Rattle.stack_pairs.specs.Directed.{directed_structure, directed_survey}
use Rattle.stack_pairs.specs.Laws.{DirectedIsSurveyed}

own : (v : Surveyed) (i j : ℕ) (m n : ℤ) → IsSurvey v.structure v →
    IsSurvey (directed_structure v.structure i j m n) (directed_survey v i j m n)
own v i j m n h = same_contacts v (directed_structure v.structure i j m n) refl refl refl h

pub directed_is_surveyed : DirectedIsSurveyed
directed_is_surveyed s v i j m n h =
    subst (λ t. IsSurvey (directed_structure t i j m n) (directed_survey v i j m n)) h.structure
    (own v i j m n (subst (λ t. IsSurvey t v) (sym h.structure) h))
