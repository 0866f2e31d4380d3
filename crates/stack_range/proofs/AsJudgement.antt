-- What the sides answer together is the judgement of the range.
use mathlib.Core.Path.{◌≡◌, ◌∙◌, ap}
use Prim.Native.Nat.{ℕ}
use Rattle.std.specs.Prelude.{Result, Ok, Err}
use Rattle.stack_contact.specs.Surveyed.{Surveyed}
use Rattle.stack_judge.specs.Judgement.{Judgement, certified}
use Rattle.stack_range.specs.declared.types.Side.TheVariants.{Greatest, Least}
use Rattle.stack_range.specs.declared.types.Range.{Range}
use Rattle.stack_range.specs.declared.types.Range.TheVariants.{Collapses, Between}
use Rattle.stack_range.specs.declared.types.RangeError.{RangeError}
use Rattle.stack_range.specs.declared.types.RangeError.TheVariants.{TooWide, Spent, NoLive, Memory}
use Rattle.stack_range.specs.CarriedFactors.{EndValue, at, unlimited, range_end_certificate}
use Rattle.stack_range.specs.Ranged.{between, AnswersBySides, end_view, side_judgement}
use Rattle.stack_range.specs.RangeJudgement.{told, by_least, by_sides, JudgesRange}

-- where the greatest side has an end, the least side decides
pub on_least : (high : EndValue) (one two : Judgement) → one ≡ certified (range_end_certificate high) →
    by_sides one two ≡ by_least high two
on_least (at f y) one two e = ap (λ j. by_sides j two) e
on_least (unlimited base ray) one two e = ap (λ j. by_sides j two) e

-- where it has an end too, the range is told
pub told_both : (low high : EndValue) (two : Judgement) → two ≡ certified (range_end_certificate low) →
    by_least high two ≡ told (between low high)
told_both (at f y) high two e = ap (by_least high) e
told_both (unlimited base ray) high two e = ap (by_least high) e

-- each answer of the sides as one value
pub as_judgement : (r : Result Range RangeError) (v : Surveyed) (budget : ℕ) → AnswersBySides r v budget →
    JudgesRange r v budget
as_judgement (Ok (Collapses y)) v budget h = (h.0, ap (λ j. by_sides j (side_judgement Least v budget)) h.1)
as_judgement (Ok (Between low high)) v budget h =
    (h.0, on_least (end_view high) _ _ h.1 ∙ told_both (end_view low) (end_view high) _ h.2)
as_judgement (Err (TooWide Greatest p)) v budget h = (h.0, ap (λ j. by_sides j (side_judgement Least v budget)) h.2)
as_judgement (Err (TooWide Least p)) v budget h = (h.0, on_least h.1.0 _ _ h.1.1 ∙ ap (by_least h.1.0) h.2)
as_judgement (Err (Spent Greatest)) v budget h = (h.0, ap (λ j. by_sides j (side_judgement Least v budget)) h.2)
as_judgement (Err (Spent Least)) v budget h = (h.0, on_least h.1.0 _ _ h.1.1 ∙ ap (by_least h.1.0) h.2)
as_judgement (Err NoLive) v budget h = h
as_judgement (Err Memory) v budget h = tt
