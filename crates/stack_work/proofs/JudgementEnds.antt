-- The work on a judgement comes down to one step.
use Rattle.std.proofs.Common.{◌≡◌, refl, sym, ap, ◌∙◌, ℕ, Bool, true, false, not, if◌then◌else◌}
use Rattle.stack_equilibrium.proofs.Common.{HasLive, Structure, Surveyed}
use Rattle.stack_equilibrium.specs.declared.types.Question.{Question}
use Rattle.stack_model.specs.Structure.{lists_live}
use Rattle.stack_model.proofs.Items.{found_live}
use Rattle.stack_equilibrium.specs.declared.types.Question.TheVariants.{Dead, Live}
use Rattle.stack_judge.specs.Judgement.{Judgement, judgement, LacksLive}
use Rattle.stack_lines.specs.Refusals.{no_live}
use Rattle.stack_work.specs.Answers.{Due}
use Rattle.stack_work.specs.Work.{Work, refuses}
use Rattle.stack_work.specs.Judging.{lacks_live, judged_step, judged}

pub lists_some : (s : Structure) → lists_live s ≡ true → HasLive s
lists_some s = (found_live s (lists_live s) refl).0

pub listed_live : (s : Structure) → HasLive s → lists_live s ≡ true
listed_live s = (found_live s (lists_live s) refl).1

lists_none : (s : Structure) (b : Bool) → lists_live s ≡ b → ¬ (HasLive s) → not b ≡ true
lists_none s true is none = absurd (none (lists_some s is))
lists_none s false is none = refl

lists_one : (s : Structure) (b : Bool) → lists_live s ≡ b → ¬ (¬ (HasLive s)) → not b ≡ false
lists_one s true is some = refl
lists_one s false is some = absurd (some (λ h. let t = sym (listed_live s h) ∙ is in cc))

-- the test for a live load says what it means
pub lacking : (q : Question) (v : Surveyed) → LacksLive q v → lacks_live q v.structure ≡ true
lacking Dead v h = absurd h
lacking Live v h = lists_none v.structure (lists_live v.structure) refl h

pub not_lacking : (q : Question) (v : Surveyed) → ¬ (LacksLive q v) → lacks_live q v.structure ≡ false
not_lacking Dead v h = refl
not_lacking Live v h = lists_one v.structure (lists_live v.structure) refl h

module _ (q : Question) (v : Surveyed) (budget : ℕ) where
  abbrev judged_at : Bool → Judgement → Work Due
  judged_at b j = if b then refuses no_live else judged_step q budget v j

  -- unless a live load is lacking, that of the judgement
  pub judged_is : (j : Judgement) → ¬ (LacksLive q v) → judgement q v budget ≡ j
      → judged q budget v ≡ judged_step q budget v j
  judged_is j live is = ap (λ b. judged_at b (judgement q v budget)) (not_lacking q v live)
      ∙ ap (judged_step q budget v) is

  -- where it is, that refusal
  pub judged_lacks : LacksLive q v → judged q budget v ≡ refuses no_live
  judged_lacks none = ap (λ b. judged_at b (judgement q v budget)) (lacking q v none)
