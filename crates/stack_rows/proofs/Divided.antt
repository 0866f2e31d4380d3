-- One turn more of a division: all before is brought over a lesser number, and more numbers are divided by it.
use Rattle.std.proofs.Common.{◌≡◌, sym, subst, ◌∙◌, ℕ, ◌<◌, ◌≤◌, List, length, arith, ℤ, ◌*ℤ◌}
use Rattle.stack_rational.proofs.Common.{dec_lt}
use Rattle.stack_rows.specs.RowForm.{number_at, IsQuotient, IsDivided, IsDividedPart, IsDividedOn, IsMultiplied}
use Rattle.stack_rows.proofs.Numbers.{at-past}
use Rattle.stack_rows.proofs.Combined.{made_nothing, over_lesser}

pub turned : (old pivot now more new : List ℤ) (k t first by part lesser : ℤ) {from j n : ℕ} → part *ℤ lesser ≡ by →
    from ≤ j → j ≤ n → IsDividedOn old pivot k t first by from j now → IsMultiplied now part j more →
    IsDividedPart more pivot k t lesser j n new → IsDividedOn old pivot k t first lesser from n new
turned old pivot now more new k t first by part lesser {j = j} e begun further w m d = record {
  before = λ i a. brought i (omega (arith, begun, a)) ∙ w.before i a;
  part = λ i a b. elim (dec_lt i j) [
    | yes l ↦ brought i l ∙ w.part i a l
    | no l ↦ subst (λ z. IsQuotient lesser k t z (number_at pivot i) (number_at new i))
        (m.after i (omega (arith, l)) ∙ w.after i (omega (arith, l))) (d.part i (omega (arith, l)) b)
  ];
  after = λ i a. d.after i a ∙ m.after i (omega (arith, a, further)) ∙ w.after i (omega (arith, a, further));
}
  where
    brought : (i : ℕ) → i < j → number_at new i *ℤ lesser ≡ number_at now i *ℤ by
    brought i l = (λ x. d.before i l x *ℤ lesser)
        ∙ over_lesser (number_at now i) part lesser by (number_at more i) e (m.part i (omega arith) l)

-- a step that is made in two parts, of which the second one goes on over another number, is made at each place
pub divided_on : (old pivot now new : List ℤ) (k t first by : ℤ) (end n : ℕ) →
    IsDividedPart old pivot k t first 0 end now → IsDividedOn now pivot k t first by end n new → end ≤ n →
    length pivot ≤ n → length now ≤ n → length new ≤ n → IsDivided old pivot k t by new
divided_on old pivot now new k t first by end n w d l a b c j = elim (dec_lt j end) [
  | yes m ↦ d.before j m ∙ w.part j (omega arith) m
  | no m ↦ elim (dec_lt j n) [
    | yes o ↦ subst (λ z. IsQuotient by k t z (number_at pivot j) (number_at new j))
        (w.after j (omega (arith, m))) (d.part j (omega (arith, m)) o)
    | no o ↦ made_nothing by k t (sym (w.after j (omega (arith, m))) ∙ at-past now j (omega (arith, b, o)))
        (at-past pivot j (omega (arith, a, o))) (at-past new j (omega (arith, c, o)))
  ]
]
