use Rattle.std.proofs.Common.{◌≡◌, ap, ◌∙◌, sym, ℕ, ℤ, pos, length, arith}
use Rattle.std.proofs.lemmas.List.{length-replicate, length_push}
use Rattle.stack_rows.specs.RowForm.{number_at}
use Rattle.stack_rows.specs.EntriesSeen.{entries_of}
use Rattle.stack_rows.proofs.Kept.{same_numbers}
use Rattle.stack_rows.proofs.Numbers.{of_zeros}
use Rattle.stack_rows.proofs.Sided.{before_is}
use Rattle.stack_rows.proofs.pivot.Pivot.zeros.Goals as goal

pub invariant_of-result : goal.invariant_of-result
invariant_of-result c =
    let row = c.in_ok-row.row in
    let xs = entries_of row.entries in
    let is = c.in_ok-numbers.ensures.items_if_clones_equal (λ y h. h) in
    let zero : (j : ℕ) → number_at c.in_ok-numbers.numbers.items j ≡ pos 0 = λ j. rw is (of_zeros _ j) in
    let listed = c.in_ok-list.ensures.items_if_clones_equal (λ y h. h) in
    let long : length c.in_ok-numbers.numbers.items ≡ c.from.result = ap length is
    ∙ length-replicate {A = ℤ} c.from.result (pos 0) in
    let list_long : length c.in_ok-list.list.items ≡ c.from-2.result = ap length listed
    ∙ length-replicate {A = ℕ} c.from-2.result 0 in
    record {
      same = same_numbers c.in_ok-numbers.numbers.items xs
          (omega (arith, long, c.from.ensures, c.in_ok-row.ensures.width, length_push xs row.right, c.requires))
          (λ k l. zero k ∙ sym (sym (before_is xs row.right k (omega (
            arith,
            l,
            long,
            c.from.ensures,
            c.in_ok-row.ensures.width,
            length_push xs row.right,
          ))) ∙ c.in_ok-row.ensures.zeros k));
      room = omega (arith, long, list_long, c.from.ensures, c.from-2.ensures);
      places = record {
        room = omega arith;
        rising = λ a b l m. absurd (omega (arith, m));
        within = λ a l. absurd (omega (arith, l));
        others = λ j h. zero j;
      };
    }
