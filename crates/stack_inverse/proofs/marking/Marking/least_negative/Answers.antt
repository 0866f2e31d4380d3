use Rattle.std.proofs.Common.{◌≡◌, sym, ap, subst, ◌∙◌, ◌+◌, length, true, false, below_more, inl, inr, arith, rules}
use Rattle.std.proofs.lemmas.Bool.{cases_lt}
use Rattle.stack_rational.proofs.Common.{ℕ_discrete, sign_of}
use Rattle.stack_bland.specs.Choice.{is_negative_sign}
use Rattle.stack_inverse.specs.Columns.{RowSeen}
use Rattle.stack_inverse.specs.RowsSeen.{seen_of, seen_at, number_in_row}
use Rattle.stack_inverse.specs.Marks.{AreClean}
use Rattle.stack_inverse.proofs.LeastNegative.{least_is, least_none, negative_is}
use Rattle.stack_inverse.proofs.PutRow.{seen_get}
use Rattle.stack_inverse.proofs.marking.Marking.least_negative.Goals as goal

pub returns-then-number-lt0-clause-found : goal.returns-then-number-lt0-clause-found
returns-then-number-lt0-clause-found c =
    let p = c.args.first.now in
    let f = number_in_row p (seen_at c.args.rows.now p.rows) in
    let x = c.index-rows-first.result in
    let seen = seen_get c.args.rows.now p.rows x (omega (arith, c.requires.height)) c.index-rows-first.is in
    let here : is_negative_sign (sign_of (f c.loop-j.j)) ≡ true =
    subst (λ (s : RowSeen). is_negative_sign (sign_of (number_in_row p s c.loop-j.j)) ≡ true) seen
    (negative_is (number_in_row p (seen_of x) c.loop-j.j) (search rules)) in
    sym (least_is (length p.columns.items) (λ k. is_negative_sign (sign_of (f k))) c.loop-j.j
    (omega (arith, c.loop-j-test.true, c.len-end.ensures, p.columns.ok.0)) here c.loop-j.invariant.none)

pub loop-j-preserved : goal.loop-j-preserved
loop-j-preserved c =
    let p = c.args.first.now in
    let f = number_in_row p (seen_at c.args.rows.now p.rows) in
    let columns = p.columns in
    let x = c.index-rows-first.result in
    let seen = seen_get c.args.rows.now p.rows x (omega (arith, c.requires.height)) c.index-rows-first.is in
    let i = c.loop-j.invariant in
    let k = i.marks in
    let j = c.loop-j.j in
    let next = c.next-j-in-loop-j.ensures in
    let is : is_negative_sign (sign_of (number_in_row p (seen_of x) j)) ≡ false = search rules in
    let here : is_negative_sign (sign_of (f j)) ≡ false =
    subst (λ (s : RowSeen). is_negative_sign (sign_of (number_in_row p s j)) ≡ false) seen is in
    let clean : AreClean f (length columns.items) c.remove.new.self.words.items = λ q l z. elim (ℕ_discrete q j) [
      | yes e ↦ ap (λ n. is_negative_sign (sign_of (f n))) e ∙ here
      | no n ↦ k.clean q l (sym (c.remove.ensures.others q n) ∙ z)
    ] in
    record {
      marks = record {
        places_long = k.places_long;
        touched_long = k.touched_long;
        open_long = c.remove.ensures.long ∙ k.open_long;
        told = k.told;
        used = k.used;
        each_fits = k.each_fits;
        clean = clean;
      };
      within = next.within;
      none = λ q l. elim (cases_lt q (j + 1)) [
        | inl b ↦ below_more (λ n. is_negative_sign (sign_of (f n)) ≡ false) j i.none here q b
        | inr p ↦ clean q (omega (arith, l, next.within, c.len-end.ensures, columns.ok.0)) (next.none q p l)
      ];
    }

pub returns-clause-found : goal.returns-clause-found
returns-clause-found c =
    let f = number_in_row c.args.first.now (seen_at c.args.rows.now c.args.first.now.rows) in
    let columns = c.args.first.now.columns in
    sym (least_none (length columns.items) (λ k. is_negative_sign (sign_of (f k)))
    (λ k l. c.loop-j.invariant.none k (omega (arith, l, c.loop-j-test.false, c.len-end.ensures, columns.ok.0))))
