use Rattle.std.proofs.Common.{sym, subst₂, ◌∙◌, ℤ, nat_abs, ◌+◌, ◌-◌, ◌*◌, arith, rules, SFits, to_z, of_z, to_z-of_z}
use Rattle.std.proofs.Common.{w64}
use Rattle.std.specs.Int.{trailing_zeros}
use Rattle.std.proofs.lemmas.Nat.{le_or_l, le_or_r}
use lib.Bits.{bit_or, and_le_r}
use Rattle.stack_rows.specs.RowForm.{number_at, IsQuotient}
use Rattle.stack_rows.proofs.InWord.{IsAtMark, in_word, ended, next_mark}
use Rattle.stack_rows.proofs.stepping.words_in.Goals as goal
use Rattle.stack_rows.proofs.stepping.words_in.Goals.{In-loop-rest}

-- the lowest mark that is left
mark : (g : _) (c : In-loop-rest g) → IsAtMark c.args.words.now c.args.other.now c.args.marks.now
    (g.W.WordWay.times c.args.way.now) (g.W.WordWay.less c.args.way.now) (g.W.WordWay.by c.args.way.now) c.args.from.end
    c.args.from.size c.args.w c.loop-rest.words c.loop-rest.size c.loop-rest.rest
mark g c = next_mark c.requires.beside c.loop-rest.auto.words c.loop-rest.invariant
    (omega (arith, c.loop-rest-test.true)) (search rules)

pub loop-rest-init : goal.loop-rest-init
loop-rest-init g c = in_word c.requires.beside c.requires.word

pub loop-rest-smaller : goal.loop-rest-smaller
loop-rest-smaller g c = omega (arith, c.loop-rest-test.true, and_le_r c.loop-rest.rest (c.loop-rest.rest - 1))

pub slice_copy_out-quotient : goal.slice_copy_out-quotient
slice_copy_out-quotient g c =
    omega (arith, (mark g (goal.at.slice_copy_out-quotient g c).In-loop-rest).inside, c.loop-rest.auto.words)

pub bounds-other-j : goal.bounds-other-j
bounds-other-j g c = omega (arith, (mark g (goal.at.bounds-other-j g c).In-loop-rest).inside, c.requires.beside.width)

pub bounds-words-j : goal.bounds-words-j
bounds-words-j g c = omega (arith, (mark g (goal.at.bounds-words-j g c).In-loop-rest).inside, c.loop-rest.auto.words)

pub offset_bounds-words-j : goal.offset_bounds-words-j
offset_bounds-words-j g c = record {
  fits = omega (arith, (mark g (goal.at.offset_bounds-words-j g c).In-loop-rest).inside, c.requires.beside.few);
}

pub offset_bounds-other-j : goal.offset_bounds-other-j
offset_bounds-other-j g c = record {
  fits = omega (arith, (mark g (goal.at.offset_bounds-other-j g c).In-loop-rest).inside, c.requires.beside.few);
}

pub offset_bounds-words-j-in-Some : goal.offset_bounds-words-j-in-Some
offset_bounds-words-j-in-Some g c = record {
  fits = omega (arith, (mark g (goal.at.offset_bounds-words-j-in-Some g c).In-loop-rest).inside, c.requires.beside.few);
}

pub returns-in-None-clause-stepped : goal.returns-in-None-clause-stepped
returns-in-None-clause-stepped g c = (mark g (goal.at.returns-in-None-clause-stepped g c).In-loop-rest).reached

pub returns-in-None-clause-before : goal.returns-in-None-clause-before
returns-in-None-clause-before g c = λ l. (mark g (goal.at.returns-in-None-clause-before g c).In-loop-rest).inside

pub overflow_add-result : goal.overflow_add-result
overflow_add-result g c = record {
  fits = omega (arith, c.requires.room, c.requires.beside.long, c.requires.beside.few);
}

pub returns-clause-stepped : goal.returns-clause-stepped
returns-clause-stepped g c = ended c.requires.beside c.loop-rest.auto.words c.loop-rest.invariant
    (omega (arith, c.loop-rest-test.false))

pub quotient-requires : goal.quotient-requires
quotient-requires g c =
    let m = mark g (goal.at.quotient-requires g c).In-loop-rest in
    let j = c.args.w * 64 + trailing_zeros w64 c.loop-rest.rest in
    let own : SFits w64 (number_at c.loop-rest.words j) = search rules in
    let other : SFits w64 (number_at c.args.other.now j) = search rules in
    subst₂ (λ (a b : ℤ). g.W.WordWay.takes c.args.way.now (nat_abs a) (nat_abs b)) (sym (to_z-of_z own ∙ m.same))
    (sym (to_z-of_z other)) (c.requires.takes j m.reached.begun)

pub loop-rest-preserved : goal.loop-rest-preserved
loop-rest-preserved g c =
    let m = mark g (goal.at.loop-rest-preserved g c).In-loop-rest in
    let size = c.unsigned_abs-size.result in
    let j = c.args.w * 64 + trailing_zeros w64 c.loop-rest.rest in
    let own : SFits w64 (number_at c.loop-rest.words j) = search rules in
    let other : SFits w64 (number_at c.args.other.now j) = search rules in
    let number : SFits w64 c.in-Some.number = search rules in
    let here : IsQuotient (g.W.WordWay.by c.args.way.now) (g.W.WordWay.times c.args.way.now)
    (g.W.WordWay.less c.args.way.now) (number_at c.args.words.now j) (number_at c.args.other.now j)
    (to_z w64 (of_z w64 c.in-Some.number)) =
    cc (to_z-of_z own, to_z-of_z other, to_z-of_z number, m.same, c.in-Some.ensures) in
    m.after (to_z w64 (of_z w64 c.in-Some.number)) (bit_or c.loop-rest.size size) here
    (omega (arith, c.unsigned_abs-size.ensures.value, le_or_r c.loop-rest.size size)) (le_or_l c.loop-rest.size size)
