use Rattle.std.proofs.Common.{refl, ◌≤◌, length, arith}
use Rattle.stack_rows.proofs.Stepped.{begun, further}
use Rattle.stack_rows.proofs.InWord.{beside_now, to_end}
use Rattle.stack_rows.proofs.stepping.words_from.Goals as goal

pub loop-w-init : goal.loop-w-init
loop-w-init g c = record { stepped = begun _ _ _ _ _ _ _ _; word = refl }

pub words_in-reached-requires-clause-beside : goal.words_in-reached-requires-clause-beside
words_in-reached-requires-clause-beside g c = beside_now _ _ _ _ _ _ _ _ c.requires.beside _ _ _ c.loop-w.auto.words
    c.loop-w.invariant.stepped

pub words_in-reached-requires-clause-takes : goal.words_in-reached-requires-clause-takes
words_in-reached-requires-clause-takes g c = λ j l.
    let s = c.loop-w.invariant.stepped in
    rw (s.written.after j l) (c.requires.takes j (omega (arith, l, s.begun)))

pub loop-w-preserved : goal.loop-w-preserved
loop-w-preserved g c =
    let s = c.loop-w.invariant.stepped in
    let made = c.words_in-reached.ensures in
    record {
      stepped = further _ _ _ _ _ _ _ _ _ _ _ s _ _ _ made.stepped;
      word = omega (arith, made.within);
    }

pub returns-then-reached-w-clause-stepped : goal.returns-then-reached-w-clause-stepped
returns-then-reached-w-clause-stepped g c =
    further _ _ _ _ _ _ _ _ _ _ _ c.loop-w.invariant.stepped _ _ _ c.words_in-reached.ensures.stepped

pub returns-clause-stepped : goal.returns-clause-stepped
returns-clause-stepped g c =
    let i = c.loop-w.invariant in
    let end : length c.args.marks.now ≤ c.loop-w.w = omega (arith, c.loop-w-test.false) in
    rw c.loop-w.auto.words
    (to_end _ _ _ _ _ _ _ _ c.requires.beside _ _ _ c.loop-w.auto.words i.stepped c.loop-w.w i.word end c.requires.from)
