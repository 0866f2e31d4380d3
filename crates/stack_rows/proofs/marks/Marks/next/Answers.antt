use Rattle.std.proofs.Common.{sym, ap, ◌∙◌, ℕ, ◌-◌, ◌/◌, ◌%◌, ◌^◌, ◌<◌, ◌≤◌, List, get_or, arith, rules, w64}
use Rattle.std.specs.Int.{bit_at, trailing_zeros}
use Rattle.std.proofs.lemmas.Nat.Bits.{bit_at-trailing_zeros, bit_at-zero}
use lib.Pow.{shr_le}
use Rattle.stack_rows.specs.Marks.{mark_in}
use Rattle.stack_rows.proofs.Bits.{none_more, within_word, none_from}
use Rattle.stack_rows.proofs.marks.Marks.next.Goals as goal

pub returns-then-rest-ne0-clause-none : goal.returns-then-rest-ne0-clause-none
returns-then-rest-ne0-clause-none c = λ j f l.
    let from = c.args.from in
    let ws = c.as_slice-words.result.now in
    let word = get_or ws (from / 64) 0 in
    let rest = word / 2 ^ (from % 64) in
    let small : word < 2 ^ 64 = search rules in
    let less : rest ≤ word = shr_le word (from % 64) in
    let lowest = bit_at-trailing_zeros w64 rest (omega (arith, c.if-rest-ne0.true)) (omega (arith, small, less)) in
    let inside = within_word word (from % 64) (trailing_zeros w64 rest) small lowest.1 in
    ap (λ (xs : List ℕ). mark_in xs j) (sym c.as_slice-words.ensures.value)
    ∙ none_from ws from (trailing_zeros w64 rest) (omega (arith, inside)) lowest.2 j f
    (omega (arith, l, f, c.min.ensures))

pub returns-then-word-ne0-clause-none : goal.returns-then-word-ne0-clause-none
returns-then-word-ne0-clause-none c = λ j f l.
    let word = get_or c.as_slice-words.result.now c.loop-w.w 0 in
    let lowest = bit_at-trailing_zeros w64 word (omega (arith, c.if-word-ne0.true)) (search rules) in
    none_more c.args.self.now.words.items c.args.from c.loop-w.w (trailing_zeros w64 word) (omega (arith, lowest.0))
    c.loop-w.invariant
    (λ i b. ap (λ (ws : List ℕ). bit_at (get_or ws c.loop-w.w 0) i) (sym c.as_slice-words.ensures.value) ∙ lowest.2 i b)
    j f (omega (arith, l, f, c.min-then-word-ne0.ensures))

pub loop-w-init : goal.loop-w-init
loop-w-init c = λ j f l.
    let from = c.args.from in
    let ws = c.as_slice-words.result.now in
    let word = get_or ws (from / 64) 0 in
    ap (λ (xs : List ℕ). mark_in xs j) (sym c.as_slice-words.ensures.value)
    ∙ none_from ws from (64 - from % 64) (omega arith) (λ i b. ap (λ x. bit_at x i) c.if-rest-ne0.false ∙ bit_at-zero i)
    j f (omega (arith, l, f))

pub loop-w-preserved : goal.loop-w-preserved
loop-w-preserved c = λ j f l. none_more c.args.self.now.words.items c.args.from c.loop-w.w 64 (omega arith)
    c.loop-w.invariant
    (λ i b. ap (λ (ws : List ℕ). bit_at (get_or ws c.loop-w.w 0) i) (sym c.as_slice-words.ensures.value)
    ∙ ap (λ x. bit_at x i) c.if-word-ne0.false ∙ bit_at-zero i) j f (omega (arith, l))
