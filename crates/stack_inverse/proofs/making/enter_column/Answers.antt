use Rattle.std.proofs.Common.{◌≡◌, ◌≢◌, refl, sym, ap, ◌∙◌, ℕ, ◌+◌, ◌<◌, ◌≤◌, set, length, List, arith, rules}
use Rattle.std.proofs.Common.{SFits, to_z, of_z, to_z-of_z, unsigned_abs, pos, ℤ, inl, inr}
use Rattle.std.specs.List.{AllByRecursion}
use Rattle.std.proofs.lemmas.Bool.{cases_lt}
use Rattle.stack_rational.proofs.Common.{w128, widest, ℕ_discrete}
use Rattle.stack_rows.specs.RowForm.{number_at}
use Rattle.stack_rows.proofs.Numbers.{at-set_same, at-set_other, done_more}
use Rattle.stack_inverse.specs.declared.first.First.{First}
use Rattle.stack_inverse.specs.declared.row.TableRow.{TableRow}
use Rattle.stack_rows.specs.Marks.{mark_in}
use Rattle.stack_inverse.specs.Columns.{RowSeen, multipliers, cells_at}
use Rattle.stack_inverse.specs.RowsSeen.{seen_at, number_in_row}
use Rattle.stack_inverse.proofs.Made.{nothing_made}
use Rattle.stack_inverse.proofs.PutRow.{seen_get, width_get}
use Rattle.stack_inverse.proofs.making.enter_column.Goals as goal

-- a row without a mark has 0 in the column
bare : (f : First) (rows : List TableRow) (words : List ℕ) (column k : ℕ) → column < length f.columns.items →
    ((i : ℕ) → i < f.rows → mark_in words i ≡ 0 → AllByRecursion (λ x.
    number_at (seen_at rows i).numbers x.row ≡ pos 0) (cells_at f.columns.items column)) → k < f.rows →
    mark_in words k ≡ 0 → pos 0 ≡ number_in_row f (seen_at rows k) column
bare f rows words column k lt nothing l z = nothing_made f.rows f.columns.items (seen_at rows k).numbers column lt
    (f.first.rising column lt) (nothing k l z)

pub sized_number-requires-clause-width : goal.sized_number-requires-clause-width
sized_number-requires-clause-width c = width_get c.args.first.now.rows c.args.rows.now c.loop-i.i
    c.index-rows-i.result c.requires.height (omega (arith, c.loop-i-test.true, c.requires.height)) c.requires.widths
    c.index-rows-i.is

pub loop-i-init : goal.loop-i-init
loop-i-init c =
    let p = c.args.first.now in
    let m = p.rows in
    let next = c.next-i.ensures in
    let marks = c.put.new.self.words.items in
    let clear = c.clear_row.ensures in
    let ahead : (k : ℕ) → mark_in marks k ≡ 0 → (k ≢ m) × (mark_in c.args.marks.now.words.items k ≡ 0) = λ k z.
    let apart : k ≢ m = λ e. omega (arith, c.put.ensures.here, ap (λ n. mark_in marks n) (sym e) ∙ z) in
    (apart, sym (c.put.ensures.others k apart) ∙ z) in
    record {
      long = c.put.ensures.long ∙ c.requires.marks_long;
      within = next.within;
      numbers = λ k l.
          let a = ahead k (next.none k (omega arith) l) in
          clear k ∙ bare p c.args.rows.now c.args.marks.now.words.items c.args.column k c.requires.column_in
          c.requires.nothing (omega (arith, a.0, l, next.within, c.requires.height)) a.1;
      fit = λ k l. omega (arith, ap unsigned_abs (clear k));
      right_fits = λ k l n. absurd (n (clear k));
      told = λ k l z. clear k;
      rest = λ k l. clear k;
      ahead = λ k l. ahead k;
    }

pub loop-i-preserved : goal.loop-i-preserved
loop-i-preserved c =
    let p = c.args.first.now in
    let m = p.rows in
    let rows = c.args.rows.now in
    let xs = c.loop-i.entered in
    let i = c.loop-i.i in
    let inv = c.loop-i.invariant in
    let number = c.in_ok-number.number in
    let told = c.in_ok-number.ensures in
    let next = c.next-i-in-loop-i.ensures in
    let marks = c.note.new.self.words.items in
    let fits : SFits w128 number = search rules in
    let z : ℤ = to_z w128 (of_z w128 number) in
    let room : i < length xs = omega (
      arith,
      c.loop-i-test.true,
      c.loop-i.auto.entered,
      c.requires.long,
      c.requires.height,
    ) in
    let same : number_at (set xs i z) i ≡ number = at-set_same xs i z room ∙ to_z-of_z fits in
    let seen = seen_get rows i c.index-rows-i.result (search rules) c.index-rows-i.is in
    let here : number_at (set xs i z) i ≡ number_in_row p (seen_at rows i) c.args.column = same ∙ told.number
    ∙ ap (λ (s : RowSeen). number_in_row p s c.args.column) seen in
    let stays : (k : ℕ) → k ≢ i → number_at (set xs i z) k ≡ number_at xs k = λ k n. at-set_other xs i k z n in
    let ahead : (k : ℕ) → i + 1 ≤ k → mark_in marks k ≡ 0 → (k ≢ m) × (mark_in c.args.marks.now.words.items k ≡ 0) =
    λ k l q. inv.ahead k (omega (arith, l)) (sym (c.note.ensures.others k (λ e. omega (arith, e, l))) ∙ q) in
    let rest : (k : ℕ) → i + 1 ≤ k → number_at (set xs i z) k ≡ pos 0 =
    λ k l. stays k (λ e. omega (arith, e, l)) ∙ inv.rest k (omega (arith, l)) in
    record {
      long = c.note.ensures.long ∙ inv.long;
      within = next.within;
      numbers = λ k l. elim (cases_lt k (i + 1)) [
        | inl b ↦ done_more (λ k n. n ≡ number_in_row p (seen_at rows k) c.args.column) (number_at xs)
            (number_at xs) (number_at (set xs i z)) i inv.numbers (λ _ _. refl) here stays k (omega (arith, b))
        | inr b ↦
            let a = ahead k b (next.none k b l) in
            rest k b ∙ bare p rows c.args.marks.now.words.items c.args.column k c.requires.column_in
            c.requires.nothing (omega (arith, a.0, l, next.within, c.requires.height)) a.1
      ];
      fit = λ k l. elim (cases_lt k (i + 1)) [
        | inl b ↦ done_more (λ k n. unsigned_abs n ≤ unsigned_abs widest) (number_at xs) (number_at xs)
            (number_at (set xs i z)) i inv.fit (λ _ _. refl) (omega (arith, ap unsigned_abs same, told.fit)) stays k
            (omega (arith, b))
        | inr b ↦ omega (arith, ap unsigned_abs (rest k b))
      ];
      right_fits = λ k l. elim (cases_lt k (i + 1)) [
        | inl b ↦ done_more (λ k n. n ≢ pos 0 → unsigned_abs (number_at (seen_at rows k).numbers (multipliers m))
            ≤ unsigned_abs widest) (number_at xs) (number_at xs) (number_at (set xs i z)) i inv.right_fits
            (λ _ _. refl) (λ _. omega (
              arith,
              ap (λ (s : RowSeen). unsigned_abs (number_at s.numbers (multipliers m))) seen,
              told.right_fits,
            )) stays k (omega (arith, b))
        | inr b ↦ λ n. absurd (n (rest k b))
      ];
      told = λ k l q. elim (cases_lt k (i + 1)) [
        | inl b ↦ elim (ℕ_discrete k i) [
          | yes e ↦ ap (λ n. number_at (set xs i z) n) e ∙ at-set_same xs i z room
              ∙ c.note.ensures.here (ap (λ n. mark_in marks n) (sym e) ∙ q)
          | no n ↦ stays k n ∙ inv.told k (omega (arith, b, n)) (sym (c.note.ensures.others k n) ∙ q)
        ]
        | inr b ↦ rest k b
      ];
      rest = λ k l. rest k (omega (arith, l, next.later));
      ahead = λ k l. ahead k (omega (arith, l, next.later));
    }

pub returns-clause-numbers : goal.returns-clause-numbers
returns-clause-numbers c = λ k l. c.loop-i.invariant.numbers k (omega (
  arith,
  l,
  c.loop-i-test.false,
  c.requires.height,
))

pub returns-clause-fit : goal.returns-clause-fit
returns-clause-fit c = λ k l. c.loop-i.invariant.fit k (omega (arith, l, c.loop-i-test.false, c.requires.height))

pub returns-clause-right_fits : goal.returns-clause-right_fits
returns-clause-right_fits c = λ k l. c.loop-i.invariant.right_fits k (omega (
  arith,
  l,
  c.loop-i-test.false,
  c.requires.height,
))

pub returns-clause-told : goal.returns-clause-told
returns-clause-told c = λ k l. c.loop-i.invariant.told k (omega (arith, l, c.loop-i-test.false, c.requires.height))
