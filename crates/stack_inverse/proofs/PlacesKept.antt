-- The marks of places after a pivot.
use Rattle.std.proofs.Common.{◌≡◌, ◌≢◌, refl, sym, ap, subst, ◌∙◌, ℕ, suc, ◌<◌, ◌≤◌, Bool, true, false, cond, eqb}
use Rattle.std.proofs.Common.{List, length, ◌/◌, arith, ℤ, pos, Result, Ok, Err, OnOk, is_ok}
use Rattle.std.proofs.lemmas.Bool.Decides.{nat_tests}
use lib.IntN.{ℤ_discrete}
use Rattle.stack_rational.proofs.Common.{ℕ_discrete}
use Rattle.stack_inverse.specs.declared.first.First.{First}
use Rattle.stack_inverse.specs.declared.marking.Marking.{Marking}
use Rattle.stack_rows.specs.declared.marks.Marks.{Marks}
use Rattle.stack_inverse.specs.declared.to_visit.ToVisit.{ToVisit}
use Rattle.stack_rows.specs.RowForm.{number_at}
use Rattle.stack_inverse.specs.RowBlock.{KeepsZeros}
use Rattle.stack_inverse.specs.Columns.{RowSeen, multipliers}
use Rattle.stack_inverse.specs.RowsSeen.{number_in_row}
use Rattle.stack_inverse.specs.FirstTable.{AreFilled, load_at}
use Rattle.stack_rows.specs.Marks.{mark_in}
use Rattle.stack_inverse.specs.Marks.{mark_at, ArePlaces, AreUses, AreClean}
use Rattle.stack_inverse.specs.Marking.{AreMarks, AreMarkedOn, IsMarkedOn}

-- whether a number is 0
zero_or_not : (n : ℤ) → Dec (n ≡ pos 0)
zero_or_not n = ℤ_discrete n (pos 0)

-- a place without a mark has nothing after a pivot in row r
pub places_kept : (m r : ℕ) (s t : ℕ → RowSeen) (old new : Marking) (f : ℕ → ℤ) →
    AreMarkedOn (t r).numbers old new → length old.places.items ≡ multipliers m →
    ((q : ℕ) → number_at (s r).numbers q ≡ pos 0 → number_at (t r).numbers q ≡ pos 0) →
    ((i : ℕ) → i ≤ m → i ≢ r → KeepsZeros (s i).numbers (t r).numbers (f i) (t i).numbers) →
    ((i : ℕ) → i ≤ m → mark_in old.to_visit.touched.words.items i ≡ 0 → f i ≡ pos 0) →
    ArePlaces old.places.items m s → ArePlaces new.places.items m t
places_kept m r s t old new f k few own each told was i q li lq z =
    go (ℕ_discrete i r) (zero_or_not (number_at (t r).numbers q))
  where
    before : number_at (s i).numbers q ≡ pos 0
    before = was i q li lq (k.places_kept q i z)

    go : Dec (i ≡ r) → Dec (number_at (t r).numbers q ≡ pos 0) → number_at (t i).numbers q ≡ pos 0
    go (yes p) d = ap (λ n. number_at (t n).numbers q) p ∙ own q (ap (λ n. number_at (s n).numbers q) (sym p) ∙ before)
    go (no n) (yes p) = (each i (omega (arith, li)) n).both q before p
    go (no n) (no d) = (each i (omega (arith, li)) n).bare
        (told i (omega (arith, li)) (k.joined q i (omega (arith, lq, few)) d z)) q before

-- the marks after a pivot; where it wasn't done all is marked, and nothing is told
pub marks_after : (f : First) (s t : ℕ → RowSeen) (old new : Marking) (row : List ℤ) (b : Bool) →
    IsMarkedOn b row old new → AreMarks f s old → (b ≡ true → ArePlaces new.places.items f.rows t) →
    (b ≡ true → (i : ℕ) → i ≤ f.rows → (t i).fits ≡ true) →
    (b ≡ true → AreClean (number_in_row f (t f.rows)) (length f.columns.items) new.«open».words.items) →
    AreMarks f t new
marks_after f s t old new row b h k told fits clean = record {
  places_long = few;
  touched_long = touched;
  open_long = room;
  told = either b told (λ e i q li lq z.
      let wide : f.rows / 64 < length new.to_visit.touched.words.items = omega (arith, touched) in
      absurd (omega (arith, (h.full e).each_place q i (omega (arith, lq, few)) (omega (arith, li, wide)), z)));
  used = subst (λ us. AreUses us f.columns.items) (sym h.uses) k.used;
  each_fits = λ e. fits (sym (ap (λ (v : ToVisit). v.all_fit) h.to_visit) ∙ e);
  clean = either b clean (λ e j l z.
      let wide : length f.columns.items / 64 < length new.«open».words.items = omega (arith, room) in
      absurd (omega (arith, (h.full e).each_mark j (omega (arith, l, wide)), z)));
}
  where
    few : length new.places.items ≡ multipliers f.rows
    few = h.places_long ∙ k.places_long

    touched : length new.to_visit.touched.words.items ≡ suc (suc f.rows / 64)
    touched = ap (λ (v : ToVisit). length v.touched.words.items) h.to_visit ∙ k.touched_long

    room : length new.«open».words.items ≡ suc (length f.columns.items / 64)
    room = h.open_long ∙ k.open_long

    either : {P : Type 0} (b : Bool) → (b ≡ true → P) → (b ≡ false → P) → P
    either true t f = t refl
    either false t f = f refl

-- a first row has something in its own artificial column alone
pub first_told : (m : ℕ) (right : List ℤ) (s : ℕ → RowSeen) (places : List Marks) → AreFilled m right s →
    ((r : ℕ) → r < multipliers m → mark_at places r r ≢ 0) → ArePlaces places m s
first_told m right s places f d i r li lr z = (f.rows i li).number r ∙ bare
  where
    off : r ≢ i
    off e = d r lr (subst (λ n. mark_at places r n ≡ 0) (sym e) z)

    bare : cond (eqb r (multipliers m)) (load_at right i) (cond (eqb r i) (pos 1) (pos 0)) ≡ pos 0
    bare = grind (arith, nat_tests, off)

-- a pivot that is done gives what is told of it
pub ok_gives : {T E P : Type 0} (r : Result T E) (b : Bool) → b ≡ is_ok r → OnOk r P → b ≡ true → P
ok_gives (Ok x) b e h t = h
ok_gives (Err x) b e h t = let f : false ≡ true = sym e ∙ t in absurd cc
