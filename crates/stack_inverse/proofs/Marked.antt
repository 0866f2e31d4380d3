-- Lists of marks, one of which is read or written.
use Rattle.std.proofs.Common.{◌≡◌, ◌≢◌, sym, ap, subst, ◌∙◌, ℕ, suc, ◌<◌, List, [], ◌∷◌, length, length-set}
use Rattle.std.proofs.Common.{get_or, set, arith, pos}
use Rattle.std.proofs.lemmas.List.{length_push}
use Rattle.std.specs.List.{AllByRecursion}
use Rattle.stack_rational.proofs.Common.{ℕ_discrete, get_or-map}
use Rattle.stack_rows.proofs.Items.{at-set_same, at-set_other}
use Rattle.stack_inverse.specs.declared.columns.Cell.{Cell}
use Rattle.stack_rows.specs.declared.marks.Marks.{Marks}
use Rattle.stack_rows.specs.declared.pivot.Pivot.{Pivot}
use Rattle.stack_rows.specs.RowForm.{number_at}
use Rattle.stack_rows.specs.EntriesSeen.{entries_of}
use Rattle.stack_rows.specs.RowSeen.{numbers_of}
use Rattle.stack_rows.proofs.Sided.{before_is}
use Rattle.stack_inverse.specs.Marks.{list_at, HaveWords}

-- the words of a list
abbrev words_of : Marks → List ℕ
words_of marks = marks.words.items

-- a list that is lent
pub list_lent : (lists : List Marks) (r : ℕ) (d : Marks) → r < length lists →
    (get_or lists r d).words.items ≡ list_at lists r
list_lent lists r d lt = sym (get_or-map words_of lists r d [] lt)

-- and one that is read
pub list_read : (lists : List Marks) (r : ℕ) (x : Marks) → r < length lists → x ≡ get_or lists r x →
    x.words.items ≡ list_at lists r
list_read lists r x lt is = ap words_of is ∙ list_lent lists r x lt

-- what follows of a row follows at all cells
pub all_have : (P Q : ℕ → Type 0) (xs : List Cell) → ((r : ℕ) → P r → Q r) → AllByRecursion (λ x. P x.row) xs →
    AllByRecursion (λ x. Q x.row) xs
all_have P Q [] h all = tt
all_have P Q (x ∷ xs) h all = (h x.row all.0, all_have P Q xs h all.1)

module _ (lists : List Marks) (r : ℕ) (d new : Marks) {now : List Marks} (lt : r < length lists)
    (long : length new.words.items ≡ length (get_or lists r d).words.items) (put : now ≡ set lists r new) where
  -- what holds of list r, which is written, and of another
  pub list_put : (P : ℕ → List ℕ → Type 0) (k : ℕ) → (k ≢ r → P k (list_at lists k)) → P r new.words.items →
      P k (list_at now k)
  list_put P k other own = subst (λ ls. P k (list_at ls k)) (sym put) (elim (ℕ_discrete k r) [
    | yes e ↦ subst (λ j. P j (list_at after j)) (sym e)
        (subst (P r) (sym (at-set_same words_of [] lists r new lt)) own)
    | no n ↦ subst (P k) (sym (at-set_other words_of [] lists r k new n)) (other n)
  ])
    where
      after : List Marks
      after = set lists r new

  -- all are as long as before
  pub wide_put : (w : ℕ) → HaveWords lists w → HaveWords now w
  wide_put w h k l = list_put (λ _ m. length m ≡ w) k (λ _. h k (omega (arith, l, ap length put, length-set lists r)))
      (long ∙ ap length (list_lent lists r d lt) ∙ h r lt)

-- places that a pivot row lists, of which there are at most n
module _ (p : Pivot) (n : ℕ) (long : length (numbers_of p.row) ≡ suc n) where
  pub listed_in : (a : ℕ) → a < p.listed → get_or p.list.items a 0 < n
  listed_in a l = omega (
    arith,
    p.places.within a l,
    ap length p.same,
    long,
    length_push (entries_of p.row.entries) p.row.right,
  )

  -- what follows for each listed place follows for one with something
  pub each_listed : {P : Type 0} (r : ℕ) → r < n → number_at (numbers_of p.row) r ≢ pos 0 → Dec P →
      ((a : ℕ) → a < p.listed → get_or p.list.items a 0 ≡ r → P) → P
  each_listed r l h (yes x) f = x
  each_listed r l h (no d) f = absurd (h (before_is (entries_of p.row.entries) p.row.right r
      (omega (arith, l, long, length_push (entries_of p.row.entries) p.row.right))
      ∙ ap (λ xs. number_at xs r) (sym p.same) ∙ p.places.others r (λ a b e. d (f a b e))))
