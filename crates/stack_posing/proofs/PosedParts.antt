-- The parts of the problem of a survey as they are made, block by block and bearing by bearing.
use Rattle.std.proofs.Common.{◌≡◌, refl, sym, ap, subst, ◌∙◌, ℕ, zero, suc, ◌+◌, ◌*◌, ◌<◌, ◌≤◌, true, false, List, []}
use Rattle.std.proofs.Common.{◌∷◌, ◌++◌, map, length, get_or, eqb, arith, neg_ℤ, ◌/◌, ◌%◌}
use Rattle.std.specs.List.{AllByRecursion}
use Rattle.std.proofs.lemmas.List.{get_or_append_left, get_or_push, length-append, length-map, map-append}
use native.Mathlib.Decide.{dec_le}
use lib.IntN.{ℤ, pos, negsuc}
use Rattle.stack_equilibrium.proofs.Common.{IsBelowBound, IsSmall, Surveyed, Wrench, body_number, frees_of, listed}
use Rattle.stack_equilibrium.proofs.Common.{scene_of}
use Rattle.stack_algebra.proofs.Listed.{listed_more}
use Rattle.stack_equilibrium.specs.declared.types.Question.TheVariants.{Dead}
use Rattle.stack_equilibrium.specs.Answers.{body_in}
use Rattle.stack_posing.specs.Edges.{edge_on}
use Rattle.stack_posing.specs.ByNumber.{dead_on}
use Rattle.stack_table.specs.declared.problem.Column.{Column}
use Rattle.stack_table.specs.declared.problem.Entry.{Entry}
use Rattle.stack_posing.specs.Posed.{share, row_share, right_share, column_on}
use Rattle.stack_posing.specs.Entries.{AreEntries, with_wrench, opposites}
use Rattle.stack_posing.specs.Columns.{rows_of, entries_of, AreColumns}
use Rattle.stack_posing.proofs.SurveyEntries.{row_is, edge_is}
use Rattle.stack_posing.proofs.GrowingEntries.{one_block}

-- the rows of free block b, of a wrench on each body
pub record BlockRows (v : Surveyed) (w : ℕ → Wrench) (b : ℕ) (r : Wrench) : Type 0 where
  pub x : row_share (scene_of v) w (3 * b) ≡ r.fx
  pub y : row_share (scene_of v) w (3 * b + 1) ≡ r.fy
  pub m : row_share (scene_of v) w (3 * b + 2) ≡ r.m

pub block_rows : (v : Surveyed) (w : ℕ → Wrench) (b : ℕ) (r : Wrench) → b < length (frees_of v.structure.bodies)
    → r ≡ w (body_number v b) → BlockRows v w b r
block_rows v w b r l e = record {
  x = ap (row_share (scene_of v) w) at_zero ∙ row_is v b 0 l (omega arith) w ∙ ap (share 0) (sym e);
  y = row_is v b 1 l (omega arith) w ∙ ap (share 1) (sym e);
  m = row_is v b 2 l (omega arith) w ∙ ap (share 2) (sym e);
}
  where
    at_zero : 3 * b ≡ 3 * b + 0
    at_zero = omega arith

-- a column with one more free block
pub next_block : (v : Surveyed) (w : ℕ → Wrench) (b : ℕ) (xs new : List Entry) (r : Wrench)
    → b < length (frees_of v.structure.bodies) → r ≡ w (body_number v b) → IsSmall r → new ≡ with_wrench xs b r
    → AreEntries (3 * b) (row_share (scene_of v) w) xs → AreEntries (3 * (b + 1)) (row_share (scene_of v) w) new
next_block v w b xs new r l e s made h =
    let rows = block_rows v w b r l e in
    subst (AreEntries (3 * (b + 1)) (row_share (scene_of v) w)) (sym made)
    (one_block b (row_share (scene_of v) w) xs r h rows.x rows.y rows.m s)

-- three right sides more
three_more : (n : ℕ) (f : ℕ → ℤ) → listed (3 * (n + 1)) f
    ≡ listed (3 * n) f ++ f (3 * n) ∷ f (3 * n + 1) ∷ f (3 * n + 2) ∷ []
three_more n f = ap (λ k. listed k f) last
    ∙ listed_more (3 * n + 2) f
    ∙ ap (λ xs. xs ++ f (3 * n + 2) ∷ []) (ap (λ k. listed k f) middle ∙ listed_more (3 * n + 1) f
    ∙ ap (λ xs. xs ++ f (3 * n + 1) ∷ []) (ap (λ k. listed k f) first ∙ listed_more (3 * n) f))
    ∙ gathered (listed (3 * n) f) (f (3 * n)) (f (3 * n + 1)) (f (3 * n + 2))
  where
    last : 3 * (n + 1) ≡ suc (3 * n + 2)
    last = omega arith

    middle : 3 * n + 2 ≡ suc (3 * n + 1)
    middle = omega arith

    first : 3 * n + 1 ≡ suc (3 * n)
    first = omega arith

    gathered : (xs : List ℤ) (a b c : ℤ) → ((xs ++ a ∷ []) ++ b ∷ []) ++ c ∷ [] ≡ xs ++ a ∷ b ∷ c ∷ []
    gathered [] a b c = refl
    gathered (x ∷ xs) a b c = ap (λ ys. x ∷ ys) (gathered xs a b c)

pub opposite_small : (z : ℤ) → IsBelowBound z → IsBelowBound (neg_ℤ z)
opposite_small (pos zero) h = h
opposite_small (pos (suc n)) h = h
opposite_small (negsuc n) h = h

all_more : (xs : List ℤ) (w : Wrench) → AllByRecursion IsBelowBound xs → IsSmall w
    → AllByRecursion IsBelowBound (xs ++ opposites w)
all_more [] w h s = (opposite_small w.fx s.fx, (opposite_small w.fy s.fy, (opposite_small w.m s.m, tt)))
all_more (x ∷ xs) w h s = (h.0, all_more xs w h.1 s)

pub next_right : (v : Surveyed) (b : ℕ) (xs new : List ℤ) (r : Wrench) → b < length (frees_of v.structure.bodies)
    → r ≡ (body_in v (body_number v b)).dead → IsSmall r → new ≡ xs ++ opposites r
    → (xs ≡ listed (3 * b) (right_share (scene_of v))) × AllByRecursion IsBelowBound xs
    → (new ≡ listed (3 * (b + 1)) (right_share (scene_of v))) × AllByRecursion IsBelowBound new
next_right v b xs new r l e s made h = (
  made ∙ (λ i. h.0 i ++ neg_ℤ (sym rows.x i) ∷ neg_ℤ (sym rows.y i) ∷ neg_ℤ (sym rows.m i) ∷ [])
      ∙ sym (three_more b (right_share (scene_of v))),
  subst (AllByRecursion IsBelowBound) (sym made) (all_more xs r h.1 s),
)
  where
    rows : BlockRows v (dead_on (scene_of v)) b r
    rows = block_rows v (dead_on (scene_of v)) b r l e

-- a list of columns with one more
entries_before : (cs : List Column) (c : Column) (j : ℕ) → j < length cs → entries_of (cs ++ c ∷ []) j ≡ entries_of cs j
entries_before cs c j l = ap (λ xs. get_or xs j []) (map-append (λ (c : Column). c.entries.items) cs (c ∷ []))
    ∙ get_or_append_left (map (λ (c : Column). c.entries.items) cs) (c.entries.items ∷ []) [] j
    (subst (λ n. j < n) (sym (length-map cs (λ (c : Column). c.entries.items))) l)

entries_last : (cs : List Column) (c : Column) (j : ℕ) → length cs ≡ j → entries_of (cs ++ c ∷ []) j ≡ c.entries.items
entries_last cs c j e = ap (λ xs. get_or xs j []) (map-append (λ (c : Column). c.entries.items) cs (c ∷ []))
    ∙ get_or_push (map (λ (c : Column). c.entries.items) cs) c.entries.items [] j
    (length-map cs (λ (c : Column). c.entries.items) ∙ e)

one_longer : (cs : List Column) (c : Column) → length (cs ++ c ∷ []) ≡ suc (length cs)
one_longer cs c = let h = length-append cs (c ∷ []) in omega (arith, h)

abbrev Entered : Surveyed → ℕ → List Entry → Type 0
Entered v j xs = AreEntries (rows_of v) (row_share (scene_of v) (column_on Dead (scene_of v) j)) xs

-- the column of an edge as the problem has it
edge_column_is : (v : Surveyed) (j k t : ℕ) (xs : List Entry) → j < 2 * length v.bearings → ◌≡◌ {A = ℕ} (j / 2) k
    → (j % 2) ≡ t
    → AreEntries (rows_of v) (row_share (scene_of v) (edge_on (scene_of v) (eqb t 0) k)) xs → Entered v j xs
edge_column_is v j k t xs l e f h =
    subst (λ (w : ℕ → Wrench). AreEntries (rows_of v) (row_share (scene_of v) w) xs)
    (λ n i. sym (edge_is v Dead j k t i l e f) n) h

pub next_bearing : (v : Surveyed) (k : ℕ) (cs one new : List Column) (c d : Column) → k < length v.bearings
    → one ≡ cs ++ c ∷ [] → new ≡ one ++ d ∷ []
    → AreEntries (rows_of v) (row_share (scene_of v) (edge_on (scene_of v) true k)) c.entries.items
    → AreEntries (rows_of v) (row_share (scene_of v) (edge_on (scene_of v) false k)) d.entries.items
    → AreColumns v k cs → AreColumns v (k + 1) new
next_bearing v k cs one new c d l first second plus minus h = subst (AreColumns v (k + 1))
    (sym (second ∙ ap (λ xs. xs ++ d ∷ []) first))
    (record {
      count = let a = one_longer (cs ++ c ∷ []) d in let b = one_longer cs c in let e = h.count in omega
          (arith, a, b, e);
      columns = λ j m. go j m (dec_le (suc j) (2 * k)) (dec_le (suc j) (suc (2 * k)));
    })
  where
    go : (j : ℕ) → j < 2 * (k + 1) → Dec (suc j ≤ 2 * k) → Dec (suc j ≤ suc (2 * k))
        → Entered v j (entries_of ((cs ++ c ∷ []) ++ d ∷ []) j)
    go j m (yes p) q = subst (Entered v j)
        (sym (entries_before (cs ++ c ∷ []) d j (let a = one_longer cs c in let e = h.count in omega (arith, a, e, p))
        ∙ entries_before cs c j (let e = h.count in omega (arith, e, p))))
        (h.columns j p)
    go j m (no p) (yes q) = subst (Entered v j)
        (sym (entries_before (cs ++ c ∷ []) d j (let a = one_longer cs c in let e = h.count in omega (arith, a, e, q))
        ∙ entries_last cs c j (let e = h.count in omega (arith, e, p, q))))
        (edge_column_is v j k 0 c.entries.items (omega (arith, l, m))
        (omega (arith, p, q)) (omega (arith, p, q)) plus)
    go j m (no p) (no q) = subst (Entered v j)
        (sym (entries_last (cs ++ c ∷ []) d j (let a = one_longer cs c in let e = h.count in omega
        (arith, a, e, m, q))))
        (edge_column_is v j k 1 d.entries.items (omega (arith, l, m))
        (omega (arith, m, q)) (omega (arith, m, q)) minus)
