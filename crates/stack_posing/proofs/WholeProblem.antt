-- The parts together are the problem of the survey, and meet the condition of a table.
use Rattle.std.proofs.Common.{◌≡◌, refl, sym, ap, subst, ◌∙◌, ℕ, zero, suc, ◌*◌, ◌<◌, ◌≤◌, ◌%◌, Bool, true, false}
use Rattle.std.proofs.Common.{List, [], ◌∷◌, length, get_or, cond, eqb, ltb, arith, Option, Some, None, Vec, ◌/◌}
use Rattle.std.proofs.Common.{lt-ltb, le-ltb, eq-eqb, T, ℤ, pos}
use Rattle.std.specs.declared.alloc.Global.{Global}
use Rattle.std.specs.List.{AllByRecursion}
use native.Mathlib.Decide.{ℕ_discrete, dec_le}
use Rattle.stack_equilibrium.proofs.Common.{IsBelowBound, Surveyed, Wrench, frees_of, length_listed, listed}
use Rattle.stack_equilibrium.proofs.Common.{most_bearings, most_free, scene_of}
use Rattle.stack_equilibrium.specs.declared.types.Question.{Question}
use Rattle.stack_equilibrium.specs.declared.types.Question.TheVariants.{Dead, Live}
use Rattle.stack_posing.specs.FreeBodies.{free_bodies}
use Rattle.stack_posing.specs.Edges.{edge_on}
use Rattle.stack_posing.specs.ByNumber.{live_on}
use Rattle.stack_table.specs.declared.problem.Column.{Column}
use Rattle.stack_table.specs.declared.problem.Entry.{Entry}
use Rattle.stack_table.specs.declared.problem.Problem.{Problem as Lent}
use Rattle.stack_table.specs.Lent.{entry_in, factor_count, factor_entries, entries_at, problem_of, IsColumn, IsProblem}
use Rattle.stack_table.specs.Sound.{is_column}
use Rattle.stack_table.proofs.SoundProblem.{column_is}
use Rattle.stack_posing.specs.Posed.{share, row_share, right_share, no_wrench, factors_of, factor_on, column_on, posed}
use Rattle.stack_posing.specs.Entries.{AreEntries, AreSomething}
use Rattle.stack_posing.specs.Columns.{rows_of, entries_of, AreColumns, AreFactorEntries, IsLean}
use Rattle.stack_posing.proofs.SurveyEntries.{counted, factor_is}
use Rattle.stack_posing.proofs.GrowingEntries.{not_equal}

abbrev pub parts : ℕ → Vec Column Global → Option Column → Vec ℤ Global → Lent
parts n cs o rs = record { rows = 3 * n; contact = cs; factor = o; right = rs }

no_share : (a : ℕ) → share a no_wrench ≡ pos 0
no_share zero = refl
no_share (suc zero) = refl
no_share (suc (suc a)) = refl

-- a list of the first values, 0 past its end
pub listed_or : (n : ℕ) (f : ℕ → ℤ) (i : ℕ) → get_or (listed n f) i (pos 0) ≡ cond (ltb i n) (f i) (pos 0)
listed_or zero f i = sym (ap (λ t. cond t (f i) (pos 0)) (le-ltb i 0 (omega arith)))
listed_or (suc n) f zero = sym (ap (λ t. cond t (f 0) (pos 0)) (lt-ltb 0 (suc n) (omega arith)))
listed_or (suc n) f (suc i) = listed_or n (λ k. f (suc k)) i ∙ same (dec_le (suc i) n)
  where
    same : Dec (suc i ≤ n) → cond (ltb i n) (f (suc i)) (pos 0) ≡ cond (ltb (suc i) (suc n)) (f (suc i)) (pos 0)
    same (yes l) = (λ k. cond (lt-ltb i n l k) (f (suc i)) (pos 0))
        ∙ sym (λ k. cond (lt-ltb (suc i) (suc n) (omega (arith, l)) k) (f (suc i)) (pos 0))
    same (no d) = (λ k. cond (le-ltb i n (omega (arith, d)) k) (f (suc i)) (pos 0))
        ∙ sym (λ k. cond (le-ltb (suc i) (suc n) (omega (arith, d)) k) (f (suc i)) (pos 0))

factors_are : (q : Question) (v : Surveyed) (o : Option Column) → AreFactorEntries q v o → factor_count o ≡ factors_of q
factors_are Dead v o h = ap factor_count h
factors_are Live v None h = absurd h
factors_are Live v (Some c) h = refl

module _ (v : Surveyed) where
  -- the value that the problem has in row a, of a wrench on each body
  abbrev placed : (ℕ → Wrench) → ℕ → ℤ
  placed w a = cond (ltb a (3 * free_bodies (scene_of v))) (row_share (scene_of v) w a) (pos 0)

  rows_are : rows_of v ≡ 3 * free_bodies (scene_of v)
  rows_are = ap (λ n. 3 * n) (sym (counted v))

  entered : (w : ℕ → Wrench) (xs : List Entry) → AreEntries (rows_of v) (row_share (scene_of v) w) xs → (a : ℕ)
      → entry_in xs a ≡ placed w a
  entered w xs h a = h.values a ∙ (λ i. cond (ltb a (rows_are i)) (row_share (scene_of v) w a) (pos 0))

  unloaded : (w : ℕ → Wrench) (a : ℕ) → ((i : ℕ) → w i ≡ no_wrench) → pos 0 ≡ placed w a
  unloaded w a h = sym ((λ k. cond (ltb a (3 * free_bodies (scene_of v))) (zero_share k) (pos 0))
      ∙ both_ways (ltb a (3 * free_bodies (scene_of v))))
    where
      zero_share : row_share (scene_of v) w a ≡ pos 0
      zero_share = ap (share (a % 3)) (h _) ∙ no_share (a % 3)

      both_ways : (t : Bool) → cond t (pos 0) (pos 0) ≡ pos 0
      both_ways true = refl
      both_ways false = refl

  -- the entries of the factor's column are those that the problem has
  factor_entered : (q : Question) (o : Option Column) → AreFactorEntries q v o → (a : ℕ)
      → entry_in (factor_entries o) a ≡ placed (factor_on q (scene_of v)) a
  factor_entered Dead o h a = ap (λ p. entry_in (factor_entries p) a) h
      ∙ unloaded (factor_on Dead (scene_of v)) a (λ i. refl)
  factor_entered Live None h a = absurd h
  factor_entered Live (Some c) h a = entered (live_on (scene_of v)) c.entries.items h a

  -- for a contact column both questions have the same
  contact_same : (q : Question) (j : ℕ) → j < 2 * length v.bearings → (i : ℕ)
      → column_on Dead (scene_of v) j i ≡ column_on q (scene_of v) j i
  contact_same q j l i = plain Dead ∙ sym (plain q)
    where
      plain : (p : Question) → column_on p (scene_of v) j i ≡ edge_on (scene_of v) (eqb (j % 2) 0) (j / 2) i
      plain p = ap (λ t. cond t (edge_on (scene_of v) (eqb (j % 2) 0) (j / 2) i)
          (cond (eqb j (2 * length v.bearings)) (factor_on p (scene_of v) i) no_wrench))
          (lt-ltb j (2 * length v.bearings) l)

  -- past the columns of a problem no wrench stands
  none_past : (q : Question) (j : ℕ) → 2 * length v.bearings < j → (i : ℕ) → column_on q (scene_of v) j i ≡ no_wrench
  none_past q j l i = (λ n. cond (le-ltb j (2 * length v.bearings) (omega (arith, l)) n)
      (edge_on (scene_of v) (eqb (j % 2) 0) (j / 2) i)
      (cond (not_equal j (2 * length v.bearings) (λ e. omega (arith, e, l)) n) (factor_on q (scene_of v) i) no_wrench))

  module _ (q : Question) (n : ℕ) (cs : Vec Column Global) (o : Option Column) (rs : Vec ℤ Global)
      (h : AreColumns v (length v.bearings) cs.items) (f : AreFactorEntries q v o) where
    at_column : (j : ℕ) → Dec (suc j ≤ 2 * length v.bearings) → Dec (j ≡ 2 * length v.bearings) → (a : ℕ)
        → entry_in (entries_at (parts n cs o rs) j) a ≡ placed (column_on q (scene_of v) j) a
    at_column j (yes l) e a =
        ap (λ t. entry_in (cond t (entries_of cs.items j) (cond (eqb j (length cs.items)) (factor_entries o) [])) a)
        (lt-ltb j (length cs.items) (let c = h.count in omega (arith, c, l)))
        ∙ entered (column_on Dead (scene_of v) j) (entries_of cs.items j) (h.columns j l) a
        ∙ (λ k. placed (λ i. contact_same q j l i k) a)
    at_column j (no d) (yes e) a =
        (λ k. entry_in (cond (le-ltb j (length cs.items) (let c = h.count in omega (arith, c, e)) k)
        (entries_of cs.items j)
        (cond (eq-eqb j (length cs.items) (e ∙ sym h.count) k) (factor_entries o) [])) a)
        ∙ factor_entered q o f a
        ∙ sym (λ k. placed (λ i. factor_is v q i k) a)
        ∙ sym (λ k. placed (column_on q (scene_of v) (e k)) a)
    at_column j (no d) (no e) a =
        (λ k. entry_in (cond (le-ltb j (length cs.items) (let c = h.count in omega (arith, c, d)) k)
        (entries_of cs.items j)
        (cond (not_equal j (length cs.items) (λ p. e (p ∙ h.count)) k) (factor_entries o) [])) a)
        ∙ unloaded (column_on q (scene_of v) j) a (none_past q j (omega (arith, d, e)))

    pub the_problem : n ≡ length (frees_of v.structure.bodies)
        → rs.items ≡ listed (rows_of v) (right_share (scene_of v)) → problem_of (parts n cs o rs) ≡ posed q (scene_of v)
    the_problem e r = λ i. record {
      shape = record {
        rows = 3 * (e ∙ sym (counted v)) i;
        contacts = h.count i;
        factors = factors_are q v o f i;
      };
      entry = λ a j. at_column j (dec_le (suc j) (2 * length v.bearings)) (ℕ_discrete j (2 * length v.bearings)) a i;
      load = λ a. loads a i;
    }
      where
        loads : (a : ℕ) → get_or rs.items a (pos 0)
            ≡ cond (ltb a (3 * free_bodies (scene_of v))) (right_share (scene_of v) a) (pos 0)
        loads a = ap (λ xs. get_or xs a (pos 0)) r ∙ listed_or (rows_of v) (right_share (scene_of v)) a
            ∙ (λ i. cond (ltb a (rows_are i)) (right_share (scene_of v) a) (pos 0))

  -- the columns of a list, each by its index
  all_columns : (rows : ℕ) (cs : List Column) → ((j : ℕ) → j < length cs → is_column rows 0 (entries_of cs j) ≡ true)
      → AllByRecursion (λ c. IsColumn rows c.entries.items) cs
  all_columns rows [] h = tt
  all_columns rows (c ∷ cs) h =
      (column_is rows c.entries.items (h 0 (omega arith)), all_columns rows cs (λ j l. h (suc j) (omega (arith, l))))

  lean_columns : (cs : List Column) → ((j : ℕ) → j < length cs → AreSomething (entries_of cs j))
      → AllByRecursion (λ c. AreSomething c.entries.items) cs
  lean_columns [] h = tt
  lean_columns (c ∷ cs) h = (h 0 (omega arith), lean_columns cs (λ j l. h (suc j) (omega (arith, l))))

  lean_factor : (q : Question) (o : Option Column) → AreFactorEntries q v o → AreSomething (factor_entries o)
  lean_factor Dead o h = subst (λ p. AreSomething (factor_entries p)) (sym h) tt
  lean_factor Live None h = absurd h
  lean_factor Live (Some c) h = h.something

  pub is_lean : (q : Question) (n : ℕ) (cs : Vec Column Global) (o : Option Column) (rs : Vec ℤ Global)
      → AreColumns v (length v.bearings) cs.items → AreFactorEntries q v o → IsLean (parts n cs o rs)
  is_lean q n cs o rs h f = record {
    contact = lean_columns cs.items (λ j l. (h.columns j (let c = h.count in omega (arith, c, l))).something);
    factor = lean_factor q o f;
  }

  factor_sound : (q : Question) (o : Option Column) → AreFactorEntries q v o → IsColumn (rows_of v) (factor_entries o)
  factor_sound Dead o h = subst (λ p. IsColumn (rows_of v) (factor_entries p)) (sym h) (column_is (rows_of v) [] refl)
  factor_sound Live None h = absurd h
  factor_sound Live (Some c) h = column_is (rows_of v) c.entries.items h.column

  pub the_condition : (q : Question) (n : ℕ) (cs : Vec Column Global) (o : Option Column) (rs : Vec ℤ Global)
      → n ≡ length (frees_of v.structure.bodies) → n ≤ most_free → length v.bearings ≤ most_bearings
      → AreColumns v (length v.bearings) cs.items → AreFactorEntries q v o
      → rs.items ≡ listed (rows_of v) (right_share (scene_of v)) → AllByRecursion IsBelowBound rs.items
      → IsProblem (parts n cs o rs)
  the_condition q n cs o rs e few bearings h f r small = record {
    rows_few = omega (arith, few);
    contacts_few = let c = h.count in omega (arith, c, bearings);
    contact_columns = subst (λ rows. AllByRecursion (λ c. IsColumn rows c.entries.items) cs.items) rows
        (all_columns (rows_of v) cs.items (λ j l. (h.columns j (let c = h.count in omega (arith, c, l))).column));
    factor_column = subst (λ rows. IsColumn rows (factor_entries o)) rows (factor_sound q o f);
    right_long = ap length r ∙ length_listed (rows_of v) (right_share (scene_of v)) ∙ rows;
    right_small = small;
  }
    where
      rows : rows_of v ≡ 3 * n
      rows = ap (λ k. 3 * k) (sym e)
