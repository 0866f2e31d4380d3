-- Phase 2: each pivot takes an artificial column out, so no set of basic columns recurs.
use Rattle.std.proofs.Common.{◌≡◌, refl, sym, ap, subst, ◌∙◌, ℕ, zero, suc, ◌<◌, ◌≤◌, ◌+◌, ◌⊎◌, inl, inr, Bool, true}
use Rattle.std.proofs.Common.{false, cond, leb, not, arith, Option, Some, None, leb-true}
use Rattle.stack_rational.proofs.Common.{ℕ_discrete, Ordered, Tableau, changed-same, changed-other, least-some, none}
use Rattle.stack_rational.specs.declared.exact.Op.{Op}
use Rattle.stack_table.specs.declared.types.PivotWide.{PivotWide}
use Rattle.stack_table.specs.Table.{Shape, Tabled, plain, columns, pivoted_at}
use Rattle.stack_table.specs.Spots.{pivot_spot}
use Rattle.stack_bland.specs.Choice.{is_nought}
use Rattle.stack_run.specs.WrittenRun.{PhaseStop, complete, unlimited, wide_at, spent, after_phase, on_spot}
use Rattle.stack_run.specs.WrittenRun.{driven_column, drive_at, drive_row, drives}
use Rattle.stack_run.specs.BasicSets.{IsBasic, SameSet}
use Rattle.stack_run.specs.Reached.{TakesArtificialOut}
use Rattle.stack_run.proofs.NoBasisRecurs.{distinct}

-- what two equal stops have in common
pub complete-left : {C : Type 0} {l d l' d' : ℕ} {T T' : Tabled C} → complete l d T ≡ complete l' d' T' → l ≡ l'
complete-left e = cc

pub complete-done : {C : Type 0} {l d l' d' : ℕ} {T T' : Tabled C} → complete l d T ≡ complete l' d' T' → d ≡ d'
complete-done e = cc

pub complete-table : {C : Type 0} {l d l' d' : ℕ} {T T' : Tabled C} → complete l d T ≡ complete l' d' T' → T ≡ T'
complete-table e = cc

module _ (F : Ordered) (S : Shape) (is_too_wide : Op → F.C → F.C → Bool) where
  -- what phase 2 makes of a row
  abbrev pub RowDone : ℕ → ℕ → Tabled F.C → ℕ → Tabled F.C → Type 0
  RowDone row d T e U = ((e ≡ d) × (U ≡ T)) ⊎ ((e ≡ suc d) × TakesArtificialOut S row T U)

  -- phase 2 makes this of a row
  pub row_done : (left done : ℕ) (T : Tabled F.C) (i l d : ℕ) (U : Tabled F.C) →
      drive_row F S is_too_wide left done T i ≡ complete l d U → RowDone i done T d U
  row_done left done T i l d U e = go (leb (plain S) (T.basic i)) refl e
    where
      stays : (k : ℕ) → complete k done T ≡ complete l d U → RowDone i done T d U
      stays k e = inl (sym (complete-done e), sym (complete-table e))

      pivots : (k c : ℕ) → plain S ≤ T.basic i → c < plain S →
          complete k (suc done) (pivoted_at F S T i c) ≡ complete l d U → RowDone i done T d U
      pivots k c b lc e = inr (
        sym (complete-done e),
        subst (λ V. TakesArtificialOut S i T V) (complete-table e) (record {
          leaves = b;
          enters = subst (λ z. z < plain S) (sym (changed-same T.basic i c)) lc;
          others = λ k d. changed-other T.basic i c k d;
        }),
      )

      at_spot : (k c : ℕ) → plain S ≤ T.basic i → c < plain S → (o : Option PivotWide) →
          on_spot 2 done (complete k (suc done)) (pivoted_at F S T i c) o ≡ complete l d U →
          RowDone i done T d U
      at_spot k c b lc (Some s) e = absurd cc
      at_spot k c b lc None e = pivots k c b lc e

      at_column : plain S ≤ T.basic i → (k : ℕ) (o : Option ℕ) → driven_column F S T i ≡ o →
          drive_at F S is_too_wide k done T i o ≡ complete l d U → RowDone i done T d U
      at_column b k None p e = stays k e
      at_column b zero (Some c) p e = absurd cc
      at_column b (suc k) (Some c) p e = at_spot k c b
          (least-some (plain S) (λ j. not (is_nought (F.sign (T.cell i j)))) c p).below
          (pivot_spot F is_too_wide S T i c) e

      go : (b : Bool) → leb (plain S) (T.basic i) ≡ b → cond b
          (drive_at F S is_too_wide left done T i (driven_column F S T i)) (complete left done T) ≡ complete l d U →
          RowDone i done T d U
      go true p e = at_column (leb-true _ _ p) left (driven_column F S T i) refl e
      go false p e = stays left e

  -- one row between two tables of phase 2, out of which an artificial column went
  pub record Out (n : ℕ) (T U : Tabled F.C) : Type 0 where
    pub row : ℕ
    pub below : row < n
    pub leaves : plain S ≤ T.basic row
    pub enters : U.basic row < plain S

  -- two tables of phase 2
  pub record Passed (n d : ℕ) (T : Tabled F.C) (e : ℕ) (U : Tabled F.C) : Type 0 where
    pub kept : (i : ℕ) → (U.basic i ≡ T.basic i) ⊎ (U.basic i < plain S)
    pub moved : ((e ≡ d) × (U ≡ T)) ⊎ ((d < e) × Out n T U)

  -- two tables of phase 2, and one row more
  passed_on : (r d : ℕ) (T : Tabled F.C) (x : ℕ) (V : Tabled F.C) (e : ℕ) (U : Tabled F.C) →
      Passed r d T x V → RowDone r x V e U → Passed (suc r) d T e U
  passed_on r d T x V e U h (inl k) = record {
    kept = λ i. subst (λ W. (W.basic i ≡ T.basic i) ⊎ (W.basic i < plain S)) (sym k.1) (h.kept i);
    moved = elim h.moved [
      | inl z ↦ inl (k.0 ∙ z.0, k.1 ∙ z.1)
      | inr z ↦ inr (
        omega (arith, k.0, z.0),
        record {
          row = z.1.row;
          below = omega (arith, z.1.below);
          leaves = z.1.leaves;
          enters = subst (λ W. W.basic z.1.row < plain S) (sym k.1) z.1.enters;
        },
      )
    ];
  }
  passed_on r d T x V e U h (inr k) = record {
    kept = λ i. keep i (ℕ_discrete i r) (h.kept i);
    moved = inr (
      later h.moved,
      record {
        row = r;
        below = omega arith;
        leaves = was (h.kept r);
        enters = k.1.enters;
      },
    );
  }
    where
      keep : (i : ℕ) → Dec (i ≡ r) → (V.basic i ≡ T.basic i) ⊎ (V.basic i < plain S) →
          (U.basic i ≡ T.basic i) ⊎ (U.basic i < plain S)
      keep i (yes p) z = inr (subst (λ s. U.basic s < plain S) (sym p) k.1.enters)
      keep i (no p) (inl z) = inl (k.1.others i p ∙ z)
      keep i (no p) (inr z) = inr (subst (λ s. s < plain S) (sym (k.1.others i p)) z)

      was : (V.basic r ≡ T.basic r) ⊎ (V.basic r < plain S) → plain S ≤ T.basic r
      was (inl z) = subst (λ s. plain S ≤ s) z k.1.leaves
      was (inr z) = absurd (let b = k.1.leaves in omega arith)

      later : ((x ≡ d) × (V ≡ T)) ⊎ ((d < x) × Out r T V) → d < e
      later (inl z) = omega (arith, k.0, z.0)
      later (inr z) = omega (arith, k.0, z.0)

  module _ (left done : ℕ) (V : Tabled F.C) where
    -- the row between which two tables of phase 2 lie
    pub row_between : (r l d : ℕ) (T : Tabled F.C) (l' e : ℕ) (U : Tabled F.C) →
        drives F S is_too_wide r left done V ≡ complete l d T →
        drives F S is_too_wide (suc r) left done V ≡ complete l' e U → RowDone r d T e U
    row_between r l d T l' e U p q = row_done l d T r l' e U
        (sym (ap (λ x. after_phase x (λ l d W. drive_row F S is_too_wide l d W r)) p) ∙ q)

    -- two tables of phase 2 with some rows between them
    pub passed : (a k l d : ℕ) (T : Tabled F.C) (l' e : ℕ) (U : Tabled F.C) →
        drives F S is_too_wide a left done V ≡ complete l d T →
        drives F S is_too_wide (a + k) left done V ≡ complete l' e U → Passed (a + k) d T e U
    passed a zero l d T l' e U p q = record {
      kept = λ i. inl (ap (λ (W : Tabled F.C). W.basic i) same);
      moved = inl (sym (complete-done both), same);
    }
      where
        start : a + zero ≡ a
        start = omega arith

        both : complete l d T ≡ complete l' e U
        both = sym p ∙ sym (ap (λ z. drives F S is_too_wide z left done V) start) ∙ q

        same : U ≡ T
        same = sym (complete-table both)
    passed a (suc k) l d T l' e U p q = let z : suc (a + k) ≡ a + suc k = omega arith in
        subst (λ n. Passed n d T e U) z (go (drives F S is_too_wide (a + k) left done V) refl
        (λ l' e U q. passed a k l d T l' e U p q) (ap (λ n. drives F S is_too_wide n left done V) z ∙ q))
      where
        go : (x : PhaseStop F.C) → drives F S is_too_wide (a + k) left done V ≡ x →
            ((l' e : ℕ) (U : Tabled F.C) → drives F S is_too_wide (a + k) left done V ≡ complete l' e U →
            Passed (a + k) d T e U) →
            after_phase x (λ l d W. drive_row F S is_too_wide l d W (a + k)) ≡ complete l' e U →
            Passed (suc (a + k)) d T e U
        go (complete l1 d1 W) x h q = passed_on (a + k) d T d1 W e U (h l1 d1 W x)
            (row_done l1 d1 W (a + k) l' e U q)
        go (unlimited W c) x h q = absurd cc
        go (wide_at p k s) x h q = absurd cc
        go spent x h q = absurd cc

    -- at most one pivot a row
    pub drives_few : (k l e : ℕ) (U : Tabled F.C) → drives F S is_too_wide k left done V ≡ complete l e U →
        e ≤ done + k
    drives_few zero l e U q = let z = complete-done q in omega arith
    drives_few (suc k) l e U q = go (drives F S is_too_wide k left done V) refl (drives_few k) q
      where
        at_row : (d : ℕ) (W : Tabled F.C) → d ≤ done + k → RowDone k d W e U → e ≤ done + suc k
        at_row d W h (inl z) = omega (arith, h, z.0)
        at_row d W h (inr z) = omega (arith, h, z.0)

        go : (x : PhaseStop F.C) → drives F S is_too_wide k left done V ≡ x →
            ((l e : ℕ) (U : Tabled F.C) → drives F S is_too_wide k left done V ≡ complete l e U → e ≤ done + k) →
            after_phase x (λ l d W. drive_row F S is_too_wide l d W k) ≡ complete l e U → e ≤ done + suc k
        go (complete l1 d1 W) x h q = at_row d1 W (h l1 d1 W x) (row_done l1 d1 W k l e U q)
        go (unlimited W c) x h q = absurd cc
        go (wide_at p k s) x h q = absurd cc
        go spent x h q = absurd cc

  -- where a pivot is between them, the two tables have different sets
  pub other_set : (A : ℕ → ℕ → F.C) (n : ℕ) → n ≤ S.rows → (d e : ℕ) (T U : Tabled F.C) →
      Tableau F S.rows (columns S) A (none F.ring) T.cell T.basic → Passed n d T e U → d < e →
      SameSet S.rows T.basic U.basic → ⊥
  other_set A n w d e T U t h l same = elim h.moved [
    | inl z ↦ let k = z.0 in omega arith
    | inr z ↦ found z.1 ((same (T.basic z.1.row)).0
        (record { row = z.1.row; below = omega (arith, z.1.below); there = refl }))
  ]
    where
      found : (o : Out n T U) → IsBasic S.rows U.basic (T.basic o.row) → ⊥
      found o b = go (h.kept b.row)
        where
          go : (U.basic b.row ≡ T.basic b.row) ⊎ (U.basic b.row < plain S) → ⊥
          go (inl k) = let s = distinct F S.rows (columns S) A
              (none F.ring) T.cell T.basic t b.row o.row b.below (omega (arith, o.below)) (sym k ∙ b.there) in
              let x = subst (λ r. U.basic r ≡ T.basic o.row) s b.there in omega (arith, x, o.leaves, o.enters)
          go (inr k) = omega (arith, k, b.there, o.leaves)
