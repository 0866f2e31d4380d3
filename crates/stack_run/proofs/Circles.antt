-- Within a phase of the written run no set of basic columns recurs, and a phase is short.
use Rattle.std.proofs.Common.{◌≡◌, refl, sym, ap, subst, ◌∙◌, ℕ, suc, ◌<◌, ◌≤◌, ◌+◌, ◌-◌, ◌^◌, inl, inr, Bool, arith}
use Rattle.std.proofs.Common.{Some}
use Rattle.stack_rational.proofs.Common.{dec_le, Ordered, Tableau}
use Rattle.stack_rational.specs.declared.exact.Op.{Op}
use Rattle.stack_table.specs.Table.{Shape, Tabled, plain, columns, clear_objective, set_factor_objective}
use Rattle.stack_run.specs.WrittenRun.{PhaseStop, complete, unlimited, wide_at, spent, turns, drives}
use Rattle.stack_run.specs.PhaseTables.{own_first, own_third, IsFirst, IsThird}
use Rattle.stack_run.proofs.TurnsKeep.{Stopped, turns_keep}
use Rattle.stack_run.proofs.ThreePhases.{Second, first_step, second_begins, third_begins}
use Rattle.stack_run.proofs.RunEnds.{Complete, drives_keep}
use Rattle.stack_run.specs.BasicSets.{SameSet, SameList}
use Rattle.stack_run.specs.Reached.{ReachesInFirst, Phase, phase_1, phase_2, phase_3, after_turns, ComesToSecond}
use Rattle.stack_run.specs.Reached.{ReachesInSecond, ReachesInThird, ReachesIn}
use Rattle.stack_run.proofs.SetNumbers.{below_power}
use Rattle.stack_run.proofs.PhaseBudgets.{tables, no_set, few}
use Rattle.stack_run.proofs.SecondPhase.{complete-left, complete-done, complete-table, RowDone, row_between, Passed}
use Rattle.stack_run.proofs.SecondPhase.{passed, drives_few, other_set}
use Rattle.stack_run.proofs.Turning.{Due_to, due_to}

-- the same list is the same set
pub same_list : (m : ℕ) (b c : ℕ → ℕ) → SameList m b c → SameSet m b c
same_list m b c h j = (
  λ x. record { row = x.row; below = x.below; there = sym (h x.row x.below) ∙ x.there },
  λ x. record { row = x.row; below = x.below; there = h x.row x.below ∙ x.there },
)

module _ (F : Ordered) (S : Shape) (is_too_wide : Op → F.C → F.C → Bool) (A : ℕ → ℕ → F.C) where
  -- the turns of a phase with one objective
  module _ (own : ℕ → F.C) (phase among : ℕ) (within : among ≤ plain S) (V : Tabled F.C)
      (start : Tableau F S.rows (columns S) A own V.cell V.basic) where
    turns_recur : (a b : ℕ) (T U : Tabled F.C) → a < b → after_turns F S is_too_wide among V a ≡ Some T →
        after_turns F S is_too_wide among V b ≡ Some U → SameSet S.rows T.basic U.basic → ⊥
    turns_recur a b T U l p q h = go (due_to F S is_too_wide A own phase among within V a T p)
        (due_to F S is_too_wide A own phase among within V b U q)
      where
        go : Due_to F S is_too_wide A own phase among within V a T →
            Due_to F S is_too_wide A own phase among within V b U → ⊥
        go x y = no_set F S is_too_wide A own phase among within V start b y.all a b l (omega arith)
            (subst (λ W. SameSet S.rows (tables F S is_too_wide A own phase among within V a).basic W.basic)
            (sym y.table) (subst (λ W. SameSet S.rows W.basic U.basic) (sym x.table) h))

    -- the turns of a phase are fewer than 2^columns
    turns_few : (b : ℕ) (U : Tabled F.C) → after_turns F S is_too_wide among V b ≡ Some U → b < 2 ^ columns S
    turns_few b U q = few F S is_too_wide A own phase among within V start b
        (due_to F S is_too_wide A own phase among within V b U q).all

  module _ (budget : ℕ) (T0 : Tabled F.C) (first : IsFirst F S A T0) where
    -- phase 1 completes in one way
    one_way : (l d l' d' : ℕ) (V V' : Tabled F.C) → ComesToSecond F S is_too_wide budget T0 l d V →
        ComesToSecond F S is_too_wide budget T0 l' d' V' → complete l d V ≡ complete l' d' V'
    one_way l d l' d' V V' h k = sym h.completes ∙ k.completes

    -- so phase 2 begins with the same table
    drives_same : (n l d l' d' : ℕ) (V V' : Tabled F.C) → complete l d V ≡ complete l' d' V' →
        drives F S is_too_wide n l d (clear_objective F S V) ≡ drives F S is_too_wide n l' d' (clear_objective F S V')
    drives_same n l d l' d' V V' e = (λ z. drives F S is_too_wide n (complete-left e z) (complete-done e z)
        (clear_objective F S (complete-table e z)))

    -- what is known where phase 2 begins, and after each row
    pub begins : (l d : ℕ) (V : Tabled F.C) → ComesToSecond F S is_too_wide budget T0 l d V →
        Second F S A 0 (clear_objective F S V)
    begins l d V h = go (turns F S is_too_wide 1 S.contacts budget 0 T0) h.completes
        (turns_keep F S is_too_wide (IsFirst F S A) 1 S.contacts (first_step F S A) budget 0 T0 first)
      where
        at_last : (U : Tabled F.C) → U ≡ V → IsFirst F S A U → Second F S A 0 (clear_objective F S V)
        at_last U e k = second_begins F S A V (subst (IsFirst F S A) e k) h.not_below

        go : (x : PhaseStop F.C) → x ≡ complete l d V → Stopped F S (IsFirst F S A) S.contacts x →
            Second F S A 0 (clear_objective F S V)
        go (complete l1 d1 U) e k = at_last U (complete-table e) k.0
        go (unlimited U c) e k = absurd cc
        go (wide_at p j s) e k = absurd cc
        go spent e k = absurd cc

    -- the tables of phase 2
    in_second : (row d : ℕ) (U : Tabled F.C) → ReachesInSecond F S is_too_wide budget T0 row d U →
        Second F S A row U
    in_second row d U s = go (drives F S is_too_wide row s.left_before s.done_before
        (clear_objective F S s.last)) s.there
        (drives_keep F S A is_too_wide row s.row_within s.left_before s.done_before (clear_objective F S s.last)
        (begins s.left_before s.done_before s.last s.comes))
      where
        go : (x : PhaseStop F.C) → x ≡ complete s.left d U → Complete F S A (Second F S A row) x → Second F S A row U
        go (complete l1 d1 W) e k = subst (Second F S A row) (complete-table e) k
        go (unlimited W c) e k = absurd cc
        go (wide_at p j s) e k = absurd cc
        go spent e k = absurd cc

    -- two tables of phase 2
    second_between : (a b d e : ℕ) (T U : Tabled F.C) → a ≤ b → ReachesInSecond F S is_too_wide budget T0 a d T →
        ReachesInSecond F S is_too_wide budget T0 b e U → Passed F S is_too_wide b d T e U
    second_between a b d e T U l s t = let z : a + (b - a) ≡ b = omega arith in
        subst (λ n. Passed F S is_too_wide n d T e U) z
        (passed F S is_too_wide s.left_before s.done_before (clear_objective F S s.last) a
        (b - a) s.left d T t.left e U s.there
        (ap (λ n. drives F S is_too_wide n s.left_before s.done_before (clear_objective F S s.last)) z
        ∙ drives_same b _ _ _ _ _ _ (one_way _ _ _ _ _ _ s.comes t.comes) ∙ t.there))

    -- more pivots come with a later row
    in_order : (a b d e : ℕ) (T U : Tabled F.C) → ReachesInSecond F S is_too_wide budget T0 a d T →
        ReachesInSecond F S is_too_wide budget T0 b e U → d < e → a ≤ b
    in_order a b d e T U s t l = elim (dec_le a b) [
      | yes k ↦ k
      | no k ↦ absurd (backward (second_between b a e d U T (omega arith) t s))
    ]
      where
        backward : Passed F S is_too_wide a e U d T → ⊥
        backward h = elim h.moved [ inl z ↦ omega (arith, l, z.0) | inr z ↦ omega (arith, l, z.0) ]

    -- no set recurs in phase 2
    second_recurs : (a b d e : ℕ) (T U : Tabled F.C) → ReachesInSecond F S is_too_wide budget T0 a d T →
        ReachesInSecond F S is_too_wide budget T0 b e U → d < e → SameSet S.rows T.basic U.basic → ⊥
    second_recurs a b d e T U s t l h = other_set F S is_too_wide A b t.row_within d e T U
        (in_second a d T s).tableau (second_between a b d e T U (in_order a b d e T U s t l) s t) l h

    -- a pivot between two rows
    pub each_pivot : (r d e : ℕ) (T U : Tabled F.C) → ReachesInSecond F S is_too_wide budget T0 r d T →
        ReachesInSecond F S is_too_wide budget T0 (suc r) e U → RowDone F S is_too_wide r d T e U
    each_pivot r d e T U s t = row_between F S is_too_wide s.left_before s.done_before
        (clear_objective F S s.last) r s.left d T t.left e U s.there
        (drives_same (suc r) _ _ _ _ _ _ (one_way _ _ _ _ _ _ s.comes t.comes) ∙ t.there)

    -- the first table of phase 3, and that there is one
    in_third : (d : ℕ) (U : Tabled F.C) → (s : ReachesInThird F S is_too_wide budget T0 d U) →
        IsThird F S A (set_factor_objective F S s.last)
    in_third d U s = third_begins F S A s.last (let f = s.second.comes.factor in omega arith)
        (in_second S.rows s.done_before s.last s.second)

    third_same : (d e : ℕ) (T U : Tabled F.C) (s : ReachesInThird F S is_too_wide budget T0 d T)
        (t : ReachesInThird F S is_too_wide budget T0 e U) →
        complete s.second.left s.done_before s.last ≡ complete t.second.left t.done_before t.last
    third_same d e T U s t = sym s.second.there ∙ drives_same S.rows _ _ _ _ _ _
        (one_way _ _ _ _ _ _ s.second.comes t.second.comes) ∙ t.second.there

    third_start : (d e : ℕ) (T U : Tabled F.C) (s : ReachesInThird F S is_too_wide budget T0 d T)
        (t : ReachesInThird F S is_too_wide budget T0 e U) → s.done_before ≡ t.done_before
    third_start d e T U s t = complete-done (third_same d e T U s t)

    -- no set recurs in phase 3
    third_recurs : (d e : ℕ) (T U : Tabled F.C) → ReachesInThird F S is_too_wide budget T0 d T →
        ReachesInThird F S is_too_wide budget T0 e U → d < e → SameSet S.rows T.basic U.basic → ⊥
    third_recurs d e T U s t l h = turns_recur (own_third F S.contacts) 3 (plain S) (omega arith)
        (set_factor_objective F S s.last) (in_third d T s).tableau s.turns_done t.turns_done T U
        (omega (arith, l, s.total, t.total, complete-done same)) s.there
        (ap (λ V. after_turns F S is_too_wide (plain S) (set_factor_objective F S V) t.turns_done)
        (complete-table same) ∙ t.there) h
      where
        same : complete s.second.left s.done_before s.last ≡ complete t.second.left t.done_before t.last
        same = third_same d e T U s t

    -- no set recurs in any phase
    pub set_recurs : (p : Phase) (d e : ℕ) (T U : Tabled F.C) → ReachesIn F S is_too_wide budget T0 p d T →
        ReachesIn F S is_too_wide budget T0 p e U → d < e → SameSet S.rows T.basic U.basic → ⊥
    set_recurs phase_1 d e T U s t l h = turns_recur (own_first F S.rows (plain S)) 1 S.contacts
        (omega arith) T0 first.tableau d e T U l s.there t.there h
    set_recurs phase_2 d e T U s t l h = second_recurs s.row t.row d e T U s.reaches t.reaches l h
    set_recurs phase_3 d e T U s t l h = third_recurs d e T U s t l h

    -- what phase 1 does before phase 2 begins, and phase 2 before phase 3
    pub second_total : (row d : ℕ) (U : Tabled F.C) (s : ReachesInSecond F S is_too_wide budget T0 row d U) →
        d ≤ s.done_before + row
    second_total row d U s = drives_few F S is_too_wide s.left_before s.done_before
        (clear_objective F S s.last) row
        s.left d U s.there

    -- the pivots of phase 2 come after those of phase 1
    second_least : (row d : ℕ) (U : Tabled F.C) (s : ReachesInSecond F S is_too_wide budget T0 row d U) →
        s.done_before ≤ d
    second_least row d U s = at_least (passed F S is_too_wide s.left_before s.done_before
        (clear_objective F S s.last)
        0 row s.left_before s.done_before (clear_objective F S s.last) s.left d U refl
        (ap (λ n. drives F S is_too_wide n s.left_before s.done_before (clear_objective F S s.last)) start
        ∙ s.there))
      where
        start : 0 + row ≡ row
        start = omega arith

        at_least : Passed F S is_too_wide (0 + row) s.done_before (clear_objective F S s.last) d U →
            s.done_before ≤ d
        at_least h = elim h.moved [ inl z ↦ omega (arith, z.0) | inr z ↦ omega (arith, z.0) ]

    second_start : (a b d e : ℕ) (T U : Tabled F.C) (s : ReachesInSecond F S is_too_wide budget T0 a d T)
        (t : ReachesInSecond F S is_too_wide budget T0 b e U) → s.done_before ≡ t.done_before
    second_start a b d e T U s t = complete-done (one_way _ _ _ _ _ _ s.comes t.comes)

    -- turns of phase 1, and of phase 3
    pub first_few : (d : ℕ) (U : Tabled F.C) → ReachesInFirst F S is_too_wide budget T0 d U → d < 2 ^ columns S
    first_few d U s = turns_few (own_first F S.rows (plain S)) 1 S.contacts (omega arith) T0 first.tableau d U
        s.there

    pub third_few : (d : ℕ) (U : Tabled F.C) (s : ReachesInThird F S is_too_wide budget T0 d U) →
        s.turns_done < 2 ^ columns S
    third_few d U s = turns_few (own_third F S.contacts) 3 (plain S) (omega arith)
        (set_factor_objective F S s.last) (in_third d U s).tableau s.turns_done U s.there

    -- between two tables of a phase there are fewer than 2^columns pivots
    pub short : (p : Phase) (d e : ℕ) (T U : Tabled F.C) → ReachesIn F S is_too_wide budget T0 p d T →
        ReachesIn F S is_too_wide budget T0 p e U → e < d + 2 ^ columns S
    short phase_1 d e T U s t = omega (arith, first_few e U t)
    short phase_2 d e T U s t = omega (
      arith,
      t.reaches.row_within,
      second_total t.row e U t.reaches,
      second_least s.row d T s.reaches,
      second_start s.row t.row d e T U s.reaches t.reaches,
      below_power (columns S),
    )
    short phase_3 d e T U s t = omega (arith, s.total, t.total, third_start d e T U s t, third_few e U t)
