-- The last table of a run is one at which it stands.
use Rattle.std.proofs.Common.{◌≡◌, ◌≢◌, refl, sym, ap, ◌∙◌, ℕ, zero, suc, ◌≤◌, ◌<◌, ◌+◌, ◌*◌, ◌^◌, Bool, cond, arith}
use Rattle.std.proofs.Common.{Option, Some, None}
use Rattle.stack_rational.proofs.Common.{Ordered, Sign, minus, nought, plus}
use Rattle.stack_rational.specs.declared.exact.Op.{Op}
use Rattle.stack_table.specs.declared.types.PivotWide.{PivotWide}
use Rattle.stack_table.specs.Table.{Shape, Tabled, plain, columns, right, pivoted_at, clear_objective}
use Rattle.stack_table.specs.Table.{set_factor_objective}
use Rattle.stack_table.specs.Spots.{pivot_spot}
use Rattle.stack_bland.specs.Choice.{is_negative_sign}
use Rattle.stack_run.specs.WrittenRun.{Choice, stays, rises, due, refused, choose, PhaseStop, complete, unlimited}
use Rattle.stack_run.specs.WrittenRun.{wide_at, spent, End, infeasible, after_phase, on_spot, on_choice, turns, drives}
use Rattle.stack_run.specs.WrittenRun.{third_end, past_first, first_end, written_run}
use Rattle.stack_run.specs.PhaseTables.{IsFirst}
use Rattle.stack_run.proofs.ThreePhases.{Second}
use Rattle.stack_run.proofs.RunEnds.{Complete, drives_keep}
use Rattle.stack_run.specs.Reached.{then_on, unrefused, turned_by, after_turns, ComesToSecond, ReachesInFirst}
use Rattle.stack_run.specs.Reached.{ReachesInThird, Phase, phase_1, phase_2, phase_3, ReachesIn, SomeDone, LastReached}
use Rattle.stack_run.proofs.Turning.{Before, before}
use Rattle.stack_run.proofs.SetNumbers.{below_power}
use Rattle.stack_run.proofs.SecondPhase.{complete-done}
use Rattle.stack_run.proofs.Circles.{begins, first_few, second_total, third_few}

module _ (F : Ordered) (S : Shape) (is_too_wide : Op → F.C → F.C → Bool) where
  -- a turn, and then k more
  turn_first : (among : ℕ) (T V : Tabled F.C) (k : ℕ) (U : Tabled F.C) →
      turned_by F S is_too_wide T (choose F S is_too_wide T among) ≡ Some V →
      after_turns F S is_too_wide among V k ≡ Some U → after_turns F S is_too_wide among T (suc k) ≡ Some U
  turn_first among T V zero U e f = e ∙ f
  turn_first among T V (suc k) U e f = go (before F S is_too_wide among V k U f) (turn_first among T V k)
    where
      go : Before F S is_too_wide among V k U → ((W : Tabled F.C) →
          turned_by F S is_too_wide T (choose F S is_too_wide T among) ≡ Some V →
          after_turns F S is_too_wide among V k ≡ Some W → after_turns F S is_too_wide among T (suc k) ≡ Some W) →
          after_turns F S is_too_wide among T (suc (suc k)) ≡ Some U
      go b h = ap (λ o. then_on o (λ W. turned_by F S is_too_wide W (choose F S is_too_wide W among)))
          (h b.table e b.there ∙ sym b.there) ∙ f

  -- how a phase stops at a table: after so many turns
  pub record Turned (among left done : ℕ) (T : Tabled F.C) (l d : ℕ) (U : Tabled F.C) : Type 0 where
    pub count : ℕ
    pub within : count ≤ left
    pub rest : l + count ≡ left
    pub total : d ≡ done + count
    pub there : after_turns F S is_too_wide among T count ≡ Some U

  -- a phase stops at U after some turns, with some numbers of pivots
  pub record TurnedTo (among left done : ℕ) (T U : Tabled F.C) : Type 0 where
    pub left_then : ℕ
    pub done_then : ℕ
    pub turned : Turned among left done T left_then done_then U

  -- how a phase stops: at a table that its turns reach, where it completes
  abbrev pub Stopped : (among left done : ℕ) → Tabled F.C → PhaseStop F.C → Type 0
  Stopped among left done T (complete l d U) = Turned among left done T l d U
  Stopped among left done T (unlimited U c) = TurnedTo among left done T U
  Stopped among left done T (wide_at p k s) = Unit {0}
  Stopped among left done T spent = Unit {0}

  -- after no turn, and after one more
  none_turned : (among left done : ℕ) (T : Tabled F.C) → Turned among left done T left done T
  none_turned among left done T = record {
    count = 0;
    within = omega arith;
    rest = omega arith;
    total = omega arith;
    there = refl;
  }

  one_more : (among left done : ℕ) (T V : Tabled F.C) (l d : ℕ) (U : Tabled F.C) →
      turned_by F S is_too_wide T (choose F S is_too_wide T among) ≡ Some V → Turned among left (suc done) V l d U →
      Turned among (suc left) done T l d U
  one_more among left done T V l d U e h = record {
    count = suc h.count;
    within = omega (arith, h.within);
    rest = omega (arith, h.rest);
    total = omega (arith, h.total);
    there = turn_first among T V h.count U e h.there;
  }

  -- one turn more, by how the phase stops
  more : (among left done : ℕ) (T V : Tabled F.C) (x : PhaseStop F.C) →
      turned_by F S is_too_wide T (choose F S is_too_wide T among) ≡ Some V → Stopped among left (suc done) V x →
      Stopped among (suc left) done T x
  more among left done T V (complete l d U) e h = one_more among left done T V l d U e h
  more among left done T V (unlimited U c) e h = record {
    left_then = h.left_then;
    done_then = h.done_then;
    turned = one_more among left done T V h.left_then h.done_then U e h.turned;
  }
  more among left done T V (wide_at p k s) e h = tt
  more among left done T V spent e h = tt

  -- a phase stops at a table that its turns reach
  pub turns_stop : (phase among left done : ℕ) (T : Tabled F.C) →
      Stopped among left done T (turns F S is_too_wide phase among left done T)
  turns_stop phase among zero done T = go (choose F S is_too_wide T among)
    where
      go : (x : Choice) → Stopped among zero done T (on_choice phase zero done T (λ r c. spent) x)
      go stays = none_turned among zero done T
      go (rises c) = record { left_then = zero; done_then = done; turned = none_turned among zero done T }
      go (due r c) = tt
      go (refused s) = tt
  turns_stop phase among (suc left) done T = go (choose F S is_too_wide T among) refl
      (turns_stop phase among left (suc done))
    where
      at_spot : (r c : ℕ) → choose F S is_too_wide T among ≡ due r c → (o : Option PivotWide) →
          pivot_spot F is_too_wide S T r c ≡ o → ((V : Tabled F.C) →
          Stopped among left (suc done) V (turns F S is_too_wide phase among left (suc done) V)) →
          Stopped among (suc left) done T (on_spot phase done (turns F S is_too_wide phase among left (suc done))
          (pivoted_at F S T r c) o)
      at_spot r c p (Some s) q h = tt
      at_spot r c p None q h = more among left done T (pivoted_at F S T r c)
          (turns F S is_too_wide phase among left (suc done) (pivoted_at F S T r c))
          (ap (turned_by F S is_too_wide T) p ∙ ap (unrefused (pivoted_at F S T r c)) q) (h (pivoted_at F S T r c))

      go : (x : Choice) → choose F S is_too_wide T among ≡ x →
          ((V : Tabled F.C) → Stopped among left (suc done) V
          (turns F S is_too_wide phase among left (suc done) V)) →
          Stopped among (suc left) done T (on_choice phase (suc left) done T
          (λ r c. on_spot phase done (turns F S is_too_wide phase among left (suc done))
          (pivoted_at F S T r c) (pivot_spot F is_too_wide S T r c)) x)
      go stays p h = none_turned among (suc left) done T
      go (rises c) p h = record {
        left_then = suc left;
        done_then = done;
        turned = none_turned among (suc left) done T;
      }
      go (due r c) p h = at_spot r c p (pivot_spot F is_too_wide S T r c) refl h
      go (refused s) p h = tt

  module _ (A : ℕ → ℕ → F.C) (budget : ℕ) (T : Tabled F.C) (begins_run : IsFirst F S A T) where
    abbrev Last : End F.C → Type 0
    Last = LastReached F S is_too_wide budget T

    -- a table of phase 3
    in_third : (left done l d : ℕ) (V W U : Tabled F.C) (left' done' : ℕ) →
        ComesToSecond F S is_too_wide budget T left done V →
        drives F S is_too_wide S.rows left done (clear_objective F S V) ≡ complete l d W →
        Turned (plain S) l d (set_factor_objective F S W) left' done' U →
        SomeDone (λ k. ReachesInThird F S is_too_wide budget T k U)
    in_third left done l d V W U left' done' h e t = record {
      done = d + t.count;
      holds = record {
        left_before = l;
        done_before = d;
        last = W;
        second = record {
          left_before = left;
          done_before = done;
          last = V;
          comes = h;
          row_within = omega arith;
          left = l;
          there = e;
        };
        before = refl;
        turns_done = t.count;
        within = t.within;
        total = refl;
        there = t.there;
      };
    }

    -- the last table is reached, by how phase 3 stops
    at_third : (left done l d : ℕ) (V W : Tabled F.C) → ComesToSecond F S is_too_wide budget T left done V →
        drives F S is_too_wide S.rows left done (clear_objective F S V) ≡ complete l d W →
        (x : PhaseStop F.C) → Stopped (plain S) l d (set_factor_objective F S W) x → Last (third_end x)
    at_third left done l d V W h e (complete l' d' U) t = in_third left done l d V W U l' d' h e t
    at_third left done l d V W h e (unlimited U c) t =
        in_third left done l d V W U t.left_then t.done_then h e t.turned
    at_third left done l d V W h e (wide_at p k s) t = tt
    at_third left done l d V W h e spent t = tt

    -- the last table is reached, by how phase 2 stops
    at_second : (left done : ℕ) (V : Tabled F.C) → ComesToSecond F S is_too_wide budget T left done V →
        (x : PhaseStop F.C) → drives F S is_too_wide S.rows left done (clear_objective F S V) ≡ x →
        Complete F S A (Second F S A S.rows) x →
        Last (third_end (after_phase x (λ l d U. turns F S is_too_wide 3 (plain S) l d (set_factor_objective F S U))))
    at_second left done V h (complete l d W) e k = at_third left done l d V W h e _
        (turns_stop 3 (plain S) l d (set_factor_objective F S W))
    at_second left done V h (unlimited W c) e k = absurd k
    at_second left done V h (wide_at p j s) e k = tt
    at_second left done V h spent e k = tt

    -- a table of phase 1
    in_first : (left done : ℕ) (V : Tabled F.C) → Turned S.contacts budget 0 T left done V →
        SomeDone (λ d. ReachesInFirst F S is_too_wide budget T d V)
    in_first left done V t = record { done = t.count; holds = record { within = t.within; there = t.there } }

    -- the last table past phase 1 is reached, by the number of factor columns
    by_factors : (left done : ℕ) (V : Tabled F.C) (k : ℕ) → S.factors ≡ k →
        turns F S is_too_wide 1 S.contacts budget 0 T ≡ complete left done V →
        F.sign (right F S V S.rows) ≢ minus → Turned S.contacts budget 0 T left done V →
        Last (past_first F S is_too_wide left done V k)
    by_factors left done V zero f e n t = in_first left done V t
    by_factors left done V (suc k) f e n t = at_second left done V comes _ refl
        (drives_keep F S A is_too_wide S.rows (omega arith) left done (clear_objective F S V)
        (begins F S is_too_wide A budget T begins_run left done V comes))
      where
        comes : ComesToSecond F S is_too_wide budget T left done V
        comes = record { completes = e; not_below = n; factor = omega (arith, f) }

    -- the last table is one that the run reaches
    pub last_reached : Last (written_run F S is_too_wide budget T)
    last_reached = go (turns F S is_too_wide 1 S.contacts budget 0 T) refl (turns_stop 1 S.contacts budget 0 T)
      where
        at_sign : (left done : ℕ) (V : Tabled F.C) (s : Sign) → F.sign (right F S V S.rows) ≡ s →
            turns F S is_too_wide 1 S.contacts budget 0 T ≡ complete left done V →
            Turned S.contacts budget 0 T left done V →
            Last (cond (is_negative_sign s) (infeasible V) (past_first F S is_too_wide left done V S.factors))
        at_sign left done V minus p e t = in_first left done V t
        at_sign left done V nought p e t = by_factors left done V S.factors refl e (λ q. cc) t
        at_sign left done V plus p e t = by_factors left done V S.factors refl e (λ q. cc) t

        go : (x : PhaseStop F.C) → turns F S is_too_wide 1 S.contacts budget 0 T ≡ x →
            Stopped S.contacts budget 0 T x → Last (first_end F S is_too_wide x)
        go (complete left done V) e t = at_sign left done V (F.sign (right F S V S.rows)) refl e t
        go (unlimited V c) e t = tt
        go (wide_at p k s) e t = tt
        go spent e t = tt

    -- the pivots of phase 1, where phase 2 comes
    first_before : (left done : ℕ) (V : Tabled F.C) → ComesToSecond F S is_too_wide budget T left done V →
        done < 2 ^ columns S
    first_before left done V h = go (turns F S is_too_wide 1 S.contacts budget 0 T) h.completes
        (turns_stop 1 S.contacts budget 0 T)
      where
        go : (x : PhaseStop F.C) → x ≡ complete left done V → Stopped S.contacts budget 0 T x → done < 2 ^ columns S
        go (complete l d U) e t = omega (
          arith,
          t.total,
          complete-done e,
          first_few F S is_too_wide A budget T begins_run
              t.count U (record { within = t.within; there = t.there }),
        )
        go (unlimited U c) e t = absurd cc
        go (wide_at p k s) e t = absurd cc
        go spent e t = absurd cc

    -- a run has fewer than 3*2^columns pivots
    pub run_short : (p : Phase) (d : ℕ) (U : Tabled F.C) → ReachesIn F S is_too_wide budget T p d U →
        d < 3 * 2 ^ columns S
    run_short phase_1 d U s = omega (arith, first_few F S is_too_wide A budget T begins_run d U s)
    run_short phase_2 d U s = let r = s.reaches in omega (
      arith,
      r.row_within,
      below_power (columns S),
      second_total F S is_too_wide A budget T begins_run s.row d U r,
      first_before r.left_before r.done_before r.last r.comes,
    )
    run_short phase_3 d U s = let r = s.second in omega (
      arith,
      s.total,
      below_power (columns S),
      second_total F S is_too_wide A budget T begins_run S.rows s.done_before s.last r,
      first_before r.left_before r.done_before r.last r.comes,
      third_few F S is_too_wide A budget T begins_run d U s,
    )
