-- The column of an edge, body by body: it has entries for the two bodies of its bearing alone.
use Rattle.std.proofs.Common.{◌≡◌, refl, sym, ap, subst, ◌∙◌, ℕ, zero, suc, ◌+◌, ◌-◌, ◌*◌, ◌<◌, ◌≤◌, Bool, true, false}
use Rattle.std.proofs.Common.{List, [], length, cond, eqb, not, arith, Result, Ok, Err, Vec, IfOk, ℤ, pos, negsuc, ◌*ℤ◌}
use Rattle.std.specs.declared.alloc.AllocError.{AllocError}
use Rattle.std.specs.declared.alloc.Global.{Global}
use Rattle.stack_equilibrium.proofs.Common.{Bearing, IsPair, IsSmall, SceneBearing, Surveyed, Wrench, bearing_of}
use Rattle.stack_equilibrium.proofs.Common.{bearing_side, body_number, expand, force_x_of, force_y_of, moment_of}
use Rattle.stack_equilibrium.proofs.Common.{scene_of, sums}
use Rattle.stack_model.specs.Structure.{body_at}
use Rattle.stack_contact.specs.FreeBlocks.{frees_before}
use Rattle.stack_contact.proofs.Frees.{before_is_within, found_again}
use Rattle.stack_statics.specs.Balance.{edge_of_cone}
use Rattle.stack_equilibrium.proofs.FreeNumbers.{before_is, all_before}
use Rattle.stack_posing.specs.Edges.{edge_on}
use Rattle.stack_table.specs.declared.problem.Entry.{Entry}
use Rattle.stack_posing.specs.Posed.{row_share, no_wrench}
use Rattle.stack_posing.specs.Entries.{AreEntries, with_wrench}
use Rattle.stack_posing.specs.Columns.{rows_of}
use Rattle.stack_posing.proofs.GrowingEntries.{not_equal, no_entries}
use Rattle.stack_posing.proofs.PosedParts.{next_block}

-- entries of wrenches w on all bodies, as they grow by bodies
module _ (v : Surveyed) (w : ℕ → Wrench) where
  -- the entries are those of all bodies before body i
  abbrev pub Before : ℕ → List Entry → Type 0
  Before i xs = AreEntries (3 * frees_before v.structure.bodies i) (row_share (scene_of v) w) xs

  -- body i is fixed and has none
  pub fixed_body : (i : ℕ) (xs : List Entry) → (body_at v.structure.bodies i).fixed ≡ true → Before i xs
      → Before (suc i) xs
  fixed_body i xs f h = subst (λ n. AreEntries (3 * n) (row_share (scene_of v) w) xs) same h
    where
      same : frees_before v.structure.bodies i ≡ frees_before v.structure.bodies (suc i)
      same = let e = ap {B = ℕ} (λ t. cond (not t) 1 0) f in omega (arith, e)

  -- body i is free, and has the entries of its wrench
  free_body : (i : ℕ) (xs new : List Entry) (r : Wrench) → i < length v.structure.bodies
      → (body_at v.structure.bodies i).fixed ≡ false → r ≡ w i → IsSmall r
      → new ≡ with_wrench xs (frees_before v.structure.bodies i) r → Before i xs → Before (suc i) new
  free_body i xs new r l f e s made h = subst (λ n. AreEntries (3 * n) (row_share (scene_of v) w) new) same
      (next_block v w (frees_before v.structure.bodies i) xs new r (before_is_within v.structure.bodies i l f)
      (e ∙ ap w (sym (found_again v.structure.bodies i l f))) s made h)
    where
      same : frees_before v.structure.bodies i + 1 ≡ frees_before v.structure.bodies (suc i)
      same = let e = ap {B = ℕ} (λ t. cond (not t) 1 0) f in omega (arith, e)

  -- body i is free block b, and what is answered has the entries of its wrench
  pub free_answer : (i b : ℕ) (xs : List Entry) (r : Wrench) (o : Result (Vec Entry Global) AllocError)
      → i < length v.structure.bodies → (body_at v.structure.bodies i).fixed ≡ false
      → b ≡ frees_before v.structure.bodies i → r ≡ w (body_number v b) → IsSmall r
      → IfOk o (λ (u : Vec Entry Global). u.items ≡ with_wrench xs b r)
      → Before i xs → IfOk o (λ (u : Vec Entry Global). Before (suc i) u.items)
  free_answer i b xs r (Ok u) l f n e s made h = free_body i xs u.items r l f
      (e ∙ ap w (ap (body_number v) n ∙ found_again v.structure.bodies i l f)) s
      (made ∙ ap (λ b. with_wrench xs b r) n) h
  free_answer i b xs r (Err x) l f n e s made h = tt

  nothing_small : IsSmall no_wrench
  nothing_small = record { fx = omega arith; fy = omega arith; m = omega arith }

  -- a body without a wrench has none
  without : (i : ℕ) (xs : List Entry) → i < length v.structure.bodies → w i ≡ no_wrench → Before i xs
      → Before (suc i) xs
  without i xs l e h = go (body_at v.structure.bodies i).fixed refl
    where
      go : (t : Bool) → (body_at v.structure.bodies i).fixed ≡ t → Before (suc i) xs
      go true f = fixed_body i xs f h
      go false f = free_body i xs xs no_wrench l f (sym e) nothing_small refl h

  -- d bodies without a wrench add no entries
  passed : (i d : ℕ) (xs : List Entry) → i + d ≤ length v.structure.bodies
      → ((j : ℕ) → i ≤ j → j < i + d → w j ≡ no_wrench) → Before i xs → Before (i + d) xs
  passed i zero xs l e h = subst (λ n. Before n xs) same h
    where
      same : i ≡ i + 0
      same = omega arith
  passed i (suc d) xs l e h = subst (λ n. Before n xs) next
      (without (i + d) xs (omega (arith, l)) (e (i + d) (omega arith) (omega arith))
      (passed i d xs (omega (arith, l)) (λ j a b. e j a (omega (arith, b))) h))
    where
      next : suc (i + d) ≡ i + suc d
      next = omega arith

  -- the bodies from body i to body n add none, where none has a wrench
  passed_to : (i n : ℕ) (xs : List Entry) → i ≤ n → n ≤ length v.structure.bodies
      → ((j : ℕ) → i ≤ j → j < n → w j ≡ no_wrench) → Before i xs → Before n xs
  passed_to i n xs l m e h = subst (λ k. Before k xs) whole
      (passed i (n - i) xs (omega (arith, l, m)) (λ j a b. e j a (omega (arith, b, l))) h)
    where
      whole : i + (n - i) ≡ n
      whole = omega (arith, l)

  -- all bodies are passed
  all_passed : (xs : List Entry) → Before (length v.structure.bodies) xs
      → AreEntries (rows_of v) (row_share (scene_of v) w) xs
  all_passed xs h = subst (λ n. AreEntries (3 * n) (row_share (scene_of v) w) xs)
      (sym (before_is v (length v.structure.bodies)) ∙ all_before v) h

none : (c z : ℤ) → c ≡ pos 0 → c *ℤ z ≡ pos 0
none c z e = ap (λ t. t *ℤ z) e ∙ nothing
  where
    nothing : pos 0 *ℤ z ≡ pos 0
    nothing = simp expand (omega (arith, sums))

no_side : (i : ℕ) (z : SceneBearing) → (i ≡ z.second → ⊥) → (i ≡ z.first → ⊥) → bearing_side i z ≡ pos 0
no_side i z a b = ap (λ t. cond t (pos 1) (cond (eqb i z.first) (negsuc 0) (pos 0))) (not_equal i z.second a)
    ∙ ap (λ t. cond t (negsuc 0) (pos 0)) (not_equal i z.first b)

-- on a body that isn't one of its two a bearing exerts nothing
exerts_nothing : (v : Surveyed) (plus : Bool) (k i : ℕ) → (i ≡ ((scene_of v).bearing k).second → ⊥)
    → (i ≡ ((scene_of v).bearing k).first → ⊥) → edge_on (scene_of v) plus k i ≡ no_wrench
exerts_nothing v plus k i a b = λ n. record {
  fx = none (bearing_side i z) (force_x_of z (edge_of_cone z plus)) (no_side i z a b) n;
  fy = none (bearing_side i z) (force_y_of z (edge_of_cone z plus)) (no_side i z a b) n;
  m = none (bearing_side i z) (moment_of ((scene_of v).body i) z (edge_of_cone z plus)) (no_side i z a b) n;
}
  where
    z : SceneBearing
    z = (scene_of v).bearing k

-- the column of bearing z: before its first body, between its two and after its second no body has entries
module _ (v : Surveyed) (plus : Bool) (k : ℕ) (z : Bearing) (is : z ≡ bearing_of v k)
    (pair : IsPair v.structure z.first z.second) where
  other : (i : ℕ) → (i ≡ z.second → ⊥) → (i ≡ z.first → ⊥) → edge_on (scene_of v) plus k i ≡ no_wrench
  other i a b = exerts_nothing v plus k i (λ e. a (e ∙ sym (ap (λ (z : Bearing). z.second) is)))
      (λ e. b (e ∙ sym (ap (λ (z : Bearing). z.first) is)))

  pub until_first : (xs : List Entry) → xs ≡ [] → Before v (edge_on (scene_of v) plus k) z.first xs
  until_first xs e = passed_to v (edge_on (scene_of v) plus k) 0 z.first xs (omega arith)
      (let l = pair.in_order in let m = pair.is_body in omega (arith, l, m))
      (λ j l m. other j (λ d. let o = pair.in_order in omega (arith, m, o, d)) (λ d. omega (arith, m, d)))
      (subst (AreEntries 0 (row_share (scene_of v) (edge_on (scene_of v) plus k))) (sym e)
      (no_entries (row_share (scene_of v) (edge_on (scene_of v) plus k))))

  pub until_second : (xs : List Entry) → Before v (edge_on (scene_of v) plus k) (suc z.first) xs
      → Before v (edge_on (scene_of v) plus k) z.second xs
  until_second xs h = passed_to v (edge_on (scene_of v) plus k) (suc z.first) z.second xs pair.in_order
      (let m = pair.is_body in omega (arith, m))
      (λ j l m. other j (λ d. omega (arith, m, d)) (λ d. omega (arith, l, d))) h

  pub until_end : (xs : List Entry) → Before v (edge_on (scene_of v) plus k) (suc z.second) xs
      → AreEntries (rows_of v) (row_share (scene_of v) (edge_on (scene_of v) plus k)) xs
  until_end xs h = all_passed v (edge_on (scene_of v) plus k) xs
      (passed_to v (edge_on (scene_of v) plus k) (suc z.second) (length v.structure.bodies) xs pair.is_body
      (omega arith)
      (λ j l m. other j (λ d. omega (arith, l, d)) (λ d. let o = pair.in_order in omega (arith, l, o, d))) h)
