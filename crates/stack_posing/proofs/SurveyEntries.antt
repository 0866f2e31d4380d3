-- The entries of the problem of a survey are what its columns and loads are.
use Rattle.std.proofs.Common.{◌≡◌, refl, ap, ◌∙◌, ℕ, ◌+◌, ◌*◌, ◌/◌, ◌%◌, ◌<◌, cond, eqb, ltb, length, arith, neg_ℤ}
use Rattle.std.proofs.Common.{pos, lt-ltb, le-ltb, eq-eqb}
use Rattle.stack_equilibrium.proofs.Common.{Surveyed, Wrench, body_number, frees_of, scene_of}
use Rattle.stack_equilibrium.specs.declared.types.Question.{Question}
use Rattle.stack_equilibrium.specs.declared.types.Question.TheVariants.{Live}
use Rattle.stack_posing.specs.FreeBodies.{free_at, free_bodies}
use Rattle.stack_posing.specs.Edges.{edge_on}
use Rattle.stack_posing.specs.ByNumber.{dead_on}
use Rattle.stack_posing.proofs.FreeBodies.{free_numbers_are_those_of_surveys}
use Rattle.stack_posing.specs.Posed.{share, row_share, column_on, no_wrench, factor_on, posed}
use Rattle.stack_posing.specs.PosedSurvey.{SurveysArePosed}

pub three_parts : (b a : ℕ) → a < 3 → ((3 * b + a) / 3 ≡ b) × ((3 * b + a) % 3 ≡ a)
three_parts b a l = (omega (arith, l), omega (arith, l))

pub pair_first : (k : ℕ) → ((2 * k) / 2 ≡ k) × ((2 * k) % 2 ≡ 0)
pair_first k = (omega arith, omega arith)

pub pair_second : (k : ℕ) → ((2 * k + 1) / 2 ≡ k) × ((2 * k + 1) % 2 ≡ 1)
pair_second k = (omega arith, omega arith)

module _ (v : Surveyed) where
  pub counted : free_bodies (scene_of v) ≡ length (frees_of v.structure.bodies)
  counted = (free_numbers_are_those_of_surveys v).count

  within : (b a : ℕ) → b < length (frees_of v.structure.bodies) → a < 3 → 3 * b + a < 3 * free_bodies (scene_of v)
  within b a l m = let e = counted in omega (arith, e, l, m)

  -- row a of free block b, of a wrench on each body
  pub row_is : (b a : ℕ) → b < length (frees_of v.structure.bodies) → a < 3 → (w : ℕ → Wrench)
      → row_share (scene_of v) w (3 * b + a) ≡ share a (w (body_number v b))
  row_is b a l m w = (λ i. share ((three_parts b a m).1 i) (w (free_at (scene_of v) ((three_parts b a m).0 i))))
      ∙ ap (λ n. share a (w n)) ((free_numbers_are_those_of_surveys v).body b l)

  entry_is : (q : Question) (b a j : ℕ) → b < length (frees_of v.structure.bodies) → a < 3
      → (posed q (scene_of v)).entry (3 * b + a) j ≡ share a (column_on q (scene_of v) j (body_number v b))
  entry_is q b a j l m = ap (λ t. cond t (row_share (scene_of v) (column_on q (scene_of v) j) (3 * b + a)) (pos 0))
      (lt-ltb (3 * b + a) (3 * free_bodies (scene_of v)) (within b a l m))
      ∙ row_is b a l m (column_on q (scene_of v) j)

  -- the column of an edge
  pub edge_is : (q : Question) (j k t i : ℕ) → j < 2 * length v.bearings → j / 2 ≡ k → j % 2 ≡ t
      → column_on q (scene_of v) j i ≡ edge_on (scene_of v) (eqb t 0) k i
  edge_is q j k t i l e f = ap (λ b. cond b (edge_on (scene_of v) (eqb (j % 2) 0) (j / 2) i)
      (cond (eqb j (2 * length v.bearings)) (factor_on q (scene_of v) i) no_wrench))
      (lt-ltb j (2 * length v.bearings) l)
      ∙ (λ n. edge_on (scene_of v) (eqb (f n) 0) (e n) i)

  -- the column of the factor
  pub factor_is : (q : Question) (i : ℕ) → column_on q (scene_of v) (2 * length v.bearings) i
      ≡ factor_on q (scene_of v) i
  factor_is q i = (λ n. cond (le-ltb (2 * length v.bearings) (2 * length v.bearings) (omega arith) n)
      (edge_on (scene_of v) (eqb ((2 * length v.bearings) % 2) 0) ((2 * length v.bearings) / 2) i)
      (cond (eq-eqb (2 * length v.bearings) (2 * length v.bearings) refl n) (factor_on q (scene_of v) i) no_wrench))

pub surveys_are_posed : SurveysArePosed
surveys_are_posed q v = record {
  rows = ap (λ n. 3 * n) (counted v);
  first_edge = λ b k a l m n. entry_is v q b a (2 * k) l n
      ∙ ap (share a) (edge_is v q (2 * k) k 0 (body_number v b) (omega (arith, m)) (pair_first k).0 (pair_first k).1);
  second_edge = λ b k a l m n. entry_is v q b a (2 * k + 1) l n
      ∙ ap (share a) (edge_is v q (2 * k + 1) k 1 (body_number v b) (omega (arith, m)) (pair_second k).0
      (pair_second k).1);
  factor = λ b a l n. entry_is v Live b a (2 * length v.bearings) l n
      ∙ ap (share a) (factor_is v Live (body_number v b));
  right = λ b a l n. ap (λ t. cond t (neg_ℤ (row_share (scene_of v) (dead_on (scene_of v)) (3 * b + a))) (pos 0))
      (lt-ltb (3 * b + a) (3 * free_bodies (scene_of v)) (within v b a l n))
      ∙ ap neg_ℤ (row_is v b a l n (dead_on (scene_of v)));
}
