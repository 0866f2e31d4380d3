-- The problem of a scene: three rows for each free body, the sums along x, along y and of moments; two columns for each
-- bearing, the edges of its cone of friction; for the live question the factor's column; on the right minus the
-- dead loads. 0 elsewhere. After Livesley (1978).
use Rattle.std.specs.Prelude.{ℕ, zero, suc, ◌*◌, ◌/◌, ◌%◌, cond, eqb, ltb, ℤ, pos, neg_ℤ}
use Rattle.stack_statics.specs.declared.wrench.Wrench.{Wrench}
use Rattle.stack_equilibrium.specs.declared.types.Question.{Question}
use Rattle.stack_equilibrium.specs.declared.types.Question.TheVariants.{Dead, Live}
use Rattle.stack_statics.specs.Scene.{Scene}
use Rattle.stack_posing.specs.FreeBodies.{free_at, free_bodies}
use Rattle.stack_posing.specs.Edges.{edge_on}
use Rattle.stack_posing.specs.ByNumber.{dead_on, live_on}
use Rattle.stack_table.specs.Table.{Shape}
use Rattle.stack_table.specs.Problem.{Problem}

-- the part of a wrench that a row sums: 0 is along x, 1 along y, 2 the moment
abbrev pub share : ℕ → Wrench → ℤ
share zero w = w.fx
share (suc zero) w = w.fy
share (suc (suc a)) w = w.m

-- row i is sum i % 3 of free body i / 3: its share of a wrench on each body
abbrev pub row_share : Scene → (ℕ → Wrench) → ℕ → ℤ
row_share s w i = share (i % 3) (w (free_at s (i / 3)))

-- neither a force nor a moment
abbrev pub no_wrench : Wrench
no_wrench = record { fx = pos 0; fy = pos 0; m = pos 0 }

-- the question about live loads has a factor
abbrev pub factors_of : Question → ℕ
factors_of Dead = 0
factors_of Live = 1

-- the wrench on each body that the factor raises
abbrev pub factor_on : Question → Scene → ℕ → Wrench
factor_on Dead s i = no_wrench
factor_on Live s i = live_on s i

-- column j on each body: an edge of the cone of bearing j / 2, first q*normal + p*tangent, then q*normal -
-- p*tangent; after these the factor's
abbrev pub column_on : Question → Scene → ℕ → ℕ → Wrench
column_on q s j i = cond (ltb j (2 * s.bearings)) (edge_on s (eqb (j % 2) 0) (j / 2) i)
    (cond (eqb j (2 * s.bearings)) (factor_on q s i) no_wrench)

-- three rows for each free body, two columns for each bearing, and the factor's column, if any
abbrev pub posed_shape : Question → Scene → Shape
posed_shape q s = record { rows = 3 * free_bodies s; contacts = 2 * s.bearings; factors = factors_of q }

-- a right side: minus the share of the dead loads
abbrev pub right_share : Scene → ℕ → ℤ
right_share s i = neg_ℤ (row_share s (dead_on s) i)

-- the problem of a scene, for a question
abbrev pub posed : Question → Scene → Problem
posed q s = record {
  shape = posed_shape q s;
  entry = λ i j. cond (ltb i (3 * free_bodies s)) (row_share s (column_on q s j) i) (pos 0);
  load = λ i. cond (ltb i (3 * free_bodies s)) (right_share s i) (pos 0);
}
