-- What a reach tells.
use Rattle.std.proofs.Common.{◌≡◌, refl, sym, ap, ◌∙◌, subst, subst₂, ℕ, zero, suc, ◌+◌, cond, List, [], ◌∷◌, get_or}
use native.Mathlib.Omega.{arith}
use lib.IntN.{ℤ, pos, ◌+ℤ◌, ◌-ℤ◌, ◌*ℤ◌, neg_ℤ}
use Rattle.stack_equilibrium.proofs.Common.{Carries, CertificateValue, ForcesValue, IsProper, IsTrueCertificate}
use Rattle.stack_equilibrium.proofs.Common.{IsTrueCollapse, MotionValue, Move, Scene, SceneForces, Surveyed, Wrench}
use Rattle.stack_equilibrium.proofs.Common.{collapses, dead_power_of, expand, forces_of, free_before, greatest}
use Rattle.stack_equilibrium.proofs.Common.{greatest_is_carried, live_power_of, move_at, move_of, moves_of, mul_nonneg}
use Rattle.stack_equilibrium.proofs.Common.{mul_pos, over, scene_of, stands, still, sums, unbounded, ◌≺◌, ◌≼◌}
use Rattle.stack_algebra.proofs.Over.{over-is}
use Rattle.stack_algebra.proofs.Fractions.{den_pos}
use Rattle.stack_algebra.proofs.CrossProducts.{cancel}
use Rattle.stack_statics.specs.Motions.{IsUnresisted}
use Rattle.stack_statics.specs.Certificates.{IsTrueGreatest, IsTrueUnbounded}
use Rattle.stack_statics.proofs.CertificateLaws.{unbounded_carries_all}
use Rattle.stack_equilibrium.proofs.FreeNumbers.{before_is}
use Rattle.stack_pairs.specs.Pairs.{toward, CarriesLoads, load_power_of}
use Rattle.stack_pairs.specs.Directed.{ArePair, directed_survey, wrench_on, CarriesPair}
use Rattle.stack_pairs.specs.Reaches.{ReachValue, IsReach, BoundsReach, CarriesAllAlong, ReachTells, reached_point}
use Rattle.stack_pairs.specs.Reaches.{half_of, reach_of, IsReaching}
use Rattle.stack_pairs.specs.Laws.{ReachesTell, ReachesStand, CollapsesAreOfTheSurvey, RegionsTell, CarriedPairsMix}
use Rattle.stack_pairs.proofs.PairLaws.{proper_toward, factors_are_pairs, denominators_are_free, powers_add}
use Rattle.stack_pairs.proofs.PairLaws.{mixtures_are_carried, motions_bound_pairs}
use Rattle.std.specs.List.{All, AllByRecursion}
use Rattle.std.proofs.lemmas.List.Elements.{All-nil, All-cons}
use Rattle.stack_pairs.proofs.DirectedLoads.{directed_scene}

-- bodies move alike towards each direction
before_toward : (s : Scene) (v w : ℕ → Wrench) (m n : ℤ) (i : ℕ) →
    free_before (toward s v w m n) i ≡ free_before s i
before_toward s v w m n zero = refl
before_toward s v w m n (suc i) = ap (λ k. k + cond (s.body i).free 1 0) (before_toward s v w m n i)

moves_toward : (s : Scene) (v w : ℕ → Wrench) (m n : ℤ) (moves : List Move) →
    move_of (toward s v w m n) moves ≡ move_of s moves
moves_toward s v w m n moves =
    λ r i. cond (s.body i).free (get_or moves (before_toward s v w m n i r) still) still

-- bodies move alike in each directed survey
pub moves_directed : (s : Surveyed) (i j : ℕ) (m n : ℤ) (y : MotionValue) →
    move_at (directed_survey s i j m n) y ≡ move_at s y
moves_directed s i j m n y = λ r b. cond ((scene_of s).body b).free
    (get_or (moves_of y) ((before_is (directed_survey s i j m n) b ∙ sym (before_is s b)) r) still) still

-- the power of the live loads of a directed survey
directed_power : (s : Surveyed) (i j : ℕ) (m n : ℤ) (y : MotionValue) → ArePair s.structure i j →
    live_power_of (scene_of (directed_survey s i j m n)) (move_at (directed_survey s i j m n) y)
    ≡ m *ℤ load_power_of (scene_of s) (wrench_on s.structure i) (move_at s y)
    +ℤ n *ℤ load_power_of (scene_of s) (wrench_on s.structure j) (move_at s y)
directed_power s i j m n y pair =
    (λ r. live_power_of (directed_scene s i j m n pair r) (moves_directed s i j m n y r))
    ∙ powers_add (scene_of s) (wrench_on s.structure i) (wrench_on s.structure j) m n (move_at s y)

-- the power of the dead loads of a directed survey
pub directed_dead_power : (s : Surveyed) (i j : ℕ) (m n : ℤ) (y : MotionValue) → ArePair s.structure i j →
    dead_power_of (scene_of (directed_survey s i j m n)) (move_at (directed_survey s i j m n) y)
    ≡ dead_power_of (scene_of s) (move_at s y)
directed_dead_power s i j m n y pair =
    λ r. dead_power_of (directed_scene s i j m n pair r) (moves_directed s i j m n y r)

-- what a greatest factor towards a direction says, by its motion
record Towards (s : Scene) (v w : ℕ → Wrench) (m n L D : ℤ) (y : ℕ → Move) : Type 0 where
  pub scale_positive : pos 0 ≺ D
  pub factor_nonneg : pos 0 ≼ L
  pub carried : CarriesLoads s v w (m *ℤ L) (n *ℤ L) D
  pub unresisted : IsUnresisted s y
  pub gains : pos 0 ≺ m *ℤ load_power_of s v y +ℤ n *ℤ load_power_of s w y
  pub meets : L *ℤ (m *ℤ load_power_of s v y +ℤ n *ℤ load_power_of s w y) +ℤ D *ℤ dead_power_of s y ≡ pos 0

towards : (s : Scene) (v w : ℕ → Wrench) (m n : ℤ) (f : SceneForces) (moves : List Move) →
    IsTrueGreatest (toward s v w m n) f moves → Towards s v w m n f.factor f.scale (move_of s moves)
towards s v w m n f moves g = record {
  scale_positive = g.loaded.scale_positive;
  factor_nonneg = g.loaded.factor_nonneg;
  carried = factors_are_pairs s v w m n f.factor f.scale g.loaded.scale_positive
      (greatest_is_carried (toward s v w m n) f moves g);
  unresisted = let u = subst (IsUnresisted (toward s v w m n)) (moves_toward s v w m n moves) g.motion.unresisted in
      record { still = u.still; opens = u.opens };
  gains = subst (λ p. pos 0 ≺ p) power g.gains;
  meets = subst (λ p. f.factor *ℤ p +ℤ f.scale *ℤ dead_power_of s (move_of s moves) ≡ pos 0) power
      (subst (λ y. f.factor *ℤ live_power_of (toward s v w m n) (move_of (toward s v w m n) moves)
      +ℤ f.scale *ℤ dead_power_of s y ≡ pos 0) (moves_toward s v w m n moves) g.meets);
}
  where
    power : live_power_of (toward s v w m n) (move_of (toward s v w m n) moves)
        ≡ m *ℤ load_power_of s v (move_of s moves) +ℤ n *ℤ load_power_of s w (move_of s moves)
    power = ap (live_power_of (toward s v w m n)) (moves_toward s v w m n moves)
        ∙ powers_add s v w m n (move_of s moves)

-- the half-plane's edge goes through the point
on_edge : (m n L D P Q d x xd y yd : ℤ) → pos 0 ≺ D → x *ℤ D ≡ m *ℤ L *ℤ xd → y *ℤ D ≡ n *ℤ L *ℤ yd →
    L *ℤ (m *ℤ P +ℤ n *ℤ Q) +ℤ D *ℤ d ≡ pos 0 →
    P *ℤ (x *ℤ yd) +ℤ Q *ℤ (y *ℤ xd) ≡ neg_ℤ d *ℤ (xd *ℤ yd)
on_edge m n L D P Q d x xd y yd hd ex ey e = cancel D _ _ hd (simp expand
    (omega (
      arith,
      sums,
      simp expand at (ap (λ t. P *ℤ yd *ℤ t) ex),
      simp expand at (ap (λ t. Q *ℤ xd *ℤ t) ey),
      simp expand at (ap (λ t. xd *ℤ yd *ℤ t) e),
    )))

beyond : (m n L D P Q d l k : ℤ) → pos 0 ≺ m *ℤ P +ℤ n *ℤ Q → pos 0 ≺ D →
    L *ℤ (m *ℤ P +ℤ n *ℤ Q) +ℤ D *ℤ d ≡ pos 0 → P *ℤ (m *ℤ l) +ℤ Q *ℤ (n *ℤ l) ≼ neg_ℤ d *ℤ k →
    L *ℤ k ≺ l *ℤ D → ⊥
beyond m n L D P Q d l k hp hd e h more =
    let a = mul_pos (m *ℤ P +ℤ n *ℤ Q) (l *ℤ D -ℤ L *ℤ k) hp (omega (arith, sums)) in
    let b = mul_nonneg D (neg_ℤ d *ℤ k -ℤ (P *ℤ (m *ℤ l) +ℤ Q *ℤ (n *ℤ l))) (omega (arith, sums))
    (omega (arith, sums)) in
    let c = ap (λ t. k *ℤ t) e in
    omega (arith, sums, simp expand at a, simp expand at b, simp expand at c)

spread_x : (m L D x xd zd : ℤ) → x *ℤ D ≡ m *ℤ L *ℤ xd → xd *ℤ zd *ℤ (m *ℤ L) ≡ D *ℤ (x *ℤ zd)
spread_x m L D x xd zd e = simp expand (omega (arith, sums, simp expand at (ap (λ t. zd *ℤ t) e)))

spread_z : (n L D z xd zd : ℤ) → z *ℤ D ≡ n *ℤ L *ℤ zd → xd *ℤ zd *ℤ (n *ℤ L) ≡ D *ℤ (z *ℤ xd)
spread_z n L D z xd zd e = simp expand (omega (arith, sums, simp expand at (ap (λ t. xd *ℤ t) e)))

spread_d : (D xd zd : ℤ) → xd *ℤ zd *ℤ D ≡ D *ℤ (xd *ℤ zd)
spread_d D xd zd = simp expand (omega (arith, sums))

bounds_by : (s : Surveyed) (i j : ℕ) (m n L D x xd z zd P Q R : ℤ) (y : ℕ → Move) → IsProper (scene_of s) →
    Towards (scene_of s) (wrench_on s.structure i) (wrench_on s.structure j) m n L D y →
    pos 0 ≺ xd → pos 0 ≺ zd → x *ℤ D ≡ m *ℤ L *ℤ xd → z *ℤ D ≡ n *ℤ L *ℤ zd →
    load_power_of (scene_of s) (wrench_on s.structure i) y ≡ P →
    load_power_of (scene_of s) (wrench_on s.structure j) y ≡ Q → neg_ℤ (dead_power_of (scene_of s) y) ≡ R →
    BoundsReach s i j m n ((x, xd), (z, zd)) (P, Q, R)
bounds_by s i j m n L D x xd z zd P Q R y proper t hx hz ex ez eP eQ eR =
    let S = scene_of s in
    let v = wrench_on s.structure i in
    let w = wrench_on s.structure j in
    let d = dead_power_of (scene_of s) y in
    let p = load_power_of S v y in
    let q = load_power_of S w y in
    record {
      x_positive = hx;
      y_positive = hz;
      factor = L;
      scale = D;
      factor_nonneg = t.factor_nonneg;
      scale_positive = t.scale_positive;
      x_is = ex;
      y_is = ez;
      carried = denominators_are_free S v w (m *ℤ L) (n *ℤ L) D (x *ℤ zd) (z *ℤ xd) (xd *ℤ zd) (xd *ℤ zd) D proper
          (mul_pos xd zd hx hz) t.scale_positive (spread_x m L D x xd zd ex) (spread_z n L D z xd zd ez)
          (spread_d D xd zd) t.carried;
      advances = subst₂ (λ a b. pos 0 ≺ m *ℤ a +ℤ n *ℤ b) eP eQ t.gains;
      holds_all = λ a b k c. rw (sym eP, sym eQ, sym eR) (motions_bound_pairs S v w y proper t.unresisted a b k c);
      meets = (λ r. sym eP r *ℤ (x *ℤ zd) +ℤ sym eQ r *ℤ (z *ℤ xd))
          ∙ on_edge m n L D p q d x xd z zd t.scale_positive ex ez t.meets ∙ ap (λ r. r *ℤ (xd *ℤ zd)) eR;
      no_more = λ l k more c. beyond m n L D p q d l k t.gains t.scale_positive t.meets
          (motions_bound_pairs S v w y proper t.unresisted (m *ℤ l) (n *ℤ l) k c) more;
    }

alone_first : (p q : ℤ) → pos 1 *ℤ p +ℤ pos 0 *ℤ q ≡ p
alone_first p q = simp expand (omega (arith, sums))

alone_second : (p q : ℤ) → pos 0 *ℤ p +ℤ pos 1 *ℤ q ≡ q
alone_second p q = simp expand (omega (arith, sums))

pub half_first : (s : Surveyed) (i j : ℕ) (y : MotionValue) → ArePair s.structure i j →
    load_power_of (scene_of s) (wrench_on s.structure i) (move_at s y) ≡ (half_of s i j y).0
half_first s i j y pair = sym (directed_power s i j (pos 1) (pos 0) y pair
    ∙ alone_first (load_power_of (scene_of s) (wrench_on s.structure i) (move_at s y))
    (load_power_of (scene_of s) (wrench_on s.structure j) (move_at s y)))

pub half_second : (s : Surveyed) (i j : ℕ) (y : MotionValue) → ArePair s.structure i j →
    load_power_of (scene_of s) (wrench_on s.structure j) (move_at s y) ≡ (half_of s i j y).1
half_second s i j y pair = sym (directed_power s i j (pos 0) (pos 1) y pair
    ∙ alone_second (load_power_of (scene_of s) (wrench_on s.structure i) (move_at s y))
    (load_power_of (scene_of s) (wrench_on s.structure j) (move_at s y)))

bounds : (s : Surveyed) (i j : ℕ) (m n : ℤ) (f : ForcesValue) (y : MotionValue) → IsProper (scene_of s) →
    ArePair s.structure i j → IsTrueGreatest (scene_of (directed_survey s i j m n)) (forces_of f) (moves_of y) →
    BoundsReach s i j m n (reached_point m n f) (half_of s i j y)
bounds s i j m n f y proper pair g =
    let t = towards (scene_of s) (wrench_on s.structure i) (wrench_on s.structure j) m n (forces_of f) (moves_of y)
    (subst (λ x. IsTrueGreatest x (forces_of f) (moves_of y)) (directed_scene s i j m n pair) g) in
    bounds_by s i j m n f.factor f.scale _ _ _ _ _ _ _ (move_at s y) proper t
    (den_pos (over (m *ℤ f.factor) f.scale)) (den_pos (over (n *ℤ f.factor) f.scale))
    (over-is (m *ℤ f.factor) f.scale t.scale_positive).cross
    (over-is (n *ℤ f.factor) f.scale t.scale_positive).cross
    (half_first s i j y pair) (half_second s i j y pair) refl

-- where the dead loads are carried, the pair of nothing is
nothing : (s : Scene) (v w : ℕ → Wrench) (m n : ℤ) → Carries (toward s v w m n) (pos 0) (pos 1) →
    CarriesLoads s v w (pos 0) (pos 0) (pos 1)
nothing s v w m n c = subst₂ (λ a b. CarriesLoads s v w a b (pos 1)) (zero_times m) (zero_times n)
    (factors_are_pairs s v w m n (pos 0) (pos 1) (omega (arith, sums)) c)
  where
    zero_times : (m : ℤ) → m *ℤ pos 0 ≡ pos 0
    zero_times m = simp expand (omega (arith, sums))

stands_in : (s : Surveyed) (i j : ℕ) (m n : ℤ) → ArePair s.structure i j →
    Carries (scene_of (directed_survey s i j m n)) (pos 0) (pos 1) → CarriesPair s i j (pos 0) (pos 0) (pos 1)
stands_in s i j m n pair c = nothing (scene_of s) (wrench_on s.structure i) (wrench_on s.structure j) m n
    (subst (λ x. Carries x (pos 0) (pos 1)) (directed_scene s i j m n pair) c)

all_along : (s : Surveyed) (i j : ℕ) (m n : ℤ) (base ray : ForcesValue) → IsProper (scene_of s) →
    ArePair s.structure i j → IsTrueUnbounded (scene_of (directed_survey s i j m n)) (forces_of base) (forces_of ray) →
    Carries (scene_of (directed_survey s i j m n)) (pos 0) (pos 1) → CarriesAllAlong s i j m n
all_along s i j m n base ray proper pair u c l D hl hd =
    let S = scene_of s in
    let v = wrench_on s.structure i in
    let w = wrench_on s.structure j in
    subst₂ (λ a b. CarriesLoads S v w a b D) (turned m l) (turned n l)
    (factors_are_pairs S v w m n l D hd (unbounded_carries_all (toward S v w m n) (forces_of base) (forces_of ray)
    (proper_toward S v w m n proper)
    (subst (λ x. IsTrueUnbounded x (forces_of base) (forces_of ray)) (directed_scene s i j m n pair) u)
    (subst (λ x. Carries x (pos 0) (pos 1)) (directed_scene s i j m n pair) c) l D hl hd))
  where
    turned : (m l : ℤ) → m *ℤ l ≡ l *ℤ m
    turned m l = simp expand (omega (arith, sums))

tells_by : (s : Surveyed) (i j : ℕ) (m n : ℤ) (c : CertificateValue) → IsProper (scene_of s) →
    ArePair s.structure i j → IsTrueCertificate (directed_survey s i j m n) c → IsReaching c →
    Carries (scene_of (directed_survey s i j m n)) (pos 0) (pos 1) → ReachTells s i j (reach_of s i j m n c)
tells_by s i j m n (greatest f y) proper pair g is c = bounds s i j m n f y proper pair g
tells_by s i j m n (unbounded base ray) proper pair u is c = all_along s i j m n base ray proper pair u c
tells_by s i j m n (stands f) proper pair g is c = absurd is
tells_by s i j m n (collapses y) proper pair g is c = absurd is

pub reaches_tell : ReachesTell
reaches_tell s i j r proper pair h = subst (ReachTells s i j) (sym h.is)
    (tells_by s i j r.m r.n r.certificate proper pair h.holds h.form h.stands)

pub reaches_stand : ReachesStand
reaches_stand s i j r proper pair h = stands_in s i j r.m r.n pair h.stands

-- a collapse has no part of the live loads
collapse_back : (s : Scene) (v w : ℕ → Wrench) (m n : ℤ) (moves : List Move) →
    IsTrueCollapse (toward s v w m n) moves → IsTrueCollapse s moves
collapse_back s v w m n moves c = record {
  motion = record {
    count = c.motion.count ∙ before_toward s v w m n s.bodies;
    unresisted = let u = subst (IsUnresisted (toward s v w m n)) (moves_toward s v w m n moves) c.motion.unresisted
        in record { still = u.still; opens = u.opens };
  };
  gains = subst (λ y. pos 0 ≺ dead_power_of s y) (moves_toward s v w m n moves) c.gains;
}

pub collapses_are_of_the_survey : CollapsesAreOfTheSurvey
collapses_are_of_the_survey s i j m n y pair c =
    collapse_back (scene_of s) (wrench_on s.structure i) (wrench_on s.structure j) m n (moves_of y)
    (subst (λ x. IsTrueCollapse x (moves_of y)) (directed_scene s i j m n pair) c)

all_tell : (s : Surveyed) (i j : ℕ) (rs : List ReachValue) → IsProper (scene_of s) → ArePair s.structure i j →
    AllByRecursion (IsReach s i j) rs → All (ReachTells s i j) rs
all_tell s i j [] proper pair h = All-nil (ReachTells s i j)
all_tell s i j (r ∷ rs) proper pair h =
    All-cons (ReachTells s i j) r rs (reaches_tell s i j r proper pair h.0) (all_tell s i j rs proper pair h.1)

pub carried_pairs_mix : CarriedPairsMix
carried_pairs_mix s i j proper a b D a' b' D' p q hp hq some c d =
    mixtures_are_carried (scene_of s) (wrench_on s.structure i) (wrench_on s.structure j) a b D a' b' D' p q proper
    hp hq some c d

pub regions_tell : RegionsTell
regions_tell s i j ds [] proper pair some is h = absurd (omega arith)
regions_tell s i j ds (r ∷ rs) proper pair some is h = record {
  directions = is;
  each = h;
  nothing = reaches_stand s i j r proper pair h.0;
  tell = all_tell s i j (r ∷ rs) proper pair h;
  mixtures = carried_pairs_mix s i j proper;
}
