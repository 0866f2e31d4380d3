-- Structures of the same materials, joints and bodies have the same contacts, whatever their loads and their sway.
use mathlib.Core.Path.{◌≡◌, refl, sym, subst}
use Prim.Native.Nat.{ℕ}
use Rattle.std.specs.Prelude.{ℤ, List}
use Rattle.stack_model.specs.declared.types.Joint.{Joint}
use Rattle.stack_model.specs.declared.types.Load.{Load}
use Rattle.stack_model.specs.Structure.{NamedMaterial, NamedBody, Structure, structure_with}
use Rattle.stack_contact.specs.declared.types.Bearing.{Bearing}
use Rattle.stack_contact.specs.declared.types.Touch.{Touch}
use Rattle.stack_contact.specs.ContactLists.{IsPair, AreBearings, AreTouches}
use Rattle.stack_contact.specs.Surveyed.{Surveyed, surveyed, IsSurvey}

module _ (ms : List NamedMaterial) (js : List Joint) (bs : List NamedBody) (v w : ℤ) (x y : ℤ × ℤ)
    (ls ns : List Load) where
  abbrev one : Structure
  one = structure_with v x ms js bs ls

  abbrev other : Structure
  other = structure_with w y ms js bs ns

  pair_back : (i j : ℕ) → IsPair other i j → IsPair one i j
  pair_back i j p = record { in_order = p.in_order; is_body = p.is_body; not_both_fixed = p.not_both_fixed }

  pair : (i j : ℕ) → IsPair one i j → IsPair other i j
  pair i j p = record { in_order = p.in_order; is_body = p.is_body; not_both_fixed = p.not_both_fixed }

  bearings : (zs : List Bearing) → AreBearings one zs → AreBearings other zs
  bearings zs h = record {
    each = λ k z e. let b = h.each k z e in record {
      pair = pair z.first z.second b.pair;
      bears = b.bears;
      friction = b.friction;
    };
    all = λ i j t X p b. h.all i j t X (pair_back i j p) b;
    in_order = h.in_order;
  }

  touches : (zs : List Touch) → AreTouches one zs → AreTouches other zs
  touches zs h = record {
    each = λ k z e. let b = h.each k z e in record { pair = pair z.first z.second b.pair; touches = b.touches };
    all = λ i j X p b. h.all i j X (pair_back i j p) b;
    in_order = h.in_order;
  }

  with_other_loads : (zs : List Bearing) (ts : List Touch) → IsSurvey one (surveyed one zs ts) →
      IsSurvey other (surveyed other zs ts)
  with_other_loads zs ts h = record {
    structure = refl;
    apart = λ i j p. h.apart i j (pair_back i j p);
    clear = λ i j p. h.clear i j (pair_back i j p);
    bearings = bearings zs h.bearings;
    few = h.few;
    touches = touches ts h.touches;
  }

-- the survey of a structure of the same materials, joints and bodies
pub same_contacts : (v : Surveyed) (t : Structure) → t.materials ≡ v.structure.materials →
    t.joints ≡ v.structure.joints → t.bodies ≡ v.structure.bodies → IsSurvey v.structure v →
    IsSurvey t (surveyed t v.bearings v.touches)
same_contacts v t m j b h =
    let s = v.structure in
    let same : structure_with t.version t.sway s.materials s.joints s.bodies t.loads ≡ t =
    (λ i. structure_with t.version t.sway (sym m i) (sym j i) (sym b i) t.loads) in
    subst (λ s. IsSurvey s (surveyed s v.bearings v.touches)) same
    (with_other_loads s.materials s.joints s.bodies s.version t.version s.sway t.sway s.loads t.loads v.bearings
    v.touches h)
