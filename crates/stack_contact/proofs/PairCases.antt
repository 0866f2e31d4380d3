-- A pair that overlaps, and one with its contacts.
use mathlib.Core.Path.{◌≡◌, sym, subst₂, ◌∙◌}
use mathlib.Core.List.{List}
use Prim.Native.Nat.{ℕ, suc}
use Rattle.std.specs.Prelude.{◌++◌}
use Rattle.stack_polygon.specs.declared.point.Point.{Point}
use Rattle.stack_frame.specs.declared.cone.Cone.{Cone}
use Rattle.stack_overlap.specs.Separation.{Overlaps}
use Rattle.stack_model.specs.Structure.{Structure}
use Rattle.stack_contact.specs.declared.types.Bearing.{Bearing}
use Rattle.stack_contact.specs.declared.types.Touch.{Touch}
use Rattle.stack_contact.specs.declared.types.Contacts.{Contacts}
use Rattle.stack_contact.specs.ContactLists.{corners_of, friction_between, IsPair}
use Rattle.stack_contact.specs.PairContacts.{AreContacts}
use Rattle.stack_contact.specs.Surveyed.{AreSeparated, IsFirstOverlap}
use Rattle.stack_contact.specs.Found.{bearings_in, touches_in, AreFound}
use Rattle.stack_contact.proofs.FoundPairs.{more-found}

pub first-overlap : (s : Structure) (i j : ℕ) → IsPair s i j
    → (ps qs : List Point) → ps ≡ corners_of s i → qs ≡ corners_of s j → ¬ (AreSeparated ps qs) → Overlaps ps qs
    → (zs : List Bearing) (ts : List Touch) → AreFound s i j zs ts → IsFirstOverlap s i j
first-overlap s i j p ps qs ep eq n o zs ts h = record {
  pair = p;
  overlaps = subst₂ (λ ps qs. ¬ (AreSeparated ps qs)) ep eq n;
  shared = subst₂ (λ ps qs. Overlaps ps qs) ep eq o;
  first = h.apart;
}

pub pair-found : (s : Structure) (i j : ℕ) → IsPair s i j
    → (ps qs : List Point) → ps ≡ corners_of s i → qs ≡ corners_of s j → AreSeparated ps qs → ¬ (Overlaps ps qs)
    → (c : Contacts) → AreContacts ps qs c → (f : Cone) → f ≡ friction_between s i j
    → (zs : List Bearing) (ts : List Touch) → AreFound s i j zs ts
    → (ys : List Bearing) (us : List Touch) → ys ≡ zs ++ bearings_in i j f c → us ≡ ts ++ touches_in i j c
    → AreFound s i (suc j) ys us
pair-found s i j p ps qs ep eq a o c k f ef zs ts h ys us ez eu = subst₂ (λ ys us. AreFound s i
    (suc j) ys us)
    (sym (ez ∙ (λ x. zs ++ bearings_in i j (ef x) c))) (sym eu)
    (more-found s i j p c (subst₂ (λ ps qs. AreContacts ps qs c) ep eq k) zs ts
    (subst₂ (λ ps qs. AreSeparated ps qs) ep eq a) (subst₂ (λ ps qs. ¬ (Overlaps ps qs)) ep eq o) h)
