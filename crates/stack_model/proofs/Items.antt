-- One item of a kept list, and what the model's limits say of it.
use Rattle.std.proofs.Common.{◌≡◌, ◌↔◌, ℕ, ◌<◌, ℤ, pos, Bool, true, false, not, ◌||◌, IsTrue, map, length, get_or, sym}
use Rattle.std.proofs.Common.{ap, ◌∙◌, subst, refl, inl, inr}
use Rattle.std.specs.Ordering.{int_eq}
use Rattle.std.specs.Cmp.{signed_Decides}
use Rattle.stack_algebra.proofs.Conjunctions.{both_true}
use Rattle.std.specs.List.{list_any}
use Rattle.std.proofs.lemmas.List.Folds.{Any-from_list_any, list_any_at}
use Rattle.std.proofs.lemmas.List.{get_or_default, get_or-map, length-map}
use Rattle.stack_model.specs.declared.types.Load.{Load}
use Rattle.stack_model.specs.declared.kept.KeptBody.{KeptBody}
use Rattle.stack_model.specs.declared.model.Model.TheInside.{Inside}
use Rattle.stack_model.specs.Structure.{Structure, body_of, joint_of, HasBodyLimits, HasJointLimits, HasLive, is_still}
use Rattle.stack_model.specs.Structure.{lists_live}
use Rattle.stack_model.specs.declared.types.Joint.{Joint}
use Rattle.stack_model.specs.Sound.{IsSound}
use Rattle.stack_model.specs.Kept.{body_view, inside_view}

pub body_placed : (m : Inside) (s : Structure) (i : ℕ) (b : KeptBody) → inside_view m ≡ s
    → IsSound (inside_view m) → i < length s.bodies
    → b ≡ get_or m.bodies.items i b → HasBodyLimits (length s.materials) (body_view b)
body_placed m s i b e h lt is =
    let below : i < length (map body_view m.bodies.items) =
    subst (λ (t : Structure). i < length t.bodies) (sym e) lt in
    let small : i < length m.bodies.items = subst (λ n. i < n) (length-map m.bodies.items body_view) below in
    let here : body_of (inside_view m) i ≡ body_view b = get_or-map body_view m.bodies.items i b _ small
    ∙ ap body_view (sym is) in
    subst (λ (t : Structure). HasBodyLimits (length t.materials) (body_view b)) e
    (subst (λ x. HasBodyLimits (length (inside_view m).materials) x) here (h.bodies i below))

pub joint_between : (m : Inside) (s : Structure) (i : ℕ) (j : Joint) → inside_view m ≡ s
    → IsSound (inside_view m) → i < length s.joints → j ≡ get_or m.joints.items i j
    → HasJointLimits (length s.materials) j
joint_between m s i j e h lt is =
    let below : i < length m.joints.items = subst (λ (t : Structure). i < length t.joints) (sym e) lt in
    let here : joint_of (inside_view m) i ≡ j = get_or_default m.joints.items i _ j below ∙ sym is in
    subst (λ (t : Structure). HasJointLimits (length t.materials) j) e
    (subst (HasJointLimits (length (inside_view m).materials)) here (h.joints i below))

-- a sway is (0, 0) where the test says so
pub still : (z : ℤ × ℤ) → is_still z ≡ true → z ≡ (pos 0, pos 0)
still z h = let t = both_true (int_eq z.0 (pos 0)) (int_eq z.1 (pos 0)) h in
    λ i. ((signed_Decides z.0 (pos 0)).0 t.0 i, (signed_Decides z.1 (pos 0)).0 t.1 i)

-- a sway isn't (0, 0) where the test doesn't say so
pub moving : (z : ℤ × ℤ) → is_still z ≡ false → ¬ (z ≡ (pos 0, pos 0))
moving z h e = let t : is_still z ≡ true = ap is_still e in absurd (cc)

or_true : (b : Bool) → (b || true) ≡ true
or_true true = refl
or_true false = refl

-- a live load is found exactly where one is listed
pub found_live : (s : Structure) (found : Bool) → found ≡ lists_live s → IsTrue found ↔ HasLive s
found_live s found e = (
  λ h. there (list_any (λ (l : Load). l.live) s.loads) (is_still s.sway) refl refl (sym e ∙ h),
  λ h. e ∙ back h,
)
  where
    there : (a b : Bool) → list_any (λ (l : Load). l.live) s.loads ≡ a → is_still s.sway ≡ b → (a || not b) ≡ true
        → HasLive s
    there true b ea eb h = let a = Any-from_list_any (λ (l : Load). l.live) s.loads ea in
        inl (a.0, (a.2, ap (λ (l : Load). l.live) (get_or_default s.loads a.0 _ a.1 a.2 ∙ a.3) ∙ a.4))
    there false false ea eb h = inr (moving s.sway eb)
    there false true ea eb h = absurd (cc)

    swayed : (b : Bool) → is_still s.sway ≡ b → ¬ (s.sway ≡ (pos 0, pos 0)) → lists_live s ≡ true
    swayed true eb h = absurd (h (still s.sway eb))
    swayed false eb h = ap (λ b. list_any (λ (l : Load). l.live) s.loads || not b) eb
        ∙ or_true (list_any (λ (l : Load). l.live) s.loads)

    back : HasLive s → lists_live s ≡ true
    back (inl h) = ap (λ b. b || not (is_still s.sway)) (list_any_at (λ (l : Load). l.live) s.loads h.0 _ h.1.0 h.1.1)
    back (inr h) = swayed (is_still s.sway) refl h
