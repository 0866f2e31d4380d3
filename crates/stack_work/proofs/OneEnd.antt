-- Two definite ends of the same work, over files that are told, are the same, and ask for the same files.
use Rattle.std.proofs.Common.{◌≡◌, ℕ, List, [], ◌∷◌, ◌⊎◌, inl, inr, Option, Some, None, Result, Ok, Err, subst, sym}
use Rattle.std.proofs.Common.{◌∙◌, ap}
use Rattle.stack_lines.specs.declared.refusal.Input.{Input}
use Rattle.std.specs.Bool.{⊤}
use Rattle.stack_model.specs.Structure.{Structure}
use Rattle.stack_contact.specs.Surveyed.{Surveys}
use Rattle.stack_contact.specs.declared.types.SurveyError.TheVariants.{Overlap, TooManyBearings, Memory}
use Rattle.stack_contact.proofs.OneSurvey.{one-survey}
use Rattle.stack_work.specs.Forms.{work_of}
use Rattle.stack_lines.specs.Refusals.{Refusal, file, faulty, memory}
use Rattle.stack_work.specs.Work.{Work, gives, refuses, reads, surveys, Found, Holds, MayHold, MayFind, Ends}
use Rattle.stack_work.specs.Work.{EndsGiving, EndsWith}
use Rattle.stack_work.specs.OneEnd.{AreTold, IsDefiniteRefusal, IsDefinite, WordsHaveOneEnd}

-- What the survey of a structure comes to is one, where memory isn't wanting.
abbrev IsKnown : Found → Type 0
IsKnown (Err Memory) = ⊥
IsKnown _ = ⊤

known : (s : Structure) (f : Found) → MayFind s f → IsKnown f × Surveys s f
known s (Ok v) h = (tt, h)
known s (Err (Overlap i j)) h = (tt, h)
known s (Err (TooManyBearings n)) h = (tt, h)
known s (Err Memory) h = absurd h

same_known : (f g : Found) → IsKnown f → IsKnown g → (f ≡ Err Memory) ⊎ ((g ≡ Err Memory) ⊎ (f ≡ g)) → f ≡ g
same_known f g k l (inl e) = absurd (subst IsKnown e k)
same_known f g k l (inr (inl e)) = absurd (subst IsKnown e l)
same_known f g k l (inr (inr e)) = e

pub one_found : (s : Structure) (f g : Found) → MayFind s f → MayFind s g → f ≡ g
one_found s f g h k =
    let a = known s f h in
    let b = known s g k in
    same_known f g a.0 b.0 (one-survey s f g a.1 b.1)

gave : {A : Type 0} (x : A) (end : Result A Refusal) → EndsGiving x end → IsDefinite end → end ≡ Ok x
gave x (Ok a) p definite = ap (λ y. Ok y) (sym p)
gave x (Err r) p definite = absurd (subst IsDefiniteRefusal p definite)

refused : (r q : Refusal) → (r ≡ q) ⊎ (r ≡ faulty memory) → IsDefiniteRefusal r → r ≡ q
refused r q (inl same) definite = same
refused r q (inr same) definite = absurd (subst IsDefiniteRefusal same definite)

-- A way that gives itself up for memory or a device isn't definite.
no_memory : {A : Type 0} (end : Result A Refusal) → EndsWith (faulty memory) end → IsDefinite end → ⊥
no_memory (Ok a) p definite = p
no_memory (Err r) p definite = subst IsDefiniteRefusal p definite

no_device : {A : Type 0} (input : Input) (end : Result A Refusal) → EndsWith (file input) end → IsDefinite end → ⊥
no_device input (Ok a) p definite = p
no_device input (Err r) p definite = subst IsDefiniteRefusal p definite

own_bytes : (held : Option (List ℕ)) (told bytes : List ℕ) → held ≡ Some told → MayHold held bytes → bytes ≡ told
own_bytes held told bytes e h = subst (λ d. MayHold d bytes) e h

same_front : (x y : List ℕ) (xs ys : List (List ℕ)) → x ≡ y → xs ≡ ys → (x ∷ xs) ≡ (y ∷ ys)
same_front x y xs ys e f = ap (λ z. z ∷ xs) e ∙ ap (λ zs. y ∷ zs) f

-- The names and the end of two ways.
abbrev Same : {A : Type 0} → List (List ℕ) → List (List ℕ) → Result A Refusal → Result A Refusal → Type 0
Same names more end last = (names ≡ more) × (end ≡ last)

pub one_end : {A : Type 0} (holds : Holds) (w : Work A) (names more : List (List ℕ)) (end last : Result A Refusal)
    → AreTold holds names → Ends holds w names end → Ends holds w more last → IsDefinite end
    → IsDefinite last → Same names more end last
one_end holds (gives x) names more end last told p q s t =
    (p.0 ∙ sym q.0, gave x end p.1 s ∙ sym (gave x last q.1 t))
one_end holds (refuses f) names more (Ok a) last told p q s t = absurd p.1
one_end holds (refuses f) names more (Err r) (Ok b) told p q s t = absurd q.1
one_end holds (refuses f) names more (Err r) (Err v) told p q s t = (
  p.0 ∙ sym q.0,
  ap (λ z. Err z) (refused r (faulty f) p.1 s ∙ sym (refused v (faulty f) q.1 t)),
)
one_end holds (reads input name k) [] more end last told p q s t = absurd (no_memory end p s)
one_end holds (reads input name k) (n ∷ ns) [] end last told p q s t = absurd (no_memory last q t)
one_end holds (reads input name k) (n ∷ ns) (m ∷ ms) end last told (e, inl h) q s t =
    absurd (no_device input end h.1 s)
one_end holds (reads input name k) (n ∷ ns) (m ∷ ms) end last told (e, inr h) (d, inl g) s t =
    absurd (no_device input last g.1 t)
one_end holds (reads input name k) (n ∷ ns) (m ∷ ms) end last told (e, inr h) (d, inr g) s t =
    let known = ap holds (sym e) ∙ told.0.1 in
    let first = own_bytes (holds name) told.0.0 h.0 known h.1 in
    let second = own_bytes (holds name) told.0.0 g.0 known g.1 in
    let rest = one_end holds (k h.0) ns ms end last told.1 h.2
    (subst (λ bytes. Ends holds (k bytes) ms last) (second ∙ sym first) g.2) s t in
    (same_front n m ns ms (e ∙ sym d) rest.0, rest.1)
one_end holds (surveys c k) names more end last told (inl h) q s t = absurd (no_memory end h.1 s)
one_end holds (surveys c k) names more end last told (inr h) (inl g) s t = absurd (no_memory last g.1 t)
one_end holds (surveys c k) names more end last told (inr h) (inr g) s t =
    one_end holds (k h.0) names more end last told h.2
    (subst (λ found. Ends holds (k found) more last) (one_found c g.0 h.0 g.1 h.1) g.2) s t

-- The same of the work on words.
pub words_end : WordsHaveOneEnd
words_end holds None names more end last told p q s t = (p.0 ∙ sym q.0, p.1 ∙ sym q.1)
words_end holds (Some form) names more end last told p q s t = one_end holds
    (work_of form) names more end last told p q s t
