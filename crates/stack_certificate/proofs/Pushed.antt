-- What reading one more line of a list comes to.
use Rattle.std.proofs.Common.{◌≡◌, ◌≢◌, ℤ, List, [], ◌∷◌, ◌++◌, refl, ◌∙◌, to_z, of_z, to_z-of_z, SFits, None}
use Rattle.std.specs.Int.{w128}
use Rattle.std.specs.Option.{option_map}
use Rattle.stack_certificate.specs.declared.types.Certificate.{Certificate}
use Rattle.stack_certificate.specs.declared.types.Certificate.TheVariants.{Stands, Collapses, Greatest, Unbounded}
use Rattle.stack_certificate.specs.declared.types.Forces.{Forces}
use Rattle.stack_certificate.specs.declared.types.Motion.{Motion}
use Rattle.stack_certificate.specs.declared.line.Line.{Line}
use Rattle.stack_certificate.specs.declared.line.Line.TheVariants as lines
use Rattle.stack_certificate.specs.Certificate.{ForcesValue, certificate_view}
use Rattle.stack_certificate.specs.CertificateOf.{unended, with_push, with_move, progress_after, before_motion}
use Rattle.stack_certificate.specs.CertificateOf.{before_ray}

-- a part that was pushed, whose numbers went through their casts
pub part_pushed : (ps : List (ℤ × ℤ)) {qs : List (ℤ × ℤ)} {a b : ℤ} → SFits w128 a → SFits w128 b
    → qs ≡ ps ++ (to_z w128 (of_z w128 a), to_z w128 (of_z w128 b)) ∷ [] → qs ≡ ps ++ (a, b) ∷ []
part_pushed ps a b is = is ∙ (λ j. ps ++ (to_z-of_z a j, to_z-of_z b j) ∷ [])

-- a move that was pushed
pub move_pushed : (ps : List (ℤ × ℤ × ℤ)) {qs : List (ℤ × ℤ × ℤ)} {u v r : ℤ} → SFits w128 u → SFits w128 v
    → SFits w128 r → qs ≡ ps ++ (to_z w128 (of_z w128 u), to_z w128 (of_z w128 v), to_z w128 (of_z w128 r)) ∷ []
    → qs ≡ ps ++ (u, v, r) ∷ []
move_pushed ps u v r is = is ∙ (λ j. ps ++ (to_z-of_z u j, to_z-of_z v j, to_z-of_z r j) ∷ [])

-- a certificate whose last list is a motion takes no part
pub no_push : (c : Certificate) (part : ℤ × ℤ) → ((f : Forces) → c ≢ Stands f) → ((f r : Forces) → c ≢ Unbounded f r)
    → None ≡ option_map unended (with_push (certificate_view c) part)
no_push (Stands f) part stands unbounded = absurd (stands f refl)
no_push (Unbounded f r) part stands unbounded = absurd (unbounded f r refl)
no_push (Collapses m) part stands unbounded = refl
no_push (Greatest f m) part stands unbounded = refl

-- one whose last list has forces takes no move
pub no_move : (c : Certificate) (move : ℤ × ℤ × ℤ) → ((m : Motion) → c ≢ Collapses m)
    → ((f : Forces) (m : Motion) → c ≢ Greatest f m) → None ≡ option_map unended (with_move (certificate_view c) move)
no_move (Collapses m) move collapses greatest = absurd (collapses m refl)
no_move (Greatest f m) move collapses greatest = absurd (greatest f m refl)
no_move (Stands f) move collapses greatest = refl
no_move (Unbounded f r) move collapses greatest = refl

-- behind the forces of a greatest factor come parts, and then the motion
pub no_motion : (f : ForcesValue) (line : Line) → ((a b : ℤ) → line ≢ lines.Push a b) → line ≢ lines.Motion
    → None ≡ progress_after (before_motion f) line
no_motion f (lines.Push a b) push motion = absurd (push a b refl)
no_motion f lines.Motion push motion = absurd (motion refl)
no_motion f _ push motion = refl

-- behind the first forces of an unbounded factor come parts, and then the further ones
pub no_ray : (f : ForcesValue) (line : Line) → ((a b : ℤ) → line ≢ lines.Push a b)
    → ((s t : ℤ) → line ≢ lines.Forces s t) → None ≡ progress_after (before_ray f) line
no_ray f (lines.Push a b) push forces = absurd (push a b refl)
no_ray f (lines.Forces s t) push forces = absurd (forces s t refl)
no_ray f _ push forces = refl
