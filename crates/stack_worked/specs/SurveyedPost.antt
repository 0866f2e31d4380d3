-- The pushed post as it is drawn, with its survey: the drawing's scene is the scene worked by hand, so what is true
-- and false of that scene is true and false of the drawing.
use Rattle.std.specs.Prelude.{◌≡◌, ◌↔◌, ℕ, ℤ, pos, List, [], ◌∷◌, Bool, true, false, Ok, codes}
use Rattle.stack_polygon.specs.declared.point.Point.{Point}
use Rattle.stack_frame.specs.Cones.{coefficient}
use Rattle.stack_model.specs.Structure.{NamedBody, Structure, first_structure}
use Rattle.stack_model.specs.Content.{content_of}
use Rattle.stack_model.specs.Relisted.{relisted}
use Rattle.stack_contact.specs.declared.types.Bearing.{Bearing}
use Rattle.stack_contact.specs.Surveyed.{Surveyed, surveyed, IsSurvey}
use Rattle.stack_certificate.specs.Certificate.{ForcesValue, MotionValue, CertificateValue}
use Rattle.stack_certificate.specs.Certificate.{stands, collapses, greatest}
use Rattle.stack_statics.specs.Certificates.{Certifies}
use Rattle.stack_equilibrium.specs.SurveyScene.{scene_of}
use Rattle.stack_equilibrium.specs.Truth.{held, IsTrueCertificate}
use Rattle.stack_worked.specs.Pieces.{negative, at_point}
use Rattle.stack_worked.specs.Scenes.{ground_corners, post_corners, pushed_post}

-- a body of the first material
abbrev pub drawn_body : List ℕ → Bool → List Point → NamedBody
drawn_body name fixed corners = record { name = name; material = 0; fixed = fixed; corners = corners }

-- the drawing: one stone of unit weight, with friction 1 over 1; the ground and the post; and the push
abbrev pub drawn_post : Structure
drawn_post = first_structure
    (record { name = codes "stone"; weight = pos 1; p = pos 1; q = pos 1 } ∷ [])
    (drawn_body (codes "ground") true ground_corners ∷ drawn_body (codes "post") false post_corners ∷ [])
    (record { body = 1; live = true; at = at_point (pos 0) (pos 4); fx = pos 1; fy = pos 0 } ∷ [])

-- the post bears on the ground at this point
abbrev pub level_bearing : Point → Bearing
level_bearing at = record {
  first = 0;
  second = 1;
  at = at;
  frame = record { tx = pos 1; ty = pos 0 };
  cone = coefficient (pos 1) (pos 1);
}

-- the survey of the drawing: the post bears at both ends of its foot, and touches nothing
abbrev pub surveyed_post : Surveyed
surveyed_post = surveyed drawn_post
    (level_bearing (at_point (pos 0) (pos 0)) ∷ level_bearing (at_point (pos 2) (pos 0)) ∷ []) []

-- the pushed post's forces as a certificate has them, with a scale and a factor
abbrev pub post_forces : ℤ → ℤ → ForcesValue
post_forces scale factor = record {
  scale = scale;
  factor = factor;
  parts = (pos 0, pos 0) ∷ (pos 48, negative 12) ∷ [];
}

-- the post turns clockwise about its lower right corner
abbrev pub tipping_motion : MotionValue
tipping_motion = (pos 0, pos 2, negative 1) ∷ []

-- this factor is claimed as the greatest, by those forces at scale 1 and that motion
abbrev pub tipping_certificate : ℤ → CertificateValue
tipping_certificate factor = greatest (post_forces (pos 1) factor) tipping_motion

-- listed as a file lists it, the drawing is taken without a fault and is the same
abbrev pub PostIsTaken : Type 0
PostIsTaken = content_of (relisted drawn_post) ≡ Ok drawn_post

-- these are the bearings and touches of the drawing, as those of any polygons are defined
abbrev pub PostIsSurveyed : Type 0
PostIsSurveyed = IsSurvey drawn_post surveyed_post

-- the scene of the survey is the one worked by hand: the same bodies, loads and bearings
abbrev pub PostSceneIsWorked : Type 0
PostSceneIsWorked = scene_of surveyed_post ≡ pushed_post

-- so the same certificates are true of both
abbrev pub TheSameIsTrueOfThePost : Type 0
TheSameIsTrueOfThePost = (c : CertificateValue) →
    IsTrueCertificate surveyed_post c ↔ Certifies pushed_post (held c)

-- the certificate with twice the push is true of the drawing, and changed copies aren't
pub record CertificatesOfPost : Type 0 where
  pub tips_at_two : IsTrueCertificate surveyed_post (tipping_certificate (pos 2))
  pub does_not_tip_at_three : ¬ (IsTrueCertificate surveyed_post (tipping_certificate (pos 3)))
  pub does_not_stand_by_them : ¬ (IsTrueCertificate surveyed_post (stands (post_forces (pos 1) (pos 2))))
  pub does_not_collapse_by_tipping : ¬ (IsTrueCertificate surveyed_post (collapses tipping_motion))
