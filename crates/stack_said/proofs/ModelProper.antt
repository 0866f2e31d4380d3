-- The structure of an accepted model is within the limits, so its survey's scene is proper, and a certificate that is
-- true of the model shows what it says of factors.
use Rattle.std.proofs.Common.{◌≡◌, refl, sym, subst, ℕ, List, Result, Ok, Err}
use Rattle.stack_equilibrium.proofs.Common.{CertificateValue, IsProper, IsSound, IsSurvey, IsTrueCertificate, Structure}
use Rattle.stack_equilibrium.proofs.Common.{Surveyed, scene_of, ◌>>=◌}
use Rattle.stack_model.specs.declared.errors.ModelError.{ModelError}
use Rattle.stack_model.specs.Parts.{PartLists, IsOfVersion}
use Rattle.stack_model.specs.Content.{head_of, joints_of, bodies_of, loads_of, content_of}
use Rattle.stack_model.proofs.Sound.{sound}
use Rattle.stack_reader.specs.Shape.{parts_of_document}
use Rattle.stack_reader.specs.Reading.{document_table, model_of, structure_of, within_file}
use Rattle.stack_reader.proofs.Versions.{of_version}
use Rattle.stack_equilibrium.proofs.BearingSizes.{survey_proper}
use Rattle.stack_checker.specs.Shown.{Shows}
use Rattle.stack_checker.proofs.Consequences.{shows_standing, shows_fall, shows_carried, shows_bound, shows_above}
use Rattle.stack_checker.proofs.Consequences.{shows_all}
use Rattle.stack_work.specs.AcceptedModel.{IsAcceptedModel}

-- a step that went well: its first part did, and so did the rest
went : {A B E : Type 0} (r : Result A E) (k : A → Result B E) (y : B) → r >>= k ≡ Ok y
    → (x : A) × (r ≡ Ok x) × (k x ≡ Ok y)
went (Ok x) k y h = (x, refl, h)
went (Err e) k y h = absurd (cc)

-- a content without a fault of a file is one of parts
within : (r : Result Structure ModelError) (s : Structure) → within_file r ≡ Ok s → r ≡ Ok s
within (Ok t) s h = cc
within (Err e) s h = absurd (cc)

abbrev content_ok : Structure → Result Structure ModelError
content_ok s = Ok s

same_structure : (s t : Structure) → content_ok s ≡ Ok t → s ≡ t
same_structure s t h = cc

-- what is taken of parts that a document lists is within the limits
content_sound : (parts : PartLists) (s : Structure) → IsOfVersion parts → content_of parts ≡ Ok s → IsSound s
unfolding content_of
content_sound parts s of_its_version h =
    let head = went (head_of parts) _ s h in
    let both = went (joints_of parts) _ s head.2 in
    let bodies = went (bodies_of both.0.0 parts) _ s both.2 in
    let loads = went (loads_of bodies.0 parts) _ s bodies.2 in
    subst IsSound (same_structure _ s loads.2)
    (sound parts head.0 both.0.0 both.0.1 bodies.0 loads.0 of_its_version head.1 both.1 bodies.1 loads.1)

-- the structure of a file's bytes is within the limits
pub model_sound : (bytes : List ℕ) (s : Structure) → structure_of bytes ≡ Ok s → IsSound s
unfolding structure_of model_of
model_sound bytes s h =
    let table = went (document_table bytes) model_of s h in
    let parts = went (parts_of_document table.0) _ s table.2 in
    content_sound parts.0 s (of_version table.0 parts.0 parts.1) (within (content_of parts.0) s parts.2)

-- so the scene of an accepted model's survey is proper
pub accepted_proper : (bytes : List ℕ) (v : Surveyed) → IsAcceptedModel bytes v → IsProper (scene_of v)
accepted_proper bytes v h =
    let same = h.is_surveyed.structure in
    survey_proper v (subst IsSound (sym same) (model_sound bytes h.structure h.reads_to))
    (subst (λ s. IsSurvey s v) (sym same) h.is_surveyed)

-- so a true certificate of it shows what it says of factors
pub accepted_shows : (bytes : List ℕ) (v : Surveyed) (c : CertificateValue) → IsAcceptedModel bytes v
    → IsTrueCertificate v c → Shows v c
accepted_shows bytes v c h t =
    let proper = accepted_proper bytes v h in
    record {
      stand = shows_standing v proper c t;
      fall = shows_fall v proper c t;
      carried = shows_carried v proper c t;
      bound = shows_bound v proper c t;
      above = shows_above v proper c t;
      all = shows_all v proper c t;
    }
