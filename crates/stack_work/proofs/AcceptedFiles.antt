-- The work up to the survey comes to one exactly for the files that are accepted models.
use Rattle.std.proofs.Common.{◌≡◌, ℕ, ◌≤◌, List, [], ◌∷◌, Bool, true, false, Option, Some, None, Result, Ok, Err, inl}
use Rattle.std.proofs.Common.{inr, length, subst, sym, ap, ◌∙◌, refl, if◌then◌else◌}
use Rattle.std.proofs.Math.Dec.{ltb}
use Rattle.std.proofs.lemmas.Bool.{ltb-false, le-ltb}
use Rattle.stack_model.specs.Structure.{Structure}
use Rattle.stack_reader.specs.Reading.{structure_of}
use Rattle.stack_reader.specs.declared.errors.ReadError.{ReadError}
use Rattle.stack_contact.specs.Surveyed.{Surveyed, IsSurvey}
use Rattle.stack_lines.specs.declared.refusal.Input.TheVariants as inputs
use Rattle.stack_lines.specs.Refusals.{long}
use Rattle.stack_work.specs.Work.{gives, refuses, ◌>>=◌, surveys, Found, Holds, MayHold, MayFind, Ends}
use Rattle.stack_work.specs.Surveying.{model_step, survey_step, modelled, surveyed_file, greatest_file}
use Rattle.stack_work.specs.Progress.{DoesAlone, IsSeenSurvey}
use Rattle.stack_work.specs.AcceptedModel.{IsAcceptedModel}

survey_ends : (holds : Holds) (s : Structure) (found : Found) (v : Surveyed) (names : List (List ℕ)) → MayFind s found
    → Ends holds (survey_step s found) names (Ok v) → IsSurvey s v
survey_ends holds s (Ok w) v names may p = subst (IsSurvey s) p.1 may
survey_ends holds s (Err e) v names may p = absurd p.1

model_ends : (holds : Holds) (bytes : List ℕ) (r : Result Structure ReadError) (v : Surveyed) (names : List (List ℕ))
    → length bytes ≤ greatest_file → structure_of bytes ≡ r
    → Ends holds (model_step r >>= λ s. surveys s (survey_step s)) names (Ok v) → IsAcceptedModel bytes v
model_ends holds bytes (Ok s) v names short reads (inl p) = absurd p.1
model_ends holds bytes (Ok s) v names short reads (inr p) = record {
  structure = s;
  is_short = short;
  reads_to = reads;
  is_surveyed = survey_ends holds s p.0 v names p.1 p.2;
}
model_ends holds bytes (Err e) v names short reads p = absurd p.1

file_ends : (holds : Holds) (b : Bool) (bytes : List ℕ) (v : Surveyed) (names : List (List ℕ))
    → ltb greatest_file (length bytes) ≡ b
    → Ends holds (((if b then refuses (long inputs.Model) else gives bytes) >>= λ text. model_step (structure_of text))
    >>= λ s. surveys s (survey_step s)) names (Ok v)
    → IsAcceptedModel bytes v
file_ends holds true bytes v names is p = absurd p.1
file_ends holds false bytes v names is p =
    model_ends holds bytes (structure_of bytes) v names (ltb-false _ _ is) refl p

-- A file whose bytes are told goes on with them.
pub told_bytes : (held : Option (List ℕ)) (told bytes : List ℕ) → held ≡ Some told → MayHold held bytes → bytes ≡ told
told_bytes held told bytes e h = subst (λ d. MayHold d bytes) e h

pub only_accepted : (holds : Holds) (name bytes : List ℕ) (v : Surveyed) (names : List (List ℕ))
    → holds name ≡ Some bytes → Ends holds (surveyed_file name) names (Ok v) → IsAcceptedModel bytes v
unfolding surveyed_file modelled
only_accepted holds name bytes v [] told p = absurd p
only_accepted holds name bytes v (n ∷ ns) told (same, inl p) = absurd p.1
only_accepted holds name bytes v (n ∷ ns) told (same, inr p) =
    subst (λ text. IsAcceptedModel text v) (told_bytes (holds name) bytes p.0 told p.1)
    (file_ends holds (ltb greatest_file (length p.0)) p.0 v ns refl p.2)

pub all_accepted : (holds : Holds) (name bytes : List ℕ) (v : Surveyed) → holds name ≡ Some bytes
    → IsAcceptedModel bytes v → Ends holds (surveyed_file name) (name ∷ []) (Ok v)
unfolding surveyed_file modelled
all_accepted holds name bytes v told h = (
  refl,
  inr (
    bytes,
    rw told refl,
    rw (le-ltb greatest_file (length bytes) h.is_short, h.reads_to)
        (inr (Ok v, h.is_surveyed, (refl, refl))),
  ),
)

-- What the survey of a structure gives is its survey.
surveyed_of : (holds : Holds) (s : Structure) (v : Surveyed) → Ends holds (surveys s (survey_step s)) [] (Ok v)
    → IsSurvey s v
surveyed_of holds s v (inl p) = absurd p.1
surveyed_of holds s v (inr p) = survey_ends holds s p.0 v [] p.1 p.2

-- So the structure of a survey that was made is the one that was surveyed.
pub same_structure : (s : Structure) (x : Surveyed) → DoesAlone IsSeenSurvey (surveys s (survey_step s)) (Ok x)
    → x.structure ≡ s
same_structure s x done =
    let r = done (λ name. None) in
    sym (ap (λ (v : Surveyed). v.structure) r.1) ∙ (surveyed_of (λ name. None) s r.0 r.2).structure
