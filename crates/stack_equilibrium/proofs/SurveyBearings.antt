-- The bearings of a survey, by their numbers.
use Rattle.std.proofs.Common.{ℕ, ◌<◌, length}
use Rattle.std.proofs.lemmas.Option.{slice_get-get_or}
use Rattle.stack_contact.specs.ContactLists.{IsBearing}
use Rattle.stack_contact.specs.Surveyed.{Surveyed, IsSurvey}
use Rattle.stack_equilibrium.specs.SurveyScene.{bearing_of, no_bearing}

pub bearing_is : (s : Surveyed) → IsSurvey s.structure s → (k : ℕ) → k < length s.bearings →
    IsBearing s.structure (bearing_of s k)
bearing_is s h k l = h.bearings.each k (bearing_of s k) (slice_get-get_or s.bearings k no_bearing l)
