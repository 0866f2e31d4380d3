-- The names of the model, the survey and the statics that most proofs above cite, passed on from one place. Declares
-- nothing.
pub use Rattle.stack_algebra.proofs.Conjunctions.{left_true, right_true}
pub use Rattle.stack_algebra.proofs.IntegerRing.{integers}
pub use Rattle.stack_algebra.proofs.Integers.{expand, sums}
pub use Rattle.stack_algebra.proofs.Listed.{length_listed, listed_item}
pub use Rattle.stack_algebra.proofs.Order.{mul_nonneg, mul_pos, ◌≺◌, ◌≼◌}
pub use Rattle.stack_algebra.proofs.OrderedFractions.{ordered_fractions}
pub use Rattle.stack_algebra.proofs.Over.{over}
pub use Rattle.stack_algebra.proofs.Search.{or_none}
pub use Rattle.stack_algebra.proofs.Steps.{step_on, step_out}
pub use Rattle.stack_algebra.proofs.Sums.{sum_same}
pub use Rattle.stack_algebra.specs.Fraction.{Fraction}
pub use Rattle.stack_algebra.specs.IntegerOrder.{abs}
pub use Rattle.stack_algebra.specs.Listed.{listed}
pub use Rattle.stack_algebra.specs.Steps.{steps, ◌>>=◌}
pub use Rattle.stack_algebra.specs.Sums.{sum_to}
pub use Rattle.stack_certificate.specs.Certificate.{CertificateValue, ForcesValue, MotionValue, certificate_view}
pub use Rattle.stack_certificate.specs.Certificate.{collapses, forces_view, greatest, motion_view, stands, unbounded}
pub use Rattle.stack_certificate.specs.CertificateOf.{certificate_of}
pub use Rattle.stack_certificate.specs.declared.types.Certificate.{Certificate}
pub use Rattle.stack_contact.specs.ContactLists.{IsPair}
pub use Rattle.stack_contact.specs.FreeBlocks.{frees_of}
pub use Rattle.stack_contact.specs.Surveyed.{IsSurvey, Surveyed}
pub use Rattle.stack_contact.specs.declared.types.Bearing.{Bearing}
pub use Rattle.stack_equilibrium.specs.Answers.{body_number}
pub use Rattle.stack_equilibrium.specs.Held.{forces_of, move_at, move_of_triple, moves_of, part_of_pair}
pub use Rattle.stack_equilibrium.specs.LoadSizes.{IsSmall}
pub use Rattle.stack_equilibrium.specs.SurveyScene.{bearing_of, first_corner_of, loads_on, no_bearing, scene_bearing_of}
pub use Rattle.stack_equilibrium.specs.SurveyScene.{scene_of}
pub use Rattle.stack_equilibrium.specs.Truth.{IsTrueCertificate}
pub use Rattle.stack_equilibrium.specs.WrittenPowers.{told_power, with_product, with_work, written_power}
pub use Rattle.stack_equilibrium.specs.WrittenSums.{lever_at, push_at, written_force_x, written_force_y, written_sum}
pub use Rattle.stack_equilibrium.specs.WrittenVelocities.{block_move_at, gap_at}
pub use Rattle.stack_frame.specs.declared.cone.Cone.{Cone}
pub use Rattle.stack_model.specs.Borne.{MayBear}
pub use Rattle.stack_model.specs.Keeping.{AreFlags}
pub use Rattle.stack_model.specs.ModelView.{model_view}
pub use Rattle.stack_model.specs.Sound.{IsSound}
pub use Rattle.stack_model.specs.Structure.{HasLive, NamedBody, Structure, body_of, load_of}
pub use Rattle.stack_model.specs.declared.types.Load.{Load}
pub use Rattle.stack_polygon.specs.Corners.{origin}
pub use Rattle.stack_statics.proofs.CertificateLaws.{collapse_excludes_balance, greatest_is_carried, stands_is_carried}
pub use Rattle.stack_statics.proofs.Mixtures.{mixed}
pub use Rattle.stack_statics.specs.Balance.{Carries, IsBalanced, IsWithinCone, bearing_side, force_x_of, force_y_of}
pub use Rattle.stack_statics.specs.Balance.{moment_of}
pub use Rattle.stack_statics.specs.Certificates.{Certifies, IsTrueCollapse, IsTrueLoaded, SceneForces, free_before}
pub use Rattle.stack_statics.specs.Certificates.{move_of, scene_part_at, still}
pub use Rattle.stack_statics.specs.Loads.{wrench_sum}
pub use Rattle.stack_statics.specs.Motions.{dead_power_of, live_power_of, opening_of, power_of, slide_of}
pub use Rattle.stack_statics.specs.Scene.{IsProper, Move, Scene, SceneBearing}
pub use Rattle.stack_statics.specs.declared.wrench.Wrench.{Wrench}
pub use Rattle.stack_whole.specs.Limits.{IsBelowBound, most_bearings, most_free}
pub use Rattle.stack_whole.specs.Whole.{IsFitting, fits, made, whole}
pub use Rattle.stack_whole.specs.declared.whole.Whole.{Whole}
pub use Rattle.stack_whole.specs.declared.whole.Wide.{Wide}
