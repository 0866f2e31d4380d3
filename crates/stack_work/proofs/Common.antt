-- The names of words, work and lines that most proofs of the promises cite, passed on from one place. Declares
-- nothing.
pub use Rattle.stack_checker.specs.WrittenCheck.{written_check}
pub use Rattle.stack_checker.specs.declared.types.Check.{Check}
pub use Rattle.stack_directions.specs.Pairing.{pair_of}
pub use Rattle.stack_judge.specs.Judgement.{Judgement, certified, judgement, spent, too_wide, unjudged}
pub use Rattle.stack_lines.specs.CheckText.{accepted_text}
pub use Rattle.stack_lines.specs.Refusals.{Fault, Refusal, fault_status, faulty, file, long, memory, output}
pub use Rattle.stack_lines.specs.Refusals.{over_budget, refusal_view, status_of, words}
pub use Rattle.stack_lines.specs.Verdicts.{verdict_status}
pub use Rattle.stack_lines.specs.declared.answer.Answer.{Answer}
pub use Rattle.stack_lines.specs.declared.refusal.Input.{Input}
pub use Rattle.stack_orders.specs.OrderRead.{told_order}
pub use Rattle.stack_outside.specs.Seen.{NeitherFailed, ShelfFailed, ShelfSeen, StreamSeen, TookNothing, seen_shelf}
pub use Rattle.stack_reader.specs.Reading.{structure_of}
pub use Rattle.stack_reader.specs.declared.errors.ReadError.{ReadError}
pub use Rattle.stack_stages.specs.Staged.{staged}
pub use Rattle.stack_work.specs.AcceptedModel.{IsAcceptedModel}
pub use Rattle.stack_work.specs.Answers.{Due, exactly}
pub use Rattle.stack_work.specs.Building.{ordered_file, stages_work}
pub use Rattle.stack_work.specs.Checking.{accepted_due, certificate_due, certificate_step, certificate_work, check_work}
pub use Rattle.stack_work.specs.Checking.{checked, checked_file}
pub use Rattle.stack_work.specs.Forms.{Form, check, work_of}
pub use Rattle.stack_work.specs.Judging.{default_budget, judge_work, lacks_live, wide_within}
pub use Rattle.stack_work.specs.Listing.{contacts_work}
pub use Rattle.stack_work.specs.OneEnd.{IsDefinite, IsDefiniteRefusal}
pub use Rattle.stack_work.specs.Progress.{AnswersDue, ReturnsAnswer, Way, Works}
pub use Rattle.stack_work.specs.Ranging.{range_work}
pub use Rattle.stack_work.specs.Sampling.{sample_of, sample_step, sample_work, sampled, wall_sampled}
pub use Rattle.stack_work.specs.Stacking.{built_step, stack_of, stack_work}
pub use Rattle.stack_work.specs.Surveying.{greatest_file, modelled, survey_step, surveyed_file}
pub use Rattle.stack_work.specs.Tables.{due_of}
pub use Rattle.stack_work.specs.Work.{Ends, Found, Holds, Work, gives, refuses, surveys}
pub use Rattle.stack_work.specs.Yielding.{directed_file, paired_file, wide_toward, yield_work}
pub use Rattle.stack_yield.specs.Outcomes.{outcomes}
