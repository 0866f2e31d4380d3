use Rattle.stack_range.proofs.Between.{what_lies_between_is_carried}
use Rattle.stack_range.proofs.ReversedScenes.{reversed_scenes_are_theirs, reversal_turns_factors}
use Rattle.stack_range.proofs.ReversedContacts.{reversed_is_surveyed}
use Rattle.stack_range.proofs.Exact.{ranges_are_exact}
use Rattle.stack_range.proofs.BothSides.{ranges_are_by_sides}
use Rattle.stack_range.proofs.laws.range_laws.Goals as goal

pub returns : goal.returns
returns c = record {
  between = what_lies_between_is_carried;
  reversal = reversal_turns_factors;
  surveyed = reversed_is_surveyed;
  scenes = reversed_scenes_are_theirs;
  exact = ranges_are_exact;
  sides = ranges_are_by_sides;
}
