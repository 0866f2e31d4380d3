use Rattle.stack_statics.proofs.Shares.{standing_share_is_carried, falling_share_is_not_carried}
use Rattle.stack_statics.proofs.Shares.{carried_has_no_gaps, nothing_above_is_carried}
use Rattle.stack_statics.proofs.laws.share_law.Goals as goal

pub returns : goal.returns
returns c = record {
  carried = standing_share_is_carried;
  beyond = falling_share_is_not_carried;
  between = carried_has_no_gaps;
  above = nothing_above_is_carried;
}
