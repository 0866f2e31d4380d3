-- What a run says in plain words, out of the theorem on the order of work.
use Rattle.std.proofs.Common.{ℕ, Option}
use Rattle.stack_outside.specs.Seen.{ShelfSeen, StreamSeen}
use Rattle.stack_walls.specs.Surveying.{DrawnWallsHaveSurveys}
use Rattle.stack_work.specs.Forms.{Form}
use Rattle.stack_said.specs.MainTheorem.{RunMeets}
use Rattle.stack_said.specs.Printed.{PrintedIsAccepted}
use Rattle.stack_said.specs.RunSaid.{RunSays}
use Rattle.stack_said.proofs.CertificatePromise.{check_fulfils, table_fulfils}
use Rattle.stack_said.proofs.ContactsPromise.{contacts_fulfils}
use Rattle.stack_said.proofs.StackPromise.{stack_fulfils}
use Rattle.stack_said.proofs.SamplePromise.{sample_fulfils}
use Rattle.stack_said.proofs.JudgePromise.{judge_fulfils}
use Rattle.stack_said.proofs.LengthAnswered.{length_says}
use Rattle.stack_said.proofs.ModelAnswered.{model_says}
use Rattle.stack_said.proofs.PrintedAnswered.{accepted_again}
use Rattle.stack_said.proofs.RangePromise.{range_fulfils}
use Rattle.stack_said.proofs.StagesPromise.{stages_fulfils}
use Rattle.stack_said.proofs.RegionPromise.{pair_fulfils, region_fulfils}

pub run_says : PrintedIsAccepted → DrawnWallsHaveSurveys → {status : ℕ} {form : Option Form} {shelf : ShelfSeen}
    {out err : StreamSeen} → RunMeets status form shelf out err → RunSays status form shelf out err
run_says law drawn m = record {
  headline = judge_fulfils m;
  accepted = check_fulfils m;
  again = accepted_again law m;
  tabled = table_fulfils m;
  listed = contacts_fulfils m;
  stacked = stack_fulfils m;
  sampled = sample_fulfils drawn m;
  model = model_says m;
  length = length_says m;
  ranged = range_fulfils m;
  staged = stages_fulfils m;
  yielded = region_fulfils m;
  paired = pair_fulfils m;
}
