-- The refusals as the theorem sees them: why a run refuses, with the status and the line of each refusal. The line
-- stands without its line feed.
use Rattle.std.specs.Prelude.{ℕ, ◌+◌, List, [], ◌++◌, codes, decimal, string_bytes}
use Rattle.stack_equilibrium.specs.declared.types.Axis.{Axis}
use Rattle.stack_equilibrium.specs.declared.types.Axis.TheVariants as axes
use Rattle.stack_checker.specs.declared.types.Part.{Part}
use Rattle.stack_checker.specs.declared.types.Part.TheVariants as parts
use Rattle.stack_reader.specs.declared.errors.ReadError.{ReadError}
use Rattle.stack_table.specs.declared.types.Step.{Step}
use Rattle.stack_table.specs.declared.types.Step.TheVariants as steps
use Rattle.stack_run.specs.declared.place.RunPlace.{RunPlace}
use Rattle.stack_extract.specs.declared.types.Numbers.{Numbers}
use Rattle.stack_extract.specs.declared.types.Numbers.TheVariants as numbers
use Rattle.stack_extract.specs.declared.types.EndStep.{EndStep}
use Rattle.stack_extract.specs.declared.types.EndStep.TheVariants as end_steps
use Rattle.stack_extract.specs.declared.types.ExtractPlace.{ExtractPlace}
use Rattle.stack_lines.specs.declared.refusal.Input.{Input}
use Rattle.stack_lines.specs.declared.refusal.Input.TheVariants as inputs
use Rattle.stack_lines.specs.declared.refusal.Within.{Within}
use Rattle.stack_lines.specs.declared.refusal.Within.TheVariants as withins
use Rattle.stack_lines.specs.declared.refusal.ReachPlace.{ReachPlace}
use Rattle.stack_lines.specs.declared.refusal.ReachPlace.TheVariants as reach_places
use Rattle.stack_lines.specs.declared.refusal.Place.{Place as CodePlace}
use Rattle.stack_lines.specs.declared.refusal.Place.TheVariants as code_places
use Rattle.stack_lines.specs.declared.refusal.Refusal.{Refusal as CodeRefusal}
use Rattle.stack_lines.specs.declared.refusal.Refusal.TheVariants as code
use Rattle.stack_lines.specs.ModelLines.{fault_text}

-- Where a check meets a number that is too wide: at a bearing's cone, by its number from 0; at one of the three sums
-- of a block, by its name; at a bearing's velocities, or its test; at a power; at the two
-- powers times scale and factor, or their sum.
pub data Place : Type 0 where
  cone_at : ℕ → Place
  balance_of : List ℕ → Axis → Place
  resisted_at : ℕ → Place
  work : Place
  apart : Place

-- Why the work on a form refuses: a file is too long; the model's file has a fault; two bodies overlap, which go by
-- their names; the bearings are too many; a built-in model has no such size; no certificate can begin with the lines of
-- the certificate's text up to one, which is counted from 1; the order's text, or that of the directions, is faulty at
-- a line, from 1; a number of the check, of the run, of what is made of its end, of a reach or of the table of forces
-- is too wide; a pivot is due when the budget's are done; no live load is listed; two numbers name no two loads that
-- make a region, and this one is at fault; memory ran out.
pub data Fault : Type 0 where
  long : Input → Fault
  content : ReadError → Fault
  overlap : List ℕ → List ℕ → Fault
  many_bearings : ℕ → Fault
  size : Fault
  certificate_line : ℕ → Fault
  order_line : ℕ → Fault
  directions_line : ℕ → Fault
  wide_check : Within → Part → Place → Fault
  wide_run : Within → RunPlace → Fault
  wide_end : Within → ExtractPlace → Fault
  wide_reach : Within → ReachPlace → Fault
  wide_table : ℕ → Fault
  over_budget : ℕ → Fault
  no_live : Fault
  no_pair : ℕ → Fault
  memory : Fault

-- Why a run refuses: the words are no form; a file isn't read; the work has a fault; the answer isn't written.
pub data Refusal : Type 0 where
  words : Refusal
  file : Input → Refusal
  faulty : Fault → Refusal
  output : Refusal

-- The place, and the refusal, that the code holds.
abbrev pub place_view : CodePlace → Place
place_view (code_places.Cone k) = cone_at k
place_view (code_places.Balance name axis) = balance_of (string_bytes name) axis
place_view (code_places.Resisted k) = resisted_at k
place_view code_places.Work = work
place_view code_places.Apart = apart

-- A refusal by its meaning: names are bytes, and that memory ran out is a fault of the work.
abbrev pub refusal_view : CodeRefusal → Refusal
refusal_view code.Words = words
refusal_view (code.File input) = file input
refusal_view (code.Long input) = faulty (long input)
refusal_view (code.Fault e) = faulty (content e)
refusal_view (code.Overlap first second) = faulty (overlap (string_bytes first) (string_bytes second))
refusal_view (code.ManyBearings count) = faulty (many_bearings count)
refusal_view code.Size = faulty size
refusal_view (code.CertificateLine number) = faulty (certificate_line number)
refusal_view (code.OrderLine number) = faulty (order_line number)
refusal_view (code.DirectionsLine number) = faulty (directions_line number)
refusal_view (code.WideCheck within part place) = faulty (wide_check within part (place_view place))
refusal_view (code.WideRun within place) = faulty (wide_run within place)
refusal_view (code.WideEnd within place) = faulty (wide_end within place)
refusal_view (code.WideReach within place) = faulty (wide_reach within place)
refusal_view (code.WideTable index) = faulty (wide_table index)
refusal_view (code.Spent budget) = faulty (over_budget budget)
refusal_view code.NoLive = faulty no_live
refusal_view (code.NoPair load) = faulty (no_pair load)
refusal_view code.Output = output
refusal_view code.Memory = faulty memory

-- The status with which the program ends.
abbrev pub fault_status : Fault → ℕ
fault_status (long input) = 4
fault_status (content e) = 5
fault_status (overlap first second) = 5
fault_status (many_bearings count) = 5
fault_status size = 5
fault_status (certificate_line number) = 6
fault_status (wide_check within part place) = 7
fault_status (wide_run within place) = 7
fault_status (wide_end within place) = 7
fault_status (wide_reach within place) = 7
fault_status (wide_table index) = 7
fault_status (over_budget budget) = 8
fault_status no_live = 9
fault_status memory = 11
fault_status (order_line number) = 13
fault_status (directions_line number) = 14
fault_status (no_pair load) = 15

-- Words, files and the output have statuses of their own; a fault of the work has the status above.
abbrev pub status_of : Refusal → ℕ
status_of words = 2
status_of (file input) = 3
status_of (faulty f) = fault_status f
status_of output = 10

-- The file that a line is about.
abbrev pub input_word : Input → List ℕ
input_word inputs.Model = codes "model"
input_word inputs.Certificate = codes "certificate"
input_word inputs.Order = codes "order"
input_word inputs.Directions = codes "directions"

-- The part of a certificate that a line is about.
abbrev pub part_word : Part → List ℕ
part_word parts.First = codes "first"
part_word parts.Second = codes "second"

-- The sum of a block that a line is about: along x, along y, or of moments.
abbrev pub axis_word : Axis → List ℕ
axis_word axes.X = codes "x"
axis_word axes.Y = codes "y"
axis_word axes.M = codes "m"

-- What makes the number that is too wide: a ratio, or a division, product or difference of a pivot.
abbrev pub step_word : Step → List ℕ
step_word steps.Ratio = codes "ratio"
step_word steps.Divide = codes "divide"
step_word steps.Multiply = codes "multiply"
step_word steps.Subtract = codes "subtract"

-- What was to be made of the end: forces, a motion, or a ray.
abbrev pub numbers_word : Numbers → List ℕ
numbers_word numbers.Forces = codes "forces"
numbers_word numbers.Motion = codes "motion"
numbers_word numbers.Ray = codes "ray"

-- What makes it there: 1 is taken off, or a common scale, a whole number or a bearing's parts are made.
abbrev pub end_step_word : EndStep → List ℕ
end_step_word end_steps.Shift = codes "shift"
end_step_word end_steps.Scale = codes "scale"
end_step_word end_steps.Whole = codes "whole"
end_step_word end_steps.Part = codes "part"

-- The place of a number in a run, and in what is made of its end, as they are counted there.
abbrev pub spot_text : RunPlace → List ℕ
spot_text p = decimal p.row ++ codes " " ++ decimal p.column ++ codes " " ++ step_word p.step

-- The phase, and the pivot, which is counted from 1, come before the place in that pivot.
abbrev pub run_text : RunPlace → List ℕ
run_text p = decimal p.phase ++ codes " " ++ decimal p.pivot ++ codes " " ++ spot_text p

-- The list, the step, and the index, which is counted from 0.
abbrev pub end_text : ExtractPlace → List ℕ
end_text p = numbers_word p.list ++ codes " " ++ end_step_word p.step ++ codes " " ++ decimal p.index

-- A bearing goes by its number from 1.
abbrev pub place_text : Place → List ℕ
place_text (cone_at k) = codes "cone " ++ decimal (k + 1)
place_text (balance_of name axis) = codes "balance " ++ name ++ codes " " ++ axis_word axis
place_text (resisted_at k) = codes "resisted " ++ decimal (k + 1)
place_text work = codes "work"
place_text apart = codes "apart"

-- The place in a check, with the part of the certificate.
abbrev pub check_text : Part → Place → List ℕ
check_text part place = codes "check " ++ part_word part ++ codes " " ++ place_text place

-- Which number of a reach a line is about: the power of the first load or of the second, or a coordinate of the point.
abbrev pub reach_word : ReachPlace → List ℕ
reach_word reach_places.First = codes "first"
reach_word reach_places.Second = codes "second"
reach_word reach_places.Point = codes "point"

-- Which of a form's judgements a line is about: its only one or its first, the least side of a range, a stage of an
-- order of building, or a direction of two loads, each by its number from 1.
abbrev pub within_text : Within → List ℕ
within_text withins.Whole = []
within_text withins.LeastSide = codes "least "
within_text (withins.Stage number) = codes "stage " ++ decimal number ++ codes " "
within_text (withins.Direction number) = codes "dir " ++ decimal number ++ codes " "

-- The line of a fault of the work.
abbrev pub fault_line : Fault → List ℕ
fault_line (long input) = codes "long " ++ input_word input
fault_line (content e) = codes "model " ++ fault_text e
fault_line (overlap first second) = codes "model overlap " ++ first ++ codes " " ++ second
fault_line (many_bearings count) = codes "model too many bearings " ++ decimal count
fault_line size = codes "model size"
fault_line (certificate_line number) = codes "certificate line " ++ decimal number
fault_line (order_line number) = codes "order line " ++ decimal number
fault_line (directions_line number) = codes "directions line " ++ decimal number
fault_line (wide_check within part place) = codes "wide " ++ within_text within ++ check_text part place
fault_line (wide_run within place) = codes "wide " ++ within_text within ++ (codes "run " ++ run_text place)
fault_line (wide_end within place) = codes "wide " ++ within_text within ++ (codes "end " ++ end_text place)
fault_line (wide_reach within place) = codes "wide " ++ within_text within ++ reach_word place
fault_line (wide_table index) = codes "wide table " ++ decimal index
fault_line (over_budget budget) = codes "spent " ++ decimal budget
fault_line no_live = codes "no live load"
fault_line (no_pair load) = codes "no pair " ++ decimal load
fault_line memory = codes "memory"

-- A refusal's line names the words, the file that isn't read, the fault, or the output.
abbrev pub refusal_line : Refusal → List ℕ
refusal_line words = codes "words"
refusal_line (file input) = codes "file " ++ input_word input
refusal_line (faulty f) = fault_line f
refusal_line output = codes "output"
