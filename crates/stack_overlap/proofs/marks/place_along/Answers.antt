use Rattle.std.proofs.Common.{◌∙◌, rules, w64}
use Rattle.std.proofs.lemmas.Int.{to_z-of_z}
use Rattle.stack_overlap.proofs.ByForms.{advance-form}
use Rattle.stack_overlap.proofs.marks.place_along.Goals as goal

pub returns : goal.returns
returns c = to_z-of_z w64 _ (search rules) ∙ c.advance.ensures ∙ advance-form c.args.a c.args.b c.args.c
