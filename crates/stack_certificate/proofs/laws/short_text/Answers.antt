use Rattle.stack_certificate.proofs.TextSizes.{few_have_short_texts}
use Rattle.stack_certificate.proofs.laws.short_text.Goals as goal

pub returns : goal.returns
returns c = few_have_short_texts
