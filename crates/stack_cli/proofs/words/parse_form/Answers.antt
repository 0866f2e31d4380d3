use Rattle.std.proofs.Common.{ap, ◌∙◌}
use Rattle.stack_cli.specs.Words.{form_of, form_of_five, form_of_six}
use Rattle.stack_cli.proofs.ManyWords.{five_words, six_words}
use Rattle.stack_cli.proofs.words.parse_form.Goals as goal

pub returns-in-len5-clause-is : goal.returns-in-len5-clause-is
returns-in-len5-clause-is c = c.form_of_five.ensures.is
    ∙ (λ i. form_of_five (c.as_str-in-len5.ensures.value i) (c.as_str-in-len5-2.ensures.value i)
    (c.as_str-in-len5-3.ensures.value i) (c.as_str-in-len5-4.ensures.value i) (c.as_str-in-len5-5.ensures.value i))
    ∙ ap form_of (five_words c.args.words.now _ _ _ _ _ c.in-len5.len_at_least c.in-len5.len_below
    c.word-item-then-words-lt6.is c.next-item-then-words-lt6.is c.third-item-then-words-lt6.is c.fourth-item.is
    c.last-item-then-words-lt6.is)

pub returns-in-len6-clause-is : goal.returns-in-len6-clause-is
returns-in-len6-clause-is c = c.form_of_six.ensures.is
    ∙ (λ i. form_of_six (c.as_str-in-len6.ensures.value i) (c.as_str-in-len6-2.ensures.value i)
    (c.as_str-in-len6-3.ensures.value i) (c.as_str-in-len6-4.ensures.value i) (c.as_str-in-len6-5.ensures.value i)
    (c.as_str-in-len6-6.ensures.value i))
    ∙ ap form_of (six_words c.args.words.now _ _ _ _ _ _ c.in-len6.len_at_least c.in-len6.len_below
    c.word-item-then-words-lt7.is c.next-item-then-words-lt7.is c.third-item-then-words-lt7.is
    c.fourth-item-then-words-lt7.is c.fifth-item.is c.last-item-then-words-lt7.is)
