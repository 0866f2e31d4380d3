use Rattle.std.proofs.Common.{List, ap, ◌∙◌, arith, ℤ}
use Rattle.stack_whole.specs.Whole.{fits}
use Rattle.stack_extract.specs.WholeLists.{amount}
use Rattle.stack_extract.specs.declared.types.Numbers.TheVariants.{Motion}
use Rattle.stack_extract.proofs.Made.{each_fits, as_many}
use Rattle.stack_extract.proofs.motions.from_list.Goals as goal

pub moves_of-requires-clause-fits : goal.moves_of-requires-clause-fits
moves_of-requires-clause-fits g c k l =
    let n = as_many Motion c.args.list.now c.in_ok-whole.whole.scale c.in_ok-whole.whole.numbers.items
    c.in_ok-whole.ensures.ok in
    ap (λ (zs : List ℤ). fits (amount zs k)) c.deref.ensures.value
    ∙ each_fits Motion c.args.list.now c.in_ok-whole.whole.scale c.in_ok-whole.whole.numbers.items
    c.in_ok-whole.ensures.ok k (omega (arith, l, n, c.requires.listed, c.free_count.ensures.value))
