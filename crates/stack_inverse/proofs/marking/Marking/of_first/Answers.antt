use Rattle.std.proofs.Common.{◌≡◌, false, true, sym, ap, ◌∙◌, suc, ◌+◌, ◌/◌, length, arith}
use Rattle.stack_inverse.proofs.PlacesKept.{first_told}
use Rattle.stack_inverse.proofs.marking.Marking.of_first.Goals as goal

pub invariant_of-result : goal.invariant_of-result
invariant_of-result c = record {
  places_wide = λ r l. c.in_ok-places.ensures.wide r l ∙ sym c.in_ok-touched.ensures.long;
  uses_long = c.in_ok-uses.ensures.long ∙ sym c.in_ok-places.ensures.long;
  uses_wide = λ r l. c.in_ok-uses.ensures.wide r l ∙ sym (c.fill.ensures.long ∙ c.in_ok-open.ensures.long
      ∙ ap (λ w. suc (w / 64)) (c.len.ensures ∙ c.args.first.now.columns.ok.0));
}

pub returns : goal.returns
returns c = λ right s filled.
    let f = c.args.first.now in
    let places = c.in_ok-places.ensures in
    let room : length c.in_ok-open.open.words.items ≡ suc (length f.columns.items / 64) =
    c.in_ok-open.ensures.long ∙ ap (λ w. suc (w / 64)) (c.len.ensures ∙ f.columns.ok.0) in
    let tall : f.rows + 1 ≡ suc f.rows = omega arith in
    record {
      places_long = places.long;
      touched_long = c.in_ok-touched.ensures.long ∙ ap (λ w. suc (w / 64)) tall;
      open_long = c.fill.ensures.long ∙ room;
      told = first_told f.rows right s c.in_ok-places.places.items filled places.diagonal;
      used = c.in_ok-uses.ensures.uses;
      each_fits = λ e. let b : false ≡ true = e in absurd cc;
      clean = λ j l z. absurd (omega (arith, c.fill.ensures.each j (omega (arith, l, room)), z));
    }
