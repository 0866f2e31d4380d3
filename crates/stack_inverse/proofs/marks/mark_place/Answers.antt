use Rattle.std.proofs.Common.{◌≢◌, refl, sym, ap, ◌∙◌, ℕ, List, length, arith}
use Rattle.stack_rational.proofs.Common.{ℕ_discrete}
use Rattle.stack_rows.specs.Marks.{mark_in}
use Rattle.stack_inverse.specs.Marks.{mark_at}
use Rattle.stack_inverse.proofs.Marked.{list_lent, list_put, wide_put}
use Rattle.stack_inverse.proofs.marks.mark_place.Goals as goal

pub put-requires : goal.put-requires
put-requires c = omega (
  arith,
  c.requires.place,
  ap length (list_lent c.args.lists.now c.args.r c.index-lists-r.result c.requires.list),
)

pub returns-clause-wide : goal.returns-clause-wide
returns-clause-wide c = wide_put c.args.lists.now c.args.r c.index-lists-r.result c.put.new.self c.requires.list
    c.put.ensures.long refl

pub returns-clause-kept : goal.returns-clause-kept
returns-clause-kept c = λ k i.
    let lists = c.args.lists.now in
    let lent = list_lent lists c.args.r c.index-lists-r.result c.requires.list in
    let new = c.put.new.self in
    list_put lists c.args.r c.index-lists-r.result new c.requires.list c.put.ensures.long refl
    (λ q m. mark_at lists q i ≢ 0 → mark_in m i ≢ 0) k (λ n was. was) (λ was z. elim (ℕ_discrete i c.args.j) [
      | yes e ↦ omega (arith, c.put.ensures.here, ap (λ q. mark_in new.words.items q) (sym e) ∙ z)
      | no n ↦ was (ap (λ (ws : List ℕ). mark_in ws i) (sym lent) ∙ sym (c.put.ensures.others i n) ∙ z)
    ])

pub returns-clause-marked : goal.returns-clause-marked
returns-clause-marked c = list_put c.args.lists.now c.args.r c.index-lists-r.result c.put.new.self c.requires.list
    c.put.ensures.long refl (λ _ m. mark_in m c.args.j ≢ 0) c.args.r (λ n. absurd (n refl))
    (λ z. omega (arith, c.put.ensures.here, z))
