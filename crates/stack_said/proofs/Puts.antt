-- Nothing is put on the output where the work refuses, and its status isn't that of an output that failed.
use Rattle.std.proofs.Common.{◌≡◌, ◌≢◌, ℕ, ◌⊎◌, inl, inr, Option, Result, Err, subst, sym, ap, refl, ◌∙◌, arith}
use Rattle.std.specs.Bool.{⊤}
use Rattle.stack_work.proofs.Common.{Answer, Form, Refusal, ReturnsAnswer, ShelfSeen, StreamSeen, Works, faulty, file}
use Rattle.stack_work.proofs.Common.{output, refusal_view, status_of, words}
use Rattle.stack_lines.specs.declared.refusal.Refusal.{Refusal as CodeRefusal}
use Rattle.stack_lines.specs.declared.refusal.Refusal.TheVariants as code
use Rattle.stack_said.specs.Delivery.{TakesMemory}
use Rattle.stack_said.specs.OnePut.{PutsAnswer}
use Rattle.stack_said.proofs.Returned.{not_output, fault_past_output, from_two}

-- work never refuses since the output failed
pub work_refuses_otherwise : (form : Option Form) (shelf : ShelfSeen) (worked : Result Answer CodeRefusal)
    → Works form shelf worked → worked ≢ Err code.Output
work_refuses_otherwise form shelf worked w same =
    not_output shelf.holds form w.names (subst (ReturnsAnswer shelf.holds form w.names) same w.comes)

is_output : (r : Refusal) → status_of r ≡ 10 → r ≡ output
is_output words e = absurd (omega (arith, e))
is_output (file input) e = absurd (omega (arith, e))
is_output (faulty f) e = absurd (fault_past_output f (sym e))
is_output output e = refl

-- a type that is empty for the refusal of an output that failed alone
abbrev IsOther : Refusal → Type 0
IsOther output = ⊥
IsOther _ = ⊤

code_output : (r : CodeRefusal) → (r ≡ code.Output) ⊎ IsOther (refusal_view r)
code_output code.Output = inl refl
code_output _ = inr tt

not_ten : (r q : CodeRefusal) → (q ≡ r) ⊎ (TakesMemory (refusal_view r) × (q ≡ code.Memory)) → r ≢ code.Output
    → status_of (refusal_view q) ≢ 10
not_ten r q (inr want) other e =
    let h : 11 ≡ 10 = sym (ap (λ t. status_of (refusal_view t)) want.1) ∙ e in absurd (omega (arith, h))
not_ten r q (inl same) other e = go (code_output q)
  where
    go : (q ≡ code.Output) ⊎ IsOther (refusal_view q) → ⊥
    go (inl is) = other (sym same ∙ is)
    go (inr is) = subst IsOther (is_output (refusal_view q) e) is

pub puts_nothing : (worked : Result Answer CodeRefusal) (r q : CodeRefusal) (status : ℕ) (out : StreamSeen)
    → worked ≡ Err r → (q ≡ r) ⊎ (TakesMemory (refusal_view r) × (q ≡ code.Memory))
    → status ≡ status_of (refusal_view q) → out.calls_after ≡ out.calls → worked ≢ Err code.Output
    → PutsAnswer status out
puts_nothing worked r q status out is which status_is kept other n calls few =
    let h = from_two (refusal_view q) in
    inr (
      kept ∙ calls,
      omega (arith, h, status_is),
      λ ten. not_ten r q which (λ same. other (is ∙ ap Err same)) (sym status_is ∙ ten),
    )
