use Rattle.std.proofs.Common.{◌≡◌, ◌∙◌, ap, rules, ℤ, pos, neg_ℤ, List, [], ◌∷◌, ◌++◌, append_assoc, SFits, to_z, of_z}
use Rattle.std.specs.Result.{IfOk}
use Rattle.std.specs.Prelude.{Result, Ok, Err}
use mir.Syntax.{w128}
use Rattle.std.proofs.lemmas.Int.{to_z-of_z}
use Rattle.stack_whole.specs.declared.whole.Whole.{Whole}
use Rattle.stack_whole.specs.Whole.{whole}
use Rattle.stack_posing.specs.Entries.{opposites}
use Rattle.stack_posing.proofs.entries.with_right_sides.Goals as goal

-- an opposite as it is stored
stored : (v : Whole) (z : ℤ) → SFits w128 z → v ≡ whole (neg_ℤ (to_z w128 (of_z w128 z))) → v.value ≡ neg_ℤ z
stored v z f e = ap (λ (w : Whole). w.value) e ∙ ap neg_ℤ (to_z-of_z w128 z f)

-- three items, put one after the other
three : (xs ys zs ws : List ℤ) (a b c u v w : ℤ) → ys ≡ xs ++ a ∷ [] → zs ≡ ys ++ b ∷ [] → ws ≡ zs ++ c ∷ []
    → a ≡ u → b ≡ v → c ≡ w → ws ≡ xs ++ u ∷ v ∷ w ∷ []
three xs ys zs ws a b c u v w p q r i j k = r ∙ ap (λ t. t ++ c ∷ []) (q ∙ ap (λ t. t ++ b ∷ []) p)
    ∙ ap (λ t. t ++ c ∷ []) (append_assoc xs (a ∷ []) (b ∷ [])) ∙ append_assoc xs (a ∷ b ∷ []) (c ∷ [])
    ∙ (λ n. xs ++ i n ∷ j n ∷ k n ∷ [])

mapped : {V E : Type 0} (P Q : V → Type 0) (r : Result V E) → ((x : V) → P x → Q x) → IfOk r P → IfOk r Q
mapped P Q (Ok x) f h = f x h
mapped P Q (Err e) f h = tt

pub returns : goal.returns
returns c =
    let fx : SFits w128 c.args.wrench.fx = search rules in
    let fy : SFits w128 c.args.wrench.fy = search rules in
    let m : SFits w128 c.args.wrench.m = search rules in
    mapped _ (λ v. v.items ≡ c.args.right.items ++ opposites c.args.wrench) c.with_right_side-3.result
    (λ v e. three c.args.right.items c.in_ok-right.right.items c.in_ok-right-2.right.items v.items
    c.opposite.result.value c.opposite-2.result.value c.opposite-3.result.value _ _ _
    c.in_ok-right.ensures c.in_ok-right-2.ensures e
    (stored c.opposite.result c.args.wrench.fx fx c.opposite.ensures)
    (stored c.opposite-2.result c.args.wrench.fy fy c.opposite-2.ensures)
    (stored c.opposite-3.result c.args.wrench.m m c.opposite-3.ensures)) c.with_right_side-3.ensures
