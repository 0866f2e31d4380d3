use Rattle.std.proofs.Common.{◌≡◌, ap, sym, ◌∙◌, ℕ, ◌+◌, ◌<◌, ◌≤◌, List, ◌++◌, length, get_or, drop, ℤ}
use Rattle.std.proofs.Common.{append_assoc, append-nil, add-one, drop-cons, refl, subst, Vec}
use Rattle.std.specs.declared.alloc.Global.{Global}
use Rattle.std.proofs.Math.ListN.{drop_of_length-le}
use Rattle.stack_model.specs.declared.types.Load.{Load}
use Rattle.stack_pairs.specs.Directed.{directed_load, directed_from}
use Rattle.stack_directions.proofs.directing.directed_loads.Goals.{in-Some+in_ok-push, in_default}
use Rattle.stack_directions.proofs.directing.directed_loads.Goals as goal

-- what is left of a load, and then of those after it
one_more : (i j : ℕ) (m n : ℤ) (k : ℕ) (ls : List Load) (d : Load) (front next left all : List Load) → k < length ls
    → left ≡ directed_load i j m n k (get_or ls k d) → next ≡ front ++ left
    → all ≡ front ++ directed_from i j m n k (drop k ls)
    → all ≡ next ++ directed_from i j m n (k + 1) (drop (k + 1) ls)
one_more i j m n k ls d front next left all lt here more so_far =
    let step : directed_from i j m n k (drop k ls) ≡ left ++ directed_from i j m n (k + 1) (drop (k + 1) ls) =
    rw (add-one, drop-cons ls k d, here) refl in
    so_far ∙ ap (λ l. front ++ l) step
    ∙ sym (append_assoc front left (directed_from i j m n (k + 1) (drop (k + 1) ls)))
    ∙ ap (λ l. l ++ directed_from i j m n (k + 1) (drop (k + 1) ls)) (sym more)

pub loop-k-preserved : goal.loop-k-preserved
loop-k-preserved c =
    let t = c.args.t in
    let lt : c.loop-k.k < length c.args.model.now.loads =
    subst (λ n. c.loop-k.k < n) c.loads-k-end.ensures.value c.loop-k-test.true in
    elim c.match-left.branch [
      | in-Some+in_ok-push w ↦ one_more t.i t.j t.m t.n c.loop-k.k c.args.model.now.loads _ _ _ _ _ lt w.in-Some.ensures
          (ap (λ (v : Vec Load Global). v.items) w.list-is ∙ w.in_ok-push.ensures.items) c.loop-k.invariant
      | in_default w ↦ one_more t.i t.j t.m t.n c.loop-k.k c.args.model.now.loads _ _ _ _ _ lt w.in_default.ensures
          (ap (λ (v : Vec Load Global). v.items) w.list-is ∙ sym (append-nil c.loop-k.list.items)) c.loop-k.invariant
    ]

pub returns : goal.returns
returns c =
    let t = c.args.t in
    let le : length c.args.model.now.loads ≤ c.loop-k.k =
    subst (λ n. n ≤ c.loop-k.k) c.loads-k-end.ensures.value c.loop-k-test.false in
    let done : c.loop-k.list.items ++ directed_from t.i t.j t.m t.n c.loop-k.k (drop c.loop-k.k c.args.model.now.loads)
    ≡ c.loop-k.list.items = rw (drop_of_length-le c.args.model.now.loads le) (append-nil c.loop-k.list.items) in
    sym (c.loop-k.invariant ∙ done)
