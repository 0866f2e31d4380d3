-- How ways through work begin, go on and stop, and where their values come from.
use Rattle.std.proofs.Common.{ℕ, List, [], ◌∷◌, ◌++◌, inl, inr, Result, Ok, Err, subst, sym, refl}
use Rattle.stack_lines.specs.Refusals.{Refusal, faulty, memory}
use Rattle.stack_work.specs.Work.{Work, gives, refuses, reads, surveys, ◌>>=◌, Holds, Ends}

-- Memory may be wanting before anything is done.
pub wanting : {A : Type 0} (holds : Holds) (w : Work A) → Ends holds w [] (Err (faulty memory))
wanting holds (gives x) = (refl, refl)
wanting holds (refuses q) = (refl, inr refl)
wanting holds (reads input name k) = refl
wanting holds (surveys s k) = inl (refl, refl)

-- The work gave a value, and further work on it came to an end.
pub goes_on : {A B : Type 0} (holds : Holds) (w : Work A) (f : A → Work B) (names more : List (List ℕ)) (a : A)
    (end : Result B Refusal) → Ends holds w names (Ok a) → Ends holds (f a) more end
    → Ends holds (w >>= f) (names ++ more) end
goes_on holds (gives x) f names more a end p q =
    subst (λ ns. Ends holds (f x) (ns ++ more) end) (sym p.0) (subst (λ y. Ends holds (f y) more end) (sym p.1) q)
goes_on holds (refuses r) f names more a end p q = absurd p.1
goes_on holds (reads input name k) f [] more a end p q = absurd p
goes_on holds (reads input name k) f (n ∷ ns) more a end (same, inl h) q = absurd h.1
goes_on holds (reads input name k) f (n ∷ ns) more a end (same, inr h) q =
    (same, inr (h.0, h.1, goes_on holds (k h.0) f ns more a end h.2 q))
goes_on holds (surveys s k) f names more a end (inl h) q = absurd h.1
goes_on holds (surveys s k) f names more a end (inr h) q =
    inr (h.0, h.1, goes_on holds (k h.0) f names more a end h.2 q)

-- The work refused, so further work on its value is not begun.
pub stops : {A B : Type 0} (holds : Holds) (w : Work A) (f : A → Work B) (names : List (List ℕ)) (r : Refusal)
    → Ends holds w names (Err r) → Ends holds (w >>= f) names (Err r)
stops holds (gives x) f names r p =
    subst (λ ns. Ends holds (f x) ns (Err r)) (sym p.0)
    (subst (λ q. Ends holds (f x) [] (Err q)) (sym p.1) (wanting holds (f x)))
stops holds (refuses q) f names r p = p
stops holds (reads input name k) f [] r p = p
stops holds (reads input name k) f (n ∷ ns) r (same, inl h) = (same, inl h)
stops holds (reads input name k) f (n ∷ ns) r (same, inr h) =
    (same, inr (h.0, h.1, stops holds (k h.0) f ns r h.2))
stops holds (surveys s k) f names r (inl h) = inl h
stops holds (surveys s k) f names r (inr h) = inr (h.0, h.1, stops holds (k h.0) f names r h.2)

-- A value of work after other work came of a value of that.
pub came_from : {A B : Type 0} (holds : Holds) (w : Work A) (f : A → Work B) (names : List (List ℕ)) (b : B)
    → Ends holds (w >>= f) names (Ok b)
    → (a : A) × (front : List (List ℕ)) × (rest : List (List ℕ)) × Ends holds w front (Ok a)
    × Ends holds (f a) rest (Ok b)
came_from holds (gives x) f names b p = (x, [], names, (refl, refl), p)
came_from holds (refuses q) f names b p = absurd p.1
came_from holds (reads input name k) f [] b p = absurd p
came_from holds (reads input name k) f (n ∷ ns) b (same, inl h) = absurd h.1
came_from holds (reads input name k) f (n ∷ ns) b (same, inr h) =
    let c = came_from holds (k h.0) f ns b h.2 in
    (c.0, n ∷ c.1, c.2, (same, inr (h.0, h.1, c.3)), c.4)
came_from holds (surveys s k) f names b (inl h) = absurd h.1
came_from holds (surveys s k) f names b (inr h) =
    let c = came_from holds (k h.0) f names b h.2 in
    (c.0, c.1, c.2, inr (h.0, h.1, c.3), c.4)
