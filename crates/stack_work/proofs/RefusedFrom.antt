-- Where a refusal of work on work came from.
use Rattle.std.proofs.Common.{◌≡◌, ◌≢◌, refl, sym, ap, ◌∙◌, ℕ, List, [], ◌∷◌, inl, inr, ◌⊎◌, Ok, Err}
use Rattle.std.specs.Prelude.{⊤}
use Rattle.stack_lines.specs.Refusals.{Refusal, Fault, faulty, memory, fault_status, status_of}
use Rattle.stack_work.specs.Work.{Work, gives, refuses, reads, surveys, ◌>>=◌, Found, Holds, Ends}

-- The first work refused, or it gave a value, and the work on that refused.
abbrev pub CameOf : {A B : Type 0} → Holds → Work A → (A → Work B) → Refusal → Type 0
CameOf {A} holds w f r = ((front : List (List ℕ)) × Ends holds w front (Err r))
    ⊎ ((a : A) × (front : List (List ℕ)) × (rest : List (List ℕ)) × Ends holds w front (Ok a)
    × Ends holds (f a) rest (Err r))

pub refused_from : {A B : Type 0} (holds : Holds) (w : Work A) (f : A → Work B) (names : List (List ℕ)) (r : Refusal)
    → Ends holds (w >>= f) names (Err r) → CameOf holds w f r
refused_from holds (gives x) f names r p = inr (x, [], names, (refl, refl), p)
refused_from holds (refuses q) f names r p = inl (names, p)
refused_from holds (reads input name k) f [] r p = inl ([], p)
refused_from holds (reads input name k) f (n ∷ ns) r (same, inl h) = inl (n ∷ ns, (same, inl h))
refused_from {A} holds (reads input name k) f (n ∷ ns) r (same, inr h) =
    go (refused_from holds (k h.0) f ns r h.2)
  where
    go : CameOf holds (k h.0) f r → CameOf holds (reads input name k) f r
    go (inl c) = inl (n ∷ c.0, (same, inr (h.0, h.1, c.1)))
    go (inr c) = inr (c.0, n ∷ c.1, c.2, (same, inr (h.0, h.1, c.3)), c.4)
refused_from holds (surveys s k) f names r (inl h) = inl (names, inl h)
refused_from holds (surveys s k) f names r (inr h) = go (refused_from holds (k h.0) f names r h.2)
  where
    go : CameOf holds (k h.0) f r → CameOf holds (surveys s k) f r
    go (inl c) = inl (c.0, inr (h.0, h.1, c.1))
    go (inr c) = inr (c.0, c.1, c.2, inr (h.0, h.1, c.3), c.4)

-- No refusal of this work has this status.
abbrev pub Avoids : {A : Type 0} → ℕ → Work A → Type 0
Avoids n (gives x) = ⊤
Avoids n (refuses q) = fault_status q ≢ n
Avoids n (reads input name k) = (bytes : List ℕ) → Avoids n (k bytes)
Avoids n (surveys s k) = (found : Found) → Avoids n (k found)

pub avoids_then : {A B : Type 0} (n : ℕ) (w : Work A) (f : A → Work B) → Avoids n w → ((a : A) → Avoids n (f a))
    → Avoids n (w >>= f)
avoids_then n (gives x) f h k = k x
avoids_then n (refuses q) f h k = h
avoids_then n (reads input name j) f h k = λ bytes. avoids_then n (j bytes) f (h bytes) k
avoids_then n (surveys s j) f h k = λ found. avoids_then n (j found) f (h found) k

of_fault : (n : ℕ) (q : Fault) (r : Refusal) → fault_status q ≢ n → n ≢ 11
    → (r ≡ faulty q) ⊎ (r ≡ faulty memory) → status_of r ≢ n
of_fault n q r other not_memory (inl same) = λ is. other (sym (ap status_of same) ∙ is)
of_fault n q r other not_memory (inr same) = λ is. not_memory (sym is ∙ ap status_of same)

-- So no way through it ends with a refusal of that status, but for want of memory and a file that isn't read.
pub avoids_end : {A : Type 0} (n : ℕ) (holds : Holds) (w : Work A) (names : List (List ℕ)) (r : Refusal)
    → n ≢ 11 → n ≢ 3 → Avoids n w → Ends holds w names (Err r) → status_of r ≢ n
avoids_end n holds (gives x) names r m t h p = λ is. m (sym is ∙ ap status_of p.1)
avoids_end n holds (refuses q) names r m t h p = of_fault n q r h m p.1
avoids_end n holds (reads input name k) [] r m t h p = λ is. m (sym is ∙ ap status_of p)
avoids_end n holds (reads input name k) (a ∷ ns) r m t h (same, inl p) = λ is. t (sym is ∙ ap status_of p.1)
avoids_end n holds (reads input name k) (a ∷ ns) r m t h (same, inr p) =
    avoids_end n holds (k p.0) ns r m t (h p.0) p.2
avoids_end n holds (surveys s k) names r m t h (inl p) = λ is. m (sym is ∙ ap status_of p.1)
avoids_end n holds (surveys s k) names r m t h (inr p) = avoids_end n holds (k p.0) names r m t (h p.0) p.2
