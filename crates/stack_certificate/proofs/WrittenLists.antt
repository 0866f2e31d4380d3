-- Lists that are written line by line.
use Rattle.std.proofs.Common.{◌≡◌, ℕ, ◌+◌, ◌<◌, ◌≤◌, List, [], ◌∷◌, ◌++◌, length, get_or, take, map, refl, sym, ap}
use Rattle.std.proofs.Common.{◌∙◌, append_assoc}
use Rattle.std.proofs.lemmas.List.{map-append, append-nil, take_more, take_all}
use Rattle.stack_certificate.specs.declared.line.Line.{Line}
use Rattle.stack_certificate.specs.Lines.{line_text}
use Rattle.stack_certificate.specs.CertificateText.{text_of}

-- the text of lists one after the other
pub text_append : (xs ys : List Line) → text_of (xs ++ ys) ≡ text_of xs ++ text_of ys
text_append [] ys = refl
text_append (x ∷ xs) ys =
    ap (λ bs. line_text x ++ bs) (text_append xs ys) ∙ sym (append_assoc (line_text x) (text_of xs) (text_of ys))

-- the first line of a list, and the lines of its first i items
abbrev pub front : {A : Type 0} → Line → (A → Line) → List A → ℕ → List Line
front first line items i = first ∷ map line (take i items)

pub one_more : {A : Type 0} (first : Line) (line : A → Line) (items : List A) (i : ℕ) (d item : A)
    (done out after : List ℕ) → i < length items → item ≡ get_or items i d
    → out ≡ done ++ text_of (front first line items i) → after ≡ out ++ line_text (line item)
    → after ≡ done ++ text_of (front first line items (i + 1))
one_more first line items i d item done out after lt is before put =
    let l = line (get_or items i d) in
    let more : front first line items (i + 1) ≡ front first line items i ++ l ∷ [] =
    ap (λ xs. first ∷ map line xs) (take_more items i d lt)
    ∙ ap (λ ls. first ∷ ls) (map-append line (take i items) (get_or items i d ∷ [])) in
    let text : text_of (front first line items (i + 1)) ≡ text_of (front first line items i) ++ line_text l =
    ap text_of more
    ∙ (text_append (front first line items i) (l ∷ [])
    ∙ ap (λ bs. text_of (front first line items i) ++ bs) (append-nil (line_text l))) in
    put
    ∙ ((λ k. before k ++ line_text (line (is k)))
    ∙ (append_assoc done (text_of (front first line items i)) (line_text l) ∙ ap (λ bs. done ++ bs) (sym text)))

-- all lines, once no item is left
pub all_put : {A : Type 0} (first : Line) (line : A → Line) (items : List A) (i : ℕ) (out after : List ℕ)
    → length items ≤ i → after ≡ out ++ text_of (front first line items i)
    → after ≡ out ++ text_of (first ∷ map line items)
all_put first line items i out after over put =
    put ∙ ap (λ xs. out ++ text_of (first ∷ map line xs)) (take_all i items over)

-- a form and two lists, one after the other
pub two_put : (first : Line) (xs ys : List Line) (out begun further after : List ℕ)
    → begun ≡ out ++ line_text first → further ≡ begun ++ text_of xs → after ≡ further ++ text_of ys
    → after ≡ out ++ text_of (first ∷ (xs ++ ys))
two_put first xs ys out begun further after e f g =
    g
    ∙ (ap (λ bs. bs ++ text_of ys) (f ∙ ap (λ bs. bs ++ text_of xs) e)
    ∙ (ap (λ bs. bs ++ text_of ys) (append_assoc out (line_text first) (text_of xs))
    ∙ (append_assoc out (line_text first ++ text_of xs) (text_of ys)
    ∙ ap (λ bs. out ++ bs)
    (append_assoc (line_text first) (text_of xs) (text_of ys)
    ∙ ap (λ bs. line_text first ++ bs) (sym (text_append xs ys))))))

-- the last line, behind all others
pub last_put : (ls : List Line) (line : Line) (none out after : List ℕ) → none ≡ [] → out ≡ none ++ text_of ls
    → after ≡ out ++ line_text line → after ≡ text_of (ls ++ line ∷ [])
last_put ls line none out after h e f =
    f
    ∙ (ap (λ bs. bs ++ line_text line) (e ∙ ap (λ bs. bs ++ text_of ls) h)
    ∙ sym (text_append ls (line ∷ []) ∙ ap (λ bs. text_of ls ++ bs) (append-nil (line_text line))))
