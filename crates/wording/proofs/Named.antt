-- Names appended one after another.
use Rattle.std.proofs.Common.{◌≡◌, List, ℕ, ◌++◌, codes, ap, ◌∙◌, append_assoc}

-- two, three and four names, with what stands behind each
pub two_names : (s t : List ℕ) → (s ++ codes ", ") ++ t ≡ s ++ (codes ", " ++ t)
two_names s t = append_assoc s (codes ", ") t

pub three_names : (s t u : List ℕ) → (s ++ codes ", ") ++ ((t ++ codes ", ") ++ u) ≡ s ++ (codes ", " ++ (t ++ (codes ", " ++ u)))
three_names s t u = two_names s _ ∙ ap (λ (l : List ℕ). s ++ (codes ", " ++ l)) (two_names t u)

pub four_names : (s t u v : List ℕ) →
    (s ++ codes ", ") ++ ((t ++ codes ", ") ++ ((u ++ codes ", ") ++ v)) ≡ s ++ (codes ", " ++ (t ++ (codes ", " ++ (u ++ (codes ", " ++ v)))))
four_names s t u v = two_names s _ ∙ ap (λ (l : List ℕ). s ++ (codes ", " ++ l)) (three_names t u v)
