-- The lines as the concatenation of what is written.
use mathlib.Core.Path.{◌≡◌, ap, ap₂, sym, ◌∙◌}
use mathlib.Core.List.{List, [], ◌∷◌, ◌++◌, append-nil, append_assoc}
use Prim.Native.Nat.{ℕ, ◌≤◌}
use lib.IntN.{ℤ, pos}
use lib.ListN.{take, drop}
use Rattle.model.specs.Lists.{concat_map}
use Rattle.model.specs.Sets.{Kind}
use Rattle.codec.specs.Bytes.{value_of, signed_list, axes_place, divisions_place, constant_in, axes_in, divisions_in, read_division, read_constraint}
use Rattle.listing.specs.Text.{codes, number, line, word, division_line, constraint_line}
use Rattle.listing.specs.Written.{signed_in}
use Rattle.listing.proofs.Writing.{concat-append, signed-take}

-- a word and one number
pub one_number : (w : List ℕ) (k : ℕ) → w ++ (number (pos k) ++ (10 ∷ [])) ≡ w ++ (concat_map number (pos k ∷ []) ++ (10 ∷ []))
one_number w k = ap (λ (x : List ℕ). w ++ (x ++ (10 ∷ []))) (sym (append-nil (number (pos k))))

pub division-text : (n d c : ℕ) (t : List ℕ) → n ≤ 8 → c ≡ value_of (take 4 t)
    → codes "div" ++ ((number (pos d) ++ (number (signed_in 4294967296 c) ++ concat_map number (signed_list n (drop axes_place t)))) ++ (10 ∷ [])) ≡ division_line n (read_division d t)
division-text n d c t h q =
    ap (λ (c : ℕ). codes "div" ++ ((number (pos d) ++ (number (signed_in 4294967296 c) ++ concat_map number (signed_list n (drop axes_place t)))) ++ (10 ∷ []))) q
    ∙ ap (λ (l : List ℤ). line "div" (pos d ∷ constant_in t ∷ l)) (sym (signed-take n 8 (drop axes_place t) h))

pub constraint-text : (n k c : ℕ) (kind : Kind) (t : List ℕ) → n ≤ 8 → k ≤ 8 → c ≡ value_of (take 4 t)
    → codes (word kind) ++ ((number (signed_in 4294967296 c) ++ (concat_map number (signed_list n (drop axes_place t)) ++ concat_map number (signed_list k (drop divisions_place t)))) ++ (10 ∷ [])) ≡ constraint_line n k (read_constraint kind t)
constraint-text n k c kind t h j q =
    let A : List ℤ = signed_list n (drop axes_place t) in
    let B : List ℤ = signed_list k (drop divisions_place t) in
    ap (λ (l : List ℕ). codes (word kind) ++ (l ++ (10 ∷ [])))
    (ap (λ (l : List ℕ). number (signed_in 4294967296 c) ++ l) (sym (concat-append number A B))
    ∙ ap (λ (c : ℕ). number (signed_in 4294967296 c) ++ concat_map number (A ++ B)) q
    ∙ ap₂ (λ (l m : List ℤ). number (constant_in t) ++ concat_map number (l ++ m)) (sym (signed-take n 8 (drop axes_place t) h)) (sym (signed-take k 8 (drop divisions_place t) j)))
    ∙ sym (append_assoc (codes (word kind)) (concat_map number (constant_in t ∷ (take n (axes_in t) ++ take k (divisions_in t)))) (10 ∷ []))

pub at-text : (n : ℕ) (p : List ℤ) (k : ℕ) → codes "at" ++ (concat_map number (take n p) ++ (number (pos k) ++ (10 ∷ []))) ≡ line "at" (take n p ++ (pos k ∷ []))
at-text n p k =
    ap (λ (l : List ℕ). codes "at" ++ l)
    (sym (append_assoc (concat_map number (take n p)) (number (pos k)) (10 ∷ []))
    ∙ ap (λ (l : List ℕ). (concat_map number (take n p) ++ l) ++ (10 ∷ [])) (sym (append-nil (number (pos k))))
    ∙ ap (λ (l : List ℕ). l ++ (10 ∷ [])) (sym (concat-append number (take n p) (pos k ∷ []))))
