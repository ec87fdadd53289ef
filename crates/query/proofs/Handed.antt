-- What is handed back is the basic set itself: the bytes of part k are those of basic set k of the set that the table decodes to.
use mathlib.Core.Path.{◌≡◌, refl, sym, ap, ◌∙◌}
use mathlib.Core.List.{List, [], ◌∷◌, ◌++◌}
use Prim.Native.Nat.{ℕ, zero, suc, ◌<◌}
use native.Mathlib.Nat.{not-suc-le-zero, le_of_suc-le-suc}
use lib.Dec.{ltb, lt→ltb}
use lib.ListN.{length, take, drop, get_or, take-append-drop}
use lib.Seq.{take_at, drop_at}
use Rattle.model.specs.Sets.{BasicSet, Set}
use Rattle.model.proofs.Count.{from-T}
use Rattle.codec.specs.Bytes.{gives, encode, decode}
use Rattle.codec.specs.Parts.{Part, part_at, part_of, held}
use Rattle.codec.proofs.Decoded.{Bytes, encode-decode}
use Rattle.codec.proofs.Commands.{encode-more}

-- three parts of the bytes: the basic sets before i, basic set i, and those behind it
split : (s : Set) (i : ℕ) → encode s ≡ encode (take i s) ++ (encode (take 1 (drop i s)) ++ encode (drop 1 (drop i s)))
split s i =
    ap encode (sym (take-append-drop i s)) ∙ encode-more (take i s) (drop i s)
    ∙ ap (λ (l : List ℕ). encode (take i s) ++ l) (ap encode (sym (take-append-drop 1 (drop i s))) ∙ encode-more (take 1 (drop i s)) (drop 1 (drop i s)))

one : (s : Set) (i : ℕ) (d : BasicSet) → i < length s → take 1 (drop i s) ≡ get_or s i d ∷ []
one [] i d h = absurd (not-suc-le-zero h)
one (b ∷ s) zero d h = refl
one (b ∷ s) (suc i) d h = one s i d (le_of_suc-le-suc h)

pub part_bytes : (n : ℕ) (t : List ℕ) (s : Set) → Bytes t → decode n t ≡ gives s → (i : ℕ) (d : BasicSet) → i < length s → held (part_of n t (suc i)) t ≡ encode (get_or s i d ∷ [])
unfolding part_of
part_bytes n t s p e i d h =
    let there : part_of n t (suc i) ≡ part_at s i = rw (e, from-T (ltb i (length s)) (lt→ltb i (length s) h)) in
    let whole : t ≡ encode (take i s) ++ (encode (take 1 (drop i s)) ++ encode (drop 1 (drop i s))) = sym (encode-decode n t s p e) ∙ split s i in
    ap (λ (q : Part). held q t) there
    ∙ ap (λ (l : List ℕ). take (length (encode (take 1 (drop i s)))) (drop (length (encode (take i s))) l)) whole
    ∙ ap (take (length (encode (take 1 (drop i s))))) (drop_at (encode (take i s)) (encode (take 1 (drop i s)) ++ encode (drop 1 (drop i s))) (length (encode (take i s))) refl)
    ∙ take_at (encode (take 1 (drop i s))) (encode (drop 1 (drop i s))) (length (encode (take 1 (drop i s)))) refl
    ∙ ap encode (one s i d h)
