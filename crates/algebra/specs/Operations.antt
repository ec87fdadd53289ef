-- The four operations on the bytes of sets, n axes and a result table of `room` bytes (document 01, "Cutting rules", "Refused").
-- Order of the refusals: 1; those of the first set; those of the second; 10; 11.
use Rattle.std.specs.Prelude.{Bool, cond, List, ℕ, leb, length}
use Rattle.model.specs.Refusals.{over_limit, table_full}
use Rattle.model.specs.Sets.{Set}
use Rattle.codec.specs.Bytes.{Answer, refused, gives, encode, decode}
use Rattle.algebra.specs.Cut.{keeps, union, union_fits, intersection, intersection_fits, difference, difference_fits, complement, complement_fits}

-- 10 where a limit is passed, else 11 where the bytes are more than the table has, else the bytes
abbrev pub result : Bool → ℕ → Set → Answer (List ℕ)
result fits room s = cond fits (cond (leb (length (encode s)) room) (gives (encode s)) (refused table_full)) (refused over_limit)

abbrev pub on_one : (Set → Answer (List ℕ)) → Answer Set → Answer (List ℕ)
on_one f (refused m) = refused m
on_one f (gives s) = f s

abbrev pub on_two : (Set → Set → Answer (List ℕ)) → Answer Set → Answer Set → Answer (List ℕ)
on_two f (refused m) t = refused m
on_two f (gives s) (refused m) = refused m
on_two f (gives s) (gives t) = f s t

unfoldable pub union_bytes : ℕ → ℕ → List ℕ → List ℕ → Answer (List ℕ)
union_bytes n room a b = on_two (λ s t. result (union_fits keeps s t) room (union s t)) (decode n a) (decode n b)

unfoldable pub intersection_bytes : ℕ → ℕ → List ℕ → List ℕ → Answer (List ℕ)
intersection_bytes n room a b = on_two (λ s t. result (intersection_fits keeps s t) room (intersection keeps s t)) (decode n a) (decode n b)

unfoldable pub difference_bytes : ℕ → ℕ → List ℕ → List ℕ → Answer (List ℕ)
difference_bytes n room a b = on_two (λ s t. result (difference_fits keeps s t) room (difference keeps s t)) (decode n a) (decode n b)

unfoldable pub complement_bytes : ℕ → ℕ → List ℕ → Answer (List ℕ)
complement_bytes n room a = on_one (λ s. result (complement_fits keeps s) room (complement keeps s)) (decode n a)
