-- A result that is not refused is itself a set within all ranges: its bytes decode, to valid basic sets, at most 32 of them.
use mathlib.Core.Path.{◌≡◌, subst}
use mathlib.Core.Bool.{Bool, true, false, cond}
use mathlib.Core.List.{List, [], ◌∷◌, ◌++◌}
use Prim.Native.Nat.{ℕ, zero, suc, ◌/◌, ◌≤◌, ◌<◌}
use native.Mathlib.Nat.{mod-lt}
use native.Mathlib.Omega.{arith}
use lib.Dec.{eqb}
use lib.IntN.{ℤ}
use lib.ListN.{length}
use Rattle.model.specs.Lists.{concat_map, All}
use Rattle.model.specs.Sets.{Kind, equality, inequality, Set}
use Rattle.codec.specs.Bytes.{Answer, gives, bytes_of, unsigned, signed_bytes, Command, opens, misnumbered, division, constraint, opcode, numbered_opcode, rule_head, encode_command, commands, encode, decode}
use Rattle.codec.proofs.Decoded.{Bytes, no_way}
use Rattle.codec.specs.Valid.{Valid}
use Rattle.codec.proofs.Valid.{decode-valid}
use Rattle.algebra.specs.Operations.{union_bytes, intersection_bytes, difference_bytes, complement_bytes}
use Rattle.algebra.proofs.Contracts.{union-bytes, intersection-bytes, difference-bytes, complement-bytes}
use Rattle.algebra.proofs.Results.{Answered, over, long, given, union-answered, intersection-answered, difference-answered, complement-answered}

-- ---- what is encoded is bytes

bytes-app : (s t : List ℕ) → Bytes s → Bytes t → Bytes (s ++ t)
bytes-app [] t p q = q
bytes-app (b ∷ s) t p q = (p.0, bytes-app s t p.1 q)

bytes-concat : {A : Type 0} (f : A → List ℕ) → ((a : A) → Bytes (f a)) → (l : List A) → Bytes (concat_map f l)
bytes-concat f h [] = tt
bytes-concat f h (a ∷ l) = bytes-app (f a) (concat_map f l) (h a) (bytes-concat f h l)

bytes-number : (k n : ℕ) → Bytes (bytes_of k n)
bytes-number zero n = tt
bytes-number (suc k) n = let h : 0 < 256 = omega arith in (mod-lt n h, bytes-number k (n / 256))

bytes-list : (zs : List ℤ) → Bytes (concat_map (signed_bytes 2) zs)
bytes-list = bytes-concat (signed_bytes 2) (λ z. bytes-number 2 (unsigned 2 z))

bytes-command : (c : Command) → Bytes (encode_command c)
bytes-command opens = (omega arith, tt)
bytes-command misnumbered = (omega arith, tt)
bytes-command (division e) = (
  omega arith,
  bytes-app (bytes_of 2 e.divisor ++ signed_bytes 4 e.constant) (concat_map (signed_bytes 2) e.axes)
      (bytes-app (bytes_of 2 e.divisor) (signed_bytes 4 e.constant) (bytes-number 2 e.divisor) (bytes-number 4 (unsigned 4 e.constant))) (bytes-list e.axes),
)
bytes-command (constraint r) =
    bytes-app (rule_head r.kind r.number) (signed_bytes 4 r.constant ++ concat_map (signed_bytes 2) r.axes ++ concat_map (signed_bytes 2) r.divisions) (head r.kind (eqb r.number 0))
    (bytes-app (signed_bytes 4 r.constant ++ concat_map (signed_bytes 2) r.axes) (concat_map (signed_bytes 2) r.divisions)
    (bytes-app (signed_bytes 4 r.constant) (concat_map (signed_bytes 2) r.axes) (bytes-number 4 (unsigned 4 r.constant)) (bytes-list r.axes)) (bytes-list r.divisions))
  where
    head : (k : Kind) (x : Bool) → Bytes (cond x (opcode k ∷ []) (numbered_opcode k ∷ bytes_of 2 r.number))
    head equality true = (omega arith, tt)
    head inequality true = (omega arith, tt)
    head equality false = (omega arith, bytes-number 2 r.number)
    head inequality false = (omega arith, bytes-number 2 r.number)

pub encode-bytes : (s : Set) → Bytes (encode s)
unfolding encode
encode-bytes s = bytes-concat encode_command bytes-command (commands s)

given-bytes : {fits : Bool} {room : ℕ} {s : Set} {r : Answer (List ℕ)} (l : List ℕ) → Answered fits room s r → r ≡ gives l → Bytes l
given-bytes l (over h) e = let z : ◌≡◌ {A = ℕ} 0 1 = cc in no_way z
given-bytes l (long h k) e = let z : ◌≡◌ {A = ℕ} 0 1 = cc in no_way z
given-bytes {s} l (given h k) e = let z : encode s ≡ l = cc in subst Bytes z (encode-bytes s)

-- ---- results

pub record Within (n : ℕ) (bs : List ℕ) (s : Set) : Type 0 where
  pub bytes : Bytes bs
  pub decoded : decode n bs ≡ gives s
  pub valid : All (Valid n) s
  pub few : length s ≤ 32

within : (n : ℕ) (bs : List ℕ) (s : Set) → Bytes bs → decode n bs ≡ gives s → Within n bs s
within n bs s p e = let v = decode-valid n bs s p e in record { bytes = p; decoded = e; valid = v.0; few = v.1 }

module _ (n room : ℕ) (a b bs : List ℕ) (pa : Bytes a) (pb : Bytes b) where
  pub union-within : union_bytes n room a b ≡ gives bs → (s : Set) × Within n bs s
  union-within e = let o = union-bytes n room a b bs pa pb e in (_, within n bs _ (given-bytes bs (union-answered n room a b o.s o.t o.first o.second) e) o.result)

  pub intersection-within : intersection_bytes n room a b ≡ gives bs → (s : Set) × Within n bs s
  intersection-within e = let o = intersection-bytes n room a b bs pa pb e in (_, within n bs _ (given-bytes bs (intersection-answered n room a b o.s o.t o.first o.second) e) o.result)

  pub difference-within : difference_bytes n room a b ≡ gives bs → (s : Set) × Within n bs s
  difference-within e = let o = difference-bytes n room a b bs pa pb e in (_, within n bs _ (given-bytes bs (difference-answered n room a b o.s o.t o.first o.second) e) o.result)

pub complement-within : (n room : ℕ) (a bs : List ℕ) → Bytes a → complement_bytes n room a ≡ gives bs → (s : Set) × Within n bs s
complement-within n room a bs pa e = let o = complement-bytes n room a bs pa e in (_, within n bs _ (given-bytes bs (complement-answered n room a o.s o.first) e) o.result)
