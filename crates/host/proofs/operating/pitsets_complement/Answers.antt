-- The length of the result is a number of the host.
use Rattle.codec.proofs.Valid.{bytes_of}
use Rattle.algebra.proofs.Again.{complement-within}
use Rattle.host.proofs.Lengths.{short-of}
use Rattle.host.proofs.operating.pitsets_complement.Goals as goal

pub length_number-requires : goal.length_number-requires
length_number-requires c =
    short-of _ c.complement.result c.complement.ensures _ (λ l. complement-within _ _ _ l (bytes_of c.args.a.now (λ i. (c.type_inv.a i).fits)))
