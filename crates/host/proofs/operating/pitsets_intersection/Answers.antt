-- The length of the result is a number of the host.
use Rattle.codec.proofs.Valid.{bytes_of}
use Rattle.algebra.proofs.Again.{intersection-within}
use Rattle.host.proofs.Lengths.{short-of}
use Rattle.host.proofs.operating.pitsets_intersection.Goals as goal

pub length_number-requires : goal.length_number-requires
length_number-requires c =
    let first = bytes_of c.args.a.now (λ i. (c.type_inv.a i).fits) in let second = bytes_of c.args.b.now (λ i. (c.type_inv.b i).fits) in
    short-of _ c.intersection.result c.intersection.ensures _ (λ l. intersection-within _ _ _ _ l (search) (search))
