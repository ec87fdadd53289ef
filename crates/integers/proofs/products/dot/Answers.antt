use Rattle.std.specs.Prelude.{◌≡◌, get_or, pos}
use Rattle.std.proofs.Common.{◌∙◌, SFits, rules}
use Rattle.std.specs.Int.{w16, w64}
use Rattle.integers.specs.Mach.{to_z_of_z, result_is}
use Rattle.integers.specs.Sum.{summing-none, summing-next, summing-all, product-fits, sum_fits}
use Rattle.integers.proofs.products.dot.Goals as goal

module _ (c : goal.After-s-1) where
  -- the two elements, and what the conversion gave
  coefficient : SFits w16 (get_or c.args.a.now c.loop-i.i (pos 0))
  coefficient = search rules

  coordinate : SFits w64 (get_or c.args.x.now c.loop-i.i (pos 0))
  coordinate = search rules

  widened : c.from.result ≡ get_or c.args.a.now c.loop-i.i (pos 0)
  widened = c.from.ensures ∙ to_z_of_z coefficient

pub loop-i-init : goal.loop-i-init
loop-i-init c = summing-none _ _ _

pub overflow_mul-s : goal.overflow_mul-s
overflow_mul-s c =
    rw (result_is w64 _ c.from.type_inv, widened c, to_z_of_z (coordinate c))
    (product-fits w16 _ _ c.loop-i.invariant c.loop-i-test.true (coefficient c) c.requires)

pub overflow_add-s : goal.overflow_add-s
overflow_add-s c =
    rw (to_z_of_z (overflow_mul-s c), result_is w64 _ c.from.type_inv, widened c, to_z_of_z (coordinate c))
    (sum_fits w16 _ _ c.loop-i.invariant c.loop-i-test.true (coefficient c) c.requires)

pub loop-i-preserved : goal.loop-i-preserved
loop-i-preserved c =
    rw (to_z_of_z (overflow_add-s c), to_z_of_z (overflow_mul-s c), result_is w64 _ c.from.type_inv, widened c, to_z_of_z (coordinate c))
    (summing-next w16 _ _ c.loop-i.invariant c.loop-i-test.true (coefficient c))

pub returns : goal.returns
returns c = summing-all w16 _ _ c.loop-i.invariant c.loop-i-test.false c.requires.places
