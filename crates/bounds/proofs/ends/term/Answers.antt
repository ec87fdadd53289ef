use Rattle.integers.specs.Mach.{to_z_of_z}
use Rattle.bounds.proofs.Extremes.{product-fits}
use Rattle.bounds.proofs.ends.term.Goals as goal

pub overflow_mul-result : goal.overflow_mul-result
overflow_mul-result c = rw (to_z_of_z c.ranges.a, to_z_of_z c.ranges.u) (product-fits c.requires.0 c.requires.1)
