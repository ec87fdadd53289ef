use Rattle.std.proofs.Common.{List, ℤ, refl, sym, ap₂, subst₂, ◌∙◌, arith}
use Rattle.search.specs.Sides.{Boxed, sides_of, Standing}
use Rattle.enumeration.proofs.Windows.{box-take}
use Rattle.search.proofs.Lives.{live-first}
use Rattle.search.proofs.Searching.{standing-first}
use Rattle.search.proofs.windows.begin.Goals as goal

pub returns : goal.returns
returns c =
    let a = c.args in let lows = c.widened-low in let highs = c.widened-high in
    let fits : Boxed a.n a.s.now lows.result highs.result = subst₂ (λ (u v : List ℤ). Boxed a.n a.s.now u v) (sym lows.ensures.0) (sym highs.ensures.0) c.requires in
    let standing : Standing a.s.now a.n 0 lows.result highs.result = standing-first a.n a.s.now lows.result highs.result fits lows.ensures.1 highs.ensures.1 in
    let rowed = c.laid-count.ensures.laid a.n standing.axes in
    record {
      ready = record { standing = standing; within = omega arith; fits = c.ranges.limit.fits; lives = live-first a.s.now a.n (sides_of a.n lows.result highs.result) _ rowed.used };
      rowed = rowed;
      whole = refl;
      limit_is = refl;
      sides = ap₂ (sides_of a.n) lows.ensures.0 highs.ensures.0 ∙ sym (box-take a.n a.low a.high);
    }
