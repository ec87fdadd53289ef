-- Member (document 01, "Asking").
use Rattle.std.specs.Prelude.{Bool, ◌&&◌, cond, List, ◌++◌, ℕ, ◌-◌, ℤ, pos, negsuc, length, take, replicate}
use Rattle.model.specs.Limits.{most_axes, most_coordinate}
use Rattle.model.specs.Refusals.{bad_point}
use Rattle.model.specs.Lists.{all}
use Rattle.model.specs.Sets.{Set, absent, in_set}
use Rattle.codec.specs.Bytes.{Answer, refused, gives, decode, within}

-- "coordinates from −1,048,576 to 1,048,576"
abbrev pub coordinate : ℤ → Bool
coordinate z = within (negsuc (most_coordinate - 1)) (pos most_coordinate) z

-- eight places, 0 past the coordinates
abbrev pub padded : List ℤ → List ℤ
padded x = x ++ replicate (most_axes - length x) (pos 0)

-- 12: "coordinate out of range .. absent axis not 0", of a point of 8 places
abbrev pub point_fits : ℕ → List ℤ → Bool
point_fits n x = all coordinate x && absent n x

unfoldable pub member_bytes : ℕ → List ℕ → List ℤ → Answer Bool
member_bytes n a x = on_set (decode n a)
  where
    on_set : Answer Set → Answer Bool
    on_set (refused m) = refused m
    on_set (gives s) = cond (point_fits n x) (gives (in_set (take n x) s)) (refused bad_point)
