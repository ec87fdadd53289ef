-- What a first-point search answers, with FPL's meaning of the set (model, specs/Existential), from bytes: the first point
-- of the box for which there are whole numbers for the divisions of some basic set with which its constraints hold; none
-- exactly when there is no such point.
use mathlib.Core.Path.{◌≡◌, refl, sym, ◌∙◌, subst}
use mathlib.Core.Logic.{◌↔◌}
use mathlib.Core.List.{List}
use Prim.Native.Nat.{ℕ, ◌<◌}
use native.Mathlib.Omega.{arith}
use lib.IntN.{ℤ}
use lib.ListN.{length, take}
use Rattle.model.specs.Sets.{Set}
use Rattle.model.specs.Existential.{ExistsIn}
use Rattle.codec.specs.Bytes.{Answer, gives, decode}
use Rattle.query.proofs.Means.{decoded-means}
use Rattle.enumeration.specs.Search.{Interval, Found, at, nothing, spent, Tallied, box_of, search_bytes}
use Rattle.enumeration.proofs.Walks.{In, Before, Says}
use Rattle.enumeration.proofs.Searched.{Searched, searched, search-says}

-- what each answer means for the points of the box; spent says nothing of them
abbrev pub Means : Set → List Interval → Found → Type 0
Means s box (at p) = In p box × ExistsIn p s × ((x : List ℤ) → In x box → Before x p → ¬ ExistsIn x s)
Means s box nothing = (x : List ℤ) → In x box → ¬ ExistsIn x s
Means s box spent = Unit {0}

module _ (n : ℕ) (a : List ℕ) (ls hs : List ℤ) (limit : ℕ) (t : Tallied) (l : length ls ≡ 8) (h : length hs ≡ 8)
    (asked : search_bytes n a ls hs limit ≡ gives t) (s : Set) (decoded : decode n a ≡ gives s) where
  abbrev box : List Interval
  box = take n (box_of ls hs)

  says : Says s box t.found
  says = subst (λ (u : Set). Says u box t.found) (given (sym r.decoded ∙ decoded)) (search-says r some-low some-high).0
    where
      r : Searched n a ls hs limit t
      r = searched n a ls hs limit t asked

      given : {u v : Set} → ◌≡◌ {A = Answer Set} (gives u) (gives v) → u ≡ v
      given e = cc

      some-low : 0 < length ls
      some-low = omega arith

      some-high : 0 < length hs
      some-high = omega arith

  means : (f : Found) → Says s box f → Means s box f
  means (at p) r = (r.0, (decoded-means n a s decoded p).0 r.1, λ x i b e. r.2 x i b ((decoded-means n a s decoded x).1 e))
  means nothing r = λ x i e. r x i ((decoded-means n a s decoded x).1 e)
  means spent r = tt

  pub search-means : Means s box t.found
  search-means = means t.found says

  -- a finished search says none exactly when there is no such point
  pub none-exactly : ¬ (t.found ≡ spent) → (t.found ≡ nothing) ↔ ((x : List ℤ) → In x box → ¬ ExistsIn x s)
  none-exactly unspent = (λ e. subst (Means s box) e search-means, by t.found refl search-means)
    where
      by : (f : Found) → t.found ≡ f → Means s box f → ((x : List ℤ) → In x box → ¬ ExistsIn x s) → f ≡ nothing
      by (at p) e m void = absurd (void p m.0 m.1)
      by nothing e m void = refl
      by spent e m void = absurd (unspent e)
