-- What the entries leave in an area that C lends beside the tables, and answer.
use Rattle.std.specs.Prelude.{List, ◌++◌, ℕ, zero, suc, length, take, drop}
use Rattle.rules.specs.declared.Said.{Said}
use Rattle.rules.specs.Entries.{Reading}
use Rattle.rules.specs.Images.{Imaged}
use Rattle.rules.specs.Numbers.{reading_said, imaged_said}

-- an answer, and what the area that C lent then holds
pub record Filled : Type 0 where
  pub said : Said
  pub area : List ℕ

abbrev pub filled : Said → List ℕ → Filled
filled x area = record { said = x; area = area }

-- as much of xs as fits at the front of ys
unfoldable pub in_front : List ℕ → List ℕ → List ℕ
in_front xs ys = take (length ys) xs ++ drop (length xs) ys

-- READ: the validity, and the value block at the front of the area. Of a refused one: "nothing lent changes".
unfoldable pub value_in : (refusal : ℕ) (value area : List ℕ) → List ℕ
value_in zero value area = in_front value area
value_in (suc n) value area = area

unfoldable pub value_filled : Reading → List ℕ → Filled
value_filled x area = filled (reading_said x) (value_in x.refusal x.value area)

-- IMAGE "answers 0"
unfoldable pub image_filled : Imaged → Filled
image_filled x = filled (imaged_said x) x.area
