-- A walker along the locks on a resource.
use Rattle.std.specs.Prelude.{◌≡◌, ◌+◌, List, ℕ, Option, Some}
use Rattle.tables.specs.State.{Tables}
use Rattle.tables.specs.Layout.{words}
use Rattle.tables.specs.Numbered.{numbered}
use Rattle.table_chains.specs.Promises.{Resourced}
use Rattle.list_walker.specs.declared.Walker.{Walker}
use Rattle.list_walker.specs.Order.{PlaceOn, SomePlaceOn}

-- it stands on a resource, with as many locks before it as it has given
abbrev pub Stands : Walker → Type 0
Stands w = SomePlaceOn w.given w.lock w.words.now

-- in the words ws it stands at the first lock on r
pub record Begins (ws : List ℕ) (r : ℕ) (w : Walker) : Type 0 where
  pub lent : w.words.now ≡ ws
  pub none : w.given ≡ 0
  pub some : Stands w
  pub place : (t : Tables) → Resourced r t → ws ≡ words t → PlaceOn r w.given w.lock t

-- it gives the lock where it stands, if it stands at one, and stands at the next then
pub record Steps (w : Walker) (x : Option ℕ) (v : Walker) : Type 0 where
  pub same : v.words.now ≡ w.words.now
  pub gives : x ≡ numbered w.lock
  pub one_more : (k : ℕ) → x ≡ Some k → v.given ≡ w.given + 1
  pub place : (k : ℕ) → x ≡ Some k → (r : ℕ) (t : Tables) → PlaceOn r w.given w.lock t → w.words.now ≡ words t → PlaceOn r v.given v.lock t
