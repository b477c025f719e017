-- Who holds a mode on a resource, and which heads are grantable (document 01, Modes).
use Rattle.std.specs.Prelude.{Bool, false, ◌&&◌, ◌||◌, not, List, [], ◌∷◌, ◌++◌, map, ℕ, eqb}
use Rattle.modes.specs.Modes.{compatible}
use Rattle.tables.specs.Lists.{count, all, null}
use Rattle.tables.specs.State.{Lock, Resource, Tables, lock, resource, holds}

-- the locks that hold a mode there
unfoldable pub holders : Tables → ℕ → List ℕ
holders t r = (resource t r).grant ++ (resource t r).convert

-- the lock whose record is l holds the mode m on r
unfoldable pub holds_mode : Lock → ℕ → ℕ → Bool
holds_mode l r m = holds l && eqb l.resource r && eqb m l.held

-- how many of its holders hold m
unfoldable pub tally : Tables → ℕ → ℕ → ℕ
tally t r m = count m (map (λ k. (lock t k).held) (holders t r))

-- m is compatible with every mode that a lock other than k holds there. No lock has the number 0, so with k = 0 none is left out.
unfoldable pub fits : Tables → ℕ → ℕ → ℕ → Bool
fits t r k m = all (λ j. eqb j k || compatible (lock t j).held m) (holders t r)

-- a convert head is *grantable* "if compatible with every other held mode there" ..
unfoldable pub convert_grantable : Tables → ℕ → ℕ → Bool
convert_grantable t r k = fits t r k (lock t k).asked

-- .. and a wait head, "if the convert chain is empty and it is compatible with every held mode"
unfoldable pub wait_grantable : Tables → ℕ → ℕ → Bool
wait_grantable t r k = null (resource t r).convert && fits t r 0 (lock t k).asked

-- a head is grantable; an empty chain has none
unfoldable pub grantable_head : (ℕ → Bool) → List ℕ → Bool
grantable_head p [] = false
grantable_head p (k ∷ ks) = p k

unfoldable pub no_grantable_head : Tables → ℕ → Bool
no_grantable_head t r =
    not (grantable_head (convert_grantable t r) (resource t r).convert) && not (grantable_head (wait_grantable t r) (resource t r).wait)

-- no lock stands on it
unfoldable pub empty : Resource → Bool
empty x = null x.grant && null x.convert && null x.wait
