-- The short graph that the search goes along: fewer steps than `leads`, and the same walks.
use Rattle.std.specs.Prelude.{Bool, ◌&&◌, ◌||◌, List, [], ◌∷◌, map, ℕ, eqb, ltb}
use Rattle.tables.specs.Lists.{count, any}
use Rattle.tables.specs.State.{Tables, lock, blocked_lock}
use Rattle.rules.specs.Deadlock.{ahead, obstacles, owner}

-- the last of a list, or d if there is none
abbrev pub last_or : ℕ → List ℕ → ℕ
last_or d [] = d
last_or d (x ∷ xs) = last_or x xs

-- the lock right ahead of a, or 0; that one leads to those further ahead
unfoldable pub nearest : Tables → ℕ → ℕ
nearest t a = last_or 0 (ahead t a)

-- a looks for itself who is in its way, unless two locks ahead of it ask for the same mode: what is in a's way is in the way of one of these
unfoldable pub looks : Tables → ℕ → Bool
looks t a = ltb (count (lock t a).asked (map (λ k. (lock t k).asked) (ahead t a))) 2

-- a hops to b, which is blocked: b is the lock right ahead of a, or a looks for itself and b's owner is in its way
unfoldable pub hops : Tables → ℕ → ℕ → Bool
hops t a b =
    blocked_lock (lock t b) && (eqb b (nearest t a) || (looks t a && any (λ j. eqb (owner (lock t j)) (owner (lock t b))) (obstacles t a)))
