-- What a purge counts: laws of counts, and of the locks of a list.
use mathlib.Core.Path.{◌≡◌, refl, sym, ◌∙◌, ap}
use mathlib.Core.Bool.{Bool, true, false}
use mathlib.Core.List.{List, [], ◌∷◌}
use Prim.Native.Nat.{ℕ, ◌+◌, ◌≤◌}
use native.Mathlib.Omega.{arith}
use mir.Val.{bool_byte}
use Rattle.tables.specs.declared.Lock.{Lock}
use Rattle.tables.specs.Lists.{bit, count, keep}
use Rattle.tables.specs.State.{Tables, lock, blocked_lock, unread}
use Rattle.tables.proofs.Counts.{bit_le, keep_cong}
use Rattle.rules.specs.Calls.{how_many}
use Rattle.rules.proofs.LockWeights.{how_many_step}
use Rattle.answers.specs.declared.Purged.{Purged}
use Rattle.call_purge.specs.PurgedLocks.{no_counts, counts_of, added, Few, count_locks}

-- COUNTS are added as numbers are
same_counts : {x y : Purged} → x.freed ≡ y.freed → x.blocked ≡ y.blocked → x.unread ≡ y.unread → x ≡ y
same_counts f b u = λ i. record { freed = f i; blocked = b i; unread = u i }

pub none_added : (x : Purged) → added no_counts x ≡ x
unfolding added
none_added x = same_counts (omega arith) (omega arith) (omega arith)

pub added_none : (x : Purged) → added x no_counts ≡ x
unfolding added
added_none x = same_counts (omega arith) (omega arith) (omega arith)

pub added_both : (x y z : Purged) → added (added x y) z ≡ added x (added y z)
unfolding added
added_both x y z = same_counts (omega arith) (omega arith) (omega arith)

-- counts_of
byte_bit : (b : Bool) → bool_byte b ≡ bit b
byte_bit true = refl
byte_bit false = refl

pub one_counted : (l : Lock) (b u : Bool) (x y : ℕ) → b ≡ blocked_lock l → u ≡ unread l → x ≡ bool_byte b → y ≡ bool_byte u → record { freed = 1; blocked = x; unread = y } ≡ counts_of l
unfolding counts_of
one_counted l b u x y eb eu ex ey = same_counts refl (ex ∙ ap bool_byte eb ∙ byte_bit (blocked_lock l)) (ey ∙ ap bool_byte eu ∙ byte_bit (unread l))

-- HOW LARGE they get
pub none_few : (n : ℕ) → Few n no_counts
none_few n = record { freed = omega arith; blocked = omega arith; unread = omega arith }

pub one_few : (l : Lock) → Few 1 (counts_of l)
unfolding counts_of
one_few l = record { freed = omega arith; blocked = bit_le (blocked_lock l); unread = bit_le (unread l) }

pub few_more : (m n : ℕ) (x : Purged) → m ≤ n → Few m x → Few n x
few_more m n x h f = record { freed = omega (arith, f.freed); blocked = omega (arith, f.blocked); unread = omega (arith, f.unread) }

pub added_few : (m n : ℕ) (x y : Purged) → Few m x → Few n y → Few (m + n) (added x y)
unfolding added
added_few m n x y f g =
    record {
      freed = omega (arith, f.freed, g.freed);
      blocked = omega (arith, f.blocked, g.blocked);
      unread = omega (arith, f.unread, g.unread);
    }

-- A LIST OF LOCKS
pub count_none : (t : Tables) → count_locks [] t ≡ no_counts
unfolding count_locks how_many keep
count_none t = refl

-- the first of the locks is freed, and the others stay as they are
module _ (k : ℕ) (ks : List ℕ) (t u : Tables) (others : (j : ℕ) → 1 ≤ count j ks → lock u j ≡ lock t j) where
  how_many_left : (p : Lock → Bool) → bit (p (lock t k)) + how_many p ks u ≡ how_many p (k ∷ ks) t
  unfolding how_many
  how_many_left p =
      rw (keep_cong (λ j. p (lock u j)) (λ j. p (lock t j)) ks (λ j i. ap p (others j i))) (sym (how_many_step p k ks t))

  pub count_left : added (counts_of (lock t k)) (count_locks ks u) ≡ count_locks (k ∷ ks) t
  unfolding added counts_of count_locks
  count_left = same_counts (omega arith) (how_many_left blocked_lock) (how_many_left unread)
