-- A lent list that is filled lock by lock: what stands in it after each, and at the end.
use mathlib.Core.Path.{◌≡◌, refl, sym, ◌∙◌, ap, ap₂, subst}
use mathlib.Core.List.{List, [], ◌∷◌, ◌++◌, map}
use Prim.Native.Nat.{ℕ, zero, suc, ◌≤◌, ◌<◌, ◌+◌}
use native.Mathlib.Omega.{arith}
use native.Mathlib.Numerals.{add-one}
use lib.ListN.{get_or, set, length, take}
use Rattle.tables.specs.declared.LockEntry.{LockEntry}
use Rattle.tables.specs.Lists.{count}
use Rattle.tables.specs.State.{Tables, most_locks, lock, resource, Queue, grants, converts, waits, queue_of}
use Rattle.tables.specs.Layout.{words, read_lock}
use Rattle.tables.specs.Grants.{holders}
use Rattle.tables.proofs.Counts.{count_same, count_step}
use Rattle.tables.proofs.ReadBack.{lock_read}
use Rattle.rules.specs.Entries.{lock_entry, listed, fill}
use Rattle.table_chains.specs.Promises.{Some, Tells, Resourced}
use Rattle.table_chains.proofs.ChainWalks.{queue_onward}
use Rattle.std.specs.Prelude as option
use Rattle.table_chains.proofs.NumberOrNone.{is_number, above_none, none_is}
use Rattle.list_walker.specs.declared.Walker.{Walker}
use Rattle.list_walker.specs.Order.{locks_on, Queued, PlaceOn}
use Rattle.list_walker.specs.Walks.{Begins, Steps}
use Rattle.list_walker.proofs.WalkerReads.{place_inside}
use Rattle.list_walker.proofs.ListsInARow.{at_end}
use Rattle.list_walker.proofs.ResourceLocks.{range_on, few_on, queued_at, no_lock_zero}
use Rattle.rules.specs.Calls.{accepted}
use Rattle.entry_list.specs.Listings.{listing, entry_of, listing_of}
use Rattle.entry_list.proofs.ListCore.{entry_by}

-- FILLED LISTS
-- with the first i, then with one more
pub fill_none : (xs ys : List LockEntry) → ys ≡ fill (take 0 xs) ys
unfolding fill
fill_none [] ys = refl
fill_none (x ∷ xs) ys = refl

pub fill_next : (xs ys : List LockEntry) (i : ℕ) (d : LockEntry) → i < length xs → i < length ys → set (fill (take i xs) ys) i (get_or xs i d) ≡ fill (take (suc i) xs) ys
unfolding fill
fill_next [] ys i d h g = absurd (omega arith)
fill_next (x ∷ xs) [] i d h g = absurd (omega arith)
fill_next (x ∷ xs) (y ∷ ys) zero d h g = ap (λ (l : List LockEntry). x ∷ l) (fill_none xs ys)
fill_next (x ∷ xs) (y ∷ ys) (suc i) d h g = ap (λ (l : List LockEntry). x ∷ l) (fill_next xs ys i d (omega arith) (omega arith))

-- past its end
fill_past : (xs ys : List LockEntry) (i : ℕ) → length ys ≤ i → fill (take i xs) ys ≡ fill (take (suc i) xs) ys
unfolding fill
fill_past xs [] i h = none (take i xs) ∙ sym (none (take (suc i) xs))
  where
    none : (xs : List LockEntry) → fill xs [] ≡ []
    none [] = refl
    none (x ∷ xs) = refl
fill_past xs (y ∷ ys) zero h = absurd (omega arith)
fill_past [] (y ∷ ys) (suc i) h = refl
fill_past (x ∷ xs) (y ∷ ys) (suc i) h = ap (λ (l : List LockEntry). x ∷ l) (fill_past xs ys i (omega arith))

-- with all
fill_all : (xs ys : List LockEntry) → fill (take (length xs) xs) ys ≡ fill xs ys
unfolding fill
fill_all [] ys = refl
fill_all (x ∷ xs) [] = refl
fill_all (x ∷ xs) (y ∷ ys) = ap (λ (l : List LockEntry). x ∷ l) (fill_all xs ys)

-- THE LOCKS ON r of a state, by their places
length_map : (f : ℕ → LockEntry) (xs : List ℕ) → length (map f xs) ≡ length xs
length_map f [] = refl
length_map f (x ∷ xs) = ap suc (length_map f xs)

at_map : (f : ℕ → LockEntry) (xs : List ℕ) (i : ℕ) (d : LockEntry) → i < length xs → f (get_or xs i 0) ≡ get_or (map f xs) i d
at_map f [] i d h = absurd (omega arith)
at_map f (x ∷ xs) zero d h = refl
at_map f (x ∷ xs) (suc i) d h = at_map f xs i d (omega arith)

map_same : (f g : ℕ → LockEntry) (xs : List ℕ) → ((k : ℕ) → 1 ≤ count k xs → f k ≡ g k) → map f xs ≡ map g xs
map_same f g [] h = refl
map_same f g (x ∷ xs) h = ap₂ (λ (e : LockEntry) (l : List LockEntry). e ∷ l) (h x (rw (count_same x xs) (omega arith))) (map_same f g xs (λ k m. h k (omega (arith, count_step k x xs))))

module _ (r : ℕ) (t : Tables) where
  pub listed_locks : listed t r ≡ map (lock_entry t) (locks_on r t)
  unfolding listed locks_on
  listed_locks = refl

  pub length_listed : length (listed t r) ≡ length (locks_on r t)
  length_listed = ap length listed_locks ∙ length_map (lock_entry t) (locks_on r t)

-- what the words say of them is the same for every state that has these words
module _ (r : ℕ) (t u : Tables) (p : Resourced r t) (g : Resourced r u) (same : words t ≡ words u) where
  queue_same : (q : Queue) → queue_of q (resource t r) ≡ queue_of q (resource u r)
  queue_same q = sym (queue_onward r t p q (words t) refl) ∙ queue_onward r u g q (words t) same

  locks_same : locks_on r t ≡ locks_on r u
  unfolding locks_on holders
  locks_same = ap₂ (λ (a b : List ℕ). a ++ b) (ap₂ (λ (a b : List ℕ). a ++ b) (queue_same grants) (queue_same converts)) (queue_same waits)

  lock_same : (k : ℕ) → 1 ≤ count k (locks_on r t) → lock t k ≡ lock u k
  lock_same k m =
      let a = range_on t p.core r k m in
      let b = range_on u g.core r k (subst (λ (xs : List ℕ). 1 ≤ count k xs) locks_same m) in
      sym (lock_read t k a.0 a.1) ∙ ap (λ (ws : List ℕ). read_lock ws k) same ∙ lock_read u k b.0 b.1

  listed_same : listed t r ≡ listed u r
  listed_same =
      listed_locks r t
      ∙ map_same (lock_entry t) (lock_entry u) (locks_on r t) (λ k m. ap (entry_by k) (lock_same k m))
      ∙ ap (map (lock_entry u)) locks_same ∙ sym (listed_locks r u)

-- LIST_INTO, lock by lock: count locks are listed, as many of them as fit, and the walker w stands at the next
pub record Filling (r : ℕ) (ws : List ℕ) (ys : List LockEntry) (w : Walker) (count : ℕ) (zs : List LockEntry) : Type 0 where
  pub lent : w.words.now ≡ ws
  pub given : count ≡ w.given
  pub state : Tables
  pub is : ws ≡ words state
  pub place : PlaceOn r w.given w.lock state
  pub rows : zs ≡ fill (take w.given (listed state r)) ys

module _ (r : ℕ) (ws : List ℕ) (ys : List LockEntry) (w : Walker) where
  pub filling_starts : Some (Resourced r) ws → Begins ws r w → Filling r ws ys w 0 ys
  filling_starts s b = record {
    lent = b.lent;
    given = sym b.none;
    state = s.state;
    is = s.is;
    place = b.place s.state s.good s.is;
    rows = rw b.none (fill_none (listed s.state r) ys);
  }

  module _ (count : ℕ) (zs : List LockEntry) (f : Filling r ws ys w count zs) where
    module _ (k : ℕ) (v : Walker) (st : Steps w (option.Some k) v) where
      here : k ≡ w.lock
      here = is_number k w.lock st.gives

      inside : w.given < length (locks_on r f.state)
      inside = place_inside r w.given w.lock f.state f.place (λ z. let q = above_none k w.lock st.gives in omega (arith, here))

      queued : Queued k f.state
      queued = subst (λ (j : ℕ). Queued j f.state) (sym (here ∙ f.place.here)) (queued_at f.state f.place.there.core r w.given inside)

      pub filling_queued : Some (Queued k) ws
      filling_queued = record { state = f.state; good = queued; is = f.is }

      pub filling_few : count < most_locks
      filling_few = omega (arith, f.given, inside, few_on f.state f.place.there.core r, f.place.there.core.locks_high)

      one_more : v.given ≡ suc w.given
      one_more = st.one_more k refl ∙ add-one w.given

      further : PlaceOn r v.given v.lock f.state
      further = st.place k refl r f.state f.place (f.lent ∙ f.is)

      pub filling_full : (us : List LockEntry) → us ≡ zs → length ys ≤ count → Filling r ws ys v (count + 1) us
      filling_full us eu full = record {
        lent = st.same ∙ f.lent;
        given = ap (λ (n : ℕ). n + 1) f.given ∙ sym (st.one_more k refl);
        state = f.state;
        is = f.is;
        place = further;
        rows = rw one_more (eu ∙ f.rows ∙ fill_past (listed f.state r) ys w.given (omega (arith, f.given)));
      }

      pub filling_goes : (us : List LockEntry) (e : LockEntry) → us ≡ set zs count e → count < length ys → Tells (Queued k) (entry_of k) ws e → Filling r ws ys v (count + 1) us
      unfolding entry_of
      filling_goes us e eu room entry =
          let below : w.given < length (listed f.state r) = rw (length_listed r f.state) inside in
          let is : e ≡ get_or (listed f.state r) w.given e =
          entry.then f.state queued f.is ∙ ap (lock_entry f.state) (here ∙ f.place.here) ∙ at_map (lock_entry f.state) (locks_on r f.state) w.given e inside
          ∙ sym (ap (λ (l : List LockEntry). get_or l w.given e) (listed_locks r f.state)) in
          record {
            lent = st.same ∙ f.lent;
            given = ap (λ (n : ℕ). n + 1) f.given ∙ sym (st.one_more k refl);
            state = f.state;
            is = f.is;
            place = further;
            rows = rw one_more
                (eu
                ∙ ap (λ (n : ℕ). set zs n e) f.given ∙ ap₂ (λ (l : List LockEntry) (d : LockEntry). set l w.given d) f.rows is
                ∙ fill_next (listed f.state r) ys w.given e below (omega (arith, f.given)));
          }

    pub filling_small : count ≤ most_locks
    filling_small = omega (arith, f.given, f.place.near, few_on f.state f.place.there.core r, f.place.there.core.locks_high)

    pub filling_ends : (v : Walker) → Steps w option.None v → Tells (Resourced r) (listing_of r ys) ws (listing (accepted count 0) zs)
    unfolding listing_of
    filling_ends v st = record {
      then = λ u g same.
          let t = f.state in
          let e : listed t r ≡ listed u r = listed_same r t u f.place.there g (sym f.is ∙ same) in
          let all : w.given ≡ length (listed t r) = at_end (locks_on r t) w.given (no_lock_zero t f.place.there.core r) f.place.near (sym f.place.here ∙ none_is w.lock st.gives) ∙ sym (length_listed r t) in
          let rows : zs ≡ fill (listed t r) ys = f.rows ∙ ap (λ (n : ℕ). fill (take n (listed t r)) ys) all ∙ fill_all (listed t r) ys in
          λ i. record {
            refusal = 0;
            count = (f.given ∙ all ∙ ap length e) i;
            entries = (rows ∙ ap (λ (l : List LockEntry). fill l ys) e) i;
          };
    }
