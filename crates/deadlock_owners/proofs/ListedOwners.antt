-- The lists of owners: an owner is looked for, and joins a list. A law for each return, turn and call.
use mathlib.Core.Path.{◌≡◌, refl, sym, ap, ◌∙◌}
use mathlib.Core.Logic.{◌≢◌}
use mathlib.Core.List.{List, [], ◌∷◌, ◌++◌}
use Prim.Native.Nat.{ℕ, ◌%◌, ◌≤◌, ◌<◌, ◌^◌}
use native.Mathlib.Omega.{arith}
use lib.ListN.{get_or, set, length, length-set}
use lib.Seq.{get_or-set_same, get_or-set_other}
use lib.Dec.{leb}
use borrow.Author.Tests.{leb-true, leb-false}
use borrow.Author.Rules.{rules}
use Rattle.tables.specs.Lists.{count}
use Rattle.tables.specs.State.{lock}
use Rattle.tables.proofs.Cases.{by_cases, by_equal}
use Rattle.rules.specs.Deadlock.{owner}
use Rattle.table_chains.specs.Walking.{At}
use Rattle.table_chains.proofs.ChainWalks.{some_sized}
use Rattle.deadlock_graph.specs.Promises.{seen, Blocked}
use Rattle.deadlock_graph.specs.Links.{place_of, On, here, past}
use Rattle.deadlock_graph.proofs.LockWords.{blocked_at}
use Rattle.deadlock_graph.proofs.LinkLaws.{on_none, on_past, on_kept, turns, turns_less}
use Rattle.deadlock_owners.specs.OwnerLists.{same_owner, first_of, passed, owner_lists, list_of, FirstOf, OwnerLists, LookedFor, Found, Noting, Noted}
use Rattle.deadlock_owners.proofs.FirstLocks.{owner_shared, first_shared, list_shared, first_stands, first_owner, first_there, first_kept, first_new, first_other, more_new, more_kept, more_old, none_blocked, passed_apart, passed_less, number_up_to}

-- ---- an owner is looked for

module _ {ws bs heads others : List ℕ} (i : OwnerLists ws bs heads others) where
  none_noted : count 0 bs ≡ 0
  none_noted =
      by_cases (leb 1 (count 0 bs))
      (λ h. absurd (omega (arith, i.inside 0 (leb-true 1 (count 0 bs) h), none_blocked ws i.some)))
      (λ h. omega (arith, leb-false 1 (count 0 bs) h))

  noted_blocked : (b : ℕ) → 1 ≤ count b bs → Blocked ws b
  noted_blocked b m = record { some = i.some; stands = i.inside b m }

  noted_other : (b : ℕ) → 1 ≤ count b bs → b ≢ 0
  noted_other b m e = omega (arith, none_noted, rw e at m)

-- the way from k on leads to the first lock of j's owner
pub record OnWay (ws bs others : List ℕ) (j k : ℕ) : Type 0 where
  pub stands : k ≢ 0 → FirstOf ws bs k
  pub each : first_of ws j bs ≢ 0 → On (λ x. get_or others x 0) k (first_of ws j bs)

-- a walk along a list, for j's owner, is at k
pub record Finding (ws heads others : List ℕ) (j k : ℕ) : Type 0 where
  pub looked : LookedFor ws heads others j
  pub then : (bs : List ℕ) → OwnerLists ws bs heads others → OnWay ws bs others j k

module _ {ws heads others : List ℕ} {j o : ℕ} (l : LookedFor ws heads others j) (w : o ≡ owner (lock (seen ws) j)) where
  pub list_place : o % owner_lists < length heads
  list_place = omega (arith, l.owners.wide)

  pub finding_starts : Finding ws heads others j (get_or heads (o % owner_lists) 0)
  unfolding list_of
  finding_starts =
      record {
        looked = l;
        then = λ bs i. record {
          stands = λ n. i.begins (o % owner_lists) n;
          each = λ n. rw w (i.each j n);
        };
      }

module _ {ws heads others : List ℕ} {j k : ℕ} (f : Finding ws heads others j k) where
  module _ (n : k ≢ 0) where
    stands : FirstOf ws f.looked.noted k
    stands = (f.then f.looked.noted f.looked.owners).stands n

    pub finding_at : At ws k
    finding_at = blocked_at ws k (noted_blocked f.looked.owners k stands.stands)

    pub finding_place : k < length others
    finding_place = omega (arith, finding_at.high, f.looked.owners.room)

    pub finding_number : k < 2 ^ 64
    finding_number = omega (arith, finding_at.high, (some_sized finding_at.some).few_locks)

    pub finding_less : turns ws (get_or others k 0) < turns ws k
    finding_less = turns_less ws (get_or others k 0) k n (λ m. f.looked.owners.falls k stands m)

    module _ {x o : ℕ} (wk : x ≡ owner (lock (seen ws) k)) (wj : o ≡ owner (lock (seen ws) j)) where
      pub finding_found : x ≡ o → Found ws heads others j k
      finding_found e =
          record {
            then = λ bs i.
                sym ((f.then bs i).stands n).first ∙ first_shared ws k j (sym wk ∙ e ∙ wj) bs;
          }

      pub finding_on : (x ≡ o → ⊥) → Finding ws heads others j (get_or others k 0)
      finding_on e =
          record {
            looked = f.looked;
            then = λ bs i.
                let here = f.then bs i in
                record {
                  stands = λ m. i.follows k (here.stands n) m;
                  each = λ m.
                      on_past (λ x. get_or others x 0) k (first_of ws j bs)
                      (λ q. e (wk ∙ ap (λ b. owner (lock (seen ws) b)) (sym q) ∙ first_owner ws j bs m ∙ sym wj))
                      (here.each m);
                };
          }

  pub finding_ends : k ≡ 0 → Found ws heads others j 0
  finding_ends e =
      record {
        then = λ bs i.
            by_equal (first_of ws j bs) 0
            (λ z. sym z)
            (λ m. sym (on_none (λ x. get_or others x 0) k (first_of ws j bs) e ((f.then bs i).each m)));
      }

pub ruleset find_laws = (rules, list_place, finding_starts, finding_at, finding_place, finding_number, finding_less, finding_found, finding_on, finding_ends)

-- ---- the owner of one blocked lock more

module _ {ws heads others : List ℕ} {k : ℕ} (i : Noting ws k heads others) where
  abbrev P : List ℕ
  P = passed ws k

  abbrev P' : List ℕ
  P' = passed ws k ++ (k ∷ [])

  k_other : k ≢ 0
  k_other e = omega (arith, (blocked_at ws k i.stands).low)

  none : count 0 P ≡ 0
  none = none_noted i.owners

  more_inside : (b : ℕ) → 1 ≤ count b P' → 1 ≤ count b (seen ws).blocked
  more_inside b m = by_equal b k (λ e. rw e i.stands.stands) (λ n. i.owners.inside b (more_old P k b n m))

  up : (x : ℕ) → FirstOf ws P x → FirstOf ws P' x
  up x f =
      record {
        stands = more_kept P k x f.stands;
        first = first_kept ws x P (k ∷ []) (λ z. noted_other i.owners x f.stands (sym f.first ∙ z)) ∙ f.first;
      }

  down : (x : ℕ) → x ≢ k → FirstOf ws P' x → FirstOf ws P x
  down x n f =
      let m = more_old P k x n f.stands in
      record { stands = m; first = sym (first_kept ws x P (k ∷ []) (first_there ws x P x none m refl)) ∙ f.first }

  -- it is on a list already
  module _ (met : first_of ws k P ≢ 0) where
    k_late : (x : ℕ) → FirstOf ws P' x → x ≢ k
    k_late x f e =
        let m = first_stands ws k P met in
        omega (arith, passed_apart ws k, rw (sym (first_kept ws k P (k ∷ []) met) ∙ rw e at f.first) at m)

    same_first : (j : ℕ) → first_of ws j P' ≢ 0 → first_of ws j P ≢ 0
    same_first j n z =
        by_cases (same_owner ws j k)
        (λ h. met (first_shared ws k j (owner_shared ws j k h) P ∙ z))
        (λ h. n (first_other ws j k P none z h))

    pub noting_met : OwnerLists ws P' heads others
    noting_met =
        record {
          some = i.owners.some;
          inside = more_inside;
          wide = i.owners.wide;
          room = i.owners.room;
          begins = λ p n. up (get_or heads p 0) (i.owners.begins p n);
          follows = λ x f n. up (get_or others x 0) (i.owners.follows x (down x (k_late x f) f) n);
          falls = λ x f n. i.owners.falls x (down x (k_late x f) f) n;
          each = λ j n. rw (first_kept ws j P (k ∷ []) (same_first j n)) (i.owners.each j (same_first j n));
        }

  -- it joins its list
  module _ (new : first_of ws k P ≡ 0) {p : ℕ} (place : p ≡ list_of ws k) (inside : p < length heads) where
    abbrev heads' : List ℕ
    heads' = set heads p k

    abbrev others' : List ℕ
    others' = set others k (get_or heads p 0)

    k_place : k < length others
    k_place = omega (arith, (blocked_at ws k i.stands).high, i.owners.room)

    k_first : FirstOf ws P' k
    k_first = record { stands = more_new P k; first = first_new ws k k P none new refl }

    head_here : get_or heads' p 0 ≡ k
    head_here = get_or-set_same heads p k 0 inside

    head_there : (q : ℕ) → q ≢ p → get_or heads' q 0 ≡ get_or heads q 0
    head_there q n = get_or-set_other heads p q k 0 n

    next_here : get_or others' k 0 ≡ get_or heads p 0
    next_here = get_or-set_same others k (get_or heads p 0) 0 k_place

    next_there : (x : ℕ) → x ≢ k → get_or others' x 0 ≡ get_or others x 0
    next_there x n = get_or-set_other others k x (get_or heads p 0) 0 n

    apart : (x : ℕ) → FirstOf ws P x → x ≢ k
    apart x f e = omega (arith, passed_apart ws k, rw e at f.stands)

    kept : (x b : ℕ) → (x ≢ 0 → FirstOf ws P x) → On (λ x. get_or others x 0) x b → On (λ x. get_or others' x 0) x b
    kept = on_kept (FirstOf ws P) (λ x. get_or others x 0) (λ x. get_or others' x 0) (λ x f. next_there x (apart x f)) i.owners.follows

    joined_begins : (q : ℕ) → get_or heads' q 0 ≢ 0 → FirstOf ws P' (get_or heads' q 0)
    joined_begins q n =
        by_equal q p
        (λ e. rw (e, head_here) k_first)
        (λ o. rw (head_there q o) (up (get_or heads q 0) (i.owners.begins q (λ z. n (head_there q o ∙ z)))))

    joined_follows : (x : ℕ) → FirstOf ws P' x → get_or others' x 0 ≢ 0 → FirstOf ws P' (get_or others' x 0)
    joined_follows x f n =
        by_equal x k
        (λ e. rw (e, next_here) (up (get_or heads p 0) (i.owners.begins p (λ z. n (ap (λ y. get_or others' y 0) e ∙ next_here ∙ z)))))
        (λ o. rw (next_there x o) (up (get_or others x 0) (i.owners.follows x (down x o f) (λ z. n (next_there x o ∙ z)))))

    joined_falls : (x : ℕ) → FirstOf ws P' x → get_or others' x 0 ≢ 0 → place_of ws (get_or others' x 0) < place_of ws x
    joined_falls x f n =
        by_equal x k
        (λ e. rw (e, next_here) (passed_less ws k (get_or heads p 0) (i.owners.begins p (λ z. n (ap (λ y. get_or others' y 0) e ∙ next_here ∙ z))).stands))
        (λ o. rw (next_there x o) (i.owners.falls x (down x o f) (λ z. n (next_there x o ∙ z))))

    joined_each : (j : ℕ) → first_of ws j P' ≢ 0 → On (λ x. get_or others' x 0) (get_or heads' (list_of ws j) 0) (first_of ws j P')
    joined_each j n =
        by_equal (first_of ws j P) 0
        (λ z.
        by_cases (same_owner ws j k)
        (λ h.
        let e = owner_shared ws j k h in
        rw (first_new ws j k P none z e, sym (list_shared ws k j e), sym place, head_here) (here k))
        (λ h. absurd (n (first_other ws j k P none z h))))
        (λ m. rw (first_kept ws j P (k ∷ []) m) (old j m))
      where
        old : (j : ℕ) → first_of ws j P ≢ 0 → On (λ x. get_or others' x 0) (get_or heads' (list_of ws j) 0) (first_of ws j P)
        old j m =
            let a = kept (get_or heads (list_of ws j) 0) (first_of ws j P) (i.owners.begins (list_of ws j)) (i.owners.each j m) in
            by_equal (list_of ws j) p
            (λ e. rw (e, head_here) (past k (first_of ws j P) k_other (rw next_here (rw e at a))))
            (λ o. rw (head_there (list_of ws j) o) a)

    pub noting_joins : OwnerLists ws P' heads' others'
    noting_joins =
        record {
          some = i.owners.some;
          inside = more_inside;
          wide = length-set heads p k ∙ i.owners.wide;
          room = omega (arith, i.owners.room, length-set others k (get_or heads p 0));
          begins = joined_begins;
          follows = joined_follows;
          falls = joined_falls;
          each = joined_each;
        }

-- what the function that writes an owner down asks for, and says
module _ {ws heads others : List ℕ} {k : ℕ} (i : Noting ws k heads others) where
  pub noting_at : At ws k
  noting_at = blocked_at ws k i.stands

  pub noting_looks : LookedFor ws heads others k
  noting_looks = record { at = noting_at; noted = passed ws k; owners = i.owners }

  pub noting_room : k < length others
  noting_room = omega (arith, noting_at.high, i.owners.room)

  module _ {r : ℕ} (f : Found ws heads others k r) where
    found_is : r ≡ first_of ws k (passed ws k)
    found_is = f.then (passed ws k) i.owners

    pub noted_met : r ≢ 0 → Noted ws k heads others r
    noted_met n =
        let met : first_of ws k (passed ws k) ≢ 0 = λ z. n (found_is ∙ z) in
        record {
          is = found_is ∙ sym (number_up_to ws k i.stands.stands ∙ first_kept ws k (passed ws k) (k ∷ []) met);
          owners = noting_met i met;
        }

    module _ (z : r ≡ 0) {o : ℕ} (w : o ≡ owner (lock (seen ws) k)) where
      noting_place : o % owner_lists < length heads
      noting_place = omega (arith, i.owners.wide)

      pub noted_joins : Noted ws k (set heads (o % owner_lists) k) (set others k (get_or heads (o % owner_lists) 0)) k
      unfolding list_of
      noted_joins =
          let new : first_of ws k (passed ws k) ≡ 0 = sym found_is ∙ z in
          record {
            is = sym (number_up_to ws k i.stands.stands ∙ first_new ws k k (passed ws k) (none_noted i.owners) new refl);
            owners = noting_joins i new (ap (λ x. x % owner_lists) w) noting_place;
          }

pub ruleset note_laws = (rules, noting_at, noting_looks, noting_room, noted_met, noted_joins)
