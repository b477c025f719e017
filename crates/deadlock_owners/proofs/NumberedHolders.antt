-- The holders get their owners' numbers, and then all owners have theirs: a law for each return, turn and call.
use mathlib.Core.Path.{◌≡◌, refl, sym, ap, ◌∙◌}
use mathlib.Core.Logic.{◌≢◌}
use mathlib.Core.Bool.{Bool, true, false}
use mathlib.Core.List.{List}
use Prim.Native.Nat.{ℕ, ◌+◌, ◌*◌, ◌≤◌, ◌<◌, ◌^◌}
use native.Mathlib.Omega.{arith}
use lib.ListN.{get_or, set, length, length-set}
use lib.Dec.{eqb}
use borrow.Author.Tests.{eqb-true, eqb-false}
use borrow.Author.Rules.{rules}
use Rattle.tables.specs.Lists.{count, first, next}
use Rattle.tables.specs.State.{lock}
use Rattle.tables.specs.Layout.{resources_in, locks_in}
use Rattle.tables.specs.Grants.{holders}
use Rattle.tables.proofs.Cases.{by_equal}
use Rattle.tables.proofs.Counts.{count_nil, count_other}
use Rattle.tables.specs.Validity.{Core}
use Rattle.rules.specs.Deadlock.{owner}
use Rattle.table_chains.specs.Promises.{Some}
use Rattle.table_chains.specs.Walking.{At}
use Rattle.table_chains.proofs.ChainWalks.{some_sized}
use Rattle.deadlock_graph.specs.Promises.{seen, Blocked}
use Rattle.deadlock_graph.specs.Holders.{Holds, holders_since, Looking}
use Rattle.deadlock_graph.specs.Links.{link_width, link_of, Roomy, Known, waits_itself, holds_there, Numbered, Mated, Listed, mate, Leaps, Chained}
use Rattle.deadlock_graph.proofs.HolderWalks.{holder_at, holder_here, look_all, look_ends, look_starts, look_at, look_holds, look_on, look_splits, look_less}
use Rattle.deadlock_graph.proofs.LinkLaws.{link_same, link_lock, link_field, links_kept, same_links, joined_links, row_inside, roomy_stored, on_kept}
use Rattle.deadlock_graph.proofs.LockWords.{blocked_at, blocked_home}
use Rattle.deadlock_owners.specs.OwnerLists.{first_of, owner_number, LookedFor, Found}
use Rattle.deadlock_owners.specs.OwnerNumbers.{Right, Done, Righter, Holding, Appended, Elsewhere, HoldersDone, LineDone, LinesDone, OwnersNumbered}
use Rattle.deadlock_owners.proofs.FirstLocks.{first_shared, first_stands, first_owner}
use Rattle.deadlock_owners.proofs.NumberedLocks.{number_low, none_done}

-- ---- links that are right stay so

righter_same : (ws ls : List ℕ) → Righter ws ls ls
righter_same ws ls =
    record { right = λ j h. h; small = λ h. h; ahead = same_links 0 ls; holder = same_links 1 ls; mate = same_links 3 ls }

righter_joined : {ws ls ls' ls'' : List ℕ} → Righter ws ls ls' → Righter ws ls' ls'' → Righter ws ls ls''
righter_joined p q =
    record {
      right = λ j h. q.right j (p.right j h);
      small = λ h. q.small (p.small h);
      ahead = joined_links p.ahead q.ahead;
      holder = joined_links p.holder q.holder;
      mate = joined_links p.mate q.mate;
    }

number_small : (ws : List ℕ) → Some Core ws → (j : ℕ) → owner_number ws j ≤ locks_in ws
unfolding owner_number
number_small ws s j =
    by_equal (first_of ws j (seen ws).blocked) 0
    (λ z. rw z (omega arith))
    (λ n. (blocked_at ws (first_of ws j (seen ws).blocked) (record { some = s; stands = first_stands ws j (seen ws).blocked n })).high)

-- ---- one holder

module _ {ws lists others ls : List ℕ} {j : ℕ} (h : Holding ws lists others ls) (a : At ws j) where
  looks : LookedFor ws lists others j
  looks = record { at = a; noted = (seen ws).blocked; owners = h.owners }

  row : link_width * j + 2 < length ls
  row = row_inside ws ls j 2 h.rows a.high (omega arith)

  module _ {n : ℕ} (f : Found ws lists others j n) where
    found_number : n ≡ owner_number ws j
    unfolding owner_number
    found_number = f.then (seen ws).blocked h.owners

    abbrev ls' : List ℕ
    ls' = set ls (link_width * j + 2) n

    stored_here : Right ws ls' j
    stored_here = record { is = link_same ls j 2 n row ∙ found_number }

    stored_righter : Righter ws ls ls'
    stored_righter =
        record {
          right = λ b g. by_equal b j (λ e. rw e stored_here) (λ o. record { is = link_lock ls j 2 n b 2 (omega arith) (omega arith) o ∙ g.is });
          small = λ g b.
              by_equal b j
              (λ e. rw (e, stored_here.is) (number_small ws a.some j))
              (λ o. rw (link_lock ls j 2 n b 2 (omega arith) (omega arith) o) (g b));
          ahead = links_kept ls j 2 n 0 (omega arith) (omega arith) (omega arith);
          holder = links_kept ls j 2 n 1 (omega arith) (omega arith) (omega arith);
          mate = links_kept ls j 2 n 3 (omega arith) (omega arith) (omega arith);
        }

    stored_holding : Holding ws lists others ls'
    stored_holding = record { rows = roomy_stored ws ls _ _ h.rows; owners = h.owners }

-- ---- the next holders

-- a store of a next holder
module _ (ws ls : List ℕ) (k x : ℕ) where
  abbrev chain' : List ℕ
  chain' = set ls (link_width * k + 4) x

  next_righter : Righter ws ls chain'
  next_righter =
      record {
        right = λ b g. record { is = link_field ls k 4 x b 2 (omega arith) (omega arith) (λ e. absurd (omega arith)) ∙ g.is };
        small = λ g b. rw (link_field ls k 4 x b 2 (omega arith) (omega arith) (λ e. absurd (omega arith))) (g b);
        ahead = links_kept ls k 4 x 0 (omega arith) (omega arith) (omega arith);
        holder = links_kept ls k 4 x 1 (omega arith) (omega arith) (omega arith);
        mate = links_kept ls k 4 x 3 (omega arith) (omega arith) (omega arith);
      }

module _ {ws ls : List ℕ} {j last : ℕ} {b : Bool} (e : b ≡ eqb (lock (seen ws) j).held 0) where
  pub append_null : b ≡ true → Appended ws j last ls ls last
  append_null h = record { null = λ z. (refl, refl); more = λ n. absurd (n (eqb-true (lock (seen ws) j).held 0 (sym e ∙ h))) }

  pub append_more : {ls' : List ℕ} → b ≡ false → ls' ≡ set ls (link_width * last + 4) j → Appended ws j last ls ls' j
  append_more h q = record { null = λ z. absurd (eqb-false (lock (seen ws) j).held 0 (sym e ∙ h) z); more = λ n. (refl, q) }

pub ruleset append_laws = (rules, append_null, append_more)

-- `last` is the last holder before j that holds more than NL, or 0
pub record Gap (ws : List ℕ) (r last j : ℕ) : Type 0 where
  pub stands : last ≢ 0 → 1 ≤ count last (holders (seen ws) r)
  pub less : last ≢ 0 → length (holders_since ws r j) < length (holders_since ws r last)
  pub rest : last ≢ 0 → (i : ℕ) → 1 ≤ count i (holders_since ws r last) → i ≢ last → (lock (seen ws) i).held ≢ 0 → 1 ≤ count i (holders_since ws r j)

-- those before j that hold more than NL have the next such, but for `last`
pub record ChainTo (ws : List ℕ) (r : ℕ) (ls₀ ls : List ℕ) (last j : ℕ) : Type 0 where
  pub gap : Gap ws r last j
  pub each : (k : ℕ) → 1 ≤ count k (holders (seen ws) r) → count k (holders_since ws r j) ≡ 0 → (lock (seen ws) k).held ≢ 0 → k ≢ last → Leaps ws r k (link_of ls k 4)
  pub elsewhere : Elsewhere ws r ls₀ ls

module _ {ws : List ℕ} {r : ℕ} {ls₀ ls : List ℕ} {last j : ℕ} (s : Some Core ws) (rows : Roomy ws ls) (i : ChainTo ws r ls₀ ls last j) where
  last_row : link_width * last + 4 < length ls
  last_row =
      by_equal last 0
      (λ z. row_inside ws ls last 4 rows (omega arith) (omega arith))
      (λ n. row_inside ws ls last 4 rows (holder_at ws s r last (i.gap.stands n)).high (omega arith))

  -- x is put behind `last`
  module _ (x : ℕ) where
    put_elsewhere : Elsewhere ws r ls₀ (set ls (link_width * last + 4) x)
    put_elsewhere =
        record {
          each = λ k n o.
              link_lock ls last 4 x k 4 (omega arith) (omega arith)
              (λ e. o (rw (sym e) at (holder_here ws s r last (i.gap.stands (λ z. n (e ∙ z))))))
              ∙ i.elsewhere.each k n o;
        }

    put_leaps : (x ≢ 0 → 1 ≤ count x (holders (seen ws) r)) → (x ≢ 0 → (lock (seen ws) x).held ≢ 0) → x ≡ j →
        (k : ℕ) → 1 ≤ count k (holders (seen ws) r) → count k (holders_since ws r j) ≡ 0 → (lock (seen ws) k).held ≢ 0 → Leaps ws r k (link_of (set ls (link_width * last + 4) x) k 4)
    put_leaps stands strong e k m z h =
        by_equal k last
        (λ q.
        let n : last ≢ 0 = λ o. absurd (omega (arith, (holder_at ws s r k m).low, q, o)) in
        rw (q, link_same ls last 4 x last_row)
        (record {
          stands = stands;
          strong = strong;
          less = rw e (i.gap.less n);
          rest = λ y p o w. rw e (i.gap.rest n y p o w);
        }))
        (λ q. rw (link_lock ls last 4 x k 4 (omega arith) (omega arith) q) (i.each k m z h q))

-- ---- the holders on a resource

-- at the holder j on r: those before it are done
pub record HoldersTo (ws lists others : List ℕ) (r : ℕ) (ls₀ ls : List ℕ) (last j : ℕ) : Type 0 where
  pub looking : Looking ws r j
  pub holding : Holding ws lists others ls
  pub righter : Righter ws ls₀ ls
  pub size : length ls ≡ length ls₀
  pub each : (b : ℕ) → 1 ≤ count b (holders (seen ws) r) → count b (holders_since ws r j) ≡ 0 → Right ws ls b
  pub chain : ChainTo ws r ls₀ ls last j

module _ {ws lists others ls : List ℕ} (h : Holding ws lists others ls) where
  pub holding_some : Some Core ws
  holding_some = h.owners.some

  pub holders_start : {r j : ℕ} → (1 ≤ r) × (r ≤ resources_in ws) → j ≡ first (holders (seen ws) r) → HoldersTo ws lists others r ls ls 0 j
  holders_start {r} {j} in_range e =
      record {
        looking = look_starts holding_some in_range e;
        holding = h;
        righter = righter_same ws ls;
        size = refl;
        each = λ b m z. absurd (omega (arith, ap (count b) (look_all ws r j e)));
        chain = record {
          gap = record { stands = λ n. absurd (n refl); less = λ n. absurd (n refl); rest = λ n. absurd (n refl) };
          each = λ k m z. absurd (omega (arith, ap (count k) (look_all ws r j e)));
          elsewhere = record { each = λ k n o. refl };
        };
      }

module _ {ws lists others : List ℕ} {r : ℕ} {ls₀ ls : List ℕ} {last j : ℕ} (i : HoldersTo ws lists others r ls₀ ls last j) where
  abbrev some : Some Core ws
  some = i.holding.owners.some

  pub holders_last : link_width * last + 4 < length ls
  holders_last = last_row some i.holding.rows i.chain

  module _ (n : j ≢ 0) where
    pub holders_at : At ws j
    holders_at = look_at i.looking n

    pub holders_looks : LookedFor ws lists others j
    holders_looks = looks i.holding holders_at

    pub holders_row : link_width * j + 2 < length ls
    holders_row = row i.holding holders_at

    pub holders_holds : Holds ws j
    holders_holds = look_holds i.looking n

    -- j has its number
    module _ {m : ℕ} {ls₁ : List ℕ} (f : Found ws lists others j m) (q : ls₁ ≡ set ls (link_width * j + 2) m) where
      numbered_holding : Holding ws lists others ls₁
      numbered_holding = rw q (stored_holding i.holding holders_at f)

      numbered_righter : Righter ws ls ls₁
      numbered_righter = rw q (stored_righter i.holding holders_at f)

      numbered_here : Right ws ls₁ j
      numbered_here = rw q (stored_here i.holding holders_at f)

      numbered_size : length ls₁ ≡ length ls
      numbered_size = rw q (length-set ls (link_width * j + 2) m)

      numbered_chain : ChainTo ws r ls₀ ls₁ last j
      numbered_chain =
          let same : (k : ℕ) → link_of ls₁ k 4 ≡ link_of ls k 4 = λ k. rw q (link_field ls j 2 m k 4 (omega arith) (omega arith) (λ e. absurd (omega arith))) in
          record {
            gap = i.chain.gap;
            each = λ k c z h o. rw (same k) (i.chain.each k c z h o);
            elsewhere = record { each = λ k c o. same k ∙ i.chain.elsewhere.each k c o };
          }

      pub holders_append : link_width * last + 4 < length ls₁
      holders_append = last_row some numbered_holding.rows numbered_chain

      module _ {x : ℕ} (e : x ≡ next j (holders (seen ws) (lock (seen ws) j).resource)) where
        splits : (k : ℕ) → k ≢ j → count k (holders_since ws r j) ≡ count k (holders_since ws r x)
        splits k o = rw (look_splits i.looking n e) (count_other k j (holders_since ws r x) o)

        -- j is left out
        null_chain : (lock (seen ws) j).held ≡ 0 → ChainTo ws r ls₀ ls₁ last x
        null_chain z =
            let other : (k : ℕ) → (lock (seen ws) k).held ≢ 0 → k ≢ j = λ k h o. h (rw (sym o) at z) in
            record {
              gap = record {
                stands = i.chain.gap.stands;
                less = λ o. omega (arith, i.chain.gap.less o, look_less i.looking n e);
                rest = λ o k p a h. omega (arith, i.chain.gap.rest o k p a h, splits k (other k h));
              };
              each = λ k c w h o. numbered_chain.each k c (splits k (other k h) ∙ w) h o;
              elsewhere = numbered_chain.elsewhere;
            }

        -- j is the last
        more_chain : (lock (seen ws) j).held ≢ 0 → ChainTo ws r ls₀ (set ls₁ (link_width * last + 4) j) j x
        more_chain h =
            record {
              gap = record {
                stands = i.looking.stands;
                less = λ o. look_less i.looking n e;
                rest = λ o k p a w. omega (arith, p, splits k a);
              };
              each = λ k c w g o. put_leaps some numbered_holding.rows numbered_chain j i.looking.stands (λ y. h) refl k c (splits k o ∙ w) g;
              elsewhere = put_elsewhere some numbered_holding.rows numbered_chain j;
            }

        pub holders_less : length (holders_since ws r x) < length (holders_since ws r j)
        holders_less = look_less i.looking n e

        -- the numbers do not change as j is put on the chain or left out
        module _ {ls₂ : List ℕ} {y : ℕ} (chain : ChainTo ws r ls₀ ls₂ y x) (on : Righter ws ls₁ ls₂) (size : length ls₂ ≡ length ls₁) where
          onward : HoldersTo ws lists others r ls₀ ls₂ y x
          onward =
              record {
                looking = look_on i.looking n e;
                holding = record { rows = record { rows = rw size numbered_holding.rows.rows }; owners = i.holding.owners };
                righter = righter_joined i.righter (righter_joined numbered_righter on);
                size = size ∙ numbered_size ∙ i.size;
                each = λ b k z.
                    on.right b
                    (by_equal b j
                    (λ d. rw d numbered_here)
                    (λ o. numbered_righter.right b (i.each b k (splits b o ∙ z))));
                chain = chain;
              }

        pub holders_again : {ls₂ : List ℕ} {y : ℕ} → Appended ws j last ls₁ ls₂ y → HoldersTo ws lists others r ls₀ ls₂ y x
        holders_again {ls₂} {y} a =
            by_equal (lock (seen ws) j).held 0
            (λ z. let p = a.null z in rw (p.0, p.1) (onward (null_chain z) (righter_same ws ls₁) refl))
            (λ h. let p = a.more h in rw (p.0, p.1) (onward (more_chain h) (next_righter ws ls₁ last j) (length-set ls₁ (link_width * last + 4) j)))

  pub holders_end : {ls' : List ℕ} → j ≡ 0 → ls' ≡ set ls (link_width * last + 4) 0 → HoldersDone ws r ls₀ ls'
  holders_end {ls'} e q =
      let none : (b : ℕ) → count b (holders_since ws r j) ≡ 0 = λ b. rw (look_ends ws r j i.looking.some e) (count_nil b) in
      let on = next_righter ws ls last 0 in
      rw q
      (record {
        righter = righter_joined i.righter on;
        each = λ b m. on.right b (i.each b m (none b));
        chained = record { each = λ k m h. put_leaps some i.holding.rows i.chain 0 (λ n. absurd (n refl)) (λ n. absurd (n refl)) (sym e) k m (none k) h };
        elsewhere = put_elsewhere some i.holding.rows i.chain 0;
      })

pub ruleset holders_laws = (rules, holders_start, holders_last, holders_at, holders_looks, holders_row, holders_holds, holders_append, holders_less, holders_again, holders_end)

-- ---- all lines

-- the resources below r are done
pub record LinesTo (ws lasts lists others ls₀ ls : List ℕ) (r : ℕ) : Type 0 where
  pub low : 1 ≤ r
  pub holding : Holding ws lists others ls
  pub righter : Righter ws ls₀ ls
  pub size : length ls ≡ length ls₀
  pub each : (q : ℕ) → 1 ≤ q → q < r → get_or lasts q 0 ≢ 0 → (j : ℕ) → 1 ≤ count j (holders (seen ws) q) → Right ws ls j
  pub chained : (q : ℕ) → 1 ≤ q → q < r → get_or lasts q 0 ≢ 0 → Chained ws ls q

-- the chain on another resource
chain_kept : (ws : List ℕ) → Some Core ws → (q r : ℕ) {ls ls' : List ℕ} → q ≢ r → Elsewhere ws r ls ls' → Chained ws ls q → Chained ws ls' q
chain_kept ws s q r o f c =
    record {
      each = λ k m h.
          rw (f.each k (λ z. absurd (omega (arith, (holder_at ws s q k m).low, z))) (λ e. o (sym (holder_here ws s q k m) ∙ e)))
          (c.each k m h);
    }

pub lines_start : {ws lists others ls : List ℕ} (lasts : List ℕ) → Holding ws lists others ls → LinesTo ws lasts lists others ls ls 1
lines_start {ws} {lists} {others} {ls} lasts h =
    record {
      low = omega arith;
      holding = h;
      righter = righter_same ws ls;
      size = refl;
      each = λ q l m. absurd (omega arith);
      chained = λ q l m. absurd (omega arith);
    }

pub lines_fit : {ws lists others ls : List ℕ} {n : ℕ} → Holding ws lists others ls → n ≡ resources_in ws → n + 1 < 2 ^ 32
lines_fit h e = omega (arith, (some_sized (holding_some h)).few_resources)

module _ {ws lasts lists others ls₀ ls : List ℕ} {r : ℕ} (i : LinesTo ws lasts lists others ls₀ ls r) where
  pub lines_again : {ls' : List ℕ} → LineDone ws lasts r ls ls' → length ls' ≡ length ls → LinesTo ws lasts lists others ls₀ ls' (r + 1)
  lines_again {ls'} d e =
      record {
        low = omega arith;
        holding = record { rows = record { rows = rw e i.holding.rows.rows }; owners = i.holding.owners };
        righter = righter_joined i.righter d.righter;
        size = e ∙ i.size;
        each = λ q l m n j k.
            by_equal q r
            (λ s. d.each (rw s at n) j (rw s at k))
            (λ o. d.righter.right j (i.each q l (omega arith) n j k));
        chained = λ q l m n.
            by_equal q r
            (λ s. rw s (d.chained (rw s at n)))
            (λ o. chain_kept ws (holding_some i.holding) q r o d.elsewhere (i.chained q l (omega arith) n));
      }

  module _ {n : ℕ} (e : n ≡ resources_in ws) where
    pub lines_range : r ≤ n → (1 ≤ r) × (r ≤ resources_in ws)
    lines_range l = (i.low, omega arith)

    pub lines_end : n < r → LinesDone ws lasts ls₀ ls
    lines_end l = record { righter = i.righter; each = λ q a b. i.each q a (omega arith); chained = λ q a b. i.chained q a (omega arith) }

pub ruleset lines_laws = (rules, some_sized, lines_start, lines_again, lines_range, lines_fit, lines_end)

-- ---- all owners

module _ {ws lists others ls ls₁ hs : List ℕ} (d : Done ws (seen ws).blocked lists others ls ls₁ hs) where
  module _ {lasts ls₂ : List ℕ} (l : LinesDone ws lasts ls₁ ls₂) where
    abbrev B : List ℕ
    B = (seen ws).blocked

    is_blocked : (b : ℕ) → 1 ≤ count b B → Blocked ws b
    is_blocked b m = record { some = d.owners.some; stands = m }

    number_of : (b : ℕ) → 1 ≤ count b B → link_of ls₂ b 2 ≡ owner_number ws b
    number_of b m = (l.righter.right b (d.linking.right b m)).is

    known_number : (j : ℕ) → Known ws lasts j → link_of ls₂ j 2 ≡ owner_number ws j
    known_number j (waits_itself m) = number_of j m
    known_number j (holds_there a m n k) = let h = blocked_home ws a (is_blocked a m) in (l.each (lock (seen ws) a).resource h.0 h.1 n j k).is

    numbers_apart : (j b : ℕ) → 1 ≤ count b B → owner_number ws j ≡ owner_number ws b → owner (lock (seen ws) j) ≡ owner (lock (seen ws) b)
    unfolding owner_number
    numbers_apart j b m e =
        let low : 1 ≤ first_of ws b B = number_low (is_blocked b m) in
        let some : first_of ws b B ≢ 0 = λ z. omega arith in
        sym (first_owner ws j B (λ z. some (sym e ∙ z))) ∙ ap (λ x. owner (lock (seen ws) x)) e ∙ first_owner ws b B some

    numbers_same : (j b : ℕ) → owner (lock (seen ws) j) ≡ owner (lock (seen ws) b) → owner_number ws j ≡ owner_number ws b
    unfolding owner_number
    numbers_same j b e = first_shared ws j b e B

    numbered : Numbered ws lasts ls₂
    numbered =
        record {
          some = λ b m. rw (number_of b m) (number_low (is_blocked b m));
          small = l.righter.small d.linking.small;
          same = λ j b k m. (
            λ e. numbers_apart j b m (sym (known_number j k) ∙ e ∙ number_of b m),
            λ e. known_number j k ∙ numbers_same j b e ∙ sym (number_of b m),
          );
        }

    mate_same : (k : ℕ) → link_of ls₂ k 3 ≡ link_of ls₁ k 3
    mate_same k = l.righter.mate.each k

    mated : Mated ws ls₂
    mated =
        record {
          stands = λ k m n. rw (mate_same k) (d.linking.mates k m (λ z. n (mate_same k ∙ z))).stands;
          same = λ k m n.
              let x = d.linking.mates k m (λ z. n (mate_same k ∙ z)) in
              rw (mate_same k) (number_of (link_of ls₁ k 3) x.stands ∙ x.same ∙ sym (number_of k m));
          falls = λ k m n. rw (mate_same k) (d.linking.mates k m (λ z. n (mate_same k ∙ z))).falls;
        }

    listed : (m : List Bool) → Listed ws ls₂ hs m
    listed m =
        record {
          wide = d.linking.wide;
          stands = d.linking.begins;
          same = λ o n. number_of (get_or hs o 0) (d.linking.begins o n) ∙ d.linking.same o n;
          each = λ b k f.
              rw (number_of b k)
              (on_kept (λ x. 1 ≤ count x B) (mate ls₁) (mate ls₂) (λ x p. mate_same x) (λ x p z. (d.linking.mates x p z).stands) (get_or hs (owner_number ws b) 0) b
              (d.linking.begins (owner_number ws b))
              (d.linking.each b k));
        }

    pub owners_done : OwnersNumbered ws lasts ls ls₂ hs
    owners_done =
        record {
          numbered = numbered;
          mated = mated;
          listed = listed;
          chained = l.chained;
          ahead = joined_links d.ahead l.righter.ahead;
          holder = joined_links d.holder l.righter.holder;
        }

pub ruleset owners_laws = (rules, none_done, owners_done)
