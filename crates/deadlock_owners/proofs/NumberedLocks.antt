-- The blocked locks get their owners' numbers, one after the other: a law for each return, turn and call.
use mathlib.Core.Path.{◌≡◌, refl, sym, ap, ◌∙◌}
use mathlib.Core.Logic.{◌≢◌}
use mathlib.Core.List.{List, [], ◌∷◌, ◌++◌}
use Prim.Native.Nat.{ℕ, ◌+◌, ◌*◌, ◌≤◌, ◌<◌}
use native.Mathlib.Omega.{arith}
use lib.ListN.{get_or, set, length, length-set, replicate, length-replicate}
use lib.Seq.{get_or-set_same, get_or-set_other}
use borrow.Author.Rules.{rules}
use Rattle.tables.specs.Lists.{count}
use Rattle.tables.specs.Layout.{of_header, of_lock, locks_in, word_in, onward}
use Rattle.tables.proofs.Cases.{by_equal}
use Rattle.tables.proofs.Counts.{count_nil, get_or_same}
use Rattle.tables.specs.Validity.{Core}
use Rattle.table_chains.specs.Promises.{Some}
use Rattle.table_chains.specs.Walking.{At}
use Rattle.table_chains.proofs.ChainWalks.{walk_less}
use Rattle.deadlock_graph.specs.Promises.{seen, Blocked}
use Rattle.deadlock_graph.specs.Links.{link_width, link_of, SameLinks, mate, On, here, past}
use Rattle.deadlock_graph.proofs.LinkLaws.{link_same, link_lock, link_field, links_kept, same_links, joined_links, row_inside, roomy_stored, on_kept}
use Rattle.deadlock_graph.proofs.LockWords.{blocked_at}
use Rattle.deadlock_owners.specs.OwnerLists.{owner_lists, owner_number, passed, OwnerLists, Noted}
use Rattle.deadlock_owners.specs.OwnerNumbers.{Right, Mate, Linking, Listable, ListedLock, Numbering, Done, Unnumbered}
use Rattle.deadlock_owners.proofs.FirstLocks.{first_nil, first_stands, first_there, more_new, more_kept, more_old, none_blocked, passed_apart, passed_less, Standing, stand_starts, stand_blocked, stand_passes, stand_on, stand_ends}

-- ---- an owner's number is the number of a blocked lock

module _ {ws : List ℕ} {k : ℕ} (b : Blocked ws k) where
  pub number_blocked : Blocked ws (owner_number ws k)
  unfolding owner_number
  number_blocked =
      record {
        some = b.some;
        stands = first_stands ws k (seen ws).blocked (first_there ws k (seen ws).blocked k (none_blocked ws b.some) b.stands refl);
      }

  pub number_low : 1 ≤ owner_number ws k
  number_low = (blocked_at ws (owner_number ws k) number_blocked).low

  pub number_high : owner_number ws k ≤ locks_in ws
  number_high = (blocked_at ws (owner_number ws k) number_blocked).high

-- ---- one lock

pub list_done : {k n : ℕ} {ls m m' : List ℕ} (hs : List ℕ) → m ≡ set ls (link_width * k + 2) n → m' ≡ set m (link_width * k + 3) (get_or hs n 0) → ListedLock k n ls m' hs (set hs n k)
list_done {k} {n} hs e q = record { links = q ∙ ap (λ (xs : List ℕ). set xs (link_width * k + 3) (get_or hs n 0)) e; heads = refl }

module _ {ws lists others ls hs : List ℕ} {k : ℕ} (i : Numbering ws k lists others ls hs) where
  k_at : At ws k
  k_at = blocked_at ws k i.stands

  abbrev P : List ℕ
  P = passed ws k

  abbrev P' : List ℕ
  P' = passed ws k ++ (k ∷ [])

  apart : (b : ℕ) → 1 ≤ count b P → b ≢ k
  apart b m e = omega (arith, passed_apart ws k, rw e at m)

  row : (f : ℕ) → f < link_width → link_width * k + f < length ls
  row f l = row_inside ws ls k f i.linking.rows k_at.high l

  module _ {n : ℕ} (e : n ≡ owner_number ws k) where
    n_high : n ≤ locks_in ws
    n_high = rw e (number_high i.stands)

    n_place : n < length hs
    n_place = omega (arith, n_high, i.linking.wide)

    abbrev ls₁ : List ℕ
    ls₁ = set ls (link_width * k + 2) n

    abbrev ls₂ : List ℕ
    ls₂ = set ls₁ (link_width * k + 3) (get_or hs n 0)

    abbrev hs' : List ℕ
    hs' = set hs n k

    row₁ : link_width * k + 3 < length ls₁
    row₁ = omega (arith, row 3 (omega arith), length-set ls (link_width * k + 2) n)

    number_here : link_of ls₂ k 2 ≡ n
    number_here = link_field ls₁ k 3 (get_or hs n 0) k 2 (omega arith) (omega arith) (omega arith) ∙ link_same ls k 2 n (row 2 (omega arith))

    number_there : (j : ℕ) → j ≢ k → link_of ls₂ j 2 ≡ link_of ls j 2
    number_there j o = link_field ls₁ k 3 (get_or hs n 0) j 2 (omega arith) (omega arith) (omega arith) ∙ link_lock ls k 2 n j 2 (omega arith) (omega arith) o

    mate_here : link_of ls₂ k 3 ≡ get_or hs n 0
    mate_here = link_same ls₁ k 3 (get_or hs n 0) row₁

    mate_there : (j : ℕ) → j ≢ k → link_of ls₂ j 3 ≡ link_of ls j 3
    mate_there j o = link_lock ls₁ k 3 (get_or hs n 0) j 3 (omega arith) (omega arith) o ∙ link_field ls k 2 n j 3 (omega arith) (omega arith) (omega arith)

    head_here : get_or hs' n 0 ≡ k
    head_here = get_or-set_same hs n k 0 n_place

    head_there : (o : ℕ) → o ≢ n → get_or hs' o 0 ≡ get_or hs o 0
    head_there o d = get_or-set_other hs n o k 0 d

    same_field : (f : ℕ) → f < 2 → SameLinks f ls ls₂
    same_field f l = joined_links (links_kept ls k 2 n f (omega arith) (omega arith) (omega arith)) (links_kept ls₁ k 3 (get_or hs n 0) f (omega arith) (omega arith) (omega arith))

    small : (j : ℕ) → link_of ls₂ j 2 ≤ locks_in ws
    small j = by_equal j k (λ q. rw (q, number_here) n_high) (λ o. rw (number_there j o) (i.linking.small j))

    right : (b : ℕ) → 1 ≤ count b P' → Right ws ls₂ b
    right b m =
        by_equal b k
        (λ q. rw q (record { is = number_here ∙ e }))
        (λ o. record { is = number_there b o ∙ (i.linking.right b (more_old P k b o m)).is })

    mate_more : (b x : ℕ) → Mate ws P b x → Mate ws P' b x
    mate_more b x m = record { stands = more_kept P k x m.stands; same = m.same; falls = m.falls }

    mates : (b : ℕ) → 1 ≤ count b P' → link_of ls₂ b 3 ≢ 0 → Mate ws P' b (link_of ls₂ b 3)
    mates b m z =
        by_equal b k
        (λ q. let some : get_or hs n 0 ≢ 0 = λ o. z (ap (λ x. link_of ls₂ x 3) q ∙ mate_here ∙ o) in
        rw (q, mate_here)
        (mate_more k (get_or hs n 0)
        (record {
          stands = i.linking.begins n some;
          same = i.linking.same n some ∙ e;
          falls = passed_less ws k (get_or hs n 0) (i.linking.begins n some);
        })))
        (λ o. rw (mate_there b o) (mate_more b (link_of ls b 3) (i.linking.mates b (more_old P k b o m) (λ q. z (mate_there b o ∙ q)))))

    begins : (o : ℕ) → get_or hs' o 0 ≢ 0 → 1 ≤ count (get_or hs' o 0) P'
    begins o z =
        by_equal o n
        (λ q. rw (q, head_here) (more_new P k))
        (λ d. rw (head_there o d) (more_kept P k (get_or hs o 0) (i.linking.begins o (λ q. z (head_there o d ∙ q)))))

    same : (o : ℕ) → get_or hs' o 0 ≢ 0 → owner_number ws (get_or hs' o 0) ≡ o
    same o z =
        by_equal o n
        (λ q. rw (q, head_here) (sym e))
        (λ d. rw (head_there o d) (i.linking.same o (λ q. z (head_there o d ∙ q))))

    old : (b : ℕ) → 1 ≤ count b P → On (mate ls₂) (get_or hs (owner_number ws b) 0) b
    old b m =
        on_kept (λ x. 1 ≤ count x P) (mate ls) (mate ls₂) (λ x h. mate_there x (apart x h)) (λ x h z. (i.linking.mates x h z).stands) (get_or hs (owner_number ws b) 0) b
        (i.linking.begins (owner_number ws b))
        (i.linking.each b m)

    each : (b : ℕ) → 1 ≤ count b P' → On (mate ls₂) (get_or hs' (owner_number ws b) 0) b
    each b m =
        by_equal b k
        (λ q. rw (q, sym e, head_here) (here k))
        (λ d. let a = old b (more_old P k b d m) in
        by_equal (owner_number ws b) n
        (λ q. rw (q, head_here) (past k b (λ z. omega (arith, k_at.low)) (rw mate_here (rw q at a))))
        (λ o. rw (head_there (owner_number ws b) o) a))

    linked : Linking ws P' ls₂ hs'
    linked =
        record {
          rows = roomy_stored ws ls₁ _ _ (roomy_stored ws ls _ _ i.linking.rows);
          wide = omega (arith, i.linking.wide, length-set hs n k);
          small = small;
          right = right;
          mates = mates;
          begins = begins;
          same = same;
          each = each;
        }

  module _ {n : ℕ} {lists' others' : List ℕ} (d : Noted ws k lists' others' n) where
    pub numbering_lists : Listable k n ls hs
    numbering_lists = record { row = row 3 (omega arith); head = n_place d.is }

    pub numbering_done : {ls' hs' : List ℕ} → ListedLock k n ls ls' hs hs' → Done ws P' lists' others' ls ls' hs'
    numbering_done l =
        rw (l.links, l.heads)
        (record {
          owners = d.owners;
          linking = linked d.is;
          ahead = same_field d.is 0 (omega arith);
          holder = same_field d.is 1 (omega arith);
        })

pub ruleset lock_laws = (rules, numbering_lists, numbering_done)

-- ---- all blocked locks

-- at the lock k of the blocked chain: those before it are done
pub record NumberedTo (ws lists₀ others₀ ls₀ hs₀ lists others ls hs : List ℕ) (k : ℕ) : Type 0 where
  pub stands : Standing ws k
  pub done : Done ws (passed ws k) lists others ls₀ ls hs
  pub lists_size : length lists ≡ length lists₀
  pub others_size : length others ≡ length others₀
  pub links_size : length ls ≡ length ls₀
  pub heads_size : length hs ≡ length hs₀

module _ {ws lasts others ls hs : List ℕ} (u : Unnumbered ws lasts ls hs others) where
  abbrev lists : List ℕ
  lists = replicate owner_lists 0

  empty_list : (p : ℕ) → get_or lists p 0 ≡ 0
  empty_list = get_or_same {A = ℕ} 0 owner_lists

  none_listed : OwnerLists ws [] lists others
  none_listed =
      record {
        some = u.some;
        inside = λ b m. absurd (omega (arith, count_nil b));
        wide = length-replicate {A = ℕ} owner_lists 0;
        room = u.room;
        begins = λ p n. absurd (n (empty_list p));
        follows = λ k f n. absurd (omega (arith, count_nil k, f.stands));
        falls = λ k f n. absurd (omega (arith, count_nil k, f.stands));
        each = λ j n. absurd (n (first_nil ws j []));
      }

  none_linked : Linking ws [] ls hs
  none_linked =
      record {
        rows = u.rows;
        wide = u.wide;
        small = λ j. rw (u.none.each j) (omega arith);
        right = λ b m. absurd (omega (arith, count_nil b));
        mates = λ b m n. absurd (omega (arith, count_nil b));
        begins = λ o n. absurd (n (u.empty o));
        same = λ o n. absurd (n (u.empty o));
        each = λ b m. absurd (omega (arith, count_nil b));
      }

  pub none_done : Done ws [] lists others ls ls hs
  none_done = record { owners = none_listed; linking = none_linked; ahead = same_links 0 ls; holder = same_links 1 ls }

module _ {ws lists others ls hs : List ℕ} (d : Done ws [] lists others ls ls hs) where
  pub blocked_some : Some Core ws
  blocked_some = d.owners.some

  pub blocked_starts : {k : ℕ} → k ≡ word_in ws (of_header 5) → NumberedTo ws lists others ls hs lists others ls hs k
  blocked_starts {k} e =
      let s = stand_starts blocked_some e in
      record {
        stands = s.0;
        done = rw s.1 d;
        lists_size = refl;
        others_size = refl;
        links_size = refl;
        heads_size = refl;
      }

module _ {ws lists₀ others₀ ls₀ hs₀ lists others ls hs : List ℕ} {k : ℕ} (i : NumberedTo ws lists₀ others₀ ls₀ hs₀ lists others ls hs k) where
  pub blocked_ends : k ≡ 0 → Done ws (seen ws).blocked lists others ls₀ ls hs
  blocked_ends e = rw (stand_ends i.stands e) at i.done

  module _ (n : k ≢ 0) where
    pub blocked_numbers : Numbering ws k lists others ls hs
    blocked_numbers = record { stands = stand_blocked i.stands n; owners = i.done.owners; linking = i.done.linking }

    pub blocked_again : {x : ℕ} {lists' others' ls' hs' : List ℕ} → Done ws (passed ws k ++ (k ∷ [])) lists' others' ls ls' hs' → length lists' ≡ length lists →
        length others' ≡ length others → length ls' ≡ length ls → length hs' ≡ length hs → x ≡ word_in ws (of_lock k 1) →
        NumberedTo ws lists₀ others₀ ls₀ hs₀ lists' others' ls' hs' x
    blocked_again {x} d a b c f e =
        record {
          stands = stand_on i.stands n e;
          done = rw (stand_passes i.stands n e)
              (record {
                owners = d.owners;
                linking = d.linking;
                ahead = joined_links i.done.ahead d.ahead;
                holder = joined_links i.done.holder d.holder;
              });
          lists_size = a ∙ i.lists_size;
          others_size = b ∙ i.others_size;
          links_size = c ∙ i.links_size;
          heads_size = f ∙ i.heads_size;
        }

    pub blocked_less : (x : ℕ) → x ≡ word_in ws (of_lock k 1) → length (onward ws 1 x) < length (onward ws 1 k)
    blocked_less x e = walk_less x i.stands.walks n e

pub ruleset blocked_laws = (rules, blocked_some, blocked_starts, blocked_ends, blocked_numbers, blocked_again, blocked_less)
