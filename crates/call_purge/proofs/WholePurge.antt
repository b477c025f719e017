-- The whole purge: the marked resources are those on which the client stood.
use mathlib.Core.Path.{◌≡◌, refl, sym, ◌∙◌, ap}
use mathlib.Core.Logic.{◌≢◌}
use mathlib.Core.Bool.{Bool, true, false, ◌||◌}
use mathlib.Core.List.{List, [], ◌∷◌, ◌++◌}
use Prim.Native.Nat.{ℕ, zero, suc, ◌+◌, ◌≤◌, ◌<◌}
use native.Mathlib.Omega.{arith}
use lib.ListN.{length, get_or, set, replicate, length-set, length-replicate}
use lib.Seq.{get_or-set_same, get_or-set_other}
use lib.Dec.{eqb}
use borrow.Author.Rules.{rules}
use borrow.Author.Tests.{eqb-true, eq-eqb, ne_eqb}
use Rattle.tables.specs.declared.Lock.{Lock}
use Rattle.tables.specs.Lists.{within, count, any, from}
use Rattle.tables.specs.State.{Tables, lock, resource, grants, converts, waits, queue}
use Rattle.tables.specs.Layout.{words, slots}
use Rattle.tables.specs.Grants.{holders}
use Rattle.tables.proofs.Cases.{by_cases, by_equal, eqb_same, same_truth}
use Rattle.tables.proofs.Counts.{within_le, count_same, count_step, count_append, count_from, bit_one, any_intro, by_append, kept_in, count_kept, keep_cong, any_has, get_or_same}
use Rattle.tables.specs.Validity.{used, Core}
use Rattle.tables.proofs.StateCases.{StateOk, ok_numbered}
use Rattle.tables.proofs.Valid.{absent_lock}
use Rattle.tables.proofs.ChainMembers.{chain_has, in_holder, on_waits}
use Rattle.rules.specs.Entries.{lent}
use Rattle.rules.specs.Calls.{accepted_with, locks_of, purge_lock, purge_locks, stands_on, settle_all, purge_change}
use Rattle.rules.specs.Accepted.{Purgeable}
use Rattle.table_fields.specs.Sizes.{resource_places}
use Rattle.table_chains.specs.Promises.{Changes}
use Rattle.queues.specs.Promises.{SomeTables}
use Rattle.answers.specs.Answers.{purge_answer}
use Rattle.answers.specs.Promises.{Makes}
use Rattle.answers.specs.declared.Purged.{Purged}
use Rattle.call_purge.specs.PurgedLocks.{purge_all, mark_locks, mark_all, count_locks, count_all, Frees}
use Rattle.table_chains.specs.Marks.{marked}
use Rattle.call_purge.specs.SettledResources.{settle_marked}
use Rattle.call_purge.proofs.OneLock.{lock_freed}
use Rattle.call_purge.proofs.MarkedResources.{Kept}

-- MARKS: of the resources of a list of locks
mark_told : (t : Tables) (s : ℕ) (ks : List ℕ) (m : List Bool) → s < length m → marked (mark_locks ks t m) s ≡ (marked m s || any (λ k. eqb (lock t k).resource s) ks)
unfolding mark_locks any marked
mark_told t s [] m h = by_cases (get_or m s false) (λ e. rw e) (λ e. rw e)
mark_told t s (k ∷ ks) m h =
    let r = (lock t k).resource in
    mark_told t s ks (set m r true) (rw (length-set m r true) h)
    ∙ by_equal s r
    (λ e. rw (eq-eqb r s (sym e), e, get_or-set_same m r true false (rw e at h)) (by_cases (get_or m r false) (λ b. rw b) (λ b. rw b)))
    (λ n. rw (ne_eqb r s (λ e. n (sym e)), get_or-set_other m r s true false n))

-- WHERE THE CLIENT STANDS: on the resources of its locks
module _ (c : ℕ) (t : Tables) (co : Core t) (s : ℕ) (some : s ≢ 0) where
  stands : (k : ℕ) → within (length t.locks) k ≡ true → eqb (lock t k).client c ≡ true → (lock t k).resource ≡ s → stands_on c t s ≡ true
  unfolding stands_on holders
  stands k w h e = go (lock t k).state refl (ok_numbered (co.lock_ok k))
    where
      on : 1 ≤ count k (resource t s).grant + count k (resource t s).convert + count k (resource t s).wait → stands_on c t s ≡ true
      on m = any_intro (λ k. eqb (lock t k).client c) (holders t s ++ (resource t s).wait) k (rw (count_append, count_append) m) h

      go : (n : ℕ) → (lock t k).state ≡ n → StateOk (used t) (lock t k) n → stands_on c t s ≡ true
      go zero q ok = absurd (some (sym e ∙ ap (λ (l : Lock). l.resource) ok))
      go (suc zero) q ok = on (omega (arith, chain_has t co.linked (queue s grants) k w (rw (q, e, eqb_same s))))
      go (suc (suc zero)) q ok = on (omega (arith, chain_has t co.linked (queue s converts) k w (rw (q, e, eqb_same s))))
      go (suc (suc (suc zero))) q ok = on (omega (arith, chain_has t co.linked (queue s waits) k w (rw (q, e, eqb_same s))))
      go (suc (suc (suc (suc zero)))) q ok = absurd (some (sym e ∙ ok.nowhere))
      go (suc (suc (suc (suc (suc n))))) q ok = absurd ok

  -- a lock on one of the chains of s
  on_resource : (k : ℕ) → 1 ≤ count k (holders t s ++ (resource t s).wait) → (lock t k).resource ≡ s
  on_resource k m =
      by_append k (holders t s) (resource t s).wait m (λ h. (in_holder t co.linked s k h).1) (λ h. (on_waits t co.linked s k h).1)

  on_lock : (k : ℕ) → (lock t k).resource ≡ s → within (length t.locks) k ≡ true
  on_lock k e =
      by_cases (within (length t.locks) k) (λ w. w) (λ w. absurd (some (sym e ∙ ap (λ (l : Lock). l.resource) (absent_lock t k w))))

  stands_told : any (λ k. eqb (lock t k).resource s) (locks_of c t) ≡ stands_on c t s
  unfolding locks_of stands_on
  stands_told =
      let own : ℕ → Bool = λ k. eqb (lock t k).client c in
      let n = length t.locks in
      same_truth (any (λ k. eqb (lock t k).resource s) (locks_of c t)) (stands_on c t s)
      (λ h.
      let i = any_has (λ k. eqb (lock t k).resource s) (locks_of c t) h in
      let k = kept_in own n i.0 i.1 in
      stands i.0 k.0 k.1 (eqb-true (lock t i.0).resource s i.2))
      (λ h.
      let i = any_has own (holders t s ++ (resource t s).wait) h in
      let e = on_resource i.0 i.1 in
      any_intro (λ k. eqb (lock t k).resource s) (locks_of c t) i.0
      (rw (count_kept own n i.0, i.2, on_lock i.0 e) (omega arith))
      (eq-eqb (lock t i.0).resource s e))

-- THE STATE after the first half
purges_kept : (ks : List ℕ) (t : Tables) → Core t → ((j : ℕ) → 1 ≤ count j ks → within (length t.locks) j ≡ true) → Kept t (purge_locks ks t)
unfolding purge_locks
purges_kept [] t co w = record { core = co; resources_are = refl }
purges_kept (k ∷ ks) t co w =
    let f = lock_freed k t (record { core = co; in_range = w k (rw count_same (omega arith)) }) in
    let i = purges_kept ks (purge_lock k t) f.core (λ j m. rw f.locks_are (w j (omega (arith, m, count_step j k ks)))) in
    record { core = i.core; resources_are = i.resources_are ∙ f.resources_are }

module _ (c : ℕ) (t : Tables) (co : Core t) where
  all_kept : Kept t (purge_all c t)
  unfolding purge_all locks_of
  all_kept = purges_kept (locks_of c t) t co (λ j m. (kept_in (λ k. eqb (lock t k).client c) (length t.locks) j m).0)

  marks_tell : (m : List Bool) → m ≡ mark_all c (replicate resource_places false) t → (s : ℕ) → within (length t.resources) s ≡ true → marked m s ≡ stands_on c t s
  unfolding mark_all marked
  marks_tell m e s w =
      let low = within_le (length t.resources) s w in
      let high = co.resources_high in
      let none = replicate resource_places false in
      ap (λ (x : List Bool). marked x s) e
      ∙ mark_told t s (locks_of c t) none (rw (length-replicate resource_places false) (omega arith))
      ∙ rw (get_or_same false resource_places s) (stands_told c t co s (λ z. omega arith))

  settles : (m : List Bool) → m ≡ mark_all c (replicate resource_places false) t → settle_marked m (purge_all c t) ≡ (purge_change c t).tables
  unfolding purge_change settle_marked purge_all
  settles m e =
      let n = length t.resources in
      rw all_kept.resources_are
      (ap (λ (rs : List ℕ). settle_all rs (purge_all c t))
      (keep_cong (marked m) (stands_on c t) (from 1 n) (λ s i. marks_tell m e s (bit_one (within n s) (rw (count_from n s) at i)))))

-- purge_change
module _ (c : ℕ) (a sa b sb : List ℕ) (m : List Bool) (x : Purged) (f : Frees Core (purge_all c) (mark_all c (replicate resource_places false)) (count_all c) a sa b sb m x) where
  pub change_settles : SomeTables (Purgeable c) a sa → SomeTables Core b sb
  change_settles s =
      let co = s.good.valid.core in
      let q = f.then s.state co s.is s.slots_are in
      record { state = purge_all c s.state; good = (all_kept c s.state co).core; is = q.0; slots_are = q.1 }

  pub change_made : (d sd : List ℕ) → Changes Core (settle_marked m) b sb d sd → Makes (Purgeable c) (purge_change c) a sa d sd (purge_answer x)
  unfolding count_all count_locks
  change_made d sd g = record {
    then = λ t p is iss.
        let co = p.valid.core in
        let q = f.then t co is iss in
        let w = g.then (purge_all c t) (all_kept c t co).core q.0 q.1 in
        let e = settles c t co m q.2 in
        unfold purge_change in λ i. record { said = let y = q.3 i in accepted_with y.freed y.blocked y.unread; lent_after = lent ((w.0 ∙ ap words e) i) ((w.1 ∙ ap slots e) i) };
  }

pub ruleset change_laws = (rules, change_settles, change_made)
