-- Every number that an entry says fits in 16 bits: refusals are numerals, and sound tables have at most 1,024 locks.
use mathlib.Core.Path.{◌≡◌, refl, ap}
use mathlib.Core.Bool.{Bool, true, false}
use mathlib.Core.List.{List, [], ◌∷◌, ◌++◌}
use Prim.Native.Nat.{ℕ, zero, suc, ◌<◌, ◌≤◌, ◌^◌}
use native.Mathlib.Omega.{arith}
use lib.ListN.{length, length-append, length-map}
use lib.Dec.{T as Holds, eqb, ltb, lit<}
use Rattle.tables.specs.declared.Lock.{Lock}
use Rattle.tables.specs.declared.LockEntry.{LockEntry}
use Rattle.tables.specs.Lists.{count, first_that, first, from}
use Rattle.tables.specs.State.{Tables, lock, resource, converting, blocked_lock, unread, grants, converts, waits, LockChain, free_locks, blocked, notices, queue, chain}
use Rattle.tables.specs.Layout.{read}
use Rattle.tables.specs.Grants.{holders}
use Rattle.tables.specs.Sound.{sound}
use Rattle.tables.specs.Validity.{used, Core}
use Rattle.tables.proofs.Cases.{by_cases}
use Rattle.tables.proofs.Counts.{within_le, count_same, first_in}
use Rattle.tables.proofs.ChainMembers.{on_chain}
use Rattle.tables.proofs.StateCases.{StateOk, ok_numbered}
use Rattle.tables.proofs.Pigeonhole.{length_from}
use Rattle.tables.proofs.Soundness.{sound_valid}
use Rattle.rules.specs.Queues.{find}
use Rattle.rules.specs.Deadlock.{victim}
use Rattle.rules.specs.Calls.{accepted_with, accepted, refused, Step, unless, refused_or, resource_for, with_resource, granted_at_once, request_on, request_change, request_refusal, request, in_place, convert_change, convert_refusal, convert, release_change, release_refusal, release, cancel_change, cancel_refusal, cancel, locks_of, how_many, purge_change, purge_refusal, purge, deny_victim, break, poll_notice, poll_change, poll_refusal, poll}
use Rattle.rules.specs.Entries.{Lent, Call, to_request, to_convert, to_release, to_cancel, to_purge, to_break, to_poll, step_of, written_back, if_sound, entry, call_entry, start_accepts, start_if, start_entry, look_refusal, read_value, read_if, read_entry, lock_entry, listed, list_locks, list_if, list_entry}
use Rattle.rules.specs.Images.{image_refusal, image_into, image_entry, load_refusal, load_into, load_entry}
use Rattle.rules.specs.Numbers.{Small, reading_said, listing_said, imaged_said, NumbersSmall}
use Rattle.rules.proofs.ChainLengths.{length_keep, chain_short}

small_with : (a k x : ℕ) → a < 2 ^ 16 → k < 2 ^ 16 → x < 2 ^ 16 → Small (accepted_with a k x)
small_with a k x p q r = record { refusal = omega arith; answer = p; number = q; extra = r; silent = λ z. absurd (z refl) }

small_accepted : (a k : ℕ) → a < 2 ^ 16 → k < 2 ^ 16 → Small (accepted a k)
small_accepted a k p q = small_with a k 0 p q (omega arith)

answer_small : (a : ℕ) → a < 2 ^ 16 → Small (accepted a 0)
answer_small a p = small_accepted a 0 p (omega arith)

small_refused : (n : ℕ) → n < 2 ^ 16 → Small (refused n)
small_refused n p = record { refusal = p; answer = omega arith; number = omega arith; extra = omega arith; silent = λ z. refl }

-- REFUSALS. A test's own refusal is a numeral
test_small : (b : Bool) (n rest : ℕ) → Holds (ltb n (2 ^ 16)) → rest < 2 ^ 16 → unless b n rest < 2 ^ 16
unfolding unless
test_small true n rest p q = q
test_small false n rest p q = lit< p

none_small : 0 < 2 ^ 16
none_small = omega arith

ruleset tests_small = (test_small, none_small)

refused_small : (n : ℕ) (s : Step) (t : Tables) → n < 2 ^ 16 → Small s.said → Small (refused_or n s t).said
unfolding refused_or
refused_small zero s t p q = q
refused_small (suc n) s t p q = small_refused (suc n) p

look_small : (c k : ℕ) (t : Tables) → look_refusal c k t < 2 ^ 16
unfolding look_refusal
look_small c k t = search tests_small depth 20

-- ANSWERS of the calls on a state
notice_small : (u : ℕ → Bool) (l : Lock) (s : ℕ) → StateOk u l s → (l.completion < 2 ^ 16) × (l.mark < 2 ^ 16)
notice_small u l zero ok = (omega (arith, ap (λ (x : Lock). x.completion) ok), omega (arith, ap (λ (x : Lock). x.mark) ok))
notice_small u l (suc zero) ok = (omega (arith, ok.notice), omega (arith, ok.place.mark_mode))
notice_small u l (suc (suc zero)) ok = (omega (arith, ok.notice), omega (arith, ok.place.mark_mode))
notice_small u l (suc (suc (suc zero))) ok = (omega (arith, ok.notice), omega (arith, ok.no_mark))
notice_small u l (suc (suc (suc (suc zero)))) ok = (omega (arith, ok.notice), omega (arith, ok.no_mark))
notice_small u l (suc (suc (suc (suc (suc n))))) ok = absurd ok

convert_small : (k m f : ℕ) (v : List ℕ) (t : Tables) → Small (convert_change k m f v t).said
unfolding convert_change
convert_small k m f v t =
    by_cases (in_place k m t)
    (λ h. rw (h, convert_change) (answer_small 1 (omega arith)))
    (λ h. rw (h, convert_change) (answer_small 2 (omega arith)))

cancel_small : (k : ℕ) (t : Tables) → Small (cancel_change k t).said
unfolding cancel_change
cancel_small k t =
    by_cases (converting (lock t k))
    (λ h. rw (h, cancel_change) (answer_small 1 (omega arith)))
    (λ h. rw (h, cancel_change) (answer_small 2 (omega arith)))

module _ (t : Tables) (c : Core t) where
  -- a lock on a chain, and as many as there are
  number_small : (x : LockChain) (k : ℕ) → 1 ≤ count k (chain t x) → k < 2 ^ 16
  number_small x k m = omega (arith, (within_le (length t.locks) k (on_chain t c.linked x k m).0).1, c.locks_high)

  free_small : first t.free_locks < 2 ^ 16
  free_small = go t.free_locks refl
    where
      go : (ks : List ℕ) → t.free_locks ≡ ks → first ks < 2 ^ 16
      go [] e = omega arith
      go (k ∷ ks) e = number_small free_locks k (rw (e, count_same) (omega arith))

  request_small : (i m : ℕ) (n : List ℕ) → Small (request_change i m n t).said
  unfolding request_change
  request_small i m n = on (resource_for (find n t) t) (with_resource (find n t) n t)
    where
      on : (r : ℕ) (u : Tables) → Small (request_on r (first t.free_locks) i m u).said
      on r u = unfold request_on in
          by_cases (granted_at_once u r m)
          (λ h. rw (h, request_on) (small_accepted 1 (first t.free_locks) (omega arith) free_small))
          (λ h. rw (h, request_on) (small_accepted 2 (first t.free_locks) (omega arith) free_small))

  -- a client has at most as many locks as there are, and no more of one kind
  own_small : (i : ℕ) → length (locks_of i t) < 2 ^ 16
  unfolding locks_of
  own_small i = omega (arith, length_keep (λ k. eqb (lock t k).client i) (from 1 (length t.locks)), length_from 1 (length t.locks), c.locks_high)

  some_small : (p : Lock → Bool) (i : ℕ) → how_many p (locks_of i t) t < 2 ^ 16
  unfolding how_many
  some_small p i = omega (arith, length_keep (λ k. p (lock t k)) (locks_of i t), own_small i)

  purge_small : (i : ℕ) → Small (purge_change i t).said
  unfolding purge_change
  purge_small i = small_with _ _ _ (own_small i) (some_small blocked_lock i) (some_small unread i)

  break_small : Small (break t).said
  unfolding break deny_victim victim
  break_small = go (victim t) refl
    where
      go : (n : ℕ) → victim t ≡ n → Small (deny_victim n t).said
      go zero e = answer_small 0 (omega arith)
      go (suc k) e = let p = number_small blocked (suc k) (first_in _ t.blocked k e) in small_accepted (suc k) (suc k) p p

  poll_small : (i : ℕ) → Small (poll_change i t).said
  unfolding poll_change poll_notice
  poll_small i = go (first_that (λ k. eqb (lock t k).client i) t.notices) refl
    where
      go : (n : ℕ) → first_that (λ k. eqb (lock t k).client i) t.notices ≡ n → Small (poll_notice n t).said
      go zero e = answer_small 0 (omega arith)
      go (suc k) e =
          let n = notice_small (used t) (lock t (suc k)) (lock t (suc k)).state (ok_numbered (c.lock_ok (suc k))) in
          small_with _ _ _ n.0 (number_small notices (suc k) (first_in _ t.notices k e)) n.1

  step_small : (call : Call) → Small (step_of call t).said
  unfolding request convert release cancel purge poll request_refusal convert_refusal release_refusal cancel_refusal purge_refusal poll_refusal release_change
  step_small (to_request i m f n) = refused_small (request_refusal i m f n t) (request_change i m n t) t (search tests_small depth 20) (request_small i m n)
  step_small (to_convert i k m f v) = refused_small (convert_refusal i k m f v t) (convert_change k m f v t) t (search tests_small depth 20) (convert_small k m f v t)
  step_small (to_release i k f v) = refused_small (release_refusal i k f v t) (release_change k f v t) t (search tests_small depth 20) (answer_small 0 (omega arith))
  step_small (to_cancel i k) = refused_small (cancel_refusal i k t) (cancel_change k t) t (search tests_small depth 20) (cancel_small k t)
  step_small (to_purge i) = refused_small (purge_refusal i) (purge_change i t) t (search tests_small depth 20) (purge_small i)
  step_small to_break = break_small
  step_small (to_poll i) = refused_small (poll_refusal i) (poll_change i t) t (search tests_small depth 20) (poll_small i)

  -- three chains, each of at most L locks
  listed_small : (r : ℕ) → length (listed t r) < 2 ^ 16
  unfolding listed holders
  listed_small r =
      let x = resource t r in
      omega (
        arith,
        length-map ((x.grant ++ x.convert) ++ x.wait) (lock_entry t),
        length-append (x.grant ++ x.convert) x.wait,
        length-append x.grant x.convert,
        chain_short t c (queue r grants),
        chain_short t c (queue r converts),
        chain_short t c (queue r waits),
        c.locks_high,
      )

-- THE ENTRIES
pub call_small : (c : Call) (t : Lent) → Small (call_entry c t).said
unfolding call_entry entry
call_small c t = go (sound t.words t.slots) refl
  where
    back : (n : ℕ) (s : Step) → n < 2 ^ 16 → Small s.said → Small (written_back n s t).said
    back zero s p q = unfold written_back in q
    back (suc n) s p q = unfold written_back in small_refused (suc n) p

    go : (b : Bool) → sound t.words t.slots ≡ b → Small (if_sound b (step_of c) t).said
    go false e = unfold if_sound in small_refused 1 (omega arith)
    go true e = unfold if_sound in
        let u : Tables = read t.words t.slots in
        let s = step_small u (sound_valid t.words t.slots e).core c in
        back (step_of c u).said.refusal (step_of c u) s.refusal s

pub start_small : (t : Lent) (r l : ℕ) → Small (start_entry t r l).said
unfolding start_entry start_accepts
start_small t r l = go (start_accepts t.words t.slots r l)
  where
    go : (b : Bool) → Small (start_if b t r l).said
    go false = unfold start_if in small_refused 2 (omega arith)
    go true = unfold start_if in answer_small 0 (omega arith)

read_small : (ws ss : List ℕ) (c k : ℕ) → Small (reading_said (read_entry ws ss c k))
unfolding read_entry
read_small ws ss c k = go (sound ws ss) refl
  where
    value : (n r : ℕ) (t : Tables) → Core t → n < 2 ^ 16 → Small (reading_said (read_value n r t))
    value zero r t i p = unfold read_value in answer_small (resource t r).valid (omega (arith, (i.resource_ok r).flag))
    value (suc n) r t i p = unfold read_value in small_refused (suc n) p

    go : (b : Bool) → sound ws ss ≡ b → Small (reading_said (read_if b ws ss c k))
    go false e = unfold read_if in small_refused 1 (omega arith)
    go true e = unfold read_if in
        let t : Tables = read ws ss in
        value (look_refusal c k t) (lock t k).resource t (sound_valid ws ss e).core (look_small c k t)

list_small : (ws ss : List ℕ) (c k : ℕ) (es : List LockEntry) → Small (listing_said (list_entry ws ss c k es))
unfolding list_entry
list_small ws ss c k es = go (sound ws ss) refl
  where
    locks : (n r : ℕ) (t : Tables) → Core t → n < 2 ^ 16 → Small (listing_said (list_locks n r t es))
    locks zero r t i p = unfold list_locks in answer_small (length (listed t r)) (listed_small t i r)
    locks (suc n) r t i p = unfold list_locks in small_refused (suc n) p

    go : (b : Bool) → sound ws ss ≡ b → Small (listing_said (list_if b ws ss c k es))
    go false e = unfold list_if in small_refused 1 (omega arith)
    go true e = unfold list_if in
        let t : Tables = read ws ss in
        locks (look_refusal c k t) (lock t k).resource t (sound_valid ws ss e).core (look_small c k t)

image_small : (ws ss area : List ℕ) → Small (imaged_said (image_entry ws ss area))
unfolding image_entry image_refusal
image_small ws ss area = go (image_refusal ws ss area) (search tests_small depth 20)
  where
    go : (n : ℕ) → n < 2 ^ 16 → Small (imaged_said (image_into n ws ss area))
    go zero p = unfold image_into in answer_small 0 (omega arith)
    go (suc n) p = unfold image_into in small_refused (suc n) p

pub load_small : (bs : List ℕ) (t : Lent) → Small (load_entry bs t).said
unfolding load_entry load_refusal
load_small bs t = go (load_refusal bs t.words t.slots) (search tests_small depth 20)
  where
    go : (n : ℕ) → n < 2 ^ 16 → Small (load_into n bs t).said
    go zero p = unfold load_into in answer_small 0 (omega arith)
    go (suc n) p = unfold load_into in small_refused (suc n) p

pub numbers_small : NumbersSmall
numbers_small = record { of_call = call_small; of_start = start_small; of_read = read_small; of_list = list_small; of_image = image_small; of_load = load_small }
