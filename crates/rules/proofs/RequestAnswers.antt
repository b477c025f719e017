-- What the answer of a request says of the resource on which it stands, and of flag 4.
use mathlib.Core.Path.{◌≡◌, refl, sym, ap, ◌∙◌}
use mathlib.Core.Logic.{◌≢◌}
use mathlib.Core.Bool.{Bool, true, false, ◌||◌, not, cond}
use mathlib.Core.List.{List, [], ◌∷◌}
use Prim.Native.Nat.{ℕ, zero, suc}
use native.Mathlib.Omega.{arith}
use lib.ListN.{length}
use lib.Dec.{eqb, leb}
use borrow.Author.Tests.{not-true}
use Rattle.modes.specs.Modes.{NL}
use Rattle.tables.specs.declared.Lock.{Lock}
use Rattle.tables.specs.Lists.{within, first, null}
use Rattle.tables.specs.State.{Tables, lock, resource, waiting, move, move_resource, last_mode}
use Rattle.tables.specs.Sound.{client_right}
use Rattle.tables.specs.Validity.{used, line, Valid}
use Rattle.tables.proofs.Cases.{by_cases, clash, eqb_same}
use Rattle.tables.proofs.Counts.{null_nil, head_in}
use Rattle.tables.proofs.Valid.{used_within, lock_same}
use Rattle.tables.proofs.ChainMembers.{and_bit, on_free}
use Rattle.rules.specs.Queues.{find}
use Rattle.rules.specs.Calls.{Step, accepted_step, unless, refused_or, no_queue, request_flags, name_right, tell_obstacles, new_resource, resource_for, with_resource, holding, queued, granted_at_once, request_on, request_change, at_once, request_refusal, request}
use Rattle.rules.specs.Accepted.{Requestable}
use Rattle.rules.proofs.ChangesKeepSound.{fits_alone}
use Rattle.rules.proofs.RequestKeepsSound.{at_once_first, null_at_once, alone_at_once, found, unused_chains, first_member, new_at_once, enter_waiting}
use Rattle.rules.proofs.MarkLaws.{tell_not}
use Rattle.rules.proofs.AcceptedCalls.{request_passed}
use Rattle.rules.proofs.EveryCall.{request_accepted}

-- WHERE IT STANDS. The step s of an accepted request: its lock stands on the resource r, and the answer is 1 exactly if the rule grants it there at
-- once; else it waits
pub record Entered (m : ℕ) (n : List ℕ) (t : Tables) (s : Step) : Type 0 where
  pub r : ℕ
  pub is_resource : within (length t.resources) r ≡ true
  pub is_lock : within (length t.locks) s.said.number ≡ true
  pub on_it : (lock s.tables s.said.number).resource ≡ r
  pub answers : s.said.answer ≡ cond (granted_at_once t r m) 1 2
  pub queued_up : granted_at_once t r m ≡ false → waiting (lock s.tables s.said.number) ≡ true
  pub asked : at_once (find n t) m t ≡ granted_at_once t r m

module _ (c m f : ℕ) (n : List ℕ) (t : Tables) (p : Requestable c m f n t) where
  val : Valid t
  val = p.valid

  -- on a new name: nobody stands there
  module _ (k : ℕ) (ks : List ℕ) (e : find n t ≡ 0) (frees : t.free_locks ≡ k ∷ ks) (y : not (null t.free_resources) ≡ true) where
    abbrev r : ℕ
    r = first t.free_resources

    free_in : (within (length t.resources) r ≡ true) × (null (resource t r).name ≡ true)
    free_in =
        and_bit (within (length t.resources) r) (null (resource t r).name)
        (rw (val.core.spare r) at (first_member t.free_resources (not-true (null t.free_resources) y)))

    unheld : granted_at_once t r m ≡ true
    unheld =
        let s = unused_chains t val.core r (unfold used in rw free_in.1) n in
        alone_at_once t r m (unfold line in rw (sym s.convert, sym s.wait)) ∙ fits_alone t r 0 m (sym s.grant) (sym s.convert)

    entered_new : Entered m n t (accepted_step 1 k (move r k (holding r c m) (move_resource r (new_resource n) t)))
    entered_new =
        let w = (on_free t val.core k (head_in t.free_locks k ks frees)).0 in
        record {
          r = r;
          is_resource = free_in.0;
          is_lock = w;
          on_it = ap (λ (l : Lock). l.resource) (lock_same r k (holding r c m) (move_resource r (new_resource n) t) (unfold move_resource in w));
          answers = rw unheld;
          queued_up = λ h. clash (granted_at_once t r m) unheld h;
          asked = rw e (unfold at_once in sym unheld);
        }

  -- on an old one
  module _ (r k : ℕ) (ks : List ℕ) (e : find n t ≡ suc r) (frees : t.free_locks ≡ k ∷ ks) where
    w : within (length t.locks) k ≡ true
    w = (on_free t val.core k (head_in t.free_locks k ks frees)).0

    in_use : used t (suc r) ≡ true
    in_use = unfold used in rw (found n t r e, p.some)

    found_asked : at_once (find n t) m t ≡ granted_at_once t (suc r) m
    found_asked = rw e (unfold at_once in refl)

    entered_old : (a : ℕ) (t2 : Tables) → (lock t2 k).resource ≡ suc r → a ≡ cond (granted_at_once t (suc r) m) 1 2 →
        (granted_at_once t (suc r) m ≡ false → waiting (lock t2 k) ≡ true) → Entered m n t (accepted_step a k t2)
    entered_old a t2 q h u =
        record { r = suc r; is_resource = used_within t (suc r) in_use; is_lock = w; on_it = q; answers = h; queued_up = u; asked = found_asked }

    entered_granted : granted_at_once t (suc r) m ≡ true → Entered m n t (accepted_step 1 k (move (suc r) k (holding (suc r) c m) t))
    entered_granted h = entered_old 1 _ (ap (λ (l : Lock). l.resource) (lock_same (suc r) k (holding (suc r) c m) t w)) (rw h) (λ z. clash (granted_at_once t (suc r) m) h z)

    entered_waiting : granted_at_once t (suc r) m ≡ false → Entered m n t (accepted_step 2 k (tell_obstacles k (move (suc r) k (queued (suc r) c m) t)))
    entered_waiting h =
        let c1 = (enter_waiting t val.core (suc r) k c m ks (λ s i. val.settled s) in_use (val.settled (suc r)).still frees p.client_low p.client_high p.mode h).valid.core in
        let e2 = tell_not _ c1 k k (rw (eqb_same k)) ∙ lock_same (suc r) k (queued (suc r) c m) t w in
        entered_old 2 _ (ap (λ (l : Lock). l.resource) e2) (rw h) (λ z. ap (λ (l : Lock). waiting l) e2)

  pub change_entered : Entered m n t (request_change c m n t)
  unfolding request_change resource_for with_resource request_on
  change_entered = go (find n t) t.free_locks refl refl p.room p.lock_left
    where
      go : (a : ℕ) (ks : List ℕ) → find n t ≡ a → t.free_locks ≡ ks → (not (eqb a 0) || not (null t.free_resources)) ≡ true → null ks ≡ false →
          Entered m n t (request_on (resource_for a t) (first ks) c m (with_resource a n t))
      go a [] e g y z = clash true refl z
      go zero (k ∷ ks) e g y z =
          rw (new_at_once c m n t val p.client_low p.client_high p.mode p.some p.short (first t.free_resources) e (first_member t.free_resources (not-true (null t.free_resources) y)), request_on)
          (entered_new k ks e g y)
      go (suc r) (k ∷ ks) e g y z =
          by_cases (granted_at_once t (suc r) m)
          (λ h. rw (h, request_on) (entered_granted r k ks e g h))
          (λ h. rw (h, request_on) (entered_waiting r k ks e g h))

-- a request that answers anything is accepted
pub entered : (c m f : ℕ) (n : List ℕ) (t : Tables) → Valid t → (request c m f n t).said.answer ≢ 0 → Entered m n t (request c m f n t)
unfolding request refused_or
entered c m f n t val = go (request_refusal c m f n t) refl
  where
    go : (x : ℕ) → request_refusal c m f n t ≡ x → (refused_or x (request_change c m n t) t).said.answer ≢ 0 → Entered m n t (refused_or x (request_change c m n t) t)
    go zero e h = change_entered c m f n t (request_passed t val c m f n e)
    go (suc x) e h = absurd (h refl)

-- answer 2: it waits. Answer 1, of another mode than NL: nobody waited there. Answer 2 of NL: a conversion does
module _ (m : ℕ) (n : List ℕ) (t : Tables) (s : Step) (d : Entered m n t s) where
  answer_one : s.said.answer ≡ 1 → granted_at_once t d.r m ≡ true
  answer_one h =
      by_cases (granted_at_once t d.r m)
      (λ g. g)
      (λ g. absurd (let z : ◌≡◌ {A = ℕ} 2 1 = rw g at (sym d.answers ∙ h) in omega arith))

  answer_two : s.said.answer ≡ 2 → granted_at_once t d.r m ≡ false
  answer_two h =
      by_cases (granted_at_once t d.r m)
      (λ g. absurd (let z : ◌≡◌ {A = ℕ} 1 2 = rw g at (sym d.answers ∙ h) in omega arith))
      (λ g. g)

  pub waits_then : s.said.answer ≡ 2 → waiting (lock s.tables s.said.number) ≡ true
  waits_then h = d.queued_up (answer_two h)

  pub nobody_waited : m ≢ NL → s.said.answer ≡ 1 → (resource t d.r).wait ≡ []
  nobody_waited n h = at_once_first t d.r m (answer_one h) n

  pub conversion_there : Valid t → m ≡ NL → s.said.answer ≡ 2 → null (resource t d.r).convert ≡ false
  conversion_there val e h =
      by_cases (null (resource t d.r).convert)
      (λ z. clash (granted_at_once t d.r NL) (null_at_once t val.core d.r (null_nil _ z)) (rw e at (answer_two h)))
      (λ z. z)

-- FLAG 4. Two refusals: x is 13 exactly where y is none and g fails
record Declined (x y : ℕ) (g : Bool) : Type 0 where
  to : x ≡ 13 → (y ≡ 0) × (g ≡ false)
  back : y ≡ 0 → g ≡ false → x ≡ 13

peel : (b : Bool) (n x y : ℕ) (g : Bool) → n ≢ 13 → n ≢ 0 → Declined x y g → Declined (unless b n x) (unless b n y) g
unfolding unless
peel true n x y g p q d = d
peel false n x y g p q d = record { to = λ h. absurd (p h); back = λ h z. absurd (q h) }

refusals : (c m : ℕ) (n : List ℕ) (t : Tables) → Declined (request_refusal c m 4 n t) (request_refusal c m 0 n t) (at_once (find n t) m t)
unfolding request_refusal request_flags no_queue unless
refusals c m n t =
    peel (client_right c) 3 _ _ _ (omega arith) (omega arith) (peel (leb m last_mode) 4 _ _ _ (omega arith) (omega arith) (peel (name_right n) 6 _ _ _ (omega arith) (omega arith)
    (peel (not (eqb (find n t) 0) || not (null t.free_resources)) 11 _ _ _ (omega arith) (omega arith) (peel (not (null t.free_locks)) 12 _ _ _ (omega arith) (omega arith)
    (last_test (at_once (find n t) m t))))))
  where
    last_test : (g : Bool) → Declined (unless g 13 0) 0 g
    last_test true = record { to = λ h. absurd (omega arith); back = λ h z. clash true refl z }
    last_test false = record { to = λ h. (refl, refl); back = λ h z. refl }

module _ (c m : ℕ) (n : List ℕ) (t : Tables) (val : Valid t) where
  pub flag_declines : (request c m 0 n t).said.answer ≡ 2 → (request c m 4 n t).said.refusal ≡ 13
  unfolding request refused_or
  flag_declines h = go (request_refusal c m 0 n t) refl h
    where
      go : (x : ℕ) → request_refusal c m 0 n t ≡ x → (refused_or x (request_change c m n t) t).said.answer ≡ 2 → (refused_or (request_refusal c m 4 n t) (request_change c m n t) t).said.refusal ≡ 13
      go zero e q =
          let d = change_entered c m 0 n t (request_passed t val c m 0 n e) in
          rw ((refusals c m n t).back e (d.asked ∙ answer_two m n t _ d q))
      go (suc x) e q = absurd (let z : ◌≡◌ {A = ℕ} 0 2 = q in omega arith)

  pub flag_only : (request c m 4 n t).said.refusal ≡ 13 → (request c m 0 n t).said.answer ≡ 2
  unfolding request refused_or
  flag_only h =
      let s = (refusals c m n t).to (go (request_refusal c m 4 n t) refl h) in
      let d = change_entered c m 0 n t (request_passed t val c m 0 n s.0) in
      rw s.0 (d.answers ∙ (rw (sym d.asked ∙ s.1)))
    where
      go : (x : ℕ) → request_refusal c m 4 n t ≡ x → (refused_or x (request_change c m n t) t).said.refusal ≡ 13 → request_refusal c m 4 n t ≡ 13
      go zero e q = absurd (omega (arith, request_accepted c m n t, q))
      go (suc x) e q = e ∙ q
