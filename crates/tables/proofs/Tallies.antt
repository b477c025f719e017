-- How many locks hold a mode on a resource, before and after a lock becomes another; and the words that say so.
use mathlib.Core.Path.{◌≡◌, refl, sym, ◌∙◌, ap, ap₂, subst, fun_ext}
use mathlib.Core.Logic.{◌≢◌}
use mathlib.Core.Bool.{Bool, true, false, ◌&&◌}
use mathlib.Core.List.{List, [], ◌∷◌, ◌++◌, map}
use Prim.Native.Nat.{ℕ, zero, suc, ◌+◌, ◌-◌, ◌*◌, ◌≤◌}
use native.Mathlib.Omega.{arith}
use lib.ListN.{get_or, set, length, length-map, length-append}
use lib.Dec.{eqb}
use borrow.Author.Tests.{eqb-true, ne_eqb}
use Rattle.tables.specs.Lists.{within, count, bit, remove, null}
use Rattle.tables.specs.State.{Lock, Tables, most_locks, lock, resource, granted, converting, holds, Queue, grants, converts, queue, of_locks, chain, belongs, shift, move}
use Rattle.tables.specs.Grants.{holders, holds_mode, tally, empty}
use Rattle.tables.specs.Layout.{Address, of_resource, count_field, Word, plain, following, tallied, word_at}
use Rattle.tables.proofs.Cases.{by_cases, by_equal, clash, eqb_same, and_left, and_right}
use Rattle.tables.proofs.Counts.{within_le, count_same, count_other, count_append, count_remove, count_nil, remove_head}
use Rattle.tables.proofs.Links.{remove_past}
use Rattle.tables.proofs.Grid.{address?, update, update_here, update_past, set_written}
use Rattle.tables.specs.Threads.{In}
use Rattle.tables.proofs.Chains.{spot}
use Rattle.tables.proofs.WordChanges.{Placed, placed, read_word_with, words_are}
use Rattle.tables.proofs.ReadBack.{chain_most}
use Rattle.tables.proofs.ThreadedChains.{core_threaded}
use Rattle.tables.specs.Stores.{Counts, content_with, words_with, value_with, lower_count, raise_count}
use Rattle.tables.specs.Validity.{used, LockOk, Core, Near}
use Rattle.tables.proofs.Valid.{used_within, holder_place, lock_same, lock_other, chain_move}

-- COUNTING
count_cons : (h x : ℕ) (xs : List ℕ) → count h (x ∷ xs) ≡ bit (eqb h x) + count h xs
unfolding count
count_cons h x xs = by_cases (eqb h x) (λ e. rw e (omega arith)) (λ e. rw e (omega arith))

map_append : (g : ℕ → ℕ) (xs ys : List ℕ) → map g (xs ++ ys) ≡ map g xs ++ map g ys
map_append g [] ys = refl
map_append g (x ∷ xs) ys = ap (λ (zs : List ℕ). g x ∷ zs) (map_append g xs ys)

module _ (k h : ℕ) where
  -- k is on the list once, and is taken from it
  pub taken : (g : ℕ → ℕ) (xs : List ℕ) → count k xs ≡ 1 → count h (map g (remove k xs)) + bit (eqb h (g k)) ≡ count h (map g xs)
  taken g [] e = absurd (omega (arith, count_nil k))
  taken g (x ∷ xs) e =
      by_equal k x
      (λ q. let none : count x xs ≡ 0 = omega (arith, rw q at e, count_same x xs) in rw (q, remove_head x xs none) (omega (arith, count_cons h (g x) (map g xs))))
      (λ n. rw (remove_past k x xs n) (omega (arith, count_cons h (g x) (map g (remove k xs)), count_cons h (g x) (map g xs), taken g xs (sym (count_other k x xs n) ∙ e))))

  -- k is counted where it stands
  counted : (g : ℕ → ℕ) (xs : List ℕ) → count k xs ≡ 1 → bit (eqb h (g k)) ≤ count h (map g xs)
  counted g xs e = omega (arith, taken g xs e)

  module _ (f g : ℕ → ℕ) (agree : (j : ℕ) → j ≢ k → f j ≡ g j) where
    alike : (xs : List ℕ) → count k xs ≡ 0 → map f xs ≡ map g xs
    alike [] e = refl
    alike (x ∷ xs) e =
        by_equal k x
        (λ q. absurd (omega (arith, rw q at e, count_same x xs)))
        (λ n. ap₂ {C = List ℕ} (λ y ys. y ∷ ys) (agree x (λ q. n (sym q))) (alike xs (sym (count_other k x xs n) ∙ e)))

    -- k was on the list or not, and is to be; and what it has changes
    shifted : (b d : Bool) (xs : List ℕ) → count k xs ≡ bit b → count h (map f (shift b d k xs)) + bit (b && eqb h (g k)) ≡ count h (map g xs) + bit (d && eqb h (f k))
    unfolding shift
    shifted true true xs e = let z = ap (count h) (alike (remove k xs) (count_remove k xs)) in omega (arith, taken f xs e, taken g xs e)
    shifted true false xs e = let z = ap (count h) (alike (remove k xs) (count_remove k xs)) in omega (arith, taken g xs e)
    shifted false true xs e = let z = ap (count h) (alike xs e) in rw (map_append f xs (k ∷ []), count_append h (map f xs) (f k ∷ [])) (omega (arith, count_cons h (f k) [], count_nil h))
    shifted false false xs e = let z = ap (count h) (alike xs e) in omega arith

holds_here : (l : Lock) → holds l ≡ true → holds_mode l l.resource l.held ≡ true
unfolding holds_mode
holds_here l e = rw (e, eqb_same l.resource, eqb_same l.held)

-- the counts without a lock, and with one more
unfoldable pub lowered : Lock → Counts → Counts
lowered l ct s h = ct s h - bit (holds_mode l s h)

unfoldable pub raised : Lock → Counts → Counts
raised l ct s h = ct s h + bit (holds_mode l s h)

either : (l : Lock) (s h : ℕ) → bit (granted l && eqb l.resource s && eqb h l.held) + bit (converting l && eqb l.resource s && eqb h l.held) ≡ bit (holds_mode l s h)
unfolding holds_mode
either l s h =
    by_cases (granted l)
    (λ g. let c : converting l ≡ false = ne_eqb l.state 2 (λ q. omega (arith, eqb-true l.state 1 g)) in rw (g, c) (omega arith))
    (λ g. rw g (omega arith))

-- a resource without locks
pub tally_empty : (t : Tables) (r h : ℕ) → empty (resource t r) ≡ true → tally t r h ≡ 0
unfolding empty tally holders count
tally_empty t r h e = go (resource t r).grant (resource t r).convert (and_left _ (null (resource t r).convert) (and_left (null (resource t r).grant && null (resource t r).convert) _ e)) (and_right (null (resource t r).grant) _ (and_left (null (resource t r).grant && null (resource t r).convert) _ e))
  where
    go : (xs ys : List ℕ) → null xs ≡ true → null ys ≡ true → count h (map (λ k. (lock t k).held) (xs ++ ys)) ≡ 0
    go [] [] p q = refl
    go [] (y ∷ ys) p q = clash false q refl
    go (x ∷ xs) ys p q = clash false p refl

-- A MOVE. What it does to the count of each mode on each resource
module _ (r k : ℕ) (m : Lock) (t : Tables) (core : Core t) (in_range : within (length t.locks) k ≡ true) (near_old : Near r (lock t k)) (near_new : Near r m) (ok : LockOk (used t) m) where
  -- k leaves a queue of s or joins it, and holds another mode
  module _ (s h : ℕ) (q : Queue) where
    queue_tally : chain (move r k m t) (queue s q) ≡ shift (belongs (queue s q) (lock t k)) (belongs (queue s q) m) k (chain t (queue s q))
        → count h (map (λ j. (lock (move r k m t) j).held) (chain (move r k m t) (queue s q))) + bit (belongs (queue s q) (lock t k) && eqb h (lock t k).held)
        ≡ count h (map (λ j. (lock t j).held) (chain t (queue s q))) + bit (belongs (queue s q) m && eqb h m.held)
    queue_tally e =
        rw e
        (rw (lock_same r k m t in_range) at
        (shifted k h (λ j. (lock (move r k m t) j).held) (λ j. (lock t j).held) (λ j n. ap (λ (l : Lock). l.held) (lock_other r k m t j n)) (belongs (queue s q) (lock t k)) (belongs (queue s q) m) (chain t (queue s q)) (rw in_range at (core.linked (queue s q) k))))

    queue_counted : bit (belongs (queue s q) (lock t k) && eqb h (lock t k).held) ≤ count h (map (λ j. (lock t j).held) (chain t (queue s q)))
    queue_counted =
        by_cases (belongs (queue s q) (lock t k))
        (λ b. rw b (counted k h (λ j. (lock t j).held) (chain t (queue s q)) ((rw in_range at (core.linked (queue s q) k)) ∙ ap bit b)))
        (λ b. rw b (omega arith))

  parted : (u : Tables) (s h : ℕ) → tally u s h ≡ count h (map (λ j. (lock u j).held) (chain u (queue s grants))) + count h (map (λ j. (lock u j).held) (chain u (queue s converts)))
  unfolding tally holders
  parted u s h = rw (map_append (λ j. (lock u j).held) (chain u (queue s grants)) (chain u (queue s converts))) (count_append h _ _)

  pub tally_move : (s h : ℕ) → tally (move r k m t) s h + bit (holds_mode (lock t k) s h) ≡ tally t s h + bit (holds_mode m s h)
  tally_move s h =
      let a = queue_tally s h grants (chain_move r k m t (core.lock_ok k) ok near_old near_new (queue s grants)) in
      let b = queue_tally s h converts (chain_move r k m t (core.lock_ok k) ok near_old near_new (queue s converts)) in
      omega (arith, a, b, parted (move r k m t) s h, parted t s h, either (lock t k) s h, either m s h)

  tally_counts : (s h : ℕ) → bit (holds_mode (lock t k) s h) ≤ tally t s h
  tally_counts s h = omega (arith, queue_counted s h grants, queue_counted s h converts, parted t s h, either (lock t k) s h)

  pub lock_counted : holds (lock t k) ≡ true → 1 ≤ tally t (lock t k).resource (lock t k).held
  lock_counted e = let z = ap bit (holds_here (lock t k) e) in omega (arith, tally_counts (lock t k).resource (lock t k).held)

  pub tally_after : tally (move r k m t) ≡ raised m (lowered (lock t k) (tally t))
  unfolding raised lowered
  tally_after = fun_ext (λ s. fun_ext (λ h. omega (arith, tally_move s h, tally_counts s h)))

  -- a lock that holds what it held changes none
  pub tally_same : ((s h : ℕ) → holds_mode (lock t k) s h ≡ holds_mode m s h) → tally (move r k m t) ≡ tally t
  tally_same same = fun_ext (λ s. fun_ext (λ h. let z = ap bit (same s h) in omega (arith, tally_move s h)))

-- WORDS. The word that counts the mode h on r
pub count_word : (t : Tables) (r h : ℕ) → h ≤ 5 → word_at t (of_resource r (count_field h)) ≡ tallied r h
count_word t r zero p = refl
count_word t r (suc zero) p = refl
count_word t r (suc (suc zero)) p = refl
count_word t r (suc (suc (suc zero))) p = refl
count_word t r (suc (suc (suc (suc zero)))) p = refl
count_word t r (suc (suc (suc (suc (suc zero))))) p = refl
count_word t r (suc (suc (suc (suc (suc (suc h)))))) p = absurd (omega arith)

pub count_at : (ct : Counts) (t : Tables) (r h : ℕ) → h ≤ 5 → In t (of_resource r (count_field h)) → get_or (words_with ct t) (spot t (of_resource r (count_field h))) 0 ≡ ct r h
count_at ct t r h mode inside = read_word_with ct t (of_resource r (count_field h)) inside ∙ ap (value_with ct t) (count_word t r h mode)

-- one count changes
module _ (ct cu : Counts) (t : Tables) (r h : ℕ) (mode : h ≤ 5) (inside : In t (of_resource r (count_field h))) (rest : (s g : ℕ) → (s ≡ r → g ≡ h → ⊥) → cu s g ≡ ct s g) where
  rest_word : (b : Address) → In t b → b ≢ of_resource r (count_field h) → content_with cu t b ≡ content_with ct t b
  rest_word b i n = go (word_at t b) refl
    where
      go : (w : Word) → word_at t b ≡ w → content_with cu t b ≡ content_with ct t b
      go (plain v) e = ap (value_with cu t) e ∙ sym (ap (value_with ct t) e)
      go (following c k) e = ap (value_with cu t) e ∙ sym (ap (value_with ct t) e)
      go (tallied s g) e =
          ap (value_with cu t) e
          ∙ rest s g (λ p q. n (sym (subst (Placed b) e (placed t b i)) ∙ ap₂ (λ (s g : ℕ). of_resource s (count_field g)) p q))
          ∙ sym (ap (value_with ct t) e)

  recount_word : words_with cu t ≡ set (words_with ct t) (spot t (of_resource r (count_field h))) (cu r h)
  recount_word =
      words_are cu t t (update (of_resource r (count_field h)) (cu r h) (content_with ct t)) refl refl
      (λ b i. elim (address? b (of_resource r (count_field h))) [
        | yes e ↦ rw e (ap (value_with cu t) (count_word t r h mode) ∙ sym (update_here (of_resource r (count_field h)) (cu r h) _))
        | no n ↦ rest_word b i n ∙ sym (update_past (of_resource r (count_field h)) b (cu r h) _ n)
      ])
      ∙ unfold words_with in sym (set_written _ _ (content_with ct t) (of_resource r (count_field h)) (cu r h) inside)

holds_not : (l : Lock) (s h : ℕ) → (s ≡ l.resource → h ≡ l.held → ⊥) → holds_mode l s h ≡ false
unfolding holds_mode
holds_not l s h n =
    by_cases (holds_mode l s h)
    (λ b. absurd (n (sym (eqb-true l.resource s (and_right (holds l) _ (and_left (holds l && eqb l.resource s) _ b)))) (eqb-true h l.held (and_right (holds l && eqb l.resource s) _ b))))
    (λ b. b)

holds_none : (l : Lock) (s h : ℕ) → holds l ≡ false → holds_mode l s h ≡ false
unfolding holds_mode
holds_none l s h e = rw e

-- a lock that holds a mode is counted in a word of the tables
abbrev HasCount : Tables → Lock → Type 0
HasCount t l = holds l ≡ true → (l.held ≤ 5) × In t (of_resource l.resource (count_field l.held))

pub counted_at : (t : Tables) (l : Lock) → LockOk (used t) l → HasCount t l
counted_at t l ok e =
    let p = holder_place (used t) l ok e in
    let w = within_le (length t.resources) l.resource (used_within t l.resource p.in_use) in
    (p.held_mode, (w.0, w.1, omega (arith, p.held_mode)))

module _ (ct : Counts) (t : Tables) (l : Lock) (there : HasCount t l) where
  pub lower_words : lower_count (length t.resources) l (words_with ct t) ≡ words_with (lowered l ct) t
  unfolding lower_count lowered
  lower_words =
      by_cases (holds l)
      (λ e. let z = ap bit (holds_here l e) in
      let v : get_or (words_with ct t) (spot t (of_resource l.resource (count_field l.held))) 0 - 1 ≡ lowered l ct l.resource l.held
      = rw (count_at ct t l.resource l.held (there e).0 (there e).1) (omega arith) in
      rw e (ap (set (words_with ct t) (spot t (of_resource l.resource (count_field l.held)))) v ∙ sym (recount_word ct (lowered l ct) t l.resource l.held (there e).0 (there e).1 (less e))))
      (λ e. rw e (ap (λ (c : Counts). words_with c t) (fun_ext (λ s. fun_ext (λ h. let z = ap bit (holds_none l s h e) in omega arith)))))
    where
      less : holds l ≡ true → (s g : ℕ) → (s ≡ l.resource → g ≡ l.held → ⊥) → lowered l ct s g ≡ ct s g
      less e s g n = let z = ap bit (holds_not l s g n) in omega arith

  pub raise_words : raise_count (length t.resources) l (words_with ct t) ≡ words_with (raised l ct) t
  unfolding raise_count raised
  raise_words =
      by_cases (holds l)
      (λ e. let z = ap bit (holds_here l e) in
      let v : get_or (words_with ct t) (spot t (of_resource l.resource (count_field l.held))) 0 + 1 ≡ raised l ct l.resource l.held
      = rw (count_at ct t l.resource l.held (there e).0 (there e).1) (omega arith) in
      rw e (ap (set (words_with ct t) (spot t (of_resource l.resource (count_field l.held)))) v ∙ sym (recount_word ct (raised l ct) t l.resource l.held (there e).0 (there e).1 (more e))))
      (λ e. rw e (ap (λ (c : Counts). words_with c t) (fun_ext (λ s. fun_ext (λ h. let z = ap bit (holds_none l s h e) in omega arith)))))
    where
      more : holds l ≡ true → (s g : ℕ) → (s ≡ l.resource → g ≡ l.held → ⊥) → raised l ct s g ≡ ct s g
      more e s g n = let z = ap bit (holds_not l s g n) in omega arith

-- no count is large
count_length : (h : ℕ) (xs : List ℕ) → count h xs ≤ length xs
count_length h [] = omega (arith, count_nil h)
count_length h (x ∷ xs) = by_cases (eqb h x) (λ e. let z = ap bit e in omega (arith, count_cons h x xs, count_length h xs)) (λ e. let z = ap bit e in omega (arith, count_cons h x xs, count_length h xs))

pub tally_few : (t : Tables) → Core t → (r h : ℕ) → 1 ≤ r → r ≤ length t.resources → tally t r h ≤ 2 * most_locks
unfolding tally holders
tally_few t core r h p q =
    let a = chain_most t (of_locks (queue r grants)) (core_threaded t core (of_locks (queue r grants)) (p, q, omega arith)) in
    let b = chain_most t (of_locks (queue r converts)) (core_threaded t core (of_locks (queue r converts)) (p, q, omega arith)) in
    let c = count_length h (map (λ k. (lock t k).held) (holders t r)) in
    let d = length-map (holders t r) (λ k. (lock t k).held) in
    let e = length-append (resource t r).grant (resource t r).convert in
    omega (arith, core.locks_high)

pub lowered_less : (l : Lock) (ct : Counts) (s h : ℕ) → lowered l ct s h ≤ ct s h
unfolding lowered
lowered_less l ct s h = omega arith
