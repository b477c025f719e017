-- What a change of a state changes in its words.
use mathlib.Core.Path.{◌≡◌, refl, sym, ◌∙◌, ap, ap₂, subst}
use mathlib.Core.Logic.{◌≢◌}
use mathlib.Core.List.{List, [], ◌∷◌, ◌++◌, map}
use Prim.Native.Nat.{ℕ, zero, suc, ◌+◌, ◌<◌, ◌≤◌}
use native.Mathlib.Omega.{arith}
use native.Mathlib.Nat.{zero-add, add-zero}
use lib.ListN.{get_or, set, length, get_or-map, get_or-eq_default}
use lib.Seq.{set-set, get_or-drop}
use Rattle.tables.specs.Lists.{remove, first, next}
use Rattle.tables.specs.State.{Lock, Resource, Tables, lock, resource, Queue, grants, converts, waits, free_locks, denied, blocked, notices, queue, Chain, free_resources, of_locks, queue_of, chain_of, home_at, home}
use Rattle.tables.specs.Grants.{tally}
use Rattle.tables.specs.Layout.{lock_width, Address, of_header, of_resource, of_lock, size, by_address, link, cell, resource_links, lock_links, resource_fields, lock_fields, count_field, Word, plain, following, header_words, resource_words, lock_words, word_at, tallied, word_value, content, words}
use Rattle.tables.proofs.Numbered.{put_lock, put_resource, locks_put, lock_put_here, lock_put_other, resource_put_lock, chains_put_lock, resources_put, resource_put_here, resource_put_other, lock_put_resource, chains_put_resource}
use Rattle.tables.specs.Threads.{Absent}
use Rattle.tables.proofs.Links.{holder, each_on, each_absent, holder_on, next_here, next_past, next_append_here, next_append_past, next_remove_here, next_remove_gone, next_remove_past, next_push_past}
use Rattle.tables.specs.Stores.{Counts, content_with, words_with, value_with, store_run}
use Rattle.tables.proofs.Grid.{address?, update, update_here, update_past, Side, on, off, lock_side, resource_side, updates, stores_written, updates_past, row_agrees, length_written, get_or_written, written_same, set_written}
use Rattle.tables.specs.Threads.{In, Present}
use Rattle.tables.proofs.Chains.{chain?, with_chain, with_queue, spot, chain_same, chain_other, same_locks, lock_with, resource_count, resource_rest, home_past}
use Rattle.tables.specs.Threads.{LinkedAt, Stands, Threaded}

pub length_words_with : (ct : Counts) (t : Tables) → length (words_with ct t) ≡ size (length t.resources) (length t.locks)
unfolding words_with
length_words_with ct t = length_written _ _ (content_with ct t)

pub read_word_with : (ct : Counts) (t : Tables) (a : Address) → In t a → get_or (words_with ct t) (spot t a) 0 ≡ content_with ct t a
unfolding words_with
read_word_with ct t a h = get_or_written _ _ (content_with ct t) a h

pub length_words : (t : Tables) → length (words t) ≡ size (length t.resources) (length t.locks)
unfolding words
length_words t = length_written _ _ (content t)

pub read_word : (t : Tables) (a : Address) → In t a → get_or (words t) (spot t a) 0 ≡ content t a
unfolding words
read_word t a h = get_or_written _ _ (content t) a h

-- with the true counts these are the words of the state
true_value : (t : Tables) (w : Word) → value_with (tally t) t w ≡ word_value t w
true_value t (plain v) = refl
true_value t (following c k) = refl
true_value t (tallied r m) = refl

pub words_true : (t : Tables) → words_with (tally t) t ≡ words t
unfolding words words_with
words_true t = written_same _ _ (content_with (tally t) t) (content t) (λ a h. true_value t (word_at t a))

-- a state of the size of t is known by its content at each address
pub words_are : (ct : Counts) (t u : Tables) (f : Address → ℕ) → length u.resources ≡ length t.resources → length u.locks ≡ length t.locks
    → ((b : Address) → In t b → content_with ct u b ≡ f b) → words_with ct u ≡ by_address (length t.resources) (length t.locks) f
unfolding words_with
words_are ct t u f p q h = ap₂ (λ (r l : ℕ). by_address r l (content_with ct u)) p q ∙ written_same _ _ (content_with ct u) f h

-- one word is written
pub write_word : (ct : Counts) (t u : Tables) (a : Address) (v : ℕ) → length u.resources ≡ length t.resources → length u.locks ≡ length t.locks
    → In t a → content_with ct u a ≡ v → ((b : Address) → In t b → b ≢ a → content_with ct u b ≡ content_with ct t b) → words_with ct u ≡ set (words_with ct t) (spot t a) v
write_word ct t u a v p q i here past =
    words_are ct t u (update a v (content_with ct t)) p q
    (λ b j. elim (address? b a) [ yes e ↦ rw e (here ∙ sym (update_here a v _)) | no n ↦ past b j n ∙ sym (update_past a b v _ n) ])
    ∙ unfold words_with in sym (set_written _ _ (content_with ct t) a v i)

-- each word that says what follows k on c stands at the cell of k on c
abbrev pub Placed : Address → Word → Type 0
Placed a (plain v) = Unit {0}
Placed a (following c k) = cell c k ≡ a
Placed a (tallied r m) = of_resource r (count_field m) ≡ a

abbrev pub Row : (ℕ → Address) → ℕ → List Word → Type 0
Row a f [] = Unit {0}
Row a f (w ∷ ws) = Placed (a f) w × Row a (suc f) ws

row_at : (a : ℕ → Address) (f : ℕ) (ws : List Word) → Row a f ws → (i : ℕ) → Placed (a (f + i)) (get_or ws i (plain 0))
row_at a f [] h i = tt
row_at a f (w ∷ ws) h zero = rw add-zero h.0
row_at a f (w ∷ ws) h (suc i) = let e : f + suc i ≡ suc f + i = omega arith in rw e (row_at a (suc f) ws h.1 i)

row_plain : (a : ℕ → Address) (f : ℕ) (vs : List ℕ) → Row a f (map plain vs)
row_plain a f [] = tt
row_plain a f (v ∷ vs) = (tt, row_plain a (suc f) vs)

home_link : (s r k : ℕ) → link (of_locks (home_at s r)) k ≡ of_lock k 0
home_link zero r k = refl
home_link (suc zero) r k = refl
home_link (suc (suc zero)) r k = refl
home_link (suc (suc (suc zero))) r k = refl
home_link (suc (suc (suc (suc s)))) r k = rw (home_past (suc (suc (suc (suc s)))) r (omega arith))

placed_in : (a : ℕ → Address) (ws : List Word) → Row a 0 ws → (f : ℕ) → Placed (a f) (get_or ws f (plain 0))
placed_in a ws h f = subst (λ (i : ℕ). Placed (a i) (get_or ws f (plain 0))) (zero-add f) (row_at a 0 ws h f)

pub placed : (t : Tables) (a : Address) → In t a → Placed a (word_at t a)
placed t (of_header f) h = placed_in of_header (header_words _ _) (tt, (tt, (refl, (refl, (refl, (refl, (refl, tt))))))) f
placed t (of_resource zero f) h = absurd (omega arith)
placed t (of_resource (suc r) f) h = placed_in (of_resource (suc r)) (resource_words (suc r) (resource t (suc r))) (refl, (refl, (refl, (refl, (tt, (tt, (refl, (refl, (refl, (refl, (refl, (refl, tt)))))))))))) f
placed t (of_lock zero f) h = absurd (omega arith)
placed t (of_lock (suc k) f) h =
    placed_in (of_lock (suc k)) (lock_words (suc k) (lock t (suc k))) (home_link (lock t (suc k)).state (lock t (suc k)).resource (suc k), (refl, (refl, row_plain (of_lock (suc k)) 3 (lock_fields (lock t (suc k)))))) f

pub linked_head : (t : Tables) (c : Chain) → Present t c → LinkedAt t c 0
linked_head t free_resources h = record { inside = h; says = refl }
linked_head t (of_locks free_locks) h = record { inside = h; says = refl }
linked_head t (of_locks denied) h = record { inside = h; says = refl }
linked_head t (of_locks blocked) h = record { inside = h; says = refl }
linked_head t (of_locks notices) h = record { inside = h; says = refl }
linked_head t (of_locks (queue r grants)) h = record { inside = h; says = refl }
linked_head t (of_locks (queue r converts)) h = record { inside = h; says = refl }
linked_head t (of_locks (queue r waits)) h = record { inside = h; says = refl }

pub stands : (t : Tables) (c : Chain) (k : ℕ) → 1 ≤ k → In t (link c k) → word_at t (link c k) ≡ following c k → Stands t c k
stands t c zero p i e = absurd (omega arith)
stands t c (suc k) p i e = (p, record { inside = i; says = e })

-- a word as it stands, or one of the chain c
pub data Seen (ct : Counts) (t : Tables) (c : Chain) (xs : List ℕ) (a : Address) : Type 0 where
  inside_chain : (k : ℕ) → cell c k ≡ a → content_with ct t a ≡ next k (0 ∷ chain_of c t) → content_with ct (with_chain c xs t) a ≡ next k (0 ∷ xs) → Seen ct t c xs a
  apart : content_with ct (with_chain c xs t) a ≡ content_with ct t a → Seen ct t c xs a

pub word_with : (t : Tables) (c : Chain) (xs : List ℕ) (a : Address) → word_at (with_chain c xs t) a ≡ word_at t a
unfolding with_chain with_queue
word_with t c xs (of_header f) = ap (λ (r : ℕ). get_or (header_words r (length t.locks)) f (plain 0)) (resource_count c xs t)
word_with t c xs (of_resource r f) = resource_rest (λ x. get_or (resource_words r x) f (plain 0)) (λ q ys x. refl) c xs t r
word_with t c xs (of_lock k f) = ap (λ (l : Lock). get_or (lock_words k l) f (plain 0)) (lock_with c xs t k)

seen : (ct : Counts) (t : Tables) (c : Chain) (xs : List ℕ) → Present t c → (a : Address) → In t a → Seen ct t c xs a
seen ct t c xs h a i = go (word_at t a) refl
  where
    go : (w : Word) → word_at t a ≡ w → Seen ct t c xs a
    go (plain v) e = apart (ap (value_with ct (with_chain c xs t)) (word_with t c xs a ∙ e) ∙ sym (ap (value_with ct t) e))
    go (tallied r m) e = apart (ap (value_with ct (with_chain c xs t)) (word_with t c xs a ∙ e) ∙ sym (ap (value_with ct t) e))
    go (following d k) e =
        let new : content_with ct (with_chain c xs t) a ≡ next k (0 ∷ chain_of d (with_chain c xs t)) = ap (value_with ct (with_chain c xs t)) (word_with t c xs a ∙ e) in
        let old : content_with ct t a ≡ next k (0 ∷ chain_of d t) = ap (value_with ct t) e in
        let where_it_is : cell d k ≡ a = subst (Placed a) e (placed t a i) in
        elim (chain? d c) [
          | yes f ↦ inside_chain k (rw f at where_it_is) (rw f at old) ((rw f at new) ∙ ap (λ (l : List ℕ). next k (0 ∷ l)) (chain_same c xs t h))
          | no n ↦ apart (new ∙ ap (λ (l : List ℕ). next k (0 ∷ l)) (chain_other c d xs t n) ∙ sym old)
        ]

cell_with : (ct : Counts) (t : Tables) (c : Chain) (xs : List ℕ) (k : ℕ) → Present t c → LinkedAt t c k → content_with ct (with_chain c xs t) (cell c k) ≡ next k (0 ∷ xs)
cell_with ct t c xs k h l =
    ap (value_with ct (with_chain c xs t)) (word_with t c xs (cell c k) ∙ l.says) ∙ ap (λ (ys : List ℕ). next k (0 ∷ ys)) (chain_same c xs t h)

-- a chain changes: the cells of p and q are written, and what follows any other record stays
module _ (ct : Counts) (t : Tables) (c : Chain) (xs : List ℕ) (p q v u : ℕ)
    (h : Present t c) (lp : LinkedAt t c p) (lq : LinkedAt t c q)
    (at_p : p ≢ q → next p (0 ∷ xs) ≡ v) (at_q : next q (0 ∷ xs) ≡ u)
    (rest : (k : ℕ) → k ≢ p → k ≢ q → next k (0 ∷ xs) ≡ next k (0 ∷ chain_of c t)) where
  agree_past : (b : Address) → In t b → b ≢ cell c p → b ≢ cell c q → content_with ct (with_chain c xs t) b ≡ content_with ct t b
  agree_past b i m n =
      elim (seen ct t c xs h b i) [
        | inside_chain k e old new ↦ new ∙ rest k (λ f. m (sym e ∙ ap (cell c) f)) (λ f. n (sym e ∙ ap (cell c) f)) ∙ sym old
        | apart e ↦ e
      ]

  agree : (b : Address) → In t b → content_with ct (with_chain c xs t) b ≡ update (cell c q) u (update (cell c p) v (content_with ct t)) b
  agree b i =
      elim (address? b (cell c q)) [
        | yes e ↦ rw e (cell_with ct t c xs q h lq ∙ at_q ∙ sym (update_here (cell c q) u _))
        | no n ↦
            rw (update_past (cell c q) b u _ n)
            (elim (address? b (cell c p)) [
              | yes e ↦ rw e (cell_with ct t c xs p h lp ∙ at_p (λ f. n (e ∙ ap (cell c) f)) ∙ sym (update_here (cell c p) v _))
              | no m ↦ rw (update_past (cell c p) b v _ m) (agree_past b i m n)
            ])
      ]

  pub chain_words : words_with ct (with_chain c xs t) ≡ set (set (words_with ct t) (spot t (cell c p)) v) (spot t (cell c q)) u
  unfolding words_with
  chain_words =
      words_are ct t (with_chain c xs t) (update (cell c q) u (update (cell c p) v (content_with ct t))) (resource_count c xs t) (ap length (same_locks c xs t)) agree
      ∙ sym (set_written _ _ (update (cell c p) v (content_with ct t)) (cell c q) u lq.inside)
      ∙ ap (λ (ws : List ℕ). set ws (spot t (cell c q)) u) (sym (set_written _ _ (content_with ct t) (cell c p) v lp.inside))

-- the cell that names k, or that ends the chain (k = 0)
unfoldable pub holding : Tables → Chain → ℕ → ℕ
holding t c k = spot t (cell c (holder 0 k (chain_of c t)))

module _ (t : Tables) (c : Chain) (h : Threaded t c) where
  pub no_zero : Absent 0 (chain_of c t)
  no_zero = each_absent (Stands t c) (chain_of c t) 0 h.members (λ s. omega (arith, s.0))

  pub linked_on : (k : ℕ) → (Absent k (0 ∷ chain_of c t) → ⊥) → LinkedAt t c k
  linked_on zero o = linked_head t c h.present
  linked_on (suc k) o = (each_on (Stands t c) (chain_of c t) (suc k) h.members (λ a. o (omega arith, a))).1

  linked_holder : (k : ℕ) → LinkedAt t c (holder 0 k (chain_of c t))
  linked_holder k = linked_on (holder 0 k (chain_of c t)) (holder_on 0 k (chain_of c t))

  pub append_words : (ct : Counts) (k : ℕ) → words_with ct (with_chain c (chain_of c t ++ (k ∷ [])) t) ≡ set (words_with ct t) (holding t c 0) k
  unfolding holding
  append_words ct k =
      let here : next (holder 0 0 (chain_of c t)) (0 ∷ (chain_of c t ++ (k ∷ []))) ≡ k = next_append_here 0 k (chain_of c t) (no_zero, h.distinct) no_zero in
      chain_words ct t c _ _ _ k k h.present (linked_holder 0) (linked_holder 0) (λ n. here) here (λ j n m. next_append_past j 0 k (chain_of c t) no_zero n)
      ∙ set-set (words_with ct t) (holding t c 0) k k

  pub remove_words : (ct : Counts) (k : ℕ) → (Absent k (chain_of c t) → ⊥)
      → words_with ct (with_chain c (remove k (chain_of c t)) t) ≡ set (set (words_with ct t) (holding t c k) (next k (chain_of c t))) (spot t (cell c k)) 0
  unfolding holding
  remove_words ct k o =
      let p = (each_on (Stands t c) (chain_of c t) k h.members o).0 in
      chain_words ct t c _ (holder 0 k (chain_of c t)) k (next k (chain_of c t)) 0 h.present (linked_holder k) (linked_on k (λ a. o a.1))
      (λ n. next_remove_here 0 k (chain_of c t) (no_zero, h.distinct) o)
      (next_remove_gone 0 k (chain_of c t) (omega arith))
      (λ j m n. next_remove_past j 0 k (chain_of c t) h.distinct m n)

  pub push_words : (ct : Counts) (k : ℕ) → Stands t c k → words_with ct (with_chain c (k ∷ chain_of c t) t) ≡ set (set (words_with ct t) (spot t (cell c k)) (first (chain_of c t))) (spot t (cell c 0)) k
  push_words ct k s =
      chain_words ct t c _ k 0 _ k h.present s.1 (linked_head t c h.present)
      (λ n. next_past k 0 _ n ∙ next_here k k _ refl) (next_here 0 0 _ refl) (λ j m n. next_push_past j 0 k _ n m)

-- a record changes in its fields: of its words, those from the m-th on are the numbers vs, and those before, its links, keep their values
module _ (ct : Counts) (t u : Tables) (resources : length u.resources ≡ length t.resources) (locks : length u.locks ≡ length t.locks)
    (chains : (c : Chain) → chain_of c u ≡ chain_of c t)
    (a : ℕ → Address) (injective : (i j : ℕ) → a i ≡ a j → i ≡ j) (side : (b : Address) → Side a b) (m : ℕ) (vs : List ℕ) (new old : List Word)
    (is_old : (i : ℕ) → word_at t (a i) ≡ get_or old i (plain 0)) (is_new : (i : ℕ) → word_at u (a i) ≡ get_or new i (plain 0))
    (others : (b : Address) → ((i : ℕ) → b ≢ a i) → word_at u b ≡ word_at t b)
    (fields : (i : ℕ) → i < length vs → get_or new (m + i) (plain 0) ≡ plain (get_or vs i 0))
    (past : (i : ℕ) → m + length vs ≤ i → get_or new i (plain 0) ≡ get_or old i (plain 0))
    (links : (i : ℕ) → i < m → value_with ct t (get_or new i (plain 0)) ≡ value_with ct t (get_or old i (plain 0)))
    (inside : (i : ℕ) → m ≤ i → i < m + length vs → In t (a i)) where
  same_value : (w : Word) → value_with ct u w ≡ value_with ct t w
  same_value (plain v) = refl
  same_value (tallied r m) = refl
  same_value (following c j) = ap (λ (xs : List ℕ). next j (0 ∷ xs)) (chains c)

  record_row : (f : ℕ) → value_with ct t (get_or new f (plain 0)) ≡ updates a m vs (content_with ct t) (a f)
  record_row f =
      row_agrees a injective m vs (content_with ct t) (λ i. value_with ct t (get_or new i (plain 0)))
      (λ i p. links i p ∙ sym (ap (value_with ct t) (is_old i)))
      (λ i p. ap (value_with ct t) (fields i p))
      (λ i p. ap (value_with ct t) (past i p ∙ sym (is_old i)))
      f

  record_agrees : (b : Address) → Side a b → content_with ct u b ≡ updates a m vs (content_with ct t) b
  record_agrees b (on i e) = subst (λ (b : Address). content_with ct u b ≡ updates a m vs (content_with ct t) b) e (same_value (word_at u (a i)) ∙ ap (value_with ct t) (is_new i) ∙ record_row i)
  record_agrees b (off n) = same_value (word_at u b) ∙ ap (value_with ct t) (others b n) ∙ sym (updates_past a m vs (content_with ct t) b n)

  pub record_words : words_with ct u ≡ store_run (λ f. spot t (a f)) m vs (words_with ct t)
  unfolding words_with
  record_words =
      words_are ct t u (updates a m vs (content_with ct t)) resources locks (λ b i. record_agrees b (side b))
      ∙ sym (stores_written _ _ a m vs (content_with ct t) inside)

-- the fields of a lock change, and its home link stays: the lock keeps its home, or stands neither on the old nor on the new
module _ (ct : Counts) (t : Tables) (k : ℕ) (l : Lock) (low : 1 ≤ k) (high : k ≤ length t.locks)
    (kept : next k (0 ∷ chain_of (of_locks (home l)) t) ≡ next k (0 ∷ chain_of (of_locks (home (lock t k))) t)) where
  lock_links_kept : (i : ℕ) → i < lock_links → value_with ct t (get_or (lock_words k l) i (plain 0)) ≡ value_with ct t (get_or (lock_words k (lock t k)) i (plain 0))
  lock_links_kept zero p = kept
  lock_links_kept (suc zero) p = refl
  lock_links_kept (suc (suc zero)) p = refl
  lock_links_kept (suc (suc (suc i))) p = absurd (omega arith)

  lock_past : (i : ℕ) → lock_width ≤ i → get_or (lock_words k l) i (plain 0) ≡ get_or (lock_words k (lock t k)) i (plain 0)
  lock_past i p = get_or-eq_default (lock_words k l) (plain 0) p ∙ sym (get_or-eq_default (lock_words k (lock t k)) (plain 0) p)

  other_locks : (b : Address) → ((i : ℕ) → b ≢ of_lock k i) → word_at (put_lock k l t) b ≡ word_at t b
  other_locks (of_header f) n = ap (λ (m : ℕ). get_or (header_words (length t.resources) m) f (plain 0)) (locks_put t k l)
  other_locks (of_resource r f) n = ap (λ (x : Resource). get_or (resource_words r x) f (plain 0)) (resource_put_lock t k l r)
  other_locks (of_lock j f) n =
      ap (λ (x : Lock). get_or (lock_words j x) f (plain 0)) (lock_put_other t k l j (λ e. n f (ap (λ (j : ℕ). of_lock j f) e)))

  pub put_lock_words : words_with ct (put_lock k l t) ≡ store_run (λ f. spot t (of_lock k f)) lock_links (lock_fields l) (words_with ct t)
  put_lock_words =
      record_words ct t (put_lock k l t) refl (locks_put t k l) (chains_put_lock t k l) (of_lock k) (λ i j e. cc) (lock_side k) lock_links (lock_fields l)
      (lock_words k l) (lock_words k (lock t k)) (λ i. refl)
      (λ i. ap (λ (x : Lock). get_or (lock_words k x) i (plain 0)) (lock_put_here t k l low high))
      other_locks (λ i p. sym (get_or-drop lock_links (lock_words k l) i (plain 0)) ∙ get_or-map plain (lock_fields l) i 0) lock_past lock_links_kept (λ i p q. (low, high, omega arith))

-- the fields of a resource change, and its chains stay
module _ (ct : Counts) (t : Tables) (r : ℕ) (x : Resource) (low : 1 ≤ r) (high : r ≤ length t.resources) (kept : (q : Queue) → queue_of q x ≡ queue_of q (resource t r)) where
  resource_links_kept : (i : ℕ) → i < resource_links → value_with ct t (get_or (resource_words r x) i (plain 0)) ≡ value_with ct t (get_or (resource_words r (resource t r)) i (plain 0))
  resource_links_kept zero p = refl
  resource_links_kept (suc zero) p = refl
  resource_links_kept (suc (suc zero)) p = refl
  resource_links_kept (suc (suc (suc zero))) p = refl
  resource_links_kept (suc (suc (suc (suc i)))) p = absurd (omega arith)

  resource_set : (i : ℕ) → i < 2 → get_or (resource_words r x) (4 + i) (plain 0) ≡ plain (get_or (resource_fields x) i 0)
  resource_set zero p = refl
  resource_set (suc zero) p = refl
  resource_set (suc (suc i)) p = absurd (omega arith)

  -- its counts
  resource_past : (i : ℕ) → count_field 0 ≤ i → get_or (resource_words r x) i (plain 0) ≡ get_or (resource_words r (resource t r)) i (plain 0)
  resource_past zero p = absurd (omega arith)
  resource_past (suc zero) p = absurd (omega arith)
  resource_past (suc (suc zero)) p = absurd (omega arith)
  resource_past (suc (suc (suc zero))) p = absurd (omega arith)
  resource_past (suc (suc (suc (suc zero)))) p = absurd (omega arith)
  resource_past (suc (suc (suc (suc (suc zero))))) p = absurd (omega arith)
  resource_past (suc (suc (suc (suc (suc (suc i)))))) p = refl

  other_resources : (b : Address) → ((i : ℕ) → b ≢ of_resource r i) → word_at (put_resource r x t) b ≡ word_at t b
  other_resources (of_header f) n = ap (λ (m : ℕ). get_or (header_words m (length t.locks)) f (plain 0)) (resources_put t r x)
  other_resources (of_resource s f) n =
      ap (λ (y : Resource). get_or (resource_words s y) f (plain 0)) (resource_put_other t r x s (λ e. n f (ap (λ (s : ℕ). of_resource s f) e)))
  other_resources (of_lock j f) n = ap (λ (y : Lock). get_or (lock_words j y) f (plain 0)) (lock_put_resource t r x j)

  pub put_resource_words : words_with ct (put_resource r x t) ≡ store_run (λ f. spot t (of_resource r f)) resource_links (resource_fields x) (words_with ct t)
  put_resource_words =
      record_words ct t (put_resource r x t) (resources_put t r x) refl (chains_put_resource t r x kept) (of_resource r) (λ i j e. cc) (resource_side r) resource_links (resource_fields x)
      (resource_words r x) (resource_words r (resource t r)) (λ i. refl)
      (λ i. ap (λ (y : Resource). get_or (resource_words r y) i (plain 0)) (resource_put_here t r x low high))
      other_resources resource_set resource_past resource_links_kept (λ i p q. (low, high, omega arith))
