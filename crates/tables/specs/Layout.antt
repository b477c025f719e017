-- The written form: each word and each slot byte of the two tables as a function of the state, and the state read back.
use Rattle.std.specs.Prelude.{List, [], ◌∷◌, ◌++◌, map, ℕ, zero, suc, ◌+◌, ◌-◌, ◌*◌, get_or, length, replicate, take, drop}
use Rattle.tables.specs.Lists.{from, next}
use Rattle.tables.specs.State.{Lock, Resource, Tables, last_mode, name_width, value_width, lock, resource, Queue, grants, converts, waits, free_locks, denied, blocked, notices, queue, Chain, free_resources, of_locks, chain_of, home}
use Rattle.tables.specs.Grants.{tally}

-- ADDRESSES. A header, then a row of words for each resource, then one for each lock. These widths stand here alone.
abbrev pub header_width : ℕ
header_width = 8

abbrev pub resource_width : ℕ
resource_width = 12

abbrev pub lock_width : ℕ
lock_width = 10

-- a field of the header, of a resource, of a lock; records are numbered from 1, fields from 0
pub data Address : Type 0 where
  of_header : ℕ → Address
  of_resource of_lock : ℕ → ℕ → Address
  deriving Discrete as Address_discrete

-- its place among the words, with r resources
abbrev pub place : ℕ → Address → ℕ
place r (of_header f) = f
place r (of_resource k f) = header_width + resource_width * (k - 1) + f
place r (of_lock k f) = header_width + resource_width * r + lock_width * (k - 1) + f

-- the number of words, with r resources and l locks
abbrev pub size : ℕ → ℕ → ℕ
size r l = header_width + (resource_width * r + lock_width * l)

-- rows of numbers: one of width u, then one of width v for each of 1..r, then one of width w for each of 1..l
abbrev pub flat_map : (ℕ → List ℕ) → List ℕ → List ℕ
flat_map f [] = []
flat_map f (x ∷ xs) = f x ++ flat_map f xs

abbrev pub row : ℕ → (ℕ → ℕ) → List ℕ
row w g = map g (from 0 w)

unfoldable pub rows : ℕ → (ℕ → ℕ → ℕ) → ℕ → List ℕ
rows w g n = flat_map (λ k. row w (g k)) (from 1 n)

unfoldable pub sheet : ℕ → ℕ → ℕ → (ℕ → ℕ) → (ℕ → ℕ → ℕ) → (ℕ → ℕ → ℕ) → ℕ → ℕ → List ℕ
sheet u v w f g h r l = row u f ++ (rows v g r ++ rows w h l)

-- f of each address, in order
unfoldable pub by_address : ℕ → ℕ → (Address → ℕ) → List ℕ
by_address r l f =
    sheet header_width resource_width lock_width (λ i. f (of_header i)) (λ k i. f (of_resource k i)) (λ k i. f (of_lock k i)) r l

-- FIELDS. The cell of k on a chain: the word that names what follows k (k = 0: the head, which names the first).
abbrev pub queue_head : Queue → ℕ
queue_head grants = 1
queue_head converts = 2
queue_head waits = 3

abbrev pub head : Chain → Address
head free_resources = of_header 2
head (of_locks free_locks) = of_header 3
head (of_locks denied) = of_header 4
head (of_locks blocked) = of_header 5
head (of_locks notices) = of_header 6
head (of_locks (queue r q)) = of_resource r (queue_head q)

abbrev pub link : Chain → ℕ → Address
link free_resources k = of_resource k 0
link (of_locks free_locks) k = of_lock k 0
link (of_locks denied) k = of_lock k 0
link (of_locks blocked) k = of_lock k 1
link (of_locks notices) k = of_lock k 2
link (of_locks (queue r q)) k = of_lock k 0

abbrev pub cell : Chain → ℕ → Address
cell c zero = head c
cell c (suc k) = link c (suc k)

-- the fields of a record that are no links, and how many link words stand before them
abbrev pub resource_links : ℕ
resource_links = 4

abbrev pub lock_links : ℕ
lock_links = 3

abbrev pub resource_fields : Resource → List ℕ
resource_fields x = length x.name ∷ x.valid ∷ []

abbrev pub lock_fields : Lock → List ℕ
lock_fields l = l.resource ∷ l.client ∷ l.state ∷ l.held ∷ l.asked ∷ l.completion ∷ l.mark ∷ []

-- where a resource counts the locks that hold the mode m: behind its links and fields
abbrev pub count_field : ℕ → ℕ
count_field m = 6 + m

-- what a word says: a number; or what follows the record k on a chain, or 0 (k = 0: the chain's first); or how many locks hold the mode m on r
pub data Word : Type 0 where
  plain : ℕ → Word
  following : Chain → ℕ → Word
  tallied : ℕ → ℕ → Word

-- the words of the header, with r resources and l locks; of a resource; of a lock
abbrev pub header_words : ℕ → ℕ → List Word
header_words r l =
    plain r ∷ plain l ∷ following free_resources 0 ∷ following (of_locks free_locks) 0 ∷ following (of_locks denied) 0 ∷ following (of_locks blocked) 0
    ∷ following (of_locks notices) 0 ∷ []

abbrev pub resource_words : ℕ → Resource → List Word
resource_words r x =
    following free_resources r ∷ following (of_locks (queue r grants)) 0 ∷ following (of_locks (queue r converts)) 0 ∷ following (of_locks (queue r waits)) 0
    ∷ (map plain (resource_fields x) ++ map (tallied r) (from 0 (suc last_mode)))

abbrev pub lock_words : ℕ → Lock → List Word
lock_words k l = following (of_locks (home l)) k ∷ following (of_locks blocked) k ∷ following (of_locks notices) k ∷ map plain (lock_fields l)

-- a word that none of these names is zero
abbrev pub word_at : Tables → Address → Word
word_at t (of_header f) = get_or (header_words (length t.resources) (length t.locks)) f (plain 0)
word_at t (of_resource r f) = get_or (resource_words r (resource t r)) f (plain 0)
word_at t (of_lock k f) = get_or (lock_words k (lock t k)) f (plain 0)

abbrev pub word_value : Tables → Word → ℕ
word_value t (plain v) = v
word_value t (following c k) = next k (0 ∷ chain_of c t)
word_value t (tallied r m) = tally t r m

-- THE WORDS of a state
abbrev pub content : Tables → Address → ℕ
content t a = word_value t (word_at t a)

unfoldable pub words : Tables → List ℕ
words t = by_address (length t.resources) (length t.locks) (content t)

-- THE SLOTS of a state: for each resource its name, zeros up to the longest name, its value block
abbrev pub slot_width : ℕ
slot_width = name_width + value_width

unfoldable pub slot : Resource → List ℕ
slot x = x.name ++ (replicate (name_width - length x.name) 0 ++ x.value)

unfoldable pub slots : Tables → List ℕ
unfolding slot
slots t = flat_map (λ r. slot (resource t r)) (from 1 (length t.resources))

-- READING. R and L, and the word at an address
abbrev pub resources_in : List ℕ → ℕ
resources_in ws = get_or ws 0 0

abbrev pub locks_in : List ℕ → ℕ
locks_in ws = get_or ws 1 0

abbrev pub word_in : List ℕ → Address → ℕ
word_in ws a = get_or ws (place (resources_in ws) a) 0

-- how many locks hold the mode m on the resource r, as the words say
abbrev pub count_in : List ℕ → ℕ → ℕ → ℕ
count_in ws r m = word_in ws (of_resource r (count_field m))

-- from k on, at most n records
unfoldable pub follow : (ℕ → ℕ) → ℕ → ℕ → List ℕ
follow link zero k = []
follow link (suc n) zero = []
follow link (suc n) (suc k) = suc k ∷ follow link n (link (suc k))

-- a chain that ends has at most as many records as there are
abbrev pub most : ℕ → ℕ → Chain → ℕ
most r l free_resources = r
most r l (of_locks c) = l

-- the word of k on a chain, and the chain from its head
abbrev pub link_in : List ℕ → Chain → ℕ → ℕ
link_in ws c k = word_in ws (cell c k)

unfoldable pub read_chain : List ℕ → Chain → List ℕ
unfolding follow
read_chain ws c = follow (link_in ws c) (most (resources_in ws) (locks_in ws) c) (link_in ws c 0)

-- the lock that the field f of the lock j names, and the locks from k on, where that field of each names the next
abbrev pub lock_link : List ℕ → ℕ → ℕ → ℕ
lock_link ws f j = word_in ws (of_lock j f)

unfoldable pub onward : List ℕ → ℕ → ℕ → List ℕ
unfolding follow
onward ws f k = follow (lock_link ws f) (locks_in ws) k

unfoldable pub read_lock : List ℕ → ℕ → Lock
read_lock ws k =
    record {
      resource = word_in ws (of_lock k 3);
      client = word_in ws (of_lock k 4);
      state = word_in ws (of_lock k 5);
      held = word_in ws (of_lock k 6);
      asked = word_in ws (of_lock k 7);
      completion = word_in ws (of_lock k 8);
      mark = word_in ws (of_lock k 9);
    }

-- the mode that it holds
abbrev pub held_in : List ℕ → ℕ → ℕ
held_in ws k = (read_lock ws k).held

-- the slot of a resource
unfoldable pub slot_in : List ℕ → ℕ → List ℕ
slot_in ss r = take slot_width (drop (slot_width * (r - 1)) ss)

unfoldable pub read_resource : List ℕ → List ℕ → ℕ → Resource
unfolding read_chain slot_in
read_resource ws ss r =
    record {
      name = take (word_in ws (of_resource r 4)) (slot_in ss r);
      value = drop name_width (slot_in ss r);
      valid = word_in ws (of_resource r 5);
      grant = read_chain ws (of_locks (queue r grants));
      convert = read_chain ws (of_locks (queue r converts));
      wait = read_chain ws (of_locks (queue r waits));
    }

-- THE STATE whose written form the words and slots are, if they are the written form of one
unfoldable pub read : List ℕ → List ℕ → Tables
unfolding read_chain read_lock read_resource
read ws ss =
    record {
      resources = map (read_resource ws ss) (from 1 (resources_in ws));
      locks = map (read_lock ws) (from 1 (locks_in ws));
      free_resources = read_chain ws free_resources;
      free_locks = read_chain ws (of_locks free_locks);
      denied = read_chain ws (of_locks denied);
      blocked = read_chain ws (of_locks blocked);
      notices = read_chain ws (of_locks notices);
    }
