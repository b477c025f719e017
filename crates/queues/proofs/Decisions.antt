-- What is granted, decided from the records: the tests of the code, what they say of a state, and that the words of a state hold what they read.
use mathlib.Core.Path.{◌≡◌, refl, sym, ◌∙◌, ap}
use mathlib.Core.Bool.{Bool, true, false, ◌&&◌, ◌||◌, not}
use mathlib.Core.List.{List}
use Prim.Native.Nat.{ℕ, ◌<◌, ◌≤◌}
use lib.Dec.{eqb}
use lib.ListN.{length}
use borrow.Author.Rules.{rules}
use borrow.Author.Tests.{eqb-true, eq-eqb, ne_eqb}
use Rattle.modes.specs.declared.Mode.{Mode}
use Rattle.modes.specs.Made.{mode_number}
use Rattle.modes.specs.Modes.{down, all_modes}
use Rattle.modes.specs.Sets.{fits_set}
use Rattle.tables.specs.declared.Lock.{Lock}
use Rattle.tables.specs.Lists.{count, first}
use Rattle.tables.specs.State.{Tables, lock, resource, granted, converting, holds, state_converting, converts, waits, queue}
use Rattle.tables.specs.Layout.{words}
use Rattle.tables.specs.Grants.{tally, fits, convert_grantable}
use Rattle.tables.specs.Validity.{line}
use Rattle.tables.proofs.Cases.{clash, or_left, or_right}
use Rattle.tables.proofs.Counts.{within_le, by_append}
use Rattle.tables.proofs.ChainMembers.{on_converts, on_waits, wait_fits}
use Rattle.tables.proofs.CountedFits.{fits_counted, fits_counted_beside}
use Rattle.rules.specs.Calls.{granted_at_once, in_place}
use Rattle.table_fields.specs.declared.ModeCounts.{ModeCounts}
use Rattle.table_fields.specs.Records.{counts_by, read_counts}
use Rattle.table_fields.proofs.StateWords.{counts_is}
use Rattle.table_chains.specs.Promises.{Tells, Resourced}
use Rattle.table_chains.proofs.ChainWalks.{queue_first, here_sized, here_low, here_high}
use Rattle.queues.specs.declared.Occupancy.{Occupancy}
use Rattle.queues.specs.Holders.{no_mode, modes_beside, own_mode, goes_beside}
use Rattle.queues.specs.Decisions.{read_occupancy, admits_request, admits_conversion, admits_head}
use Rattle.queues.proofs.ModeNumbers.{mode_below}
use Rattle.queues.proofs.HeldModes.{fits_counts}
use Rattle.queues.proofs.QueueReads.{null_first}

-- admits_request. a and b: the mode is NL, nobody waits; f: the rest of the rule
barred : (a b f : Bool) → (not a && not b) ≡ true → ((a || b) && f) ≡ false
barred true b f h = clash false h refl
barred false true f h = clash false h refl
barred false false f h = refl

unbarred : (a b f : Bool) → (not a && not b) ≡ false → ((a || b) && f) ≡ f
unbarred true b f h = refl
unbarred false true f h = refl
unbarred false false f h = clash true refl h

module _ (s : Occupancy) (m : ℕ) where
  pub behind_conversion : (s.convert ≡ 0 → ⊥) → false ≡ admits_request s m
  unfolding admits_request
  behind_conversion n = rw (ne_eqb s.convert 0 n)

  module _ (z : s.convert ≡ 0) where
    pub behind_request : (not (eqb m 0) && not (eqb s.wait 0)) ≡ true → false ≡ admits_request s m
    unfolding admits_request
    behind_request h = rw (eq-eqb s.convert 0 z) (sym (barred (eqb m 0) (eqb s.wait 0) _ h))

    pub behind_none : (not (eqb m 0) && not (eqb s.wait 0)) ≡ false → (b : Bool) → b ≡ goes_beside s.counts no_mode m → b ≡ admits_request s m
    unfolding admits_request
    behind_none h b e = rw (eq-eqb s.convert 0 z) (e ∙ sym (unbarred (eqb m 0) (eqb s.wait 0) _ h))

pub ruleset request_laws = (rules, behind_conversion, behind_request, behind_none)

-- admits_conversion
module _ (s : Occupancy) (own m : ℕ) (d : Bool) (ed : d ≡ down own m) where
  pub conversion_down : d ≡ true → true ≡ admits_conversion s own m
  unfolding admits_conversion
  conversion_down h = rw (sym ed ∙ h)

  module _ (up : d ≡ false) where
    pub conversion_behind : (s.convert ≡ 0 → ⊥) → false ≡ admits_conversion s own m
    unfolding admits_conversion
    conversion_behind n = rw (sym ed ∙ up, ne_eqb s.convert 0 n)

    pub conversion_fits : s.convert ≡ 0 → (b : Bool) → b ≡ goes_beside s.counts own m → b ≡ admits_conversion s own m
    unfolding admits_conversion
    conversion_fits z b e = rw (sym ed ∙ up, eq-eqb s.convert 0 z) e

pub ruleset conversion_laws = (rules, conversion_down, conversion_behind, conversion_fits)

-- modes_of_others
module _ (c : ModeCounts) (l : Lock) (x : ℕ) where
  pub others_convert : l.state ≡ state_converting → (x ≡ modes_beside c l.held) × (x < 64) → x ≡ modes_beside c (own_mode l)
  unfolding own_mode
  others_convert s e = rw (eq-eqb l.state state_converting s) e.0

  pub others_wait : (l.state ≡ state_converting → ⊥) → (x ≡ modes_beside c no_mode) × (x < 64) → x ≡ modes_beside c (own_mode l)
  unfolding own_mode
  others_wait s e = rw (ne_eqb l.state state_converting s) e.0

  -- admits_head
  pub others_fit : (x ≡ modes_beside c (own_mode l)) × (x < 64) → (b : Bool) → b ≡ fits_set x l.asked → b ≡ admits_head c l
  unfolding admits_head goes_beside
  others_fit e b eb = eb ∙ ap (λ (s : ℕ). fits_set s l.asked) e.0

pub ruleset head_laws = (rules, others_convert, others_wait, others_fit)

-- ON A STATE. What stands in the record of r
abbrev occupancy_of : ℕ → Tables → Occupancy
occupancy_of r t = record { convert = first (resource t r).convert; wait = first (resource t r).wait; counts = counts_by (tally t r) }

module _ (r : ℕ) (t : Tables) (p : Resourced r t) (m : ℕ) (mode : m < 6) where
  -- the mode beside nobody, and beside a lock that holds another there
  fits_all : goes_beside (counts_by (tally t r)) no_mode m ≡ fits t r 0 m
  unfolding all_modes
  fits_all = fits_counts (tally t r) no_mode m mode ∙ sym (fits_counted t p.core r m)

  fits_own : (k : ℕ) → holds (lock t k) ≡ true → (lock t k).resource ≡ r → goes_beside (counts_by (tally t r)) (lock t k).held m ≡ fits t r k m
  fits_own k h e = fits_counts (tally t r) (lock t k).held m mode ∙ sym (fits_counted_beside t p.core r m k h e)

  request_is : admits_request (occupancy_of r t) m ≡ granted_at_once t r m
  unfolding admits_request granted_at_once
  request_is = rw (null_first (resource t r).convert (p.core.linked (queue r converts) 0), null_first (resource t r).wait (p.core.linked (queue r waits) 0), fits_all)

  conversion_is : (k : ℕ) → granted (lock t k) ≡ true → (lock t k).resource ≡ r → admits_conversion (occupancy_of r t) (lock t k).held m ≡ in_place k m t
  unfolding admits_conversion in_place
  conversion_is k g e = rw (e, null_first (resource t r).convert (p.core.linked (queue r converts) 0), fits_own k (or_left _ (converting (lock t k)) g) e)

head_is : (r : ℕ) (t : Tables) (p : Resourced r t) (k : ℕ) → 1 ≤ count k (line t r) → (lock t k).asked < 6 → admits_head (counts_by (tally t r)) (lock t k) ≡ convert_grantable t r k
unfolding admits_head own_mode convert_grantable line
head_is r t p k i mode =
    by_append k (resource t r).convert (resource t r).wait i
    (λ h. let o = on_converts t p.core.linked r k h in
    rw o.0 (fits_own r t p _ mode k (or_right (granted (lock t k)) _ o.0) o.1))
    (λ h. let s = eqb-true (lock t k).state 3 (on_waits t p.core.linked r k h).0 in
    let n : holds (lock t k) ≡ false = rw s in
    let c : converting (lock t k) ≡ false = rw s in
    rw c (fits_all r t p _ mode ∙ wait_fits t p.core r k (lock t k).asked n))

-- BY THE WORDS
module _ (r : ℕ) (t : Tables) (p : Resourced r t) (ws : List ℕ) (is : ws ≡ words t) where
  counts_there : read_counts ws r ≡ counts_by (tally t r)
  counts_there = let w = within_le (length t.resources) r p.in_range in counts_is t ws is r w.0 w.1

  occupancy_there : read_occupancy ws r ≡ occupancy_of r t
  unfolding read_occupancy
  occupancy_there = λ i. record { convert = queue_first r t p converts ws is i; wait = queue_first r t p waits ws is i; counts = counts_there i }

  pub conversion_told : (k m : ℕ) → m < 6 → granted (lock t k) ≡ true → (lock t k).resource ≡ r → admits_conversion (read_occupancy ws r) (lock t k).held m ≡ in_place k m t
  conversion_told k m mode g e = ap (λ (s : Occupancy). admits_conversion s (lock t k).held m) occupancy_there ∙ conversion_is r t p m mode k g e

  pub head_told : (k : ℕ) → 1 ≤ count k (line t r) → (lock t k).asked < 6 → admits_head (read_counts ws r) (lock t k) ≡ convert_grantable t r k
  head_told k i mode = ap (λ (c : ModeCounts). admits_head c (lock t k)) counts_there ∙ head_is r t p k i mode

-- granted_at_once
pub request_told : (ws : List ℕ) (r : ℕ) (m : Mode) (s : Occupancy) → s ≡ read_occupancy ws r → (b : Bool) → b ≡ admits_request s (mode_number m) → Tells (Resourced r) (λ t. granted_at_once t r (mode_number m)) ws b
request_told ws r m s es b eb = record {
  then = λ t p is. eb ∙ ap (λ (x : Occupancy). admits_request x (mode_number m)) (es ∙ occupancy_there r t p ws is) ∙ request_is r t p (mode_number m) (mode_below m);
}

pub ruleset occupancy_laws = (rules, here_sized, here_low, here_high)
