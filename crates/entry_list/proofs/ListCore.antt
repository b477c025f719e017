-- What the core of a listing reads from the words of a state.
use mathlib.Core.Path.{◌≡◌, sym, ◌∙◌, ap}
use mathlib.Core.Bool.{Bool, true, false, not}
use mathlib.Core.List.{List}
use Prim.Native.Nat.{ℕ}
use borrow.Author.Rules.{rules}
use Rattle.tables.specs.declared.Lock.{Lock}
use Rattle.tables.specs.declared.LockEntry.{LockEntry}
use Rattle.tables.specs.Layout.{of_lock, word_in, read_lock, read}
use Rattle.tables.specs.Sound.{sound}
use Rattle.tables.specs.Validity.{Core}
use Rattle.rules.specs.Calls.{unless}
use Rattle.rules.specs.Entries.{look_refusal}
use Rattle.table_chains.specs.Promises.{Some, Tells}
use Rattle.list_walker.specs.Order.{Queued}
use Rattle.list_walker.proofs.WalkerReads.{queued_sized, queued_low, queued_high, queued_record}
use Rattle.entry_list.specs.Listings.{list_refusal, resource_of, entry_of}
use Rattle.table_chains.proofs.FoundSound.{found_sound, found_written, found_core}

-- list_refusal
module _ (ws ss : List ℕ) (a : Bool) (ea : a ≡ sound ws ss) where
  pub sound_some : a ≡ true → Some Core ws
  sound_some h = found_core ws ss a ea (ap not h)

module _ (ws ss : List ℕ) (c k : ℕ) (a : Bool) (ea : a ≡ sound ws ss) where
  pub unsound_refused : a ≡ false → 1 ≡ list_refusal ws ss c k
  unfolding list_refusal unless
  unsound_refused h = rw (sym ea ∙ h)

  pub sound_looked : a ≡ true → (n : ℕ) → Tells Core (look_refusal c k) ws n → n ≡ list_refusal ws ss c k
  unfolding list_refusal unless
  sound_looked h n told = let w = found_written ws ss a ea (ap not h) in rw (found_sound ws ss a ea (ap not h)) (told.then (read ws ss) w.valid.core w.is)

-- resource_of, entry_of
abbrev pub entry_by : ℕ → Lock → LockEntry
entry_by k l = record { number = k; client = l.client; state = l.state; held = l.held; asked = l.asked }

module _ (ws : List ℕ) (k : ℕ) where
  pub resource_told : (x : ℕ) → x ≡ word_in ws (of_lock k 3) → Tells (Queued k) (resource_of k) ws x
  unfolding resource_of read_lock
  resource_told x e = record { then = λ t p is. e ∙ ap (λ (l : Lock). l.resource) (queued_record ws k t p is) }

  pub entry_told : (l : Lock) → l ≡ read_lock ws k → Tells (Queued k) (entry_of k) ws (record { number = k; client = l.client; state = l.state; held = l.held; asked = l.asked })
  unfolding entry_of
  entry_told l e = record {
    then = λ t p is.
        ap (entry_by k) (e ∙ queued_record ws k t p is);
  }

pub ruleset lock_laws = (rules, queued_sized, queued_low, queued_high, resource_told, entry_told)
