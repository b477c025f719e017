-- A client's first notice, by the words: the walk along the notice chain finds it.
use mathlib.Core.Path.{◌≡◌, refl, sym, ◌∙◌, ap}
use mathlib.Core.Logic.{◌≢◌}
use mathlib.Core.List.{List}
use Prim.Native.Nat.{ℕ, ◌≤◌}
use Rattle.std.specs.Prelude.{None}
use Rattle.std.specs.declared.option.Option.TheVariants as options
use lib.Dec.{eqb}
use borrow.Author.Rules.{rules}
use Rattle.tables.specs.declared.Lock.{Lock}
use Rattle.tables.specs.Lists.{count, first_that}
use Rattle.tables.specs.State.{Tables, lock, notices}
use Rattle.tables.specs.Layout.{of_header, of_lock, words, word_in, read_lock}
use Rattle.tables.proofs.Counts.{first_cong}
use Rattle.tables.specs.Validity.{Core}
use Rattle.tables.proofs.ChainMembers.{on_chain}
use Rattle.table_fields.proofs.StateWords.{lock_is}
use Rattle.tables.specs.Numbered.{numbered}
use Rattle.table_chains.proofs.NumberOrNone.{some_number, no_number}
use Rattle.table_chains.specs.Promises.{Some, Tells}
use Rattle.table_chains.specs.Walking.{first_with}
use Rattle.table_chains.proofs.ChainWalks.{some_sized, walk_sized, walk_low, walk_high, walk_less, notices_walks, notices_onward, Seeking, seeking_starts, seeking_found, seeking_ends}
use Rattle.call_notice.specs.Promises.{first_notice}

client_there : (t : Tables) → Core t → (ws : List ℕ) → ws ≡ words t → (j : ℕ) → 1 ≤ count j t.notices → word_in ws (of_lock j 4) ≡ (lock t j).client
unfolding read_lock
client_there t core ws is j m = ap (λ (o : Lock). o.client) (lock_is t ws is j (on_chain t core.linked notices j m).0 (read_lock ws j) refl)

-- first_notice
module _ (c : ℕ) (ws : List ℕ) (start : ℕ) (e : start ≡ word_in ws (of_header 6)) where
  pub looks_first : Some Core ws → Seeking ws 2 4 c start start
  looks_first s = seeking_starts ws 2 4 c start (notices_walks s e)

  first_is : (k : ℕ) → k ≡ first_with ws 2 4 c start → (t : Tables) → Core t → ws ≡ words t → k ≡ first_notice c t
  unfolding first_with first_notice
  first_is k h t core is =
      h ∙ ap (first_that (λ j. eqb (word_in ws (of_lock j 4)) c)) (rw e (notices_onward t core ws is))
      ∙ first_cong _ (λ j. eqb (lock t j).client c) t.notices (λ j m. ap (λ (y : ℕ). eqb y c) (client_there t core ws is j m))

  module _ (k : ℕ) (i : Seeking ws 2 4 c start k) where
    pub looks_found : k ≢ 0 → (x : ℕ) → x ≡ word_in ws (of_lock k 4) → x ≡ c → Tells Core (λ t. numbered (first_notice c t)) ws (options.Some k)
    looks_found n x ex h = record {
      then = λ t core is. some_number k n ∙ ap numbered (first_is k (seeking_found ws 2 4 c start k i n x ex h) t core is);
    }

    pub looks_end : k ≡ 0 → Tells Core (λ t. numbered (first_notice c t)) ws None
    looks_end z = record {
      then = λ t core is. no_number (first_notice c t) (sym (first_is 0 (seeking_ends ws 2 4 c start k i z) t core is));
    }

pub ruleset look_laws = (rules, some_sized, walk_sized, walk_low, walk_high, walk_less, looks_first, looks_found, looks_end)
