-- An entry on lent words and slots: it is refused, or it makes the change that its call's rule says.
use mathlib.Core.Path.{◌≡◌, refl, sym, ap, ap₂, ◌∙◌}
use mathlib.Core.Bool.{Bool, true, false}
use mathlib.Core.List.{List}
use Prim.Native.Nat.{ℕ, zero, suc}
use Rattle.std.specs.Prelude.{Option, Some, None, Result, Err, IsErrAnd, ok_or}
use borrow.Author.Rules.{rules}
use Rattle.tables.specs.State.{Tables}
use Rattle.tables.specs.Layout.{read}
use Rattle.tables.specs.Sound.{sound}
use Rattle.tables.specs.Validity.{Core, Valid}
use Rattle.rules.specs.declared.Said.{Said}
use Rattle.rules.specs.Calls.{Step, refused, refused_or, request_refusal, request_change, request, convert_refusal, convert_change, convert, release_refusal, release_change, release, cancel_refusal, cancel_change, cancel, purge_refusal, purge_change, purge, break, poll_refusal, poll_change, poll}
use Rattle.tables.proofs.Written.{Writes, sound_written}
use Rattle.rules.specs.Entries.{lent, lent_of, outcome, written, if_sound, entry, Call, step_of, to_request, to_convert, to_release, to_cancel, to_purge, to_break, to_poll, call_entry, Keeps}
use Rattle.rules.proofs.QueueTheorem.{outcome_is}
use Rattle.rules.specs.Accepted.{Requestable, Releasable, Convertible, Cancellable, Purgeable}
use Rattle.rules.proofs.AcceptedCalls.{request_passed, convert_passed, release_passed, cancel_passed, purge_passed}
use Rattle.tables.specs.Numbered.{numbered}
use Rattle.table_chains.specs.Promises.{Tells}
use Rattle.table_chains.specs.Promises as chains
use Rattle.table_names.specs.Names.{find_in}
use Rattle.table_names.specs.Promises.{Named}
use Rattle.table_names.proofs.StateNames.{sound_named, sound_find}
use Rattle.queues.specs.Promises.{SomeTables}
use Rattle.call_refusals.specs.Promises.{Finds}
use Rattle.answers.specs.declared.Refusal.{Refusal}
use Rattle.answers.specs.declared.Refusal.TheVariants as refusals
use Rattle.answers.specs.declared.Requested.{Requested}
use Rattle.answers.specs.declared.Converted.{Converted}
use Rattle.answers.specs.declared.Cancelled.{Cancelled}
use Rattle.answers.specs.declared.Purged.{Purged}
use Rattle.answers.specs.declared.Notice.{Notice}
use Rattle.answers.specs.Refusals.{refusal_number}
use Rattle.answers.specs.Answers.{answered, done, requested, converted, cancelled, purged, polled}
use Rattle.answers.specs.Promises.{Makes, MakesWords}
use Rattle.call_refusals.proofs.PassedUp.{above_zero, passed_up}

-- a call's rule: its refusal, its change, and what the change stands on
record Ruled (call : Call) (refusal : Tables → ℕ) (change : Tables → Step) (P : Tables → Type 0) : Type 0 where
  step_is : (t : Tables) → step_of call t ≡ refused_or (refusal t) (change t) t
  passes : (t : Tables) → Valid t → refusal t ≡ 0 → P t

request_ruled : (c m f : ℕ) (n : List ℕ) → Ruled (to_request c m f n) (request_refusal c m f n) (request_change c m n) (Requestable c m f n)
unfolding request
request_ruled c m f n = record { step_is = λ t. refl; passes = λ t val. request_passed t val c m f n }

convert_ruled : (c k m f : ℕ) (v : List ℕ) → Ruled (to_convert c k m f v) (convert_refusal c k m f v) (convert_change k m f v) (Convertible k m f v)
unfolding convert
convert_ruled c k m f v = record { step_is = λ t. refl; passes = λ t val. convert_passed t val c k m f v }

release_ruled : (c k f : ℕ) (v : List ℕ) → Ruled (to_release c k f v) (release_refusal c k f v) (release_change k f v) (Releasable k f v)
unfolding release
release_ruled c k f v = record { step_is = λ t. refl; passes = λ t val. release_passed t val c k f v }

cancel_ruled : (c k : ℕ) → Ruled (to_cancel c k) (cancel_refusal c k) (cancel_change k) (Cancellable k)
unfolding cancel
cancel_ruled c k = record { step_is = λ t. refl; passes = λ t val. cancel_passed t val c k }

purge_ruled : (c : ℕ) → Ruled (to_purge c) (λ t. purge_refusal c) (purge_change c) (Purgeable c)
unfolding purge
purge_ruled c = record { step_is = λ t. refl; passes = λ t val. purge_passed t val c }

poll_ruled : (c : ℕ) → Ruled (to_poll c) (λ t. poll_refusal c) (poll_change c) Valid
unfolding poll
poll_ruled c = record { step_is = λ t. refl; passes = λ t val h. val }

break_ruled : Ruled to_break (λ t. 0) break Valid
unfolding refused_or
break_ruled = record { step_is = λ t. refl; passes = λ t val h. val }

refused_step : (n : ℕ) (s : Step) (t : Tables) → (n ≡ 0 → ⊥) → outcome (refused n) (lent_of t) ≡ written (refused_or n s t)
unfolding refused_or
refused_step zero s t z = absurd (z refl)
refused_step (suc n) s t z = refl

-- a call passes up a refusal that came
up_said : {A : Type 0} (numbers : A → Said) (x : Result A Refusal) (e : Refusal) → IsErrAnd x (λ d. d ≡ e) → answered numbers x ≡ refused (refusal_number e)
up_said numbers x e up = ap (answered numbers) (passed_up x e up)

-- a survey that finds nothing is passed up as the refusal 1
pub unsound_is : {A : Type 0} (o : Option A) (e : Refusal) → Err e ≡ ok_or o refusals.Unsound → e ≡ refusals.Unsound
unsound_is None e h = cc
unsound_is (Some x) e h = absurd (cc)

module _ (ws ss : List ℕ) (b : Bool) (checked : b ≡ sound ws ss) where
  pub entry_unsound : (call : Call) → b ≡ false → Keeps call (lent ws ss) (refused 1) (lent ws ss)
  unfolding call_entry entry if_sound
  entry_unsound call q = rw (← checked, q)

  pub entry_unsurveyed : (call : Call) → b ≡ false → {A : Type 0} (numbers : A → Said) (x : Result A Refusal) (e : Refusal) → IsErrAnd x (λ d. d ≡ e) → e ≡ refusals.Unsound
      → Keeps call (lent ws ss) (answered numbers x) (lent ws ss)
  entry_unsurveyed call q numbers x e up is = ap (λ (y : Said). outcome y (lent ws ss)) (up_said numbers x e up ∙ ap (λ (d : Refusal). refused (refusal_number d)) is) ∙ entry_unsound call q

  module _ (ok : b ≡ true) where
    good_words : sound ws ss ≡ true
    good_words = sym checked ∙ ok

    abbrev t : Tables
    t = read ws ss

    w : Writes ws ss t
    w = sound_written ws ss good_words

    pub entry_core : chains.Some Core ws
    entry_core = record { state = t; good = w.valid.core; is = w.is }

    pub entry_valid : chains.Some Valid ws
    entry_valid = record { state = t; good = w.valid; is = w.is }

    pub entry_named : Named ws ss
    entry_named = sound_named ws ss good_words

    entry_is : (call : Call) → written (step_of call t) ≡ call_entry call (lent ws ss)
    entry_is call = sym (outcome_is call t w.valid) ∙ ap₂ (λ (v z : List ℕ). call_entry call (lent v z)) (sym w.is) (sym w.slots_are)

    -- the code's number is the refusal of the state in the tables
    module _ {call : Call} {refusal : Tables → ℕ} {change : Tables → Step} {P : Tables → Type 0} (rule : Ruled call refusal change P) where
      refused_by : {A : Type 0} (numbers : A → Said) (x : Result A Refusal) (e : Refusal) → IsErrAnd x (λ d. d ≡ e) → refusal_number e ≡ refusal t
          → Keeps call (lent ws ss) (answered numbers x) (lent ws ss)
      refused_by numbers x e up e_is =
          ap (λ (y : Said). outcome y (lent ws ss)) (up_said numbers x e up)
          ∙ ap₂ (λ (v z : List ℕ). outcome (refused (refusal_number e)) (lent v z)) w.is w.slots_are
          ∙ refused_step (refusal_number e) (change t) t (above_zero e)
          ∙ ap (λ (z : Step). written z) (ap (λ (i : ℕ). refused_or i (change t) t) e_is ∙ sym (rule.step_is t))
          ∙ entry_is call

      module _ (goes : 0 ≡ refusal t) where
        good : P t
        good = rule.passes t w.valid (sym goes)

        lent_for : SomeTables P ws ss
        lent_for = record { state = t; good = good; is = w.is; slots_are = w.slots_are }

        some_for : chains.Some P ws
        some_for = record { state = t; good = good; is = w.is }

        change_is : written (change t) ≡ call_entry call (lent ws ss)
        unfolding refused_or
        change_is = ap (λ (i : ℕ). written (refused_or i (change t) t)) goes ∙ ap (λ (z : Step). written z) (sym (rule.step_is t)) ∙ entry_is call

        made_by : (ds es : List ℕ) (x : Said) → Makes P change ws ss ds es x → Keeps call (lent ws ss) x (lent ds es)
        made_by ds es x m = m.then t good w.is w.slots_are ∙ change_is

        words_made_by : (ds : List ℕ) (x : Said) → MakesWords P change ws ds x → Keeps call (lent ws ss) x (lent ds ss)
        words_made_by ds x m = ap (λ (z : List ℕ). outcome x (lent ds z)) w.slots_are ∙ m.then t good w.is ∙ change_is

    told_by : {g : Tables → ℕ} (n : ℕ) → Tells Core g ws n → n ≡ g t
    told_by n en = en.then t w.valid.core w.is

    -- REQUEST
    module _ (name : List ℕ) (r : Option ℕ) (er : r ≡ numbered (find_in ws ss name)) where
      finds : Finds name r t
      finds = record { core = w.valid.core; is_found = er ∙ ap numbered (sound_find name ws ss good_words) }

      pub request_finds : chains.Some (Finds name r) ws
      request_finds = record { state = t; good = finds; is = w.is }

      module _ (c m f : ℕ) where
        pub request_refused : (x : Result Requested Refusal) (e : Refusal) → IsErrAnd x (λ d. d ≡ e) → Tells (Finds name r) (request_refusal c m f name) ws (refusal_number e)
            → Keeps (to_request c m f name) (lent ws ss) (requested x) (lent ws ss)
        request_refused x e up ee = refused_by (request_ruled c m f name) _ x e up (ee.then t finds w.is)

        module _ (goes : Tells (Finds name r) (request_refusal c m f name) ws 0) where
          pub request_lent : SomeTables (Requestable c m f name) ws ss
          request_lent = lent_for (request_ruled c m f name) (goes.then t finds w.is)

          pub request_made : (ds es : List ℕ) (x : Said) → Makes (Requestable c m f name) (request_change c m name) ws ss ds es x
              → Keeps (to_request c m f name) (lent ws ss) x (lent ds es)
          request_made = made_by (request_ruled c m f name) (goes.then t finds w.is)

    -- RELEASE
    module _ (c k f : ℕ) (v : List ℕ) where
      pub release_refused : (x : Result Unit Refusal) (e : Refusal) → IsErrAnd x (λ d. d ≡ e) → Tells Core (release_refusal c k f v) ws (refusal_number e)
          → Keeps (to_release c k f v) (lent ws ss) (done x) (lent ws ss)
      release_refused x e up ee = refused_by (release_ruled c k f v) _ x e up (told_by _ ee)

      module _ (goes : Tells Core (release_refusal c k f v) ws 0) where
        pub release_lent : SomeTables (Releasable k f v) ws ss
        release_lent = lent_for (release_ruled c k f v) (told_by 0 goes)

        pub release_made : (ds es : List ℕ) (x : Said) → Makes (Releasable k f v) (release_change k f v) ws ss ds es x
            → Keeps (to_release c k f v) (lent ws ss) x (lent ds es)
        release_made = made_by (release_ruled c k f v) (told_by 0 goes)

    -- CONVERT
    module _ (c k m f : ℕ) (v : List ℕ) where
      pub convert_refused : (x : Result Converted Refusal) (e : Refusal) → IsErrAnd x (λ d. d ≡ e) → Tells Core (convert_refusal c k m f v) ws (refusal_number e)
          → Keeps (to_convert c k m f v) (lent ws ss) (converted x) (lent ws ss)
      convert_refused x e up ee = refused_by (convert_ruled c k m f v) _ x e up (told_by _ ee)

      module _ (goes : Tells Core (convert_refusal c k m f v) ws 0) where
        pub convert_lent : SomeTables (Convertible k m f v) ws ss
        convert_lent = lent_for (convert_ruled c k m f v) (told_by 0 goes)

        pub convert_made : (ds es : List ℕ) (x : Said) → Makes (Convertible k m f v) (convert_change k m f v) ws ss ds es x
            → Keeps (to_convert c k m f v) (lent ws ss) x (lent ds es)
        convert_made = made_by (convert_ruled c k m f v) (told_by 0 goes)

    -- CANCEL
    module _ (c k : ℕ) where
      pub cancel_refused : (x : Result Cancelled Refusal) (e : Refusal) → IsErrAnd x (λ d. d ≡ e) → Tells Core (cancel_refusal c k) ws (refusal_number e)
          → Keeps (to_cancel c k) (lent ws ss) (cancelled x) (lent ws ss)
      cancel_refused x e up ee = refused_by (cancel_ruled c k) _ x e up (told_by _ ee)

      module _ (goes : Tells Core (cancel_refusal c k) ws 0) where
        pub cancel_some : chains.Some (Cancellable k) ws
        cancel_some = some_for (cancel_ruled c k) (told_by 0 goes)

        pub cancel_made : (ds : List ℕ) (x : Said) → MakesWords (Cancellable k) (cancel_change k) ws ds x → Keeps (to_cancel c k) (lent ws ss) x (lent ds ss)
        cancel_made = words_made_by (cancel_ruled c k) (told_by 0 goes)

    -- PURGE
    module _ (c : ℕ) where
      pub purge_refused : (x : Result Purged Refusal) (e : Refusal) → IsErrAnd x (λ d. d ≡ e) → refusal_number e ≡ purge_refusal c
          → Keeps (to_purge c) (lent ws ss) (purged x) (lent ws ss)
      purge_refused x e up ee = refused_by (purge_ruled c) _ x e up ee

      module _ (goes : 0 ≡ purge_refusal c) where
        pub purge_lent : SomeTables (Purgeable c) ws ss
        purge_lent = lent_for (purge_ruled c) goes

        pub purge_made : (ds es : List ℕ) (x : Said) → Makes (Purgeable c) (purge_change c) ws ss ds es x → Keeps (to_purge c) (lent ws ss) x (lent ds es)
        purge_made = made_by (purge_ruled c) goes

    -- BREAK
    pub break_made : (ds : List ℕ) (x : Said) → MakesWords Valid break ws ds x → Keeps to_break (lent ws ss) x (lent ds ss)
    break_made = words_made_by break_ruled refl

    -- POLL: its refusal is that of a purge
    module _ (c : ℕ) where
      poll_number : (n : ℕ) → n ≡ purge_refusal c → n ≡ poll_refusal c
      unfolding purge_refusal poll_refusal
      poll_number n h = h

      pub poll_refused : (x : Result (Option Notice) Refusal) (e : Refusal) → IsErrAnd x (λ d. d ≡ e) → refusal_number e ≡ purge_refusal c
          → Keeps (to_poll c) (lent ws ss) (polled x) (lent ws ss)
      poll_refused x e up ee = refused_by (poll_ruled c) _ x e up (poll_number (refusal_number e) ee)

      pub poll_made : 0 ≡ purge_refusal c → (ds : List ℕ) (x : Said) → MakesWords Valid (poll_change c) ws ds x → Keeps (to_poll c) (lent ws ss) x (lent ds ss)
      poll_made goes = words_made_by (poll_ruled c) (poll_number 0 goes)

pub ruleset entering = (
  rules,
  entry_unsound,
  entry_core,
  entry_valid,
  entry_named,
  request_finds,
  request_refused,
  request_lent,
  request_made,
  release_refused,
  release_lent,
  release_made,
  convert_refused,
  convert_lent,
  convert_made,
  cancel_refused,
  cancel_some,
  cancel_made,
  purge_refused,
  purge_lent,
  purge_made,
  break_made,
  poll_refused,
  poll_made,
)
