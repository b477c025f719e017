-- Start accepts the sizes of lockplay's tables, which then are fresh.
use mathlib.Core.Path.{◌≡◌, ap, ◌∙◌}
use mathlib.Core.Bool.{true}
use mathlib.Core.List.{List}
use Prim.Native.Nat.{ℕ, ◌*◌}
use borrow.Author.Tests.{eq-eqb}
use borrow.Author.Rules.{rules}
use lib.ListN.{length}
use Rattle.tables.specs.Layout.{size, slot_width}
use Rattle.rules.specs.Entries.{lent, Outcome, outcome, start_accepts, start_if, start_entry}
use Rattle.std.specs.Prelude.{Result}
use Rattle.answers.specs.declared.Refusal.{Refusal}
use Rattle.answers.specs.Answers.{done}
use Rattle.play_session.specs.Sessions.{Lengths, fresh_tables, played_resources, played_locks}

pub started_fresh : (ws ss ds es : List ℕ) (r : Result Unit Refusal) → Lengths ws ss → outcome (done r) (lent ds es) ≡ start_entry (lent ws ss) played_resources played_locks → lent ds es ≡ fresh_tables
unfolding start_entry start_if start_accepts
started_fresh ws ss ds es r h e =
    let q : start_entry (lent ws ss) played_resources played_locks ≡ start_if true (lent ws ss) played_resources played_locks =
    rw (eq-eqb (length ws) (size played_resources played_locks) h.words_long, eq-eqb (length ss) (slot_width * played_resources) h.slots_long)
    in
    ap (λ (o : Outcome). o.lent_after) (e ∙ q)

pub ruleset start_rules = (rules, started_fresh)
