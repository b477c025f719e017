use mathlib.Core.Path.{◌≡◌, sym, ◌∙◌}
use Rattle.std.specs.Prelude.{Ok, ok_or}
use Rattle.answers.specs.declared.Refusal.TheVariants as refusals
use Rattle.entry_holder.proofs.HolderReturns.{answer_whole}
use Rattle.entry_holder.proofs.held.Goals as goal

pub invariant_of-image-clause-has_all_words : goal.invariant_of-image-clause-has_all_words
invariant_of-image-clause-has_all_words c =
    let is : ok_or c.sound_words.result refusals.Unsound ≡ Ok c.in_ok-n.n = sym c.ok_or.ensures.value ∙ c.in_ok-n.was in
    answer_whole _ c.args.name.now _ c.sound_words.ensures _ is
