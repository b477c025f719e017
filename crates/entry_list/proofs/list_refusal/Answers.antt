use Rattle.entry_list.proofs.ListCore.{unsound_refused, sound_some, sound_looked}
use Rattle.entry_list.proofs.list_refusal.Goals as goal

pub returns-then-not-sound : goal.returns-then-not-sound
returns-then-not-sound c = unsound_refused _ _ _ _ _ c.sound.ensures c.if-not-sound.true

pub look_refusal-requires : goal.look_refusal-requires
look_refusal-requires c = sound_some _ _ _ c.sound.ensures c.if-not-sound.false

pub returns : goal.returns
returns c = sound_looked _ _ _ _ _ c.sound.ensures c.if-not-sound.false _ c.look_refusal.ensures
