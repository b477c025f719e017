use Rattle.entry_holder.proofs.ExclusiveLock.{holder_nobody, ex_holding}
use Rattle.entry_holder.proofs.Image.ex_holder.Goals as goal

pub returns-in_err-r : goal.returns-in_err-r
returns-in_err-r c = search ex_holding

pub ex_lock-requires : goal.ex_lock-requires
ex_lock-requires c = search (ex_holding, c.in_ok-r.ensures)

pub returns-in_err-k : goal.returns-in_err-k
returns-in_err-k c = holder_nobody _ _ _ c.args.self.now.sound _ c.in_ok-r.ensures _ c.ex_lock.ensures c.in_err-k.was _ c.from_residual-in_err-k.ensures

pub lock_word-requires : goal.lock_word-requires
lock_word-requires c = search (ex_holding, c.in_ok-r.ensures, c.in_ok-k.ensures)

pub returns : goal.returns
returns c = search (ex_holding, c.in_ok-r.ensures, c.in_ok-k.ensures)
