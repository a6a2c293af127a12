-- `deletes::next_client` meets its contract: the client within its limit, and its range count.
use native.Mathlib.Omega.{arith}
use Rattle.numbers.specs.Limits.{max_value}
use Rattle.deletes.proofs.Steps.{reads-any, reads-up-to, reads-low, drew, drew-not, head-no-client, head-no-count, head-on}
use Rattle.deletes.proofs.next_client.Goals as goal

pub returns-in_default : goal.returns-in_default
returns-in_default c = let a = c.args in let u = a.update.now in
    head-no-client a.form u a.p c.requires.0 c.requires.1 _ (drew-not _ _ _ (reads-up-to u _ _ max_value c.read_at-c.ensures) _ _ c.in_default.is c.why_read.ensures)

pub returns-in_default-k : goal.returns-in_default-k
returns-in_default-k c = let a = c.args in let u = a.update.now in
    head-no-count a.form u a.p c.requires.0 c.requires.1 _ _ (drew _ _ _ (reads-up-to u _ _ max_value c.read_at-c.ensures) _ _ c.in-Number.is)
    _ (drew-not _ _ _ (reads-any u _ _ c.read_unsigned-k.ensures) _ _ c.in_default-k.is c.why_read-in_default-k.ensures)

pub returns : goal.returns
returns c = let a = c.args in let u = a.update.now in
    head-on a.form u a.p c.requires.0 c.requires.1 _ _ (drew _ _ _ (reads-up-to u _ _ max_value c.read_at-c.ensures) _ _ c.in-Number.is)
    _ _ (drew _ _ _ (reads-any u _ _ c.read_unsigned-k.ensures) _ _ c.in-Number-k.is) (reads-low u _ _ max_value 0 _ _ c.read_at-c.ensures c.in-Number.is) (omega arith)
