-- `reader::is_keyless` meets its contract: by the form, by how many bytes there are, by the second of them.
use mathlib.Core.Path.{sym}
use Rattle.reader.proofs.Keyless.{keyless-line, keyless-by, keyless-short}
use Rattle.reader.proofs.is_keyless.Goals as goal

pub returns-then-form-eq1 : goal.returns-then-form-eq1
returns-then-form-eq1 c = sym (keyless-line _ _ c.if-form-eq1.true)

pub returns-then-update-lt2 : goal.returns-then-update-lt2
returns-then-update-lt2 c = sym (keyless-short _ _ c.if-form-eq1.false c.if-update-lt2.true)

pub returns : goal.returns
returns c = sym (keyless-by _ _ c.if-form-eq1.false)
