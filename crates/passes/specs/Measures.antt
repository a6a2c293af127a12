-- What measuring says of the tokens ts: whether a difference cannot be spelled, and whether there are more keys than form 2 may have.
use Rattle.std.specs.Prelude.{ℕ, List, []}
use Rattle.tokens.specs.Tokens.{Token}
use Rattle.tokens.specs.Keys.{many_keys}
use Rattle.tokens.specs.KeysInner.{spelled}
use Rattle.passes.specs.declared.Measured.{Measured}
use Rattle.passes.specs.Forms.{far_for}

unfoldable pub measured_for : ℕ → List Token → Measured
measured_for form ts = record { far = far_for form (spelled form [] ts); crowded = many_keys form ts }
