-- Places and counts stay below this, and none comes near it: an update has less than 2^24 bytes.
use Rattle.std.specs.Prelude.{ℕ}

abbrev pub brim : ℕ
brim = 4611686018427387904
