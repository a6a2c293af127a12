-- The numbers name the rules: 13 is rule 13, and any other number that is one is rule 28.
use mathlib.Core.Path.{◌≡◌, refl}
use Rattle.sorting.specs.Rule28Inner.{rule28}
use Rattle.sorting.specs.Rule13Inner.{rule13}
use Rattle.sorting.specs.Named.{asks_of, rule_of}

pub rule-28 : rule_of 28 ≡ rule28
unfolding asks_of
rule-28 = refl

pub rule-13 : rule_of 13 ≡ rule13
unfolding asks_of
rule-13 = refl
